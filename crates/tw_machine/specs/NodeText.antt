-- The text that a node reads before it runs: its team, where each process is reached, and whose clock is team time.
use Rattle.std.specs.Prelude.{ℕ, suc, ◌+◌, ◌<◌, ◌≤◌, ◌^◌, ◌≡◌, ◌≢◌, ◌⊎◌, List, [], ◌∷◌, ◌++◌, map, length, Option, Some, None, codes}
use Rattle.std.specs.List.{join_with_byte, AllByRecursion}
use Rattle.std.specs.Fmt.{decimal}
use Rattle.tw_machine.specs.Types.{Team, TeamFault}
use Rattle.tw_types.specs.Team.{fault_of}
use Rattle.tw_machine.specs.Grammar.{IsTeamLine}

-- an IPv4 address, as four numbers, and a port
pub record Address : Type 0 where
  pub ip : List ℕ
  pub port : ℕ

-- the addresses that a line can spell
pub record IsAddress (at : Address) : Type 0 where
  pub four : length at.ip ≡ 4
  pub bytes : AllByRecursion (λ b. b < 256) at.ip
  pub least : 0 < at.port
  pub most : at.port < 2 ^ 16

-- `A.B.C.D`
abbrev pub ip_text : List ℕ → List ℕ
ip_text ip = join_with_byte 46 (map decimal ip)

-- `peer WHO A.B.C.D PORT`
abbrev pub peer_line : ℕ → Address → List ℕ
peer_line who at = join_with_byte 32 (codes "peer" ∷ decimal who ∷ ip_text at.ip ∷ decimal at.port ∷ [])

-- `clock WHO`, or `clock none`
abbrev pub clock_word : Option ℕ → List ℕ
clock_word None = codes "none"
clock_word (Some who) = decimal who

abbrev pub clock_line : Option ℕ → List ℕ
clock_line who = join_with_byte 32 (codes "clock" ∷ clock_word who ∷ [])

-- what a node's text says: its team, where each process is reached, by its number, and whose clock is team time, if anybody's is
pub record NodeText : Type 0 where
  pub team : Team
  pub peers : List Address
  pub clock : Option ℕ

-- the lines of the processes from number i on
abbrev pub peer_lines : ℕ → List Address → List (List ℕ)
peer_lines i [] = []
peer_lines i (at ∷ rest) = peer_line i at ∷ peer_lines (suc i) rest

-- no two processes are reached at one address
abbrev pub AreApart : List Address → Type 0
AreApart [] = Unit {0}
AreApart (at ∷ rest) = AllByRecursion (λ b. at ≢ b) rest × AreApart rest

-- The lines are those of a sound team of which `who` is a process, of its first processes' addresses, and then the rest.
pub record BeginsText (who : ℕ) (lines : List (List ℕ)) (team : Team) (peers : List Address) (rest : List (List ℕ)) : Type 0 where
  pub first : List ℕ
  pub cut : lines ≡ first ∷ peer_lines 0 peers ++ rest
  pub team_line : IsTeamLine first team
  pub own : who < team.n
  pub sound : fault_of team ≡ None
  pub each : AllByRecursion IsAddress peers
  pub apart : AreApart peers
  pub within : length peers ≤ team.n

-- a line tells the address of the process behind these, none of which is reached there
abbrev pub IsPeerLine : List Address → List ℕ → Type 0
IsPeerLine peers line = (at : Address) × (line ≡ peer_line (length peers) at) × IsAddress at × AllByRecursion (λ b. b ≢ at) peers

-- a line tells whose clock of n processes is team time, or that nobody's is
abbrev pub NamesOne : ℕ → Option ℕ → Type 0
NamesOne n None = Unit {0}
NamesOne n (Some who) = who < n

abbrev pub IsClockLine : ℕ → List ℕ → Type 0
IsClockLine n line = (clock : Option ℕ) × (line ≡ clock_line clock) × NamesOne n clock

-- the first of these lines has this, so there is one
abbrev pub FirstHas : (List ℕ → Type 0) → List (List ℕ) → Type 0
FirstHas P [] = ⊥
FirstHas P (line ∷ rest) = P line

-- What a text is to a node that is to run process `who`: a node's text; one whose team has a fault; or one with a first line that isn't
-- there or isn't of its form, or that stands behind the last one.
pub data TextVerdict : Type 0 where
  Whole : (text : NodeText) → TextVerdict
  Faulty : (fault : TeamFault) → TextVerdict
  BadLine : (number : ℕ) → TextVerdict

-- no team's line stands first, or it is that of a team without this process
abbrev pub IsNoTeam : ℕ → List (List ℕ) → Type 0
IsNoTeam who lines = (team : Team) → FirstHas (λ line. IsTeamLine line team × (who < team.n)) lines → ⊥

-- Behind the lines of these processes the next line isn't that of the next process, or behind the last one it isn't that of the clock, or
-- a line stands behind the clock's.
abbrev pub EndsBehind : Team → List Address → List (List ℕ) → ℕ → Type 0
EndsBehind team peers rest number =
    ((length peers < team.n) × (FirstHas (IsPeerLine peers) rest → ⊥) × (number ≡ length peers + 2))
    ⊎ ((length peers ≡ team.n) × (FirstHas (IsClockLine team.n) rest → ⊥) × (number ≡ team.n + 2))
    ⊎ ((length peers ≡ team.n) × (clock : List ℕ) × (more : List ℕ) × (others : List (List ℕ)) × (rest ≡ clock ∷ more ∷ others) × IsClockLine team.n clock × (number ≡ team.n + 3))

-- the line of this number is the first that isn't as it must be, behind the team's line and those of some processes
abbrev pub EndsAt : ℕ → List (List ℕ) → ℕ → Type 0
EndsAt who lines number = (team : Team) × (peers : List Address) × (rest : List (List ℕ)) × BeginsText who lines team peers rest × EndsBehind team peers rest number

abbrev pub IsTextVerdict : ℕ → List (List ℕ) → TextVerdict → Type 0
IsTextVerdict who lines (Whole text) = BeginsText who lines text.team text.peers (clock_line text.clock ∷ []) × (length text.peers ≡ text.team.n) × NamesOne text.team.n text.clock
IsTextVerdict who lines (Faulty fault) = (team : Team) × FirstHas (λ line. IsTeamLine line team × (who < team.n) × (fault_of team ≡ Some fault)) lines
IsTextVerdict who lines (BadLine number) = (IsNoTeam who lines × (number ≡ 1)) ⊎ EndsAt who lines number
