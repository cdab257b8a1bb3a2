-- The text of a schedule: the one line of each team and of each step.
use Rattle.std.specs.Prelude.{ℕ, ◌<◌, ◌≤◌, ◌≡◌, ◌^◌, ◌/◌, ◌%◌, false, List, [], ◌∷◌, length, codes}
use Rattle.std.specs.List.{join_with_byte, flat_map, AllByRecursion}
use Rattle.std.specs.Fmt.{decimal, digit_glyph}
use Rattle.tw_machine.specs.Types.{Team, Order, Atom, Act, Step}
use Rattle.tw_types.specs.declared.message.Order.TheVariants.{Unordered, Total, Timed}
use Rattle.tw_types.specs.declared.message.Atom.TheVariants.{Weak, Strong, Strict}
use Rattle.tw_types.specs.declared.step.Act.TheVariants.{First, Again, Crash, Tick, Recv, Send, Reference, Look}

-- `team N LINE PPM EPS DELTA PACE DECIDE RING SLOT LEASE QUARANTINE THETA`
abbrev pub team_fields : Team → List (List ℕ)
team_fields team = codes "team" ∷ decimal team.n ∷ decimal team.line ∷ decimal team.ppm ∷ decimal team.eps ∷ decimal team.delta ∷ decimal team.pace
    ∷ decimal team.decide ∷ decimal team.ring ∷ decimal team.slot ∷ decimal team.lease ∷ decimal team.quarantine ∷ decimal team.theta ∷ []

abbrev pub order_word : Order → List ℕ
order_word Unordered = codes "unordered"
order_word Total = codes "total"
order_word Timed = codes "timed"

abbrev pub atom_word : Atom → List ℕ
atom_word Weak = codes "weak"
atom_word Strong = codes "strong"
atom_word Strict = codes "strict"

-- two lower-case digits a byte
abbrev pub hex_digits : List ℕ → List ℕ
hex_digits bytes = flat_map (λ x. digit_glyph false (x / 16) ∷ digit_glyph false (x % 16) ∷ []) bytes

-- the digits of some bytes, and `-` for no byte
abbrev pub hex_word : List ℕ → List ℕ
hex_word [] = codes "-"
hex_word (b ∷ bs) = hex_digits (b ∷ bs)

abbrev pub act_fields : Act → List (List ℕ)
act_fields First = codes "first" ∷ []
act_fields Again = codes "again" ∷ []
act_fields Crash = codes "crash" ∷ []
act_fields Tick = codes "tick" ∷ []
act_fields (Recv d) = codes "recv" ∷ decimal d ∷ []
act_fields (Send order atom payload) = codes "send" ∷ order_word order ∷ atom_word atom ∷ hex_word payload.items ∷ []
act_fields (Reference lo hi) = codes "ref" ∷ decimal lo ∷ decimal hi ∷ []
act_fields Look = codes "look" ∷ []

-- `T WHO H` and the act
abbrev pub step_fields : Step → List (List ℕ)
step_fields s = decimal s.t ∷ decimal s.who ∷ decimal s.h ∷ act_fields s.act

-- fields are parted by one space
abbrev pub team_line : Team → List ℕ
team_line team = join_with_byte 32 (team_fields team)

abbrev pub step_line : Step → List ℕ
step_line s = join_with_byte 32 (step_fields s)

-- the numbers that a team line can spell
pub record IsWritten (team : Team) : Type 0 where
  pub n : team.n < 2 ^ 8
  pub line : team.line < 2 ^ 32
  pub ppm : team.ppm < 2 ^ 60
  pub eps : team.eps < 2 ^ 60
  pub delta : team.delta < 2 ^ 60
  pub pace : team.pace < 2 ^ 60
  pub decide : team.decide < 2 ^ 60
  pub ring : team.ring < 2 ^ 60
  pub slot : team.slot < 2 ^ 60
  pub lease : team.lease < 2 ^ 60
  pub quarantine : team.quarantine < 2 ^ 60
  pub theta : team.theta < 2 ^ 60

-- the payloads that a line can spell
abbrev pub IsPayload : List ℕ → Type 0
IsPayload bytes = (length bytes ≤ 1024) × AllByRecursion (λ b. b < 256) bytes

-- the acts that a line can spell
abbrev pub IsAct : Act → Type 0
IsAct First = Unit {0}
IsAct Again = Unit {0}
IsAct Crash = Unit {0}
IsAct Tick = Unit {0}
IsAct (Recv d) = d < 2 ^ 32
IsAct (Send order atom payload) = IsPayload payload.items
IsAct (Reference lo hi) = (lo ≤ hi) × (hi < 2 ^ 60)
IsAct Look = Unit {0}

-- the most bytes that a line may have, its line feed not counted
abbrev pub line_limit : ℕ
line_limit = 9000

-- the line is that of this team
pub record IsTeamLine (line : List ℕ) (team : Team) : Type 0 where
  pub text : line ≡ team_line team
  pub written : IsWritten team
  pub fits : length line ≤ line_limit

-- the line is that of this step of one of n processes
pub record IsStepLine (n : ℕ) (line : List ℕ) (s : Step) : Type 0 where
  pub text : line ≡ step_line s
  pub t : s.t < 2 ^ 60
  pub who : s.who < n
  pub h : s.h < 2 ^ 60
  pub act : IsAct s.act
  pub fits : length line ≤ line_limit
