-- What a process delivers at a reading: the positions of its list that it passes, the updates of the list that it delivers before
-- their positions are passed, and the pending ones that it delivers before they have a position.
use Rattle.std.specs.Prelude.{ℕ, ◌+◌, ◌-◌, ◌/◌, ◌≤◌, ◌<◌, nat_le, nat_lt, Bool, true, false, not, ◌&&◌, ◌||◌, if◌then◌else◌, List, [], ◌∷◌, ◌≡◌, length, map, max, filter, filter_map, find, count_by, Option, Some, None}
use Rattle.std.specs.List.{list_all, range_with_len}
use Rattle.std.specs.Option.{option_map, option_map_or}
use Rattle.tw_types.specs.declared.team.Team.{Team}
use Rattle.tw_types.specs.declared.message.Atom.{Atom}
use Rattle.tw_types.specs.declared.message.Atom.TheVariants.{Weak, Strong, Strict}
use Rattle.tw_types.specs.declared.message.Kept.{Kept}
use Rattle.tw_types.specs.declared.message.Support.{Support}
use Rattle.tw_types.specs.declared.message.Seat.{Seat}
use Rattle.tw_types.specs.declared.message.Decision.{Decision}
use Rattle.tw_types.specs.declared.outputs.How.{How}
use Rattle.tw_types.specs.declared.outputs.How.TheVariants.{Now, Earlier, Late}
use Rattle.tw_types.specs.declared.outputs.Pass.{Pass}
use Rattle.tw_types.specs.Beliefs.{Log, log_length, last_of}
use Rattle.tw_types.specs.Decisions.{or_none, decision_length}
use Rattle.tw_types.specs.Updates.{WaitInOrder, is_unordered, may_be_early, marked}
use Rattle.tw_types.specs.Waiting.{Waiting}
use Rattle.tw_types.specs.Logs.{log_at, passed_one, marked_at}
use Rattle.tw_types.specs.Flag.{is_up}
use Rattle.tw_types.specs.Process.{Process}

-- ---- atomicities

-- who has this support has the list beyond the position
abbrev pub reaches : ℕ → Option Support → Bool
reaches i None = false
reaches i (Some support) = nat_lt i support.ack

-- A position fulfils an atomicity as far as a decision tells: weak where the decision's list has it; strong where a majority of the
-- team, and not of the seats alone, has it; strict where each seat has it.
abbrev pub fulfils : Team → Decision → (position : ℕ) → Atom → Bool
fulfils team d i Weak = nat_lt i (decision_length d)
fulfils team d i Strong = nat_le (team.n / 2 + 1) (count_by (λ (s : Seat). reaches i s.support) d.seats.items)
fulfils team d i Strict = list_all (λ (s : Seat). reaches i s.support) d.seats.items

-- ---- what is passed

-- the positions of a log from this one on
abbrev pub positions_from : ℕ → Log → List ℕ
positions_from first log = range_with_len first (log_length log - first)

-- an update that may pass at a position: a late one, or one whose atomicity is fulfilled there
abbrev pub passes_at : Team → Decision → ℕ → Kept → Bool
passes_at team d i k = k.entry.late || fulfils team d i k.entry.atom

abbrev pub may_pass : Team → Decision → Log → ℕ → Bool
may_pass team d log i = option_map_or (passes_at team d i) (log_at i log) false

-- each position from the cursor up to this one may pass
abbrev pub is_in_run : Team → Decision → Log → ℕ → Bool
is_in_run team d log i = list_all (may_pass team d log) (range_with_len log.passed (i + 1 - log.passed))

-- the run: the positions up to which all that aren't passed may pass, and so the longest run of such
abbrev pub run : Team → Decision → Log → List ℕ
run team d log = filter (is_in_run team d log) (positions_from log.passed log)

-- A late update is passed as late, an unordered one that was delivered early as such, and any other now. A mark on an ordered one
-- means nothing.
abbrev pub how_passed : Kept → How
how_passed k = if k.entry.late then Late else if is_unordered k.entry.order && k.early then Earlier else Now

abbrev pub pass_of : ℕ → Kept → Pass
pass_of i k = record { position = i; kept = k; how = how_passed k }

-- the passes: the updates of the run
unfoldable pub passes : Team → Decision → Log → List Pass
passes team d log = filter_map (λ (i : ℕ). option_map (pass_of i) (log_at i log)) (run team d log)

-- the log behind the run
unfoldable pub run_passed : Team → Decision → Log → Log
run_passed team d log = record log { passed = log.passed + length (run team d log) }

-- ---- what is delivered before its position is passed

-- an unordered update that wasn't delivered yet, and whose atomicity is fulfilled at its position
abbrev pub early_at : Team → Decision → ℕ → Kept → Bool
early_at team d i k = is_unordered k.entry.order && not k.early && fulfils team d i k.entry.atom

abbrev pub may_go_early : Team → Decision → Log → ℕ → Bool
may_go_early team d log i = option_map_or (early_at team d i) (log_at i log) false

-- the positions of these updates, from this one on
abbrev pub early_positions : Team → Decision → (first : ℕ) → Log → List ℕ
early_positions team d first log = filter (may_go_early team d log) (positions_from first log)

-- an update after its early delivery
abbrev pub as_early : Kept → Kept
as_early k = record k { early = true }

-- the early ones of the list: these updates, by position
unfoldable pub earlies : Team → Decision → (first : ℕ) → Log → List Kept
earlies team d first log = filter_map (λ (i : ℕ). option_map as_early (log_at i log)) (early_positions team d first log)

-- the log with a mark at each of these positions
abbrev pub marked_each : List ℕ → Log → Log
marked_each [] log = log
marked_each (i ∷ positions) log = marked_each positions (marked_at i log)

-- the log after their deliveries
unfoldable pub earlies_marked : Team → Decision → (first : ℕ) → Log → Log
earlies_marked team d first log = marked_each (early_positions team d first log) log

-- ---- what is delivered before it has a position

-- the weak unordered updates that wait and weren't delivered yet, in the order in which they wait
abbrev pub weaks : List Kept → List Kept
weaks pending = map as_early (filter may_be_early pending)

-- what waits after their deliveries
abbrev pub weaks_marked : List Kept → List Kept
weaks_marked pending = map (λ (k : Kept). if may_be_early k then as_early k else k) pending

-- ---- the three lists

pub record Deliveries : Type 0 where
  pub passes : List Pass
  pub earlies : List Kept
  pub weaks : List Kept

-- by a last decision: the run, the early ones behind it, and the pending ones
abbrev pub delivered_by : Team → Decision → Log → List Kept → Deliveries
delivered_by team d log pending = record {
  passes = passes team d log;
  earlies = earlies team d (run_passed team d log).passed (run_passed team d log);
  weaks = weaks pending;
}

-- what a process delivers, at a reading if there is one; nothing where it isn't up
abbrev pub deliveries : Team → (reading : Option ℕ) → Process → Deliveries
deliveries team reading p =
    if is_up team p.vote p.belief reading
    then delivered_by team (or_none (last_of p.belief)) p.log p.waiting.pending
    else record { passes = []; earlies = []; weaks = [] }

-- the log and what waits after the deliveries
abbrev pub log_delivered : Team → Decision → Log → Log
log_delivered team d log = earlies_marked team d (run_passed team d log).passed (run_passed team d log)

abbrev pub waiting_delivered : Waiting → Waiting
waiting_delivered w = record w { pending = weaks_marked w.pending }

-- ---- the run as a condition

-- so many positions from the cursor on, each of which may pass
pub record MayBePassed (team : Team) (d : Decision) (log : Log) (count : ℕ) : Type 0 where
  pub within : count ≤ log_length log - log.passed
  pub each : (i : ℕ) → log.passed ≤ i → i < log.passed + count → may_pass team d log i ≡ true

pub record IsLongestRun (team : Team) (d : Decision) (log : Log) (count : ℕ) : Type 0 where
  pub may : MayBePassed team d log count
  pub longest : (other : ℕ) → MayBePassed team d log other → other ≤ count

-- ---- one after the other

-- how the position at the cursor passes, if it may
abbrev pub next_pass : Team → Decision → Log → Option How
next_pass team d log = by (log_at log.passed log)
  where
    by : Option Kept → Option How
    by None = None
    by (Some k) = if passes_at team d log.passed k then Some (how_passed k) else None

-- The passes begin with the update at the cursor, and go on with those of the log of which one position more is passed.
pub record FirstPass (team : Team) (d : Decision) (log : Log) (how : How) : Type 0 where
  pub update : Kept
  pub there : log_at log.passed log ≡ Some update
  pub begins : passes team d log ≡ record { position = log.passed; kept = update; how = how } ∷ passes team d (passed_one log)
  pub goes_on : run_passed team d log ≡ run_passed team d (passed_one log)

-- what the next pass tells of all passes: it is the first of them, or there are none
abbrev pub PassStep : Team → Decision → Log → Option How → Type 0
PassStep team d log None = (passes team d log ≡ []) × (run_passed team d log ≡ log)
PassStep team d log (Some how) = FirstPass team d log how

-- the first position of an early delivery that isn't below this one
abbrev pub next_early : Team → Decision → Log → (from : ℕ) → Option ℕ
next_early team d log from = find (may_go_early team d log) (positions_from (max from log.passed) log)

-- the least such position that is neither below this one nor below the cursor
pub record IsLeastEarly (team : Team) (d : Decision) (log : Log) (from i : ℕ) : Type 0 where
  pub not_below : from ≤ i
  pub not_passed : log.passed ≤ i
  pub early : may_go_early team d log i ≡ true
  pub least : (other : ℕ) → from ≤ other → log.passed ≤ other → may_go_early team d log other ≡ true → i ≤ other

abbrev pub IsNextEarly : Team → Decision → Log → (from : ℕ) → Option ℕ → Type 0
IsNextEarly team d log from None = (i : ℕ) → from ≤ i → log.passed ≤ i → may_go_early team d log i ≡ false
IsNextEarly team d log from (Some i) = IsLeastEarly team d log from i

-- The early ones begin with the update at this position. When it is marked the others are left, and none of them stands before it.
pub record FirstEarly (team : Team) (d : Decision) (first : ℕ) (log : Log) (i : ℕ) : Type 0 where
  pub update : Kept
  pub there : log_at i log ≡ Some update
  pub from : first ≤ i
  pub begins : earlies team d first log ≡ as_early update ∷ earlies team d first (marked_at i log)
  pub goes_on : earlies_marked team d first log ≡ earlies_marked team d first (marked_at i log)
  pub behind : (other : ℕ) → first ≤ other → other ≤ i + 1 → earlies team d other (marked_at i log) ≡ earlies team d first (marked_at i log)
  pub goes_on_behind : (other : ℕ) → first ≤ other → other ≤ i + 1 → earlies_marked team d other (marked_at i log) ≡ earlies_marked team d first (marked_at i log)

-- what the next early position tells of all early ones: it is the first of them, or there are none
abbrev pub EarlyStep : Team → Decision → (first : ℕ) → Log → Option ℕ → Type 0
EarlyStep team d first log None = (earlies team d first log ≡ []) × (earlies_marked team d first log ≡ log)
EarlyStep team d first log (Some i) = FirstEarly team d first log i

-- The pending ones that are delivered begin with this update. When it is marked the others are left.
pub record FirstWeak (pending : List Kept) (k : Kept) : Type 0 where
  pub begins : weaks pending ≡ as_early k ∷ weaks (map (marked k.entry.id) pending)
  pub goes_on : weaks_marked pending ≡ weaks_marked (map (marked k.entry.id) pending)
  pub order : WaitInOrder (map (marked k.entry.id) pending)

-- what the next weak one tells of all
abbrev pub WeakStep : List Kept → Option Kept → Type 0
WeakStep pending None = (weaks pending ≡ []) × (weaks_marked pending ≡ pending)
WeakStep pending (Some k) = FirstWeak pending k
