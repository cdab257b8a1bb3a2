-- What the clocks of a schedule owe to team time, and what the bounds of a datagram's delay owe to its way.
use Rattle.std.specs.Prelude.{ℕ, ◌-◌, ◌≤◌, ◌≡◌, nat_le, true, List, [], ◌∷◌, Option, Some, Ok, IfSome}
use Rattle.std.specs.List.{list_all}
use Rattle.tw_types.specs.Numbered.{numbered}
use Rattle.tw_machine.specs.Types.{Team, Step}
use Rattle.tw_num.specs.declared.interval.Interval.{Interval}
use Rattle.tw_num.specs.declared.moment.Moment.{Moment}
use Rattle.tw_num.specs.Interval.{Holds}
use Rattle.tw_num.specs.Clock.{interval_at}
use Rattle.tw_num.specs.Rate.{Rate}
use Rattle.tw_types.specs.declared.step.Act.TheVariants.{Recv}
use Rattle.tw_types.specs.Process.{Process}
use Rattle.tw_types.specs.Row.{Row}
use Rattle.tw_machine.specs.Admissible.{each_own, keeps_drift}
use Rattle.tw_machine.specs.Event.{Packet}
use Rattle.tw_machine.specs.Control.{rate_of}
use Rattle.tw_machine.specs.Step.{moment_of}
use Rattle.tw_machine.specs.Dispatches.{Dispatch}
use Rattle.tw_machine.specs.World.{world}
use Rattle.tw_machine.specs.ClockLaw.{ReadsNear}

-- Process who may read h at team time t once these steps are done: none of them is later, and its clock keeps the drift from
-- each of its own.
pub record MayRead (ppm who : ℕ) (past : List Step) (t h : ℕ) : Type 0 where
  pub time : list_all (λ (e : Step). nat_le e.t t) past ≡ true
  pub drift : each_own (λ e. keeps_drift ppm e.t e.h t h) who past ≡ true

-- what the clock of a process has for an interval at its reading h holds team time t
abbrev pub ClockHolds : (ppm t h : ℕ) → Process → Type 0
ClockHolds ppm t h p = IfSome (interval_at ppm h p.timing.clock) (λ i. Holds i t)

-- the interval that a datagram was sent with, where it has one, held team time when it was sent
abbrev pub SentWell : Dispatch → Type 0
SentWell d = IfSome d.datagram.head.interval (λ i. Holds i d.at)

-- A bound of the time that a datagram was on its way, which is received at this step, is not too low.
abbrev pub Covers : Step → Dispatch → ℕ → Type 0
Covers s d bound = s.t - d.at ≤ bound

-- what the clock of a process that receives the datagram tells it at this step
abbrev pub moment_in : Team → Step → Dispatch → Process → Moment
moment_in team s d p = moment_of team s.h (Packet (Ok d.datagram)) p

-- the interval that the process has then
abbrev pub own_interval : Team → Step → Dispatch → Process → Option Interval
own_interval team s d p = (moment_in team s d p).interval

-- the rate of the datagram
abbrev pub rate_at : Team → Step → Dispatch → Process → Rate
rate_at team s d p = rate_of team (moment_in team s d p) d.datagram.head

-- there are as many rows as steps, and each row reads near the team time of the step in its place
abbrev pub EachReadsNear : ℕ → List Step → List Row → Type 0
EachReadsNear eps [] [] = Unit {0}
EachReadsNear eps (s ∷ ss) (r ∷ rs) = ReadsNear eps s r × EachReadsNear eps ss rs
EachReadsNear eps [] (r ∷ rs) = ⊥
EachReadsNear eps (s ∷ ss) [] = ⊥

-- the step receives this datagram, which was sent before it
pub record IsReceipt (team : Team) (past : List Step) (s : Step) (d : Dispatch) : Type 0 where
  pub number : ℕ
  pub received : s.act ≡ Recv number
  pub sent : numbered number (world team past).sent ≡ Some d
