-- What processes report with their promises, while only informed ones promise.
use Rattle.std.specs.Prelude.{◌≡◌, ◌<◌, true, false, List, [], ◌∷◌, Some, None}
use Rattle.std.specs.List.{AllByRecursion}
use Rattle.tw_types.specs.declared.message.Decision.{Decision}
use Rattle.tw_types.specs.Beliefs.{is_informed, view_decision, no_log}
use Rattle.tw_types.specs.Decisions.{has_seat}
use Rattle.tw_types.specs.Process.{Process}
use Rattle.tw_types.specs.Reports.{is_by_informed}
use Rattle.tw_machine.specs.History.{Promised}
use Rattle.safety_laws.specs.Effects.{Written}
use Rattle.safety_laws.specs.Laws.{Law}

-- but for support and reading, two promises report the same
pub record ReportsTheSame (a b : Promised) : Type 0 where
  pub kind : b.promise.report.kind ≡ a.promise.report.kind
  pub group : b.promise.report.group ≡ a.promise.report.group
  pub turn : b.promise.report.turn ≡ a.promise.report.turn
  pub length : b.promise.report.length ≡ a.promise.report.length

-- A later promise of a member, which isn't in the group of an earlier one yet, reports what that did.
abbrev pub ReportsAgain : (later earlier : Promised) → Type 0
ReportsAgain later earlier = earlier.promise.report.member ≡ later.promise.report.member → later.promise.report.group < earlier.promise.number → ReportsTheSame earlier later

abbrev pub StandStill : List Promised → Type 0
StandStill [] = Unit {0}
StandStill (x ∷ older) = AllByRecursion (ReportsAgain x) older × StandStill older

-- an informed promise's process has a seat in the decision that it tells
abbrev pub IsSeated : Promised → Type 0
IsSeated x = (d : Decision) → x.promise.decision ≡ Some d → has_seat x.promise.report.member d ≡ true

-- Promises are of informed processes alone, so far; and one that lost its memory has no list and follows nothing.
abbrev pub IsInformedPromise : Promised → Type 0
IsInformedPromise x = is_by_informed x.promise.report ≡ true

abbrev pub HasNothing : Process → Type 0
HasNothing p = is_informed p.belief ≡ false → (p.log ≡ no_log) × (view_decision p.belief ≡ None)

pub record AreReports (w : Written) : Type 0 where
  pub still : StandStill w.promises
  pub seated : AllByRecursion IsSeated w.promises
  pub informed : AllByRecursion IsInformedPromise w.promises

-- below its promise a process reports the same
abbrev pub reported : Law
reported = record { History = λ steps w. AreReports w; Running = λ steps w who p. HasNothing p }
