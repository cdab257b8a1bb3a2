-- Below its promise a record says the same.
use Rattle.std.specs.Prelude.{◌≡◌, ◌<◌}
use Rattle.std.specs.List.{AllByRecursion}
use Rattle.tw_types.specs.Beliefs.{view_decision, log_length}
use Rattle.tw_types.specs.Decisions.{or_none}
use Rattle.tw_types.specs.Reports.{kind_of}
use Rattle.tw_types.specs.Process.{Process}
use Rattle.tw_machine.specs.History.{Promised}
use Rattle.tw_machine.specs.Standing.{member_of}
use Rattle.safety_laws.specs.Effects.{Written}
use Rattle.safety_laws.specs.Laws.{Law}

-- but for its support and its reading, what the process reports now is what it reported with this promise
pub record SaysTheSame (p : Process) (x : Promised) : Type 0 where
  pub kind : kind_of p.belief ≡ x.promise.report.kind
  pub group : (or_none (view_decision p.belief)).group ≡ x.promise.report.group
  pub turn : (or_none (view_decision p.belief)).turn ≡ x.promise.report.turn
  pub length : log_length p.log ≡ x.promise.report.length

-- of each promise of this member above the group of the decision that it took or follows
abbrev pub StandsStill : Written → Process → Type 0
StandsStill w p = AllByRecursion (λ (x : Promised). x.promise.report.member ≡ member_of p.identity → (or_none (view_decision p.belief)).group < x.promise.number → SaysTheSame p x) w.promises

-- below its promise a record says the same
abbrev pub still : Law
still = record { History = λ steps w. Unit {0}; Running = λ steps w who p. StandsStill w p }
