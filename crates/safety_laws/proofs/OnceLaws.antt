-- The laws on early deliveries, of every schedule: each mark has its line, a lost mark is lost for good, and each update is delivered once.
use Rattle.std.proofs.Common.{List}
use Rattle.tw_machine.specs.Types.{Step, Team}
use Rattle.tw_types.specs.Team.{IsSound}
use Rattle.tw_machine.specs.History.{history}
use Rattle.tw_machine.specs.World.{Admissible}
use Rattle.safety_laws.specs.Early.{marks, once, DeliveredOnce}
use Rattle.safety_laws.specs.Laws.{Law, Both}
use Rattle.safety_laws.proofs.DeliveredOnce.{before_once, once_rules}
use Rattle.safety_laws.proofs.DeliveryLaws.{with_delivered}
use Rattle.safety_laws.proofs.Lost.{with_lost, lost_too}
use Rattle.safety_laws.proofs.Marks.{marks_rules}
use Rattle.safety_laws.proofs.Stack.{LawRules, Kept as Holding, IsPartOf, stack, rests_on, law_holds}

-- ---- the laws, one on the other

abbrev with_once : Team → Law
with_once team = Both (before_once team) once

delivered_part : (team : Team) → IsPartOf (with_delivered team) (with_lost team)
delivered_part team = record { history = λ steps w k. k.0.0.0.0; running = λ steps w who p k. k.0.0.0.0 }

before_once_too : (team : Team) → LawRules team (before_once team)
before_once_too team = stack team (with_lost team) marks (lost_too team) (rests_on team (with_delivered team) (with_lost team) marks (delivered_part team) (marks_rules team))

once_too : (team : Team) → LawRules team (with_once team)
once_too team = stack team (before_once team) once (before_once_too team) (once_rules team)

-- in every schedule
pub once_well : (team : Team) (past : List Step) → IsSound team → Admissible team past → Holding team (with_once team) past
once_well team past sound ok = law_holds team (with_once team) (once_too team) past sound ok

pub delivered_once : (team : Team) (past : List Step) → IsSound team → Admissible team past → DeliveredOnce (history team past).lines
delivered_once team past sound ok = (once_well team past sound ok).history.1
