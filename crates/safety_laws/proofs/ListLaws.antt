-- The laws on lists, of every schedule.
use Rattle.std.proofs.Common.{List}
use Rattle.tw_machine.specs.Types.{Team, Step}
use Rattle.tw_types.specs.Team.{IsSound}
use Rattle.tw_machine.specs.World.{Admissible}
use Rattle.safety_laws.specs.Beginnings.{beginnings}
use Rattle.safety_laws.specs.Groups.{of_groups}
use Rattle.safety_laws.specs.Laws.{Law, Both}
use Rattle.safety_laws.specs.Lists.{lists}
use Rattle.safety_laws.specs.Reported.{reported}
use Rattle.safety_laws.proofs.Beginnings.{beginnings_rules}
use Rattle.safety_laws.proofs.Begun.{before_beginnings}
use Rattle.safety_laws.proofs.Reported.{reported_rules}
use Rattle.safety_laws.proofs.SendLaws.{with_ids, ids_too}
use Rattle.safety_laws.proofs.Stack.{LawRules, Kept as Holding, IsPartOf, stack, rests_on, law_holds}
use Rattle.safety_laws.proofs.Whole.{lists_rules}

-- ---- the laws, one on the other

abbrev with_reported : Team → Law
with_reported team = Both (with_ids team) reported

abbrev pub with_beginnings : Team → Law
with_beginnings team = Both (before_beginnings team) beginnings

groups_part : (team : Team) → IsPartOf (of_groups team) (with_ids team)
groups_part team = record { history = λ steps w k. k.0.0; running = λ steps w who p k. k.0.0 }

reports_part : (team : Team) → IsPartOf (Both (of_groups team) reported) (with_reported team)
reports_part team = record { history = λ steps w k. (k.0.0.0, k.1); running = λ steps w who p k. (k.0.0.0, k.1) }

reported_too : (team : Team) → LawRules team (with_reported team)
reported_too team = stack team (with_ids team) reported (ids_too team) (rests_on team (of_groups team) (with_ids team) reported (groups_part team) (reported_rules team))

lists_too : (team : Team) → LawRules team (before_beginnings team)
lists_too team = stack team (with_reported team) lists (reported_too team) (rests_on team (Both (of_groups team) reported) (with_reported team) lists (reports_part team) (lists_rules team))

pub beginnings_too : (team : Team) → LawRules team (with_beginnings team)
beginnings_too team = stack team (before_beginnings team) beginnings (lists_too team) (beginnings_rules team)

-- in every schedule
pub listed_well : (team : Team) (past : List Step) → IsSound team → Admissible team past → Holding team (with_beginnings team) past
listed_well team past sound ok = law_holds team (with_beginnings team) (beginnings_too team) past sound ok
