-- The law on what was delivered, of every schedule.
use Rattle.std.proofs.Common.{List}
use Rattle.tw_machine.specs.Types.{Team, Step}
use Rattle.tw_types.specs.Team.{IsSound}
use Rattle.tw_machine.specs.World.{Admissible}
use Rattle.safety_laws.specs.Delivered.{delivered}
use Rattle.safety_laws.specs.Laws.{Law, Both}
use Rattle.safety_laws.proofs.ListLaws.{with_beginnings, beginnings_too}
use Rattle.safety_laws.proofs.Passed.{delivered_rules}
use Rattle.safety_laws.proofs.Stack.{LawRules, Kept as Holding, stack, law_holds}

-- the laws on lists, and on what is delivered of them
abbrev pub with_delivered : Team → Law
with_delivered team = Both (with_beginnings team) (delivered team)

pub delivered_too : (team : Team) → LawRules team (with_delivered team)
delivered_too team = stack team (with_beginnings team) (delivered team) (beginnings_too team) (delivered_rules team)

-- in every schedule
pub delivered_well : (team : Team) (past : List Step) → IsSound team → Admissible team past → Holding team (with_delivered team) past
delivered_well team past sound ok = law_holds team (with_delivered team) (delivered_too team) past sound ok
