-- The laws on groups, of every schedule.
use Rattle.std.proofs.Common.{List}
use Rattle.tw_machine.specs.Types.{Team, Step}
use Rattle.tw_types.specs.Team.{IsSound}
use Rattle.tw_machine.specs.History.{history}
use Rattle.tw_machine.specs.World.{Admissible}
use Rattle.safety_laws.specs.Effects.{written}
use Rattle.safety_laws.specs.Groups.{of_groups}
use Rattle.safety_laws.specs.Laws.{Law, Both}
use Rattle.safety_laws.specs.Made.{made}
use Rattle.safety_laws.specs.Memory.{memory}
use Rattle.safety_laws.specs.Once.{once}
use Rattle.safety_laws.specs.Precede.{precede}
use Rattle.safety_laws.specs.Promises.{of_promises}
use Rattle.safety_laws.specs.Still.{still}
use Rattle.safety_laws.specs.Ups.{ups}
use Rattle.safety_laws.proofs.MadeRules.{made_rules}
use Rattle.safety_laws.proofs.Memory.{memory_rules}
use Rattle.safety_laws.proofs.Once.{before_once, once_rules}
use Rattle.safety_laws.proofs.Precede.{before_precede, precede_rules}
use Rattle.safety_laws.proofs.Promises.{promises_rules}
use Rattle.safety_laws.proofs.Quorums.{Agree, own_names}
use Rattle.safety_laws.proofs.Stack.{IsSameLaw, LawRules, Kept, stack, law_holds, rests_on, renamed}
use Rattle.safety_laws.proofs.Still.{still_rules}
use Rattle.safety_laws.proofs.Supports.{all_supported}
use Rattle.safety_laws.proofs.Ups.{ups_rules}

abbrev with_memory : Team → Law
with_memory team = Both (of_promises team) memory

abbrev with_precede : Team → Law
with_precede team = Both (before_precede team) (precede team)

abbrev with_still : Team → Law
with_still team = Both (with_precede team) still

abbrev with_all : Team → Law
with_all team = Both (with_still team) (ups team)

memory_too : (team : Team) → LawRules team (with_memory team)
memory_too team = stack team (of_promises team) memory (promises_rules team) (memory_rules team)

made_too : (team : Team) → LawRules team (before_once team)
made_too team = stack team (with_memory team) (made team) (memory_too team)
    (rests_on team (of_promises team) (with_memory team) (made team) (record { history = λ steps w k. k.0; running = λ steps w who p k. k.0 }) (made_rules team))

once_too : (team : Team) → LawRules team (before_precede team)
once_too team = stack team (before_once team) once (made_too team) (once_rules team)

precede_too : (team : Team) → LawRules team (with_precede team)
precede_too team = stack team (before_precede team) (precede team) (once_too team) (precede_rules team)

still_too : (team : Team) → LawRules team (with_still team)
still_too team = stack team (with_precede team) still (precede_too team)
    (rests_on team (of_promises team) (with_precede team) still (record { history = λ steps w k. k.0.0.0.0; running = λ steps w who p k. k.0.0.0.0 }) (still_rules team))

all_too : (team : Team) → LawRules team (with_all team)
all_too team = stack team (with_still team) (ups team) (still_too team)
    (rests_on team (made team) (with_still team) (ups team) (record { history = λ steps w k. k.0.0.0.1; running = λ steps w who p k. k.0.0.0.1 }) (ups_rules team))

same_law : (team : Team) → IsSameLaw (with_all team) (of_groups team)
same_law team = record {
  history = λ steps w k. record { promises = k.0.0.0.0.0.0; makes = k.0.0.0.0.1; once = k.0.0.0.1; precede = k.0.0.1; ups = k.1 };
  history_back = λ steps w k. ((((((k.promises, tt), k.makes), k.once), k.precede), tt), k.ups);
  running = λ steps w who p k. record { promiser = k.0.0.0.0.0.0; memory = k.0.0.0.0.0.1; maker = k.0.0.0.0.1; above = k.0.0.0.1.0; unmade = k.0.0.0.1.1; still = k.0.1 };
  running_back = λ steps w who p k. ((((((k.promiser, k.memory), k.maker), (k.above, k.unmade)), tt), k.still), tt);
}

pub groups_rules : (team : Team) → LawRules team (of_groups team)
groups_rules team = renamed team (with_all team) (of_groups team) (same_law team) (all_too team)

-- in every schedule
pub grouped_well : (team : Team) (past : List Step) → IsSound team → Admissible team past → Kept team (of_groups team) past
grouped_well team past sound ok = law_holds team (of_groups team) (groups_rules team) past sound ok

-- what the laws on quorums and leases rest on
pub agreed : (team : Team) (past : List Step) → IsSound team → Admissible team past → Agree team (history team past).promises (history team past).makes
agreed team past sound ok =
    let k = (grouped_well team past sound ok).history in
    let names = own_names past (written team past) k.promises.names in
    record { arise = k.makes.arise; supported = all_supported team (history team past).promises (history team past).makes k.makes.arise names; precede = k.precede; named = names }
