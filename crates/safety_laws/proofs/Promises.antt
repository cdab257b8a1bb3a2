-- The laws on promises, of every schedule.
use Rattle.std.proofs.Common.{List}
use Rattle.tw_machine.specs.Types.{Team, Step}
use Rattle.tw_types.specs.Team.{IsSound}
use Rattle.tw_machine.specs.World.{Admissible}
use Rattle.safety_laws.specs.Ascend.{ascend}
use Rattle.safety_laws.specs.Held.{held}
use Rattle.safety_laws.specs.Latest.{latest}
use Rattle.safety_laws.specs.Laws.{Law, Both}
use Rattle.safety_laws.specs.Mail.{mail}
use Rattle.safety_laws.specs.Names.{names}
use Rattle.safety_laws.specs.NotAhead.{not_ahead}
use Rattle.safety_laws.specs.Outlived.{outlived}
use Rattle.safety_laws.specs.Windows.{windows}
use Rattle.safety_laws.proofs.Ascend.{before_ascent, ascend_rules}
use Rattle.safety_laws.proofs.Held.{held_rules}
use Rattle.safety_laws.proofs.Latest.{latest_rules}
use Rattle.safety_laws.proofs.Mail.{mail_rules}
use Rattle.safety_laws.proofs.Names.{names_rules}
use Rattle.safety_laws.proofs.NotAhead.{not_ahead_rules}
use Rattle.safety_laws.proofs.Outlived.{outlived_rules}
use Rattle.safety_laws.proofs.Stack.{LawRules, Kept, stack, law_holds, over_any}
use Rattle.safety_laws.proofs.Windows.{windows_rules}
use Rattle.safety_laws.specs.Promises.{of_promises}
use Rattle.safety_laws.proofs.Stack.{IsSameLaw, rests_on, renamed}

abbrev with_windows : Team → Law
with_windows team = Both (Both names (not_ahead team)) (windows team)

abbrev with_ascent : Team → Law
with_ascent team = Both (before_ascent team) ascend

abbrev with_mail : Team → Law
with_mail team = Both (with_ascent team) mail

abbrev with_outlived : Team → Law
with_outlived team = Both (with_mail team) (outlived team)

abbrev with_all : Team → Law
with_all team = Both (with_outlived team) held

readings_rules : (team : Team) → LawRules team (Both names (not_ahead team))
readings_rules team = stack team names (not_ahead team) (names_rules team) (not_ahead_rules team)

windows_too : (team : Team) → LawRules team (with_windows team)
windows_too team = stack team (Both names (not_ahead team)) (windows team) (readings_rules team) (windows_rules team (Both names (not_ahead team)))

latest_too : (team : Team) → LawRules team (before_ascent team)
latest_too team = stack team (with_windows team) latest (windows_too team)
    (rests_on team names (with_windows team) latest (record { history = λ steps w k. k.0.0; running = λ steps w who p k. k.0.0 }) (latest_rules team))

ascent_too : (team : Team) → LawRules team (with_ascent team)
ascent_too team = stack team (before_ascent team) ascend (latest_too team) (ascend_rules team)

mail_too : (team : Team) → LawRules team (with_mail team)
mail_too team = stack team (with_ascent team) mail (ascent_too team)
    (rests_on team names (with_ascent team) mail (record { history = λ steps w k. k.0.0.0.0; running = λ steps w who p k. k.0.0.0.0 }) (mail_rules team))

outlived_too : (team : Team) → LawRules team (with_outlived team)
outlived_too team = stack team (with_mail team) (outlived team) (mail_too team)
    (rests_on team (Both names (not_ahead team)) (with_mail team) (outlived team) (record { history = λ steps w k. k.0.0.0.0; running = λ steps w who p k. k.0.0.0.0 }) (outlived_rules team))

all_too : (team : Team) → LawRules team (with_all team)
all_too team = stack team (with_outlived team) held (outlived_too team)
    (over_any team (with_outlived team) held (held_rules team))

same_law : (team : Team) → IsSameLaw (with_all team) (of_promises team)
same_law team = record {
  history = λ steps w k. record { names = k.0.0.0.0.0.0.0; near = k.0.0.0.0.0.0.1; windows = k.0.0.0.0.0.1; ascend = k.0.0.0.1; mail = k.0.0.1; outlived = k.0.1 };
  history_back = λ steps w k. (((((((k.names, k.near), k.windows), tt), k.ascend), k.mail), k.outlived), tt);
  running = λ steps w who p k. record { own = k.0.0.0.0.0.0.0; behind = k.0.0.0.0.0.0.1; latest = k.0.0.0.0.1; held = k.1 };
  running_back = λ steps w who p k. (((((((k.own, k.behind), tt), k.latest), tt), tt), tt), k.held);
}

pub promises_rules : (team : Team) → LawRules team (of_promises team)
promises_rules team = renamed team (with_all team) (of_promises team) (same_law team) (all_too team)

-- in every schedule
pub promised_well : (team : Team) (past : List Step) → IsSound team → Admissible team past → Kept team (of_promises team) past
promised_well team past sound ok = law_holds team (of_promises team) (promises_rules team) past sound ok
