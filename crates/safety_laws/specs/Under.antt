-- What a process comes to have decided in a step is of the group that it had promised last before the step.
use Rattle.std.specs.Prelude.{◌≡◌, ◌≢◌, List, Option, Some, None}
use Rattle.tw_machine.specs.Types.{Team, Decision, Step}
use Rattle.tw_types.specs.Process.{Process}
use Rattle.tw_machine.specs.Standing.{last_decision}
use Rattle.tw_machine.specs.World.{deed_in, world}

-- Of a process before a step, after which it has this last decision: where it had another one, or none, it had promised this
-- one's group last. One that didn't run comes to no decision at all.
abbrev pub HadPromised : Option Process → Decision → Type 0
HadPromised None d = ⊥
HadPromised (Some p) d = last_decision p ≢ Some d → d.group ≡ p.vote.promised

-- whatever runs of the step's process after the step, with whatever last decision
abbrev pub IsUnder : Team → List Step → Step → Type 0
IsUnder team past s = (q : Process) (d : Decision) → (deed_in team (world team past) s).process ≡ Some q → last_decision q ≡ Some d → HadPromised ((world team past).process_of s.who) d
