-- Who delivered took a decision before.
use Rattle.std.specs.Prelude.{◌≡◌, ◌≤◌}
use Rattle.std.specs.List.{AllByRecursion}
use Rattle.tw_types.specs.Beliefs.{last_of}
use Rattle.tw_types.specs.Decisions.{or_none}
use Rattle.tw_types.specs.Process.{Process}
use Rattle.tw_machine.specs.History.{Line}
use Rattle.tw_machine.specs.Standing.{member_of}
use Rattle.safety_laws.specs.Laws.{Law}

-- a line is of a process that has a last decision, of a group
abbrev pub HasLastIfOwn : Process → Line → Type 0
HasLastIfOwn p x = x.member ≡ member_of p.identity → 1 ≤ (or_none (last_of p.belief)).group

-- a process with a line of its incarnation has a last decision
abbrev pub lines_have_last : Law
lines_have_last = record { History = λ steps w. Unit {0}; Running = λ steps w who p. AllByRecursion (HasLastIfOwn p) w.lines }
