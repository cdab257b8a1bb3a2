use Rattle.std.proofs.Common.{arith, ◌++◌}
use Rattle.tw_io.specs.LineReader.{held, line_given}
use Rattle.replayer.proofs.Replays.{not_longer, is_taken, line_taken, lost_taken}
use Rattle.replayer.proofs.steps.next_step.Goals as goal

pub returns-in-Err-clause-next : goal.returns-in-Err-clause-next
returns-in-Err-clause-next g c = λ past bytes stands left. let e = c.in-Err.ensures.err bytes left in (e.0, e.1, e.2, c.in-Err.ensures.open_line)

pub returns-in-Err-Cause-clause-next : goal.returns-in-Err-Cause-clause-next
returns-in-Err-Cause-clause-next g c = λ past bytes stands left.
    let n = (rw c.in-Ok-Some.field-0-is at c.in-Ok-Some.ensures.next) bytes left in
    let front = line_taken _ _ _ _ _ (is_taken _ (held c.args.rooms.now.reader ++ bytes) (line_given c.next.new.self) (held c.next.new.self) _ n.0 c.in-Ok-Some.found (not_longer c.in-Ok-Some.found c.if-eq.ensures) n.1 n.2) in
    let bad = (rw (c.in-Err-Cause.field-0-is, c.line.ensures) at c.in-Err-Cause.ensures.refused) past stands in
    rw c.in-Err-Cause.field-0-is (line_given c.next.new.self, front.0, front.1, omega (arith, c.requires.few, stands.steps), bad, omega (arith, c.from-number.ensures, c.requires.count, stands.steps))

pub returns-in-Err-WantOfMemory-clause-next : goal.returns-in-Err-WantOfMemory-clause-next
returns-in-Err-WantOfMemory-clause-next g c = λ past bytes stands left.
    let n = (rw c.in-Ok-Some.field-0-is at c.in-Ok-Some.ensures.next) bytes left in
    lost_taken _ _ _ _ _ (is_taken _ (held c.args.rooms.now.reader ++ bytes) (line_given c.next.new.self) (held c.next.new.self) _ n.0 c.in-Ok-Some.found (not_longer c.in-Ok-Some.found c.if-eq.ensures) n.1 n.2)
