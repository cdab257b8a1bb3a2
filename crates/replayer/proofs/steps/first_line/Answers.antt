use Rattle.std.proofs.Common.{arith, ◌++◌}
use Rattle.tw_io.specs.LineReader.{held, line_given}
use Rattle.replayer.proofs.Replays.{is_longer, not_longer, is_taken, line_taken, longer_line, no_whole_line, not_a_team, too_long, bad_team}
use Rattle.replayer.proofs.steps.first_line.Goals as goal

pub returns-in-Err-clause-end : goal.returns-in-Err-clause-end
returns-in-Err-clause-end g c = λ bytes before left.
    let e = c.in-Err.ensures.err bytes left in
    no_whole_line (held c.args.reader.now ++ bytes) before (held c.next.new.self) e.0 _ e.1 e.2 c.in-Err.ensures.open_line

pub returns-then-eq-clause-end : goal.returns-then-eq-clause-end
returns-then-eq-clause-end g c = λ bytes before left.
    let n = (rw c.in-Ok-Some.field-0-is at c.in-Ok-Some.ensures.next) bytes left in
    let long = longer_line _ (held c.args.reader.now ++ bytes) _ _ c.in-Ok-Some.found (is_longer c.in-Ok-Some.found c.if-eq.ensures) n.2 in
    too_long (held c.args.reader.now ++ bytes) before _ long.0 long.1 long.2 (omega (arith, long.3, c.requires))

pub returns-in_default-clause-end : goal.returns-in_default-clause-end
returns-in_default-clause-end g c = λ bytes before left.
    let n = (rw c.in-Ok-Some.field-0-is at c.in-Ok-Some.ensures.next) bytes left in
    let front = line_taken _ _ _ _ _ (is_taken _ (held c.args.reader.now ++ bytes) (line_given c.next.new.self) (held c.next.new.self) _ n.0 c.in-Ok-Some.found (not_longer c.in-Ok-Some.found c.if-eq.ensures) n.1 n.2) in
    not_a_team (held c.args.reader.now ++ bytes) before (line_given c.next.new.self) _ front.0 front.1 (rw c.line.ensures at c.in_default.ensures.refused)

pub returns-in-Err-check-clause-end : goal.returns-in-Err-check-clause-end
returns-in-Err-check-clause-end g c = λ bytes before left.
    let n = (rw c.in-Ok-Some.field-0-is at c.in-Ok-Some.ensures.next) bytes left in
    let front = line_taken _ _ _ _ _ (is_taken _ (held c.args.reader.now ++ bytes) (line_given c.next.new.self) (held c.next.new.self) _ n.0 c.in-Ok-Some.found (not_longer c.in-Ok-Some.found c.if-eq.ensures) n.1 n.2) in
    bad_team (held c.args.reader.now ++ bytes) before (line_given c.next.new.self) _ front.0 c.in-Ok.team c.in-Err-check.fault front.1 (rw c.line.ensures at c.in-Ok.ensures.read) c.in-Err-check.ensures.first
