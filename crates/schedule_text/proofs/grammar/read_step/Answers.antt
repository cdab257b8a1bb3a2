-- Three numbers begin the line of a step, and its act ends it.
use Rattle.std.proofs.Common.{arith, ◌≡◌, ap, get_or}
use Rattle.schedule_text.proofs.Taken.{on_err}
use Rattle.schedule_text.proofs.Read.{step_none, step_taken, step_read}
use Rattle.schedule_text.proofs.grammar.read_step.Goals as goal

pub returns-in_err-t-clause-refused : goal.returns-in_err-t-clause-refused
returns-in_err-t-clause-refused c = on_err c.from_residual.result c.from_residual.ensures.0 (step_none c.args.team.now.n c.args.line.now _ (omega arith) c.of-fields.ensures c.in_err-t.ensures.refused)

pub returns-then-processes-who-clause-refused : goal.returns-then-processes-who-clause-refused
returns-then-processes-who-clause-refused c = λ s h.
    let same = step_taken _ c.args.line.now _ _ c.in_ok-t.field-0 (omega arith) c.of-fields.ensures (omega arith) c.in_ok-t.ensures.taken.0 c.in_ok-t.ensures.taken.1 s h in
    let who : get_or c.in_ok-t.field-0 1 0 ≡ s.who = ap (λ xs. get_or xs 1 0) same.0 in
    omega (arith, c.from-processes.ensures, c.if-processes-who.true, h.who)

pub returns-in_err-act-clause-refused : goal.returns-in_err-act-clause-refused
returns-in_err-act-clause-refused c = on_err c.from_residual-in_err-act.result c.from_residual-in_err-act.ensures.0 (λ s h. let same = step_taken c.args.team.now.n c.args.line.now _ _ c.in_ok-t.field-0 (omega arith) c.of-fields.ensures (omega arith) c.in_ok-t.ensures.taken.0 c.in_ok-t.ensures.taken.1 s h in
    c.in_err-act.ensures.refused s.act h.act same.1)

pub overflow_cast-result : goal.overflow_cast-result
overflow_cast-result c = omega (arith, c.from-processes.ensures, c.if-processes-who.false)

pub returns-clause-read : goal.returns-clause-read
returns-clause-read c = step_read _ _ _ _ c.in_ok-t.field-0 c.in_ok-act.act c.of-fields.ensures (omega arith) c.in_ok-t.ensures.taken.0 c.in_ok-t.ensures.taken.1 (omega (arith, c.from-processes.ensures, c.if-processes-who.false)) c.in_ok-act.ensures.read.0 c.in_ok-act.ensures.read.1 (omega arith)
