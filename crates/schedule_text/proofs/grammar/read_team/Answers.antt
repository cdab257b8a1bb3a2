-- Twelve numbers stand behind the line's first word, and nothing behind them.
use Rattle.std.proofs.Common.{arith, rules, ◌≡◌, ap, get_or}
use Rattle.std.specs.Prelude.{codes}
use Rattle.schedule_text.proofs.Taken.{on_err}
use Rattle.schedule_text.proofs.Read.{team_none, team_taken, team_read}
use Rattle.schedule_text.proofs.grammar.read_team.Goals as goal
use Rattle.schedule_text.proofs.grammar.read_team.Goals.{then-n-from-via-then-n-from, then-n-from-via-else-n-from+then-line-from}

pub returns-in_err-n-clause-refused : goal.returns-in_err-n-clause-refused
returns-in_err-n-clause-refused c = on_err c.from_residual-in_err-n.result c.from_residual-in_err-n.ensures.0 (team_none c.args.line.now _ _ _ c.of-fields.ensures c.in_ok-word.ensures.taken c.in_err-n.ensures.refused)

pub returns-in_err-end-clause-refused : goal.returns-in_err-end-clause-refused
returns-in_err-end-clause-refused c = on_err c.from_residual-in_err-end.result c.from_residual-in_err-end.ensures.0 (λ team h.
    let same = team_taken c.args.line.now _ _ _ _ c.in_ok-n.field-0 c.of-fields.ensures c.in_ok-word.ensures.taken (omega arith) c.in_ok-n.ensures.taken.0 c.in_ok-n.ensures.taken.1 team h in
    c.in_err-end.ensures.some same.1)

pub returns-then-n-from-clause-refused : goal.returns-then-n-from-clause-refused
returns-then-n-from-clause-refused c = λ team h.
    let same = team_taken c.args.line.now _ _ _ _ c.in_ok-n.field-0 c.of-fields.ensures c.in_ok-word.ensures.taken (omega arith) c.in_ok-n.ensures.taken.0 c.in_ok-n.ensures.taken.1 team h in
    let n : get_or c.in_ok-n.field-0 0 0 ≡ team.n = ap (λ xs. get_or xs 0 0) same.0 in
    let line : get_or c.in_ok-n.field-0 1 0 ≡ team.line = ap (λ xs. get_or xs 1 0) same.0 in
    elim c.then-n-from.branch [ then-n-from-via-then-n-from w ↦ omega arith | then-n-from-via-else-n-from+then-line-from w ↦ omega arith ]

pub returns-clause-read : goal.returns-clause-read
returns-clause-read c =
    let team : c.in_ok-word.field-0.now ≡ codes "team" = c.is_word.ensures.0 (search rules) in
    team_read c.args.line.now _ _ _ _ c.in_ok-n.field-0 c.of-fields.ensures c.in_ok-word.ensures.taken team (omega arith) c.in_ok-n.ensures.taken.0 c.in_ok-n.ensures.taken.1 c.in_ok-end.ensures.none (omega arith) (omega arith) c.if-line-gt-LINE_LIMIT.false
