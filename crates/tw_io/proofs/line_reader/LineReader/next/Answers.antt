use Rattle.std.proofs.Common.{arith, rules, subst, sym, ap, ◌∙◌}
use Rattle.tw_io.specs.Lines.{lines_of, IsOneLine}
use Rattle.tw_io.specs.LineReader.{held, line_given}
use Rattle.tw_io.proofs.Lines.{no_line_feed}
use Rattle.tw_io.proofs.Readers.{too_long, length_of_held}
use Rattle.tw_io.proofs.line_reader.LineReader.next.Goals as goal

pub returns-then-self-clause-next : goal.returns-then-self-clause-next
returns-then-self-clause-next g c = λ bytes left.
    let reader = c.loop-end.self in
    let text = c.loop-end.invariant.text bytes left in
    let long = too_long c.args.self.now.limit (held reader) (line_given reader) (sym c.in_default.ensures.exact) (omega (arith, length_of_held reader, c.if-self.true, c.loop-end.invariant.limit)) text.0 in
    (text.0, text.1, (text.2, long.1, long.2, ap lines_of text.2 ∙ long.3, long.4))

pub returns-in_err-fill-clause-open_line : goal.returns-in_err-fill-clause-open_line
returns-in_err-fill-clause-open_line g c =
    let one : IsOneLine (held c.fill.new.self) = subst IsOneLine (sym c.in_err-fill.ensures.err) (no_line_feed (held c.loop-end.self) (sym c.in_default.ensures.exact)) in
    search rules
