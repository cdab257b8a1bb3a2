use Rattle.std.proofs.Common.{arith, ap, ◌∙◌, drop, Some}
use Rattle.tw_io.specs.LineReader.{held}
use Rattle.tw_io.proofs.Readers.{text_read_on}
use Rattle.tw_io.proofs.line_reader.LineReader.fill.Goals as goal

pub returns-clause-text : goal.returns-clause-text
returns-clause-text g c = λ bytes left. (
  drop c.in_ok-count.count bytes,
  c.in_ok-count.ensures.rest bytes left,
  text_read_on (held c.args.self.now) _ _ bytes c.in_ok-count.count c.keep.ensures.held (c.in_ok-count.ensures.given bytes left),
)

pub returns-clause-end : goal.returns-clause-end
returns-clause-end g c = λ none bytes left.
    c.in_ok-count.ensures.rest bytes left ∙ ap (λ n. Some (drop n bytes)) none ∙ ap Some (c.in_ok-count.ensures.end bytes left none (omega arith))
