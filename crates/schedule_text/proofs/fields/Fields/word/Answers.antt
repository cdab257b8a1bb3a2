-- The first byte that parts is where the first field ends.
use Rattle.std.proofs.Common.{ap, sym, ◌∙◌}
use Rattle.schedule_text.specs.Fields.{fields_of}
use Rattle.tw_machine.proofs.Lines.{first_word}
use Rattle.schedule_text.proofs.fields.Fields.word.Goals as goal

pub returns-in-Some-first-clause-taken : goal.returns-in-Some-first-clause-taken
returns-in-Some-first-clause-taken c =
    ap (fields_of c.args.self.now.between) c.in-Some.is ∙ first_word c.args.self.now.between c.in-Some.rest.now c.split_at.result.0.now c.split_at.result.1.now c.in-Some-first.end (sym c.in-Some-first.ensures.first) c.split_at.ensures.front c.split_at.ensures.back
