-- What still has bytes has at least one field.
use Rattle.std.proofs.Common.{ap, length, arith, ◌==◌, sym, ◌∙◌}
use Rattle.std.proofs.lemmas.List.Splits.{length-slice_split}
use Rattle.schedule_text.specs.Fields.{fields_of}
use Rattle.schedule_text.proofs.fields.Fields.end.Goals as goal

pub returns-in-Some-clause-some : goal.returns-in-Some-clause-some
returns-in-Some-clause-some c = λ e. let h = ap length (sym (ap (fields_of c.args.self.now.between) c.in-Some.is) ∙ e) in omega (arith, length-slice_split (λ b. b == c.args.self.now.between) c.in-Some.field-0.now)
