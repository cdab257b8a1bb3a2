use Rattle.schedule_text.specs.declared.line.Field.TheVariants.{Plus}
use Rattle.schedule_text.proofs.Chains.{puts_more, puts_stop, puts_next}
use Rattle.schedule_text.proofs.LineParts.{line_parts}
use Rattle.schedule_text.proofs.line.put_line.Goals as goal

pub returns-in_err-put_field : goal.returns-in_err-put_field
returns-in_err-put_field g c = rw (line_parts c.args.front.now c.args.back.now Plus c.requires) (puts_stop _ _ c.from_residual.ensures.0 c.in_err-put_field.ensures.cut)

pub returns-in_err-put_fields : goal.returns-in_err-put_fields
returns-in_err-put_fields g c = rw (line_parts c.args.front.now c.args.back.now Plus c.requires)
    (puts_next _ _ c.in_ok-put_field.ensures.written c.from_residual-in_err-put_fields.ensures.0 c.in_err-put_fields.ensures.cut)

pub returns-in_err-put_fields-2 : goal.returns-in_err-put_fields-2
returns-in_err-put_fields-2 g c = rw (line_parts c.args.front.now c.args.back.now Plus c.requires)
    (puts_more c.in_ok-put_field.ensures.written
    (puts_next _ _ c.in_ok-put_fields.ensures.written c.from_residual-in_err-put_fields-2.ensures.0 c.in_err-put_fields-2.ensures.cut))

pub returns : goal.returns
returns g c = rw (line_parts c.args.front.now c.args.back.now Plus c.requires)
    (puts_more c.in_ok-put_field.ensures.written (puts_more c.in_ok-put_fields.ensures.written (puts_more c.in_ok-put_fields-2.ensures.written c.put_bytes.ensures)))
