use Rattle.std.proofs.Common.{arith}
use Rattle.schedule_text.specs.LineFields.{two_digits}
use Rattle.schedule_text.proofs.Chains.{written_item, puts_item}
use Rattle.schedule_text.proofs.line.put_digits.Goals as goal

pub returns-in_err-put_bytes : goal.returns-in_err-put_bytes
returns-in_err-put_bytes g c =
    let cut = rw (c.hex_digit.ensures, c.hex_digit-in-loop-byte.ensures) at c.in_err-put_bytes.ensures.cut in
    puts_item _ two_digits c.args.bytes.now c.loop-byte.byte-index 0 (omega arith) c.loop-byte.invariant c.from_residual.ensures.0 cut

pub loop-byte-preserved : goal.loop-byte-preserved
loop-byte-preserved g c =
    let written = rw (c.hex_digit.ensures, c.hex_digit-in-loop-byte.ensures) at c.in_ok-put_bytes.ensures.written in
    written_item two_digits c.args.bytes.now c.loop-byte.byte-index 0 (omega arith) c.loop-byte.invariant written
