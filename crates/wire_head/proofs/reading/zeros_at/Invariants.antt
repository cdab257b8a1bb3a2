use Rattle.std.proofs.Common.{◌≡◌, ◌+◌, ◌-◌, ◌*◌}
use Rattle.wire_head.specs.Reading.{zeros_at}
use Rattle.wire_head.proofs.reading.zeros_at.Given as goal

-- what is left to read decides
abbrev pub invariant-loop-i : goal.invariant-loop-i
invariant-loop-i l = zeros_at (l.count - l.i) l.bytes (l.place + 8 * l.i) ≡ zeros_at l.count l.bytes l.place
