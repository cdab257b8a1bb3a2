-- Counts of the forms over the system.
use Rattle.std.specs.Prelude.{ℕ}
use Rattle.tw_io.specs.declared.standard.StandardInput.{StandardInput}
use Rattle.tw_io.specs.declared.standard.StandardOutput.{StandardOutput}

-- how often a read failed
abbrev pub input_faults : {R : Type 0} → StandardInput R → ℕ
input_faults source = source.faults

-- how often a write failed, or took nothing of a nonempty piece
abbrev pub output_faults : {W : Type 0} → StandardOutput W → ℕ
output_faults sink = sink.faults
