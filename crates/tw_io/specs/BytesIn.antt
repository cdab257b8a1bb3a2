use Rattle.std.specs.Prelude.{ℕ, List}
use Rattle.tw_io.specs.declared.bytes_in.BytesIn.{BytesIn}
use Rattle.tw_io.specs.Failing.{Plan}
use Rattle.tw_io.specs.FailingPlan.{plan_of}
use Rattle.tw_io.specs.Unread.{unread}

-- the bytes left
abbrev pub bytes_left : BytesIn → List ℕ
bytes_left source = unread source.unread

-- which reads fail
abbrev pub plan : BytesIn → Plan
plan source = plan_of source.failing

-- how often one failed
abbrev pub fault_count : BytesIn → ℕ
fault_count source = source.failing.faults
