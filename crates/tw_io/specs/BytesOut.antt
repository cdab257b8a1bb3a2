use Rattle.std.specs.Prelude.{ℕ, ◌-◌, List, length, take}
use Rattle.tw_io.specs.declared.bytes_out.BytesOut.{BytesOut}
use Rattle.tw_io.specs.Failing.{Plan}
use Rattle.tw_io.specs.FailingPlan.{plan_of}

-- the bytes taken so far
abbrev pub bytes_taken : BytesOut → List ℕ
bytes_taken sink = take sink.len sink.room.items

-- for how many more bytes there is room
abbrev pub room_left : BytesOut → ℕ
room_left sink = length sink.room.items - sink.len

-- which writes fail
abbrev pub plan : BytesOut → Plan
plan sink = plan_of sink.failing

-- how often one failed
abbrev pub fault_count : BytesOut → ℕ
fault_count sink = sink.failing.faults
