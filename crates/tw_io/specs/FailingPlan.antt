use Rattle.tw_io.specs.declared.failing.Failing.{Failing}
use Rattle.tw_io.specs.Failing.{Plan}

-- the plan by which calls fail
abbrev pub plan_of : Failing → Plan
plan_of f = record { calls = f.calls; failing = f.numbers.items }
