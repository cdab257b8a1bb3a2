-- The first one that is missing is among those to come.
use Rattle.std.proofs.Common.{◌≡◌, map, drop}
use Rattle.tw_types.specs.Refusals.{first_refusal}
use Rattle.tw_types.specs.Logs.{payload_test}
use Rattle.oal.proofs.list.first_missing.Given as goal

abbrev pub invariant-loop-entry : goal.invariant-loop-entry
invariant-loop-entry g l =
    first_refusal (map (payload_test (g.P.Payloads.payloads l.p)) (drop l.entry-index l.entries)) ≡ first_refusal (map (payload_test (g.P.Payloads.payloads l.p)) l.entries)
