-- The entries so far have joined.
use Rattle.std.proofs.Common.{◌≡◌, take, filter_map}
use Rattle.tw_types.specs.Logs.{entry_joined}
use Rattle.oal.specs.Recent.{grown}
use Rattle.oal.proofs.list.Oal.extend.Given as goal

abbrev pub invariant-loop-entry : goal.invariant-loop-entry
invariant-loop-entry g l = l.self ≡ grown (filter_map (entry_joined (g.P.Payloads.payloads l.p)) (take l.entry-index l.entry-items)) l.fn.self
