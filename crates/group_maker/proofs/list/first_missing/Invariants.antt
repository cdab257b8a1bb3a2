-- The first one that is missing is among those to come.
use Rattle.std.proofs.Common.{◌≡◌, drop}
use Rattle.group_maker.proofs.Missing.{missing}
use Rattle.group_maker.proofs.list.first_missing.Given as goal

abbrev pub invariant-loop-entry : goal.invariant-loop-entry
invariant-loop-entry g l = missing (g.P.Payloads.payloads l.p) (drop l.entry-index l.entries) ≡ missing (g.P.Payloads.payloads l.p) l.entries
