-- What is left to apply makes of the machine's content what all passes make of it at first.
use Rattle.std.proofs.Common.{◌≡◌, map, drop}
use Rattle.app_table.specs.Machine.{content_after}
use Rattle.tw_types.specs.declared.outputs.Pass.{Pass}
use Rattle.tw_machine.specs.Applied.{payloads_in}
use Rattle.node_core.proofs.applying.apply_passes.Given as goal

abbrev pub invariant-loop-pass : goal.invariant-loop-pass
invariant-loop-pass g l =
    content_after g.A.Machine.after l.machine (payloads_in (map (λ (p : Pass). p.kept) (drop l.pass-index l.passes)))
    ≡ content_after g.A.Machine.after l.fn.machine (payloads_in (map (λ (p : Pass). p.kept) l.passes))
