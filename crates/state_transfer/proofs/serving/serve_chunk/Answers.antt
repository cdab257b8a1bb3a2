use Rattle.std.proofs.Common.{◌-◌, ◌+◌, ℕ, min, length, take, drop, refl, ap, ◌∙◌}
use Rattle.state_transfer.proofs.Places.{cut_is}
use Rattle.state_transfer.proofs.serving.serve_chunk.Goals as goal

pub returns-clause-exact : goal.returns-clause-exact
returns-clause-exact c = (
  refl,
  refl,
  refl,
  refl,
  c.copied.ensures ∙ ap (λ (n : ℕ). take (c.min-end.result - n) (drop n c.args.snapshot.now)) c.from-start.ensures
      ∙ cut_is c.args.snapshot.now c.args.offset c.min-end.result (c.min-end.ensures ∙ ap (λ (n : ℕ). min (n + 1024) (length c.args.snapshot.now)) c.from-start.ensures),
)
