use Rattle.std.proofs.Common.{◌≡◌, Bool, true, false, List, [], ◌∷◌, refl, cond, arith}
use Rattle.std.specs.Prelude.{filter}
use Rattle.std.specs.List.{AllByRecursion}
use Rattle.std.specs.Option.{option_copied}
use Rattle.tw_types.specs.Decisions.{or_none}
use Rattle.tw_types.specs.Updates.{stays_pending}
use Rattle.call_parts.proofs.store.put.Goals as goal

all_passed : {X : Type 0} (p : X → Bool) (xs : List X) → AllByRecursion (λ x. p x ≡ true) (filter p xs)
all_passed p [] = tt
all_passed p (x ∷ xs) = go (p x) refl (all_passed p xs)
  where
    go : (b : Bool) → p x ≡ b → AllByRecursion (λ x. p x ≡ true) (filter p xs) → AllByRecursion (λ x. p x ≡ true) (cond b (x ∷ filter p xs) (filter p xs))
    go true e rest = (e, rest)
    go false e rest = rest

pub put-requires : goal.put-requires
put-requires c =
    rw c.settle.ensures (record {
      first = omega arith;
      last = omega arith;
      ascending = c.requires.ascending;
      below = rw c.requires.size c.requires.below;
      settled = all_passed (stays_pending (or_none (option_copied c.args.view))) c.args.store.now.waiting.pending;
    })
