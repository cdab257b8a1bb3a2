-- What is kept of a log, worked out by hand.
use Rattle.std.proofs.Common.{◌≡◌, refl, ℕ, false, [], ◌∷◌, ◌++◌, Some, None}
use Rattle.std.specs.Prelude.{replicate}
use Rattle.tw_types.specs.declared.message.Order.TheVariants.{Unordered}
use Rattle.tw_types.specs.declared.message.Atom.TheVariants.{Weak}
use Rattle.tw_types.specs.declared.message.Kept.{Kept}
use Rattle.tw_types.specs.Beliefs.{Log}
use Rattle.oal.specs.Recent.{Recent, newest, first_kept, place_of, grown}
use Rattle.oal.specs.StandsFor.{StandsFor}

abbrev update : ℕ → Kept
update seq = record {
  entry = record { id = record { who = 1; incarnation = 5; seq = seq }; order = Unordered; atom = Weak; stamp = 0; late = false };
  early = false;
  payload = record { items = [] };
}

-- a log of 70 from position 10 on, of which 20 are passed
abbrev log : Log
log = record { base = 10; entries = replicate 6 (update 1) ++ replicate 64 (update 2); passed = 30 }

abbrev recent : Recent
recent = record { length = 80; passed = 30; kept = replicate 64 (update 2) }

last_ones : StandsFor recent log
last_ones = record { length = refl; passed = refl; kept = refl }

-- a short log is kept whole
whole : newest (update 1 ∷ update 2 ∷ []) ≡ update 1 ∷ update 2 ∷ []
whole = refl

from_there : first_kept recent ≡ 16
from_there = refl

no_longer_kept : place_of 15 recent ≡ None
no_longer_kept = refl

first_place : place_of 16 recent ≡ Some 0
first_place = refl

last_place : place_of 79 recent ≡ Some 63
last_place = refl

at_its_end : place_of 80 recent ≡ None
at_its_end = refl

-- the oldest goes
one_more : grown (update 3 ∷ []) recent ≡ record { length = 81; passed = 30; kept = replicate 63 (update 2) ++ update 3 ∷ [] }
one_more = refl
