-- What a reader answers, step by step: where a part was read, what is behind it decides.
use Rattle.std.proofs.Common.{◌≡◌, ℕ, Bool, true, false, List, Result, Ok, refl, sym, ap, ◌∙◌}
use Rattle.std.specs.Int.{Width}
use Rattle.tw_types.specs.declared.datagram.WireFault.{WireFault}
use Rattle.wire_head.specs.Reading.{◌>>=◌, number_at, checked_at, where_allowed}

pub taken : {A B : Type 0} {q read : Result A WireFault} {x : A} (f : A → Result B WireFault) {all : Result B WireFault} → q ≡ read → q ≡ Ok x → all ≡ f x → all ≡ (read >>= f)
taken {A} {B} {q} {read} {x} f {all} is e rest = rest ∙ ap (λ (r : Result A WireFault). r >>= f) (sym e ∙ is)

-- of a number that passed its test
pub tested : {B : Type 0} (w : Width) (allowed : ℕ → Bool) (fault : WireFault) (bytes : List ℕ) (place : ℕ) {q : Result ℕ WireFault} {n : ℕ} (f : ℕ → Result B WireFault) {all : Result B WireFault} → q ≡ number_at w bytes place → q ≡ Ok n → allowed n ≡ true → all ≡ f n → all ≡ (checked_at w allowed fault bytes place >>= f)
unfolding checked_at
tested {B} w allowed fault bytes place {q} {n} f {all} is e passed rest =
    rest ∙ ap (λ (b : Bool). where_allowed b fault n >>= f) (sym passed) ∙ ap (λ (r : Result ℕ WireFault). (r >>= λ m. where_allowed (allowed m) fault m) >>= f) (sym e ∙ is)

-- the test of one that gave no fault
pub passed : (allowed : Bool) (fault : WireFault) {q : Result (Unit {0}) WireFault} → q ≡ where_allowed allowed fault tt → q ≡ Ok tt → allowed ≡ true
passed true fault is e = refl
passed false fault is e = absurd (cc (is, e))
