-- From fields to values of many fields: what a row of readers takes, and that it reads it again.
use Rattle.std.proofs.Common.{◌≡◌, ℕ, zero, suc, ◌+◌, ◌*◌, ◌^◌, ◌<◌, ◌≤◌, Bool, true, false, cond, ltb, nat_lt, nat_le, ◌==◌, List, [], ◌++◌, length, take, drop, Option, Some, None, Result, Ok, refl, sym, ap, subst, ◌∙◌, append_assoc, arith, inl, inr, Err}
use Rattle.std.specs.Prelude.{IfSome, is_some}
use Rattle.std.specs.Int.{Width, w8, w64, byte_len}
use Rattle.std.proofs.lemmas.Bool.{ltb-false, le-ltb, cases_lt}
use Rattle.std.proofs.lemmas.Bool.Decides.{nat_tests}
use Rattle.std.proofs.lemmas.List.{take_at, drop_at, take-append-drop, drop-drop, length-append, length-take, take-append-le, drop-append-le, length-drop}
use Rattle.tw_types.specs.Bytes.{number_bytes, eight, zeros, guarded, IsCount, IsTime}
use Rattle.tw_types.specs.Ranges.{IsPositive}
use Rattle.tw_types.specs.declared.datagram.WireFault.{WireFault}
use Rattle.tw_types.specs.declared.datagram.WireFault.TheVariants.{Short, Field}
use Rattle.wire_head.specs.Reading.{◌>>=◌, number_at, where_allowed, checked_at, count_at, positive_at, time_at, byte_to, byte_below, text_at, zeros_at, guarded_at}
use Rattle.wire_head.proofs.Numbers.{IsBytes, IsWide, wide8, wide64, Reads, number_reads, bind_ok, guard_ok, allowed_ok, ok_is}

-- ---- a text that is cut

-- the cut is within the first of two texts
cut_first : (a b front more : List ℕ) → a ++ b ≡ front ++ more → length front < length a → (0 < length (drop (length front) a)) × (a ≡ front ++ drop (length front) a)
cut_first a b front more e lt =
    let same : take (length front) a ≡ front = sym (take-append-le (length front) a b (omega arith)) ∙ ap (take (length front)) e ∙ take_at front more (length front) refl in
    (omega (arith, length-drop (length front) a), sym (take-append-drop (length front) a) ∙ ap (λ (x : List ℕ). x ++ drop (length front) a) same)

-- the cut is behind it
cut_second : (a b front more : List ℕ) → a ++ b ≡ front ++ more → length a ≤ length front → (front ≡ a ++ drop (length a) front) × (b ≡ drop (length a) front ++ more)
cut_second a b front more e le =
    let same : take (length a) front ≡ a = sym (take-append-le (length a) front more le) ∙ ap (take (length a)) (sym e) ∙ take_at a b (length a) refl in
    (sym (take-append-drop (length a) front) ∙ ap (λ (x : List ℕ). x ++ drop (length a) front) same, sym (drop_at a b (length a) refl) ∙ ap (drop (length a)) e ∙ drop-append-le (length a) front more le)

-- nothing can't be cut
cut_none : (front more : List ℕ) → 0 < length more → [] ≡ front ++ more → ⊥
cut_none front more some e = omega (arith, ap length e, length-append front more)

-- A text that is cut, of two: the first of them is, or it stands whole and the second is.
pub cut_either : {A B : Type 0} {bytes : List ℕ} {place : ℕ} {IsA : A → Type 0} {textA : A → List ℕ} {nextA : A → ℕ} {r : Result A WireFault} (f : A → Result B WireFault) → Reads bytes place IsA textA nextA r
    → (x : A) (second more : List ℕ) → IsA x → 0 < length more → textA x ++ second ≡ drop place bytes ++ more
    → (second ≡ drop (nextA x) bytes ++ more → f x ≡ Err Short) → (r >>= f) ≡ Err Short
cut_either {A} {B} {bytes} {place} {IsA} {textA} {nextA} {r} f reads x second more is some e rest =
    elim (cases_lt (length (drop place bytes)) (length (textA x))) [
      | inl lt ↦ (let c = cut_first (textA x) second (drop place bytes) more e lt in
          ap (λ (q : Result A WireFault). q >>= f) (reads.cut x (drop (length (drop place bytes)) (textA x)) is c.0 c.1))
      | inr le ↦ (let c = cut_second (textA x) second (drop place bytes) more e le in
          let a = reads.again x (drop (length (textA x)) (drop place bytes)) is c.0 in
          ap (λ (q : Result A WireFault). q >>= f) a.0 ∙ rest (c.1 ∙ ap (λ (t : List ℕ). t ++ more) (sym a.1)))
    ]

-- ---- rows

-- A value that is read first, and a value with it in it that is read from there on.
pub step : {A B : Type 0} {bytes : List ℕ} {place : ℕ} {IsA : A → Type 0} {textA : A → List ℕ} {nextA : A → ℕ} {r : Result A WireFault} {f : A → Result B WireFault} {IsB : A → B → Type 0} {textB : B → List ℕ} {nextB : B → ℕ} (first : B → A)
    → Reads bytes place IsA textA nextA r
    → ((x : A) → IsA x → Reads bytes (nextA x) (IsB x) textB nextB (f x))
    → ((x : A) → IsA x → (b : B) → IsB x b → first b ≡ x)
    → Reads bytes place (λ b. IsA (first b) × IsB (first b) b) (λ b. textA (first b) ++ textB b) nextB (r >>= f)
step {A} {B} {bytes} {place} {IsA} {textA} {nextA} {r} {f} {IsB} {textB} {nextB} first reads rest known = record {
  takes = λ b e.
      let g = bind_ok r f b e in
      let a = reads.takes g.0 g.1 in
      let z = (rest g.0 a.0).takes b g.2 in
      let same : first b ≡ g.0 = known g.0 a.0 b z.0 in
      let joined : drop place bytes ≡ (textA g.0 ++ textB b) ++ drop (nextB b) bytes = a.1 ∙ ap (λ (t : List ℕ). textA g.0 ++ t) z.1 ∙ sym (append_assoc (textA g.0) (textB b) (drop (nextB b) bytes)) in
      subst (λ (x : A). (IsA x × IsB x b) × (drop place bytes ≡ (textA x ++ textB b) ++ drop (nextB b) bytes)) (sym same) ((a.0, z.0), joined);
  again = λ b after is e.
      let a = reads.again (first b) (textB b ++ after) is.0 (e ∙ append_assoc (textA (first b)) (textB b) after) in
      let z = (rest (first b) is.0).again b after is.1 a.1 in
      (ap (λ (q : Result A WireFault). q >>= f) a.0 ∙ z.0, z.1);
  cut = λ b more is some e. cut_either f reads (first b) (textB b) more is.0 some e (λ t. (rest (first b) is.0).cut b more is.1 some t);
}

-- the value is made of what was read
pub last : {A : Type 0} {bytes : List ℕ} {place : ℕ} (x : A) → Reads bytes place (λ b. b ≡ x) (λ b. []) (λ b. place) (Ok x)
last {bytes = bytes} {place = place} x = record {
  takes = λ b e. (sym (ok_is x b e), refl);
  again = λ b after is e. (ap Ok (sym is), e);
  cut = λ b more is some e. absurd (cut_none (drop place bytes) more some e);
}

-- the same, where the place behind it is said by the value
pub last_to : {A : Type 0} {bytes : List ℕ} {place : ℕ} (x : A) (next : A → ℕ) → next x ≡ place → Reads bytes place (λ b. b ≡ x) (λ b. []) next (Ok x)
last_to {A} {bytes} {place} x next at = record {
  takes = λ b e. (sym (ok_is x b e), ap (λ (p : ℕ). drop p bytes) (sym at ∙ ap next (ok_is x b e)));
  again = λ b after is e. (ap Ok (sym is), ap (λ (p : ℕ). drop p bytes) (ap next is ∙ at) ∙ e);
  cut = λ b more is some e. absurd (cut_none (drop place bytes) more some e);
}

-- the same by other words
pub renamed : {A : Type 0} {bytes : List ℕ} {place : ℕ} {Is : A → Type 0} {text : A → List ℕ} {next : A → ℕ} {read : Result A WireFault} (Is' : A → Type 0) → Reads bytes place Is text next read → ((x : A) → Is x → Is' x) → ((x : A) → Is' x → Is x) → Reads bytes place Is' text next read
renamed Is' reads to back = record {
  takes = λ x e. let a = reads.takes x e in (to x a.0, a.1);
  again = λ x after is e. reads.again x after (back x is) e;
  cut = λ x more is some e. reads.cut x more (back x is) some e;
}

-- the same, where the place behind it is said by other words
pub moved : {A : Type 0} {bytes : List ℕ} {place : ℕ} {Is : A → Type 0} {text : A → List ℕ} {next : A → ℕ} {read : Result A WireFault} (next' : A → ℕ) → ((x : A) → next' x ≡ next x) → Reads bytes place Is text next read → Reads bytes place Is text next' read
moved {bytes = bytes} {text = text} next' same reads = record {
  takes = λ x e. let a = reads.takes x e in (a.0, a.1 ∙ ap (λ (p : ℕ). text x ++ drop p bytes) (sym (same x)));
  again = λ x after is e. let a = reads.again x after is e in (a.0, ap (λ (p : ℕ). drop p bytes) (same x) ∙ a.1);
  cut = λ x more is some e. reads.cut x more is some e;
}

-- ---- numbers with a test

-- a number of this width that the test allows
pub tested_reads : (w : Width) (limit : ℕ) (wide : IsWide w limit) (allowed : ℕ → Bool) (fault : WireFault) (bytes : List ℕ) (fits : IsBytes bytes) (place next : ℕ) → next ≡ place + byte_len w → Reads bytes place (λ n. (n < limit) × (allowed n ≡ true)) (number_bytes w) (λ n. next) (checked_at w allowed fault bytes place)
unfolding checked_at
tested_reads w limit wide allowed fault bytes fits place next e =
    let number = number_reads w limit wide bytes fits place next e in
    record {
      takes = λ n r.
          let g = bind_ok (number_at w bytes place) (λ m. where_allowed (allowed m) fault m) n r in
          let t = number.takes g.0 g.1 in
          let h = allowed_ok (allowed g.0) fault g.0 n g.2 in
          subst (λ (m : ℕ). ((m < limit) × (allowed m ≡ true)) × (drop place bytes ≡ number_bytes w m ++ drop next bytes)) h.1 ((t.0, h.0), t.1);
      again = λ n after is t.
          let a = number.again n after is.0 t in
          (rw (a.0, is.1) refl, a.1);
      cut = λ n more is some t. ap (λ (q : Result ℕ WireFault). q >>= λ m. where_allowed (allowed m) fault m) (number.cut n more is.0 some t);
    }

pub checked_reads : (w : Width) (limit : ℕ) (wide : IsWide w limit) (allowed : ℕ → Bool) (fault : WireFault) (Is : ℕ → Type 0) → ((n : ℕ) → allowed n ≡ true → Is n) → ((n : ℕ) → Is n → (n < limit) × (allowed n ≡ true))
    → (bytes : List ℕ) (fits : IsBytes bytes) (place next : ℕ) → next ≡ place + byte_len w → Reads bytes place Is (number_bytes w) (λ n. next) (checked_at w allowed fault bytes place)
checked_reads w limit wide allowed fault Is to back bytes fits place next e = renamed Is (tested_reads w limit wide allowed fault bytes fits place next e) (λ n is. to n is.1) back

module _ (bytes : List ℕ) (fits : IsBytes bytes) (place next : ℕ) where
  pub count_reads : next ≡ place + 8 → Reads bytes place IsCount eight (λ n. next) (count_at bytes place)
  count_reads e = checked_reads w64 (2 ^ 64) wide64 _ (Field place) IsCount (λ n t. grind (arith, nat_tests)) (λ n is. (omega arith, grind (arith, nat_tests))) bytes fits place next e

  pub positive_reads : next ≡ place + 8 → Reads bytes place IsPositive eight (λ n. next) (positive_at bytes place)
  positive_reads e = checked_reads w64 (2 ^ 64) wide64 _ (Field place) IsPositive (λ n t. record { above = grind (arith, nat_tests); count = grind (arith, nat_tests) }) (λ n is. let a = is.above in let b = is.count in (omega arith, grind (arith, nat_tests))) bytes fits place next e

  pub time_reads : next ≡ place + 8 → Reads bytes place IsTime eight (λ n. next) (time_at bytes place)
  time_reads e = checked_reads w64 (2 ^ 64) wide64 _ (Field place) IsTime (λ n t. grind (arith, nat_tests)) (λ n is. (omega arith, grind (arith, nat_tests))) bytes fits place next e

  pub byte_to_reads : (most : ℕ) → most < 2 ^ 8 → next ≡ place + 1 → Reads bytes place (λ n. n ≤ most) (number_bytes w8) (λ n. next) (byte_to most bytes place)
  byte_to_reads most small e = checked_reads w8 (2 ^ 8) wide8 (λ n. nat_le n most) (Field place) (λ n. n ≤ most) (λ n t. grind (arith, nat_tests)) (λ n is. (omega arith, grind (arith, nat_tests))) bytes fits place next e

  pub byte_below_reads : (limit : ℕ) → limit < 2 ^ 8 → next ≡ place + 1 → Reads bytes place (λ n. n < limit) (number_bytes w8) (λ n. next) (byte_below limit bytes place)
  byte_below_reads limit small e = checked_reads w8 (2 ^ 8) wide8 (λ n. nat_lt n limit) (Field place) (λ n. n < limit) (λ n t. grind (arith, nat_tests)) (λ n is. (omega arith, grind (arith, nat_tests))) bytes fits place next e

  -- a number that has one value
  pub fixed_reads : (w : Width) (limit : ℕ) (wide : IsWide w limit) (value : ℕ) → value < limit → (fault : WireFault) → next ≡ place + byte_len w → Reads bytes place (λ n. n ≡ value) (number_bytes w) (λ n. next) (checked_at w (λ n. n == value) fault bytes place)
  fixed_reads w limit wide value small fault e = checked_reads w limit wide (λ n. n == value) fault (λ n. n ≡ value) (λ n t. grind (arith, nat_tests)) (λ n is. (omega arith, grind (arith, nat_tests))) bytes fits place next e

-- ---- bytes that stand for themselves

pub text_reads : (k : ℕ) (bytes : List ℕ) (place : ℕ) → Reads bytes place (λ t. length t ≡ k) (λ t. t) (λ t. place + length t) (text_at k bytes place)
unfolding text_at
text_reads k bytes place = record {
  takes = λ t r.
      let g = guard_ok (ltb (length (drop place bytes)) k) Short (take k (drop place bytes)) t r in
      let long : k ≤ length (drop place bytes) = ltb-false _ _ g.0 in
      let size : length (take k (drop place bytes)) ≡ k = omega (arith, length-take k (drop place bytes)) in
      let whole : drop place bytes ≡ take k (drop place bytes) ++ drop k (drop place bytes) = sym (take-append-drop k (drop place bytes)) in
      let behind : drop k (drop place bytes) ≡ drop (place + length (take k (drop place bytes))) bytes = drop-drop k place bytes ∙ ap (λ (m : ℕ). drop (place + m) bytes) (sym size) in
      subst (λ (x : List ℕ). (length x ≡ k) × (drop place bytes ≡ x ++ drop (place + length x) bytes)) g.1 (size, whole ∙ ap (λ (x : List ℕ). take k (drop place bytes) ++ x) behind);
  again = λ t after is e.
      let sizes : length (drop place bytes) ≡ length t + length after = ap length e ∙ length-append t after in
      let long : ltb (length (drop place bytes)) k ≡ false = le-ltb _ _ (omega arith) in
      let front : take k (drop place bytes) ≡ t = ap (take k) e ∙ take_at t after k is in
      let behind : drop (place + length t) bytes ≡ after = sym (drop-drop (length t) place bytes) ∙ ap (drop (length t)) e ∙ drop_at t after (length t) refl in
      (rw (long, front) refl, behind);
  cut = λ t more is some e.
      let sizes : length t ≡ length (drop place bytes) + length more = ap length e ∙ length-append (drop place bytes) more in
      let short : nat_lt (length (drop place bytes)) k ≡ true = let l : length (drop place bytes) < k = omega arith in grind (arith, nat_tests) in
      rw short refl;
}

-- ---- what may be absent

pub zeros_reads : (k : ℕ) (bytes : List ℕ) (fits : IsBytes bytes) (place next : ℕ) → next ≡ place + 8 * k → Reads bytes place (λ x. Unit {0}) (λ x. zeros k) (λ x. next) (zeros_at k bytes place)
unfolding zeros_at
zeros_reads zero bytes fits place next e = renamed (λ x. Unit {0}) (last_to tt (λ x. next) (omega arith)) (λ x is. tt) (λ x is. refl)
zeros_reads (suc k) bytes fits place next e =
    renamed (λ x. Unit {0})
    (step (λ x. 0) (fixed_reads bytes fits place (place + 8) w64 (2 ^ 64) wide64 0 (omega arith) (Field place) refl) (λ zero-field zero-is.
    zeros_reads k bytes fits (place + 8) next (omega arith))
    (λ zero-field zero-is x is. sym zero-is))
    (λ x is. tt)
    (λ x is. (refl, tt))

-- what is there fits, and is there exactly where the flag says so
pub record Fitting {X : Type 0} (present : Bool) (Is : X → Type 0) (o : Option X) : Type 0 where
  pub there : is_some o ≡ present
  pub inner : IfSome o Is

pub guarded_to : {X : Type 0} (present : Bool) (k : ℕ) (inner_at : List ℕ → ℕ → Result X WireFault) (Is : X → Type 0) (text : X → List ℕ) (bytes : List ℕ) (fits : IsBytes bytes) (place : ℕ) (next : Option X → ℕ) → next None ≡ place + 8 * k
    → Reads bytes place Is text (λ x. next (Some x)) (inner_at bytes place) → Reads bytes place (Fitting present Is) (guarded k text) next (guarded_at present k inner_at bytes place)
unfolding guarded_at
guarded_to {X} true k inner_at Is text bytes fits place next e inner = record {
  takes = λ o r.
      let g = bind_ok (inner_at bytes place) (λ x. Ok (Some x)) o r in
      let a = inner.takes g.0 g.1 in
      subst (λ (q : Option X). Fitting true Is q × (drop place bytes ≡ guarded k text q ++ drop (next q) bytes)) (ok_is (Some g.0) o g.2) (record { there = refl; inner = a.0 }, a.1);
  again = present_again;
  cut = present_cut;
}
  where
    present_again : (o : Option X) (after : List ℕ) → Fitting true Is o → drop place bytes ≡ guarded k text o ++ after → (guarded_at true k inner_at bytes place ≡ Ok o) × (drop (next o) bytes ≡ after)
    present_again None after is t = absurd (cc is.there)
    present_again (Some x) after is t = let a = inner.again x after is.inner t in (rw a.0 refl, a.1)

    present_cut : (o : Option X) (more : List ℕ) → Fitting true Is o → 0 < length more → guarded k text o ≡ drop place bytes ++ more → guarded_at true k inner_at bytes place ≡ Err Short
    present_cut None more is some t = absurd (cc is.there)
    present_cut (Some x) more is some t = rw (inner.cut x more is.inner some t) refl
guarded_to {X} false k inner_at Is text bytes fits place next e inner = record {
  takes = λ o r.
      let g = bind_ok (zeros_at k bytes place) (λ none. Ok None) o r in
      let a = (zeros_reads k bytes fits place (next None) e).takes g.0 g.1 in
      subst (λ (q : Option X). Fitting false Is q × (drop place bytes ≡ guarded k text q ++ drop (next q) bytes)) (ok_is None o g.2) (record { there = refl; inner = tt }, a.1);
  again = absent_again;
  cut = absent_cut;
}
  where
    absent_again : (o : Option X) (after : List ℕ) → Fitting false Is o → drop place bytes ≡ guarded k text o ++ after → (guarded_at false k inner_at bytes place ≡ Ok o) × (drop (next o) bytes ≡ after)
    absent_again (Some x) after is t = absurd (cc is.there)
    absent_again None after is t = let a = (zeros_reads k bytes fits place (next None) e).again tt after tt t in (rw a.0 refl, a.1)

    absent_cut : (o : Option X) (more : List ℕ) → Fitting false Is o → 0 < length more → guarded k text o ≡ drop place bytes ++ more → guarded_at false k inner_at bytes place ≡ Err Short
    absent_cut (Some x) more is some t = absurd (cc is.there)
    absent_cut None more is some t = rw ((zeros_reads k bytes fits place (next None) e).cut tt more tt some t) refl

pub guarded_reads : {X : Type 0} (present : Bool) (k : ℕ) (inner_at : List ℕ → ℕ → Result X WireFault) (Is : X → Type 0) (text : X → List ℕ) (bytes : List ℕ) (fits : IsBytes bytes) (place next : ℕ) → next ≡ place + 8 * k
    → Reads bytes place Is text (λ x. next) (inner_at bytes place) → Reads bytes place (Fitting present Is) (guarded k text) (λ o. next) (guarded_at present k inner_at bytes place)
guarded_reads present k inner_at Is text bytes fits place next e inner = guarded_to present k inner_at Is text bytes fits place (λ o. next) e inner

-- ---- the same with another text, another value, or a choice

pub respelled : {A : Type 0} {bytes : List ℕ} {place : ℕ} {Is : A → Type 0} {text : A → List ℕ} {next : A → ℕ} {read : Result A WireFault} (text' : A → List ℕ) → ((x : A) → text' x ≡ text x) → Reads bytes place Is text next read → Reads bytes place Is text' next read
respelled {bytes = bytes} {next = next} text' same reads = record {
  takes = λ x e. let a = reads.takes x e in (a.0, a.1 ∙ ap (λ (t : List ℕ). t ++ drop (next x) bytes) (sym (same x)));
  again = λ x after is e. reads.again x after is (e ∙ ap (λ (t : List ℕ). t ++ after) (same x));
  cut = λ x more is some e. reads.cut x more is some (sym (same x) ∙ e);
}

-- a value that is made of one that was read
pub made_reads : {A B : Type 0} {bytes : List ℕ} {place : ℕ} {Is : A → Type 0} {text : A → List ℕ} {next : A → ℕ} {read : Result A WireFault} (made : A → B) (textB : B → List ℕ) (nextB : B → ℕ) → ((a : A) → textB (made a) ≡ text a) → ((a : A) → nextB (made a) ≡ next a)
    → Reads bytes place Is text next read → Reads bytes place (λ b. (a : A) × (b ≡ made a) × Is a) textB nextB (read >>= λ a. Ok (made a))
made_reads {A} {B} {bytes} {place} {Is} {text} {next} {read} made textB nextB same at reads = record {
  takes = λ b e.
      let g = bind_ok read (λ a. Ok (made a)) b e in
      let t = reads.takes g.0 g.1 in
      let is : b ≡ made g.0 = sym (ok_is (made g.0) b g.2) in
      ((g.0, is, t.0), rw (is, same g.0, at g.0) t.1);
  again = λ b after is e.
      let t = reads.again is.0 after is.2 (e ∙ ap (λ (x : B). textB x ++ after) is.1 ∙ ap (λ (x : List ℕ). x ++ after) (same is.0)) in
      (rw (t.0, is.1) refl, ap (λ (m : ℕ). drop m bytes) (ap nextB is.1 ∙ at is.0) ∙ t.1);
  cut = λ b more is some e. ap (λ (q : Result A WireFault). q >>= λ a. Ok (made a)) (reads.cut is.0 more is.2 some (sym (same is.0) ∙ sym (ap textB is.1) ∙ e));
}

pub if_reads : {A : Type 0} {bytes : List ℕ} {place : ℕ} {Is : A → Type 0} {text : A → List ℕ} {next : A → ℕ} {x y : Result A WireFault} (b : Bool) → (b ≡ true → Reads bytes place Is text next x) → (b ≡ false → Reads bytes place Is text next y) → Reads bytes place Is text next (cond b x y)
if_reads true then otherwise = then refl
if_reads false then otherwise = otherwise refl
