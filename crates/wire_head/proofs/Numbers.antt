-- A number that is read is the number that was written, and what was written is read again.
use Rattle.std.proofs.Common.{◌≡◌, ℕ, ◌+◌, ◌-◌, ◌^◌, ◌<◌, ◌≤◌, Bool, true, false, cond, ltb, List, [], ◌∷◌, ◌++◌, length, get_or, take, drop, Result, Ok, Err, refl, sym, ap, subst, ◌∙◌, arith, inl, inr, nat_lt}
use Rattle.std.specs.Int.{Width, w8, w16, w32, w64, byte_len, from_be_bytes, to_be_bytes}
use Rattle.std.proofs.lemmas.Bool.Decides.{nat_tests}
use Rattle.std.proofs.lemmas.Bool.{cases_lt, ltb-false, le-ltb}
use Rattle.std.proofs.lemmas.List.{take_at, drop_at, take-append-drop, drop-drop, length-append, length-take, length-drop, get_or-drop, get_or-take, get_or_past}
use Rattle.std.proofs.lemmas.Nat.{be_bytes_2, be_bytes_4, be_bytes_8, from_be_bytes-to_be_bytes_2, from_be_bytes-to_be_bytes_4, from_be_bytes-to_be_bytes_8}
use Rattle.tw_types.specs.Bytes.{number_bytes}
use Rattle.tw_types.specs.declared.datagram.WireFault.{WireFault}
use Rattle.tw_types.specs.declared.datagram.WireFault.TheVariants.{Short}
use Rattle.wire_head.specs.Reading.{◌>>=◌, number_at}

abbrev pub IsBytes : List ℕ → Type 0
IsBytes bytes = (i : ℕ) → get_or bytes i 0 < 256

IsBytes-drop : (n : ℕ) (bytes : List ℕ) → IsBytes bytes → IsBytes (drop n bytes)
IsBytes-drop n bytes h i = rw get_or-drop (h (n + i))

IsBytes-take : (n : ℕ) (bytes : List ℕ) → IsBytes bytes → IsBytes (take n bytes)
IsBytes-take n bytes h i =
    elim (cases_lt i n) [
      | inl lt ↦ rw (get_or-take n bytes i 0 lt) (h i)
      | inr le ↦ rw (get_or_past (take n bytes) i 0 (omega (arith, length-take n bytes))) (omega arith)
    ]

-- the value of a step that did not fail
pub bind_ok : {A B : Type 0} (r : Result A WireFault) (f : A → Result B WireFault) (y : B) → (r >>= f) ≡ Ok y → (x : A) × (r ≡ Ok x) × (f x ≡ Ok y)
bind_ok (Ok x) f y e = (x, refl, e)
bind_ok (Err d) f y e = absurd cc

-- a test that did not fail
pub guard_ok : {A : Type 0} (b : Bool) (d : WireFault) (x y : A) → cond b (Err d) (Ok x) ≡ Ok y → (b ≡ false) × (x ≡ y)
guard_ok true d x y e = absurd cc
guard_ok false d x y e = (refl, cc)

pub allowed_ok : {A : Type 0} (b : Bool) (d : WireFault) (x y : A) → cond b (Ok x) (Err d) ≡ Ok y → (b ≡ true) × (x ≡ y)
allowed_ok true d x y e = (refl, cc)
allowed_ok false d x y e = absurd cc

abbrev done : {A : Type 0} → A → Result A WireFault
done x = Ok x

pub ok_is : {A : Type 0} (x y : A) → done x ≡ done y → x ≡ y
ok_is x y e = cc

-- ---- widths

pub record IsWide (w : Width) (limit : ℕ) : Type 0 where
  pub some : 0 < byte_len w
  pub len : (n : ℕ) → length (number_bytes w n) ≡ byte_len w
  pub back : (bytes : List ℕ) → length bytes ≡ byte_len w → IsBytes bytes → number_bytes w (from_be_bytes w bytes) ≡ bytes
  pub again : (n : ℕ) → n < limit → from_be_bytes w (number_bytes w n) ≡ n
  pub below : (bytes : List ℕ) → IsBytes bytes → from_be_bytes w bytes < limit

be_bytes_1 : (bytes : List ℕ) → length bytes ≡ 1 → IsBytes bytes → to_be_bytes w8 (from_be_bytes w8 bytes) ≡ bytes
be_bytes_1 [] len fits = absurd (omega arith)
be_bytes_1 (b ∷ []) len fits = ap (λ (m : ℕ). m ∷ []) (omega (arith, fits 0))
be_bytes_1 (b ∷ c ∷ bytes) len fits = absurd (omega arith)

pub wide8 : IsWide w8 (2 ^ 8)
unfolding number_bytes
wide8 = record {
  some = omega arith;
  len = λ n. refl;
  back = be_bytes_1;
  again = λ n lt. omega arith;
  below = λ bytes fits. omega (arith, fits 0);
}

pub wide16 : IsWide w16 (2 ^ 16)
unfolding number_bytes
wide16 = record {
  some = omega arith;
  len = λ n. refl;
  back = λ bytes len fits. be_bytes_2 bytes _ len fits refl;
  again = λ n lt. from_be_bytes-to_be_bytes_2 n lt;
  below = λ bytes fits. omega (arith, fits 0, fits 1);
}

pub wide32 : IsWide w32 (2 ^ 32)
unfolding number_bytes
wide32 = record {
  some = omega arith;
  len = λ n. refl;
  back = λ bytes len fits. be_bytes_4 bytes _ len fits refl;
  again = λ n lt. from_be_bytes-to_be_bytes_4 n lt;
  below = λ bytes fits. omega (arith, fits 0, fits 1, fits 2, fits 3);
}

pub wide64 : IsWide w64 (2 ^ 64)
unfolding number_bytes
wide64 = record {
  some = omega arith;
  len = λ n. refl;
  back = λ bytes len fits. be_bytes_8 bytes _ len fits refl;
  again = λ n lt. from_be_bytes-to_be_bytes_8 n lt;
  below = λ bytes fits. omega (arith, fits 0, fits 1, fits 2, fits 3, fits 4, fits 5, fits 6, fits 7);
}

-- ---- what a reader takes

-- Reading at a place gives the values that are so, and takes their text up to the next place. Where the bytes end within
-- the text of such a value, it is cut short.
pub record Reads {A : Type 0} (bytes : List ℕ) (place : ℕ) (Is : A → Type 0) (text : A → List ℕ) (next : A → ℕ) (read : Result A WireFault) : Type 0 where
  pub takes : (x : A) → read ≡ Ok x → Is x × (drop place bytes ≡ text x ++ drop (next x) bytes)
  pub again : (x : A) (rest : List ℕ) → Is x → drop place bytes ≡ text x ++ rest → (read ≡ Ok x) × (drop (next x) bytes ≡ rest)
  pub cut : (x : A) (more : List ℕ) → Is x → 0 < length more → text x ≡ drop place bytes ++ more → read ≡ Err Short

pub number_reads : (w : Width) (limit : ℕ) (wide : IsWide w limit) (bytes : List ℕ) (fits : IsBytes bytes) (place next : ℕ) → next ≡ place + byte_len w → Reads bytes place (λ n. n < limit) (number_bytes w) (λ n. next) (number_at w bytes place)
unfolding number_at
number_reads w limit wide bytes fits place next e = record {
  takes = λ n r.
      let g = guard_ok (ltb (length bytes) (place + byte_len w)) Short (from_be_bytes w (take (byte_len w) (drop place bytes))) n r in
      let long : place + byte_len w ≤ length bytes = ltb-false _ _ g.0 in
      let rest-fits = IsBytes-drop place bytes fits in
      let front : number_bytes w (from_be_bytes w (take (byte_len w) (drop place bytes))) ≡ take (byte_len w) (drop place bytes) =
      wide.back (take (byte_len w) (drop place bytes)) (omega (arith, length-take (byte_len w) (drop place bytes), length-drop place bytes)) (IsBytes-take (byte_len w) (drop place bytes) rest-fits) in
      let after : drop (byte_len w) (drop place bytes) ≡ drop next bytes = drop-drop (byte_len w) place bytes ∙ ap (λ (k : ℕ). drop k bytes) (sym e) in
      let whole : drop place bytes ≡ take (byte_len w) (drop place bytes) ++ drop (byte_len w) (drop place bytes) = sym (take-append-drop (byte_len w) (drop place bytes)) in
      let below = wide.below (take (byte_len w) (drop place bytes)) (IsBytes-take (byte_len w) (drop place bytes) rest-fits) in
      subst (λ (m : ℕ). (m < limit) × (drop place bytes ≡ number_bytes w m ++ drop next bytes)) g.1 (below, rw (front, ← after) whole);
  again = λ n rest lt t.
      let len = wide.len n in
      let sizes : length bytes - place ≡ byte_len w + length rest = sym (length-drop place bytes) ∙ ap length t ∙ length-append (number_bytes w n) rest ∙ ap (λ (k : ℕ). k + length rest) len in
      let some = wide.some in
      let long : ltb (length bytes) (place + byte_len w) ≡ false = le-ltb _ _ (omega arith) in
      let front : take (byte_len w) (drop place bytes) ≡ number_bytes w n = ap (take (byte_len w)) t ∙ take_at (number_bytes w n) rest (byte_len w) len in
      let after : drop next bytes ≡ rest = ap (λ (k : ℕ). drop k bytes) e ∙ sym (drop-drop (byte_len w) place bytes) ∙ ap (drop (byte_len w)) t ∙ drop_at (number_bytes w n) rest (byte_len w) len in
      (rw (long, front, wide.again n lt) refl, after);
  cut = λ n more lt some t.
      let len = wide.len n in
      let sizes : byte_len w ≡ (length bytes - place) + length more = sym len ∙ ap length t ∙ length-append (drop place bytes) more ∙ ap (λ (k : ℕ). k + length more) (length-drop place bytes) in
      let short : nat_lt (length bytes) (place + byte_len w) ≡ true = let l : length bytes < place + byte_len w = omega arith in grind (arith, nat_tests) in
      rw short refl;
}
