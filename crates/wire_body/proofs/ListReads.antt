-- Lists and what may be absent: what is read is spelled so, and what is spelled so is read.
use Rattle.std.proofs.Common.{◌≡◌, ℕ, zero, suc, ◌+◌, ◌*◌, ◌<◌, ◌≤◌, Bool, true, ◌==◌, List, [], ◌∷◌, ◌++◌, length, drop, Option, Some, None, Result, Ok, Err, refl, sym, ap, subst, ◌∙◌, append_assoc, arith}
use Rattle.std.specs.Prelude.{IfSome, is_some}
use Rattle.std.specs.List.{flat_map, list_all, AllByRecursion}
use Rattle.std.specs.Int.{Width, byte_len}
use Rattle.std.proofs.lemmas.Bool.{and_parts, and_from}
use Rattle.std.proofs.lemmas.Bool.Decides.{nat_tests}
use Rattle.std.proofs.lemmas.List.{append-nil, length-append}
use Rattle.tw_types.proofs.Lists.{all_joined, all_parted}
use Rattle.tw_types.specs.Bytes.{one, presence, guarded, counted}
use Rattle.tw_types.specs.declared.datagram.WireFault.{WireFault}
use Rattle.tw_types.specs.declared.datagram.WireFault.TheVariants.{Short, Field}
use Rattle.wire_head.specs.Reading.{◌>>=◌}
use Rattle.wire_head.proofs.Numbers.{IsBytes, IsWide, Reads, bind_ok, ok_is}
use Rattle.wire_head.proofs.Steps.{step, renamed, cut_either, checked_reads, byte_to_reads, guarded_reads}
use Rattle.wire_body.specs.Lists.{items_at, list_at, counted_at, optional_at}

-- each item is so, with those before it at hand
abbrev pub Row : {X : Type 0} → (List X → X → Type 0) → List X → List X → Type 0
Row Is before [] = Unit {0}
Row Is before (x ∷ xs) = Is before x × Row Is (before ++ x ∷ []) xs

abbrev gives : {A : Type 0} → A → Result A WireFault
gives x = Ok x

-- what the items from a place on take, behind those before them
record RowReads {X : Type 0} (bytes : List ℕ) (place size k : ℕ) (Is : List X → X → Type 0) (text : X → List ℕ) (before : List X) (read : Result (List X) WireFault) : Type 0 where
  takes : (whole : List X) → read ≡ Ok whole → (xs : List X) × (whole ≡ before ++ xs) × Row Is before xs × (length xs ≡ k) × (drop place bytes ≡ flat_map text xs ++ drop (place + size * k) bytes)
  again : (xs after : _) → Row Is before xs → length xs ≡ k → drop place bytes ≡ flat_map text xs ++ after → (read ≡ Ok (before ++ xs)) × (drop (place + size * k) bytes ≡ after)
  cut : (xs : List X) (more : List ℕ) → Row Is before xs → length xs ≡ k → 0 < length more → flat_map text xs ≡ drop place bytes ++ more → read ≡ Err Short

module _ {X : Type 0} (size : ℕ) (item_at : List X → List ℕ → ℕ → Result X WireFault) (Is : List X → X → Type 0) (text : X → List ℕ) (bytes : List ℕ) (item : (before : List X) (place : ℕ) → Reads bytes place (Is before) text (λ x. place + size) (item_at before bytes place)) where
  row_none : (before : List X) (place : ℕ) → RowReads bytes place size 0 Is text before (gives before)
  row_none before place = record {
    takes = λ whole e. ([], sym (ok_is before whole e) ∙ sym (append-nil before), tt, refl, here);
    again = none_again;
    cut = none_cut;
  }
    where
      here : drop place bytes ≡ drop (place + size * 0) bytes
      here = ap (λ (p : ℕ). drop p bytes) (grind arith)

      none_again : (xs : List X) (after : List ℕ) → Row Is before xs → length xs ≡ 0 → drop place bytes ≡ flat_map text xs ++ after → (gives before ≡ gives (before ++ xs)) × (drop (place + size * 0) bytes ≡ after)
      none_again [] after is len e = (ap Ok (sym (append-nil before)), sym here ∙ e)
      none_again (x ∷ xs) after is len e = absurd (omega arith)

      none_cut : (xs : List X) (more : List ℕ) → Row Is before xs → length xs ≡ 0 → 0 < length more → flat_map text xs ≡ drop place bytes ++ more → gives before ≡ Err Short
      none_cut [] more is len some e = absurd (omega (arith, ap length e, length-append (drop place bytes) more))
      none_cut (x ∷ xs) more is len some e = absurd (omega arith)

  row_more : (k : ℕ) (before : List X) (place : ℕ) (rest_at : X → Result (List X) WireFault) → ((x : X) → RowReads bytes (place + size) size k Is text (before ++ x ∷ []) (rest_at x)) → RowReads bytes place size (suc k) Is text before (item_at before bytes place >>= rest_at)
  row_more k before place rest_at rest = record {
    takes = λ whole e.
        let g = bind_ok (item_at before bytes place) rest_at whole e in
        let a = (item before place).takes g.0 g.1 in
        let z = (rest g.0).takes whole g.2 in
        (g.0 ∷ z.0, z.1 ∙ append_assoc before (g.0 ∷ []) z.0, (a.0, z.2), ap suc z.3, a.1 ∙ ap (λ (t : List ℕ). text g.0 ++ t) (z.4 ∙ ap (λ (t : List ℕ). flat_map text z.0 ++ t) behind) ∙ sym (append_assoc (text g.0) (flat_map text z.0) (drop (place + size * suc k) bytes)));
    again = some_again;
    cut = some_cut;
  }
    where
      behind : drop (place + size + size * k) bytes ≡ drop (place + size * suc k) bytes
      behind = ap (λ (p : ℕ). drop p bytes) (grind arith)

      some_again : (xs : List X) (after : List ℕ) → Row Is before xs → length xs ≡ suc k → drop place bytes ≡ flat_map text xs ++ after → ((item_at before bytes place >>= rest_at) ≡ gives (before ++ xs)) × (drop (place + size * suc k) bytes ≡ after)
      some_again [] after is len e = absurd (omega arith)
      some_again (x ∷ xs) after is len e =
          let a = (item before place).again x (flat_map text xs ++ after) is.0 (e ∙ append_assoc (text x) (flat_map text xs) after) in
          let z = (rest x).again xs after is.1 (omega arith) a.1 in
          (ap (λ (q : Result X WireFault). q >>= rest_at) a.0 ∙ z.0 ∙ ap Ok (append_assoc before (x ∷ []) xs), sym behind ∙ z.1)

      some_cut : (xs : List X) (more : List ℕ) → Row Is before xs → length xs ≡ suc k → 0 < length more → flat_map text xs ≡ drop place bytes ++ more → (item_at before bytes place >>= rest_at) ≡ Err Short
      some_cut [] more is len some e = absurd (omega arith)
      some_cut (x ∷ xs) more is len some e = cut_either rest_at (item before place) x (flat_map text xs) more is.0 some e (λ t. (rest x).cut xs more is.1 (omega arith) some t)

  row_reads : (k : ℕ) (before : List X) (place : ℕ) → RowReads bytes place size k Is text before (items_at size item_at k before bytes place)
  unfolding items_at
  row_reads zero before place = row_none before place
  row_reads (suc k) before place = row_more k before place (λ x. items_at size item_at k (before ++ x ∷ []) bytes (place + size)) (λ x. row_reads k (before ++ x ∷ []) (place + size))

  -- a list of so many items
  pub list_reads : (k place : ℕ) → Reads bytes place (λ xs. (length xs ≡ k) × Row Is [] xs) (flat_map text) (λ xs. place + size * length xs) (list_at size item_at k bytes place)
  list_reads k place =
      let row = row_reads k [] place in
      record {
        takes = λ xs e.
            let a = row.takes xs e in
            subst (λ (z : List X). ((length z ≡ k) × Row Is [] z) × (drop place bytes ≡ flat_map text z ++ drop (place + size * length z) bytes)) (sym a.1) ((a.3, a.2), a.4 ∙ ap (λ (m : ℕ). flat_map text a.0 ++ drop (place + size * m) bytes) (sym a.3));
        again = λ xs after is e. let a = row.again xs after is.1 is.0 e in (a.0, ap (λ (m : ℕ). drop (place + size * m) bytes) is.0 ∙ a.1);
        cut = λ xs more is some e. row.cut xs more is.1 is.0 some e;
      }

-- a list behind the number of its items
pub counted_reads : {X : Type 0} (w : Width) (limit : ℕ) (wide : IsWide w limit) (allowed : ℕ → Bool) (IsNumber : ℕ → Type 0) → ((k : ℕ) → allowed k ≡ true → IsNumber k) → ((k : ℕ) → IsNumber k → (k < limit) × (allowed k ≡ true))
    → (inner_at : ℕ → List ℕ → ℕ → Result (List X) WireFault) (IsList : List X → Type 0) (text : List X → List ℕ) (next : List X → ℕ) (bytes : List ℕ) (fits : IsBytes bytes) (place : ℕ)
    → ((k : ℕ) → Reads bytes (place + byte_len w) (λ xs. (length xs ≡ k) × IsList xs) text next (inner_at k bytes (place + byte_len w)))
    → Reads bytes place (λ xs. IsNumber (length xs) × IsList xs) (counted w text) next (counted_at w allowed inner_at bytes place)
unfolding counted_at
counted_reads {X} w limit wide allowed IsNumber to back inner_at IsList text next bytes fits place inner =
    renamed (λ (xs : List X). IsNumber (length xs) × IsList xs)
    (step length (checked_reads w limit wide allowed (Field place) IsNumber to back bytes fits place (place + byte_len w) refl) (λ k k-is. inner k)
    (λ k k-is xs is. is.0))
    (λ xs is. (is.0, is.1.1))
    (λ xs is. (is.0, (refl, is.1)))

-- ---- what may be absent

pub presence_known : {X : Type 0} (present : ℕ) (o : Option X) → present ≤ 1 → is_some o ≡ (present == 1) → presence o ≡ present
presence_known present None le is = grind (arith, nat_tests)
presence_known present (Some x) le is = grind (arith, nat_tests)

pub presence_again : {X : Type 0} (o : Option X) → is_some o ≡ (presence o == 1)
presence_again None = refl
presence_again (Some x) = refl

presence_small : {X : Type 0} (o : Option X) → presence o ≤ 1
presence_small None = omega arith
presence_small (Some x) = omega arith

pub optional_reads : {X : Type 0} (k : ℕ) (inner_at : List ℕ → ℕ → Result X WireFault) (Is : X → Type 0) (text : X → List ℕ) (bytes : List ℕ) (fits : IsBytes bytes) (place next : ℕ) → next ≡ place + 1 + 8 * k
    → Reads bytes (place + 1) Is text (λ x. next) (inner_at bytes (place + 1)) → Reads bytes place (λ o. IfSome o Is) (λ o. one (presence o) ++ guarded k text o) (λ o. next) (optional_at k inner_at bytes place)
unfolding optional_at
optional_reads {X} k inner_at Is text bytes fits place next e inner =
    renamed (λ (o : Option X). IfSome o Is)
    (step presence (byte_to_reads bytes fits place (place + 1) 1 (omega arith) refl) (λ present present-is. guarded_reads (present == 1) k inner_at Is text bytes fits (place + 1) next e inner)
    (λ present present-is o is. presence_known present o present-is is.there))
    (λ o is. is.1.inner)
    (λ o is. (presence_small o, record { there = presence_again o; inner = is }))

-- ---- each item of a list, and each two

pub all_map : {X : Type 0} (P Q : X → Type 0) → ((x : X) → P x → Q x) → (xs : List X) → AllByRecursion P xs → AllByRecursion Q xs
all_map P Q f [] h = tt
all_map P Q f (x ∷ xs) h = (f x h.0, all_map P Q f xs h.1)

all_both : {X : Type 0} (P Q S : X → Type 0) → ((x : X) → P x → Q x → S x) → (xs : List X) → AllByRecursion P xs → AllByRecursion Q xs → AllByRecursion S xs
all_both P Q S f [] h g = tt
all_both P Q S f (x ∷ xs) h g = (f x h.0 g.0, all_both P Q S f xs h.1 g.1)

all_held : {X : Type 0} (P : X → Type 0) → ((x : X) → P x) → (xs : List X) → AllByRecursion P xs
all_held P f [] = tt
all_held P f (x ∷ xs) = (f x, all_held P f xs)

-- the test of a list and what it says
pub all_passed : {X : Type 0} (test : X → Bool) (P : X → Type 0) → ((x : X) → test x ≡ true → P x) → (xs : List X) → list_all test xs ≡ true → AllByRecursion P xs
all_passed test P f [] t = tt
all_passed test P f (x ∷ xs) t = let h = and_parts (test x) (list_all test xs) t in (f x h.0, all_passed test P f xs h.1)

pub all_pass : {X : Type 0} (test : X → Bool) (P : X → Type 0) → ((x : X) → P x → test x ≡ true) → (xs : List X) → AllByRecursion P xs → list_all test xs ≡ true
all_pass test P f [] h = refl
all_pass test P f (x ∷ xs) h = and_from (test x) (list_all test xs) (f x h.0) (all_pass test P f xs h.1)

-- an item that fits, and goes with each one before it
pub record IsNext {X : Type 0} (Fits : X → Type 0) (R : X → X → Type 0) (before : List X) (x : X) : Type 0 where
  pub fits : Fits x
  pub goes : AllByRecursion (λ (b : X). R b x) before

-- items that fit, each of which goes with all behind it
record AreNext {X : Type 0} (Fits : X → Type 0) (R : X → X → Type 0) (Pairs : List X → Type 0) (before xs : List X) : Type 0 where
  each : AllByRecursion Fits xs
  pairs : Pairs xs
  goes : AllByRecursion (λ (b : X). AllByRecursion (R b) xs) before

module _ {X : Type 0} (Fits : X → Type 0) (R : X → X → Type 0) (Pairs : List X → Type 0) (none : Pairs []) (more : (x : X) (xs : List X) → AllByRecursion (R x) xs → Pairs xs → Pairs (x ∷ xs)) (less : (x : X) (xs : List X) → Pairs (x ∷ xs) → AllByRecursion (R x) xs × Pairs xs) where
  are_next : (before xs : List X) → Row (IsNext Fits R) before xs → AreNext Fits R Pairs before xs
  are_next before [] r = record { each = tt; pairs = none; goes = all_held (λ (b : X). AllByRecursion (R b) []) (λ b. tt) before }
  are_next before (x ∷ xs) r =
      let z = are_next (before ++ x ∷ []) xs r.1 in
      let g = all_parted (λ (b : X). AllByRecursion (R b) xs) before (x ∷ []) z.goes in
      record {
        each = (r.0.fits, z.each);
        pairs = more x xs g.1.0 z.pairs;
        goes = all_both (λ (b : X). R b x) (λ (b : X). AllByRecursion (R b) xs) (λ (b : X). AllByRecursion (R b) (x ∷ xs)) (λ b p q. (p, q)) before r.0.goes g.0;
      }

  next_are : (before xs : List X) → AreNext Fits R Pairs before xs → Row (IsNext Fits R) before xs
  next_are before [] a = tt
  next_are before (x ∷ xs) a =
      let l = less x xs a.pairs in (
        record { fits = a.each.0; goes = all_map (λ (b : X). AllByRecursion (R b) (x ∷ xs)) (λ (b : X). R b x) (λ b p. p.0) before a.goes },
        next_are (before ++ x ∷ []) xs (record {
          each = a.each.1;
          pairs = l.1;
          goes = all_joined (λ (b : X). AllByRecursion (R b) xs) before (x ∷ []) (all_map (λ (b : X). AllByRecursion (R b) (x ∷ xs)) (λ (b : X). AllByRecursion (R b) xs) (λ b p. p.1) before a.goes) (l.0, tt);
        }),
      )

  -- of a whole list
  pub row_to : (xs : List X) → Row (IsNext Fits R) [] xs → AllByRecursion Fits xs × Pairs xs
  row_to xs r = let a = are_next [] xs r in (a.each, a.pairs)

  pub row_from : (xs : List X) → AllByRecursion Fits xs → Pairs xs → Row (IsNext Fits R) [] xs
  row_from xs each pairs = next_are [] xs (record { each = each; pairs = pairs; goes = tt })
