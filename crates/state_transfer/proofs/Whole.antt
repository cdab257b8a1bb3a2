-- Pieces of one snapshot make it whole, in whichever order they come.
use Rattle.std.proofs.Common.{◌≡◌, ◌≢◌, ℕ, zero, suc, ◌+◌, ◌-◌, ◌*◌, ◌/◌, ◌<◌, ◌≤◌, min, Bool, true, false, cond, not, List, [], ◌∷◌, ◌++◌, length, get_or, take, drop, set, Option, Some, None, refl, sym, ap, ◌∙◌, arith, ◌⊎◌, inl, inr}
use Rattle.std.specs.Prelude.{nat_eq, ◌&&◌, ◌||◌, ◌%◌}
use Rattle.std.specs.List.{list_all}
use Rattle.std.proofs.lemmas.Bool.Decides.{nat_tests}
use Rattle.std.proofs.lemmas.Bool.{cases_lt, eq-eqb}
use Rattle.std.proofs.lemmas.List.{take-append-drop, drop-drop, take_all, length-take, length-drop, length-set, get_or-set_same, get_or-set_other}
use Rattle.tw_types.specs.declared.message.Decision.{Decision}
use Rattle.tw_types.specs.Collections.{Collection, Piece, piece_size, place_count, begun, joined, is_of_piece, with_piece, is_foreign, after_piece, after_pieces, is_whole, piece_answer, joined_answer, collected_bytes, cut_at, Foreign, Part, Whole}
use Rattle.tw_types.specs.declared.datagram.Body.{Body}
use Rattle.tw_types.specs.declared.datagram.Body.TheVariants as bodies
use Rattle.state_transfer.specs.Pieces.{piece_of, Serves}
use Rattle.state_transfer.specs.Incoming.{pieces_in}
use Rattle.state_transfer.specs.Transfers.{IsCut, AreCuts, came, AllCame}
use Rattle.state_transfer.proofs.Places.{whole_marks, nothing_there, put_at, IsPut, pieces_put, whole_bytes}

-- a piece that is put where it stands changes nothing
put_again : (start : ℕ) (room : List ℕ) (text : List ℕ) → text ≡ take (length text) (drop start room) → put_at start text room ≡ room
put_again start room text is =
    ap (λ (xs : List ℕ). take start room ++ (xs ++ drop (start + length text) room)) is
    ∙ ap (λ (xs : List ℕ). take start room ++ (take (length text) (drop start room) ++ xs)) (ap (λ (n : ℕ). drop n room) (omega arith) ∙ sym (drop-drop (length text) start room))
    ∙ ap (λ (xs : List ℕ). take start room ++ xs) (take-append-drop (length text) (drop start room)) ∙ take-append-drop start room

-- ---- marks and what came

all_marked : (marks : List Bool) (n : ℕ) → n ≤ length marks → ((k : ℕ) → k < n → get_or marks k false ≡ true) → list_all (λ (mark : Bool). mark) (take n marks) ≡ true
all_marked marks zero le h = refl
all_marked [] (suc n) le h = absurd (omega arith)
all_marked (m ∷ marks) (suc n) le h = rw (h 0 (omega arith)) (all_marked marks n (omega arith) (λ k lt. h (suc k) (omega arith)))

each_marked : (marks : List Bool) (n : ℕ) → list_all (λ (mark : Bool). mark) (take n marks) ≡ true → (k : ℕ) → k < n → k < length marks → get_or marks k false ≡ true
each_marked marks zero all k lt there = absurd (omega arith)
each_marked [] (suc n) all k lt there = absurd (omega arith)
each_marked (true ∷ marks) (suc n) all zero lt there = refl
each_marked (true ∷ marks) (suc n) all (suc k) lt there = each_marked marks n all k (omega arith) (omega arith)
each_marked (false ∷ marks) (suc n) all k lt there = absurd cc

or_false : (b : Bool) → b ≡ (b || false)
or_false true = refl
or_false false = refl

or_true : (b : Bool) → true ≡ (b || true)
or_true true = refl
or_true false = refl

or_assoc : (a b c : Bool) → ((a || b) || c) ≡ (a || (b || c))
or_assoc true b c = refl
or_assoc false b c = refl

or_swap : (a b : Bool) → (a || b) ≡ (b || a)
or_swap true true = refl
or_swap true false = refl
or_swap false true = refl
or_swap false false = refl

-- the marks after some pieces
abbrev marks_after : Decision → List Piece → List Bool → List Bool
marks_after followed [] marks = marks
marks_after followed (p ∷ ps) marks = marks_after followed ps (cond (is_foreign followed p) marks (set marks (p.offset / piece_size) true))

module _ (followed : Decision) (from position : ℕ) (snapshot : List ℕ) (most : length snapshot ≤ 4096) where
  abbrev count : ℕ
  count = place_count (length snapshot)

  abbrev made : List Bool → Collection
  made marks = record { from = from; position = position; total = length snapshot; pieces = pieces_in (length snapshot) marks snapshot 0 count }

  abbrev none : List Bool
  none = false ∷ false ∷ false ∷ false ∷ []

  -- what is collected is of these marks
  abbrev Holds : Option Collection → List Bool → Type 0
  Holds c marks = (c ≡ Some (made marks)) ⊎ ((c ≡ None) × (marks ≡ none))

  begins : (p : Piece) → IsCut from followed.group position snapshot p → begun p ≡ made none
  begins p is = rw (is.sender, is.at, is.long, nothing_there (length snapshot) snapshot count) refl

  same : (p : Piece) (marks : List Bool) → IsCut from followed.group position snapshot p → is_of_piece p (made marks) ≡ true
  same p marks is = rw (is.sender, is.at, is.long, eq-eqb from from refl, eq-eqb position position refl, eq-eqb (length snapshot) (length snapshot) refl) refl

  joins : (p : Piece) (c : Option Collection) (marks : List Bool) → IsCut from followed.group position snapshot p → Holds c marks → joined p c ≡ made marks
  joins p c marks is (inl e) = ap (joined p) e ∙ ap (λ (b : Bool). cond b (made marks) (begun p)) (same p marks is)
  joins p c marks is (inr e) = ap (joined p) e.0 ∙ begins p is ∙ ap made (sym e.1)

  length_cut : (p : Piece) → IsCut from followed.group position snapshot p → length p.bytes ≡ min 1024 (length snapshot - p.offset)
  length_cut p is = ap length is.bytes ∙ length-take 1024 (drop p.offset snapshot) ∙ ap (min 1024) (length-drop p.offset snapshot)

  own_bytes : (p : Piece) → IsCut from followed.group position snapshot p → p.bytes ≡ take (length p.bytes) (drop p.offset snapshot)
  own_bytes p is = elim (cases_lt (length snapshot - p.offset) 1024) [
    | inl lt ↦ (let len = length_cut p is in is.bytes ∙ take_all 1024 (drop p.offset snapshot) (omega (arith, length-drop p.offset snapshot)) ∙ sym (take_all (length p.bytes) (drop p.offset snapshot) (omega (arith, length-drop p.offset snapshot, len))))
    | inr le ↦ (let len = length_cut p is in let full : 1024 ≡ length p.bytes = omega (arith, len) in is.bytes ∙ ap (λ (n : ℕ). take n (drop p.offset snapshot)) full)
  ]

  puts : (p : Piece) (marks : List Bool) → length marks ≡ 4 → IsCut from followed.group position snapshot p → with_piece p (made marks) ≡ made (set marks (p.offset / piece_size) true)
  puts p marks four is =
      let k : ℕ = p.offset / piece_size in
      let aligned = is.aligned in
      let within = is.within in
      let start : k * piece_size ≡ p.offset = omega arith in
      let len = length_cut p is in
      let put : IsPut (length snapshot) k p.bytes snapshot = record { long = omega (arith, len); within = omega (arith, len) } in
      let again : put_at (k * piece_size) p.bytes snapshot ≡ snapshot = put_again (k * piece_size) snapshot p.bytes (own_bytes p is ∙ ap (λ (n : ℕ). take (length p.bytes) (drop n snapshot)) (sym start)) in
      ap (λ (xs : List (Option (List ℕ))). record { from = from; position = position; total = length snapshot; pieces = xs })
      (sym (pieces_put (length snapshot) k marks p.bytes snapshot put (omega arith) count) ∙ ap (λ (xs : List ℕ). pieces_in (length snapshot) (set marks k true) xs 0 count) again)

  step : (p : Piece) (c : Option Collection) (marks : List Bool) → length marks ≡ 4 → (is_foreign followed p ≡ true) ⊎ IsCut from followed.group position snapshot p → Holds c marks →
      Holds (after_piece followed p c) (cond (is_foreign followed p) marks (set marks (p.offset / piece_size) true))
  step p c marks four is h = go (is_foreign followed p) refl is
    where
      go : (b : Bool) → is_foreign followed p ≡ b → (b ≡ true) ⊎ IsCut from followed.group position snapshot p →
          Holds (cond b c (Some (with_piece p (joined p c)))) (cond b marks (set marks (p.offset / piece_size) true))
      go true e is = h
      go false e (inl wrong) = absurd cc
      go false e (inr cut) = inl (ap (λ (x : Collection). Some x) (ap (with_piece p) (joins p c marks cut h) ∙ puts p marks four cut))

  four_still : (p : Piece) (marks : List Bool) → length marks ≡ 4 → length (cond (is_foreign followed p) marks (set marks (p.offset / piece_size) true)) ≡ 4
  four_still p marks four = go (is_foreign followed p)
    where
      go : (b : Bool) → length (cond b marks (set marks (p.offset / piece_size) true)) ≡ 4
      go true = four
      go false = length-set marks (p.offset / piece_size) true ∙ four

  all_four : (ps : List Piece) (marks : List Bool) → length marks ≡ 4 → length (marks_after followed ps marks) ≡ 4
  all_four [] marks four = four
  all_four (p ∷ ps) marks four = all_four ps (cond (is_foreign followed p) marks (set marks (p.offset / piece_size) true)) (four_still p marks four)

  held : (ps : List Piece) (c : Option Collection) (marks : List Bool) → length marks ≡ 4 → AreCuts followed from position snapshot ps → Holds c marks → Holds (after_pieces followed ps c) (marks_after followed ps marks)
  held [] c marks four are h = h
  held (p ∷ ps) c marks four are h =
      held ps (after_piece followed p c) (cond (is_foreign followed p) marks (set marks (p.offset / piece_size) true)) (four_still p marks four) are.1 (step p c marks four are.0 h)

  -- ---- a place is marked exactly where a piece of it came

  here_of : (p : Piece) (marks : List Bool) (k : ℕ) → k < 4 → length marks ≡ 4 → IsCut from followed.group position snapshot p →
      get_or (set marks (p.offset / piece_size) true) k false ≡ (get_or marks k false || nat_eq p.offset (k * piece_size))
  here_of p marks k lt four cut = go (nat_eq p.offset (k * piece_size)) refl
    where
      times : p.offset / piece_size * piece_size ≡ p.offset
      times = let aligned = cut.aligned in omega arith

      place : nat_eq p.offset (k * piece_size) ≡ true → p.offset / piece_size ≡ k
      place e = let t = times in let same : p.offset ≡ k * piece_size = grind (arith, nat_tests) in omega arith

      other : nat_eq p.offset (k * piece_size) ≡ false → k ≢ p.offset / piece_size
      other e same = let t = times in let at : p.offset ≡ k * piece_size = omega (arith, same, t) in let yes = eq-eqb p.offset (k * piece_size) at in absurd cc

      go : (b : Bool) → nat_eq p.offset (k * piece_size) ≡ b → get_or (set marks (p.offset / piece_size) true) k false ≡ (get_or marks k false || b)
      go true e = ap (λ (i : ℕ). get_or (set marks i true) k false) (place e) ∙ get_or-set_same marks k true false (omega arith) ∙ or_true (get_or marks k false)
      go false e = get_or-set_other marks (p.offset / piece_size) k true false (other e) ∙ or_false (get_or marks k false)

  one_marked : (p : Piece) (marks : List Bool) (k : ℕ) → k < 4 → length marks ≡ 4 → (is_foreign followed p ≡ true) ⊎ IsCut from followed.group position snapshot p →
      get_or (cond (is_foreign followed p) marks (set marks (p.offset / piece_size) true)) k false ≡ (get_or marks k false || (not (is_foreign followed p) && nat_eq p.offset (k * piece_size)))
  one_marked p marks k lt four is = go (is_foreign followed p) refl is
    where
      go : (b : Bool) → is_foreign followed p ≡ b → (b ≡ true) ⊎ IsCut from followed.group position snapshot p →
          get_or (cond b marks (set marks (p.offset / piece_size) true)) k false ≡ (get_or marks k false || (not b && nat_eq p.offset (k * piece_size)))
      go true e is = or_false (get_or marks k false)
      go false e (inl wrong) = absurd cc
      go false e (inr cut) = here_of p marks k lt four cut

  marked : (ps : List Piece) (marks : List Bool) (k : ℕ) → k < 4 → length marks ≡ 4 → AreCuts followed from position snapshot ps →
      get_or (marks_after followed ps marks) k false ≡ (get_or marks k false || came followed ps (k * piece_size))
  marked [] marks k lt four are = or_false (get_or marks k false)
  marked (p ∷ ps) marks k lt four are =
      marked ps (cond (is_foreign followed p) marks (set marks (p.offset / piece_size) true)) k lt (four_still p marks four) are.1
      ∙ ap (λ (b : Bool). b || came followed ps (k * piece_size)) (one_marked p marks k lt four are.0)
      ∙ or_assoc (get_or marks k false) (not (is_foreign followed p) && nat_eq p.offset (k * piece_size)) (came followed ps (k * piece_size))

  none_marked : (k : ℕ) → get_or none k false ≡ false
  none_marked zero = refl
  none_marked (suc zero) = refl
  none_marked (suc (suc zero)) = refl
  none_marked (suc (suc (suc zero))) = refl
  none_marked (suc (suc (suc (suc k)))) = refl

  few : count ≤ 4
  few = omega (arith, most)

  abbrev last_marks : List Piece → List Bool
  last_marks ps = marks_after followed ps none

  came_marked : (ps : List Piece) → AreCuts followed from position snapshot ps → (k : ℕ) → k < 4 → get_or (last_marks ps) k false ≡ came followed ps (k * piece_size)
  came_marked ps are k lt = marked ps none k lt refl are ∙ ap (λ (b : Bool). b || came followed ps (k * piece_size)) (none_marked k)

  whole_if_came : (ps : List Piece) → AreCuts followed from position snapshot ps → AllCame followed ps (length snapshot) → list_all (λ (mark : Bool). mark) (take count (last_marks ps)) ≡ true
  whole_if_came ps are all = all_marked (last_marks ps) count (let four = all_four ps none refl in let f = few in omega arith) (λ k lt. came_marked ps are k (let f = few in omega arith) ∙ all k lt)

  came_if_whole : (ps : List Piece) → AreCuts followed from position snapshot ps → list_all (λ (mark : Bool). mark) (take count (last_marks ps)) ≡ true → AllCame followed ps (length snapshot)
  came_if_whole ps are all k lt =
      let f = few in
      let four = all_four ps none refl in
      sym (came_marked ps are k (omega arith)) ∙ each_marked (last_marks ps) count all k lt (omega arith)

  marks_whole : (marks : List Bool) → length marks ≡ 4 → is_whole (made marks) ≡ list_all (λ (mark : Bool). mark) (take count marks)
  marks_whole marks four = whole_marks (length snapshot) marks snapshot count (let f = few in omega arith)

  all_bytes : (marks : List Bool) → is_whole (made marks) ≡ true → collected_bytes (Some (made marks)) ≡ snapshot
  all_bytes marks whole = rw whole (whole_bytes (length snapshot) marks snapshot whole ∙ take_all (length snapshot) snapshot (omega arith))

  pub bytes_are : (ps : List Piece) → 1 ≤ length snapshot → AreCuts followed from position snapshot ps → AllCame followed ps (length snapshot) → collected_bytes (after_pieces followed ps None) ≡ snapshot
  bytes_are ps least are all = go (held ps None none refl are (inr (refl, refl)))
    where
      go : Holds (after_pieces followed ps None) (last_marks ps) → collected_bytes (after_pieces followed ps None) ≡ snapshot
      go (inl e) = ap collected_bytes e ∙ all_bytes (last_marks ps) (marks_whole (last_marks ps) (all_four ps none refl) ∙ whole_if_came ps are all)
      go (inr e) =
          let first = sym (came_marked ps are 0 (omega arith)) ∙ ap (λ (m : List Bool). get_or m 0 false) e.1 in
          let there = all 0 (omega arith) in
          absurd cc

  -- ---- the answer to the last piece

  abbrev Cut : Piece → Type 0
  Cut p = IsCut from followed.group position snapshot p

  answer_is : (ps : List Piece) (p : Piece) → AreCuts followed from position snapshot ps → Cut p → is_foreign followed p ≡ false →
      piece_answer followed p (after_pieces followed ps None) ≡ joined_answer (made (set (last_marks ps) (p.offset / piece_size) true))
  answer_is ps p are cut near =
      ap (λ (b : Bool). cond b Foreign (joined_answer (with_piece p (joined p (after_pieces followed ps None))))) near
      ∙ ap (λ (c : Collection). joined_answer (with_piece p c)) (joins p (after_pieces followed ps None) (last_marks ps) cut (held ps None none refl are (inr (refl, refl))))
      ∙ ap joined_answer (puts p (last_marks ps) (all_four ps none refl) cut)

  abbrev then_marks : List Piece → Piece → List Bool
  then_marks ps p = set (last_marks ps) (p.offset / piece_size) true

  then_came : (ps : List Piece) (p : Piece) → AreCuts followed from position snapshot ps → Cut p → is_foreign followed p ≡ false → (k : ℕ) → k < 4 →
      get_or (then_marks ps p) k false ≡ came followed (p ∷ ps) (k * piece_size)
  then_came ps p are cut near k lt =
      here_of p (last_marks ps) k lt (all_four ps none refl) cut
      ∙ ap (λ (b : Bool). b || nat_eq p.offset (k * piece_size)) (came_marked ps are k lt)
      ∙ or_swap (came followed ps (k * piece_size)) (nat_eq p.offset (k * piece_size))
      ∙ ap (λ (b : Bool). (not b && nat_eq p.offset (k * piece_size)) || came followed ps (k * piece_size)) (sym near)

  then_four : (ps : List Piece) (p : Piece) → length (then_marks ps p) ≡ 4
  then_four ps p = length-set (last_marks ps) (p.offset / piece_size) true ∙ all_four ps none refl

  pub whole_answer : (ps : List Piece) (p : Piece) → AreCuts followed from position snapshot ps → Cut p → is_foreign followed p ≡ false → AllCame followed (p ∷ ps) (length snapshot) →
      piece_answer followed p (after_pieces followed ps None) ≡ Whole position
  whole_answer ps p are cut near all =
      let f = few in
      let marks : list_all (λ (mark : Bool). mark) (take count (then_marks ps p)) ≡ true =
      all_marked (then_marks ps p) count (let four = then_four ps p in omega arith) (λ k lt. then_came ps p are cut near k (omega arith) ∙ all k lt) in
      answer_is ps p are cut near ∙ ap (λ (b : Bool). cond b (Whole position) Part) (marks_whole (then_marks ps p) (then_four ps p) ∙ marks)

  pub part_answer : (ps : List Piece) (p : Piece) → AreCuts followed from position snapshot ps → Cut p → is_foreign followed p ≡ false → (AllCame followed (p ∷ ps) (length snapshot) → ⊥) →
      piece_answer followed p (after_pieces followed ps None) ≡ Part
  part_answer ps p are cut near some = answer_is ps p are cut near ∙ ap (λ (b : Bool). cond b (Whole position) Part) (marks_whole (then_marks ps p) (then_four ps p) ∙ go (list_all (λ (mark : Bool). mark) (take count (then_marks ps p))) refl)
    where
      go : (b : Bool) → list_all (λ (mark : Bool). mark) (take count (then_marks ps p)) ≡ b → b ≡ false
      go true e = absurd (some (λ k lt. let f = few in let four = then_four ps p in sym (then_came ps p are cut near k (omega arith)) ∙ each_marked (then_marks ps p) count e k lt (omega arith)))
      go false e = refl

-- what is served is such a piece
pub served : (from group position : ℕ) (snapshot : List ℕ) (offset : ℕ) (body : Body) → offset % 1024 ≡ 0 → offset < length snapshot → Serves group position snapshot offset body →
    IsCut from group position snapshot (piece_of from body)
served from group position snapshot offset (bodies.State g p total o bytes) aligned within is = record {
  sender = refl;
  of_group = is.0;
  at = is.1;
  long = is.2;
  aligned = rw is.3 aligned;
  within = rw is.3 within;
  bytes = is.4 ∙ ap (cut_at snapshot) (sym is.3);
}
served from group position snapshot offset body aligned within is = absurd is
