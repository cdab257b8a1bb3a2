-- Pieces by their places, as marks and a room for all bytes have them.
use Rattle.std.proofs.Common.{◌≡◌, ℕ, zero, suc, ◌+◌, ◌-◌, ◌*◌, ◌<◌, ◌≤◌, min, Bool, true, false, cond, List, [], ◌∷◌, ◌++◌, length, get_or, take, drop, set, Option, Some, None, refl, sym, ap, ◌∙◌, arith, length-append, append_assoc, ◌⊎◌, inl, inr, ◌≢◌}
use Rattle.std.specs.Prelude.{replicate, is_some, ◌&&◌}
use Rattle.std.specs.List.{list_all, flat_map}
use Rattle.std.proofs.lemmas.Bool.{cases_lt}
use Rattle.std.proofs.lemmas.List.{take_at, drop_at, drop-drop, take-append-drop, take-append-le, drop-append-le, take_all, length-take, length-drop, get_or-set_same, get_or-set_other}
use Rattle.std.proofs.lemmas.Slice.{drop-append-drop}
use Rattle.std.proofs.Math.Seq.{take-add}
use Rattle.tw_types.specs.Collections.{piece_size, place_count, piece_bytes}
use Rattle.state_transfer.specs.Incoming.{piece_length, piece_in, pieces_in}

-- ---- marks

marked_first : (marks : List Bool) (place : ℕ) → place < length marks → drop place marks ≡ get_or marks place false ∷ drop (suc place) marks
marked_first [] place lt = absurd (omega arith)
marked_first (m ∷ marks) zero lt = refl
marked_first (m ∷ marks) (suc place) lt = marked_first marks place (omega arith)

some_if : (b : Bool) (bytes : List ℕ) → is_some (cond b (Some bytes) None) ≡ b
some_if true bytes = refl
some_if false bytes = refl

-- each piece is there exactly where its place is marked
whole_from : (total : ℕ) (marks : List Bool) (room : List ℕ) (n place : ℕ) → place + n ≤ length marks →
    list_all is_some (pieces_in total marks room place n) ≡ list_all (λ (mark : Bool). mark) (take n (drop place marks))
whole_from total marks room zero place le = refl
whole_from total marks room (suc n) place le =
    let first = marked_first marks place (omega arith) in
    let rest = whole_from total marks room n (suc place) (omega arith) in
    rw first (rw (some_if (get_or marks place false) (take (piece_length total place) (drop (place * piece_size) room)), rest) refl)

pub whole_marks : (total : ℕ) (marks : List Bool) (room : List ℕ) (n : ℕ) → n ≤ length marks → list_all is_some (pieces_in total marks room 0 n) ≡ list_all (λ (mark : Bool). mark) (take n marks)
whole_marks total marks room n le = whole_from total marks room n 0 (omega arith)

-- nothing is marked
unmarked : (n place : ℕ) → get_or (replicate n false) place false ≡ false
unmarked zero place = refl
unmarked (suc n) zero = refl
unmarked (suc n) (suc place) = unmarked n place

none_there : (total : ℕ) (room : List ℕ) (n place m : ℕ) → pieces_in total (replicate m false) room place n ≡ replicate n None
none_there total room zero place m = refl
none_there total room (suc n) place m = rw (unmarked m place) (ap (λ (xs : List (Option (List ℕ))). None ∷ xs) (none_there total room n (suc place) m))

pub nothing_there : (total : ℕ) (room : List ℕ) (n : ℕ) → pieces_in total (false ∷ false ∷ false ∷ false ∷ []) room 0 n ≡ replicate n None
nothing_there total room n = none_there total room n 0 4

-- ---- a piece that is put at its place

-- a text put at a place of a room
abbrev pub put_at : ℕ → List ℕ → List ℕ → List ℕ
put_at start text room = take start room ++ (text ++ drop (start + length text) room)

own_part : (start : ℕ) (text room : List ℕ) → start ≤ length room → take (length text) (drop start (put_at start text room)) ≡ text
own_part start text room le =
    ap (take (length text)) (drop_at (take start room) (text ++ drop (start + length text) room) start (omega (arith, length-take start room))) ∙ take_at text (drop (start + length text) room) (length text) refl

front_part : (k start n : ℕ) (room behind : List ℕ) → start ≤ length room → k + n ≤ start → take n (drop k (take start room ++ behind)) ≡ take n (drop k (take start room))
front_part k start n room behind le within =
    ap (take n) (drop-append-le k (take start room) behind (omega (arith, length-take start room)))
    ∙ take-append-le n (drop k (take start room)) behind (omega (arith, length-take start room, length-drop k (take start room)))

before_part : (k start n : ℕ) (text room : List ℕ) → start ≤ length room → k + n ≤ start → take n (drop k (put_at start text room)) ≡ take n (drop k room)
before_part k start n text room le within =
    front_part k start n room (text ++ drop (start + length text) room) le within
    ∙ sym (front_part k start n room (drop start room) le within)
    ∙ ap (λ (xs : List ℕ). take n (drop k xs)) (take-append-drop start room)

behind_part : (k start : ℕ) (text room : List ℕ) → start ≤ length room → start + length text ≤ k → drop k (put_at start text room) ≡ drop k room
behind_part k start text room le past =
    ap (drop k) (sym (append_assoc (take start room) text (drop (start + length text) room)))
    ∙ drop-append-drop (start + length text) room (take start room ++ text) k past (omega (arith, length-append (take start room) text, length-take start room))

-- where the piece is put, and how long it is
pub record IsPut (total k : ℕ) (text room : List ℕ) : Type 0 where
  pub long : length text ≡ piece_length total k
  pub within : k * piece_size + length text ≤ length room

module _ (total k : ℕ) (marks : List Bool) (text room : List ℕ) (put : IsPut total k text room) (mark : k < length marks) where
  abbrev new : List ℕ
  new = put_at (k * piece_size) text room

  part_kept : (place : ℕ) → place ≢ k → take (piece_length total place) (drop (place * piece_size) new) ≡ take (piece_length total place) (drop (place * piece_size) room)
  part_kept place ne = let within = put.within in let long = put.long in elim (cases_lt place k) [
    | inl lt ↦ before_part (place * piece_size) (k * piece_size) (piece_length total place) text room (omega arith) (omega arith)
    | inr le ↦ (let above : k < place = more le in ap (take (piece_length total place)) (behind_part (place * piece_size) (k * piece_size) text room (omega arith) (omega (arith, above))))
  ]
    where
      more : k ≤ place → k < place
      more le = grind (arith, ne)

  piece_kept : (place : ℕ) → place ≢ k → piece_in total (set marks k true) new place ≡ piece_in total marks room place
  piece_kept place ne = rw (get_or-set_other marks k place true false ne, part_kept place ne) refl

  piece_put : piece_in total (set marks k true) new k ≡ Some text
  piece_put = rw (get_or-set_same marks k true false mark) (ap (λ (xs : List ℕ). Some xs) (ap (λ (n : ℕ). take n (drop (k * piece_size) new)) (sym put.long) ∙ own_part (k * piece_size) text room (omega (arith, put.within))))

  pieces_kept : (n place : ℕ) → k < place → pieces_in total (set marks k true) new place n ≡ pieces_in total marks room place n
  pieces_kept zero place past = refl
  pieces_kept (suc n) place past = let first = piece_kept place (λ e. absurd (omega (arith, past, e))) in
      ap (λ (x : Option (List ℕ)). x ∷ pieces_in total (set marks k true) new (suc place) n) first ∙ ap (λ (xs : List (Option (List ℕ))). piece_in total marks room place ∷ xs) (pieces_kept n (suc place) (omega arith))

  pieces_from : (n place i : ℕ) → place + i ≡ k → pieces_in total (set marks k true) new place n ≡ set (pieces_in total marks room place n) i (Some text)
  pieces_from zero place i is = refl
  pieces_from (suc n) place zero is =
      let same : place ≡ k = omega arith in
      let first : piece_in total (set marks k true) new place ≡ Some text = ap (piece_in total (set marks k true) new) same ∙ piece_put in
      ap (λ (x : Option (List ℕ)). x ∷ pieces_in total (set marks k true) new (suc place) n) first ∙ ap (λ (xs : List (Option (List ℕ))). Some text ∷ xs) (pieces_kept n (suc place) (omega arith))
  pieces_from (suc n) place (suc i) is = let first = piece_kept place (λ e. absurd (omega (arith, is, e))) in
      ap (λ (x : Option (List ℕ)). x ∷ pieces_in total (set marks k true) new (suc place) n) first ∙ ap (λ (xs : List (Option (List ℕ))). piece_in total marks room place ∷ xs) (pieces_from n (suc place) i (omega arith))

  pub pieces_put : (n : ℕ) → pieces_in total (set marks k true) new 0 n ≡ set (pieces_in total marks room 0 n) k (Some text)
  pieces_put n = pieces_from n 0 k (omega arith)

-- ---- the bytes of a whole collection

joined_parts : (room : List ℕ) (k a b : ℕ) → take a (drop k room) ++ take b (drop (k + a) room) ≡ take (a + b) (drop k room)
joined_parts room k a b = ap (λ (xs : List ℕ). take a (drop k room) ++ take b xs) (ap (λ (i : ℕ). drop i room) (omega arith) ∙ sym (drop-drop a k room)) ∙ sym (take-add a b (drop k room))

-- the pieces behind the first one: where that isn't a full one, none is left
rest_at : (room : List ℕ) (k a b : ℕ) → (a ≡ piece_size) ⊎ (b ≡ 0) → take b (drop (k + piece_size) room) ≡ take b (drop (k + a) room)
rest_at room k a b (inl full) = ap (λ (i : ℕ). take b (drop (k + i) room)) (sym full)
rest_at room k a b (inr none) = rw none refl

full_or_last : (left n : ℕ) → (min piece_size left ≡ piece_size) ⊎ (min (n * piece_size) (left - piece_size) ≡ 0)
full_or_last left n = elim (cases_lt left piece_size) [ inl lt ↦ inr (omega arith) | inr le ↦ inl (omega arith) ]

lengths : (left n : ℕ) → min piece_size left + min (n * piece_size) (left - piece_size) ≡ min (suc n * piece_size) left
lengths left n = omega arith

-- the first bytes of a snapshot, as its pieces have them
parts : (total place n : ℕ) (room : List ℕ) → take (piece_length total place) (drop (place * piece_size) room) ++ take (min (n * piece_size) (total - suc place * piece_size)) (drop (suc place * piece_size) room)
    ≡ take (min (suc n * piece_size) (total - place * piece_size)) (drop (place * piece_size) room)
parts total place n room =
    let left : ℕ = total - place * piece_size in
    let next : total - suc place * piece_size ≡ left - piece_size = omega arith in
    let behind : suc place * piece_size ≡ place * piece_size + piece_size = omega arith in
    let first : List ℕ = take (min piece_size left) (drop (place * piece_size) room) in
    ap (λ (m : ℕ). first ++ take (min (n * piece_size) m) (drop (suc place * piece_size) room)) next
    ∙ ap (λ (i : ℕ). first ++ take (min (n * piece_size) (left - piece_size)) (drop i room)) behind
    ∙ ap (λ (xs : List ℕ). first ++ xs) (rest_at room (place * piece_size) (min piece_size left) (min (n * piece_size) (left - piece_size)) (full_or_last left n))
    ∙ joined_parts room (place * piece_size) (min piece_size left) (min (n * piece_size) (left - piece_size))
    ∙ ap (λ (m : ℕ). take m (drop (place * piece_size) room)) (lengths left n)

whole_bytes_from : (total : ℕ) (marks : List Bool) (room : List ℕ) (n place : ℕ) → list_all is_some (pieces_in total marks room place n) ≡ true →
    flat_map piece_bytes (pieces_in total marks room place n) ≡ take (min (n * piece_size) (total - place * piece_size)) (drop (place * piece_size) room)
whole_bytes_from total marks room zero place all = ap (λ (m : ℕ). take m (drop (place * piece_size) room)) none
  where
    none : 0 ≡ min (0 * piece_size) (total - place * piece_size)
    none = omega arith
whole_bytes_from total marks room (suc n) place all = go (get_or marks place false) refl all (whole_bytes_from total marks room n (suc place))
  where
    go : (b : Bool) → get_or marks place false ≡ b →
        (is_some (cond b (Some (take (piece_length total place) (drop (place * piece_size) room))) None) && list_all is_some (pieces_in total marks room (suc place) n)) ≡ true →
        (list_all is_some (pieces_in total marks room (suc place) n) ≡ true →
        flat_map piece_bytes (pieces_in total marks room (suc place) n) ≡ take (min (n * piece_size) (total - suc place * piece_size)) (drop (suc place * piece_size) room)) →
        piece_bytes (cond b (Some (take (piece_length total place) (drop (place * piece_size) room))) None) ++ flat_map piece_bytes (pieces_in total marks room (suc place) n)
        ≡ take (min (suc n * piece_size) (total - place * piece_size)) (drop (place * piece_size) room)
    go true is rest more = ap (λ (xs : List ℕ). take (piece_length total place) (drop (place * piece_size) room) ++ xs) (more rest) ∙ parts total place n room
    go false is rest more = absurd cc

pub whole_bytes : (total : ℕ) (marks : List Bool) (room : List ℕ) → list_all is_some (pieces_in total marks room 0 (place_count total)) ≡ true →
    flat_map piece_bytes (pieces_in total marks room 0 (place_count total)) ≡ take total room
whole_bytes total marks room all = whole_bytes_from total marks room (place_count total) 0 all ∙ ap (λ (m : ℕ). take m room) all_of_it
  where
    all_of_it : min (place_count total * piece_size) (total - 0 * piece_size) ≡ total
    all_of_it = omega arith

-- ---- a snapshot cut into pieces

pub cut_is : (s : List ℕ) (o e : ℕ) → e ≡ min (o + 1024) (length s) → take (e - o) (drop o s) ≡ take 1024 (drop o s)
cut_is s o e is = elim (cases_lt (length s) (o + 1024)) [
  | inl lt ↦ take_all (e - o) (drop o s) (omega (arith, length-drop o s)) ∙ sym (take_all 1024 (drop o s) (omega (arith, length-drop o s)))
  | inr le ↦ (let full : e - o ≡ 1024 = omega arith in ap (λ (n : ℕ). take n (drop o s)) full)
]
