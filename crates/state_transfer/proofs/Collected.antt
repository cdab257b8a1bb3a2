-- What is kept, as a collection.
use Rattle.std.proofs.Common.{◌≡◌, ℕ, ◌+◌, ◌-◌, ◌*◌, ◌/◌, ◌<◌, ◌≤◌, Bool, true, false, cond, List, [], ◌∷◌, length, take, set, Option, Some, None, refl, sym, ap, ◌∙◌, arith}
use Rattle.std.specs.Prelude.{◌%◌, min}
use Rattle.std.proofs.lemmas.List.{length-set}
use Rattle.std.specs.List.{list_all}
use Rattle.state_transfer.specs.declared.incoming.Of.{Of}
use Rattle.tw_types.specs.Collections.{Collection, Piece, piece_size, place_count, begun, joined, with_piece, is_whole, collected_bytes, joined_answer, Part, Whole}
use Rattle.state_transfer.specs.Incoming.{pieces_in, collected, IsOf, is_kept}
use Rattle.state_transfer.proofs.Places.{whole_marks, nothing_there, put_at, IsPut, pieces_put, whole_bytes}

abbrev pub collection_of : Of → List Bool → List ℕ → Collection
collection_of o marks room = record { from = o.from; position = o.position; total = o.total; pieces = pieces_in o.total marks room 0 (place_count o.total) }

some_is : (a b : Collection) → Some a ≡ Some b → a ≡ b
some_is a b e = cc

-- a collection that begins has no piece
pub begins : (o : Of) (p : Piece) (room : List ℕ) → IsOf o p → collection_of o (false ∷ false ∷ false ∷ false ∷ []) room ≡ begun p
begins o p room is = rw (nothing_there o.total room (place_count o.total), is.from, is.position, is.total) refl

-- one of another snapshot isn't joined
pub joins_none : (kept : Option Of) (o : Of) (p : Piece) (marks : List Bool) (room : List ℕ) → IsOf o p → is_kept kept o ≡ false → joined p (collected kept marks room) ≡ begun p
joins_none None o p marks room is other = refl
joins_none (Some k) o p marks room is other = rw (is.from, is.position, is.total, other) refl

-- that of this snapshot is
pub joins_same : (kept : Option Of) (o : Of) (p : Piece) (marks : List Bool) (room : List ℕ) → IsOf o p → is_kept kept o ≡ true → collected kept marks room ≡ Some (joined p (collected kept marks room))
joins_same None o p marks room is same = absurd cc
joins_same (Some k) o p marks room is same = rw (is.from, is.position, is.total, same) refl

-- a piece is put at its place
pub puts : (o : Of) (p : Piece) (c : Collection) (marks : List Bool) (room : List ℕ) (k : ℕ) → IsOf o p → p.offset / piece_size ≡ k → IsPut o.total k p.bytes room → k < length marks →
    collected (Some o) marks room ≡ Some c → collection_of o (set marks k true) (put_at (k * piece_size) p.bytes room) ≡ with_piece p c
puts o p c marks room k is at put mark there =
    let same : collection_of o marks room ≡ c = some_is (collection_of o marks room) c there in
    ap (λ (xs : List (Option (List ℕ))). record { from = o.from; position = o.position; total = o.total; pieces = xs }) (pieces_put o.total k marks p.bytes room put mark (place_count o.total) ∙ ap (λ (i : ℕ). set (pieces_in o.total marks room 0 (place_count o.total)) i (Some p.bytes)) (sym at))
    ∙ ap (with_piece p) same

-- it is whole where each place is marked
pub whole_is : (o : Of) (marks : List Bool) (room : List ℕ) → o.total ≤ 4096 → length marks ≡ 4 → is_whole (collection_of o marks room) ≡ list_all (λ (mark : Bool). mark) (take ((o.total + 1023) / 1024) marks)
whole_is o marks room most four = whole_marks o.total marks room (place_count o.total) (omega arith)

pub bytes_of_whole : (o : Of) (marks : List Bool) (room : List ℕ) → is_whole (collection_of o marks room) ≡ true → collected_bytes (Some (collection_of o marks room)) ≡ take o.total room
bytes_of_whole o marks room whole = rw whole (whole_bytes o.total marks room whole)

pub bytes_of_part : (o : Of) (marks : List Bool) (room : List ℕ) → is_whole (collection_of o marks room) ≡ false → collected_bytes (Some (collection_of o marks room)) ≡ []
bytes_of_part o marks room part = rw part refl

-- ---- a piece is taken

-- What is kept before a piece joins, and after it: the collection is that of its snapshot, and the piece is put into the room.
pub record IsTaken (o : Of) (p : Piece) (kept kept' : Option Of) (marks marks' : List Bool) (room room' : List ℕ) (start : ℕ) : Type 0 where
  pub of : IsOf o p
  pub is : kept' ≡ Some o
  pub joins : collected kept' marks' room ≡ Some (joined p (collected kept marks room))
  pub starts : start ≡ p.offset
  pub aligned : p.offset % 1024 ≡ 0
  pub within : p.offset < p.total
  pub most : p.total ≤ 4096
  pub long : length p.bytes ≡ min 1024 (p.total - p.offset)
  pub space : length room ≡ 4096
  pub four : length marks' ≡ 4
  pub is_put : room' ≡ put_at start p.bytes room

module _ (o : Of) (p : Piece) (kept kept' : Option Of) (marks marks' : List Bool) (room room' : List ℕ) (start : ℕ) (t : IsTaken o p kept kept' marks marks' room room' start) where
  place_is : start / 1024 ≡ p.offset / 1024
  place_is = ap (λ (n : ℕ). n / 1024) t.starts

  times : p.offset / 1024 * 1024 ≡ p.offset
  times = let aligned = t.aligned in omega arith

  fits_in : IsPut o.total (start / 1024) p.bytes room
  fits_in = let a = times in let b = place_is in let long = t.long in let within = t.within in let most = t.most in let all = t.space in let same = t.of.total in record {
    long = omega arith;
    within = omega arith;
  }

  few : start / 1024 < length marks'
  few = let a = place_is in let within = t.within in let most = t.most in let four = t.four in omega arith

  there : collected (Some o) marks' room ≡ Some (joined p (collected kept marks room))
  there = ap (λ (k : Option Of). collected k marks' room) (sym t.is) ∙ t.joins

  puts_it : collection_of o (set marks' (start / 1024) true) room' ≡ with_piece p (joined p (collected kept marks room))
  puts_it =
      let at : start / 1024 * piece_size ≡ start = (let a = times in let b = t.starts in omega arith) in
      ap (collection_of o (set marks' (start / 1024) true)) (t.is_put ∙ ap (λ (n : ℕ). put_at n p.bytes room) (sym at))
      ∙ puts o p (joined p (collected kept marks room)) marks' room (start / 1024) t.of (sym place_is) fits_in few there

  pub collected_then : collected kept' (set marks' (start / 1024) true) room' ≡ Some (with_piece p (joined p (collected kept marks room)))
  collected_then = ap (λ (k : Option Of). collected k (set marks' (start / 1024) true) room') t.is ∙ ap (λ (c : Collection). Some c) puts_it

  pub answered : (whole : Bool) → whole ≡ list_all (λ (mark : Bool). mark) (take ((p.total + 1023) / 1024) (set marks' (start / 1024) true)) →
      joined_answer (with_piece p (joined p (collected kept marks room))) ≡ cond whole (Whole p.position) Part
  answered whole is =
      let most : o.total ≤ 4096 = (let a = t.of.total in let b = t.most in omega arith) in
      let four : length (set marks' (start / 1024) true) ≡ 4 = length-set marks' (start / 1024) true ∙ t.four in
      let test : is_whole (collection_of o (set marks' (start / 1024) true) room') ≡ whole =
      whole_is o (set marks' (start / 1024) true) room' most four ∙ ap (λ (n : ℕ). list_all (λ (mark : Bool). mark) (take ((n + 1023) / 1024) (set marks' (start / 1024) true))) (sym t.of.total) ∙ sym is in
      ap joined_answer (sym puts_it) ∙ ap (λ (b : Bool). cond b (Whole o.position) Part) test ∙ ap (λ (n : ℕ). cond whole (Whole n) Part) (sym t.of.position)
