-- Pieces of a snapshot that come one by one from a sender, in any order, and the collection of them.
use Rattle.std.specs.Prelude.{ℕ, ◌+◌, ◌-◌, ◌*◌, ◌/◌, ◌<◌, ◌≡◌, ◌==◌, min, nat_le, nat_lt, Bool, true, false, not, ◌&&◌, ◌||◌, if◌then◌else◌, List, [], ◌∷◌, length, take, drop, set, replicate, Option, Some, None, is_some}
use Rattle.std.specs.List.{list_all, flat_map}
use Rattle.tw_types.specs.declared.message.Decision.{Decision}
use Rattle.tw_types.specs.Decisions.{decision_length}

-- so many bytes a piece has, but for the last one
abbrev pub piece_size : ℕ
piece_size = 1024

-- how many pieces a snapshot of this length has
abbrev pub place_count : ℕ → ℕ
place_count total = (total + (piece_size - 1)) / piece_size

-- A collection: who sends the snapshot, after how many updates it was taken, how long it is, and at each place its piece, where that
-- came.
pub record Collection : Type 0 where
  pub from : ℕ
  pub position : ℕ
  pub total : ℕ
  pub pieces : List (Option (List ℕ))

-- a piece as it comes: of which snapshot it is, at which byte it begins, and its bytes
pub record Piece : Type 0 where
  pub from : ℕ
  pub group : ℕ
  pub position : ℕ
  pub total : ℕ
  pub offset : ℕ
  pub bytes : List ℕ

-- a collection of the snapshot of this piece, of which nothing came
abbrev pub begun : Piece → Collection
begun p = record { from = p.from; position = p.position; total = p.total; pieces = replicate (place_count p.total) None }

abbrev pub is_of_piece : Piece → Collection → Bool
is_of_piece p c = (c.from == p.from) && ((c.position == p.position) && (c.total == p.total))

-- the collection that a piece joins: the one that there is, if it is of that snapshot, or else one that begins
abbrev pub joined : Piece → Option Collection → Collection
joined p None = begun p
joined p (Some c) = if is_of_piece p c then c else begun p

-- with the piece at its place, whether one was there or not
abbrev pub with_piece : Piece → Collection → Collection
with_piece p c = record { from = c.from; position = c.position; total = c.total; pieces = set c.pieces (p.offset / piece_size) (Some p.bytes) }

-- a piece of another group than the followed decision's, or of a list that is longer than that decision's
abbrev pub is_foreign : Decision → Piece → Bool
is_foreign followed p = not (p.group == followed.group) || nat_lt (decision_length followed) p.position

-- the collection after a piece that came to a process which follows a decision
abbrev pub after_piece : Decision → Piece → Option Collection → Option Collection
after_piece followed p c = if is_foreign followed p then c else Some (with_piece p (joined p c))

-- no piece is wanting
abbrev pub is_whole : Collection → Bool
is_whole c = list_all is_some c.pieces

-- what a piece comes to: it is foreign; a piece is still wanting; or the snapshot is whole, and taken after so many updates
pub data Taken : Type 0 where
  Foreign : Taken
  Part : Taken
  Whole : (position : ℕ) → Taken

abbrev pub joined_answer : Collection → Taken
joined_answer c = if is_whole c then Whole c.position else Part

abbrev pub piece_answer : Decision → Piece → Option Collection → Taken
piece_answer followed p c = if is_foreign followed p then Foreign else joined_answer (with_piece p (joined p c))

-- the bytes of a piece that came
abbrev pub piece_bytes : Option (List ℕ) → List ℕ
piece_bytes None = []
piece_bytes (Some bytes) = bytes

-- the snapshot, where no piece is wanting, and else nothing
abbrev pub collected_bytes : Option Collection → List ℕ
collected_bytes None = []
collected_bytes (Some c) = if is_whole c then flat_map piece_bytes c.pieces else []

-- the bytes of a snapshot from an offset on, a piece of them
abbrev pub cut_at : List ℕ → ℕ → List ℕ
cut_at snapshot offset = take piece_size (drop offset snapshot)

-- the collection after many pieces, the first one first
abbrev pub after_pieces : Decision → List Piece → Option Collection → Option Collection
after_pieces followed [] c = c
after_pieces followed (p ∷ ps) c = after_pieces followed ps (after_piece followed p c)
