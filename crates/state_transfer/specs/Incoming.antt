-- The collection that is kept, as a room for all bytes and a mark for each place.
use Rattle.std.specs.Prelude.{ℕ, zero, suc, ◌-◌, ◌*◌, ◌≡◌, ◌≤◌, ◌==◌, min, Bool, false, ◌&&◌, if◌then◌else◌, List, [], ◌∷◌, get_or, take, drop, Option, Some, None}
use Rattle.state_transfer.specs.declared.incoming.Of.{Of}
use Rattle.tw_types.specs.Collections.{Collection, Piece, piece_size, place_count}

-- how long the piece at a place is
abbrev pub piece_length : ℕ → ℕ → ℕ
piece_length total place = min piece_size (total - place * piece_size)

-- the piece at a place, where it is marked
abbrev pub piece_in : ℕ → List Bool → List ℕ → ℕ → Option (List ℕ)
piece_in total marks room place = if get_or marks place false then Some (take (piece_length total place) (drop (place * piece_size) room)) else None

-- so many pieces, from a place on
abbrev pub pieces_in : ℕ → List Bool → List ℕ → ℕ → ℕ → List (Option (List ℕ))
pieces_in total marks room place zero = []
pieces_in total marks room place (suc n) = piece_in total marks room place ∷ pieces_in total marks room (suc place) n

abbrev pub collected : Option Of → List Bool → List ℕ → Option Collection
collected None marks room = None
collected (Some o) marks room = Some (record { from = o.from; position = o.position; total = o.total; pieces = pieces_in o.total marks room 0 (place_count o.total) })

-- a snapshot has 1 to 4,096 bytes
abbrev pub IsSized : Option Of → Type 0
IsSized None = Unit {0}
IsSized (Some o) = (1 ≤ o.total) × (o.total ≤ 4096)

-- a piece of this snapshot
pub record IsOf (o : Of) (p : Piece) : Type 0 where
  pub from : p.from ≡ o.from
  pub position : p.position ≡ o.position
  pub total : p.total ≡ o.total

-- the collection that is there is of this snapshot
abbrev pub is_kept : Option Of → Of → Bool
is_kept None o = false
is_kept (Some k) o = (k.from == o.from) && ((k.position == o.position) && (k.total == o.total))
