-- A piece of a snapshot as the body of a datagram.
use Rattle.std.specs.Prelude.{ℕ, ◌≡◌, List, [], length}
use Rattle.tw_types.specs.declared.datagram.Body.{Body}
use Rattle.tw_types.specs.declared.datagram.Body.TheVariants as bodies
use Rattle.tw_types.specs.Collections.{Piece, cut_at}
use Rattle.tw_types.specs.Ranges.{StateFits}

-- the piece that a body has, from this sender; only a State body has one
abbrev pub piece_of : ℕ → Body → Piece
piece_of from (bodies.State group position total offset bytes) = record { from = from; group = group; position = position; total = total; offset = offset; bytes = bytes.items }
piece_of from body = record { from = from; group = 0; position = 0; total = 0; offset = 0; bytes = [] }

-- the body has a piece, in the ranges of the wire
abbrev pub HasPiece : Body → Type 0
HasPiece (bodies.State group position total offset bytes) = StateFits group position total offset bytes.items
HasPiece body = ⊥

-- the body is the piece of this snapshot at an offset
abbrev pub Serves : ℕ → ℕ → List ℕ → ℕ → Body → Type 0
Serves group position snapshot offset (bodies.State g p total o bytes) =
    (g ≡ group) × (p ≡ position) × (total ≡ length snapshot) × (o ≡ offset) × (bytes.items ≡ cut_at snapshot offset)
Serves group position snapshot offset body = ⊥
