-- All pieces of one snapshot, as one sender sends them.
use Rattle.std.specs.Prelude.{ℕ, ◌*◌, ◌<◌, ◌≡◌, ◌⊎◌, ◌==◌, ◌%◌, Bool, true, not, ◌&&◌, List, length}
use Rattle.std.specs.List.{AllByRecursion, list_any}
use Rattle.tw_types.specs.declared.message.Decision.{Decision}
use Rattle.tw_types.specs.Collections.{Piece, piece_size, place_count, is_foreign, cut_at}

-- a piece of this snapshot
pub record IsCut (from group position : ℕ) (snapshot : List ℕ) (p : Piece) : Type 0 where
  pub sender : p.from ≡ from
  pub of_group : p.group ≡ group
  pub at : p.position ≡ position
  pub long : p.total ≡ length snapshot
  pub aligned : p.offset % 1024 ≡ 0
  pub within : p.offset < length snapshot
  pub bytes : p.bytes ≡ cut_at snapshot p.offset

-- each piece is foreign to who follows this decision, or one of the snapshot's
abbrev pub AreCuts : Decision → ℕ → ℕ → List ℕ → List Piece → Type 0
AreCuts followed from position snapshot pieces = AllByRecursion (λ p. (is_foreign followed p ≡ true) ⊎ IsCut from followed.group position snapshot p) pieces

-- a piece came that begins at this offset, and wasn't foreign
abbrev pub came : Decision → List Piece → ℕ → Bool
came followed pieces offset = list_any (λ p. not (is_foreign followed p) && (p.offset == offset)) pieces

-- one came of each place of a snapshot of this length
abbrev pub AllCame : Decision → List Piece → ℕ → Type 0
AllCame followed pieces total = (place : ℕ) → place < place_count total → came followed pieces (place * piece_size) ≡ true
