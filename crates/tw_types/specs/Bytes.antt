-- The parts that each datagram is spelled with: numbers, a field that may be absent, and a list behind its length.
use Rattle.std.specs.Prelude.{ℕ, zero, suc, ◌<◌, ◌^◌, List, [], ◌∷◌, ◌++◌, length, Option, Some, None}
use Rattle.std.specs.Int.{Width, w8, w16, w32, w64, to_be_bytes}

-- a number in as many bytes as its width has, the highest byte first
unfoldable pub number_bytes : Width → ℕ → List ℕ
number_bytes w n = to_be_bytes w n

abbrev pub one : ℕ → List ℕ
one n = number_bytes w8 n

abbrev pub two : ℕ → List ℕ
two n = number_bytes w16 n

abbrev pub four : ℕ → List ℕ
four n = number_bytes w32 n

abbrev pub eight : ℕ → List ℕ
eight n = number_bytes w64 n

-- fields, one after the other
abbrev pub fields : List (List ℕ) → List ℕ
fields [] = []
fields (part ∷ parts) = part ++ fields parts

-- so many fields of eight bytes that are zero
abbrev pub zeros : ℕ → List ℕ
zeros zero = []
zeros (suc k) = eight 0 ++ zeros k

-- the number that says whether something is there
abbrev pub presence : {X : Type 0} → Option X → ℕ
presence None = 0
presence (Some x) = 1

-- what may be absent: then its fields, so many of eight bytes, are zero
abbrev pub guarded : {X : Type 0} → ℕ → (X → List ℕ) → Option X → List ℕ
guarded k bytes_of None = zeros k
guarded k bytes_of (Some x) = bytes_of x

-- a list behind the number of its items
abbrev pub counted : {X : Type 0} → Width → (List X → List ℕ) → List X → List ℕ
counted w bytes_of items = number_bytes w (length items) ++ bytes_of items

-- a count, a position, a number of a group, or a reading of a clock
abbrev pub IsCount : ℕ → Type 0
IsCount n = n < 2 ^ 60

-- a team time that may be that of an interval's end or a group's start
abbrev pub IsTime : ℕ → Type 0
IsTime n = n < 2 ^ 61
