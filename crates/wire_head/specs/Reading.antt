-- Reading the fields of a datagram, each at its place, with the first fault that is met.
use Rattle.std.specs.Prelude.{ℕ, zero, suc, ◌+◌, ◌%◌, ◌^◌, ◌≡◌, nat_lt, nat_le, ◌==◌, Bool, true, false, ◌&&◌, if◌then◌else◌, List, length, take, drop, Option, Some, None, Result, Ok, Err}
use Rattle.std.specs.Int.{Width, w8, w32, w64, byte_len, from_be_bytes}
use Rattle.tw_num.specs.declared.interval.Interval.{Interval}
use Rattle.tw_types.specs.declared.team.Team.{Team}
use Rattle.tw_types.specs.declared.datagram.Head.{Head}
use Rattle.tw_types.specs.declared.datagram.Echo.{Echo}
use Rattle.tw_types.specs.declared.datagram.WireFault.{WireFault}
use Rattle.tw_types.specs.declared.datagram.WireFault.TheVariants.{Short, Version, Line, Kind, Field}

-- the first fault, or what is read next
infixl 10 ◌>>=◌
abbrev pub ◌>>=◌ : {A B : Type 0} → Result A WireFault → (A → Result B WireFault) → Result B WireFault
(Ok x) >>= f = f x
(Err e) >>= f = Err e

-- what a reader answered, seen by view, is what reading gives
abbrev pub Gives : {X Y : Type 0} → (X → Y) → Result X WireFault → Result Y WireFault → Type 0
Gives view (Ok x) read = read ≡ Ok (view x)
Gives view (Err e) read = read ≡ Err e

-- the number of this width that begins at a place, the highest byte first
unfoldable pub number_at : Width → List ℕ → ℕ → Result ℕ WireFault
number_at w bytes place = if nat_lt (length bytes) (place + byte_len w) then Err Short else Ok (from_be_bytes w (take (byte_len w) (drop place bytes)))

-- a value, where it is allowed
abbrev pub where_allowed : {X : Type 0} → Bool → WireFault → X → Result X WireFault
where_allowed allowed fault x = if allowed then Ok x else Err fault

-- the number at a place, where the test allows it
unfoldable pub checked_at : Width → (ℕ → Bool) → WireFault → List ℕ → ℕ → Result ℕ WireFault
checked_at w allowed fault bytes place = do
  n ← number_at w bytes place
  where_allowed (allowed n) fault n

abbrev pub field_at : Width → (ℕ → Bool) → List ℕ → ℕ → Result ℕ WireFault
field_at w allowed bytes place = checked_at w allowed (Field place) bytes place

abbrev pub is_count : ℕ → Bool
is_count n = nat_lt n (2 ^ 60)

abbrev pub is_positive : ℕ → Bool
is_positive n = nat_le 1 n && nat_lt n (2 ^ 60)

abbrev pub is_time : ℕ → Bool
is_time n = nat_lt n (2 ^ 61)

-- a time that isn't below this one
abbrev pub is_time_from : ℕ → ℕ → Bool
is_time_from lo n = nat_le lo n && nat_lt n (2 ^ 61)

-- one of the eight kinds of bodies
abbrev pub is_kind : ℕ → Bool
is_kind n = nat_le 1 n && nat_le n 8

abbrev pub count_at : List ℕ → ℕ → Result ℕ WireFault
count_at bytes place = field_at w64 is_count bytes place

-- a count that isn't 0
abbrev pub positive_at : List ℕ → ℕ → Result ℕ WireFault
positive_at bytes place = field_at w64 is_positive bytes place

abbrev pub time_at : List ℕ → ℕ → Result ℕ WireFault
time_at bytes place = field_at w64 is_time bytes place

-- a number that is at most this one
abbrev pub byte_to : ℕ → List ℕ → ℕ → Result ℕ WireFault
byte_to most bytes place = field_at w8 (λ n. nat_le n most) bytes place

-- a number that is below this one
abbrev pub byte_below : ℕ → List ℕ → ℕ → Result ℕ WireFault
byte_below limit bytes place = field_at w8 (λ n. nat_lt n limit) bytes place

-- so many bytes from a place on
unfoldable pub text_at : ℕ → List ℕ → ℕ → Result (List ℕ) WireFault
text_at k bytes place = if nat_lt (length (drop place bytes)) k then Err Short else Ok (take k (drop place bytes))

-- so many fields of eight bytes that are zero
unfoldable pub zeros_at : ℕ → List ℕ → ℕ → Result (Unit {0}) WireFault
zeros_at zero bytes place = Ok tt
zeros_at (suc k) bytes place = do
  none ← field_at w64 (λ n. n == 0) bytes place
  zeros_at k bytes (place + 8)

-- what may be absent: then so many fields of eight bytes are zero in its place
unfoldable pub guarded_at : {X : Type 0} → Bool → ℕ → (List ℕ → ℕ → Result X WireFault) → List ℕ → ℕ → Result (Option X) WireFault
guarded_at true k inner_at bytes place = do
  x ← inner_at bytes place
  Ok (Some x)
guarded_at false k inner_at bytes place = do
  none ← zeros_at k bytes place
  Ok None

unfoldable pub interval_at : List ℕ → ℕ → Result Interval WireFault
interval_at bytes place = do
  lo ← time_at bytes place
  hi ← field_at w64 (is_time_from lo) bytes (place + 8)
  Ok (record { lo = lo; hi = hi })

unfoldable pub echo_at : List ℕ → ℕ → Result Echo WireFault
echo_at bytes place = do
  a ← count_at bytes place
  b ← count_at bytes (place + 8)
  Ok (record { a = a; b = b })

-- a head with its kind: the first 57 bytes
unfoldable pub head_at : Team → List ℕ → Result (Head × ℕ) WireFault
head_at team bytes = do
  version ← checked_at w8 (λ n. n == 1) Version bytes 0
  kind ← checked_at w8 is_kind Kind bytes 1
  line ← checked_at w32 (λ n. n == team.line) Line bytes 2
  from ← number_at w8 bytes 6
  to ← number_at w8 bytes 7
  incarnation ← count_at bytes 8
  sent ← count_at bytes 16
  flags ← byte_to 3 bytes 24
  interval ← guarded_at (flags % 2 == 1) 2 interval_at bytes 25
  echo ← guarded_at (nat_le 2 flags) 2 echo_at bytes 41
  Ok (record { from = from; to = to; incarnation = incarnation; sent = sent; interval = interval; echo = echo }, kind)
