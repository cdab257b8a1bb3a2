-- Snapshots and the tables that they stand for: each content has its snapshot, and what bytes stand for is a content.
use Rattle.std.proofs.Common.{◌≡◌, ℕ, zero, suc, ◌+◌, ◌*◌, ◌<◌, ◌≤◌, ◌^◌, Bool, true, false, cond, List, [], ◌∷◌, ◌++◌, length, get_or, take, drop, Some, None, refl, sym, ap, arith}
use Rattle.std.specs.Prelude.{nat_eq, nat_lt, ◌&&◌}
use Rattle.std.specs.Int.{w32, w64, from_be_bytes}
use Rattle.std.specs.List.{AllByRecursion, list_all, flat_map}
use Rattle.std.proofs.lemmas.Bool.Decides.{nat_tests}
use Rattle.std.proofs.lemmas.Nat.{from_be_bytes-to_be_bytes_2, from_be_bytes-to_be_bytes_4, from_be_bytes-to_be_bytes_8}
use Rattle.app_table.specs.Machine.{AreBytes, MachineLaws}
use Rattle.app_table.specs.Table.{Entry, Ascends, below, above, with_value, without, is_too_many, after_put, key_of, value_of, after_payload, table_room}
use Rattle.app_table.specs.Snapshots.{FitsBytes, IsContent, entry_bytes, table_bytes, count_in, entry_in, entries_in, entries_of, ascend, is_snapshot, table_of_bytes}
use Rattle.app_table.specs.Entries.{all_filter, all_joined, table_after, table_after_put, table_without}

pub byte_at : (bytes : List ℕ) → AreBytes bytes → (i : ℕ) → get_or bytes i 0 < 256
byte_at [] h i = omega arith
byte_at (b ∷ bytes) h zero = h.0
byte_at (b ∷ bytes) h (suc i) = byte_at bytes h.1 i

pub taken_bytes : (n : ℕ) (bytes : List ℕ) → AreBytes bytes → AreBytes (take n bytes)
taken_bytes zero bytes h = tt
taken_bytes (suc n) [] h = tt
taken_bytes (suc n) (b ∷ bytes) h = (h.0, taken_bytes n bytes h.1)

pub left_bytes : (n : ℕ) (bytes : List ℕ) → AreBytes bytes → AreBytes (drop n bytes)
left_bytes zero bytes h = h
left_bytes (suc n) [] h = tt
left_bytes (suc n) (b ∷ bytes) h = left_bytes n bytes h.1

-- ---- numbers of bytes

below_32 : (bytes : List ℕ) → AreBytes bytes → from_be_bytes w32 bytes < 2 ^ 32
below_32 bytes h = omega (arith, byte_at bytes h 0, byte_at bytes h 1, byte_at bytes h 2, byte_at bytes h 3)

below_64 : (bytes : List ℕ) → AreBytes bytes → from_be_bytes w64 bytes < 2 ^ 64
below_64 bytes h = omega (arith, byte_at bytes h 0, byte_at bytes h 1, byte_at bytes h 2, byte_at bytes h 3, byte_at bytes h 4, byte_at bytes h 5, byte_at bytes h 6, byte_at bytes h 7)

-- ---- keys that ascend, as a test and as a fact

all_above : (key : ℕ) (es : List Entry) → list_all (λ (o : Entry). nat_lt key o.0) es ≡ true → AllByRecursion (λ (o : Entry). key < o.0) es
all_above key [] h = tt
all_above key (e ∷ es) h = go (nat_lt key e.0) refl h (all_above key es)
  where
    go : (b : Bool) → nat_lt key e.0 ≡ b → (b && list_all (λ (o : Entry). nat_lt key o.0) es) ≡ true →
        (list_all (λ (o : Entry). nat_lt key o.0) es ≡ true → AllByRecursion (λ (o : Entry). key < o.0) es) → AllByRecursion (λ (o : Entry). key < o.0) (e ∷ es)
    go true is rest others = (grind (arith, nat_tests), others rest)
    go false is rest others = absurd cc

above_all : (key : ℕ) (es : List Entry) → AllByRecursion (λ (o : Entry). key < o.0) es → list_all (λ (o : Entry). nat_lt key o.0) es ≡ true
above_all key [] h = refl
above_all key (e ∷ es) h = let is : nat_lt key e.0 ≡ true = grind (arith, nat_tests, h.0) in rw is (above_all key es h.1)

pub ascends_is : (es : List Entry) → ascend es ≡ true → Ascends es
ascends_is [] h = tt
ascends_is (e ∷ es) h = go (list_all (λ (o : Entry). nat_lt e.0 o.0) es) refl h (ascends_is es)
  where
    go : (b : Bool) → list_all (λ (o : Entry). nat_lt e.0 o.0) es ≡ b → (b && ascend es) ≡ true → (ascend es ≡ true → Ascends es) → Ascends (e ∷ es)
    go true is rest others = (all_above e.0 es is, others rest)
    go false is rest others = absurd cc

pub is_ascending : (es : List Entry) → Ascends es → ascend es ≡ true
is_ascending [] h = refl
is_ascending (e ∷ es) h = rw (above_all e.0 es h.0) (is_ascending es h.1)

-- ---- entries of bytes

pub length_entries : (n : ℕ) (bytes : List ℕ) → length (entries_in n bytes) ≡ n
length_entries zero bytes = refl
length_entries (suc n) bytes = omega (arith, length_entries n (drop 12 bytes))

entries_fit : (n : ℕ) (bytes : List ℕ) → AreBytes bytes → AllByRecursion FitsBytes (entries_in n bytes)
entries_fit zero bytes h = tt
entries_fit (suc n) bytes h = (
  (below_32 (take 4 bytes) (taken_bytes 4 bytes h), below_64 (take 8 (drop 4 bytes)) (taken_bytes 8 (drop 4 bytes) (left_bytes 4 bytes h))),
  entries_fit n (drop 12 bytes) (left_bytes 12 bytes h),
)

first_again : (e : Entry) (rest : List ℕ) → FitsBytes e → entry_in (entry_bytes e ++ rest) ≡ e
first_again e rest fits = rw (from_be_bytes-to_be_bytes_4 e.0 fits.0, from_be_bytes-to_be_bytes_8 e.1 fits.1) refl

pub entries_again : (es : List Entry) → AllByRecursion FitsBytes es → entries_in (length es) (flat_map entry_bytes es) ≡ es
entries_again [] h = refl
entries_again (e ∷ es) h = rw (first_again e (flat_map entry_bytes es) h.0) (ap (λ xs. e ∷ xs) (entries_again es h.1))

pub length_bytes : (es : List Entry) → length (table_bytes es) ≡ 2 + 12 * length es
length_bytes es = omega (arith, go es)
  where
    go : (xs : List Entry) → length (flat_map entry_bytes xs) ≡ 12 * length xs
    go [] = refl
    go (x ∷ xs) = omega (arith, go xs)

count_again : (es : List Entry) → length es ≤ table_room → count_in (table_bytes es) ≡ length es
count_again es few = from_be_bytes-to_be_bytes_2 (length es) (omega arith)

-- ---- the laws of a table

empty_is : IsContent []
empty_is = record { table = record { ascending = tt; few = omega arith }; fits = tt }

pub again : (es : List Entry) → IsContent es → table_of_bytes (table_bytes es) ≡ Some es
again es is = go (count_again es is.table.few) (entries_again es is.fits) (is_ascending es is.table.ascending) (length_bytes es)
  where
    go : count_in (table_bytes es) ≡ length es → entries_in (length es) (flat_map entry_bytes es) ≡ es → ascend es ≡ true → length (table_bytes es) ≡ 2 + 12 * length es → table_of_bytes (table_bytes es) ≡ Some es
    go count entries up len =
        let all : entries_of (table_bytes es) ≡ es = rw count entries in
        let test : is_snapshot (table_bytes es) ≡ true = rw (all, up, count) (grind (arith, nat_tests, len, is.table.few)) in
        rw test (ap (λ xs. Some xs) all)

some_is : (a b : List Entry) → Some a ≡ Some b → a ≡ b
some_is a b e = cc

few_of : (bytes : List ℕ) → is_snapshot bytes ≡ true → count_in bytes ≤ table_room
few_of bytes t = grind (arith, nat_tests)

up_of : (bytes : List ℕ) → is_snapshot bytes ≡ true → ascend (entries_of bytes) ≡ true
up_of bytes t = grind (arith, nat_tests)

pub content_of : (bytes : List ℕ) → AreBytes bytes → is_snapshot bytes ≡ true → IsContent (entries_of bytes)
content_of bytes h t = record {
  table = record { ascending = ascends_is (entries_of bytes) (up_of bytes t); few = omega (arith, length_entries (count_in bytes) (drop 2 bytes), few_of bytes t) };
  fits = entries_fit (count_in bytes) (drop 2 bytes) (left_bytes 2 bytes h);
}

stood_for_is : (bytes : List ℕ) (es : List Entry) → AreBytes bytes → table_of_bytes bytes ≡ Some es → IsContent es
stood_for_is bytes es h is = go (is_snapshot bytes) refl is
  where
    go : (b : Bool) → is_snapshot bytes ≡ b → cond b (Some (entries_of bytes)) None ≡ Some es → IsContent es
    go true t e = rw (sym (some_is (entries_of bytes) es e)) (content_of bytes h t)
    go false t e = absurd cc

least : (es : List Entry) → IsContent es → 1 ≤ length (table_bytes es)
least es is = omega (arith, length_bytes es)

most : (es : List Entry) → IsContent es → length (table_bytes es) ≤ 4096
most es is = omega (arith, length_bytes es, is.table.few)

each : (es : List Entry) → IsContent es → AreBytes (table_bytes es)
each es is = (omega arith, (omega arith, go es))
  where
    go : (xs : List Entry) → AreBytes (flat_map entry_bytes xs)
    go [] = tt
    go (x ∷ xs) = (omega arith, (omega arith, (omega arith, (omega arith, (omega arith, (omega arith, (omega arith, (omega arith, (omega arith, (omega arith, (omega arith, (omega arith, go xs))))))))))))

-- ---- what is applied fits

fits_with : (key value : ℕ) (es : List Entry) → key < 2 ^ 32 → value < 2 ^ 64 → AllByRecursion FitsBytes es → AllByRecursion FitsBytes (with_value key value es)
fits_with key value es k v h = all_joined FitsBytes (below key es) ((key, value) ∷ above key es) (all_filter FitsBytes (λ (e : Entry). nat_lt e.0 key) es h)
    ((k, v), all_filter FitsBytes (λ (e : Entry). nat_lt key e.0) es h)

fits_put : (key value : ℕ) (es : List Entry) → key < 2 ^ 32 → value < 2 ^ 64 → AllByRecursion FitsBytes es → AllByRecursion FitsBytes (after_put key value es)
fits_put key value es k v h = go (is_too_many key es)
  where
    go : (b : Bool) → AllByRecursion FitsBytes (cond b es (with_value key value es))
    go true = h
    go false = fits_with key value es k v h

fits_without : (key : ℕ) (es : List Entry) → AllByRecursion FitsBytes es → AllByRecursion FitsBytes (without key es)
fits_without key es h = all_joined FitsBytes (below key es) (above key es) (all_filter FitsBytes (λ (e : Entry). nat_lt e.0 key) es h) (all_filter FitsBytes (λ (e : Entry). nat_lt key e.0) es h)

fits_after : (es : List Entry) (payload : List ℕ) → AreBytes payload → AllByRecursion FitsBytes es → AllByRecursion FitsBytes (after_payload es payload)
fits_after es payload bytes h = go (nat_eq (length payload) 12) (nat_eq (length payload) 4)
  where
    go : (twelve four : Bool) → AllByRecursion FitsBytes (cond twelve (after_put (key_of payload) (value_of payload) es) (cond four (without (key_of payload) es) es))
    go true four = fits_put (key_of payload) (value_of payload) es (below_32 (take 4 payload) (taken_bytes 4 payload bytes)) (below_64 (drop 4 payload) (left_bytes 4 payload bytes)) h
    go false true = fits_without (key_of payload) es h
    go false false = h

pub content_after_put : (key value : ℕ) (es : List Entry) → key < 2 ^ 32 → value < 2 ^ 64 → IsContent es → IsContent (after_put key value es)
content_after_put key value es k v is = record { table = table_after_put key value es is.table; fits = fits_put key value es k v is.fits }

pub content_without : (key : ℕ) (es : List Entry) → IsContent es → IsContent (without key es)
content_without key es is = record { table = table_without key es is.table; fits = fits_without key es is.fits }

after_is : (es : List Entry) (payload : List ℕ) → IsContent es → AreBytes payload → IsContent (after_payload es payload)
after_is es payload is bytes = record { table = table_after es payload is.table; fits = fits_after es payload bytes is.fits }

pub table_laws : MachineLaws IsContent [] after_payload table_bytes table_of_bytes
table_laws = record { empty_is = empty_is; after_is = after_is; stood_for_is = stood_for_is; again = again; least = least; most = most; each = each }
