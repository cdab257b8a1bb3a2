-- Entries of bytes, by their places.
use Rattle.std.proofs.Common.{◌≡◌, ℕ, zero, suc, ◌+◌, ◌*◌, ◌-◌, ◌<◌, ◌≤◌, Bool, true, false, List, [], ◌∷◌, ◌++◌, length, get_or, take, drop, refl, sym, ap, ◌∙◌, arith, append_assoc, inl, inr, Fits, cond, Some, None}
use Rattle.std.specs.List.{flat_map}
use Rattle.std.specs.Int.{w8, w16, w32, w64, to_be_bytes, from_be_bytes}
use Rattle.std.proofs.lemmas.Nat.{be_bytes_2, be_bytes_4, be_bytes_8}
use Rattle.std.proofs.lemmas.Bool.Decides.{nat_tests}
use Rattle.std.proofs.lemmas.Bool.{cases_lt}
use Rattle.std.proofs.Math.Seq.{take-add}
use Rattle.std.proofs.lemmas.List.{take_at, drop_at, drop-drop, take-append-drop, length-take, length-drop}
use Rattle.app_table.specs.Machine.{AreBytes}
use Rattle.app_table.specs.Table.{Entry, Ascends}
use Rattle.app_table.specs.Snapshots.{entry_bytes, table_bytes, count_in, entry_in, entries_in, entries_of, ascend, is_snapshot, table_of_bytes}
use Rattle.app_table.specs.Entries.{all_later}
use Rattle.app_table.specs.TableLaws.{ascends_is, is_ascending, length_entries, taken_bytes, left_bytes, byte_at}
use Rattle.app_table.proofs.Found.{key_at, rises}

-- ---- the entry at a place

further : (place : ℕ) (bytes : List ℕ) → drop (12 * place) (drop 12 bytes) ≡ drop (12 * suc place) bytes
further place bytes = drop-drop (12 * place) 12 bytes ∙ ap (λ (k : ℕ). drop k bytes) (omega arith)

pub entry_there : (n place : ℕ) (bytes : List ℕ) → place < n → get_or (entries_in n bytes) place (0, 0) ≡ entry_in (drop (12 * place) bytes)
entry_there zero place bytes lt = absurd (omega arith)
entry_there (suc n) zero bytes lt = refl
entry_there (suc n) (suc p) bytes lt = entry_there n p (drop 12 bytes) (omega arith) ∙ ap entry_in (further p bytes)

one_more_taken : (n place : ℕ) (bytes : List ℕ) → place < n → take (suc place) (entries_in n bytes) ≡ take place (entries_in n bytes) ++ entry_in (drop (12 * place) bytes) ∷ []
one_more_taken zero place bytes lt = absurd (omega arith)
one_more_taken (suc n) zero bytes lt = refl
one_more_taken (suc n) (suc p) bytes lt = ap (λ xs. entry_in bytes ∷ xs) (one_more_taken n p (drop 12 bytes) (omega arith) ∙ ap (λ (b : List ℕ). take p (entries_in n (drop 12 bytes)) ++ entry_in b ∷ []) (further p bytes))

-- behind the two bytes of the count
pub behind_count : (place : ℕ) (bytes : List ℕ) → drop (12 * place) (drop 2 bytes) ≡ drop (2 + 12 * place) bytes
behind_count place bytes = drop-drop (12 * place) 2 bytes

-- so many entries, and the one behind them
pub taken_with : (n place : ℕ) (bytes : List ℕ) (e : Entry) → place < n → e ≡ entry_in (drop (2 + 12 * place) bytes) → take place (entries_in n (drop 2 bytes)) ++ e ∷ [] ≡ take (place + 1) (entries_in n (drop 2 bytes))
taken_with n place bytes e lt is =
    let next : suc place ≡ place + 1 = omega arith in
    ap (λ (x : Entry). take place (entries_in n (drop 2 bytes)) ++ x ∷ []) (is ∙ sym (ap entry_in (behind_count place bytes)))
    ∙ sym (one_more_taken n place (drop 2 bytes) lt) ∙ ap (λ (k : ℕ). take k (entries_in n (drop 2 bytes))) next

-- ---- keys that rise from neighbour to neighbour

pub ascends_by_neighbours : (es : List Entry) → ((j : ℕ) → suc j < length es → key_at es j < key_at es (suc j)) → Ascends es
ascends_by_neighbours [] h = tt
ascends_by_neighbours (e ∷ []) h = (tt, tt)
ascends_by_neighbours (e ∷ r ∷ rs) h =
    let rest : Ascends (r ∷ rs) = ascends_by_neighbours (r ∷ rs) (λ j lt. h (suc j) (omega arith)) in
    let first : e.0 < r.0 = h 0 (omega arith) in
    ((first, all_later e.0 r rs (omega arith) rest.0), rest)

pub neighbours_ascend : (es : List Entry) → ((j : ℕ) → suc j < length es → key_at es j < key_at es (suc j)) → ascend es ≡ true
neighbours_ascend es h = is_ascending es (ascends_by_neighbours es h)

pub falls : (es : List Entry) (j k : ℕ) → j < k → k < length es → key_at es k ≤ key_at es j → ascend es ≡ false
falls es j k before lt le = go (ascend es) refl
  where
    go : (b : Bool) → ascend es ≡ b → b ≡ false
    go true is = absurd (omega (arith, rises es (ascends_is es is) j k before lt))
    go false is = refl

-- the key of an entry of a snapshot
pub key_there : (n place : ℕ) (bytes : List ℕ) (e : Entry) → place < n → e ≡ entry_in (drop (2 + 12 * place) bytes) → key_at (entries_in n (drop 2 bytes)) place ≡ e.0
key_there n place bytes e lt is = ap (λ (x : Entry). x.0) (entry_there n place (drop 2 bytes) lt ∙ ap entry_in (behind_count place bytes) ∙ sym is)

pub one_neighbour_more : (es : List Entry) (place : ℕ) → 1 ≤ place → ((j : ℕ) → suc j < place → key_at es j < key_at es (suc j)) → key_at es (place - 1) < key_at es place →
    (j : ℕ) → suc j < place + 1 → key_at es j < key_at es (suc j)
one_neighbour_more es place least h new j lt = elim (cases_lt (suc j) place) [ inl before ↦ h j before | inr le ↦ last (omega arith) (omega arith) ]
  where
    last : place - 1 ≡ j → place ≡ suc j → key_at es j < key_at es (suc j)
    last one other = omega (arith, new, ap (key_at es) one, ap (key_at es) other)

-- ---- entries written one behind the other

taken_more : (es : List Entry) (i : ℕ) → i < length es → take (suc i) es ≡ take i es ++ get_or es i (0, 0) ∷ []
taken_more [] i lt = absurd (omega arith)
taken_more (e ∷ es) zero lt = refl
taken_more (e ∷ es) (suc i) lt = ap (λ xs. e ∷ xs) (taken_more es i (omega arith))

pub taken_all : (es : List Entry) (n : ℕ) → length es ≤ n → take n es ≡ es
taken_all [] zero le = refl
taken_all [] (suc n) le = refl
taken_all (e ∷ es) zero le = absurd (omega arith)
taken_all (e ∷ es) (suc n) le = ap (λ xs. e ∷ xs) (taken_all es n (omega arith))

flat_more : (xs : List Entry) (e : Entry) → flat_map entry_bytes (xs ++ e ∷ []) ≡ flat_map entry_bytes xs ++ entry_bytes e
flat_more [] e = refl
flat_more (x ∷ xs) e = rw (flat_more xs e) refl

pub length_flat : (es : List Entry) → length (flat_map entry_bytes es) ≡ 12 * length es
length_flat [] = refl
length_flat (e ∷ es) = omega (arith, length_flat es)

-- a text that was written behind a front that fills the first bytes
pub put_behind : (old front text now new : List ℕ) (end : ℕ) → length front ≡ end → now ≡ front ++ drop end old →
    new ≡ take end now ++ (text ++ drop (end + length text) now) → new ≡ (front ++ text) ++ drop (end + length text) old
put_behind old front text now new end len is put =
    let taken : take end now ≡ front = ap (take end) is ∙ take_at front (drop end old) end len in
    let left : drop end now ≡ drop end old = ap (drop end) is ∙ drop_at front (drop end old) end len in
    let behind : drop (end + length text) now ≡ drop (end + length text) old =
    ap (λ (k : ℕ). drop k now) (omega arith) ∙ sym (drop-drop (length text) end now) ∙ ap (drop (length text)) left ∙ drop-drop (length text) end old ∙ ap (λ (k : ℕ). drop k old) (omega arith) in
    put ∙ rw (taken, behind) (sym (append_assoc front text (drop (end + length text) old)))

-- the count, and the first entries
abbrev pub front_of : List Entry → ℕ → List ℕ
front_of es i = to_be_bytes w16 (length es) ++ flat_map entry_bytes (take i es)

length_front : (es : List Entry) (i : ℕ) → i ≤ length es → length (front_of es i) ≡ 2 + 12 * i
length_front es i le = omega (arith, length_flat (take i es), length-take i es)

front_more : (es : List Entry) (i : ℕ) → i < length es → front_of es i ++ entry_bytes (get_or es i (0, 0)) ≡ front_of es (i + 1)
front_more es i lt =
    let next : suc i ≡ i + 1 = omega arith in
    ap (λ (xs : List ℕ). to_be_bytes w16 (length es) ++ xs) (sym (flat_more (take i es) (get_or es i (0, 0))) ∙ ap (flat_map entry_bytes) (sym (taken_more es i lt) ∙ ap (λ (k : ℕ). take k es) next))

pub written_more : (es : List Entry) (i : ℕ) (old now new text : List ℕ) (end : ℕ) → i < length es → text ≡ entry_bytes (get_or es i (0, 0)) → end ≡ 2 + 12 * i →
    now ≡ front_of es i ++ drop end old → new ≡ take end now ++ (text ++ drop (end + length text) now) → new ≡ front_of es (i + 1) ++ drop (end + 12) old
written_more es i old now new text end lt is at so_far put =
    let len : length text ≡ 12 = ap length is in
    put_behind old (front_of es i) text now new end (omega (arith, length_front es i (omega arith))) so_far put
    ∙ ap (λ (xs : List ℕ). xs ++ drop (end + length text) old) (ap (λ (xs : List ℕ). front_of es i ++ xs) is ∙ front_more es i lt)
    ∙ ap (λ (k : ℕ). front_of es (i + 1) ++ drop k old) (omega arith)

-- all entries are written
pub written_all : (es : List Entry) (i : ℕ) → length es ≤ i → front_of es i ≡ table_bytes es
written_all es i le = ap (λ (xs : List Entry). to_be_bytes w16 (length es) ++ flat_map entry_bytes xs) (taken_all es i le)

-- what a slice holds is bytes
pub are_bytes : (bytes : List ℕ) → ((i : ℕ) → Fits w8 (get_or bytes i 0)) → AreBytes bytes
are_bytes [] h = tt
are_bytes (b ∷ bytes) h = (omega (arith, h 0), are_bytes bytes (λ i. h (suc i)))

-- ---- bytes that stand for a table are its snapshot

halves : (k : ℕ) (bytes : List ℕ) → take k bytes ++ drop k bytes ≡ bytes
halves k bytes = take-append-drop k bytes

entry_back : (bytes : List ℕ) → AreBytes bytes → 12 ≤ length bytes → entry_bytes (entry_in bytes) ≡ take 12 bytes
entry_back bytes h long =
    let key : to_be_bytes w32 (from_be_bytes w32 (take 4 bytes)) ≡ take 4 bytes = be_bytes_4 (take 4 bytes) _ (omega (arith, length-take 4 bytes)) (byte_at (take 4 bytes) (taken_bytes 4 bytes h)) refl in
    let rest : List ℕ = drop 4 bytes in
    let value : to_be_bytes w64 (from_be_bytes w64 (take 8 rest)) ≡ take 8 rest = be_bytes_8 (take 8 rest) _ (omega (arith, length-take 8 rest, length-drop 4 bytes)) (byte_at (take 8 rest) (taken_bytes 8 rest (left_bytes 4 bytes h))) refl in
    ap (λ (xs : List ℕ). xs ++ to_be_bytes w64 (from_be_bytes w64 (take 8 rest))) key ∙ ap (λ (xs : List ℕ). take 4 bytes ++ xs) value ∙ sym (take-add 4 8 bytes)

entries_back : (n : ℕ) (bytes : List ℕ) → AreBytes bytes → length bytes ≡ 12 * n → flat_map entry_bytes (entries_in n bytes) ≡ bytes
entries_back zero [] h len = refl
entries_back zero (b ∷ bytes) h len = absurd (omega arith)
entries_back (suc n) bytes h len =
    let long : 12 ≤ length bytes = omega arith in
    let rest = entries_back n (drop 12 bytes) (left_bytes 12 bytes h) (omega (arith, length-drop 12 bytes)) in
    ap (λ (xs : List ℕ). entry_bytes (entry_in bytes) ++ xs) rest ∙ ap (λ (xs : List ℕ). xs ++ drop 12 bytes) (entry_back bytes h long) ∙ halves 12 bytes

whole_of : (bytes : List ℕ) → is_snapshot bytes ≡ true → length bytes ≡ 2 + 12 * count_in bytes
whole_of bytes t = grind (arith, nat_tests)

bytes_back : (bytes : List ℕ) → AreBytes bytes → is_snapshot bytes ≡ true → bytes ≡ table_bytes (entries_of bytes)
bytes_back bytes h t =
    let len = whole_of bytes t in
    let count : to_be_bytes w16 (count_in bytes) ≡ take 2 bytes = be_bytes_2 (take 2 bytes) _ (omega (arith, length-take 2 bytes)) (byte_at (take 2 bytes) (taken_bytes 2 bytes h)) refl in
    let entries = entries_back (count_in bytes) (drop 2 bytes) (left_bytes 2 bytes h) (omega (arith, length-drop 2 bytes)) in
    sym (ap (λ (k : ℕ). to_be_bytes w16 k ++ flat_map entry_bytes (entries_of bytes)) (length_entries (count_in bytes) (drop 2 bytes))
    ∙ ap (λ (xs : List ℕ). xs ++ flat_map entry_bytes (entries_of bytes)) count ∙ ap (λ (xs : List ℕ). take 2 bytes ++ xs) entries ∙ halves 2 bytes)

some_is : (a b : List Entry) → Some a ≡ Some b → a ≡ b
some_is a b e = cc

pub one_table : (bytes : List ℕ) (es : List Entry) → AreBytes bytes → table_of_bytes bytes ≡ Some es → bytes ≡ table_bytes es
one_table bytes es h is = go (is_snapshot bytes) refl is
  where
    go : (b : Bool) → is_snapshot bytes ≡ b → cond b (Some (entries_of bytes)) None ≡ Some es → bytes ≡ table_bytes es
    go true t e = bytes_back bytes h t ∙ ap table_bytes (some_is (entries_of bytes) es e)
    go false t e = absurd cc
