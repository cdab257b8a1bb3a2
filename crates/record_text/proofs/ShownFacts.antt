-- What bytes show, by what they begin with.
use Rattle.std.proofs.Common.{◌≡◌, ◌≤◌, ◌<◌, ◌+◌, ◌*◌, ℕ, Bool, true, false, cond, ◌&&◌, ◌==◌, refl, List, [], length, Some, None, arith}
use Rattle.std.specs.Prelude.{nat_le}
use Rattle.std.proofs.lemmas.Bool.{and_parts, and_from}
use Rattle.std.proofs.lemmas.Bool.Decides.{nat_tests}
use Rattle.app_table.specs.Table.{Entry, table_room}
use Rattle.app_table.specs.Snapshots.{count_in, entries_of, ascend, is_snapshot, table_of_bytes}
use Rattle.record_text.specs.Shown.{begins_table, entries_shown}

no_second : (a c : Bool) (xs : List Entry) → cond (a && (false && c)) xs [] ≡ []
no_second true c xs = refl
no_second false c xs = refl

no_third : (a b : Bool) (xs : List Entry) → cond (a && (b && false)) xs [] ≡ []
no_third true true xs = refl
no_third true false xs = refl
no_third false b xs = refl

pub too_short : (bytes : List ℕ) → length bytes < 2 + 12 * count_in bytes → entries_shown bytes ≡ []
too_short bytes l = let t : nat_le (2 + 12 * count_in bytes) (length bytes) ≡ false = grind (arith, nat_tests) in rw t refl

pub too_many : (bytes : List ℕ) → 256 < count_in bytes → entries_shown bytes ≡ []
too_many bytes l =
    let t : nat_le (count_in bytes) table_room ≡ false = grind (arith, nat_tests) in
    rw t (no_second (nat_le (2 + 12 * count_in bytes) (length bytes)) (ascend (entries_of bytes)) (entries_of bytes))

pub not_ascending : (bytes : List ℕ) → ascend (entries_of bytes) ≡ false → entries_shown bytes ≡ []
not_ascending bytes t = rw t (no_third (nat_le (2 + 12 * count_in bytes) (length bytes)) (nat_le (count_in bytes) table_room) (entries_of bytes))

pub all_shown : (bytes : List ℕ) → 2 + 12 * count_in bytes ≤ length bytes → count_in bytes ≤ 256 → ascend (entries_of bytes) ≡ true → entries_shown bytes ≡ entries_of bytes
all_shown bytes long few up =
    let begins : begins_table bytes ≡ true = and_from _ _ (at_most long) (and_from _ _ (within few) up) in
    rw begins refl
  where
    at_most : 2 + 12 * count_in bytes ≤ length bytes → nat_le (2 + 12 * count_in bytes) (length bytes) ≡ true
    at_most l = grind (arith, nat_tests)

    within : count_in bytes ≤ 256 → nat_le (count_in bytes) table_room ≡ true
    within l = grind (arith, nat_tests)

pub shown_again : (bytes : List ℕ) (entries : List Entry) → table_of_bytes bytes ≡ Some entries → entries_shown bytes ≡ entries
shown_again bytes entries is = go (is_snapshot bytes) refl is
  where
    begins : is_snapshot bytes ≡ true → begins_table bytes ≡ true
    begins t =
        let parts = and_parts (length bytes == 2 + 12 * count_in bytes) _ t in
        let long : nat_le (2 + 12 * count_in bytes) (length bytes) ≡ true = grind (arith, nat_tests, parts.0) in
        and_from _ _ long parts.1

    go : (b : Bool) → is_snapshot bytes ≡ b → cond b (Some (entries_of bytes)) None ≡ Some entries → entries_shown bytes ≡ entries
    go true t e = let same : entries_of bytes ≡ entries = cc in rw (begins t) same
    go false t e = absurd cc
