-- What an edit at the place of a key makes of the entries.
use Rattle.std.proofs.Common.{◌≡◌, ℕ, zero, suc, ◌<◌, true, false, List, [], ◌∷◌, ◌++◌, length, set, take, drop, refl, ap, arith}
use Rattle.std.specs.Prelude.{insert, remove}
use Rattle.std.proofs.lemmas.Bool.Decides.{nat_tests}
use Rattle.app_table.specs.Table.{Entry, has_key, with_value, without, is_too_many, after_put, table_room}
use Rattle.app_table.specs.Places.{IsPlace, IsGap}

set_is : (es : List Entry) (place : ℕ) (e : Entry) → place < length es → set es place e ≡ take place es ++ e ∷ drop (suc place) es
set_is [] place e lt = absurd (omega arith)
set_is (x ∷ es) zero e lt = refl
set_is (x ∷ es) (suc p) e lt = ap (λ xs. x ∷ xs) (set_is es p e (omega arith))

-- a key that is known is never too many
known_fits : (key : ℕ) (es : List Entry) → has_key key es ≡ true → is_too_many key es ≡ false
known_fits key es known = rw known refl

-- where there is room, none is
room_fits : (key : ℕ) (es : List Entry) → length es < table_room → is_too_many key es ≡ false
room_fits key es room = grind (arith, nat_tests)

fits_puts : (key value : ℕ) (es : List Entry) → is_too_many key es ≡ false → with_value key value es ≡ after_put key value es
fits_puts key value es fits = rw fits refl

pub put_over : (key value place : ℕ) (es : List Entry) → IsPlace key es place → set es place (key, value) ≡ after_put key value es
put_over key value place es at =
    rw (set_is es place (key, value) at.within, at.before, at.behind) (fits_puts key value es (known_fits key es at.known))

pub put_between : (key value place : ℕ) (es : List Entry) → IsGap key es place → length es < table_room → insert es place (key, value) ≡ after_put key value es
put_between key value place es gap room = rw (gap.before, gap.behind) (fits_puts key value es (room_fits key es room))

pub taken_out : (key place : ℕ) (es : List Entry) → IsPlace key es place → remove es place ≡ without key es
taken_out key place es at = rw (at.before, at.behind) refl
