-- What holds of each item holds of the list.
use Rattle.std.proofs.Common.{◌≡◌, ℕ, zero, suc, ◌+◌, ◌<◌, List, [], ◌∷◌, length, take, get_or, map, arith, subst}
use Rattle.std.specs.List.{AllByRecursion}
use Rattle.tw_types.specs.declared.datagram.Datagram.{Datagram}
use Rattle.tw_types.specs.Printed.{contents_of, sends_printed}
use Rattle.tw_machine.specs.RowLimits.{HasRoom, ContentsFits, SendingFits}

pub all_more : {X Y : Type 0} (P : Y → Type 0) (of : X → Y) (xs : List X) (i : ℕ) (x : X) → i < length xs → x ≡ get_or xs i x
    → AllByRecursion P (map of (take i xs)) → P (of x) → AllByRecursion P (map of (take (i + 1) xs))
all_more P of [] i x l e h p = absurd (omega arith)
all_more P of (y ∷ ys) zero x l e h p = (subst (λ z. P (of z)) e p, tt)
all_more P of (y ∷ ys) (suc i) x l e h p =
    let one : suc i + 1 ≡ suc (i + 1) = omega arith in
    rw one (h.0, all_more P of ys i x (omega arith) e h.1 p)

-- the number of the i-th datagram, and that datagram
pub record Numbered (first : ℕ) (sends : List (ℕ × Datagram)) (i number : ℕ) : Type 0 where
  pub fit : AllByRecursion SendingFits (sends_printed first (take i sends))
  pub place : number ≡ first + i

pub one_more_fits : (first : ℕ) (sends : List (ℕ × Datagram)) (i : ℕ) (send : ℕ × Datagram) → i < length sends → send ≡ get_or sends i send
    → AllByRecursion SendingFits (sends_printed first (take i sends)) → HasRoom (first + i) → HasRoom send.0 → ContentsFits (contents_of send.1.body)
    → AllByRecursion SendingFits (sends_printed first (take (i + 1) sends))
one_more_fits first [] i send l e h n to c = absurd (omega arith)
one_more_fits first (s ∷ sends) zero send l e h n to c = ((omega (arith, n), subst (λ z. HasRoom z.0) e to, subst (λ z. ContentsFits (contents_of z.1.body)) e c), tt)
one_more_fits first (s ∷ sends) (suc i) send l e h n to c =
    let one : suc i + 1 ≡ suc (i + 1) = omega arith in
    rw one (h.0, one_more_fits (suc first) sends i send (omega arith) e h.1 (omega (arith, n)) to c)
