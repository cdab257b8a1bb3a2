-- Ids and entries: what is read is spelled so, and what is spelled so is read.
use Rattle.std.proofs.Common.{◌≡◌, ℕ, zero, suc, ◌+◌, ◌*◌, ◌/◌, ◌%◌, ◌^◌, ◌<◌, ◌≤◌, ◌⊎◌, inl, inr, Bool, true, false, nat_le, List, refl, sym, ap, ◌∙◌, arith}
use Rattle.std.specs.Int.{w8, w32}
use Rattle.std.proofs.lemmas.Bool.Decides.{nat_tests}
use Rattle.tw_types.specs.declared.message.UpdateId.{UpdateId}
use Rattle.tw_types.specs.declared.message.Order.{Order}
use Rattle.tw_types.specs.declared.message.Order.TheVariants.{Unordered, Total, Timed}
use Rattle.tw_types.specs.declared.message.Atom.{Atom}
use Rattle.tw_types.specs.declared.message.Atom.TheVariants.{Weak, Strong, Strict}
use Rattle.tw_types.specs.declared.message.Entry.{Entry}
use Rattle.tw_types.specs.declared.datagram.WireFault.TheVariants.{Field}
use Rattle.tw_types.specs.Ranges.{IdFits, EntryFits}
use Rattle.tw_types.specs.Spelling.{order_number, atom_number, lateness, class_of, id_bytes, entry_bytes}
use Rattle.wire_head.proofs.Numbers.{IsBytes, wide8, wide32, Reads}
use Rattle.wire_head.proofs.Steps.{step, last, renamed, checked_reads, count_reads, byte_below_reads}
use Rattle.wire_body.specs.Entries.{is_seq, id_at, order_from, atom_from, is_class, entry_from, entry_at}

record IsSeq (n : ℕ) : Type 0 where
  first : 1 ≤ n
  last : n ≤ 4294967294

pub id_reads : (n : ℕ) → n < 2 ^ 8 → (bytes : List ℕ) (fits : IsBytes bytes) (place next : ℕ) → next ≡ place + 13 → Reads bytes place (IdFits n) id_bytes (λ id. next) (id_at n bytes place)
unfolding id_at
id_reads n small bytes fits place next e =
    renamed (IdFits n)
    (step (λ (id : UpdateId). id.who) (byte_below_reads bytes fits place (place + 1) n small refl) (λ who who-is.
    step (λ (id : UpdateId). id.incarnation) (count_reads bytes fits (place + 1) (place + 9) (omega arith)) (λ incarnation incarnation-is.
    step (λ (id : UpdateId). id.seq) (checked_reads w32 (2 ^ 32) wide32 is_seq (Field (place + 9)) IsSeq (λ m t. record { first = grind (arith, nat_tests); last = grind (arith, nat_tests) }) (λ m is. let a = is.first in let b = is.last in (omega arith, grind (arith, nat_tests))) bytes fits (place + 9) next (omega arith)) (λ seq seq-is.
    last (record { who = who; incarnation = incarnation; seq = seq }))
    (λ seq seq-is id is. ap (λ (z : UpdateId). z.seq) is))
    (λ incarnation incarnation-is id is. ap (λ (z : UpdateId). z.incarnation) is.1))
    (λ who who-is id is. ap (λ (z : UpdateId). z.who) is.1.1))
    (λ id is. record { who = is.0; incarnation = is.1.0; first = is.1.1.0.first; last = is.1.1.0.last })
    (λ id is. (is.who, (is.incarnation, (record { first = is.first; last = is.last }, refl))))

-- ---- the class of an entry

order_back : (q : ℕ) → q ≤ 2 → order_number (order_from q) ≡ q
order_back zero le = refl
order_back (suc zero) le = refl
order_back (suc (suc zero)) le = refl
order_back (suc (suc (suc q))) le = absurd (omega arith)

atom_back : (r : ℕ) → r ≤ 2 → atom_number (atom_from r) ≡ r
atom_back zero le = refl
atom_back (suc zero) le = refl
atom_back (suc (suc zero)) le = refl
atom_back (suc (suc (suc r))) le = absurd (omega arith)

class_range : (b : Bool) (c : ℕ) → is_class b c ≡ true → (c ≤ 8) ⊎ ((b ≡ true) × (22 ≤ c) × (c ≤ 24))
class_range true c t = by_size (nat_le c 8) refl
  where
    by_size : (s : Bool) → nat_le c 8 ≡ s → (c ≤ 8) ⊎ ((true ≡ true) × (22 ≤ c) × (c ≤ 24))
    by_size true e = inl (grind (arith, nat_tests))
    by_size false e = let r = rw e at t in inr (refl, grind (arith, nat_tests), grind (arith, nat_tests))
class_range false c t = inl (grind (arith, nat_tests))

class_back : (b : Bool) (c : ℕ) → is_class b c ≡ true → 3 * order_number (order_from (c % 16 / 3)) + atom_number (atom_from (c % 16 % 3)) + lateness (nat_le 16 c) ≡ c
class_back b c t =
    elim (class_range b c t) [
      | inl low ↦ (let late : nat_le 16 c ≡ false = grind (arith, nat_tests) in
          let high = order_back (c % 16 / 3) (omega arith) in
          let rest = atom_back (c % 16 % 3) (omega arith) in
          rw (late, high, rest) (omega arith))
      | inr r ↦ (let from : 22 ≤ c = r.1 in
          let to : c ≤ 24 = r.2 in
          let late : nat_le 16 c ≡ true = grind (arith, nat_tests) in
          let high = order_back (c % 16 / 3) (omega arith) in
          let rest = atom_back (c % 16 % 3) (omega arith) in
          rw (late, high, rest) (omega arith))
    ]

-- only a timed entry is late, and only where one may be
late_timed : (b : Bool) (c : ℕ) → is_class b c ≡ true → nat_le 16 c ≡ true → order_from (c % 16 / 3) ≡ Timed
late_timed b c t late =
    elim (class_range b c t) [
      | inl low ↦ absurd (grind (arith, nat_tests))
      | inr r ↦ (let from : 22 ≤ c = r.1 in
          let to : c ≤ 24 = r.2 in
          let two : c % 16 / 3 ≡ 2 = omega arith in
          rw two refl)
    ]

never_late : (b : Bool) (c : ℕ) → is_class b c ≡ true → b ≡ false → nat_le 16 c ≡ false
never_late b c t none =
    elim (class_range b c t) [
      | inl low ↦ grind (arith, nat_tests)
      | inr r ↦ absurd (cc (r.0))
    ]

class_limit : (b : Bool) (c : ℕ) → is_class b c ≡ true → c < 2 ^ 8
class_limit b c t =
    elim (class_range b c t) [
      | inl low ↦ omega arith
      | inr r ↦ omega (arith, r.2)
    ]

class_again : (b : Bool) (o : Order) (a : Atom) (late : Bool) → (late ≡ true → o ≡ Timed) → (b ≡ false → late ≡ false) → is_class b (3 * order_number o + atom_number a + lateness late) ≡ true
class_again b Unordered Weak false timed never = refl
class_again b Unordered Strong false timed never = refl
class_again b Unordered Strict false timed never = refl
class_again b Total Weak false timed never = refl
class_again b Total Strong false timed never = refl
class_again b Total Strict false timed never = refl
class_again b Timed Weak false timed never = refl
class_again b Timed Strong false timed never = refl
class_again b Timed Strict false timed never = refl
class_again true Timed Weak true timed never = refl
class_again true Timed Strong true timed never = refl
class_again true Timed Strict true timed never = refl
class_again false o a true timed never = absurd (cc (never refl))
class_again true Unordered a true timed never = absurd (cc (timed refl))
class_again true Total a true timed never = absurd (cc (timed refl))

entry_made : (id : UpdateId) (o : Order) (a : Atom) (stamp : ℕ) (late : Bool) → (late ≡ true → o ≡ Timed) → record { id = id; order = o; atom = a; stamp = stamp; late = late } ≡ entry_from id (3 * order_number o + atom_number a + lateness late) stamp
entry_made id Unordered Weak stamp false timed = refl
entry_made id Unordered Strong stamp false timed = refl
entry_made id Unordered Strict stamp false timed = refl
entry_made id Total Weak stamp false timed = refl
entry_made id Total Strong stamp false timed = refl
entry_made id Total Strict stamp false timed = refl
entry_made id Timed Weak stamp false timed = refl
entry_made id Timed Strong stamp false timed = refl
entry_made id Timed Strict stamp false timed = refl
entry_made id Timed Weak stamp true timed = refl
entry_made id Timed Strong stamp true timed = refl
entry_made id Timed Strict stamp true timed = refl
entry_made id Unordered a stamp true timed = absurd (cc (timed refl))
entry_made id Total a stamp true timed = absurd (cc (timed refl))

-- ---- an entry

-- an entry that fits, and isn't late where none may be
pub record IsEntry (n : ℕ) (may_be_late : Bool) (e : Entry) : Type 0 where
  pub fits : EntryFits n e
  pub never : may_be_late ≡ false → e.late ≡ false

pub entry_reads : (n : ℕ) → n < 2 ^ 8 → (b : Bool) (bytes : List ℕ) (fits : IsBytes bytes) (place next : ℕ) → next ≡ place + 22 → Reads bytes place (IsEntry n b) entry_bytes (λ e. next) (entry_at n b bytes place)
unfolding entry_at
entry_reads n small b bytes fits place next e =
    renamed (IsEntry n b)
    (step (λ (x : Entry). x.id) (id_reads n small bytes fits place (place + 13) refl) (λ id id-is.
    step (λ (x : Entry). class_of x) (checked_reads w8 (2 ^ 8) wide8 (is_class b) (Field (place + 13)) (λ c. is_class b c ≡ true) (λ c t. t) (λ c is. (class_limit b c is, is)) bytes fits (place + 13) (place + 14) (omega arith)) (λ class class-is.
    step (λ (x : Entry). x.stamp) (count_reads bytes fits (place + 14) next (omega arith)) (λ stamp stamp-is.
    last (entry_from id class stamp))
    (λ stamp stamp-is x is. ap (λ (z : Entry). z.stamp) is))
    (λ class class-is x is. ap (λ (z : Entry). class_of z) is.1 ∙ class_back b class class-is))
    (λ id id-is x is. ap (λ (z : Entry). z.id) is.1.1))
    (λ x is.
    let made = is.1.1.1 in
    let class = is.1.0 in
    record {
      fits = record { id = is.0; late = λ late. ap (λ (z : Entry). z.order) made ∙ late_timed b (class_of x) class (sym (ap (λ (z : Entry). z.late) made) ∙ late); stamp = is.1.1.0 };
      never = λ no. ap (λ (z : Entry). z.late) made ∙ never_late b (class_of x) class no;
    })
    (λ x is. (is.fits.id, (class_again b x.order x.atom x.late is.fits.late is.never, (is.fits.stamp, entry_made x.id x.order x.atom x.stamp x.late is.fits.late))))
