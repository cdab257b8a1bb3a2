-- Lists that may be appended begin alike, and one that nothing can follow is the longest of them.
use Rattle.std.proofs.Common.{◌≡◌, refl, ℕ, ◌+◌, ◌≤◌, Bool, true, false, List, [], ◌∷◌, ◌++◌, length, inl, inr, ◌⊎◌, arith, sym, ap, ◌∙◌, subst, append_assoc, length-append, leb}
use Rattle.std.specs.Prelude.{◌&&◌}
use Rattle.std.specs.List.{AllByRecursion}
use Rattle.std.proofs.lemmas.List.{append-nil}
use Rattle.std.proofs.lemmas.Bool.{true≢false}
use Rattle.std.proofs.lemmas.Bool.Decides.{nat_tests}
use Rattle.tw_types.specs.declared.team.Team.{Team}
use Rattle.tw_types.specs.declared.message.Entry.{Entry}
use Rattle.tw_types.specs.declared.message.Kept.{Kept}
use Rattle.tw_types.specs.declared.message.Decision.{Decision}
use Rattle.tw_types.specs.Ranges.{Ascends}
use Rattle.tw_types.specs.Decisions.{decision_length}
use Rattle.tw_types.specs.Logs.{log_room}
use Rattle.tw_types.specs.Appending.{may_come, IsNextEntry, EachIsNext, window_room, last_position, has_room, MayBeAppended, IsAppended}
use Rattle.order_rules.proofs.Lists.{holds_of}
use Rattle.order_rules.proofs.Unique.{WaitForSeats, one_next}

-- the second list begins with the first one
abbrev pub IsFront : List Entry → List Entry → Type 0
IsFront xs ys = (rest : List Entry) × (ys ≡ xs ++ rest)

pub fronts : (team : Team) (t : ℕ) (d : Decision) (pending : List Kept) (before xs ys : List Entry) → Ascends d.seats.items → WaitForSeats d pending → EachIsNext team t d pending before xs → EachIsNext team t d pending before ys → IsFront xs ys ⊎ IsFront ys xs
fronts team t d pending before [] ys up order a b = inl (ys, refl)
fronts team t d pending before (x ∷ xs) [] up order a b = inr (x ∷ xs, refl)
fronts team t d pending before (x ∷ xs) (y ∷ ys) up order a b =
    let same : y ≡ x = one_next team t d pending before y x up order b.0 a.0 in
    let rest : EachIsNext team t d pending (before ++ x ∷ []) ys = subst (λ z. EachIsNext team t d pending (before ++ z ∷ []) ys) same b.1 in
    elim (fronts team t d pending (before ++ x ∷ []) xs ys up order a.1 rest) [
      | inl f ↦ inl (f.0, cc)
      | inr f ↦ inr (f.0, cc)
    ]

-- what each is behind the ones before it, one that comes behind all of some is
pub comes_behind : (team : Team) (t : ℕ) (d : Decision) (pending : List Kept) (before xs : List Entry) (e : Entry) (rest : List Entry) → EachIsNext team t d pending before (xs ++ e ∷ rest) → IsNextEntry team t d pending (before ++ xs) e
comes_behind team t d pending before [] e rest each = rw (append-nil before) each.0
comes_behind team t d pending before (x ∷ xs) e rest each =
    subst (λ z. IsNextEntry team t d pending z e) (append_assoc before (x ∷ []) xs) (comes_behind team t d pending (before ++ x ∷ []) xs e rest each.1)

-- of two lists that may be appended one is a front of the other
pub appendable_fronts : (team : Team) (t passed : ℕ) (d : Decision) (pending : List Kept) (xs ys : List Entry) → Ascends d.seats.items → WaitForSeats d pending → MayBeAppended team t passed d pending xs → MayBeAppended team t passed d pending ys → IsFront xs ys ⊎ IsFront ys xs
appendable_fronts team t passed d pending xs ys up order a b = fronts team t d pending [] xs ys up order a.each b.each

-- so the appended list is one alone
pub one_appended : (team : Team) (t passed : ℕ) (d : Decision) (pending : List Kept) (xs ys : List Entry) → Ascends d.seats.items → WaitForSeats d pending → IsAppended team t passed d pending xs → IsAppended team t passed d pending ys → xs ≡ ys
one_appended team t passed d pending xs ys up order a b = go (appendable_fronts team t passed d pending xs ys up order a.may b.may)
  where
    alike : (zs bs rest : List Entry) → bs ≡ zs ++ rest → length bs ≤ length zs → zs ≡ bs
    alike zs bs [] e few = sym (e ∙ append-nil zs)
    alike zs bs (r ∷ rest) e few = absurd (omega (arith, length-append zs (r ∷ rest), ap length e))

    go : IsFront xs ys ⊎ IsFront ys xs → xs ≡ ys
    go (inl f) = alike xs ys f.0 f.1 (a.longest ys b.may)
    go (inr f) = sym (alike ys xs f.0 f.1 (b.longest xs a.may))

-- what is asked of so many entries
abbrev pub room_by : (window end passed count : ℕ) → Bool
room_by window end passed count = leb (window + count) window_room && leb (end + count) (passed + log_room) && leb (end + count) last_position

-- whether a list has room is told by its length
pub has_room_by : (passed : ℕ) (d : Decision) (pending : List Kept) (entries : List Entry) (count : ℕ) → length entries ≡ count + 1 → has_room passed d pending entries ≡ room_by (length d.window.items) (decision_length d) passed (count + 1)
has_room_by passed d pending [] count e = absurd (omega arith)
has_room_by passed d pending (x ∷ entries) count e = ap (room_by (length d.window.items) (decision_length d) passed) e

-- nothing can follow: no pending update may come behind the list, or no list that is one longer has room
abbrev pub NoneFollows : Team → (t : ℕ) → Decision → List Kept → List Entry → Type 0
NoneFollows team t d pending entries = AllByRecursion (λ (k : Kept). may_come team t d entries k ≡ false) pending

abbrev pub IsFull : (passed : ℕ) → Decision → List Kept → (entries : List Entry) → Type 0
IsFull passed d pending entries = (others : List Entry) → length others ≡ length entries + 1 → has_room passed d pending others ≡ false

-- where a list has room, each front of it has
room_for_front : (passed : ℕ) (d : Decision) (pending : List Kept) (xs : List Entry) (x : Entry) (rest : List Entry) → has_room passed d pending (xs ++ x ∷ rest) ≡ true → has_room passed d pending (xs ++ x ∷ []) ≡ true
room_for_front passed d pending xs x rest h =
    let whole = has_room_by passed d pending (xs ++ x ∷ rest) (length xs + length rest) (omega (arith, length-append xs (x ∷ rest))) in
    has_room_by passed d pending (xs ++ x ∷ []) (length xs) (length-append xs (x ∷ [])) ∙ fewer (length xs) (length rest) (sym whole ∙ h)
  where
    fewer : (n m : ℕ) → room_by (length d.window.items) (decision_length d) passed (n + m + 1) ≡ true → room_by (length d.window.items) (decision_length d) passed (n + 1) ≡ true
    fewer n m h = grind (arith, nat_tests)

-- a list that may be appended, and that nothing can follow, is the longest one
pub longest : (team : Team) (t passed : ℕ) (d : Decision) (pending : List Kept) (entries : List Entry) → Ascends d.seats.items → WaitForSeats d pending → MayBeAppended team t passed d pending entries → NoneFollows team t d pending entries ⊎ IsFull passed d pending entries → IsAppended team t passed d pending entries
longest team t passed d pending entries up order may ends = record { may = may; longest = λ others m. go others m (appendable_fronts team t passed d pending entries others up order may m) }
  where
    more : (others : List Entry) (e : Entry) (rest : List Entry) → MayBeAppended team t passed d pending others → others ≡ entries ++ e ∷ rest → NoneFollows team t d pending entries ⊎ IsFull passed d pending entries → ⊥
    more others e rest m is (inr full) =
        let front : has_room passed d pending (entries ++ e ∷ []) ≡ true = room_for_front passed d pending entries e rest (subst (λ z. has_room passed d pending z ≡ true) is m.room) in
        true≢false (sym front ∙ full (entries ++ e ∷ []) (length-append entries (e ∷ [])))
    more others e rest m is (inl none) =
        let next : IsNextEntry team t d pending entries e = comes_behind team t d pending [] entries e rest (subst (EachIsNext team t d pending []) is m.each) in
        true≢false (sym next.ripe ∙ holds_of (λ (k : Kept). may_come team t d entries k ≡ false) pending next.update none next.waits)

    by : (others rest : List Entry) → MayBeAppended team t passed d pending others → others ≡ entries ++ rest → length others ≤ length entries
    by others [] m is = omega (arith, length-append {A = Entry}, ap length is)
    by others (e ∷ rest) m is = absurd (more others e rest m is ends)

    go : (others : List Entry) → MayBeAppended team t passed d pending others → IsFront entries others ⊎ IsFront others entries → length others ≤ length entries
    go others m (inl f) = by others f.0 m f.1
    go others m (inr f) = omega (arith, length-append others f.0, ap length f.1)
