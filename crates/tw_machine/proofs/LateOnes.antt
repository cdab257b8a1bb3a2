-- A timed update that a decision adds as late wasn't above the mark as adding began, or stands behind one of its own process.
use Rattle.std.proofs.Common.{◌≡◌, refl, sym, subst, ap, ◌∙◌, ℕ, zero, suc, ◌+◌, Bool, true, false, List, [], ◌∷◌, ◌++◌, arith}
use Rattle.std.specs.Prelude.{◌==◌, ◌&&◌, ◌||◌, not, Contains}
use Rattle.std.specs.List.{list_any, AllByRecursion}
use Rattle.std.proofs.lemmas.Bool.Decides.{nat_tests}
use Rattle.tw_machine.specs.Types.{Team, Member, Entry, Kept, Seat, Decision}
use Rattle.tw_types.specs.Decisions.{is_same_member, is_seat_of}
use Rattle.tw_types.specs.Updates.{sender, is_timed}
use Rattle.tw_types.specs.Appending.{count_of, is_candidate, is_ripe, may_come, goes_before, mark_of, is_above, moves_mark, is_late, added_entry, IsNextEntry, EachIsNext}
use Rattle.tw_machine.specs.LateOnes.{has_entry_of, LateForACause}

of_all : {X : Type 0} (P : X → Type 0) (xs : List X) (x : X) → AllByRecursion P xs → Contains xs x → P x
of_all P [] x all c = absurd (omega (arith, c.1))
of_all P (y ∷ ys) x all (zero, b, e) = subst P e all.0
of_all P (y ∷ ys) x all (suc k, b, e) = of_all P ys x all.1 (k, omega arith, e)

-- ---- a process of which no entry stands there

none_counted : (m : Member) (before : List Entry) → has_entry_of m.who before ≡ false → count_of m before ≡ 0
none_counted m [] none = refl
none_counted m (e ∷ before) none = go (e.id.who == m.who) refl none (none_counted m before)
  where
    go : (b : Bool) → (e.id.who == m.who) ≡ b → (b || has_entry_of m.who before) ≡ false → (has_entry_of m.who before ≡ false → count_of m before ≡ 0) → count_of m (e ∷ before) ≡ 0
    go true is none rest = absurd (cc)
    go false is none rest = let zero_left = rest none in let other : is_same_member (sender e.id) m ≡ false = rw is refl in rw other zero_left

-- its updates may come there as at the beginning
as_first : (d : Decision) (k : Kept) (before : List Entry) → has_entry_of k.entry.id.who before ≡ false → is_candidate d before k ≡ is_candidate d [] k
as_first d k before none = each d.seats.items
  where
    at_seat : (s : Seat) → (is_seat_of (sender k.entry.id) s && (k.entry.id.seq == s.next + count_of s.member before)) ≡ (is_seat_of (sender k.entry.id) s && (k.entry.id.seq == s.next + count_of s.member []))
    at_seat s = go (is_seat_of (sender k.entry.id) s) refl
      where
        go : (b : Bool) → is_seat_of (sender k.entry.id) s ≡ b → (b && (k.entry.id.seq == s.next + count_of s.member before)) ≡ (b && (k.entry.id.seq == s.next + count_of s.member []))
        go false is = refl
        go true is =
            let same : s.member.who ≡ k.entry.id.who = grind (arith, nat_tests) in
            ap (λ c. k.entry.id.seq == s.next + c) (none_counted s.member before (ap (λ w. has_entry_of w before) same ∙ none))

    each : (seats : List Seat) → list_any (λ (s : Seat). is_seat_of (sender k.entry.id) s && (k.entry.id.seq == s.next + count_of s.member before)) seats
        ≡ list_any (λ (s : Seat). is_seat_of (sender k.entry.id) s && (k.entry.id.seq == s.next + count_of s.member [])) seats
    each [] = refl
    each (s ∷ seats) = rw (at_seat s, each seats) refl

-- ---- what was added before it

-- an update that doesn't go before another one of another process, though both are timed, is above that one
not_behind : (u b : Entry) → is_timed u.order ≡ true → goes_before u b ≡ false → (b.id.who == u.id.who) ≡ false → (moves_mark b && not (is_above (mark_of u) (mark_of b))) ≡ false
not_behind u b timed first other = grind (arith, nat_tests)

none_behind : (u : Entry) (before : List Entry) → is_timed u.order ≡ true → AllByRecursion (λ (b : Entry). goes_before u b ≡ false) before → has_entry_of u.id.who before ≡ false
    → list_any (λ (b : Entry). moves_mark b && not (is_above (mark_of u) (mark_of b))) before ≡ false
none_behind u [] timed all none = refl
none_behind u (b ∷ before) timed all none = go (b.id.who == u.id.who) refl none (none_behind u before timed all.1)
  where
    go : (t : Bool) → (b.id.who == u.id.who) ≡ t → (t || has_entry_of u.id.who before) ≡ false
        → (has_entry_of u.id.who before ≡ false → list_any (λ (b : Entry). moves_mark b && not (is_above (mark_of u) (mark_of b))) before ≡ false)
        → list_any (λ (b : Entry). moves_mark b && not (is_above (mark_of u) (mark_of b))) (b ∷ before) ≡ false
    go true is none rest = absurd (cc)
    go false is none rest = rw (not_behind u b timed all.0 is) (rest none)

-- what may come at first doesn't go before what was added, but for those of its own process
abbrev NoneBefore : Team → ℕ → Decision → (before : List Entry) → Kept → Type 0
NoneBefore team t d before k = may_come team t d [] k ≡ true → has_entry_of k.entry.id.who before ≡ false → AllByRecursion (λ (b : Entry). goes_before k.entry b ≡ false) before

all_more : {X : Type 0} (P : X → Type 0) (xs : List X) (y : X) → AllByRecursion P xs → P y → AllByRecursion P (xs ++ y ∷ [])
all_more P [] y all more = (more, tt)
all_more P (x ∷ xs) y all more = (all.0, all_more P xs y all.1 more)

none_in_front : (who : ℕ) (before : List Entry) (e : Entry) → has_entry_of who (before ++ e ∷ []) ≡ false → has_entry_of who before ≡ false
none_in_front who [] e none = refl
none_in_front who (b ∷ before) e none = go (b.id.who == who) none (none_in_front who before e)
  where
    go : (t : Bool) → (t || has_entry_of who (before ++ e ∷ [])) ≡ false → (has_entry_of who (before ++ e ∷ []) ≡ false → has_entry_of who before ≡ false) → (t || has_entry_of who before) ≡ false
    go true none rest = absurd (cc)
    go false none rest = rest none

may_at_first : (team : Team) (t : ℕ) (d : Decision) (k : Kept) (before : List Entry) → has_entry_of k.entry.id.who before ≡ false → may_come team t d before k ≡ may_come team t d [] k
may_at_first team t d k before none = ap (λ (c : Bool). c && is_ripe team t k.entry) (as_first d k before none)

none_before_grows : (team : Team) (t : ℕ) (d : Decision) (before : List Entry) (u : Kept) (pending : List Kept)
    → AllByRecursion (λ (other : Kept). may_come team t d before other ≡ true → goes_before other.entry u.entry ≡ false) pending
    → AllByRecursion (NoneBefore team t d before) pending → AllByRecursion (NoneBefore team t d (before ++ added_entry d before u ∷ [])) pending
none_before_grows team t d before u [] first all = tt
none_before_grows team t d before u (k ∷ pending) first all = (of_one, none_before_grows team t d before u pending first.1 all.1)
  where
    of_one : NoneBefore team t d (before ++ added_entry d before u ∷ []) k
    of_one may none =
        let none_there = none_in_front k.entry.id.who before (added_entry d before u) none in
        all_more (λ (b : Entry). goes_before k.entry b ≡ false) before (added_entry d before u) (all.0 may none_there) (first.0 (may_at_first team t d k before none_there ∙ may))

cause : (team : Team) (t : ℕ) (d : Decision) (before : List Entry) (u : Kept) → NoneBefore team t d before u → may_come team t d before u ≡ true
    → is_late d.mark before u.entry ≡ true → is_above (mark_of u.entry) d.mark ≡ true → has_entry_of u.entry.id.who before ≡ true
cause team t d before u all may late above = go (has_entry_of u.entry.id.who before) refl
  where
    timed : is_timed u.entry.order ≡ true
    timed = grind (arith, nat_tests, late)

    go : (b : Bool) → has_entry_of u.entry.id.who before ≡ b → has_entry_of u.entry.id.who before ≡ true
    go true is = is
    go false none =
        let behind = none_behind u.entry before timed (all (sym (may_at_first team t d u before none) ∙ may) none) none in
        let no : is_late d.mark before u.entry ≡ false = rw (above, behind) (search (arith, nat_tests)) in
        absurd (cc)

each_for_a_cause : (team : Team) (t : ℕ) (d : Decision) (pending : List Kept) (before entries : List Entry) → AllByRecursion (NoneBefore team t d before) pending → EachIsNext team t d pending before entries
    → LateForACause d.mark before entries
each_for_a_cause team t d pending before [] all each = tt
each_for_a_cause team t d pending before (e ∷ entries) all each = (subst Caused (sym n.entry) here, each_for_a_cause team t d pending (before ++ e ∷ []) entries (subst Grown (sym n.entry) (none_before_grows team t d before n.update pending n.first all)) each.1)
  where
    n : IsNextEntry team t d pending before e
    n = each.0

    Caused : Entry → Type 0
    Caused e = e.late ≡ true → is_above (mark_of e) d.mark ≡ true → has_entry_of e.id.who before ≡ true

    Grown : Entry → Type 0
    Grown e = AllByRecursion (NoneBefore team t d (before ++ e ∷ [])) pending

    here : Caused (added_entry d before n.update)
    here late above = cause team t d before n.update (of_all (NoneBefore team t d before) pending n.update all n.waits) n.ripe late above

-- at first nothing was added
pub late_for_a_cause : (team : Team) (t : ℕ) (d : Decision) (pending : List Kept) (entries : List Entry) → EachIsNext team t d pending [] entries → LateForACause d.mark [] entries
late_for_a_cause team t d pending entries each = each_for_a_cause team t d pending [] entries (nothing pending) each
  where
    nothing : (updates : List Kept) → AllByRecursion (NoneBefore team t d []) updates
    nothing [] = tt
    nothing (k ∷ updates) = ((λ may none. tt), nothing updates)
