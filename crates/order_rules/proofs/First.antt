-- The entry that goes first, as one seat more is looked at.
use Rattle.std.proofs.Common.{◌≡◌, refl, ℕ, ◌+◌, ◌<◌, Bool, true, false, cond, List, [], ◌∷◌, ◌++◌, length, take, Option, Some, None, inl, inr, ◌⊎◌, arith, sym, ap, ◌∙◌, subst, nat_eq, find, get_or}
use Rattle.std.specs.Prelude.{◌&&◌, ◌||◌}
use Rattle.std.specs.List.{AllByRecursion, Contains, list_any}
use Rattle.std.proofs.lemmas.List.{take_more}
use Rattle.std.proofs.lemmas.List.Folds.{list_any-append}
use Rattle.std.proofs.lemmas.Bool.Decides.{nat_tests}
use Rattle.tw_types.specs.declared.team.Team.{Team}
use Rattle.tw_types.specs.declared.message.Entry.{Entry}
use Rattle.tw_types.specs.declared.message.Kept.{Kept}
use Rattle.tw_types.specs.declared.message.Seat.{Seat}
use Rattle.tw_types.specs.declared.message.Decision.{Decision}
use Rattle.tw_types.specs.Decisions.{is_seat_of}
use Rattle.tw_types.specs.Updates.{sender, is_named, find_update, WaitInOrder}
use Rattle.tw_types.specs.Appending.{count_of, is_ripe, may_come, goes_before}
use Rattle.order_rules.specs.Next.{next_id, if_ripe, ripe_at, earlier, IsFirst}
use Rattle.order_rules.proofs.Lists.{holds_of, holds_of_each, first_in, later_in}
use Rattle.order_rules.proofs.Unique.{through, not_itself, one_update}

-- a decision with these seats
abbrev pub with_seats : List Seat → Decision → Decision
with_seats seats d = record d { seats = record { items = seats } }

-- an update is that seat's next one
abbrev pub is_next_at : Seat → Kept → Bool
is_next_at s k = is_seat_of (sender k.entry.id) s && (nat_eq k.entry.id.seq (s.next + count_of s.member []))

-- ---- what is found for a seat

named_next : (s : Seat) (k : Kept) → is_named (next_id s) k ≡ is_next_at s k
named_next s k =
    let who : nat_eq k.entry.id.who s.member.who ≡ nat_eq s.member.who k.entry.id.who = grind (arith, nat_tests) in
    let life : nat_eq k.entry.id.incarnation s.member.incarnation ≡ nat_eq s.member.incarnation k.entry.id.incarnation = grind (arith, nat_tests) in
    let seq : s.next + 0 ≡ s.next = omega arith in
    rw (who, life, seq) refl

pub found_passes : (p : Kept → Bool) (pending : List Kept) (u : Kept) → find p pending ≡ Some u → Contains pending u × (p u ≡ true)
found_passes p [] u is = cc
found_passes p (k ∷ pending) u is = go (p k) refl is (λ e. found_passes p pending u e)
  where
    go : (b : Bool) → p k ≡ b → cond b (Some k) (find p pending) ≡ Some u → (find p pending ≡ Some u → Contains pending u × (p u ≡ true)) → Contains (k ∷ pending) u × (p u ≡ true)
    go true e is later = (let same : k ≡ u = cc in (subst (Contains (k ∷ pending)) same (first_in k pending), ap p (sym same) ∙ e))
    go false e is later = (let z = later is in (later_in k pending u z.0, z.1))

none_passes : (p : Kept → Bool) (pending : List Kept) → find p pending ≡ None → AllByRecursion (λ (k : Kept). p k ≡ false) pending
none_passes p [] is = tt
none_passes p (k ∷ pending) is = go (p k) refl is (λ e. none_passes p pending e)
  where
    go : (b : Bool) → p k ≡ b → cond b (Some k) (find p pending) ≡ None → (find p pending ≡ None → AllByRecursion (λ (k : Kept). p k ≡ false) pending) → AllByRecursion (λ (k : Kept). p k ≡ false) (k ∷ pending)
    go true e is later = cc
    go false e is later = (e, later is)

-- ---- what may come with one seat more

may_come-push : (team : Team) (t : ℕ) (d : Decision) (seats : List Seat) (s : Seat) (k : Kept) → may_come team t (with_seats (seats ++ s ∷ []) d) [] k ≡ ((list_any (λ (s : Seat). is_next_at s k) seats || (is_next_at s k || false)) && is_ripe team t k.entry)
may_come-push team t d seats s k = ap (λ b. b && is_ripe team t k.entry) (list_any-append (λ (s : Seat). is_next_at s k) seats (s ∷ []))

-- an update that isn't the seat's next one, or isn't ripe, may come as it did
same_as_before : (team : Team) (t : ℕ) (d : Decision) (seats : List Seat) (s : Seat) (k : Kept) → (is_next_at s k && is_ripe team t k.entry) ≡ false → may_come team t (with_seats (seats ++ s ∷ []) d) [] k ≡ may_come team t (with_seats seats d) [] k
same_as_before team t d seats s k h = may_come-push team t d seats s k ∙ by (list_any (λ (s : Seat). is_next_at s k) seats) (is_next_at s k) (is_ripe team t k.entry) h
  where
    by : (a b c : Bool) → (b && c) ≡ false → ((a || (b || false)) && c) ≡ (a && c)
    by true b c h = refl
    by false true c h = h
    by false false c h = refl

-- one that may come did so before, or is the seat's next one
comes_of : (team : Team) (t : ℕ) (d : Decision) (seats : List Seat) (s : Seat) (k : Kept) → may_come team t (with_seats (seats ++ s ∷ []) d) [] k ≡ true → (may_come team t (with_seats seats d) [] k ≡ true) ⊎ (is_next_at s k ≡ true)
comes_of team t d seats s k h = by (list_any (λ (s : Seat). is_next_at s k) seats) (is_next_at s k) (is_ripe team t k.entry) (sym (may_come-push team t d seats s k) ∙ h)
  where
    by : (a b c : Bool) → ((a || (b || false)) && c) ≡ true → ((a && c) ≡ true) ⊎ (b ≡ true)
    by true b c h = inl h
    by false true c h = inr refl
    by false false c h = cc

still_comes : (team : Team) (t : ℕ) (d : Decision) (seats : List Seat) (s : Seat) (k : Kept) → may_come team t (with_seats seats d) [] k ≡ true → may_come team t (with_seats (seats ++ s ∷ []) d) [] k ≡ true
still_comes team t d seats s k h = may_come-push team t d seats s k ∙ by (list_any (λ (s : Seat). is_next_at s k) seats) (is_next_at s k) (is_ripe team t k.entry) h
  where
    by : (a b c : Bool) → (a && c) ≡ true → ((a || (b || false)) && c) ≡ true
    by true b c h = h
    by false b c h = cc

comes_now : (team : Team) (t : ℕ) (d : Decision) (seats : List Seat) (s : Seat) (k : Kept) → is_next_at s k ≡ true → is_ripe team t k.entry ≡ true → may_come team t (with_seats (seats ++ s ∷ []) d) [] k ≡ true
comes_now team t d seats s k next ripe = may_come-push team t d seats s k ∙ by (list_any (λ (s : Seat). is_next_at s k) seats) (is_next_at s k) (is_ripe team t k.entry) next ripe
  where
    by : (a b c : Bool) → b ≡ true → c ≡ true → ((a || (b || false)) && c) ≡ true
    by true b c next ripe = ripe
    by false b c next ripe = rw (next, ripe) refl

-- ---- the first one with one seat more

-- where nothing more may come
kept_first : (team : Team) (t : ℕ) (d e : Decision) (pending : List Kept) (first : Option Entry) → AllByRecursion (λ (k : Kept). may_come team t e [] k ≡ may_come team t d [] k) pending → IsFirst team t d pending first → IsFirst team t e pending first
kept_first team t d e pending None same is =
    holds_of_each (λ (k : Kept). may_come team t e [] k ≡ false) pending
    (λ k c. holds_of (λ (k : Kept). may_come team t e [] k ≡ may_come team t d [] k) pending k same c ∙ holds_of (λ (k : Kept). may_come team t d [] k ≡ false) pending k is c)
kept_first team t d e pending (Some x) same is =
    let as_before = λ (k : Kept) (c : Contains pending k). holds_of (λ (k : Kept). may_come team t e [] k ≡ may_come team t d [] k) pending k same c in
    record {
      update = is.update;
      waits = is.waits;
      ripe = as_before is.update is.waits ∙ is.ripe;
      first = holds_of_each (λ (other : Kept). may_come team t e [] other ≡ true → goes_before other.entry is.update.entry ≡ false) pending
          (λ k c may. holds_of (λ (other : Kept). may_come team t d [] other ≡ true → goes_before other.entry is.update.entry ≡ false) pending k is.first c (sym (as_before k c) ∙ may));
      entry = is.entry;
    }

-- where one update more may come
pub record IsNewcomer (team : Team) (t : ℕ) (d e : Decision) (pending : List Kept) (u : Kept) : Type 0 where
  pub waits : Contains pending u
  pub comes : may_come team t e [] u ≡ true
  pub others : AllByRecursion (λ (k : Kept). may_come team t e [] k ≡ true → (may_come team t d [] k ≡ true) ⊎ (k ≡ u)) pending
  pub stay : AllByRecursion (λ (k : Kept). may_come team t d [] k ≡ true → may_come team t e [] k ≡ true) pending

came_first : (team : Team) (t : ℕ) (d e : Decision) (pending : List Kept) (u : Kept) (first : Option Entry) → IsNewcomer team t d e pending u → IsFirst team t d pending first → IsFirst team t e pending (earlier first (Some u.entry))
came_first team t d e pending u None new is = record {
  update = u;
  waits = new.waits;
  ripe = new.comes;
  first = holds_of_each (λ (other : Kept). may_come team t e [] other ≡ true → goes_before other.entry u.entry ≡ false) pending
      (λ k c may. elim (holds_of (λ (k : Kept). may_come team t e [] k ≡ true → (may_come team t d [] k ≡ true) ⊎ (k ≡ u)) pending k new.others c may) [
        | inl old ↦ (let none : may_come team t d [] k ≡ false = holds_of (λ (k : Kept). may_come team t d [] k ≡ false) pending k is c in cc)
        | inr same ↦ ap (λ (k : Kept). goes_before k.entry u.entry) same ∙ not_itself u.entry
      ]);
  entry = refl;
}
came_first team t d e pending u (Some x) new is = go (goes_before u.entry x) refl
  where
    olds : (k : Kept) → Contains pending k → may_come team t d [] k ≡ true → goes_before k.entry is.update.entry ≡ false
    olds k c = holds_of (λ (other : Kept). may_come team t d [] other ≡ true → goes_before other.entry is.update.entry ≡ false) pending k is.first c

    who_comes : (k : Kept) → Contains pending k → may_come team t e [] k ≡ true → (may_come team t d [] k ≡ true) ⊎ (k ≡ u)
    who_comes k c = holds_of (λ (k : Kept). may_come team t e [] k ≡ true → (may_come team t d [] k ≡ true) ⊎ (k ≡ u)) pending k new.others c

    behind : (a b c : Entry) → goes_before b c ≡ true → goes_before a c ≡ false → goes_before a b ≡ false
    behind a b c bc ac = by (goes_before a b) refl
      where
        by : (z : Bool) → goes_before a b ≡ z → z ≡ false
        by true e = (let h = through a b c e bc in cc)
        by false e = refl

    go : (b : Bool) → goes_before u.entry x ≡ b → IsFirst team t e pending (cond b (Some u.entry) (Some x))
    go true before = record {
      update = u;
      waits = new.waits;
      ripe = new.comes;
      first = holds_of_each (λ (other : Kept). may_come team t e [] other ≡ true → goes_before other.entry u.entry ≡ false) pending
          (λ k c may. elim (who_comes k c may) [
            | inl old ↦ behind k.entry u.entry is.update.entry (ap (goes_before u.entry) (sym is.entry) ∙ before) (olds k c old)
            | inr same ↦ ap (λ (k : Kept). goes_before k.entry u.entry) same ∙ not_itself u.entry
          ]);
      entry = refl;
    }
    go false before = record {
      update = is.update;
      waits = is.waits;
      ripe = holds_of (λ (k : Kept). may_come team t d [] k ≡ true → may_come team t e [] k ≡ true) pending is.update new.stay is.waits is.ripe;
      first = holds_of_each (λ (other : Kept). may_come team t e [] other ≡ true → goes_before other.entry is.update.entry ≡ false) pending
          (λ k c may. elim (who_comes k c may) [
            | inl old ↦ olds k c old
            | inr same ↦ ap (λ (k : Kept). goes_before k.entry is.update.entry) same ∙ (ap (goes_before u.entry) (sym is.entry) ∙ before)
          ]);
      entry = is.entry;
    }

pub first_with_seat : (team : Team) (t : ℕ) (d : Decision) (pending : List Kept) (seats : List Seat) (s : Seat) (first : Option Entry) → WaitInOrder pending → IsFirst team t (with_seats seats d) pending first → IsFirst team t (with_seats (seats ++ s ∷ []) d) pending (earlier first (ripe_at team t pending s))
first_with_seat team t d pending seats s first order is = go (find_update (next_id s) pending) refl
  where
    Same : Kept → Type 0
    Same k = may_come team t (with_seats (seats ++ s ∷ []) d) [] k ≡ may_come team t (with_seats seats d) [] k

    unnamed : (k : Kept) → is_named (next_id s) k ≡ false → Same k
    unnamed k other = same_as_before team t d seats s k (let e : is_next_at s k ≡ false = sym (named_next s k) ∙ other in rw e refl)

    one : (u k : Kept) → find_update (next_id s) pending ≡ Some u → Contains pending k → is_next_at s k ≡ true → k ≡ u
    one u k is c next =
        let f = found_passes (is_named (next_id s)) pending u is in
        let n : is_next_at s u ≡ true = sym (named_next s u) ∙ f.1 in
        one_update pending k u order c f.0 (grind (arith, nat_tests)) (grind (arith, nat_tests))

    go : (o : Option Kept) → find_update (next_id s) pending ≡ o → IsFirst team t (with_seats (seats ++ s ∷ []) d) pending (earlier first (if_ripe team t o))
    go None e =
        kept_first team t (with_seats seats d) (with_seats (seats ++ s ∷ []) d) pending first
        (holds_of_each Same pending (λ k c. unnamed k (holds_of (λ (k : Kept). is_named (next_id s) k ≡ false) pending k (none_passes (is_named (next_id s)) pending e) c))) is
    go (Some u) e = by (is_ripe team t u.entry) refl
      where
        by : (b : Bool) → is_ripe team t u.entry ≡ b → IsFirst team t (with_seats (seats ++ s ∷ []) d) pending (earlier first (cond b (Some u.entry) None))
        by true ripe =
            let f = found_passes (is_named (next_id s)) pending u e in
            came_first team t (with_seats seats d) (with_seats (seats ++ s ∷ []) d) pending u first (record {
              waits = f.0;
              comes = comes_now team t d seats s u (sym (named_next s u) ∙ f.1) ripe;
              others = holds_of_each (λ (k : Kept). may_come team t (with_seats (seats ++ s ∷ []) d) [] k ≡ true → (may_come team t (with_seats seats d) [] k ≡ true) ⊎ (k ≡ u)) pending
                  (λ k c may. elim (comes_of team t d seats s k may) [ inl old ↦ inl old | inr next ↦ inr (one u k e c next) ]);
              stay = holds_of_each (λ (k : Kept). may_come team t (with_seats seats d) [] k ≡ true → may_come team t (with_seats (seats ++ s ∷ []) d) [] k ≡ true) pending (λ k c may. still_comes team t d seats s k may);
            }) is
        by false ripe =
            kept_first team t (with_seats seats d) (with_seats (seats ++ s ∷ []) d) pending first
            (holds_of_each Same pending (λ k c. same_as_before team t d seats s k (unripe k c (is_next_at s k) refl))) is
          where
            unripe : (k : Kept) → Contains pending k → (b : Bool) → is_next_at s k ≡ b → (b && is_ripe team t k.entry) ≡ false
            unripe k c true next = ap (λ (k : Kept). is_ripe team t k.entry) (one u k e c next) ∙ ripe
            unripe k c false next = refl

pub one_seat_more : (team : Team) (t : ℕ) (d : Decision) (pending : List Kept) (seats : List Seat) (i : ℕ) (x : Seat) (first found after : Option Entry) → i < length seats → WaitInOrder pending → IsFirst team t (with_seats (take i seats) d) pending first → found ≡ ripe_at team t pending (get_or seats i x) → after ≡ earlier first found → IsFirst team t (with_seats (take (i + 1) seats) d) pending after
one_seat_more team t d pending seats i x first found after inside order is one two =
    let more : take (i + 1) seats ≡ take i seats ++ get_or seats i x ∷ [] = take_more seats i x inside in
    let whole : after ≡ earlier first (ripe_at team t pending (get_or seats i x)) = two ∙ ap (earlier first) one in
    rw (more, whole) (first_with_seat team t d pending (take i seats) (get_or seats i x) first order is)
