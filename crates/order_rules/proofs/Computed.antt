-- The appended list computed: what comes next, so many times, and the test that nothing follows.
use Rattle.std.proofs.Common.{◌≡◌, refl, ℕ, ◌+◌, ◌<◌, Bool, true, false, not, cond, List, [], ◌∷◌, ◌++◌, length, Option, Some, None, inl, inr, ◌⊎◌, arith, sym, ap, ◌∙◌, subst, find, zero, suc, nat_lt, filter}
use Rattle.std.specs.Prelude.{◌&&◌, ◌||◌}
use Rattle.std.specs.List.{AllByRecursion, Contains, list_all}
use Rattle.std.proofs.lemmas.Bool.Decides.{nat_tests}
use Rattle.tw_types.specs.declared.team.Team.{Team}
use Rattle.tw_types.specs.declared.message.Entry.{Entry}
use Rattle.tw_types.specs.declared.message.Kept.{Kept}
use Rattle.tw_types.specs.declared.message.Seat.{Seat}
use Rattle.tw_types.specs.declared.message.Decision.{Decision}
use Rattle.tw_types.specs.Ranges.{Ascends}
use Rattle.tw_types.specs.Decisions.{decision_length}
use Rattle.tw_types.specs.Updates.{waits_before, WaitInOrder}
use Rattle.tw_types.specs.Appending.{may_come, goes_before, added_entry, IsNextEntry, EachIsNext, has_room, IsAppended}
use Rattle.order_rules.proofs.Lists.{holds_of, holds_of_each, in_cases, first_in, later_in, both}
use Rattle.order_rules.proofs.First.{found_passes}
use Rattle.order_rules.proofs.Longest.{longest, room_by, has_room_by, NoneFollows, IsFull}

-- ---- tests

untrue : (b : Bool) → not b ≡ true → b ≡ false
untrue true h = cc
untrue false h = refl

all_pass : {X : Type 0} (p : X → Bool) (xs : List X) → list_all p xs ≡ true → AllByRecursion (λ (x : X). p x ≡ true) xs
all_pass p [] h = tt
all_pass p (x ∷ xs) h = let z = both (p x) (list_all p xs) h in (z.0, all_pass p xs z.1)

abbrev pub ascend : List Seat → Bool
ascend [] = true
ascend (s ∷ seats) = list_all (λ (t : Seat). nat_lt s.member.who t.member.who) seats && ascend seats

ascends_of : (seats : List Seat) → ascend seats ≡ true → Ascends seats
ascends_of [] h = tt
ascends_of (s ∷ seats) h =
    let z = both (list_all (λ (t : Seat). nat_lt s.member.who t.member.who) seats) (ascend seats) h in (
      holds_of_each (λ (t : Seat). s.member.who < t.member.who) seats
          (λ t c. let e : nat_lt s.member.who t.member.who ≡ true = holds_of (λ (t : Seat). nat_lt s.member.who t.member.who ≡ true) seats t (all_pass (λ (t : Seat). nat_lt s.member.who t.member.who) seats z.0) c in grind (arith, nat_tests)),
      ascends_of seats z.1,
    )

abbrev pub wait_in_order : List Kept → Bool
wait_in_order [] = true
wait_in_order (k ∷ pending) = list_all (waits_before k) pending && wait_in_order pending

order_of : (pending : List Kept) → wait_in_order pending ≡ true → WaitInOrder pending
order_of [] h = tt
order_of (k ∷ pending) h = let z = both (list_all (waits_before k) pending) (wait_in_order pending) h in (all_pass (waits_before k) pending z.0, order_of pending z.1)

-- ---- what comes next

abbrev pub is_foremost : List Kept → Kept → Bool
is_foremost candidates u = list_all (λ (other : Kept). not (goes_before other.entry u.entry)) candidates

-- the first of some updates that no other goes before
abbrev pub foremost : List Kept → Option Kept
foremost candidates = find (is_foremost candidates) candidates

abbrev pub next_of : Team → (t : ℕ) → Decision → List Kept → (before : List Entry) → Option Kept
next_of team t d pending before = foremost (filter (may_come team t d before) pending)

kept_by : (p : Kept → Bool) (pending : List Kept) (u : Kept) → Contains (filter p pending) u → Contains pending u × (p u ≡ true)
kept_by p [] u c = absurd (omega (arith, c.1))
kept_by p (k ∷ pending) u c = go (p k) refl c (λ c. kept_by p pending u c)
  where
    go : (b : Bool) → p k ≡ b → Contains (cond b (k ∷ filter p pending) (filter p pending)) u → (Contains (filter p pending) u → Contains pending u × (p u ≡ true)) → Contains (k ∷ pending) u × (p u ≡ true)
    go true e c later = elim (in_cases k (filter p pending) u c) [
      | inl same ↦ (subst (Contains (k ∷ pending)) same (first_in k pending), ap p (sym same) ∙ e)
      | inr more ↦ (let z = later more in (later_in k pending u z.0, z.1))
    ]
    go false e c later = let z = later c in (later_in k pending u z.0, z.1)

keeps : (p : Kept → Bool) (pending : List Kept) (u : Kept) → Contains pending u → p u ≡ true → Contains (filter p pending) u
keeps p [] u c h = absurd (omega (arith, c.1))
keeps p (k ∷ pending) u c h = go (p k) refl (in_cases k pending u c) (λ c. keeps p pending u c h)
  where
    go : (b : Bool) → p k ≡ b → (k ≡ u) ⊎ Contains pending u → (Contains pending u → Contains (filter p pending) u) → Contains (cond b (k ∷ filter p pending) (filter p pending)) u
    go true e (inl same) later = subst (Contains (k ∷ filter p pending)) same (first_in k (filter p pending))
    go true e (inr more) later = later_in k (filter p pending) u (later more)
    go false e (inl same) later = (let q : p k ≡ true = ap p same ∙ h in cc)
    go false e (inr more) later = later more

next_entry_of : (team : Team) (t : ℕ) (d : Decision) (pending : List Kept) (before : List Entry) (u : Kept) → next_of team t d pending before ≡ Some u → IsNextEntry team t d pending before (added_entry d before u)
next_entry_of team t d pending before u is =
    let may : Kept → Bool = λ k. may_come team t d before k in
    let candidates : List Kept = filter may pending in
    let f = found_passes (is_foremost candidates) candidates u is in
    let k = kept_by may pending u f.0 in
    let all = all_pass (λ (other : Kept). not (goes_before other.entry u.entry)) candidates f.1 in
    record {
      update = u;
      waits = k.0;
      ripe = k.1;
      first = holds_of_each (λ (other : Kept). may_come team t d before other ≡ true → goes_before other.entry u.entry ≡ false) pending
          (λ other c comes. untrue (goes_before other.entry u.entry) (holds_of (λ (other : Kept). not (goes_before other.entry u.entry) ≡ true) candidates other all (keeps may pending other c comes)));
      entry = refl;
    }

-- ---- the list

-- what is added behind some entries, at most so many
abbrev pub added_by : Team → (t : ℕ) → Decision → List Kept → (count : ℕ) → (before : List Entry) → List Entry
added_by team t d pending zero before = []
added_by team t d pending (suc count) before =
    elim (next_of team t d pending before) [
      | None ↦ []
      | Some u ↦ added_entry d before u ∷ added_by team t d pending count (before ++ added_entry d before u ∷ [])
    ]

each_added : (team : Team) (t : ℕ) (d : Decision) (pending : List Kept) (count : ℕ) (before : List Entry) → EachIsNext team t d pending before (added_by team t d pending count before)
each_added team t d pending zero before = tt
each_added team t d pending (suc count) before = go (next_of team t d pending before) refl (λ before. each_added team t d pending count before)
  where
    go : (o : Option Kept) → next_of team t d pending before ≡ o → ((before : List Entry) → EachIsNext team t d pending before (added_by team t d pending count before))
        → EachIsNext team t d pending before (elim o [ None ↦ [] | Some u ↦ added_entry d before u ∷ added_by team t d pending count (before ++ added_entry d before u ∷ []) ])
    go None is later = tt
    go (Some u) is later = (next_entry_of team t d pending before u is, later (before ++ added_entry d before u ∷ []))

-- no pending update may come behind these entries, or one more has no room
abbrev pub nothing_follows : Team → (t passed : ℕ) → Decision → List Kept → List Entry → Bool
nothing_follows team t passed d pending entries =
    list_all (λ (k : Kept). not (may_come team t d entries k)) pending || not (room_by (length d.window.items) (decision_length d) passed (length entries + 1))

ends_by : (team : Team) (t passed : ℕ) (d : Decision) (pending : List Kept) (entries : List Entry) → nothing_follows team t passed d pending entries ≡ true → NoneFollows team t d pending entries ⊎ IsFull passed d pending entries
ends_by team t passed d pending entries h = go (list_all (λ (k : Kept). not (may_come team t d entries k)) pending) refl h
  where
    go : (b : Bool) → list_all (λ (k : Kept). not (may_come team t d entries k)) pending ≡ b → (b || not (room_by (length d.window.items) (decision_length d) passed (length entries + 1))) ≡ true → NoneFollows team t d pending entries ⊎ IsFull passed d pending entries
    go true e h =
        let all = all_pass (λ (k : Kept). not (may_come team t d entries k)) pending e in
        inl (holds_of_each (λ (k : Kept). may_come team t d entries k ≡ false) pending (λ k c. untrue (may_come team t d entries k) (holds_of (λ (k : Kept). not (may_come team t d entries k) ≡ true) pending k all c)))
    go false e h = inr (λ others e. has_room_by passed d pending others (length entries) e ∙ (untrue (room_by (length d.window.items) (decision_length d) passed (length entries + 1)) h))

-- So a list is the appended one by tests that compute.
pub record Computes (team : Team) (t passed : ℕ) (d : Decision) (pending : List Kept) (entries : List Entry) : Type 0 where
  pub ascending : ascend d.seats.items ≡ true
  pub order : wait_in_order pending ≡ true
  pub added : added_by team t d pending (length entries) [] ≡ entries
  pub room : has_room passed d pending entries ≡ true
  pub end : nothing_follows team t passed d pending entries ≡ true

pub computed : (team : Team) (t passed : ℕ) (d : Decision) (pending : List Kept) (entries : List Entry) → Computes team t passed d pending entries → IsAppended team t passed d pending entries
computed team t passed d pending entries h =
    longest team t passed d pending entries (ascends_of d.seats.items h.ascending) (λ _. order_of pending h.order)
    (record { each = subst (EachIsNext team t d pending []) h.added (each_added team t d pending (length entries) []); room = h.room })
    (ends_by team t passed d pending entries h.end)
