-- What a maker adds to the list is of members of its last decision, which a majority supports.
use Rattle.std.proofs.Common.{◌≡◌, refl, sym, subst, ℕ, Bool, true, false, cond, ◌&&◌, ◌==◌, ◌+◌, List, [], ◌∷◌, ◌++◌, Option, Some}
use Rattle.std.specs.Prelude.{not}
use Rattle.std.specs.List.{AllByRecursion, list_all}
use Rattle.std.proofs.lemmas.Bool.{and_parts}
use Rattle.tw_machine.specs.Types.{Team, Decision, Entry, Kept, Seat, Step}
use Rattle.tw_types.specs.Appending.{count_of, is_candidate, is_ripe, may_come, goes_before, added_entry, comes_next, come_in_turn, added_kept, appended_kept}
use Rattle.tw_types.specs.Decisions.{or_none, is_seat_of, has_seat}
use Rattle.tw_types.specs.Flag.{is_up}
use Rattle.tw_types.specs.Items.{In}
use Rattle.tw_types.specs.Process.{Process}
use Rattle.tw_types.specs.Updates.{sender}
use Rattle.tw_types.specs.Votes.{Making}
use Rattle.tw_machine.specs.Deciding.{kept_to_add}
use Rattle.tw_machine.specs.History.{Make}
use Rattle.safety_laws.specs.Effects.{State, Here, MakeReason, Next, Group, Makes}
use Rattle.safety_laws.specs.Groups.{HasMajority}
use Rattle.safety_laws.proofs.FirstDecisions.{same_member_of}
use Rattle.safety_laws.proofs.Lists.{of_each, each_from}
use Rattle.safety_laws.proofs.NextDecisions.{any_in, has_seat_of}
use Rattle.safety_laws.proofs.Stack.{Stepping}
use Rattle.safety_laws.proofs.Supported.{up_majority}
use Rattle.safety_laws.proofs.WholeNext.{added_in_turn}

-- an update is of a member of the decision that it is added to, and a majority supports that
pub record IsAddedBy (team : Team) (before : Option Decision) (u : Kept) : Type 0 where
  pub seat : has_seat (sender u.entry.id) (or_none before) ≡ true
  pub majority : HasMajority team (or_none before)

-- so are all that a make adds
abbrev pub AddsOfMembers : Team → Make → Type 0
AddsOfMembers team m = AllByRecursion (IsAddedBy team m.making.before) m.making.appended

-- ---- who adds

-- an update of a seat's member
candidate_seated : (d : Decision) (before : List Entry) (u : Kept) → is_candidate d before u ≡ true → has_seat (sender u.entry.id) d ≡ true
candidate_seated d before u e =
    let r = any_in (λ (s : Seat). is_seat_of (sender u.entry.id) s && (u.entry.id.seq == s.next + count_of s.member before)) d.seats.items e in
    let is = (and_parts (is_seat_of (sender u.entry.id) r.0) (u.entry.id.seq == r.0.next + count_of r.0.member before) r.2).0 in
    has_seat_of d.seats.items (sender u.entry.id) r.0 r.1 (same_member_of r.0.member (sender u.entry.id) is)

-- updates that come in turn are
turns_seated : (team : Team) (t : ℕ) (d : Decision) (pending : List Kept) (before : List Entry) (updates : List Kept) → come_in_turn team t d pending before updates ≡ true
    → AllByRecursion (λ (u : Kept). has_seat (sender u.entry.id) d ≡ true) (added_kept d before updates)
turns_seated team t d pending before [] e = tt
turns_seated team t d pending before (u ∷ updates) e =
    let h = and_parts (comes_next team t d pending before u) (come_in_turn team t d pending (before ++ added_entry d before u ∷ []) updates) e in
    let c = and_parts (may_come team t d before u) (list_all (λ (other : Kept). not (may_come team t d before other && goes_before other.entry u.entry)) pending) h.0 in
    let can = and_parts (is_candidate d before u) (is_ripe team t u.entry) c.0 in
    (candidate_seated d before u can.0, turns_seated team t d pending (before ++ added_entry d before u ∷ []) updates h.1)

-- who adds something is up
adds_up : (team : Team) (t : ℕ) (last : Decision) (p : Process) (u : Kept) → In u (kept_to_add team t last p) → is_up team p.vote p.belief (Some t) ≡ true
adds_up team t last p u i = go (is_up team p.vote p.belief (Some t)) i
  where
    go : (up : Bool) → In u (cond up (appended_kept team t p.log.passed last p.waiting.pending) []) → up ≡ true
    go true i = refl
    go false i = absurd i

module _ (team : Team) (past : List Step) (s : Step) (here : Here) (x y : State) (at : Stepping team past s here) where
  -- What a maker adds is of members of its last decision, and a majority supports that.
  pub added_by : (c : Makes here x y) → AllByRecursion (IsAddedBy team c.making.before) c.making.appended
  added_by c = go c.reason
    where
      p : Process
      p = x.process

      go : MakeReason here c.making c.t x y → AllByRecursion (IsAddedBy team c.making.before) c.making.appended
      go (Group ballot is full e same none) = subst (λ (m : Making). AllByRecursion (IsAddedBy team m.before) m.appended) (sym same) tt
      go (Next last is turn same ballot) = subst (λ (m : Making). AllByRecursion (IsAddedBy team m.before) m.appended) (sym same)
          (each_from (IsAddedBy team (Some last)) (kept_to_add here.team c.t last p) (λ u i.
          let r = added_in_turn here.team c.t last p in
          let all = turns_seated here.team c.t last p.waiting.pending [] r.updates r.in_turn in
          record {
            seat = of_each (λ (u : Kept). has_seat (sender u.entry.id) last ≡ true) (kept_to_add here.team c.t last p) u (subst (AllByRecursion (λ (u : Kept). has_seat (sender u.entry.id) last ≡ true)) (sym r.same) all) i;
            majority = up_majority team p c.t last is (subst (λ (z : Team). is_up z p.vote p.belief (Some c.t) ≡ true) at.same_team (adds_up here.team c.t last p u i));
          }))
