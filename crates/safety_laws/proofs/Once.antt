-- A pair is made once, and an informed process stands above what it made.
use Rattle.std.proofs.Common.{◌≡◌, ◌≢◌, refl, sym, ap, subst, ◌∙◌, inl, inr, ◌⊎◌, ℕ, suc, ◌≤◌, ◌<◌, Bool, true, false, nat_eq, List, [], ◌∷◌, Option, Some, None, Ok, arith}
use Rattle.std.specs.List.{AllByRecursion}
use Rattle.std.specs.Option.{option_map}
use Rattle.std.proofs.lemmas.Bool.Decides.{nat_tests}
use Rattle.tw_machine.specs.Types.{Team, Ballot, Entry, Kept, Decision, Member, Seat, Mode, Step}
use Rattle.tw_types.specs.declared.outputs.Mode.TheVariants as modes
use Rattle.tw_types.specs.Ballots.{begun, joined, wants}
use Rattle.tw_types.specs.Beliefs.{Belief, Informed, Blank, is_informed, last_of, view_decision}
use Rattle.tw_types.specs.Decisions.{or_none, is_older, is_seat_of}
use Rattle.tw_types.specs.Waiting.{payloads_of}
use Rattle.tw_types.specs.Groups.{group_made, next_making}
use Rattle.tw_types.specs.Process.{Process, started}
use Rattle.tw_types.specs.Reports.{is_by_informed}
use Rattle.tw_types.specs.Slots.{owner, seat_after}
use Rattle.tw_types.specs.Turns.{is_turn, next_decision}
use Rattle.tw_types.specs.Votes.{Promise, Making}
use Rattle.tw_machine.specs.History.{Promised, life, promise_item, make_item}
use Rattle.tw_machine.specs.History as items
use Rattle.tw_machine.specs.Standing.{member_of, last_decision}
use Rattle.tw_machine.specs.Deciding.{entries_to_add, kept_to_add}
use Rattle.tw_machine.specs.World.{world}
use Rattle.safety_laws.specs.Ascend.{IsBelow, Ascends}
use Rattle.safety_laws.specs.Effects.{Written, State, Here, BallotReason, Begins, Adds, Drops, MayTake, Takes, MakeReason, Next, Group, Makes, Change}
use Rattle.safety_laws.specs.Laws.{Law, Holds, Both}
use Rattle.tw_types.specs.Items.{In}
use Rattle.safety_laws.specs.Made.{IsBeginOf, IsNotOlder, WasMade, TellsLast, TellsDecision, Arises, AsFirst, AsNext, IsUnderPromise, BallotHolds, OfMakes, OfMaker, made}
use Rattle.safety_laws.specs.Memory.{memory}
use Rattle.safety_laws.specs.Names.{promise_name, make_name, IsNamed, IsOfLife, Present, Earlier}
use Rattle.safety_laws.specs.Once.{SamePair, StandsAbove, IsAboveAll, IsUnmade, once}
use Rattle.safety_laws.specs.Windows.{IsInWindow}
use Rattle.safety_laws.specs.Promises.{OfPromises, OfPromiser, of_promises}
use Rattle.safety_laws.proofs.Ballots.{not_older_self, not_older_over, not_older_by_group, not_older_group, older_is_not}
use Rattle.safety_laws.proofs.FirstDecisions.{IsFirstOf, same_member_of}
use Rattle.safety_laws.proofs.Held.{may_take}
use Rattle.safety_laws.proofs.Lists.{of_each, each_from, each_weaker}
use Rattle.safety_laws.proofs.Induction.{start_by}
use Rattle.safety_laws.proofs.Made.{is_group, source_made}
use Rattle.safety_laws.proofs.MadeRules.{first_life}
use Rattle.safety_laws.proofs.MadeLists.{last_made, has_last}
use Rattle.safety_laws.proofs.NextDecisions.{seat_due, next_seat, any_in}
use Rattle.safety_laws.proofs.Stack.{Stepping, IsMailed, RulesOver, first_of, second_of}
use Rattle.safety_laws.proofs.Turns.{all_positive, IsPromisedSeat, seats_promised, once_same, first_of_make, arises_of}

-- what the law rests on
abbrev pub before_once : Team → Law
before_once team = Both (Both (of_promises team) memory) (made team)

-- ---- promises of one process

-- of two promises of one process one is below the other, if they aren't the same
ordered : (promises : List Promised) → Ascends promises → (a b : Promised) → In a promises → In b promises → a.who ≡ b.who → (a ≡ b) ⊎ IsBelow a b ⊎ IsBelow b a
ordered [] all a b i j same = absurd i
ordered (x ∷ older) all a b (inl p) (inl q) same = inl (p ∙ sym q)
ordered (x ∷ older) all a b (inl p) (inr j) same = inr (inl (subst (λ (z : Promised). IsBelow z b) (sym p) (of_each (λ (y : Promised). y.who ≡ x.who → IsBelow x y) older b all.0 j (sym same ∙ ap (λ (z : Promised). z.who) p))))
ordered (x ∷ older) all a b (inr i) (inl q) same = inr (inr (subst (λ (z : Promised). IsBelow z a) (sym q) (of_each (λ (y : Promised). y.who ≡ x.who → IsBelow x y) older a all.0 i (same ∙ ap (λ (z : Promised). z.who) q))))
ordered (x ∷ older) all a b (inr i) (inr j) same = ordered older all.1 a b i j same

-- a process gives one promise of a number
one_of_number : (promises : List Promised) → Ascends promises → (a b : Promised) → In a promises → In b promises → a.who ≡ b.who → a.promise.number ≡ b.promise.number → a ≡ b
one_of_number promises all a b i j same number = go (ordered promises all a b i j same)
  where
    go : (a ≡ b) ⊎ IsBelow a b ⊎ IsBelow b a → a ≡ b
    go (inl e) = e
    go (inr (inl low)) = absurd (let l = low.number in omega arith)
    go (inr (inr low)) = absurd (let l = low.number in omega arith)

-- who promised a number in this life promised no greater one, in any life
pub no_greater : (team : Team) (steps : List Step) (w : Written) (who : ℕ) (p : Process) → OfPromises team steps w → OfPromiser steps w who p → 0 < p.vote.promised → (z : Promised) → In z w.promises → z.who ≡ who → z.promise.number ≤ p.vote.promised
no_greater team steps w who p known mine some z i by = go (of_each (λ (v : Promised). v.who ≡ who → IsOfLife (life who steps) p mine.own.begun (promise_name v)) w.promises z mine.own.promises i by)
  where
    latest : (x : Promised) × In x w.promises × (x.who ≡ who) × (x.life ≡ life who steps) × (x.promise.number ≡ p.vote.promised)
    latest = mine.latest.promised some

    above : z.life < life who steps → (z ≡ latest.0) ⊎ IsBelow z latest.0 ⊎ IsBelow latest.0 z → z.promise.number ≤ p.vote.promised
    above l (inl e) = let n = ap (λ (v : Promised). v.promise.number) e in let m = latest.4 in omega arith
    above l (inr (inl low)) = absurd (let k = low.life in let now = latest.3 in omega arith)
    above l (inr (inr low)) = let k = low.number in let m = latest.4 in omega arith

    go : IsOfLife (life who steps) p mine.own.begun (promise_name z) → z.promise.number ≤ p.vote.promised
    go (Present l incarnation) = of_each (λ (v : Promised). v.who ≡ who → v.life ≡ life who steps → v.promise.number ≤ p.vote.promised) w.promises z mine.latest.greatest i by l
    go (Earlier l incarnation t again) = above l (ordered w.promises known.ascend z latest.0 i latest.1 (by ∙ sym latest.2))

module _ (team : Team) (past : List Step) (s : Step) (here : Here) (x y : State) (at : Stepping team past s here) (mailed : IsMailed here x.written) (change : Change here x y)
    (before : Holds (before_once team) (s ∷ past) (world team past) s.who x) (after : Holds (before_once team) (s ∷ past) (world team past) s.who y) (k : Holds once (s ∷ past) (world team past) s.who x) where
  abbrev steps : List Step
  steps = s ∷ past

  me : here.step.who ≡ s.who
  me = ap (λ (e : Step). e.who) at.same_step

  known : OfPromises team steps x.written
  known = before.history.0.0

  mine : OfPromiser steps x.written s.who x.process
  mine = before.own.0.0

  makes : OfMakes team steps x.written
  makes = before.history.1

  maker : OfMaker team steps x.written s.who x.process
  maker = before.own.1

  above_of : is_informed x.process.belief ≡ true → (d : items.Make) → In d x.written.makes → d.who ≡ s.who → StandsAbove (last_decision x.process) d
  above_of informed d i mine = of_each (λ (m : items.Make). m.who ≡ s.who → StandsAbove (last_decision x.process) m) x.written.makes d (k.own.0 informed) i mine

  above_last : (last : Decision) → last_decision x.process ≡ Some last → (d : items.Make) → In d x.written.makes → d.who ≡ s.who → IsNotOlder last.group last.turn d.making.decision.group d.making.decision.turn
  above_last last is d i mine = subst (λ o. StandsAbove o d) is (above_of (has_last x.process last is) d i mine)

  -- a make's number is promised by its process, and that isn't above what it promised last
  under_of : (d : items.Make) → In d x.written.makes → IsUnderPromise x.written.promises d
  under_of d i = of_each (IsUnderPromise x.written.promises) x.written.makes d makes.under i

  not_above : 0 < x.process.vote.promised → (d : items.Make) → In d x.written.makes → d.who ≡ s.who → d.making.decision.group ≤ x.process.vote.promised
  not_above some d i by = let u = under_of d i in let low = no_greater team steps x.written s.who x.process known mine some u.0 u.1 (u.2 ∙ by) in let number = u.5 in omega arith

  -- ---- a new make

  not_made_next : (c : Makes here x y) → (last : Decision) → last_decision x.process ≡ Some last → is_turn here.team (member_of x.process.identity) (Some last) x.process.vote.promised c.t ≡ true → (d : items.Make) → In d x.written.makes → (d.making.decision.group ≡ last.group) × (d.making.decision.turn ≡ suc last.turn) → ⊥
  not_made_next c last is turn d i same = by_arises (arises_of team x.written.promises x.written.makes makes.arise d i)
    where
      was : WasMade x.written.makes last
      was = last_made x.written.makes x.process last maker.keeps is

      ring : (seat : Seat) × (seat_after last.maker last.seats.items ≡ Some seat) × (seat.member ≡ member_of x.process.identity)
      ring = next_seat (member_of x.process.identity) last (seat_due here.team (member_of x.process.identity) last x.process.vote.promised c.t turn)

      by_member : d.member ≡ member_of x.process.identity → ⊥
      by_member member =
          let named = of_each (λ (v : items.Make). IsNamed steps (make_name v)) x.written.makes d known.names.makes i in
          let by : d.who ≡ s.who = sym named.member ∙ ap (λ (m : Member). m.who) member ∙ mine.own.is in
          let low = above_last last is d i by in
          let group = same.0 in
          let turn = same.1 in
          absurd_pair last.group last.turn d.making.decision.group d.making.decision.turn low group turn
        where
          absurd_pair : (g t g' t' : ℕ) → IsNotOlder g t g' t' → g' ≡ g → t' ≡ suc t → ⊥
          absurd_pair g t g' t' low e f = grind (arith, nat_tests)

      by_arises : (older : List items.Make) × ((z : items.Make) → In z older → In z x.written.makes) × Arises team x.written.promises older d → ⊥
      by_arises (older, more, AsFirst turn comes) = let t = same.1 in omega arith
      by_arises (older, more, AsNext before f) =
          let b = f.was_made in
          let same_pair : SamePair b.0 was.0 = (
            ap (λ (z : Decision). z.group) b.2 ∙ sym f.group ∙ same.0 ∙ sym (ap (λ (z : Decision). z.group) was.2),
            ap (λ (z : Decision). z.turn) b.2 ∙ (let t = f.turn in let u = same.1 in (let e : before.turn ≡ last.turn = omega arith in e)) ∙ sym (ap (λ (z : Decision). z.turn) was.2),
          ) in
          let one : b.0 ≡ was.0 = once_same x.written.makes k.history b.0 was.0 (more b.0 b.1) was.1 same_pair in
          let same_last : before ≡ last = sym b.2 ∙ ap (λ (m : items.Make). m.making.decision) one ∙ was.2 in
          let after_last : seat_after last.maker last.seats.items ≡ Some f.ring.0 = ap (λ (z : Decision). seat_after z.maker z.seats.items) (sym same_last) ∙ f.ring.1 in
          let seat : f.ring.0 ≡ ring.0 = some_same (sym after_last ∙ ring.1) in
          by_member (sym f.ring.2 ∙ ap (λ (z : Seat). z.member) seat ∙ ring.2)
        where
          some_same : {X : Type 0} {a b : X} → Some a ≡ Some b → a ≡ b
          some_same e = cc

  abbrev early : Holds (of_promises team) steps (world team past) s.who x
  early = first_of (of_promises team) memory steps (world team past) s.who x (first_of (Both (of_promises team) memory) (made team) steps (world team past) s.who x before)

  early_after : Holds (of_promises team) steps (world team past) s.who y
  early_after = first_of (of_promises team) memory steps (world team past) s.who y (first_of (Both (of_promises team) memory) (made team) steps (world team past) s.who y after)

  made_before : Holds (made team) steps (world team past) s.who x
  made_before = second_of (Both (of_promises team) memory) (made team) steps (world team past) s.who x before

  group_is : (c : Makes here x y) → (ballot : Ballot) → x.process.ballot ≡ Some ballot → group_made here.team ballot x.process.log (payloads_of x.process.waiting) (member_of x.process.identity) c.t ≡ Ok c.making.decision → IsFirstOf team ballot (member_of x.process.identity) c.t c.making.decision
  group_is = is_group team past s here x y at mailed change early early_after made_before

  next_pair : (c : Makes here x y) → (entries : List Entry) → (appended : List Kept) → (last : Decision) → c.making ≡ next_making last appended (next_decision entries last c.t x.process.identity.who) → (c.making.decision.group ≡ last.group) × (c.making.decision.turn ≡ suc last.turn)
  next_pair c entries appended last same = (ap (λ (m : Making). m.decision.group) same, ap (λ (m : Making). m.decision.turn) same ∙ omega arith)

  new_once : (c : Makes here x y) → AllByRecursion (λ (d : items.Make). SamePair (make_item (member_of x.process.identity) here.life here.step x.written.makes c.making) d → ⊥) x.written.makes
  new_once c = each_from (λ (d : items.Make). SamePair (make_item (member_of x.process.identity) here.life here.step x.written.makes c.making) d → ⊥) x.written.makes (λ d i same. go c.reason d i same)
    where
      go : MakeReason here c.making c.t x y → (d : items.Make) → In d x.written.makes → SamePair (make_item (member_of x.process.identity) here.life here.step x.written.makes c.making) d → ⊥
      go (Next last is turn eq ballot) d i same = let pair = next_pair c (entries_to_add here.team c.t last x.process) (kept_to_add here.team c.t last x.process) last eq in not_made_next c last is turn d i (sym same.0 ∙ pair.0, sym same.1 ∙ pair.1)
      go (Group ballot is full e eq none) d i same =
          of_each (λ (m : items.Make). m.making.decision.group ≢ ballot.number) x.written.makes d (k.own.1 ballot is) i (sym same.0 ∙ (group_is c ballot is e).group)

  -- a new make stands above all that its process made
  new_above : (c : Makes here x y) → (d : items.Make) → In d x.written.makes → d.who ≡ s.who → IsNotOlder c.making.decision.group c.making.decision.turn d.making.decision.group d.making.decision.turn
  new_above c d i by = go c.reason
    where
      go : MakeReason here c.making c.t x y → IsNotOlder c.making.decision.group c.making.decision.turn d.making.decision.group d.making.decision.turn
      go (Next last is turn eq ballot) =
          let pair = next_pair c (entries_to_add here.team c.t last x.process) (kept_to_add here.team c.t last x.process) last eq in
          let low = above_last last is d i by in
          more last.group last.turn c.making.decision.group c.making.decision.turn d.making.decision.group d.making.decision.turn low pair.0 pair.1
        where
          more : (g t g' t' a b : ℕ) → IsNotOlder g t a b → g' ≡ g → t' ≡ suc t → IsNotOlder g' t' a b
          more g t g' t' a b low e f = grind (arith, nat_tests)
      go (Group ballot is full e eq none) =
          let group = c.group in
          let number = (group_is c ballot is e).group in
          let other = of_each (λ (m : items.Make). m.making.decision.group ≢ ballot.number) x.written.makes d (k.own.1 ballot is) i in
          let positive = promised_positive ballot is in
          let low = not_above (omega arith) d i by in
          not_older_by_group c.making.decision.group c.making.decision.turn d.making.decision.group d.making.decision.turn (below other (omega arith) number)
        where
          promised_positive : (ballot : Ballot) → x.process.ballot ≡ Some ballot → 1 ≤ ballot.number
          promised_positive ballot is =
              let own = (maker.ballot ballot is).own in
              let w = (of_each (IsInWindow team) x.written.promises own.0 known.windows own.1).positive in
              let number = own.4 in
              omega arith

          below : d.making.decision.group ≢ ballot.number → d.making.decision.group ≤ c.making.decision.group → c.making.decision.group ≡ ballot.number → d.making.decision.group < c.making.decision.group
          below other low number = omega arith

  -- ---- a taken decision

  may : (c : Takes here x y) → MayTake x.process c.taken_decision
  may c = may_take here x c.taken_decision c.source mine.held

  -- A blank process that takes a decision promised its group in this life, so it is above all that it made: what it made in an earlier
  -- life is of a lower group, and in this life it made nothing as the member that it is.
  blank_above : (c : Takes here x y) → is_informed x.process.belief ≡ false → 1 ≤ c.taken_decision.group → WasMade x.written.makes c.taken_decision → (d : items.Make) → In d x.written.makes → d.who ≡ s.who
      → IsNotOlder c.taken_decision.group c.taken_decision.turn d.making.decision.group d.making.decision.turn
  blank_above c lost positive was d i by = go (is_same d.making.decision.group c.taken_decision.group)
    where
      some : 0 < x.process.vote.promised
      some = let same = (may c).promised in omega arith

      u : IsUnderPromise x.written.promises d
      u = under_of d i

      other : d.member ≢ member_of x.process.identity
      other = of_each (λ (m : items.Make). m.who ≡ s.who → m.member ≢ member_of x.process.identity) x.written.makes d (before.own.0.1.blank lost) i by

      seat : (e : Seat) × In e c.taken_decision.seats.items × (is_seat_of (member_of x.process.identity) e ≡ true)
      seat = any_in (is_seat_of (member_of x.process.identity)) c.taken_decision.seats.items (may c).seat

      promised : AllByRecursion (IsPromisedSeat x.written.promises c.taken_decision.group) c.taken_decision.seats.items
      promised = subst (λ (z : Decision). AllByRecursion (IsPromisedSeat x.written.promises z.group) z.seats.items) was.2
          (of_each (λ (m : items.Make). AllByRecursion (IsPromisedSeat x.written.promises m.making.decision.group) m.making.decision.seats.items) x.written.makes was.0 (seats_promised team x.written.promises x.written.makes makes.arise) was.1)

      own : IsPromisedSeat x.written.promises c.taken_decision.group seat.0
      own = of_each (IsPromisedSeat x.written.promises c.taken_decision.group) c.taken_decision.seats.items seat.0 promised seat.1

      member : own.0.promise.report.member ≡ member_of x.process.identity
      member = own.3 ∙ same_member_of seat.0.member (member_of x.process.identity) seat.2

      own_by : own.0.who ≡ s.who
      own_by = sym (of_each (λ (v : Promised). IsNamed steps (promise_name v)) x.written.promises own.0 known.names.promises own.1).member ∙ ap (λ (m : Member). m.who) member ∙ mine.own.is

      is_same : (a b : ℕ) → (a ≡ b) ⊎ (a ≢ b)
      is_same a b = by_test (nat_eq a b) refl
        where
          by_test : (t : Bool) → nat_eq a b ≡ t → (a ≡ b) ⊎ (a ≢ b)
          by_test true e = inl (grind (arith, nat_tests))
          by_test false e = inr (grind (arith, nat_tests))

      go : (d.making.decision.group ≡ c.taken_decision.group) ⊎ (d.making.decision.group ≢ c.taken_decision.group) → IsNotOlder c.taken_decision.group c.taken_decision.turn d.making.decision.group d.making.decision.turn
      go (inl same) =
          let one : u.0 ≡ own.0 = one_of_number x.written.promises known.ascend u.0 own.0 u.1 own.1 (u.2 ∙ by ∙ sym own_by) (u.5 ∙ same ∙ sym own.2) in
          absurd (other (sym u.3 ∙ ap (λ (v : Promised). v.promise.report.member) one ∙ member))
      go (inr different) =
          let low = not_above some d i by in
          let number = (may c).promised in
          not_older_by_group c.taken_decision.group c.taken_decision.turn d.making.decision.group d.making.decision.turn (omega arith)

  taken_above : (c : Takes here x y) → (d : items.Make) → In d x.written.makes → d.who ≡ s.who → IsNotOlder c.taken_decision.group c.taken_decision.turn d.making.decision.group d.making.decision.turn
  taken_above c d i by = go x.process.belief refl
    where
      was : WasMade x.written.makes c.taken_decision
      was = source_made team past s here x y at mailed change early early_after made_before c.taken_decision c.source

      positive : 1 ≤ c.taken_decision.group
      positive = subst (λ (z : Decision). 1 ≤ z.group) was.2 (of_each (λ (m : items.Make). 1 ≤ m.making.decision.group) x.written.makes was.0 (all_positive team x.written.promises x.written.makes makes.arise) was.1)

      go : (b : Belief) → x.process.belief ≡ b → IsNotOlder c.taken_decision.group c.taken_decision.turn d.making.decision.group d.making.decision.turn
      go (Informed None) is = absurd (subst (λ o. StandsAbove o d) (ap last_of is) (above_of (ap is_informed is) d i by))
      go (Informed (Some last)) is =
          let low = above_last last (ap last_of is) d i by in
          let newer : is_older last.group last.turn c.taken_decision.group c.taken_decision.turn ≡ true = subst (λ (b : Belief). is_older (or_none (view_decision b)).group (or_none (view_decision b)).turn c.taken_decision.group c.taken_decision.turn ≡ true) is (may c).newer in
          not_older_over c.taken_decision.group c.taken_decision.turn last.group last.turn d.making.decision.group d.making.decision.turn (older_is_not last.group last.turn c.taken_decision.group c.taken_decision.turn newer) low
      go (Blank followed) is = blank_above c (ap is_informed is) positive was d i by

  -- ---- a ballot that begins

  begun_unmade : (given : Promise) (older : List Promised) → x.written.promises ≡ promise_item here.life here.step given ∷ older → owner here.team.n given.number ≡ x.process.identity.who → is_informed x.process.belief ≡ true
      → given.decision ≡ last_decision x.process → (d : items.Make) → In d x.written.makes → d.making.decision.group ≢ given.number
  begun_unmade given older is owned informed decision d i same = by_last (last_decision x.process) refl
    where
      first : (f : items.Make) × In f x.written.makes × IsBeginOf d.making.decision f
      first = first_of_make team x.written.promises x.written.makes makes.arise d i

      comes : (f : items.Make) → In f x.written.makes → f.making.decision.turn ≡ 0 → owner team.n f.making.decision.group ≡ f.who
      comes f j turn = go (arises_of team x.written.promises x.written.makes makes.arise f j)
        where
          go : (older : List items.Make) × ((z : items.Make) → In z older → In z x.written.makes) × Arises team x.written.promises older f → owner team.n f.making.decision.group ≡ f.who
          go (older, more, AsFirst zero_turn c) = c.owned
          go (older, more, AsNext last c) = absurd (let t = c.turn in omega arith)

      by : first.0.who ≡ s.who
      by = sym (comes first.0 first.1 first.2.begins.turn) ∙ ap (owner team.n) (first.2.begins.group_is ∙ same) ∙ subst (λ (t : Team). owner t.n given.number ≡ s.who) at.same_team (owned ∙ mine.own.is)

      tells : TellsDecision x.written.makes (promise_item here.life here.step given)
      tells = (subst (λ ps. AllByRecursion (TellsDecision x.written.makes) ps) is makes.tells).0

      by_last : (o : Option Decision) → last_decision x.process ≡ o → ⊥
      by_last None none = subst (λ o. StandsAbove o first.0) none (above_of informed first.0 first.1 by)
      by_last (Some last) some =
          let told : given.decision ≡ Some last = decision ∙ some in
          let low : last.group < given.number = below_told last told in
          let high = not_older_group last.group last.turn first.0.making.decision.group first.0.making.decision.turn (above_last last some first.0 first.1 by) in
          let group = first.2.begins.group_is in
          omega arith
        where
          below_told : (last : Decision) → given.decision ≡ Some last → last.group < given.number
          below_told last told = go (is_by_informed given.report) refl
            where
              go : (b : Bool) → is_by_informed given.report ≡ b → last.group < given.number
              go true e = let t : TellsLast x.written.makes (promise_item here.life here.step given) (Some last) = subst (TellsLast x.written.makes (promise_item here.life here.step given)) told (tells.informed e) in t.4
              go false e = absurd (let none : Some last ≡ None = sym told ∙ tells.ready e in cc)

  -- ---- each effect

  -- nothing was made, and the process believes and holds what it did
  same_lists : y.written.makes ≡ x.written.makes → y.process.belief ≡ x.process.belief → IsUnmade x.written y.process → Holds once steps (world team past) s.who y
  same_lists eq belief unmade = record {
    history = rw eq k.history;
    own = (λ informed. rw (eq, belief) (k.own.0 (ap is_informed (sym belief) ∙ informed)), λ b is. rw eq (unmade b is));
    others = λ q p other runs. let o = k.others q p other runs in (λ informed. rw eq (o.0 informed), λ b is. rw eq (o.1 b is));
  }

  same_ballot : y.process.ballot ≡ x.process.ballot → IsUnmade x.written y.process
  same_ballot ballot b is = k.own.1 b (sym ballot ∙ is)

  held_unmade : BallotReason here x y → IsUnmade x.written y.process
  held_unmade (Begins given older is promised owned informed member decision ballot) b e =
      let same : begun given ≡ b = some_same (sym ballot ∙ e) in
      each_from (λ (m : items.Make). m.making.decision.group ≢ b.number) x.written.makes (λ d i eq. begun_unmade given older is owned informed decision d i (eq ∙ ap (λ (z : Ballot). z.number) (sym same)))
    where
      some_same : {X : Type 0} {a b : X} → Some a ≡ Some b → a ≡ b
      some_same e = cc
  held_unmade (Adds given head mail want ballot) b e = go x.process.ballot refl
    where
      go : (o : Option Ballot) → x.process.ballot ≡ o → AllByRecursion (λ (m : items.Make). m.making.decision.group ≢ b.number) x.written.makes
      go None is = absurd (let no : wants given None ≡ true = subst (λ o. wants given o ≡ true) is want in cc)
      go (Some old) is =
          let now : Some (joined given old) ≡ Some b = sym (ballot ∙ ap (option_map (joined given)) is) ∙ e in
          let same : joined given old ≡ b = cc in
          subst (λ (n : ℕ). AllByRecursion (λ (m : items.Make). m.making.decision.group ≢ n) x.written.makes) (ap (λ (z : Ballot). z.number) same) (k.own.1 old is)
  held_unmade (Drops none) b e = absurd (cc)

  -- a new make is of the number of no ballot that is held after it
  new_number : (c : Makes here x y) → (q : ℕ) (p : Process) (b : Ballot) → BallotHolds team steps x.written q p b → AllByRecursion (λ (m : items.Make). m.making.decision.group ≢ b.number) x.written.makes → (q ≡ s.who → y.process.ballot ≡ Some b) → c.making.decision.group ≢ b.number
  new_number c q p b holds unmade own same = go c.reason
    where
      go : MakeReason here c.making c.t x y → ⊥
      go (Next last is turn eq ballot) =
          let was = last_made x.written.makes x.process last maker.keeps is in
          of_each (λ (m : items.Make). m.making.decision.group ≢ b.number) x.written.makes was.0 unmade was.1 (ap (λ (z : Decision). z.group) was.2 ∙ sym (next_pair c (entries_to_add here.team c.t last x.process) (kept_to_add here.team c.t last x.process) last eq).0 ∙ same)
      go (Group ballot is full e eq none) =
          let first = group_is c ballot is e in
          let h = maker.ballot ballot is in
          let me_too : q ≡ s.who = sym holds.owned ∙ ap (owner team.n) (sym same ∙ first.group) ∙ h.owned in
          absurd (let held = sym none ∙ own me_too in cc)

  changed : Change here x y → Holds once steps (world team past) s.who y
  changed (Change.Keep c) = same_lists c.makes c.belief (same_ballot c.ballot)
  changed (Change.Give c) = same_lists (ap (λ (w : Written). w.makes) c.written) (ap (λ (p : Process). p.belief) c.process) (same_ballot (ap (λ (p : Process). p.ballot) c.process))
  changed (Change.Hold c) = same_lists (ap (λ (w : Written). w.makes) c.written) (ap (λ (p : Process). p.belief) c.process) (held_unmade c.reason)
  changed (Change.Deliver c) = same_lists (ap (λ (w : Written). w.makes) c.written) (ap (λ (p : Process). p.belief) c.process) (same_ballot (ap (λ (p : Process). p.ballot) c.process))
  changed (Change.Raise c) = same_lists (ap (λ (w : Written). w.makes) c.written) (ap (λ (p : Process). p.belief) c.process) (same_ballot (ap (λ (p : Process). p.ballot) c.process))
  changed (Change.Take c) =
      let eq : y.written.makes ≡ x.written.makes = ap (λ (w : Written). w.makes) c.written in
      let last : last_decision y.process ≡ Some c.taken_decision = ap (λ (p : Process). last_decision p) c.process in
      record {
        history = rw eq k.history;
        own = (λ informed. rw (eq, last) (each_from (λ (m : items.Make). m.who ≡ s.who → StandsAbove (Some c.taken_decision) m) x.written.makes (taken_above c)), λ b is. rw eq (same_ballot (ap (λ (p : Process). p.ballot) c.process) b is));
        others = λ q p other runs. let o = k.others q p other runs in (λ informed. rw eq (o.0 informed), λ b is. rw eq (o.1 b is));
      }
  changed (Change.Make c) =
      let new = make_item (member_of x.process.identity) here.life here.step x.written.makes c.making in
      let eq : y.written.makes ≡ new ∷ x.written.makes = ap (λ (w : Written). w.makes) c.written in
      let last : last_decision y.process ≡ Some c.making.decision = ap (λ (p : Process). last_decision p) c.process in
      record {
        history = rw eq (new_once c, k.history);
        own = (
          λ informed. rw eq (subst (λ o. AllByRecursion (λ (m : items.Make). m.who ≡ s.who → StandsAbove o m) (new ∷ x.written.makes)) (sym last) ((λ by. not_older_self c.making.decision.group c.making.decision.turn), each_from (λ (m : items.Make). m.who ≡ s.who → StandsAbove (Some c.making.decision) m) x.written.makes (new_above c))),
          λ b is. rw eq (own_number c b is, own_unmade c b is),
        );
        others = λ q p other runs. let o = k.others q p other runs in (
          λ informed. rw eq ((λ by. absurd (other (sym me ∙ by))), o.0 informed),
          λ b is. rw eq (new_number c q p b ((before.others q p other runs).1.ballot b is) (o.1 b is) (λ mine. absurd (other (sym mine))), o.1 b is),
        );
      }
    where
      own_unmade : (c : Makes here x y) → (b : Ballot) → y.process.ballot ≡ Some b → AllByRecursion (λ (m : items.Make). m.making.decision.group ≢ b.number) x.written.makes
      own_unmade c b is = go c.reason
        where
          go : MakeReason here c.making c.t x y → AllByRecursion (λ (m : items.Make). m.making.decision.group ≢ b.number) x.written.makes
          go (Next last i turn eq ballot) = k.own.1 b (sym ballot ∙ is)
          go (Group ballot i full e eq none) = absurd (cc)

      own_number : (c : Makes here x y) → (b : Ballot) → y.process.ballot ≡ Some b → c.making.decision.group ≢ b.number
      own_number c b is = go c.reason
        where
          go : MakeReason here c.making c.t x y → c.making.decision.group ≢ b.number
          go (Next last i turn eq ballot) = new_number c s.who x.process b (maker.ballot b (sym ballot ∙ is)) (k.own.1 b (sym ballot ∙ is)) (λ mine. is)
          go (Group ballot i full e eq none) = absurd (cc)

  once_changes : Holds once steps (world team past) s.who y
  once_changes = changed change

-- no process made anything before its first start
begins : (past : List Step) (s : Step) (w : Written) (mode : Mode) → (mode ≡ modes.First → life s.who past ≡ 0) → AllByRecursion (λ (m : items.Make). IsNamed past (make_name m)) w.makes → IsAboveAll w s.who (started s.who mode s.h)
begins past s w modes.First none named informed =
    each_weaker (λ (m : items.Make). IsNamed past (make_name m)) (λ (m : items.Make). m.who ≡ s.who → StandsAbove None m) w.makes
    (λ m k by. let low : m.life ≤ life s.who past = subst (λ q. m.life ≤ life q past) by k.life in let some = k.started in let zero_life = none refl in absurd (omega arith)) named
begins past s w modes.Again none named informed = absurd (cc)

pub once_rules : (team : Team) → RulesOver team (before_once team) once
once_rules team = record {
  nothing = tt;
  waits = λ past s w sound ok before k. k;
  remains = λ past s w who p sound ok same before h own k. k;
  begins = λ past s w mode sound ok act more before k. (begins past s w mode (λ first. first_life team past s ok (act ∙ ap start_by first)) before.0.0.names.makes, λ b is. absurd (cc));
  changes = λ past s here x y at mailed change before after k. once_changes team past s here x y at mailed change before after k;
}
