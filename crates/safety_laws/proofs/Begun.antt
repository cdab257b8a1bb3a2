-- What processes know, and knew when they promised, begins the lists of later groups that name them.
use Rattle.std.proofs.Common.{◌≡◌, sym, ap, subst, ◌∙◌, inl, inr, ◌⊎◌, ℕ, ◌+◌, ◌≤◌, ◌<◌, true, List, [], ◌∷◌, ◌++◌, take, Option, Some, Ok, arith}
use Rattle.std.specs.List.{AllByRecursion}
use Rattle.std.proofs.lemmas.List.{append-nil}
use Rattle.tw_machine.specs.Types.{Team, Ballot, Decision, Member, Report, Seat, Step}
use Rattle.tw_types.specs.Beliefs.{Belief, view_decision, log_length}
use Rattle.tw_types.specs.Decisions.{or_none, has_seat, is_seat_of}
use Rattle.tw_types.specs.Groups.{group_made, group_making}
use Rattle.tw_types.specs.Items.{In}
use Rattle.tw_types.specs.Process.{Process}
use Rattle.tw_types.specs.Reports.{is_consistent}
use Rattle.tw_types.specs.Votes.{Making}
use Rattle.tw_types.specs.Waiting.{payloads_of}
use Rattle.tw_machine.specs.History.{Promised, Make, promise_item, make_item, list_of}
use Rattle.tw_machine.specs.History as items
use Rattle.tw_machine.specs.Standing.{member_of, report_by}
use Rattle.tw_machine.specs.World.{world}
use Rattle.safety_laws.specs.Ascend.{Ascends, IsBelow}
use Rattle.safety_laws.specs.Beginnings.{IsBeginning, list_at, known, known_then, BeginsGroup, BegunThen}
use Rattle.safety_laws.specs.Effects.{Written, State, Here, Promises, MakeReason, Next, Group, Makes, Change}
use Rattle.safety_laws.specs.Groups.{OfGroups, OfMember, of_groups}
use Rattle.safety_laws.specs.Ids.{ids}
use Rattle.safety_laws.specs.Laws.{Law, Holds, Both}
use Rattle.safety_laws.specs.Lists.{AreLists, lists}
use Rattle.safety_laws.specs.Made.{WasMade, WasMadeIfAny, WasReported, TellsDecision, BallotHolds, best_of, made}
use Rattle.safety_laws.specs.Names.{IsNamed, promise_name}
use Rattle.safety_laws.specs.Promises.{of_promises}
use Rattle.safety_laws.specs.Reported.{ReportsTheSame, ReportsAgain, StandStill, IsInformedPromise, AreReports, reported}
use Rattle.safety_laws.specs.Sends.{sends}
use Rattle.safety_laws.specs.Still.{SaysTheSame}
use Rattle.safety_laws.proofs.BeginLists.{told_pair, pair_older, known_by_pair, consistent_begins}
use Rattle.safety_laws.proofs.Delivers.{log_delivers}
use Rattle.safety_laws.proofs.EndLists.{known_same}
use Rattle.safety_laws.proofs.FirstDecisions.{IsFirstOf, same_member_of}
use Rattle.safety_laws.proofs.Held.{may_take}
use Rattle.safety_laws.proofs.Lists.{of_each, each_from, each_weaker}
use Rattle.safety_laws.proofs.Made.{is_group}
use Rattle.safety_laws.proofs.NextDecisions.{any_in}
use Rattle.safety_laws.proofs.Once.{no_greater}
use Rattle.safety_laws.proofs.Prefixes.{HaveLists, list_older}
use Rattle.safety_laws.proofs.Stack.{Stepping, IsMailed, IsPartOf, part_holds}
use Rattle.safety_laws.proofs.Turns.{all_positive, IsPromisedSeat, seats_promised}
use Rattle.safety_laws.proofs.HeldBelow.{best_below}

-- what the law rests on
abbrev pub before_beginnings : Team → Law
before_beginnings team = Both (Both (Both (Both (of_groups team) sends) ids) reported) lists

-- the half of it on beginnings alone
abbrev Begun : Written → Type 0
Begun w = AllByRecursion (λ (c : items.Make). AllByRecursion (BegunThen w.makes c) w.promises) w.makes

-- as a law of its own
abbrev pub begun : Law
begun = record { History = λ steps w. Begun w; Running = λ steps w who p. AllByRecursion (BeginsGroup p w.makes) w.makes }

-- of one make and one promise
begun_at : (w : Written) → Begun w → (c : items.Make) → In c w.makes → (x : Promised) → In x w.promises → BegunThen w.makes c x
begun_at w all c i x j = of_each (BegunThen w.makes c) w.promises x (of_each (λ (c : items.Make). AllByRecursion (BegunThen w.makes c) w.promises) w.makes c all i) j

-- ---- on fixed lists

-- the lists of what was made
pub have_lists : (team : Team) (steps : List Step) (w : Written) → OfGroups team steps w → AreLists w.makes → HaveLists team w.promises w.makes
have_lists team steps w known lists = record { arise = known.makes.arise; once = known.once; listed = lists.listed }

-- a promise of a member is of its process
by_member : (team : Team) (steps : List Step) (w : Written) (who : ℕ) (p : Process) → OfGroups team steps w → OfMember team steps w who p → (z : Promised) → In z w.promises → z.promise.report.member ≡ member_of p.identity → z.who ≡ who
by_member team steps w who p known mine z i member =
    sym (of_each (λ (v : Promised). IsNamed steps (promise_name v)) w.promises z known.promises.names.promises i).member ∙ ap (λ (m : Member). m.who) member ∙ mine.promiser.own.is

-- No group that names a process is above what it promised, if it promised in this life.
pub no_group_above : (team : Team) (steps : List Step) (w : Written) (who : ℕ) (p : Process) → OfGroups team steps w → OfMember team steps w who p → 0 < p.vote.promised
    → (c : items.Make) → In c w.makes → has_seat (member_of p.identity) c.making.decision ≡ true → c.making.decision.group ≤ p.vote.promised
no_group_above team steps w who p known mine some c i seat =
    let s = any_in (is_seat_of (member_of p.identity)) c.making.decision.seats.items seat in
    let x = of_each (IsPromisedSeat w.promises c.making.decision.group) c.making.decision.seats.items s.0
    (of_each (λ (m : items.Make). AllByRecursion (IsPromisedSeat w.promises m.making.decision.group) m.making.decision.seats.items) w.makes c (seats_promised team w.promises w.makes known.makes.arise) i) s.1 in
    let by = by_member team steps w who p known mine x.0 x.1 (x.3 ∙ same_member_of s.0.member (member_of p.identity) s.2) in
    let low = no_greater team steps w who p known.promises mine.promiser some x.0 x.1 by in
    let number = x.2 in
    omega arith

-- who is in the group that it promised last isn't named by one above
own_begins : (team : Team) (steps : List Step) (w : Written) (who : ℕ) (p : Process) (d : Decision) → OfGroups team steps w → OfMember team steps w who p → view_decision p.belief ≡ Some d → d.group ≡ p.vote.promised
    → AllByRecursion (BeginsGroup p w.makes) w.makes
own_begins team steps w who p d known mine view group = each_from (BeginsGroup p w.makes) w.makes (λ c i turn seat low.
    absurd (let high = no_group_above team steps w who p known mine (omega (arith, positive, group)) c i seat in let is = ap (λ (o : Option Decision). (or_none o).group) view in omega (arith, high, is, low, group)))
  where
    made : WasMade w.makes d
    made = subst (WasMadeIfAny w.makes) view mine.maker.keeps.view

    positive : 1 ≤ d.group
    positive = subst (λ (z : Decision). 1 ≤ z.group) made.2 (of_each (λ (m : items.Make). 1 ≤ m.making.decision.group) w.makes made.0 (all_positive team w.promises w.makes known.makes.arise) made.1)

-- of two promises of a process the one with the number that isn't less is the other one, or reports again where that applies
again_of : (promises : List Promised) → StandStill promises → Ascends promises → (a b : Promised) → In a promises → In b promises → a.who ≡ b.who → a.promise.number ≤ b.promise.number → (b ≡ a) ⊎ ReportsAgain b a
again_of [] still all a b i j same low = absurd i
again_of (x ∷ older) still all a b (inl p) (inl q) same low = inl (q ∙ sym p)
again_of (x ∷ older) still all a b (inl p) (inr j) same low =
    let above = of_each (λ (y : Promised). y.who ≡ x.who → IsBelow x y) older b all.0 j (sym same ∙ ap (λ (z : Promised). z.who) p) in
    let lower = above.number in let number = ap (λ (z : Promised). z.promise.number) p in absurd (omega arith)
again_of (x ∷ older) still all a b (inr i) (inl q) same low = inr (subst (λ (z : Promised). ReportsAgain z a) (sym q) (of_each (ReportsAgain x) older a still.0 i))
again_of (x ∷ older) still all a b (inr i) (inr j) same low = again_of older still.1 all.1 a b i j same low

-- who reports what it did with a promise knows what it knew then
same_take : (makes : List items.Make) (n n' g g' t t' : ℕ) → n ≡ n' → g ≡ g' → t ≡ t' → take n (list_at makes g t) ≡ take n' (list_at makes g' t')
same_take makes n n' g g' t t' a b c = ap (λ k. take k (list_at makes g t)) a ∙ ap (λ k. take n' (list_at makes k t)) b ∙ ap (λ k. take n' (list_at makes g' k)) c

-- a process that says the same knows what it knew with that promise
still_knows : (team : Team) (promises : List Promised) (makes : List items.Make) → HaveLists team promises makes → (p : Process) (x : Promised) → SaysTheSame p x → known makes p ≡ known_then makes x
still_knows team promises makes k p x same = known_by_pair team promises makes k p ∙ same_take makes _ _ _ _ _ _ same.length same.group same.turn

-- and so with a promise that reports the same
reports_knows : (makes : List items.Make) (a b : Promised) → ReportsTheSame a b → known_then makes b ≡ known_then makes a
reports_knows makes a b same = same_take makes _ _ _ _ _ _ same.length same.group same.turn

-- What a consistent report in a ballot of a running process tells begins best's list.
pub ballot_begins : (team : Team) (steps : List Step) (w : Written) (who : ℕ) (p : Process) (b : Ballot) → OfGroups team steps w → AreReports w → AreLists w.makes → Begun w → WasMadeIfAny w.makes b.best → BallotHolds team steps w who p b
    → (r : Report) → In r b.reports.items → is_consistent b.best r ≡ true → (z : Promised) × In z w.promises × (z.promise.report ≡ r) × (z.promise.number ≡ b.number) × IsBeginning (known_then w.makes z) (list_of w.makes b.best)
ballot_begins team steps w who p b known reports lists begun made ballot r i consistent = (
  x.0,
  x.1,
  x.4,
  x.3,
  consistent_begins team w.promises w.makes (have_lists team steps w known lists) b.reports.items b.best ballot.best made x.0
      (record {
        there = subst (λ (q : Report). In q b.reports.items) (sym x.4) i;
        informed = of_each IsInformedPromise w.promises x.0 reports.informed x.1;
        tells = of_each (TellsDecision w.makes) w.promises x.0 known.makes.tells x.1;
        consistent = subst (λ (q : Report). is_consistent b.best q ≡ true) (sym x.4) consistent;
        below = λ d is. let low = best_below w.makes w.promises b d known.makes.tells ballot.promised ballot.best is in let number = x.3 in omega (arith, low, number);
      })
      (λ c j. begun_at w begun c j x.0 x.1),
)
  where
    x : WasReported w.promises b.number r
    x = of_each (WasReported w.promises b.number) b.reports.items r ballot.promised i

-- ---- a promise more

module _ (team : Team) (steps : List Step) (here : Here) (x y : State) (who : ℕ) (known_now : OfGroups team steps x.written) (lists : AreLists x.written.makes) (c : Promises here x y) where
  -- the new promise
  abbrev new : Promised
  new = promise_item here.life here.step c.given

  -- what a report would have to begin
  abbrev BegunBy : items.Make → Report → Type 0
  BegunBy m r = m.making.decision.turn ≡ 0 → has_seat r.member m.making.decision ≡ true → r.group < m.making.decision.group → IsBeginning (take r.length (list_at x.written.makes r.group r.turn)) m.log

  -- what the process reports begins what it knows
  new_begun : (m : items.Make) → BeginsGroup x.process x.written.makes m → BegunThen x.written.makes m new
  new_begun m begins turn seat low high = subst (BegunBy m) (sym c.report) by_process turn seat low
    where
      by_process : BegunBy m (report_by x.process c.t)
      by_process turn seat low = subst (λ l. IsBeginning l m.log) (known_by_pair team x.written.promises x.written.makes (have_lists team steps x.written known_now lists) x.process) (begins turn seat low)

  -- so all promises begin all makes still
  promised_begun : AllByRecursion (BeginsGroup x.process x.written.makes) x.written.makes → Begun x.written → Begun (record (x.written) { promises = new ∷ x.written.promises })
  promised_begun own all = each_from (λ (m : items.Make). AllByRecursion (BegunThen x.written.makes m) (new ∷ x.written.promises)) x.written.makes
      (λ m i. (new_begun m (of_each (BeginsGroup x.process x.written.makes) x.written.makes m own i), of_each (λ (m : items.Make). AllByRecursion (BegunThen x.written.makes m) x.written.promises) x.written.makes m all i))

-- ---- a make more

module _ (team : Team) (steps : List Step) (w : Written) (known_now : OfGroups team steps w) (reports : AreReports w) (m : items.Make) (k : HaveLists team w.promises w.makes) (k' : HaveLists team w.promises (m ∷ w.makes)) where
  -- what was known is known still
  pub known_still : (p : Process) → WasMadeIfAny w.makes (view_decision p.belief) → known (m ∷ w.makes) p ≡ known w.makes p
  known_still p made = ap (take (log_length p.log)) (list_older m w.makes k'.once (view_decision p.belief) made)

  -- what was known with a promise too
  then_still : (x : Promised) → In x w.promises → known_then (m ∷ w.makes) x ≡ known_then w.makes x
  then_still x i =
      ap (take x.promise.report.length) (pair_older team w.promises m w.makes k k' x.promise.report.group x.promise.report.turn
      (told_pair w.makes x (of_each (TellsDecision w.makes) w.promises x known_now.makes.tells i) (of_each IsInformedPromise w.promises x reports.informed i)))

  -- so what is known begins the older groups still
  begins_still : (p : Process) → WasMadeIfAny w.makes (view_decision p.belief) → AllByRecursion (BeginsGroup p w.makes) w.makes → AllByRecursion (BeginsGroup p (m ∷ w.makes)) w.makes
  begins_still p made all = each_weaker (BeginsGroup p w.makes) (BeginsGroup p (m ∷ w.makes)) w.makes (λ c f turn seat low. subst (λ l. IsBeginning l c.log) (sym (known_still p made)) (f turn seat low)) all

  -- and so with promises
  begun_still : Begun w → AllByRecursion (λ (c : items.Make). AllByRecursion (BegunThen (m ∷ w.makes) c) w.promises) w.makes
  begun_still all = each_from (λ (c : items.Make). AllByRecursion (BegunThen (m ∷ w.makes) c) w.promises) w.makes (λ c i.
      each_from (BegunThen (m ∷ w.makes) c) w.promises (λ x j turn seat low high. subst (λ l. IsBeginning l c.log) (sym (then_still x j)) (begun_at w all c i x j turn seat low high)))

  -- ---- one that begins a group, of a ballot

  -- a promise of its number by one of its members, and that what it knew then begins the list
  pub record Seated (member : Member) : Type 0 where
    pub promise : Promised
    pub there : In promise w.promises
    pub number : promise.promise.number ≡ m.making.decision.group
    pub member_is : promise.promise.report.member ≡ member
    pub begins : IsBeginning (known_then w.makes promise) m.log

  module _ (seated : (member : Member) → has_seat member m.making.decision ≡ true → Seated member) where
    -- a running process of a lower group stands still since
    pub process_begins : (who : ℕ) (p : Process) → OfMember team steps w who p → BeginsGroup p (m ∷ w.makes) m
    process_begins who p mine turn seat low =
        let s = seated (member_of p.identity) seat in
        let number = s.number in
        let same = of_each (λ (x : Promised). x.promise.report.member ≡ member_of p.identity → (or_none (view_decision p.belief)).group < x.promise.number → SaysTheSame p x) w.promises s.promise mine.still s.there s.member_is (omega (arith, low, number)) in
        subst (λ l. IsBeginning l m.log) (sym (known_still p mine.maker.keeps.view ∙ still_knows team w.promises w.makes k p s.promise same)) s.begins

    -- and so did one that promised a greater number since
    promise_begins : (x : Promised) → In x w.promises → BegunThen (m ∷ w.makes) m x
    promise_begins x i turn seat low high =
        let s = seated x.promise.report.member seat in
        let number = s.number in
        let named = of_each (λ (v : Promised). IsNamed steps (promise_name v)) w.promises in
        let by : s.promise.who ≡ x.who = sym (named s.promise known_now.promises.names.promises s.there).member ∙ ap (λ (b : Member). b.who) s.member_is ∙ (named x known_now.promises.names.promises i).member in
        subst (λ l. IsBeginning l m.log) (sym (then_still x i ∙ knows s (again_of w.promises reports.still known_now.promises.ascend s.promise x s.there i by (omega (arith, number, high))))) s.begins
      where
        knows : (s : Seated x.promise.report.member) → (x ≡ s.promise) ⊎ ReportsAgain x s.promise → known_then w.makes x ≡ known_then w.makes s.promise
        knows s (inl same) = ap (known_then w.makes) same
        knows s (inr again) = let number = s.number in reports_knows w.makes s.promise x (again s.member_is (omega (arith, low, number)))

-- ---- each effect

-- the laws on promises and on makes are among those that this one rests on
pub promises_part : (team : Team) → IsPartOf (of_promises team) (before_beginnings team)
promises_part team = record { history = λ steps w k. k.0.0.0.0.promises; running = λ steps w who p k. k.0.0.0.0.promiser }

-- and those on makes
pub made_part : (team : Team) → IsPartOf (made team) (before_beginnings team)
made_part team = record { history = λ steps w k. k.0.0.0.0.makes; running = λ steps w who p k. k.0.0.0.0.maker }

module _ (team : Team) (past : List Step) (s : Step) (here : Here) (x y : State) (at : Stepping team past s here) (mailed : IsMailed here x.written) (change : Change here x y)
    (before : Holds (before_beginnings team) (s ∷ past) (world team past) s.who x) (after : Holds (before_beginnings team) (s ∷ past) (world team past) s.who y) where
  -- the schedule with this step
  abbrev steps : List Step
  steps = s ∷ past

  -- the new make
  abbrev pub new_make : Makes here x y → items.Make
  new_make c = make_item (member_of x.process.identity) here.life here.step x.written.makes c.making

  -- what is known before the effect: of promises and makes,
  pub now_known : OfGroups team steps x.written
  now_known = before.history.0.0.0.0

  -- of the process
  pub now_own : OfMember team steps x.written s.who x.process
  now_own = before.own.0.0.0.0

  -- of the lists
  pub now_lists : HaveLists team x.written.promises x.written.makes
  now_lists = have_lists team steps x.written now_known before.history.1

  -- and with the new make
  pub more_lists : (c : Makes here x y) → HaveLists team x.written.promises (new_make c ∷ x.written.makes)
  more_lists c = subst (λ (w : Written). HaveLists team w.promises w.makes) c.written (have_lists team steps y.written after.history.0.0.0.0 after.history.1)

  -- a group that is made is the first decision of its ballot
  pub first_is : (c : Makes here x y) → (ballot : Ballot) → x.process.ballot ≡ Some ballot → group_made here.team ballot x.process.log (payloads_of x.process.waiting) (member_of x.process.identity) c.t ≡ Ok c.making.decision
      → IsFirstOf team ballot (member_of x.process.identity) c.t c.making.decision
  first_is = is_group team past s here x y at mailed change
      (part_holds (of_promises team) (before_beginnings team) steps (world team past) s.who x (promises_part team) before)
      (part_holds (of_promises team) (before_beginnings team) steps (world team past) s.who y (promises_part team) after)
      (part_holds (made team) (before_beginnings team) steps (world team past) s.who x (made_part team) before)

  -- what it stands on was made
  pub best_made : (ballot : Ballot) → x.process.ballot ≡ Some ballot → WasMadeIfAny x.written.makes ballot.best
  best_made ballot is = subst (λ (o : Option Ballot). WasMadeIfAny x.written.makes (best_of o)) is now_own.maker.keeps.best

  -- a group's list is that of best
  pub group_list_is : (c : Makes here x y) → (ballot : Ballot) → c.making ≡ group_making ballot c.making.decision → (new_make c).log ≡ list_of x.written.makes ballot.best
  group_list_is c ballot same =
      ap (λ (m : Making). list_of x.written.makes m.before ++ m.appended) same ∙ append-nil (list_of x.written.makes ballot.best)

  -- each member of a new group promised it
  pub group_seated : Begun x.written → (c : Makes here x y) → (ballot : Ballot) → x.process.ballot ≡ Some ballot → group_made here.team ballot x.process.log (payloads_of x.process.waiting) (member_of x.process.identity) c.t ≡ Ok c.making.decision
      → c.making ≡ group_making ballot c.making.decision → (member : Member) → has_seat member c.making.decision ≡ true → Seated team steps x.written now_known before.history.0.1 (new_make c) now_lists (more_lists c) member
  group_seated all c ballot is e same member seat =
      let first = first_is c ballot is e in
      let z = any_in (is_seat_of member) c.making.decision.seats.items seat in
      let r = of_each (λ (z : Seat). (r : Report) × In r ballot.reports.items × (is_consistent ballot.best r ≡ true) × (r.member ≡ z.member)) c.making.decision.seats.items z.0 first.members z.1 in
      let b = ballot_begins team steps x.written s.who x.process ballot now_known before.history.0.1 before.history.1 all (best_made ballot is) (now_own.maker.ballot ballot is) r.0 r.1 r.2 in
      record {
        promise = b.0;
        there = b.1;
        number = b.3 ∙ sym first.group;
        member_is = ap (λ (r : Report). r.member) b.2 ∙ r.3 ∙ same_member_of z.0.member member z.2;
        begins = subst (IsBeginning (known_then x.written.makes b.0)) (sym (group_list_is c ballot same)) b.4;
      }

  -- a next decision begins no group
  later_turn : (c : Makes here x y) → (last : Decision) → c.making.decision.turn ≡ last.turn + 1 → c.making.decision.turn ≡ 0 → ⊥
  later_turn c last next none = omega (arith, next, none)

  -- what the new make has to show of each promise and each process
  record NewBegins (c : Makes here x y) : Type 0 where
    promises : AllByRecursion (BegunThen (new_make c ∷ x.written.makes) (new_make c)) x.written.promises
    processes : (who : ℕ) (p : Process) → OfMember team steps x.written who p → BeginsGroup p (new_make c ∷ x.written.makes) (new_make c)

  -- by its reason
  new_begins : Begun x.written → (c : Makes here x y) → NewBegins c
  new_begins all c = go c.reason
    where
      go : MakeReason here c.making c.t x y → NewBegins c
      go (Next last is turn same ballot) =
          let next : c.making.decision.turn ≡ last.turn + 1 = ap (λ (m : Making). m.decision.turn) same in record {
            promises = each_from (BegunThen (new_make c ∷ x.written.makes) (new_make c)) x.written.promises (λ z i first seat low high. absurd (later_turn c last next first));
            processes = λ who p mine first seat low. absurd (later_turn c last next first);
          }
      go (Group ballot is full e same none) =
          let seated = group_seated all c ballot is e same in record {
            promises = each_from (BegunThen (new_make c ∷ x.written.makes) (new_make c)) x.written.promises (promise_begins team steps x.written now_known before.history.0.1 (new_make c) now_lists (more_lists c) seated);
            processes = process_begins team steps x.written now_known before.history.0.1 (new_make c) now_lists (more_lists c) seated;
          }

  -- the process enters a decision of the group that it promised
  entered_begins : (d : Decision) → view_decision y.process.belief ≡ Some d → d.group ≡ y.process.vote.promised → AllByRecursion (BeginsGroup y.process y.written.makes) y.written.makes
  entered_begins d view group = own_begins team steps y.written s.who y.process d after.history.0.0.0.0 after.own.0.0.0.0 view group

  -- a process of the same name and belief, whose list is as long
  same_begins : (makes : List items.Make) (p q : Process) → q.identity ≡ p.identity → q.belief ≡ p.belief → log_length q.log ≡ log_length p.log → AllByRecursion (BeginsGroup p makes) makes → AllByRecursion (BeginsGroup q makes) makes
  same_begins makes p q identity belief as_long all = each_weaker (BeginsGroup p makes) (BeginsGroup q makes) makes
      (λ m begins first seat low. subst (λ l. IsBeginning l m.log) (sym (known_same makes p q belief as_long))
      (begins first (ap (λ (z : Member). has_seat z m.making.decision) (sym (ap member_of identity)) ∙ seat) (subst (λ (b : Belief). (or_none (view_decision b)).group < m.making.decision.group) belief low))) all

  -- whatever the effect
  pub begun_changes : Change here x y → Holds begun steps (world team past) s.who x → Holds begun steps (world team past) s.who y
  begun_changes (Change.Keep c) k = record {
    history = rw (c.makes, c.promises) k.history;
    own = rw (c.identity, c.belief, c.log, c.makes) k.own;
    others = λ q p other runs. rw c.makes (k.others q p other runs);
  }
  begun_changes (Change.Hold c) k = record { history = rw c.written k.history; own = rw (c.written, c.process) k.own; others = λ q p other runs. rw c.written (k.others q p other runs) }
  begun_changes (Change.Raise c) k = record { history = rw c.written k.history; own = rw (c.written, c.process) k.own; others = λ q p other runs. rw c.written (k.others q p other runs) }
  begun_changes (Change.Deliver c) k = record {
    history = rw c.written k.history;
    own = rw c.written (same_begins x.written.makes x.process y.process (ap (λ (p : Process). p.identity) c.process) (ap (λ (p : Process). p.belief) c.process) (log_delivers here x y c).same_length k.own);
    others = λ q p other runs. rw c.written (k.others q p other runs);
  }
  begun_changes (Change.Give c) k = record {
    history = rw c.written (promised_begun team steps here x y s.who now_known before.history.1 c k.own k.history);
    own = rw (c.written, c.process) k.own;
    others = λ q p other runs. rw c.written (k.others q p other runs);
  }
  begun_changes (Change.Take c) k = record {
    history = rw c.written k.history;
    own = entered_begins c.taken_decision (ap (λ (p : Process). view_decision p.belief) c.process)
        ((may_take here x c.taken_decision c.source now_own.promiser.held).promised ∙ sym (ap (λ (p : Process). p.vote.promised) c.process));
    others = λ q p other runs. rw c.written (k.others q p other runs);
  }
  begun_changes (Change.Make c) k =
      let new = new_begins k.history c in record {
        history = rw c.written (new.promises, begun_still team steps x.written now_known before.history.0.1 (new_make c) now_lists (more_lists c) k.history);
        own = entered_begins c.making.decision (ap (λ (p : Process). view_decision p.belief) c.process) (c.group ∙ sym (ap (λ (p : Process). p.vote.promised) c.process));
        others = λ q p other runs.
            let mine : OfMember team steps x.written q p = (before.others q p other runs).0.0.0.0 in
            rw c.written (new.processes q p mine, begins_still team steps x.written now_known before.history.0.1 (new_make c) now_lists (more_lists c) p mine.maker.keeps.view (k.others q p other runs));
      }
