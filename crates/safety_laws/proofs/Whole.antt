-- The list of each made decision is that of what it stands on, with what was added; and the decision says of it what is so.
use Rattle.std.proofs.Common.{◌≡◌, ◌≢◌, refl, sym, ap, subst, ◌∙◌, ℕ, ◌+◌, ◌≤◌, ◌<◌, nat_eq, nat_le, nat_lt, Bool, true, false, ◌&&◌, ◌||◌, List, [], ◌∷◌, ◌++◌, map, length, find, Option, Some, None, Ok, arith}
use Rattle.std.specs.List.{AllByRecursion, range_with_len}
use Rattle.std.specs.Option.{option_map_or}
use Rattle.std.proofs.lemmas.Bool.Decides.{nat_tests}
use Rattle.std.proofs.lemmas.List.{length-map, append-nil}
use Rattle.tw_machine.specs.Types.{Team, Ballot, Decision, Kept, Entry, Kind, Member, Report, Seat, Support, Step}
use Rattle.tw_types.specs.declared.message.Kind.TheVariants as kinds
use Rattle.tw_types.specs.Decisions.{or_none, no_decision, decision_length, is_seat_of, has_seat}
use Rattle.tw_types.specs.Groups.{consistent, seated, next_of, seat_of, first_decision, group_made}
use Rattle.tw_types.specs.Items.{In}
use Rattle.tw_types.specs.Reports.{is_by_informed, is_consistent, goes_with}
use Rattle.tw_types.specs.Turns.{is_turn, next_decision}
use Rattle.tw_types.specs.Votes.{Making}
use Rattle.tw_types.specs.Waiting.{payloads_of}
use Rattle.tw_machine.specs.Deciding.{entries_to_add, kept_to_add}
use Rattle.tw_machine.specs.History.{Promised, Make, make_item, list_of}
use Rattle.tw_machine.specs.Standing.{member_of}
use Rattle.tw_machine.specs.World.{world}
use Rattle.group_maker.proofs.Ascending.{report_of}
use Rattle.group_maker.proofs.Fitting.{IsWithin, least_within, within, low_of, all_map}
use Rattle.group_maker.proofs.Ranges.{all_pass, find_all, all_found}
use Rattle.safety_laws.specs.Effects.{Written, State, Here, MakeReason, Next, Group, Makes, Change}
use Rattle.safety_laws.specs.Groups.{of_groups}
use Rattle.safety_laws.specs.Laws.{Both, Holds}
use Rattle.safety_laws.specs.Lists.{seqs_of, IsListOf, AreLists, lists}
use Rattle.safety_laws.specs.Made.{WasMade, WasMadeIfAny, WasReported, TellsLast, TellsDecision, AllArise, BallotHolds, best_of}
use Rattle.safety_laws.specs.Once.{AllOnce}
use Rattle.safety_laws.specs.Reported.{IsSeated, IsInformedPromise, reported}
use Rattle.safety_laws.proofs.Added.{entries_kept}
use Rattle.safety_laws.proofs.FirstDecisions.{IsFirstOf, first_of_ballot, were_distinct, same_member_of, group_is_first}
use Rattle.safety_laws.proofs.Groups.{seat_in_each}
use Rattle.safety_laws.proofs.Lists.{of_each, each_weaker, each_from, each_both, found_in, any_found}
use Rattle.safety_laws.proofs.MadeLists.{last_made}
use Rattle.safety_laws.proofs.NextDecisions.{seat_due, next_seat, after_in}
use Rattle.safety_laws.proofs.Prefixes.{list_of_made}
use Rattle.safety_laws.proofs.Stack.{Stepping, RulesOver, history_rules}
use Rattle.safety_laws.proofs.Turns.{all_positive}
use Rattle.safety_laws.proofs.WholeNext.{AwaitsNext, HasList, list_has, is_list, cut_window, added_in_turn, next_has}

-- ---- the list of a decision that was made

-- The list that is found for it is that of its own make, of which all is said.
list_made : (makes : List Make) → AllOnce makes → AllByRecursion IsListOf makes → (d : Decision) → WasMade makes d → HasList d (list_of makes (Some d))
list_made makes once whole d was =
    subst (HasList d) (sym (list_of_made makes once d was)) (subst (λ (z : Decision). HasList z was.0.log) was.2 (list_has was.0 (of_each IsListOf makes was.0 whole was.1)))

-- the empty list, where there is no decision
none_has : HasList no_decision []
none_has = record { same_length = refl; low = omega arith; window = refl; acks = tt; by_one = λ member. refl; next = tt; ascend = tt; mark = refl }

-- and of a decision that may be missing
any_made : (makes : List Make) → AllOnce makes → AllByRecursion IsListOf makes → (o : Option Decision) → WasMadeIfAny makes o → HasList (or_none o) (list_of makes o)
any_made makes once whole None was = none_has
any_made makes once whole (Some d) was = list_made makes once whole d was

-- ---- who has a seat in the best decision

module _ (team : Team) (promises : List Promised) (makes : List Make) (arise : AllArise team promises makes) (once : AllOnce makes) (tells : AllByRecursion (TellsDecision makes) promises)
    (seated_then : AllByRecursion IsSeated promises) (informed_then : AllByRecursion IsInformedPromise promises) where
  -- of a report that goes with a decision, its member has a seat there
  seat_of_report : (number : ℕ) (r : Report) (d : Decision) → WasReported promises number r → WasMade makes d → is_consistent (Some d) r ≡ true → has_seat r.member d ≡ true
  seat_of_report number r d from was fits = by_kind r.kind informed (third (nat_le d.low r.length) (nat_le r.length (decision_length d)) (goes_with r.kind r d) fits)
    where
      third : (a b c : Bool) → (a && b && c) ≡ true → c ≡ true
      third true true c e = e
      third true false c e = absurd (cc)
      third false b c e = absurd (cc)

      x : Promised
      x = from.0

      informed : is_by_informed r ≡ true
      informed = subst (λ (z : Report). is_by_informed z ≡ true) from.4 (of_each IsInformedPromise promises from.0 informed_then from.1)

      -- it told a decision of the same group, which names it
      told : (o : Option Decision) → from.0.promise.decision ≡ o → TellsLast makes from.0 o → r.group ≡ d.group → has_seat r.member d ≡ true
      told None is last same =
          let high = of_each (λ (m : Make). 1 ≤ m.making.decision.group) makes was.0 (all_positive team promises makes arise) was.1 in
          let group : was.0.making.decision.group ≡ d.group = ap (λ (z : Decision). z.group) was.2 in
          let none : r.group ≡ 0 = ap (λ (z : Report). z.group) (sym from.4) ∙ last.0 in
          absurd (omega arith)
      told (Some z) is last same =
          let group : z.group ≡ d.group = sym last.2 ∙ ap (λ (q : Report). q.group) from.4 ∙ same in
          let seat : has_seat r.member z ≡ true = subst (λ (q : Report). has_seat q.member z ≡ true) from.4 (of_each IsSeated promises from.0 seated_then from.1 z is) in
          seat_in_each team promises makes arise once z d last.0 was group r.member seat

      in_group : r.group ≡ d.group → has_seat r.member d ≡ true
      in_group = told from.0.promise.decision refl ((of_each (TellsDecision makes) promises from.0 tells from.1).informed (of_each IsInformedPromise promises from.0 informed_then from.1))

      by_group : (same below there : Bool) → nat_eq r.group d.group ≡ same → has_seat r.member d ≡ there → (same || (below && there)) ≡ true → has_seat r.member d ≡ true
      by_group true below there e f g = in_group (grind (arith, nat_tests, e))
      by_group false true true e f g = f
      by_group false true false e f g = absurd (cc)
      by_group false false there e f g = absurd (cc)

      by_kind : (kind : Kind) → (elim kind as (λ z. Bool) [ kinds.Informed ↦ true | kinds.Ready ↦ false ]) ≡ true → goes_with kind r d ≡ true → has_seat r.member d ≡ true
      by_kind kinds.Informed informed goes = by_group (nat_eq r.group d.group) (nat_lt r.group d.group) (has_seat r.member d) refl refl goes
      by_kind kinds.Ready informed goes = absurd (cc)

-- and its next number goes on from its seat
next_is : (d : Decision) (log : List Kept) (member : Member) → AllByRecursion (AwaitsNext log) d.seats.items → has_seat member d ≡ true → next_of d member ≡ 1 + length (seqs_of member log)
next_is d log member all seat = go (find (is_seat_of member) d.seats.items) refl
  where
    go : (o : Option Seat) → find (is_seat_of member) d.seats.items ≡ o → option_map_or (λ (s : Seat). s.next) o 1 ≡ 1 + length (seqs_of member log)
    go None is = absurd (any_found (is_seat_of member) d.seats.items seat is)
    go (Some s) is =
        let found = found_in (is_seat_of member) d.seats.items s is in
        let same : s.member ≡ member = same_member_of s.member member found.1 in
        of_each (AwaitsNext log) d.seats.items s all found.0 ∙ ap (λ (m : Member). 1 + length (seqs_of m log)) same

-- ---- a group

-- its low isn't below that of the best decision
low_above : (team : Team) (b : Ballot) (me : Member) (t : ℕ) → IsFirstOf team b me t (first_decision team b me t) → (or_none b.best).low ≤ low_of team b
low_above team b me t first =
    (least_within best.low (decision_length best) (seated team b) (let size = count in let many = first.seats in omega (arith, size, many))
    (all_found (IsWithin best.low (decision_length best)) (report_of (consistent b)) (range_with_len 0 team.n)
    (λ k. find_all (IsWithin best.low (decision_length best)) (λ (r : Report). nat_eq r.member.who k) (consistent b) lengths))).0
  where
    best : Decision
    best = or_none b.best

    count : length (map (seat_of best me t) (seated team b)) ≡ length (seated team b)
    count = simp length-map

    lengths : AllByRecursion (IsWithin best.low (decision_length best)) (consistent b)
    lengths = each_weaker (λ (r : Report). is_consistent b.best r ≡ true) (IsWithin best.low (decision_length best)) (consistent b) (within b.best) (all_pass (is_consistent b.best) b.reports.items)

-- Its list is that of the best decision.
first_has : (team : Team) (b : Ballot) (me : Member) (t : ℕ) (log : List Kept) → IsFirstOf team b me t (first_decision team b me t) → HasList (or_none b.best) log
    → ((member : Member) (r : Report) → In r b.reports.items → is_consistent b.best r ≡ true → r.member ≡ member → next_of (or_none b.best) member ≡ 1 + length (seqs_of member log))
    → HasList (first_decision team b me t) log
first_has team b me t log first k next = record {
  same_length = long;
  low = let size = long in omega arith;
  window = cut_window (or_none b.best).window.items (or_none b.best).low (low_of team b) log (low_above team b me t first) k.window;
  acks = each_weaker (λ (s : Seat). s.support ≢ None → (s.member ≡ me) × (s.support ≡ Some (record { ack = decision_length d; at = d.made })))
      (λ (s : Seat). (support : Support) → s.support ≡ Some support → d.low ≤ support.ack)
      d.seats.items acked first.supports;
  by_one = k.by_one;
  next = each_both (λ (s : Seat). s.next ≡ next_of (or_none b.best) s.member) (λ (s : Seat). (r : Report) × In r b.reports.items × (is_consistent b.best r ≡ true) × (r.member ≡ s.member)) (AwaitsNext log)
      d.seats.items (λ s is from. is ∙ next s.member from.0 from.1 from.2 from.3)
      (all_map (λ (s : Seat). s.next ≡ next_of (or_none b.best) s.member) (seat_of (or_none b.best) me t) (seated team b)
      (each_from (λ (r : Report). next_of (or_none b.best) r.member ≡ next_of (or_none b.best) r.member) (seated team b) (λ r i. refl)))
      first.members;
  ascend = k.ascend;
  mark = k.mark;
}
  where
    d : Decision
    d = first_decision team b me t

    long : decision_length d ≡ length log
    long = first.length ∙ k.same_length

    acked : (s : Seat) → (s.support ≢ None → (s.member ≡ me) × (s.support ≡ Some (record { ack = decision_length d; at = d.made }))) → (support : Support) → s.support ≡ Some support → d.low ≤ support.ack
    acked s f support is =
        let own = (f (λ none. absurd (cc))).1 in
        let ack : support.ack ≡ decision_length d = cc in
        omega arith

-- ---- an effect

module _ (team : Team) (past : List Step) (s : Step) (here : Here) (x y : State) (at : Stepping team past s here)
    (before : Holds (Both (of_groups team) reported) (s ∷ past) (world team past) s.who x) (k : AreLists x.written.makes) where
  abbrev makes : List Make
  makes = x.written.makes

  abbrev me : Member
  me = member_of x.process.identity

  -- what is known of the list that a make goes on from
  last_has : (o : Option Decision) → WasMadeIfAny makes o → HasList (or_none o) (list_of makes o)
  last_has o was = any_made makes before.history.0.once k.whole o was

  -- a next decision
  by_turn : (t : ℕ) (last : Decision) → WasMade makes last → is_turn here.team me (Some last) x.process.vote.promised t ≡ true
      → HasList (next_decision (entries_to_add here.team t last x.process) last t x.process.identity.who) (list_of makes (Some last) ++ kept_to_add here.team t last x.process)
  by_turn t last was turn =
      let ring = next_seat me last (seat_due here.team me last x.process.vote.promised t turn) in
      let added = added_in_turn here.team t last x.process in
      subst (λ (es : List Entry). HasList (next_decision es last t x.process.identity.who) (list_of makes (Some last) ++ kept_to_add here.team t last x.process)) (entries_kept here.team t last x.process)
      (subst (λ (ks : List Kept). HasList (next_decision (map (λ (z : Kept). z.entry) ks) last t x.process.identity.who) (list_of makes (Some last) ++ ks)) (sym added.same)
      (next_has here.team t x.process.identity.who last x.process.waiting.pending added.updates (list_of makes (Some last)) ring.0 (after_in last.maker last.seats.items ring.0 ring.1)
      (ap (λ (m : Member). m.who) ring.2) (last_has (Some last) was) added.in_turn))

  -- of a ballot, what its consistent reports' members send next
  next_of_report : (ballot : Ballot) → BallotHolds team (s ∷ past) x.written s.who x.process ballot → WasMadeIfAny makes ballot.best
      → (member : Member) (r : Report) → In r ballot.reports.items → is_consistent ballot.best r ≡ true → r.member ≡ member → next_of (or_none ballot.best) member ≡ 1 + length (seqs_of member (list_of makes ballot.best))
  next_of_report ballot b was member r i fits same =
      subst (λ (m : Member). next_of (or_none ballot.best) m ≡ 1 + length (seqs_of m (list_of makes ballot.best))) same (go ballot.best was fits)
    where
      go : (o : Option Decision) → WasMadeIfAny makes o → is_consistent o r ≡ true → next_of (or_none o) r.member ≡ 1 + length (seqs_of r.member (list_of makes o))
      go None was fits = refl
      go (Some d) was fits = next_is d (list_of makes (Some d)) r.member (last_has (Some d) was).next
          (seat_of_report team x.written.promises makes before.history.0.makes.arise before.history.0.once before.history.0.makes.tells before.history.1.seated before.history.1.informed ballot.number r d
          (of_each (WasReported x.written.promises ballot.number) ballot.reports.items r b.promised i) was fits)

  -- the group that a ballot makes
  by_ballot : (t : ℕ) (ballot : Ballot) (d : Decision) → x.process.ballot ≡ Some ballot → group_made here.team ballot x.process.log (payloads_of x.process.waiting) me t ≡ Ok d → HasList d (list_of makes ballot.best)
  by_ballot t ballot d is e =
      let b = before.own.0.maker.ballot ballot is in
      let was : WasMadeIfAny makes ballot.best = subst (λ (o : Option Ballot). WasMadeIfAny makes (best_of o)) is before.own.0.maker.keeps.best in
      let same = group_is_first here.team ballot x.process.log (payloads_of x.process.waiting) me t d e in
      let below : AllByRecursion (λ (r : Report). r.member.who < here.team.n) ballot.reports.items = subst (λ (z : Team). AllByRecursion (λ (r : Report). r.member.who < z.n) ballot.reports.items) (sym at.same_team) b.below in
      let first = first_of_ballot here.team ballot x.process.log (payloads_of x.process.waiting) me t d below (were_distinct ballot.reports.items b.distinct) e in
      subst (λ (z : Decision). HasList z (list_of makes ballot.best)) same
      (first_has here.team ballot me t (list_of makes ballot.best) (subst (IsFirstOf here.team ballot me t) (sym same) first) (last_has ballot.best was) (next_of_report ballot b was))

  -- and so whatever is made
  new_has : (c : Makes here x y) → HasList c.making.decision (list_of makes c.making.before ++ c.making.appended)
  new_has c = go c.reason
    where
      go : MakeReason here c.making c.t x y → HasList c.making.decision (list_of makes c.making.before ++ c.making.appended)
      go (Next last is turn made ballot) =
          subst (λ (m : Making). HasList m.decision (list_of makes m.before ++ m.appended)) (sym made) (by_turn c.t last (last_made makes x.process last before.own.0.maker.keeps is) turn)
      go (Group ballot is full e made none) =
          subst (λ (m : Making). HasList c.making.decision (list_of makes m.before ++ m.appended)) (sym made)
          (subst (HasList c.making.decision) (sym (append-nil (list_of makes ballot.best))) (by_ballot c.t ballot c.making.decision is e))

  -- nothing was made
  same : y.written.makes ≡ makes → AreLists y.written.makes
  same e = rw e k

  changed : Change here x y → AreLists y.written.makes
  changed (Change.Keep c) = same c.makes
  changed (Change.Give c) = same (ap (λ (w : Written). w.makes) c.written)
  changed (Change.Hold c) = same (ap (λ (w : Written). w.makes) c.written)
  changed (Change.Take c) = same (ap (λ (w : Written). w.makes) c.written)
  changed (Change.Deliver c) = same (ap (λ (w : Written). w.makes) c.written)
  changed (Change.Raise c) = same (ap (λ (w : Written). w.makes) c.written)
  changed (Change.Make c) =
      let new = make_item me here.life here.step makes c.making in
      subst AreLists (sym (ap (λ (w : Written). w.makes) c.written)) (record { listed = (refl, k.listed); whole = (is_list new (new_has c), k.whole) })

-- lists are whole, over the laws on groups and what processes report
pub lists_rules : (team : Team) → RulesOver team (Both (of_groups team) reported) lists
lists_rules team = history_rules team (Both (of_groups team) reported) (λ w. AreLists w.makes) (record { listed = tt; whole = tt }) (λ past s here x y at change before after k. changed team past s here x y at before k change)
