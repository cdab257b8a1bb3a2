-- What was promised, made, kept and told agrees.
use Rattle.std.proofs.Common.{◌≡◌, refl, sym, ap, subst, ◌∙◌, inl, ℕ, ◌+◌, ◌≤◌, ◌<◌, Bool, true, false, List, [], ◌∷◌, ◌++◌, map, length, Option, Some, None, Ok, arith}
use Rattle.std.specs.List.{AllByRecursion}
use Rattle.std.specs.Option.{option_map}
use Rattle.std.proofs.lemmas.Bool.Decides.{nat_tests}
use Rattle.std.proofs.lemmas.Option.{same_Some}
use Rattle.tw_machine.specs.Types.{Team, Ballot, Body, Datagram, Head, Entry, Kept, Decision, Member, Report, Step}
use Rattle.tw_types.specs.declared.datagram.Body.TheVariants as bodies
use Rattle.tw_types.specs.Ballots.{begun, joined, wants, greater}
use Rattle.tw_types.specs.Beliefs.{Belief, Informed, Blank, is_informed, last_of, view_decision}
use Rattle.tw_types.specs.Decisions.{or_none, has_seat, decision_length}
use Rattle.tw_types.specs.Process.{Process}
use Rattle.tw_types.specs.Reports.{is_by_informed}
use Rattle.tw_types.specs.Slots.{owner}
use Rattle.tw_types.specs.Waiting.{payloads_of}
use Rattle.tw_types.specs.Appending.{raised, with_appended}
use Rattle.tw_types.specs.Turns.{is_turn, next_draft, next_decision}
use Rattle.tw_types.specs.Groups.{next_making, group_made, group_making}
use Rattle.tw_types.specs.Votes.{Promise, Making}
use Rattle.tw_machine.specs.Dispatches.{Dispatch, sent_at}
use Rattle.tw_machine.specs.History.{Promised, life, promise_item, make_item}
use Rattle.tw_machine.specs.History as items
use Rattle.tw_machine.specs.Standing.{member_of, last_decision, report_by}
use Rattle.tw_machine.specs.Deciding.{entries_to_add, kept_to_add}
use Rattle.tw_machine.specs.Entering.{entered}
use Rattle.tw_machine.specs.World.{world}
use Rattle.tw_machine.proofs.Tables.{all_mapped, all_push}
use Rattle.tw_types.proofs.Lists.{all_joined}
use Rattle.safety_laws.specs.Effects.{Written, State, Here, Says, IsToldBy, held_decision, Source, Comes, WasHeld, Waits, Stays, Puts, Fills, Goes, ForTaking, ForGroup, Promises, BallotReason, Begins, Adds, Drops, MakeReason, Next, Group, Makes, Change}
use Rattle.safety_laws.specs.Full.{is_full}
use Rattle.safety_laws.specs.Laws.{Holds}
use Rattle.tw_types.specs.Items.{In}
use Rattle.safety_laws.specs.Made.{WasMade, WasMadeIfAny, WasReported, TellsLast, TellsDecision, best_of, carried, Follows, ComesFrom, Arises, AsFirst, AsNext, IsUnderPromise, HasSeat, BallotHolds, IsBest, OfMaker, StartsAfter, made}
use Rattle.safety_laws.specs.Mail.{WasGiven, TellsGiven}
use Rattle.safety_laws.specs.Names.{promise_name, IsNamed}
use Rattle.safety_laws.specs.Promises.{of_promises}
use Rattle.safety_laws.specs.Windows.{IsInWindow}
use Rattle.safety_laws.proofs.Ballots.{best_pushed, best_first, in_pushed, still_distinct, greater_is}
use Rattle.safety_laws.proofs.FirstDecisions.{IsFirstOf, first_of_ballot, are_distinct, were_distinct}
use Rattle.safety_laws.proofs.Held.{may_take, HeldBelow, Left, Above, held_after, filled_same}
use Rattle.safety_laws.proofs.Added.{entries_kept}
use Rattle.safety_laws.proofs.Lists.{of_each, each_weaker}
use Rattle.safety_laws.proofs.MadeLists.{owner_below, More, more_same, more_by, if_any_more, tells_more, arise_more, under_more, ballot_more, maker_more, seat_same, seat_other_promise, seat_other_make, last_made, own_group}
use Rattle.safety_laws.proofs.NextDecisions.{seat_due, next_seat, after_in, in_changed, next_length, appended_length, same_supported, seat_stays}
use Rattle.safety_laws.proofs.Stack.{Stepping, IsMailed}
use Rattle.safety_laws.proofs.Turns.{all_positive}

module _ (team : Team) (past : List Step) (s : Step) (here : Here) (x y : State) (at : Stepping team past s here) (mailed : IsMailed here x.written) (change : Change here x y)
    (before : Holds (of_promises team) (s ∷ past) (world team past) s.who x) (after : Holds (of_promises team) (s ∷ past) (world team past) s.who y) (k : Holds (made team) (s ∷ past) (world team past) s.who x) where
  abbrev steps : List Step
  steps = s ∷ past

  me : here.step.who ≡ s.who
  me = ap (λ (e : Step). e.who) at.same_step

  -- ---- what is received

  carried_by_mail : (d : Datagram) → here.mail ≡ Some d → WasMadeIfAny x.written.makes (carried d.body)
  carried_by_mail d is =
      let got = mailed d is in
      subst (λ (z : Datagram). WasMadeIfAny x.written.makes (carried z.body)) got.2 (of_each (λ (z : Dispatch). WasMadeIfAny x.written.makes (carried z.datagram.body)) x.written.sent got.0 k.history.carried_made got.1)

  given_by_mail : (head : Head) (given : Promise) → here.mail ≡ Some (record { head = head; body = bodies.Promise given.number given.report given.decision }) → WasGiven x.written.promises head.from given × (head.from < team.n)
  given_by_mail head given is =
      let d : Datagram = record { head = head; body = bodies.Promise given.number given.report given.decision } in
      let got = mailed d is in (
        subst (λ (z : Datagram). TellsGiven x.written.promises z.head.from z.body) got.2 (of_each (λ (z : Dispatch). TellsGiven x.written.promises z.datagram.head.from z.datagram.body) x.written.sent got.0 before.history.mail got.1),
        subst (λ (t : Team). head.from < t.n) at.same_team got.4,
      )

  -- a decision that is taken was made, and so was one that is held from then on, and one that stays held
  pub source_made : (d : Decision) → Source here x d → WasMade x.written.makes d
  source_made d (Comes head mail may) = carried_by_mail (record { head = head; body = bodies.Decision d }) mail
  source_made d (WasHeld hold is held purpose promised) = subst (WasMadeIfAny x.written.makes) is k.own.keeps.held

  held_kept : Waits here x y → WasMadeIfAny x.written.makes (held_decision y.process)
  held_kept (Stays is hold) = rw is k.own.keeps.held
  held_kept (Puts u origin put is hold) = rw is k.own.keeps.held
  held_kept (Fills u origin put is hold) = rw (is, filled_same u x.process.waiting.held) k.own.keeps.held
  held_kept (Goes is hold) = rw is tt
  held_kept (ForTaking d from source is hold) = rw is (source_made d source)
  held_kept (ForGroup ballot best from there told number is hold) = rw is (subst (WasMadeIfAny x.written.makes) (ap best_of there ∙ told) k.own.keeps.best)

  entered_made : (d : Decision) → WasMadeIfAny x.written.makes (held_decision (entered d x.process))
  entered_made d = go (held_after d x.process)
    where
      go : HeldBelow d x.process (held_decision (entered d x.process)) (entered d x.process).hold → WasMadeIfAny x.written.makes (held_decision (entered d x.process))
      go (Left none) = rw none tt
      go (Above h is stays hold newer) = rw stays (subst (WasMadeIfAny x.written.makes) is k.own.keeps.held)

  -- ---- what is sent

  told_made : (body : Body) → y.written.promises ≡ x.written.promises → y.written.makes ≡ x.written.makes → y.process.belief ≡ x.process.belief → Says here y body → WasMadeIfAny y.written.makes (carried body)
  told_made (bodies.Decision d) promises makes belief says = rw makes (last_made x.written.makes x.process d k.own.keeps (ap last_of (sym belief) ∙ says))
  told_made (bodies.Promise number report decision) promises makes belief says =
      let item = promise_item here.life here.step (record { number = number; report = report; decision = decision }) in
      let tells : TellsDecision x.written.makes item = (subst (λ ps. AllByRecursion (TellsDecision x.written.makes) ps) (sym promises ∙ says.1) k.history.tells).0 in
      rw makes (told_if_any decision refl tells)
    where
      told_if_any : (o : Option Decision) → decision ≡ o → TellsDecision x.written.makes (promise_item here.life here.step (record { number = number; report = report; decision = decision })) → WasMadeIfAny x.written.makes o
      told_if_any None is tells = tt
      told_if_any (Some d) is tells = go (is_by_informed report) refl
        where
          go : (b : Bool) → is_by_informed report ≡ b → WasMade x.written.makes d
          go true e = let t : TellsLast x.written.makes (promise_item here.life here.step (record { number = number; report = report; decision = decision })) (Some d) = subst (TellsLast x.written.makes (promise_item here.life here.step (record { number = number; report = report; decision = decision }))) is (tells.informed e) in t.0
          go false e = absurd (let none : Some d ≡ None = sym is ∙ tells.ready e in cc)
  told_made (bodies.Update kept) promises makes belief says = tt
  told_made (bodies.NoDecision number group turn skip reports best) promises makes belief says = absurd says
  told_made (bodies.Election number why) promises makes belief says = tt
  told_made (bodies.Ask want) promises makes belief says = tt
  told_made (bodies.State group position total offset bytes) promises makes belief says = tt
  told_made (bodies.Sync ready) promises makes belief says = tt

  -- ---- a promise

  given_tells : (c : Promises here x y) → TellsDecision x.written.makes (promise_item here.life here.step c.given)
  given_tells c = go x.process.belief refl
    where
      item : Promised
      item = promise_item here.life here.step c.given

      go : (b : Belief) → x.process.belief ≡ b → TellsDecision x.written.makes (promise_item here.life here.step c.given)
      go (Informed None) is = record {
        informed = λ yes. rw (c.decision, is) (ap (λ (r : Report). r.group) c.report ∙ ap (λ (b : Belief). (or_none (view_decision b)).group) is, ap (λ (r : Report). r.turn) c.report ∙ ap (λ (b : Belief). (or_none (view_decision b)).turn) is);
        ready = λ no. c.decision ∙ ap last_of is;
      }
      go (Informed (Some d)) is =
          let last : last_decision x.process ≡ Some d = ap last_of is in
          let was = last_made x.written.makes x.process d k.own.keeps last in
          let own = own_group team steps x.written s.who x.process d before.history before.own k.history.arise k.own last in
          let positive : 1 ≤ d.group = subst (λ (z : Decision). 1 ≤ z.group) was.2 (of_each (λ (m : items.Make). 1 ≤ m.making.decision.group) x.written.makes was.0 (all_positive team x.written.promises x.written.makes k.history.arise) was.1) in
          record {
            informed = λ yes. rw (c.decision, is) (
              was,
              positive,
              ap (λ (r : Report). r.group) c.report ∙ ap (λ (b : Belief). (or_none (view_decision b)).group) is,
              ap (λ (r : Report). r.turn) c.report ∙ ap (λ (b : Belief). (or_none (view_decision b)).turn) is,
              (let low = own.below in let above = c.above in omega arith),
            );
            ready = λ no. absurd (let kind : is_by_informed c.given.report ≡ true = ap is_by_informed c.report ∙ by_kind is in cc);
          }
        where
          by_kind : x.process.belief ≡ Informed (Some d) → is_by_informed (report_by x.process c.t) ≡ true
          by_kind is = rw is refl
      go (Blank followed) is = record {
        informed = λ yes. absurd (let kind : is_by_informed c.given.report ≡ false = ap is_by_informed c.report ∙ by_kind is in cc);
        ready = λ no. c.decision ∙ ap last_of is;
      }
        where
          by_kind : x.process.belief ≡ Blank followed → is_by_informed (report_by x.process c.t) ≡ false
          by_kind is = rw is refl

  -- ---- a make

  next_follows : (c : Makes here x y) → (entries : List Entry) → (appended : List Kept) → map (λ (u : Kept). u.entry) appended ≡ entries → (last : Decision) → last_decision x.process ≡ Some last → is_turn here.team (member_of x.process.identity) (Some last) x.process.vote.promised c.t ≡ true
      → c.making ≡ next_making last appended (next_decision entries last c.t x.process.identity.who) → Follows x.written.makes (make_item (member_of x.process.identity) here.life here.step x.written.makes c.making) last
  next_follows c entries appended added last is turn same =
      let d : Decision = next_decision entries last c.t x.process.identity.who in
      let ring = next_seat (member_of x.process.identity) last (seat_due here.team (member_of x.process.identity) last x.process.vote.promised c.t turn) in
      let seat_in = after_in last.maker last.seats.items ring.0 ring.1 in
      let who : x.process.identity.who ≡ here.step.who = before.own.own.is ∙ sym me in
      let mine : ring.0.member.who ≡ x.process.identity.who = ap (λ (m : Member). m.who) ring.2 in
      let same_length = next_length entries last c.t x.process.identity.who ring.0 seat_in mine in
      let longer : decision_length d ≡ decision_length last + length entries = same_length ∙ appended_length entries (next_draft last c.t x.process.identity.who) in
      subst (λ (making : Making). Follows x.written.makes (make_item (member_of x.process.identity) here.life here.step x.written.makes making) last) (sym same) (record {
        was_made = last_made x.written.makes x.process last k.own.keeps is;
        before = refl;
        reports = refl;
        group = refl;
        turn = omega arith;
        start = refl;
        maker = who;
        ring = ring;
        entries = entries;
        appended = added;
        longer = longer;
        seats = same_supported (map (raised entries) last.seats.items) x.process.identity.who here.step.who (decision_length (with_appended entries (next_draft last c.t x.process.identity.who))) (decision_length d) c.t who (sym same_length);
      })

  -- a ballot of which a group is made
  group_comes : (c : Makes here x y) → (ballot : Ballot) → x.process.ballot ≡ Some ballot → IsFirstOf team ballot (member_of x.process.identity) c.t c.making.decision → c.making ≡ group_making ballot c.making.decision
      → ComesFrom team x.written.promises x.written.makes (make_item (member_of x.process.identity) here.life here.step x.written.makes c.making)
  group_comes c ballot is first same =
      let b = k.own.ballot ballot is in
      let reports : c.making.reports ≡ ballot.reports.items = ap (λ (m : Making). m.reports) same in
      let best : c.making.before ≡ ballot.best = ap (λ (m : Making). m.before) same in
      let own = b.own in
      let positive : 1 ≤ ballot.number = let w = (of_each (IsInWindow team) x.written.promises own.0 before.history.windows own.1).positive in let number = own.4 in omega arith in
      record {
        owned = ap (owner team.n) first.group ∙ b.owned ∙ sym me;
        positive = rw first.group positive;
        distinct = rw reports b.distinct;
        below = rw reports b.below;
        promised = rw (reports, first.group) b.promised;
        majority = rw reports first.majority;
        best = rw (reports, best) b.best;
        before = rw best (subst (λ (o : Option Ballot). WasMadeIfAny x.written.makes (best_of o)) is k.own.keeps.best);
        appended = ap (λ (m : Making). m.appended) same;
        lower = λ d e. rw first.group (lower b.best positive (best_told b.promised) d (sym best ∙ e));
        members = rw (reports, best) first.members;
        seats = first.seats;
        one_seat = first.one_seat;
        own_seat = first.own_seat;
        maker = first.maker ∙ before.own.own.is ∙ sym me;
        supports = first.supports;
        starts = subst (AllByRecursion (StartsAfter team (is_full (make_item (member_of x.process.identity) here.life here.step x.written.makes c.making)) c.making.decision.start)) (sym reports) (first.starts (is_full (make_item (member_of x.process.identity) here.life here.step x.written.makes c.making)));
        starts_later = λ d e. first.starts_later d (sym best ∙ e);
      }
    where
      best_told : AllByRecursion (WasReported x.written.promises ballot.number) ballot.reports.items → (r : Report) → In r ballot.reports.items → is_by_informed r ≡ true → 1 ≤ ballot.number → r.group < ballot.number
      best_told promised r i informed positive =
          let z = of_each (WasReported x.written.promises ballot.number) ballot.reports.items r promised i in
          let tells = of_each (TellsDecision x.written.makes) x.written.promises z.0 k.history.tells z.1 in
          let yes : is_by_informed z.0.promise.report ≡ true = ap is_by_informed z.4 ∙ informed in
          let low = below_number z.0 z.0.promise.decision (tells.informed yes) in
          let same = ap (λ (q : Report). q.group) z.4 in
          let number = z.3 in
          omega (arith, low)
        where
          below_number : (v : Promised) (o : Option Decision) → TellsLast x.written.makes v o → 1 ≤ v.promise.number → v.promise.report.group < v.promise.number
          below_number v None t positive = let zero_group = t.0 in omega arith
          below_number v (Some d) t positive = let low = t.4 in let same = t.2 in omega arith

      lower : IsBest ballot.reports.items ballot.best → 1 ≤ ballot.number → ((r : Report) → In r ballot.reports.items → is_by_informed r ≡ true → 1 ≤ ballot.number → r.group < ballot.number) → (d : Decision) → ballot.best ≡ Some d → d.group < ballot.number
      lower best positive low d is = let t = best.told d is in let group = t.3 in let below = low t.0 t.1 t.2 positive in omega arith

  -- ---- the lists after the effect

  pub is_group : (c : Makes here x y) → (ballot : Ballot) → x.process.ballot ≡ Some ballot → group_made here.team ballot x.process.log (payloads_of x.process.waiting) (member_of x.process.identity) c.t ≡ Ok c.making.decision
      → IsFirstOf team ballot (member_of x.process.identity) c.t c.making.decision
  is_group c ballot is e =
      let b = k.own.ballot ballot is in
      first_of_ballot team ballot x.process.log (payloads_of x.process.waiting) (member_of x.process.identity) c.t c.making.decision b.below (were_distinct ballot.reports.items b.distinct)
      (subst (λ (t : Team). group_made t ballot x.process.log (payloads_of x.process.waiting) (member_of x.process.identity) c.t ≡ Ok c.making.decision) at.same_team e)

  new_arises : (c : Makes here x y) → Arises team x.written.promises x.written.makes (make_item (member_of x.process.identity) here.life here.step x.written.makes c.making)
  new_arises c = go c.reason
    where
      go : MakeReason here c.making c.t x y → Arises team x.written.promises x.written.makes (make_item (member_of x.process.identity) here.life here.step x.written.makes c.making)
      go (Next last is turn same ballot) = AsNext last (next_follows c (entries_to_add here.team c.t last x.process) (kept_to_add here.team c.t last x.process) (entries_kept here.team c.t last x.process) last is turn same)
      go (Group ballot is full e same none) = let first = is_group c ballot is e in AsFirst first.turn (group_comes c ballot is first same)

  new_under : (c : Makes here x y) → IsUnderPromise x.written.promises (make_item (member_of x.process.identity) here.life here.step x.written.makes c.making)
  new_under c = go c.reason
    where
      go : MakeReason here c.making c.t x y → IsUnderPromise x.written.promises (make_item (member_of x.process.identity) here.life here.step x.written.makes c.making)
      go (Next last is turn same ballot) =
          let own = own_group team steps x.written s.who x.process last before.history before.own k.history.arise k.own is in
          let group : c.making.decision.group ≡ last.group = ap (λ (m : Making). m.decision.group) same in
          (own.item, own.there, own.by ∙ sym me, own.member, own.life ∙ sym at.same_life, own.number ∙ sym group)
      go (Group ballot is full e same none) =
          let own = (k.own.ballot ballot is).own in
          let first = is_group c ballot is e in
          (own.0, own.1, own.2 ∙ sym me, own.5, own.3 ∙ sym at.same_life, own.4 ∙ sym first.group)

  new_seat : (c : Makes here x y) → has_seat (member_of x.process.identity) c.making.decision ≡ true
  new_seat c = go c.reason
    where
      go : MakeReason here c.making c.t x y → has_seat (member_of x.process.identity) c.making.decision ≡ true
      go (Next last is turn same ballot) =
          let ring = next_seat (member_of x.process.identity) last (seat_due here.team (member_of x.process.identity) last x.process.vote.promised c.t turn) in
          let entries = entries_to_add here.team c.t last x.process in
          let there = seat_stays x.process.identity.who (record { ack = decision_length (with_appended entries (next_draft last c.t x.process.identity.who)); at = c.t }) (map (raised entries) last.seats.items) (member_of x.process.identity) (raised entries ring.0)
          (in_changed (raised entries) last.seats.items ring.0 (after_in last.maker last.seats.items ring.0 ring.1)) ring.2 in
          subst (λ (m : Making). has_seat (member_of x.process.identity) m.decision ≡ true) (sym same) there
      go (Group ballot is full e same none) = (is_group c ballot is e).own_seat

  -- nothing was promised or made, and the process believes what it did
  same_lists : y.written.promises ≡ x.written.promises → y.written.makes ≡ x.written.makes
      → AllByRecursion (λ (z : Dispatch). WasMadeIfAny y.written.makes (carried z.datagram.body)) y.written.sent → OfMaker team steps y.written s.who y.process → Holds (made team) steps (world team past) s.who y
  same_lists promises makes sent own = record {
    history = record {
      tells = rw promises (subst (λ ms. AllByRecursion (TellsDecision ms) x.written.promises) (sym makes) k.history.tells);
      arise = rw (promises, makes) k.history.arise;
      under = rw makes (subst (λ ps. AllByRecursion (IsUnderPromise ps) x.written.makes) (sym promises) k.history.under);
      carried_made = sent;
    };
    own = own;
    others = λ q p other runs. maker_more team steps x.written y.written q p (more_same x.written.promises y.written.promises promises) (more_same x.written.makes y.written.makes makes) (seat_same steps x.written y.written q p promises makes) (k.others q p other runs);
  }

  same_sent : y.written.makes ≡ x.written.makes → y.written.sent ≡ x.written.sent → AllByRecursion (λ (z : Dispatch). WasMadeIfAny y.written.makes (carried z.datagram.body)) y.written.sent
  same_sent makes sent = rw sent (subst (λ ms. AllByRecursion (λ (z : Dispatch). WasMadeIfAny ms (carried z.datagram.body)) x.written.sent) (sym makes) k.history.carried_made)

  -- the process, where it keeps its belief, its ballot and its name
  same_maker : y.written.promises ≡ x.written.promises → y.written.makes ≡ x.written.makes → y.process.identity ≡ x.process.identity → y.process.belief ≡ x.process.belief → y.process.ballot ≡ x.process.ballot → WasMadeIfAny x.written.makes (held_decision y.process) → OfMaker team steps y.written s.who y.process
  same_maker promises makes identity belief ballot held = record {
    keeps = record { view = rw (makes, belief) k.own.keeps.view; best = rw (makes, ballot) k.own.keeps.best; held = rw makes held };
    seat = λ informed. same_seat (last_decision y.process) (subst (HasSeat steps x.written s.who x.process) (ap last_of (sym belief)) (k.own.seat (ap is_informed (sym belief) ∙ informed)));
    ballot = λ b is. same_ballot b (k.own.ballot b (sym ballot ∙ is));
  }
    where
      same_seat : (o : Option Decision) → HasSeat steps x.written s.who x.process o → HasSeat steps y.written s.who y.process o
      same_seat (Some d) h = rw identity h
      same_seat None h = (h.0, rw makes h.1, rw promises h.2)

      same_ballot : (b : Ballot) → BallotHolds team steps x.written s.who x.process b → BallotHolds team steps y.written s.who y.process b
      same_ballot b h = record {
        owned = h.owned;
        informed = ap is_informed belief ∙ h.informed;
        distinct = h.distinct;
        below = h.below;
        promised = rw promises h.promised;
        own = rw (promises, identity) h.own;
        best = h.best;
      }

  -- nothing is sent either, and what is held stays
  same_process : y.written.promises ≡ x.written.promises → y.written.makes ≡ x.written.makes → y.written.sent ≡ x.written.sent → y.process.identity ≡ x.process.identity → y.process.belief ≡ x.process.belief → y.process.ballot ≡ x.process.ballot
      → held_decision y.process ≡ held_decision x.process → Holds (made team) steps (world team past) s.who y
  same_process promises makes sent identity belief ballot held = same_lists promises makes (same_sent makes sent) (same_maker promises makes identity belief ballot (rw held k.own.keeps.held))

  -- ---- a ballot after the effect

  newest_tells : (given : Promise) (older : List Promised) → x.written.promises ≡ promise_item here.life here.step given ∷ older → TellsDecision x.written.makes (promise_item here.life here.step given)
  newest_tells given older is = (subst (λ ps. AllByRecursion (TellsDecision x.written.makes) ps) is k.history.tells).0

  ballot_begins : (given : Promise) (older : List Promised) → x.written.promises ≡ promise_item here.life here.step given ∷ older → owner here.team.n given.number ≡ x.process.identity.who → is_informed x.process.belief ≡ true
      → given.report.member ≡ member_of x.process.identity → BallotHolds team steps x.written s.who x.process (begun given)
  ballot_begins given older is owned informed member =
      let item = promise_item here.life here.step given in
      let there : In item x.written.promises = rw is (inl refl) in
      let mine : given.report.member.who ≡ s.who = ap (λ (m : Member). m.who) member ∙ before.own.own.is in
      let own : owner team.n given.number ≡ s.who = subst (λ (t : Team). owner t.n given.number ≡ s.who) at.same_team (owned ∙ before.own.own.is) in
      record {
        owned = own;
        informed = informed;
        distinct = are_distinct (given.report ∷ []) (tt, tt);
        below = (rw mine (owner_below team.n given.number s.who (let three = at.sound.at_least_three in omega arith) own), tt);
        promised = ((item, there, me ∙ sym mine, refl, refl), tt);
        own = (item, there, me, at.same_life, refl, member, inl refl);
        best = best_first x.written.makes item (newest_tells given older is);
      }

  ballot_grows : (given : Promise) (head : Head) (b : Ballot) → here.mail ≡ Some (record { head = head; body = bodies.Promise given.number given.report given.decision }) → wants given (Some b) ≡ true
      → BallotHolds team steps x.written s.who x.process b → BallotHolds team steps x.written s.who x.process (joined given b)
  ballot_grows given head b mail want h =
      let got = given_by_mail head given mail in
      let z = got.0.0 in
      let promise : z.promise ≡ given = got.0.3 in
      let named = of_each (λ (v : Promised). IsNamed steps (promise_name v)) x.written.promises z before.history.names.promises got.0.1 in
      let by : given.report.member.who ≡ z.who = ap (λ (p : Promise). p.report.member.who) (sym promise) ∙ named.member in
      let tells = of_each (TellsDecision x.written.makes) x.written.promises z k.history.tells got.0.1 in
      let own = h.own in
      record {
        owned = h.owned;
        informed = h.informed;
        distinct = still_distinct b.reports.items given.report h.distinct (grind (arith, nat_tests));
        below = all_push (λ (r : Report). r.member.who < team.n) b.reports.items given.report h.below (rw (by, got.0.2) got.1);
        promised = all_push (WasReported x.written.promises b.number) b.reports.items given.report h.promised
            (z, got.0.1, sym by, ap (λ (p : Promise). p.number) promise ∙ sym (same_number_of want), ap (λ (p : Promise). p.report) promise);
        own = (own.0, own.1, own.2, own.3, own.4, own.5, in_pushed own.0.promise.report given.report b.reports.items own.6);
        best = subst (λ (p : Promise). IsBest (b.reports.items ++ p.report ∷ []) (greater b.best p.decision)) promise (best_pushed x.written.makes z b.reports.items b.best tells h.best);
      }
    where
      same_number_of : wants given (Some b) ≡ true → b.number ≡ given.number
      same_number_of e = grind (arith, nat_tests)

  -- what a kept ballot's best is
  best_begins : (o : Option Decision) → last_decision x.process ≡ o → WasMadeIfAny x.written.makes o
  best_begins None is = tt
  best_begins (Some d) is = last_made x.written.makes x.process d k.own.keeps is

  best_grows : (given : Promise) (head : Head) (b : Ballot) → here.mail ≡ Some (record { head = head; body = bodies.Promise given.number given.report given.decision }) → x.process.ballot ≡ Some b → WasMadeIfAny x.written.makes (greater b.best given.decision)
  best_grows given head b mail is =
      greater_is (WasMadeIfAny x.written.makes) b.best given.decision (subst (λ (o : Option Ballot). WasMadeIfAny x.written.makes (best_of o)) is k.own.keeps.best)
      (carried_by_mail (record { head = head; body = bodies.Promise given.number given.report given.decision }) mail)

  -- the ballot and its best, by the reason
  record BallotAfter : Type 0 where
    best : WasMadeIfAny x.written.makes (best_of y.process.ballot)
    holds : (b : Ballot) → y.process.ballot ≡ Some b → BallotHolds team steps x.written s.who x.process b

  ballot_after : BallotReason here x y → BallotAfter
  ballot_after (Begins given older is promised owned informed member decision ballot) = record {
    best = rw (ballot, decision) (best_begins (last_decision x.process) refl);
    holds = λ b e. let same : begun given ≡ b = same_Some (begun given) b (sym ballot ∙ e) in subst (BallotHolds team steps x.written s.who x.process) same (ballot_begins given older is owned informed member);
  }
  ballot_after (Adds given head mail want ballot) = go x.process.ballot refl
    where
      go : (o : Option Ballot) → x.process.ballot ≡ o → BallotAfter
      go None is = absurd (let no : wants given None ≡ true = subst (λ o. wants given o ≡ true) is want in cc)
      go (Some b) is =
          let now : y.process.ballot ≡ Some (joined given b) = ballot ∙ ap (option_map (joined given)) is in
          record {
            best = rw now (best_grows given head b mail is);
            holds = λ c e. let same : joined given b ≡ c = cc in
                subst (BallotHolds team steps x.written s.who x.process) same (ballot_grows given head b mail (subst (λ o. wants given o ≡ true) is want) (k.own.ballot b is));
          }
  ballot_after (Drops none) = record { best = rw none tt; holds = λ b e. absurd (cc) }

  -- ---- each effect

  pub changed : Change here x y → Holds (made team) steps (world team past) s.who y
  changed (Change.Keep c) = same_lists c.promises c.makes
      (rw c.sent (all_joined (λ (z : Dispatch). WasMadeIfAny y.written.makes (carried z.datagram.body)) x.written.sent (map (sent_at here.step.t) c.new)
      (subst (λ ms. AllByRecursion (λ (z : Dispatch). WasMadeIfAny ms (carried z.datagram.body)) x.written.sent) (sym c.makes) k.history.carried_made)
      (all_mapped (λ (z : Dispatch). WasMadeIfAny y.written.makes (carried z.datagram.body)) (sent_at here.step.t) c.new
      (each_weaker (IsToldBy here y) (λ (d : ℕ × Datagram). WasMadeIfAny y.written.makes (carried d.1.body)) c.new (λ d told. told_made d.1.body c.promises c.makes c.belief told.says) c.told))))
      (same_maker c.promises c.makes c.identity c.belief c.ballot (held_kept c.waits))
  changed (Change.Deliver c) = same_process (ap (λ (w : Written). w.promises) c.written) (ap (λ (w : Written). w.makes) c.written) (ap (λ (w : Written). w.sent) c.written)
      (ap (λ (p : Process). p.identity) c.process) (ap (λ (p : Process). p.belief) c.process) (ap (λ (p : Process). p.ballot) c.process) (ap held_decision c.process)
  changed (Change.Raise c) = same_process (ap (λ (w : Written). w.promises) c.written) (ap (λ (w : Written). w.makes) c.written) (ap (λ (w : Written). w.sent) c.written)
      (ap (λ (p : Process). p.identity) c.process) (ap (λ (p : Process). p.belief) c.process) (ap (λ (p : Process). p.ballot) c.process) (ap held_decision c.process)
  changed (Change.Hold c) =
      let b = ballot_after c.reason in
      rw (c.written, c.process) (record {
        history = k.history;
        own = record {
          keeps = record { view = k.own.keeps.view; best = b.best; held = k.own.keeps.held };
          seat = λ informed. seat_kept (last_decision x.process) (k.own.seat informed);
          ballot = λ o is. let h = b.holds o is in record { owned = h.owned; informed = h.informed; distinct = h.distinct; below = h.below; promised = h.promised; own = h.own; best = h.best };
        };
        others = k.others;
      })
    where
      seat_kept : (o : Option Decision) → HasSeat steps x.written s.who x.process o → HasSeat steps x.written s.who (record x.process { ballot = y.process.ballot }) o
      seat_kept (Some d) h = h
      seat_kept None h = h
  changed (Change.Take c) =
      let makes : y.written.makes ≡ x.written.makes = ap (λ (w : Written). w.makes) c.written in
      let promises : y.written.promises ≡ x.written.promises = ap (λ (w : Written). w.promises) c.written in
      same_lists promises makes (same_sent makes (ap (λ (w : Written). w.sent) c.written)) (rw (c.written, c.process) (record {
        keeps = record { view = source_made c.taken_decision c.source; best = k.own.keeps.best; held = entered_made c.taken_decision };
        seat = λ informed. (may_take here x c.taken_decision c.source before.own.held).seat;
        ballot = λ o is. let h = k.own.ballot o is in record { owned = h.owned; informed = refl; distinct = h.distinct; below = h.below; promised = h.promised; own = h.own; best = h.best };
      }))
  changed (Change.Give c) =
      let item = promise_item here.life here.step c.given in
      let promises : y.written.promises ≡ item ∷ x.written.promises = ap (λ (w : Written). w.promises) c.written in
      let makes : y.written.makes ≡ x.written.makes = ap (λ (w : Written). w.makes) c.written in
      let more : More x.written.promises y.written.promises = more_by x.written.promises y.written.promises item promises in
      record {
        history = record {
          tells = rw promises (subst (λ ms. AllByRecursion (TellsDecision ms) (item ∷ x.written.promises)) (sym makes) (given_tells c, k.history.tells));
          arise = rw makes (arise_more team x.written.promises y.written.promises x.written.makes more k.history.arise);
          under = rw makes (each_weaker (IsUnderPromise x.written.promises) (IsUnderPromise y.written.promises) x.written.makes (λ m. under_more x.written.promises y.written.promises m more) k.history.under);
          carried_made = same_sent makes (ap (λ (w : Written). w.sent) c.written);
        };
        own = rw c.process (record {
          keeps = record { view = rw makes k.own.keeps.view; best = rw makes k.own.keeps.best; held = rw makes k.own.keeps.held };
          seat = λ informed. given_seat c promises makes x.process.belief refl informed (k.own.seat informed);
          ballot = λ o is. let h = ballot_more team steps x.written y.written s.who x.process o more (k.own.ballot o is) in record { owned = h.owned; informed = h.informed; distinct = h.distinct; below = h.below; promised = h.promised; own = h.own; best = h.best };
        });
        others = λ q p other runs. maker_more team steps x.written y.written q p more (more_same x.written.makes y.written.makes makes)
            (seat_other_promise steps x.written y.written item q p promises makes (λ mine. absurd (other (sym me ∙ mine)))) (k.others q p other runs);
      }
    where
      given_seat : (c : Promises here x y) → y.written.promises ≡ promise_item here.life here.step c.given ∷ x.written.promises → y.written.makes ≡ x.written.makes → (b : Belief) → x.process.belief ≡ b → is_informed x.process.belief ≡ true
          → HasSeat steps x.written s.who x.process (last_decision x.process) → HasSeat steps y.written s.who (record x.process { vote = record (x.process.vote) { promised = c.given.number } }) (last_decision x.process)
      given_seat c promises makes (Informed None) is informed h =
          let none : last_decision x.process ≡ None = ap last_of is in
          let old : HasSeat steps x.written s.who x.process None = subst (HasSeat steps x.written s.who x.process) none h in
          rw none (old.0, rw makes old.1, rw promises ((λ mine. ap (λ (r : Report). r.group) c.report ∙ ap (λ (b : Belief). (or_none (view_decision b)).group) is), old.2))
      given_seat c promises makes (Informed (Some d)) is informed h =
          let last : last_decision x.process ≡ Some d = ap last_of is in
          rw last (subst (HasSeat steps x.written s.who x.process) last h)
      given_seat c promises makes (Blank followed) is informed h = absurd (let no : true ≡ false = sym informed ∙ ap is_informed is in cc)
  changed (Change.Make c) =
      let new = make_item (member_of x.process.identity) here.life here.step x.written.makes c.making in
      let promises : y.written.promises ≡ x.written.promises = ap (λ (w : Written). w.promises) c.written in
      let makes : y.written.makes ≡ new ∷ x.written.makes = ap (λ (w : Written). w.makes) c.written in
      let more : More x.written.makes y.written.makes = more_by x.written.makes y.written.makes new makes in
      record {
        history = record {
          tells = rw promises (each_weaker (TellsDecision x.written.makes) (TellsDecision y.written.makes) x.written.promises (λ z. tells_more x.written.makes y.written.makes z more) k.history.tells);
          arise = rw (promises, makes) (new_arises c, k.history.arise);
          under = rw makes (subst (λ ps. AllByRecursion (IsUnderPromise ps) (new ∷ x.written.makes)) (sym promises) (new_under c, k.history.under));
          carried_made = rw (ap (λ (w : Written). w.sent) c.written) (each_weaker (λ (z : Dispatch). WasMadeIfAny x.written.makes (carried z.datagram.body)) (λ (z : Dispatch). WasMadeIfAny y.written.makes (carried z.datagram.body)) x.written.sent
              (λ z. if_any_more x.written.makes y.written.makes (carried z.datagram.body) more) k.history.carried_made);
        };
        own = rw c.process (record {
          keeps = record { view = (new, rw makes (inl refl), refl); best = made_best c more c.reason; held = if_any_more x.written.makes y.written.makes _ more (entered_made c.making.decision) };
          seat = λ informed. new_seat c;
          ballot = λ o is. let h = made_ballot c promises c.reason o is in record { owned = h.owned; informed = refl; distinct = h.distinct; below = h.below; promised = h.promised; own = h.own; best = h.best };
        });
        others = λ q p other runs. maker_more team steps x.written y.written q p (more_same x.written.promises y.written.promises promises) more
            (seat_other_make steps x.written y.written new q p promises makes (λ mine. other (sym me ∙ mine))) (k.others q p other runs);
      }
    where
      made_best : (c : Makes here x y) → More x.written.makes y.written.makes → MakeReason here c.making c.t x y → WasMadeIfAny y.written.makes (best_of y.process.ballot)
      made_best c more (Next last is turn same ballot) = rw ballot (if_any_more x.written.makes y.written.makes (best_of x.process.ballot) more k.own.keeps.best)
      made_best c more (Group ballot is full e same none) = rw none tt

      made_ballot : (c : Makes here x y) → y.written.promises ≡ x.written.promises → MakeReason here c.making c.t x y → (o : Ballot) → y.process.ballot ≡ Some o → BallotHolds team steps y.written s.who x.process o
      made_ballot c promises (Next last is turn same ballot) o e = ballot_more team steps x.written y.written s.who x.process o (more_same x.written.promises y.written.promises promises) (k.own.ballot o (sym ballot ∙ e))
      made_ballot c promises (Group ballot is full e same none) o is_some = absurd (cc)
