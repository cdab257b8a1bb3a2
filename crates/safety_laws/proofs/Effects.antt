-- Each part of a step is a row of effects, and so is a step.
use Rattle.std.proofs.Common.{◌≡◌, refl, sym, ap, subst, ◌∙◌, inl, ℕ, ◌<◌, Bool, true, false, cond, not, ◌&&◌, ◌||◌, nat_eq, nat_lt, List, [], ◌∷◌, ◌++◌, map, Option, Some, None, Result, Ok, Err, arith}
use Rattle.std.specs.List.{AllByRecursion}
use Rattle.std.specs.Option.{option_map}
use Rattle.std.proofs.lemmas.Bool.Decides.{nat_tests}
use Rattle.std.proofs.lemmas.List.{map-append, append_assoc, append-nil}
use Rattle.tw_machine.specs.Types.{Reason, Head, Why, Body, Datagram, UpdateId, Decision, Kept, Order, Atom, Want}
use Rattle.tw_types.specs.declared.answer.Reason.TheVariants as reasons
use Rattle.tw_types.specs.declared.datagram.Body.TheVariants as bodies
use Rattle.tw_types.specs.Refusals.{first_refusal}
use Rattle.tw_types.specs.Votes.{Promise, Making}
use Rattle.tw_types.specs.Beliefs.{is_informed, view_decision}
use Rattle.tw_types.specs.Ballots.{wants}
use Rattle.tw_types.specs.Decisions.{or_none, is_older, is_same_member, has_seat}
use Rattle.tw_types.specs.Flag.{is_up}
use Rattle.tw_types.specs.Elections.{why_begun, own_promise, is_willing}
use Rattle.tw_types.specs.Waiting.{Held, payloads_of, Putting, Filled, Stored, putting}
use Rattle.tw_types.specs.Sends.{Sending}
use Rattle.tw_types.specs.Updates.{sender}
use Rattle.tw_types.specs.Groups.{group_making}
use Rattle.tw_types.specs.Turns.{is_turn}
use Rattle.tw_types.specs.Promises.{is_quarantined, is_in_window}
use Rattle.tw_types.specs.Process.{Process, Purpose, ToTake, ToGroup, Hold}
use Rattle.tw_machine.specs.Dispatches.{sent_at}
use Rattle.tw_machine.specs.History.{Promised, promise_item, make_item, send_item, promises_on}
use Rattle.tw_machine.specs.Run.{Run, Ruled, done, dropped, with_sends}
use Rattle.tw_machine.specs.Sending.{datagram_to, others, sent_to, sent_to_others}
use Rattle.tw_machine.specs.Standing.{member_of, last_decision, is_ready, report_by, promise_by}
use Rattle.tw_machine.specs.Control.{rate_of, timely_reading, if_timely}
use Rattle.tw_machine.specs.Entering.{entered, decision_entered, held_for, decision_held, enter_decision}
use Rattle.tw_machine.specs.Updating.{is_stale, held_let_go, use_if_whole, update_kept, update_put, received_as, take_update, answer_ask}
use Rattle.tw_machine.specs.Proposing.{own_update, seq_given, update_sent, propose}
use Rattle.tw_machine.specs.Taking.{decision_tests, take_decision}
use Rattle.tw_machine.specs.Electing.{promised, answer_tests, election_answered, answer_election, ballot_dropped, has_spent_ballot, drop_ballot, holds_election, election_begun, begin_election}
use Rattle.tw_machine.specs.Deciding.{supporting, making_kept, decision_made, has_turn, next_made, turn_taken, take_turn}
use Rattle.tw_machine.specs.Grouping.{promise_added, take_promise, make_group}
use Rattle.tw_machine.specs.Delivering.{all_delivered, deliver}
use Rattle.tw_machine.specs.Beating.{is_due, beat_marked, is_repeated, repeat_decision, ask_again, beat_given, give_beat}
use Rattle.tw_machine.specs.Rules.{kind_rule, rule}
use Rattle.tw_machine.specs.Duties.{timed_duties, duties_if_timed, duties}
use Rattle.tw_machine.specs.Event.{Event}
use Rattle.tw_machine.specs.Step.{event_rule}
use Rattle.tw_machine.proofs.Tables.{all_mapped, all_of, equal_numbers}
use Rattle.tw_machine.proofs.Ends.{by_entering, by_group, by_asking, by_using, by_kept, by_putting, by_answering, by_proposing, by_event}
use Rattle.safety_laws.specs.Effects.{Written, State, Here, state_of, NotBelow, WasSent, Origin, ByMail, ByItself, Again, First, Says, IsToldBy, Source, Comes, WasHeld, Waits, Stays, Puts, Fills, Goes, ForTaking, ForGroup, Proposes, Numbers, SendsNone, SendsOne, BallotReason, MakeReason, Change, Changes}
use Rattle.tw_types.specs.Items.{In}
use Rattle.safety_laws.proofs.Delivers.{delivers}
use Rattle.safety_laws.proofs.Given.{may_propose, IsPromised, drop_leaves_promised, turn_leaves_promised, group_is, promise_first, make_first, send_first, same_greatest, none_present, not_false, timely_at, still_sent_all, put_received, had_update, informed_by}

-- ---- in one step, after what was written down before it

module _ (here : Here) (before : Written) where
  abbrev at : Run → State
  at r = state_of here before r

  -- the clock's greatest reading is the one of the step, where there is one
  abbrev pub IsRead : Run → Type 0
  IsRead r = (t : ℕ) → here.now.reading ≡ Some t → r.process.timing.clock.greatest ≡ Some t

  -- from one run to a later one of the step
  pub record Row (a b : Run) : Type 0 where
    pub changes : Changes here (state_of here before a) (state_of here before b)
    pub read : IsRead b

  pub join : (x y z : State) → Changes here x y → Changes here y z → Changes here x z
  join x y z first Changes.Done = first
  join x y z first (Changes.Then rest last) = Changes.Then (join x y _ first rest) last

  pub after : (a b c : Run) → Row a b → Row b c → Row a c
  after a b c first next = record { changes = join (at a) (at b) (at c) first.changes next.changes; read = next.read }

  nothing : (r : Run) → IsRead r → Row r r
  nothing r read = record { changes = Changes.Done; read = read }

  one : (a b : Run) → Change here (at a) (at b) → IsRead b → Row a b
  one a b change read = record { changes = Changes.Then Changes.Done change; read = read }

  -- sending

  sends : (r : Run) (new : List (ℕ × Datagram)) → AllByRecursion (IsToldBy here (at (with_sends new r))) new → Change here (at r) (at (with_sends new r))
  sends r new told = Change.Keep (record {
    identity = refl;
    vote = refl;
    ballot = refl;
    belief = refl;
    log = refl;
    waits = Stays refl refl;
    numbers = SendsNone refl refl;
    greatest = same_greatest r.process.timing.clock.greatest;
    promises = refl;
    makes = refl;
    lines = refl;
    ups = refl;
    new = new;
    sent = ap (λ xs. before.sent ++ xs) (map-append (sent_at here.step.t) r.out.sends new) ∙ sym (append_assoc before.sent (map (sent_at here.step.t) r.out.sends) (map (sent_at here.step.t) new));
    told = told;
  })

  others_sent : (n : ℕ) (body : Body) (r : Run) → IsRead r → Says here (at r) body → Row r (sent_to_others n here.now body r)
  others_sent n body r read says =
      let to_each = datagram_to here.now r.process.identity r.process.timing body in
      let new = map to_each (others n r.process.identity.who) in
      one r (sent_to_others n here.now body r)
      (sends r new (all_mapped (IsToldBy here (at (with_sends new r))) to_each (others n r.process.identity.who)
      (all_of (λ to. IsToldBy here (at (with_sends new r)) (to_each to)) (others n r.process.identity.who) (λ to. record { from = refl; incarnation = refl; says = says }))))
      read

  one_sent : (to : ℕ) (body : Body) (r : Run) → IsRead r → Says here (at r) body → Row r (sent_to here.now body to r)
  one_sent to body r read says =
      let new = datagram_to here.now r.process.identity r.process.timing body to ∷ [] in
      one r (sent_to here.now body to r) (sends r new (record { from = refl; incarnation = refl; says = says }, tt)) read

  -- a change of what no law on groups reads
  pub still : (a b : Run) → b.process.identity ≡ a.process.identity → b.process.vote ≡ a.process.vote → b.process.ballot ≡ a.process.ballot → b.process.belief ≡ a.process.belief → b.process.log ≡ a.process.log
      → Waits here (at a) (at b) → Numbers here (at a) (at b) → NotBelow a.process.timing.clock.greatest b.process.timing.clock.greatest → b.promises ≡ a.promises → b.makings ≡ a.makings → b.out.sends ≡ a.out.sends → b.delivered ≡ a.delivered → Change here (at a) (at b)
  still a b identity vote ballot belief log waits numbers greatest promises makings sends delivered = Change.Keep (record {
    identity = identity;
    vote = vote;
    ballot = ballot;
    belief = belief;
    log = log;
    waits = waits;
    numbers = numbers;
    greatest = greatest;
    promises = ap (λ ps. promises_on here.life here.step ps before.promises) promises;
    makes = rw (identity, makings) refl;
    lines = rw (identity, delivered) refl;
    ups = refl;
    new = [];
    sent = ap (λ ds. before.sent ++ map (sent_at here.step.t) ds) sends ∙ sym (append-nil (before.sent ++ map (sent_at here.step.t) a.out.sends));
    told = tt;
  })

  -- a decision is held, and an update asked for
  held_row : (purpose : Purpose) (d : Decision) (source : ℕ) (id : UpdateId) (r : Run) → Waits here (at r) (at (record r { process = held_for purpose d source r.process })) → IsRead r → Row r (decision_held here.now purpose d source id r)
  held_row purpose d source id r waits read =
      let held : Run = record r { process = held_for purpose d source r.process } in
      after r held (decision_held here.now purpose d source id r)
      (one r held (still r held refl refl refl refl refl waits (SendsNone refl refl) (same_greatest r.process.timing.clock.greatest) refl refl refl refl) read)
      (one_sent source _ held read tt)

  -- a decision that has a source enters the list, or is held to be taken
  enter_row : (d : Decision) (r : Run) → Source here (at r) d → IsRead r → Row r (enter_decision here.now d r).run
  enter_row d r source read = by_entering here.now d r (λ k. Row r k.run)
      (λ fits whole. one r (decision_entered d r) (Change.Take (record { taken_decision = d; source = source; fits = fits; whole = whole; process = refl; written = refl })) read)
      (λ id. held_row ToTake d d.maker id r (ForTaking d d.maker source refl refl) read) (λ reason e. nothing r read)

  -- a promise

  record MayPromise (given : Promise) (t : ℕ) (r : Run) : Type 0 where
    reading : here.now.reading ≡ Some t
    able : (is_informed r.process.belief || is_ready r.process) ≡ true
    not_quarantined : is_quarantined here.team r.process.identity here.now.h ≡ false
    in_window : is_in_window here.team given.number t ≡ true
    above : r.process.vote.promised < given.number
    report : given.report ≡ report_by r.process t
    decision : given.decision ≡ last_decision r.process

  promise_row : (given : Promise) (t : ℕ) (r : Run) → IsRead r → MayPromise given t r → Row r (promised given r)
  promise_row given t r read may = one r (promised given r)
      (Change.Give (record {
        given = given;
        t = t;
        reading = may.reading;
        read = read t may.reading;
        able = may.able;
        not_quarantined = may.not_quarantined;
        in_window = may.in_window;
        above = may.above;
        report = may.report;
        decision = may.decision;
        process = refl;
        written = ap (λ ps. record (state_of here before r).written { promises = ps }) (promise_first here.life here.step given r.promises before.promises);
      }))
      read

  -- the newest promise is the one that was just given
  newest : (given : Promise) (r : Run) → (older : List Promised) × ((at (promised given r)).written.promises ≡ promise_item here.life here.step given ∷ older)
  newest given r = (promises_on here.life here.step r.promises before.promises, promise_first here.life here.step given r.promises before.promises)

  -- the duties

  drop_row : (t : ℕ) (r : Run) → IsRead r → Row r (drop_ballot here.team t r)
  drop_row t r read = go (has_spent_ballot here.team t r.process)
    where
      go : (test : Bool) → Row r (cond test (ballot_dropped r) r)
      go true = one r (ballot_dropped r) (Change.Hold (record { process = refl; written = refl; reason = BallotReason.Drops refl })) read
      go false = nothing r read

  -- what is made, and goes to all others
  made_row : (making : Making) (t : ℕ) (a r : Run) → IsRead a → here.now.reading ≡ Some t → making.decision.made ≡ t → making.decision.group ≡ a.process.vote.promised
      → MakeReason here making t (at a) (at (making_kept making t r))
      → (at r).written ≡ (at a).written → r.process ≡ record (a.process) { ballot = r.process.ballot }
      → Row a (decision_made here.team here.now making t r)
  made_row making t a r read reading made group reason same kept =
      after a (making_kept making t r) (decision_made here.team here.now making t r)
      (one a (making_kept making t r)
      (Change.Make (record {
        making = making;
        t = t;
        reading = reading;
        read = read t reading;
        made = made;
        group = group;
        reason = reason;
        process = ap (λ (p : Process). entered making.decision (supporting t p)) kept;
        written = ap (λ ms. record (state_of here before r).written { makes = ms }) (make_first (member_of r.process.identity) here.life here.step making r.makings before.makes) ∙ all_same;
      }))
      kept_read)
      (others_sent here.team.n (bodies.Decision making.decision) (making_kept making t r) kept_read refl)
    where
      kept_read : IsRead (making_kept making t r)
      kept_read u e = ap (λ (p : Process). p.timing.clock.greatest) kept ∙ read u e

      all_same : record (at r).written { makes = make_item (member_of r.process.identity) here.life here.step (at r).written.makes making ∷ (at r).written.makes } ≡ record (at a).written { makes = make_item (member_of a.process.identity) here.life here.step (at a).written.makes making ∷ (at a).written.makes }
      all_same =
          ap (λ (w : Written). record w { makes = make_item (member_of r.process.identity) here.life here.step w.makes making ∷ w.makes }) same
          ∙ ap (λ (p : Process). record (at a).written { makes = make_item (member_of p.identity) here.life here.step (at a).written.makes making ∷ (at a).written.makes }) kept

  turn_row : (t : ℕ) (r : Run) → IsRead r → here.now.reading ≡ Some t → Row r (take_turn here.team here.now t r)
  turn_row t r read reading = go (last_decision r.process) refl
    where
      by_test : (last : Decision) → last_decision r.process ≡ Some last → (test : Bool) → has_turn here.team t r.process ≡ test → Row r (cond test (turn_taken here.team here.now last t r) r)
      by_test last is true e =
          let turn : is_turn here.team (member_of r.process.identity) (Some last) r.process.vote.promised t ≡ true = subst (λ (o : Option Decision). is_turn here.team (member_of r.process.identity) o r.process.vote.promised t ≡ true) is e in
          let group : last.group ≡ r.process.vote.promised = grind (arith, nat_tests) in
          made_row (next_made here.team t last r.process) t r r read reading refl group (MakeReason.Next last is turn refl refl) refl refl
      by_test last is false e = nothing r read

      go : (o : Option Decision) → last_decision r.process ≡ o → Row r (elim o as (λ o. Run) [ None ↦ r | Some last ↦ cond (has_turn here.team t r.process) (turn_taken here.team here.now last t r) r ])
      go None is = nothing r read
      go (Some last) is = by_test last is (has_turn here.team t r.process) refl

  group_row : (t : ℕ) (r : Run) → IsRead r → here.now.reading ≡ Some t → IsPromised r → Row r (make_group here.team here.now t r)
  group_row t r read reading promised = by_group here.team here.now t r (Row r) (nothing r read)
      (λ ballot d is full e. let new = group_is here ballot r.process.log (payloads_of r.process.waiting) (member_of r.process.identity) t d e in
      made_row (group_making ballot d) t r (ballot_dropped r) read reading new.made (new.group ∙ sym (promised ballot is)) (MakeReason.Group ballot is full e refl refl) refl refl)
      (λ ballot best id is e. held_row ToGroup best ballot.best_from id r (ForGroup ballot best ballot.best_from is e (sym (promised ballot is)) refl refl) read)

  election_row : (t : ℕ) (r : Run) → IsRead r → here.now.reading ≡ Some t → Row r (begin_election here.team here.now t r)
  election_row t r read reading = go (holds_election here.team here.now t r.process) refl
    where
      own : Promise
      own = own_promise here.team (report_by r.process t) (last_decision r.process) t

      why : Why
      why = why_begun here.team (last_decision r.process) t

      held : holds_election here.team here.now t r.process ≡ true → Row r (election_begun here.team here.now why own r)
      held e =
          let given : Run = promised own r in
          let ballot : Run = record given { process = record (given.process) { ballot = Some (record { number = own.number; ring = None; reports = record { items = own.report ∷ [] }; best = own.decision; best_from = r.process.identity.who }) } } in
          let may : MayPromise own t r = record { reading = reading; able = rw (informed_by r (grind (arith, nat_tests))) refl; not_quarantined = grind (arith, nat_tests); in_window = grind (arith, nat_tests); above = grind (arith, nat_tests); report = refl; decision = refl } in
          let first : Row r given = promise_row own t r read may in
          after r given (election_begun here.team here.now why own r) first
          (after given _ (election_begun here.team here.now why own r)
          (one given _ (Change.Hold (record {
            process = refl;
            written = refl;
            reason = BallotReason.Begins own (newest own r).0 (newest own r).1 refl (grind (arith, nat_tests)) (informed_by r (grind (arith, nat_tests))) refl refl refl;
          })) read)
          (others_sent here.team.n (bodies.Election own.number why) _ read tt))

      go : (test : Bool) → holds_election here.team here.now t r.process ≡ test → Row r (cond test (election_begun here.team here.now why own r) r)
      go true e = held e
      go false e = nothing r read

  deliver_row : (t : ℕ) (r : Run) → IsRead r → here.now.reading ≡ Some t → Row r (deliver here.team t r)
  deliver_row t r read reading = go (is_up here.team r.process.vote r.process.belief (Some t)) refl
    where
      go : (up : Bool) → is_up here.team r.process.vote r.process.belief (Some t) ≡ up → Row r (cond up (all_delivered here.team (or_none (last_decision r.process)) r) r)
      go true up = one r (all_delivered here.team (or_none (last_decision r.process)) r) (Change.Deliver (delivers here before t r reading (read t reading) up)) read
      go false up = nothing r read

  timed_row : (t : ℕ) (r : Run) → IsRead r → here.now.reading ≡ Some t → Row r (timed_duties here.team here.now t r)
  unfolding timed_duties
  timed_row t r read reading =
      let a : Run = drop_ballot here.team t r in
      let b : Run = take_turn here.team here.now t a in
      let c : Run = make_group here.team here.now t b in
      let first : Row r a = drop_row t r read in
      let second : Row a b = turn_row t a first.read reading in
      let third : Row b c = group_row t b second.read reading (turn_leaves_promised here t a (drop_leaves_promised here t r)) in
      let d : Run = begin_election here.team here.now t c in
      let fourth : Row c d = election_row t c third.read reading in
      let fifth : Row d (deliver here.team t d) = deliver_row t d fourth.read reading in
      after r d (deliver here.team t d) (after r c d (after r b c (after r a b first second) third) fourth) fifth

  if_timed_row : (reading : Option ℕ) (r : Run) → here.now.reading ≡ reading → IsRead r → Row r (duties_if_timed here.team here.now reading r)
  if_timed_row None r is read = nothing r read
  if_timed_row (Some t) r is read = timed_row t r read is

  repeat_row : (r : Run) → IsRead r → Row r (repeat_decision here.team here.now r)
  repeat_row r read = go (last_decision r.process) refl
    where
      by_test : (last : Decision) → last_decision r.process ≡ Some last → (test : Bool) → Row r (cond test (sent_to_others here.team.n here.now (bodies.Decision last) r) r)
      by_test last is true = others_sent here.team.n (bodies.Decision last) r read is
      by_test last is false = nothing r read

      go : (o : Option Decision) → last_decision r.process ≡ o → Row r (elim o as (λ o. Run) [ None ↦ r | Some last ↦ cond (is_repeated here.team r.process last here.now.reading) (sent_to_others here.team.n here.now (bodies.Decision last) r) r ])
      go None is = nothing r read
      go (Some last) is = by_test last is (is_repeated here.team r.process last here.now.reading)

  ask_row : (r : Run) → IsRead r → Row r (ask_again here.now r)
  ask_row r read = by_asking here.now r (Row r) (nothing r read) (λ id source. one_sent source _ r read tt)

  beat_row : (r : Run) → IsRead r → Row r (give_beat here.team here.now r)
  beat_row r read = go (is_due here.team.pace here.now.h r.process.beat)
    where
      marked : Run
      marked = beat_marked here.now.h r

      again : Run
      again = ask_again here.now marked

      go : (due : Bool) → Row r (cond due (beat_given here.team here.now r) r)
      go true =
          let first : Row r marked = one r marked (still r marked refl refl refl refl refl (Stays refl refl) (SendsNone refl refl) (same_greatest r.process.timing.clock.greatest) refl refl refl refl) read in
          let second : Row marked again = ask_row marked read in
          let third : Row again (repeat_decision here.team here.now again) = repeat_row again second.read in
          after r marked (beat_given here.team here.now r) first
          (after marked again (beat_given here.team here.now r) second
          (after again (repeat_decision here.team here.now again) (beat_given here.team here.now r) third
          (others_sent here.team.n (bodies.Sync None) (repeat_decision here.team here.now again) third.read tt)))
      go false = nothing r read

  pub duties_row : (r : Run) → IsRead r → Row r (duties here.team here.now r)
  unfolding duties
  duties_row r read =
      let b : Run = duties_if_timed here.team here.now here.now.reading r in
      let first : Row r b = if_timed_row here.now.reading r refl read in
      after r b (duties here.team here.now r) first (beat_row b first.read)

  -- the rules

  decision_row : (head : Head) (d : Decision) (r : Run) → IsRead r → here.mail ≡ Some (record { head = head; body = bodies.Decision d }) → Row r (take_decision here.now d r).run
  decision_row head d r read mail = go (first_refusal (decision_tests r.process d)) refl
    where
      newer : first_refusal (decision_tests r.process d) ≡ None → is_older (or_none (view_decision r.process.belief)).group (or_none (view_decision r.process.belief)).turn d.group d.turn ≡ true
      newer e = not_false _ (none_present (decision_tests r.process d) e).0

      informed : first_refusal (decision_tests r.process d) ≡ None → is_informed r.process.belief ≡ true
      informed e = not_false _ (none_present (decision_tests r.process d) e).1.1.1.0

      seat : first_refusal (decision_tests r.process d) ≡ None → has_seat (member_of r.process.identity) d ≡ true
      seat e = not_false _ (ap (λ b. b && not (has_seat (member_of r.process.identity) d)) (sym (informed e)) ∙ (none_present (decision_tests r.process d) e).1.0)

      group : first_refusal (decision_tests r.process d) ≡ None → d.group ≡ r.process.vote.promised
      group e =
          let barred : cond (is_informed r.process.belief) (not (nat_eq d.group r.process.vote.promised)) (nat_lt d.group r.process.vote.promised) ≡ false = (none_present (decision_tests r.process d) e).1.1.0 in
          let same : nat_eq d.group r.process.vote.promised ≡ true = not_false _ (ap (λ b. cond b (not (nat_eq d.group r.process.vote.promised)) (nat_lt d.group r.process.vote.promised)) (sym (informed e)) ∙ barred) in
          equal_numbers d.group r.process.vote.promised same

      go : (o : Option Reason) → first_refusal (decision_tests r.process d) ≡ o → Row r (elim o as (λ o. Ruled) [ None ↦ enter_decision here.now d r | Some reason ↦ dropped reason r ]).run
      go None free = enter_row d r (Comes head mail (record { newer = newer free; seat = seat free; promised = group free })) read
      go (Some reason) e = nothing r read

  -- an update that is put, and what a filled hole sets off

  waits_row : (put : Putting) (k : Kept) (r : Run) → Waits here (at r) (at (update_kept put k r)) → IsRead r → Row r (update_kept put k r)
  waits_row put k r waits read = one r (update_kept put k r) (still r (update_kept put k r) refl refl refl refl refl waits (SendsNone refl refl) (same_greatest r.process.timing.clock.greatest) refl refl refl refl) read

  stored_row : (k : Kept) (r : Run) → Origin here (at r) k → putting (view_decision r.process.belief) k r.process.waiting ≡ Stored → IsRead r → Row r (update_kept Stored k r)
  stored_row k r origin is read = waits_row Stored k r (Puts k origin is refl refl) read

  use_row : (r : Run) → IsRead r → Row r (use_if_whole here.now r)
  use_row r read = by_using here.now r (Row r) (nothing r read)
      (one r (held_let_go r) (still r (held_let_go r) refl refl refl refl refl (Goes refl refl) (SendsNone refl refl) (same_greatest r.process.timing.clock.greatest) refl refl refl refl) read)
      (λ h hold is held purpose fresh. enter_row h.decision r (WasHeld hold (ap (option_map (λ (z : Held). z.decision)) is) held purpose (unpromised h.decision hold fresh)) read)
    where
      unpromised : (d : Decision) (hold : Hold) → is_stale hold d r.process ≡ false → hold.promised ≡ r.process.vote.promised
      unpromised d hold fresh = grind (arith, nat_tests)

  filled_row : (k : Kept) (r : Run) → Origin here (at r) k → putting (view_decision r.process.belief) k r.process.waiting ≡ Filled → IsRead r → Row r (use_if_whole here.now (update_kept Filled k r))
  filled_row k r origin is read =
      after r (update_kept Filled k r) (use_if_whole here.now (update_kept Filled k r)) (waits_row Filled k r (Fills k origin is refl refl) read) (use_row (update_kept Filled k r) read)

  put_row : (k : Kept) (r : Run) → Origin here (at r) k → IsRead r → Row r (update_put here.now (putting (view_decision r.process.belief) k r.process.waiting) k r)
  put_row k r origin read = by_kept here.now (putting (view_decision r.process.belief) k r.process.waiting) k r (Row r) (nothing r read) (λ e. stored_row k r origin e read) (λ e. filled_row k r origin e read)

  update_row : (k : Kept) (r : Run) → Origin here (at r) k → IsRead r → Row r (take_update here.now k r).run
  update_row k r origin read =
      let put = put_received (is_same_member (sender k.entry.id) (member_of r.process.identity)) (putting (view_decision r.process.belief) k r.process.waiting) in
      by_putting here.now (received_as r.process k) k r (λ z. Row r z.run) (λ e. filled_row k r origin (put.1 e) read) (λ e. stored_row k r origin (put.0 e) read) (λ reason other. nothing r read)

  question_row : (from : ℕ) (want : Want) (r : Run) → IsRead r → Row r (answer_ask here.now from want r).run
  question_row from want r read = by_answering here.now from want r (λ z. Row r z.run) (λ id k is. one_sent from _ r read (Again k (had_update id r.process k is) refl)) (nothing r read)

  -- a send

  sent_row : (k : Kept) (r : Run) → Proposes here (at r) (record { group = (or_none (last_decision r.process)).group; update = k }) → IsRead r → Row r (update_sent here.team here.now k r)
  sent_row k r may read =
      let sending : Sending = record { group = (or_none (last_decision r.process)).group; update = k } in
      let item = send_item (member_of r.process.identity) here.life here.step sending in
      let given : Run = seq_given k r in
      let newest : (at given).written.sends ≡ item ∷ (at r).written.sends = send_first (member_of r.process.identity) here.life here.step sending r.sendings before.sends in
      let known : WasSent (at given).written.sends k = (item, subst (In item) (sym newest) (inl refl), refl) in
      let put : Run = update_put here.now (putting (view_decision r.process.belief) k r.process.waiting) k given in
      let first : Row r given = one r given (still r given refl refl refl refl refl (Stays refl refl) (SendsOne sending may refl newest) (same_greatest r.process.timing.clock.greatest) refl refl refl refl) read in
      let second : Row given put = put_row k given (ByItself known) read in
      after r put (update_sent here.team here.now k r) (after r given put first second)
      (others_sent here.team.n (bodies.Update k) put second.read (First (still_sent_all here (at given) (at put) k second.changes known)))

  propose_row : (order : Order) (atom : Atom) (payload : List ℕ) (r : Run) → IsRead r → Row r (propose here.team here.now order atom payload r).run
  propose_row order atom payload r read = by_proposing here.team here.now order atom payload r (λ z. Row r z.run)
      (λ free. sent_row (own_update here.now order atom payload r.process) r (may_propose here before order atom payload r free read) read) (λ why e. nothing r read)

  answer_row : (from number : ℕ) (why : Why) (t : ℕ) (r : Run) → IsRead r → here.now.reading ≡ Some t → Row r (answer_election here.team here.now from number why t r).run
  answer_row from number why t r read reading = go (first_refusal (answer_tests here.team here.now from number why t r.process)) refl
    where
      given : Promise
      given = promise_by r.process number t

      able_by : (able : Bool) → is_willing here.team (cond able (Some (report_by r.process t)) None) (last_decision r.process) why t ≡ true → able ≡ true
      able_by true e = refl
      able_by false e = absurd (cc)

      may : first_refusal (answer_tests here.team here.now from number why t r.process) ≡ None → MayPromise given t r
      may e =
          let all = none_present (answer_tests here.team here.now from number why t r.process) e in
          record {
            reading = reading;
            able = able_by (is_informed r.process.belief || is_ready r.process) (not_false _ all.1.1.1.1.0);
            not_quarantined = all.0;
            in_window = not_false _ all.1.1.0;
            above = let low = all.1.1.1.0 in grind (arith, nat_tests);
            report = refl;
            decision = refl;
          }

      go : (o : Option Reason) → first_refusal (answer_tests here.team here.now from number why t r.process) ≡ o → Row r (elim o as (λ o. Ruled) [ None ↦ done (election_answered here.now from given r) | Some reason ↦ dropped reason r ]).run
      go None e = after r (promised given r) (election_answered here.now from given r) (promise_row given t r read (may e)) (one_sent from (bodies.Promise given.number given.report given.decision) (promised given r) read (newest given r))
      go (Some reason) e = nothing r read

  ballot_row : (head : Head) (given : Promise) (r : Run) → IsRead r → here.mail ≡ Some (record { head = head; body = bodies.Promise given.number given.report given.decision }) → Row r (take_promise given r).run
  ballot_row head given r read mail = go (wants given r.process.ballot) refl
    where
      go : (test : Bool) → wants given r.process.ballot ≡ test → Row r (cond test (done (promise_added given r)) (dropped reasons.Old r)).run
      go true e = one r (promise_added given r) (Change.Hold (record { process = refl; written = refl; reason = BallotReason.Adds given head mail e refl })) read
      go false e = nothing r read

  timely_row : (head : Head) (rule : ℕ → Run → Ruled) (r : Run) → IsRead r → ((t : ℕ) → here.now.reading ≡ Some t → Row r (rule t r).run) → Row r (if_timely here.team here.now head rule r).run
  timely_row head rule r read each = go (timely_reading (rate_of here.team here.now head) here.now.reading) refl
    where
      go : (o : Result ℕ Reason) → timely_reading (rate_of here.team here.now head) here.now.reading ≡ o → Row r (elim o as (λ o. Ruled) [ Err reason ↦ dropped reason r | Ok t ↦ rule t r ]).run
      go (Err reason) e = nothing r read
      go (Ok t) e = each t (timely_at (rate_of here.team here.now head) here.now.reading t e)

  kind_row : (head : Head) (body : Body) (r : Run) → IsRead r → here.mail ≡ Some (record { head = head; body = body }) → Row r (kind_rule here.team here.now head body r).run
  unfolding kind_rule
  kind_row head (bodies.Update kept) r read mail = update_row kept r (ByMail head mail) read
  kind_row head (bodies.Decision d) r read mail = timely_row head (λ t. take_decision here.now d) r read (λ t e. decision_row head d r read mail)
  kind_row head (bodies.NoDecision number group turn skip reports best) r read mail = nothing r read
  kind_row head (bodies.Election number why) r read mail = timely_row head (answer_election here.team here.now head.from number why) r read (λ t e. answer_row head.from number why t r read e)
  kind_row head (bodies.Promise number report d) r read mail = timely_row head (λ t. take_promise (record { number = number; report = report; decision = d })) r read (λ t e. ballot_row head (record { number = number; report = report; decision = d }) r read mail)
  kind_row head (bodies.Ask want) r read mail = question_row head.from want r read
  kind_row head (bodies.State group position total offset bytes) r read mail = nothing r read
  kind_row head (bodies.Sync ready) r read mail = nothing r read

  rule_row : (packet : Result (Option Datagram) Reason) (r : Run) → IsRead r → ((d : Datagram) → packet ≡ Ok (Some d) → here.mail ≡ Some d) → Row r (rule here.team here.now packet r).run
  rule_row (Err reason) r read mail = nothing r read
  rule_row (Ok None) r read mail = nothing r read
  rule_row (Ok (Some d)) r read mail = kind_row d.head d.body r read (mail d refl)

  -- the rule of an event
  pub own_row : (e : Event) (packet : Result (Option Datagram) Reason) (r : Run) → IsRead r → ((d : Datagram) → packet ≡ Ok (Some d) → here.mail ≡ Some d) → Row r (event_rule here.team here.now e packet r).run
  own_row e packet r read mail = by_event here.team here.now e packet r (λ z. Row r z.run) (rule_row packet r read mail) (λ order atom payload. propose_row order atom payload r read)
