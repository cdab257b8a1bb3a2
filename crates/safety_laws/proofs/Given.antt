-- What is written down stands first, and what the tests that a part of a step passes tell.
use Rattle.std.proofs.Common.{◌≡◌, refl, sym, ap, subst, ◌∙◌, inr, ℕ, ◌-◌, Bool, true, false, cond, not, ◌||◌, is_some, List, [], ◌∷◌, ◌++◌, length, Option, Some, None, Result, Ok, Err, arith}
use Rattle.std.specs.Prelude.{unwrap_or}
use Rattle.std.specs.List.{AllByRecursion}
use Rattle.std.proofs.lemmas.Bool.Decides.{nat_tests}
use Rattle.tw_num.specs.Rate.{Rate, Timely, Late, Unrated}
use Rattle.tw_machine.specs.Types.{Ballot, UpdateId, Decision, Kept, Seat, Order, Atom, Member, Step}
use Rattle.tw_types.specs.Refusals.{Refusal, first_refusal}
use Rattle.tw_types.specs.Votes.{Promise, Making}
use Rattle.tw_types.specs.Reports.{is_by_informed, kind_of}
use Rattle.tw_types.specs.Beliefs.{Belief, Informed, Blank, Log, is_informed, last_of}
use Rattle.tw_types.specs.Ballots.{is_over}
use Rattle.tw_types.specs.Decisions.{or_none}
use Rattle.tw_types.specs.Waiting.{payloads_of, Putting, Filled, Stored, Known, Stranger, OutOfRange, known_if_own}
use Rattle.tw_types.specs.Flag.{is_up}
use Rattle.tw_types.specs.Logs.{kept_from, kept_entries}
use Rattle.tw_types.specs.Sends.{Sending, SendRefusal, first_send_refusal, awaited_seq, update_of}
use Rattle.tw_types.specs.Updates.{is_named}
use Rattle.tw_types.proofs.Up.{Backing, backing}
use Rattle.tw_types.specs.Groups.{NoGroup, group_made, first_decision, objections, first_objection}
use Rattle.tw_types.specs.Process.{Process}
use Rattle.tw_machine.specs.History.{Promised, SentUpdate, promise_item, make_item, send_item, promises_on, makes_on, sends_on}
use Rattle.tw_machine.specs.History as items
use Rattle.tw_machine.specs.Run.{Run}
use Rattle.tw_machine.specs.Standing.{member_of, last_decision, report_by}
use Rattle.tw_machine.specs.Control.{timely_reading}
use Rattle.tw_machine.specs.Updating.{held_update}
use Rattle.tw_machine.specs.Proposing.{own_seat, own_seq, refusals, own_update}
use Rattle.tw_machine.specs.Electing.{promised, ballot_dropped, has_spent_ballot, drop_ballot}
use Rattle.tw_machine.specs.Deciding.{has_turn, turn_taken, take_turn}
use Rattle.safety_laws.specs.Effects.{Written, State, Here, state_of, NotBelow, WasSent, Proposes, Numbers, SendsNone, SendsOne, Change, Changes}
use Rattle.tw_types.specs.Items.{In}
use Rattle.safety_laws.proofs.Lists.{in_drop, in_either, found_in}

-- one item more, at the end of what a step gave, stands first
pub promise_first : (life : ℕ) (s : Step) (given : Promise) (ps : List Promise) (older : List Promised) → promises_on life s (ps ++ given ∷ []) older ≡ promise_item life s given ∷ promises_on life s ps older
promise_first life s given [] older = refl
promise_first life s given (p ∷ ps) older = promise_first life s given ps (promise_item life s p ∷ older)

pub make_first : (member : Member) (life : ℕ) (s : Step) (making : Making) (ms : List Making) (older : List items.Make) → makes_on member life s (ms ++ making ∷ []) older ≡ make_item member life s (makes_on member life s ms older) making ∷ makes_on member life s ms older
make_first member life s making [] older = refl
make_first member life s making (m ∷ ms) older = make_first member life s making ms (make_item member life s older m ∷ older)

pub send_first : (member : Member) (life : ℕ) (s : Step) (sending : Sending) (zs : List Sending) (older : List SentUpdate) → sends_on member life s (zs ++ sending ∷ []) older ≡ send_item member life s sending ∷ sends_on member life s zs older
send_first member life s sending [] older = refl
send_first member life s sending (z ∷ zs) older = send_first member life s sending zs (send_item member life s z ∷ older)

pub same_greatest : (o : Option ℕ) → NotBelow o o
same_greatest None = tt
same_greatest (Some g) = omega arith

-- tests that all pass
pub none_present : (rs : List Refusal) → first_refusal rs ≡ None → AllByRecursion (λ (r : Refusal). r.present ≡ false) rs
none_present [] none = tt
none_present (r ∷ rs) none = go r.present refl none (none_present rs)
  where
    go : (b : Bool) → r.present ≡ b → cond b (Some r.reason) (first_refusal rs) ≡ None → (first_refusal rs ≡ None → AllByRecursion (λ (r : Refusal). r.present ≡ false) rs) → (r.present ≡ false) × AllByRecursion (λ (r : Refusal). r.present ≡ false) rs
    go true e f rest = absurd (cc)
    go false e f rest = (e, rest f)

none_refused : (rs : List SendRefusal) → first_send_refusal rs ≡ None → AllByRecursion (λ (r : SendRefusal). r.present ≡ false) rs
none_refused [] none = tt
none_refused (r ∷ rs) none = go r.present refl none (none_refused rs)
  where
    go : (b : Bool) → r.present ≡ b → cond b (Some r.why) (first_send_refusal rs) ≡ None → (first_send_refusal rs ≡ None → AllByRecursion (λ (r : SendRefusal). r.present ≡ false) rs) → (r.present ≡ false) × AllByRecursion (λ (r : SendRefusal). r.present ≡ false) rs
    go true e f rest = absurd (cc)
    go false e f rest = (e, rest f)

both_true : (a b : Bool) → (not a || not b) ≡ false → (a ≡ true) × (b ≡ true)
both_true true true e = (refl, refl)
both_true true false e = absurd (cc)
both_true false b e = absurd (cc)

pub not_false : (b : Bool) → not b ≡ false → b ≡ true
not_false true e = refl
not_false false e = absurd (cc)

-- a timely datagram is used at the reading
pub timely_at : (rate : Rate) (reading : Option ℕ) (t : ℕ) → timely_reading rate reading ≡ Ok t → reading ≡ Some t
timely_at Unrated reading t e = absurd (cc)
timely_at (Late bound) reading t e = absurd (cc)
timely_at (Timely bound) None t e = absurd (cc)
timely_at (Timely bound) (Some u) t e = cc

-- an update that was sent stays among those that were
still_sent : (here : Here) (x y : State) (k : Kept) → Change here x y → WasSent x.written.sends k → WasSent y.written.sends k
still_sent here x y k (Change.Keep c) sent = go c.numbers
  where
    go : Numbers here x y → WasSent y.written.sends k
    go (SendsNone next same) = subst (λ zs. WasSent zs k) (sym same) sent
    go (SendsOne sending may next newest) = subst (λ zs. WasSent zs k) (sym newest) (sent.0, inr sent.1, sent.2)
still_sent here x y k (Change.Give c) sent = rw c.written sent
still_sent here x y k (Change.Hold c) sent = rw c.written sent
still_sent here x y k (Change.Take c) sent = rw c.written sent
still_sent here x y k (Change.Make c) sent = rw c.written sent
still_sent here x y k (Change.Deliver c) sent = rw c.written sent
still_sent here x y k (Change.Raise c) sent = rw c.written sent

pub still_sent_all : (here : Here) (x y : State) (k : Kept) → Changes here x y → WasSent x.written.sends k → WasSent y.written.sends k
still_sent_all here x y k Changes.Done sent = sent
still_sent_all here x y k (Changes.Then {y = m} rest last) sent = still_sent here m y k last (still_sent_all here x m k rest sent)

-- one that is received is put as any other, but for the process's own
pub put_received : (own : Bool) (p : Putting) → (known_if_own own p ≡ Stored → p ≡ Stored) × (known_if_own own p ≡ Filled → p ≡ Filled)
put_received own Filled = (λ e. e, λ e. e)
put_received true Stored = (λ e. absurd (cc), λ e. absurd (cc))
put_received false Stored = (λ e. e, λ e. e)
put_received own Known = (λ e. e, λ e. e)
put_received own Stranger = (λ e. e, λ e. e)
put_received true OutOfRange = (λ e. absurd (cc), λ e. absurd (cc))
put_received false OutOfRange = (λ e. e, λ e. e)

-- what is asked for is in the list, or waits
pub had_update : (id : UpdateId) (p : Process) (k : Kept) → held_update id p ≡ Some k → In k (p.log.entries ++ payloads_of p.waiting)
had_update id p k is = in_either k (kept_entries p.log) p.log.entries (payloads_of p.waiting) (λ i. in_drop (kept_from p.log - p.log.base) p.log.entries k i) (found_in (is_named id) (kept_entries p.log ++ payloads_of p.waiting) k is).0

-- who reports as an informed process is one
pub informed_by : (r : Run) → is_by_informed (report_by r.process 0) ≡ true → is_informed r.process.belief ≡ true
informed_by r e = go r.process.belief e
  where
    go : (b : Belief) → is_by_informed (record (report_by r.process 0) { kind = kind_of b }) ≡ true → is_informed b ≡ true
    go (Informed last) e = refl
    go (Blank followed) e = absurd (cc)

-- a ballot that is held is of the promised number
abbrev pub IsPromised : Run → Type 0
IsPromised r = (ballot : Ballot) → r.process.ballot ≡ Some ballot → r.process.vote.promised ≡ ballot.number

-- ---- in a step

module _ (here : Here) where
  pub drop_leaves_promised : (t : ℕ) (r : Run) → IsPromised (drop_ballot here.team t r)
  drop_leaves_promised t r = go (has_spent_ballot here.team t r.process) refl
    where
      left : (ballot : Ballot) (o : Option Ballot) → o ≡ Some ballot → (elim o as (λ o. Bool) [ None ↦ false | Some ballot ↦ is_over here.team r.process.vote.promised (last_decision r.process) t ballot ]) ≡ false → r.process.vote.promised ≡ ballot.number
      left ballot None is e = absurd (cc)
      left ballot (Some b) is e = let same : b ≡ ballot = cc in subst (λ (x : Ballot). r.process.vote.promised ≡ x.number) same (grind (arith, nat_tests))

      go : (test : Bool) → has_spent_ballot here.team t r.process ≡ test → IsPromised (cond test (ballot_dropped r) r)
      go true e ballot is = absurd (cc)
      go false e ballot is = left ballot r.process.ballot is e

  pub turn_leaves_promised : (t : ℕ) (r : Run) → IsPromised r → IsPromised (take_turn here.team here.now t r)
  turn_leaves_promised t r promised = go (last_decision r.process)
    where
      by_test : (last : Decision) (test : Bool) → IsPromised (cond test (turn_taken here.team here.now last t r) r)
      by_test last true = promised
      by_test last false = promised

      go : (o : Option Decision) → IsPromised (elim o as (λ o. Run) [ None ↦ r | Some last ↦ cond (has_turn here.team t r.process) (turn_taken here.team here.now last t r) r ])
      go None = promised
      go (Some last) = by_test last (has_turn here.team t r.process)

  -- a group that is made is of its ballot's number, by its maker at that moment
  pub record IsGroup (ballot : Ballot) (t : ℕ) (d : Decision) : Type 0 where
    pub made : d.made ≡ t
    pub group : d.group ≡ ballot.number

  pub group_is : (ballot : Ballot) (log : Log) (payloads : List Kept) (me : Member) (t : ℕ) (d : Decision) → group_made here.team ballot log payloads me t ≡ Ok d → IsGroup ballot t d
  group_is ballot log payloads me t d e = go (first_objection (objections here.team ballot log payloads me)) e
    where
      go : (o : Option NoGroup) → (elim o as (λ o. Result Decision NoGroup) [ None ↦ Ok (first_decision here.team ballot me t) | Some why ↦ Err why ]) ≡ Ok d → IsGroup ballot t d
      go None e = let same : first_decision here.team ballot me t ≡ d = cc in subst (IsGroup ballot t) same (record { made = refl; group = refl })
      go (Some why) e = absurd (cc)

  -- a send that isn't refused meets what is asked of one
  pub may_propose : (before : Written) (order : Order) (atom : Atom) (payload : List ℕ) (r : Run) → first_send_refusal (refusals here.team here.now (length payload) r.process) ≡ None → ((t : ℕ) → here.now.reading ≡ Some t → r.process.timing.clock.greatest ≡ Some t)
      → Proposes here (state_of here before r) (record { group = (or_none (last_decision r.process)).group; update = own_update here.now order atom payload r.process })
  may_propose before order atom payload r free read = go (own_seat r.process) refl
    where
      p : Process
      p = r.process

      all : AllByRecursion (λ (z : SendRefusal). z.present ≡ false) (refusals here.team here.now (length payload) p)
      all = none_refused (refusals here.team here.now (length payload) p) free

      up : is_up here.team p.vote p.belief here.now.reading ≡ true
      up = (both_true (is_up here.team p.vote p.belief here.now.reading) (is_some (own_seat p)) all.1.0).0

      has : is_some (own_seat p) ≡ true
      has = (both_true (is_up here.team p.vote p.belief here.now.reading) (is_some (own_seat p)) all.1.0).1

      by : Backing here.team p.belief here.now.reading
      by = backing here.team p.vote p.belief here.now.reading up

      go : (o : Option Seat) → own_seat p ≡ o → Proposes here (state_of here before r) (record { group = (or_none (last_decision p)).group; update = own_update here.now order atom payload p })
      go None none = absurd (let no : false ≡ true = ap is_some (sym none) ∙ has in cc)
      go (Some s) is =
          let awaited : awaited_seq (own_seat p) ≡ s.next = ap awaited_seq is in
          let last_is : last_decision p ≡ Some by.last = ap last_of by.is_last in
          record {
            t = by.now;
            reading = by.is_now;
            read = read by.now by.is_now;
            up = subst (λ o. is_up here.team p.vote p.belief o ≡ true) by.is_now up;
            last = by.last;
            last_is = last_is;
            seat = s;
            seat_is = is;
            near = let far = all.1.1.0 in grind (arith, nat_tests);
            order = order;
            atom = atom;
            payload = payload;
            group = ap (λ o. (or_none o).group) last_is;
            update = ap (λ o. update_of (member_of p.identity) (own_seq p) (unwrap_or o 0) order atom payload) by.is_now;
          }
