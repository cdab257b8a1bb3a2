-- What a part of a step may do to its process and to what was written down of the schedule. The laws on groups are proved of these
-- effects alone; each part of a step is a row of them. An effect says what the rule says, and not who happens to reach it.
use Rattle.std.specs.Prelude.{ℕ, ◌+◌, ◌≤◌, ◌<◌, ◌≡◌, ◌||◌, true, false, List, ◌∷◌, ◌++◌, map, Option, Some, None, Ok}
use Rattle.std.specs.List.{AllByRecursion}
use Rattle.std.specs.Option.{option_map}
use Rattle.tw_num.specs.declared.moment.Moment.{Moment}
use Rattle.tw_machine.specs.Types.{Team, Ballot, Head, Body, Datagram, Order, Atom, Kept, Seat, Decision, Step}
use Rattle.tw_types.specs.declared.datagram.Body.TheVariants as bodies
use Rattle.tw_types.specs.Votes.{Promise, Making}
use Rattle.tw_types.specs.Beliefs.{is_informed, view_decision, log_length}
use Rattle.tw_types.specs.Ballots.{begun, joined, wants, is_complete}
use Rattle.tw_types.specs.Decisions.{or_none, is_older, has_seat}
use Rattle.tw_types.specs.Deliveries.{log_delivered, waiting_delivered}
use Rattle.tw_types.specs.Flag.{is_up}
use Rattle.tw_types.specs.Groups.{group_made, group_making}
use Rattle.tw_types.specs.Promises.{is_quarantined, is_in_window}
use Rattle.tw_types.specs.Slots.{owner}
use Rattle.tw_types.specs.Turns.{is_turn}
use Rattle.tw_types.specs.Refusals.{first_refusal}
use Rattle.tw_types.specs.Waiting.{Held, payloads_of, Filled, Stored, putting, put_as, released, holding}
use Rattle.tw_types.specs.Sends.{Sending, update_of, as_sent}
use Rattle.tw_types.specs.Updates.{pending_room}
use Rattle.tw_types.specs.Logs.{list_tests, first_missing}
use Rattle.tw_types.specs.Process.{Process, ToTake, ToGroup}
use Rattle.tw_types.specs.Process as records
use Rattle.tw_machine.specs.Dispatches.{Dispatch, sent_at}
use Rattle.tw_machine.specs.History.{Promised, SentUpdate, Line, Up, promise_item, make_item, send_item, up_at, promises_on, makes_on, sends_on, lines_on, makes_by, sends_by, lines_by, up_by, history}
use Rattle.tw_machine.specs.History as items
use Rattle.tw_machine.specs.Run.{Run}
use Rattle.tw_machine.specs.World.{Deed, world}
use Rattle.tw_machine.specs.Standing.{member_of, last_decision, is_ready, report_by}
use Rattle.tw_machine.specs.Entering.{entered}
use Rattle.tw_machine.specs.Delivering.{all_told}
use Rattle.tw_machine.specs.Deciding.{supporting, next_made}
use Rattle.tw_machine.specs.Proposing.{own_seat, own_seq}
use Rattle.tw_types.specs.Items.{In}

-- what was written down of a schedule: its history, the newest item first, and what was sent, in its order
pub record Written : Type 0 where
  pub promises : List Promised
  pub makes : List items.Make
  pub sends : List SentUpdate
  pub lines : List Line
  pub ups : List Up
  pub sent : List Dispatch

-- what was written down of a schedule after all its steps
abbrev pub written : Team → List Step → Written
written team past = record {
  promises = (history team past).promises;
  makes = (history team past).makes;
  sends = (history team past).sends;
  lines = (history team past).lines;
  ups = (history team past).ups;
  sent = (world team past).sent;
}

-- the process of a step in the middle of it, and what is written down so far
pub record State : Type 0 where
  pub process : Process
  pub written : Written

-- the step: its team, itself, the life of its process, the number of its row, what the process's clock tells, and the datagram that it receives, if any
pub record Here : Type 0 where
  pub team : Team
  pub step : Step
  pub life : ℕ
  pub row : ℕ
  pub now : Moment
  pub mail : Option Datagram

-- where a run of the step's event stands, after what was written down before the step
abbrev pub state_of : Here → Written → Run → State
state_of here before r = record {
  process = r.process;
  written = record {
    promises = promises_on here.life here.step r.promises before.promises;
    makes = makes_on (member_of r.process.identity) here.life here.step r.makings before.makes;
    sends = sends_on (member_of r.process.identity) here.life here.step r.sendings before.sends;
    lines = lines_on here.row (member_of r.process.identity) here.life here.step r.delivered before.lines;
    ups = before.ups;
    sent = before.sent ++ map (sent_at here.step.t) r.out.sends;
  };
}

-- what is written down after a step that comes to this
abbrev pub written_after : Team → (row : ℕ) → ℕ → Step → Deed → Written → Written
written_after team row life s d before = record {
  promises = promises_on life s d.promises before.promises;
  makes = makes_by life s d.process d.makings before.makes;
  sends = sends_by life s d.process d.sendings before.sends;
  lines = lines_by row life s d.process d.delivered before.lines;
  ups = up_by team life s d.process before.ups;
  sent = before.sent ++ map (sent_at s.t) d.out.sends;
}

-- where a run stands once its process's flag was looked at
abbrev pub flagged : Here → Written → Run → State
flagged here before r = record {
  process = r.process;
  written = record (state_of here before r).written { ups = up_by here.team here.life here.step (Some r.process) before.ups };
}

-- a greatest reading that doesn't fall; there may be none before
abbrev pub NotBelow : Option ℕ → Option ℕ → Type 0
NotBelow None after = Unit {0}
NotBelow (Some before) None = ⊥
NotBelow (Some before) (Some after) = before ≤ after

-- ---- updates

-- an update was sent, by its member, for the first time
abbrev pub WasSent : List SentUpdate → Kept → Type 0
WasSent sends k = (z : SentUpdate) × In z sends × (z.sending.update ≡ k)

-- whence a process has an update: it comes, or the process sends it
pub data Origin (here : Here) (x : State) (k : Kept) : Type 0 where
  ByMail : (head : Head) → here.mail ≡ Some (record { head = head; body = bodies.Update k }) → Origin here x k
  ByItself : WasSent x.written.sends k → Origin here x k

-- what a process tells as an update: one that is in its list or waits, as it was sent, or its own
pub data TellsUpdate (p : Process) (sends : List SentUpdate) (k : Kept) : Type 0 where
  Again : (had : Kept) → In had (p.log.entries ++ payloads_of p.waiting) → k ≡ as_sent had → TellsUpdate p sends k
  First : WasSent sends k → TellsUpdate p sends k

-- A datagram's body says what its sender has: its newest promise, its last decision, or an update; the others say nothing of these.
abbrev pub Says : Here → State → Body → Type 0
Says here x (bodies.Promise number report decision) =
    (older : List Promised) × (x.written.promises ≡ promise_item here.life here.step (record { number = number; report = report; decision = decision }) ∷ older)
Says here x (bodies.Decision d) = last_decision x.process ≡ Some d
Says here x (bodies.Update k) = TellsUpdate x.process x.written.sends k
Says here x (bodies.NoDecision number group turn skip reports best) = ⊥
Says here x (bodies.Election number why) = Unit {0}
Says here x (bodies.Ask want) = Unit {0}
Says here x (bodies.State group position total offset bytes) = ⊥
Says here x (bodies.Sync ready) = Unit {0}

-- a datagram of the process, in its present life
pub record IsToldBy (here : Here) (x : State) (d : ℕ × Datagram) : Type 0 where
  pub from : d.1.head.from ≡ x.process.identity.who
  pub incarnation : d.1.head.incarnation ≡ x.process.identity.incarnation
  pub says : Says here x d.1.body

-- ---- what waits

-- the decision that a process holds, if any
abbrev pub held_decision : Process → Option Decision
held_decision p = option_map (λ (h : Held). h.decision) p.waiting.held

-- What a process asks of a decision that it takes: it is above the one that it took or follows, names it, and is of the group that it
-- promised.
pub record MayTake (p : Process) (d : Decision) : Type 0 where
  pub newer : is_older (or_none (view_decision p.belief)).group (or_none (view_decision p.belief)).turn d.group d.turn ≡ true
  pub seat : has_seat (member_of p.identity) d ≡ true
  pub promised : d.group ≡ p.vote.promised

-- Whence a process has a decision that it takes: it comes, and meets what is asked; or it was held for that, and nothing was promised since.
pub data Source (here : Here) (x : State) (d : Decision) : Type 0 where
  Comes : (head : Head) → here.mail ≡ Some (record { head = head; body = bodies.Decision d }) → MayTake x.process d → Source here x d
  WasHeld : (hold : records.Hold) → held_decision x.process ≡ Some d → x.process.hold ≡ Some hold → hold.purpose ≡ ToTake → hold.promised ≡ x.process.vote.promised → Source here x d

-- What becomes of what waits: nothing; an update becomes pending, or is kept with the held decision; that one goes, or another one is held,
-- for this or that.
pub data Waits (here : Here) (x y : State) : Type 0 where
  Stays : y.process.waiting ≡ x.process.waiting → y.process.hold ≡ x.process.hold → Waits here x y
  Puts : (k : Kept) → Origin here x k → putting (view_decision x.process.belief) k x.process.waiting ≡ Stored → y.process.waiting ≡ put_as Stored k x.process.waiting → y.process.hold ≡ x.process.hold → Waits here x y
  Fills : (k : Kept) → Origin here x k → putting (view_decision x.process.belief) k x.process.waiting ≡ Filled → y.process.waiting ≡ put_as Filled k x.process.waiting → y.process.hold ≡ x.process.hold → Waits here x y
  Goes : y.process.waiting ≡ released x.process.waiting → y.process.hold ≡ None → Waits here x y
  ForTaking : (d : Decision) → (source : ℕ) → Source here x d → y.process.waiting ≡ holding d (log_length x.process.log) source x.process.waiting
      → y.process.hold ≡ Some (record { purpose = ToTake; promised = x.process.vote.promised }) → Waits here x y
  ForGroup : (ballot : Ballot) → (best : Decision) → (source : ℕ) → x.process.ballot ≡ Some ballot → ballot.best ≡ Some best → ballot.number ≡ x.process.vote.promised
      → y.process.waiting ≡ holding best (log_length x.process.log) source x.process.waiting
      → y.process.hold ≡ Some (record { purpose = ToGroup; promised = x.process.vote.promised }) → Waits here x y

-- ---- own sends

-- A process that is up, and has a seat in its last decision, sends an update of its own: its next number, or the one that its seat awaits
-- where that is greater, and fewer than eight ahead of that.
pub record Proposes (here : Here) (x : State) (sending : Sending) : Type 0 where
  pub t : ℕ
  pub reading : here.now.reading ≡ Some t
  pub read : x.process.timing.clock.greatest ≡ Some t
  pub up : is_up here.team x.process.vote x.process.belief (Some t) ≡ true
  pub last : Decision
  pub last_is : last_decision x.process ≡ Some last
  pub seat : Seat
  pub seat_is : own_seat x.process ≡ Some seat
  pub near : own_seq x.process < seat.next + pending_room
  pub order : Order
  pub atom : Atom
  pub payload : List ℕ
  pub group : sending.group ≡ last.group
  pub update : sending.update ≡ update_of (member_of x.process.identity) (own_seq x.process) t order atom payload

-- no update is sent for the first time, or one is, and its number is given
pub data Numbers (here : Here) (x y : State) : Type 0 where
  SendsNone : y.process.next_seq ≡ x.process.next_seq → y.written.sends ≡ x.written.sends → Numbers here x y
  SendsOne : (sending : Sending) → Proposes here x sending → y.process.next_seq ≡ sending.update.entry.id.seq + 1
      → y.written.sends ≡ send_item (member_of x.process.identity) here.life here.step sending ∷ x.written.sends → Numbers here x y

-- Nothing of a vote, a ballot, a belief or a list changes, and nothing is promised or made. The clock may have been read, datagrams and an
-- update of its own sent, and what waits at the process may be another.
pub record Keeps (here : Here) (x y : State) : Type 0 where
  pub identity : y.process.identity ≡ x.process.identity
  pub vote : y.process.vote ≡ x.process.vote
  pub ballot : y.process.ballot ≡ x.process.ballot
  pub belief : y.process.belief ≡ x.process.belief
  pub log : y.process.log ≡ x.process.log
  pub greatest : NotBelow x.process.timing.clock.greatest y.process.timing.clock.greatest
  pub waits : Waits here x y
  pub numbers : Numbers here x y
  pub promises : y.written.promises ≡ x.written.promises
  pub makes : y.written.makes ≡ x.written.makes
  pub lines : y.written.lines ≡ x.written.lines
  pub ups : y.written.ups ≡ x.written.ups
  pub new : List (ℕ × Datagram)
  pub sent : y.written.sent ≡ x.written.sent ++ map (sent_at here.step.t) new
  pub told : AllByRecursion (IsToldBy here y) new

-- A promise at a reading, of a process that may promise, which passes all that is asked of a promise. It tells what the process reports of itself.
pub record Promises (here : Here) (x y : State) : Type 0 where
  pub given : Promise
  pub t : ℕ
  pub reading : here.now.reading ≡ Some t
  pub read : x.process.timing.clock.greatest ≡ Some t
  pub able : (is_informed x.process.belief || is_ready x.process) ≡ true
  pub not_quarantined : is_quarantined here.team x.process.identity here.now.h ≡ false
  pub in_window : is_in_window here.team given.number t ≡ true
  pub above : x.process.vote.promised < given.number
  pub report : given.report ≡ report_by x.process t
  pub decision : given.decision ≡ last_decision x.process
  pub process : y.process ≡ record (x.process) { vote = record (x.process.vote) { promised = given.number } }
  pub written : y.written ≡ record (x.written) { promises = promise_item here.life here.step given ∷ x.written.promises }

-- why a ballot changes: it begins directly behind its owner's promise, a received promise is added, or it is dropped
pub data BallotReason (here : Here) (x y : State) : Type 0 where
  Begins : (given : Promise) → (older : List Promised) → x.written.promises ≡ promise_item here.life here.step given ∷ older
      → x.process.vote.promised ≡ given.number → owner here.team.n given.number ≡ x.process.identity.who → is_informed x.process.belief ≡ true
      → given.report.member ≡ member_of x.process.identity → given.decision ≡ last_decision x.process
      → y.process.ballot ≡ Some (begun given) → BallotReason here x y
  Adds : (given : Promise) → (head : Head) → here.mail ≡ Some (record { head = head; body = bodies.Promise given.number given.report given.decision })
      → wants given x.process.ballot ≡ true → y.process.ballot ≡ option_map (joined given) x.process.ballot → BallotReason here x y
  Drops : y.process.ballot ≡ None → BallotReason here x y

pub record Ballots (here : Here) (x y : State) : Type 0 where
  pub process : y.process ≡ record (x.process) { ballot = y.process.ballot }
  pub written : y.written ≡ x.written
  pub reason : BallotReason here x y

-- A decision is taken that was received, or held to be taken; and its list goes on that of the process, where no payload is missing for
-- that.
pub record Takes (here : Here) (x y : State) : Type 0 where
  pub taken_decision : Decision
  pub source : Source here x taken_decision
  pub fits : first_refusal (list_tests x.process.log taken_decision) ≡ None
  pub whole : first_missing x.process.log (payloads_of x.process.waiting) taken_decision ≡ None
  pub process : y.process ≡ entered taken_decision x.process
  pub written : y.written ≡ x.written

-- why a decision is made: it is the process's turn, which adds what it can to the last one; or its ballot is complete, which the group
-- takes away
pub data MakeReason (here : Here) (making : Making) (t : ℕ) (x y : State) : Type 0 where
  Next : (last : Decision) → last_decision x.process ≡ Some last → is_turn here.team (member_of x.process.identity) (Some last) x.process.vote.promised t ≡ true
      → making ≡ next_made here.team t last x.process → y.process.ballot ≡ x.process.ballot → MakeReason here making t x y
  Group : (ballot : Ballot) → x.process.ballot ≡ Some ballot → is_complete here.team t ballot ≡ true
      → group_made here.team ballot x.process.log (payloads_of x.process.waiting) (member_of x.process.identity) t ≡ Ok making.decision → making ≡ group_making ballot making.decision
      → y.process.ballot ≡ None → MakeReason here making t x y

-- A decision of the promised group is made at a reading, supported and taken by its maker.
pub record Makes (here : Here) (x y : State) : Type 0 where
  pub making : Making
  pub t : ℕ
  pub reading : here.now.reading ≡ Some t
  pub read : x.process.timing.clock.greatest ≡ Some t
  pub made : making.decision.made ≡ t
  pub group : making.decision.group ≡ x.process.vote.promised
  pub reason : MakeReason here making t x y
  pub process : y.process ≡ record (entered making.decision (supporting t x.process)) { ballot = y.process.ballot }
  pub written : y.written ≡ record (x.written) { makes = make_item (member_of x.process.identity) here.life here.step x.written.makes making ∷ x.written.makes }

-- A process is up at its reading, after its step.
pub record Raises (here : Here) (x y : State) : Type 0 where
  pub t : ℕ
  pub last : Decision
  pub reading : here.now.reading ≡ Some t
  pub read : x.process.timing.clock.greatest ≡ Some t
  pub last_is : last_decision x.process ≡ Some last
  pub up : is_up here.team x.process.vote x.process.belief (Some t) ≡ true
  pub process : y.process ≡ x.process
  pub written : y.written ≡ record (x.written) { ups = up_at here.life here.step x.process t last ∷ x.written.ups }

-- A process that is up at its reading delivers what it may by its last decision: it passes positions of its list, and marks what it
-- delivers early, in its list and of what is pending.
pub record Delivers (here : Here) (x y : State) : Type 0 where
  pub t : ℕ
  pub last : Decision
  pub reading : here.now.reading ≡ Some t
  pub read : x.process.timing.clock.greatest ≡ Some t
  pub last_is : last_decision x.process ≡ Some last
  pub up : is_up here.team x.process.vote x.process.belief (Some t) ≡ true
  pub process : y.process ≡ record (x.process) { log = log_delivered here.team last x.process.log; waiting = waiting_delivered x.process.waiting }
  pub written : y.written ≡ record (x.written) { lines = lines_on here.row (member_of x.process.identity) here.life here.step (all_told here.team last x.process.log x.process.waiting.pending) x.written.lines }

-- one effect
pub data Change (here : Here) (x y : State) : Type 0 where
  Keep : Keeps here x y → Change here x y
  Give : Promises here x y → Change here x y
  Hold : Ballots here x y → Change here x y
  Take : Takes here x y → Change here x y
  Make : Makes here x y → Change here x y
  Deliver : Delivers here x y → Change here x y
  Raise : Raises here x y → Change here x y

-- a row of them
pub data Changes (here : Here) (x : State) : State → Type 0 where
  Done : Changes here x x
  Then : {y z : State} → Changes here x y → Change here y z → Changes here x z
