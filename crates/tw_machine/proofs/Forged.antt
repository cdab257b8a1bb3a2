-- What becomes of datagrams that no process of the team sends, computed.
use Rattle.std.proofs.Common.{◌≡◌, refl, ℕ, ◌-◌, ◌^◌, ◌==◌, if◌then◌else◌, false, List, [], ◌∷◌, Option, Some, None, Ok, Err}
use Rattle.tw_machine.specs.Types.{Kind, UpdateId, Entry, Seat, Report, Decision, Ballot, Body, Datagram, Echo, RowAnswer, Reason}
use Rattle.tw_types.specs.declared.message.Kind.TheVariants as kinds
use Rattle.tw_types.specs.declared.message.Order.TheVariants as orders
use Rattle.tw_types.specs.declared.message.Atom.TheVariants as atoms
use Rattle.tw_types.specs.declared.datagram.Body.TheVariants as bodies
use Rattle.tw_types.specs.declared.datagram.Want.TheVariants as wants
use Rattle.tw_types.specs.declared.datagram.Why.TheVariants as whys
use Rattle.tw_types.specs.declared.datagram.WireFault.TheVariants as faults
use Rattle.tw_types.specs.declared.row.RowAnswer.TheVariants.{Done, Dropped}
use Rattle.tw_types.specs.declared.answer.Reason.TheVariants as reasons
use Rattle.tw_types.specs.declared.outputs.Mode.TheVariants.{First}
use Rattle.tw_types.specs.Examples.{team_a}
use Rattle.tw_types.specs.Beliefs.{Informed}
use Rattle.tw_types.specs.Deliveries.{passes, run_passed, earlies, earlies_marked}
use Rattle.tw_types.specs.Flag.{is_up}
use Rattle.tw_types.specs.Outputs.{nothing}
use Rattle.tw_types.specs.Process.{Process, ToTake, started}
use Rattle.tw_machine.specs.Event.{Packet, Tick, Outcome}
use Rattle.tw_machine.specs.Rules.{kind_rule}
use Rattle.tw_machine.specs.Duties.{timed_duties, duties}
use Rattle.tw_machine.specs.Step.{step}

abbrev seat : ℕ → ℕ → Seat
seat who incarnation = record { member = record { who = who; incarnation = incarnation }; next = 1; support = None }

abbrev supported : ℕ → ℕ → Seat
supported who at = record (seat who 699990) { support = Some (record { ack = 0; at = at }) }

-- a decision of three members that process 1 made at 702000; the seat of process 0 is that of this incarnation
abbrev decision : (group turn incarnation : ℕ) → Decision
decision group turn incarnation = record {
  group = group;
  turn = turn;
  made = 702000;
  start = 701001;
  low = 0;
  mark = record { stamp = 0; who = 0; seq = 0 };
  seats = record { items = seat 0 incarnation ∷ supported 1 702000 ∷ seat 2 699990 ∷ [] };
  maker = 1;
  window = record { items = [] };
}

-- process 0, which promised group 7, took its first decision, and beat lately; its clock was told at 700000 that it is 700000
abbrev member : Process
member = record (started 0 First 699990) {
  timing = record { clock = record { given = record { h = 700000; interval = record { lo = 700000; hi = 700000 } } ∷ []; greatest = None; disjoint = None }; heard = λ q. None };
  beat = record { last = Some 712999 };
  vote = record { promised = 7; support = None };
  belief = Informed (Some (decision 7 0 699990));
}

-- what a process that started there reports of itself
abbrev report : ℕ → Kind → (group turn : ℕ) → Report
report who kind group turn = record { member = record { who = who; incarnation = 699990 }; kind = kind; group = group; turn = turn; length = 0; support = None; reading = 713000 }

-- a datagram of process from for process to that left a little before, received at 713000
abbrev receives : Process → (from to : ℕ) → Body → Outcome
receives p from to body = step team_a 713000 (Packet (Ok (record {
  head = record { from = from; to = to; incarnation = 699990; sent = 712000; interval = Some (record { lo = 711999; hi = 712001 }); echo = None };
  body = body;
}))) p

-- ---- the whole of what is expected

-- its clock was read there
abbrev reads_at : ℕ → Process → Process
reads_at t p = record p { timing = record (p.timing) { clock = record (p.timing.clock) { greatest = Some t } } }

-- and it heard the stamp of that datagram
abbrev hears : ℕ → Process → Process
hears from p = reads_at 713000 (record p { timing = record (p.timing) { heard = λ q. if from == q then Some (record { a = 712000; b = 713000 }) else None } })

-- this answer, and nothing is given
abbrev alone : RowAnswer → Process → Outcome
alone answer p = record { process = p; answer = answer; out = nothing; promises = []; makings = []; sendings = []; delivered = [] }

-- it is dropped before anything is noted of it
abbrev turned_away : Reason → Outcome
turned_away reason = alone (Dropped reason) (reads_at 713000 member)

-- it is noted, and dropped for what it says
abbrev refused : ℕ → Reason → Outcome
refused from reason = alone (Dropped reason) (hears from member)

-- what it sends to another one, of which it heard that stamp if any. Its interval is a tick of rounding wider at both ends.
abbrev sent : ℕ → Option Echo → Body → ℕ × Datagram
sent to echo body = (
  to,
  record {
    head = record { from = 0; to = to; incarnation = 699990; sent = 713000; interval = Some (record { lo = 712999; hi = 713001 }); echo = echo };
    body = body;
  },
)

abbrev stamp : Option Echo
stamp = Some (record { a = 712000; b = 713000 })

-- ---- kinds that aren't taken: by a process of the team, for another one, by this one itself, and by one that isn't of the team

abbrev forged : Body → List Outcome
forged body = receives member 1 2 body ∷ receives member 0 0 body ∷ receives member 3 0 body ∷ []

abbrev everyhow : Body → List Outcome
everyhow body = receives member 1 0 body ∷ forged body

abbrev always : Reason → List Outcome
always reason = turned_away reason ∷ turned_away reason ∷ turned_away reason ∷ []

abbrev unknown : List Outcome
unknown = turned_away (reasons.Wire faults.Kind) ∷ always (reasons.Wire faults.Kind)

abbrev update : UpdateId
update = record { who = 1; incarnation = 699990; seq = 1 }

abbrev entry : Entry
entry = record { id = update; order = orders.Total; atom = atoms.Weak; stamp = 5; late = false }

no_round : everyhow (bodies.NoDecision 10 7 0 2 (record { items = [] }) (decision 7 0 699990)) ≡ unknown
unfolding step timed_duties duties is_up
no_round = refl

no_state : everyhow (bodies.State 7 0 14 0 (record { items = [] })) ≡ unknown
unfolding step timed_duties duties is_up
no_state = refl

-- bytes that are no datagram
no_datagram : step team_a 713000 (Packet (Err faults.Version)) member ≡ turned_away (reasons.Wire faults.Version)
unfolding step timed_duties duties is_up
no_datagram = refl

-- ---- kinds that are taken, forged in the same ways

abbrev strange : List Outcome
strange = always reasons.Stranger

forged_decision : forged (bodies.Decision (decision 7 1 699990)) ≡ strange
unfolding step timed_duties duties is_up
forged_decision = refl

forged_election : forged (bodies.Election 8 (whys.Join 7)) ≡ strange
unfolding step timed_duties duties is_up
forged_election = refl

forged_promise : forged (bodies.Promise 9 (report 1 kinds.Ready 0 5) None) ≡ strange
unfolding step timed_duties duties is_up
forged_promise = refl

forged_update : forged (bodies.Update (record { entry = entry; early = false; payload = record { items = [] } })) ≡ strange
unfolding step timed_duties duties is_up
forged_update = refl

forged_question : forged (bodies.Ask (wants.Update update)) ≡ strange
unfolding step timed_duties duties is_up
forged_question = refl

forged_sign_of_life : forged (bodies.Sync None) ≡ strange
unfolding step timed_duties duties is_up
forged_sign_of_life = refl

-- ---- and as one of the team may send them

a_sign_of_life : receives member 1 0 (bodies.Sync (Some (7, 0, 0))) ≡ alone Done (hears 1 member)
unfolding step kind_rule timed_duties duties is_up
a_sign_of_life = refl

-- what nobody holds is asked for
a_question : receives member 1 0 (bodies.Ask (wants.Table 7)) ≡ refused 1 reasons.NotHeld
unfolding step kind_rule timed_duties duties is_up
a_question = refl

-- an election of the number's owner, of another one, of a number that is promised, and of one who is stuck alone

an_election : receives member 2 0 (bodies.Election 8 (whys.Join 7)) ≡ record {
  process = record (hears 2 member) { vote = record { promised = 8; support = None } };
  answer = Done;
  out = record nothing { sends = sent 2 stamp (bodies.Promise 8 (report 0 kinds.Informed 7 0) (Some (decision 7 0 699990))) ∷ [] };
  promises = record { number = 8; report = report 0 kinds.Informed 7 0; decision = Some (decision 7 0 699990) } ∷ [];
  makings = [];
  sendings = [];
  delivered = [];
}
unfolding step kind_rule timed_duties duties is_up
an_election = refl

of_another_owner : receives member 1 0 (bodies.Election 8 (whys.Join 7)) ≡ refused 1 reasons.OutOfWindow
unfolding step kind_rule timed_duties duties is_up
of_another_owner = refl

of_what_is_promised : receives member 1 0 (bodies.Election 7 (whys.Join 7)) ≡ refused 1 (reasons.Promised 7)
unfolding step kind_rule timed_duties duties is_up
of_what_is_promised = refl

of_one_who_is_stuck : receives member 2 0 (bodies.Election 8 whys.Stuck) ≡ refused 2 reasons.Unwilling
unfolding step kind_rule timed_duties duties is_up
of_one_who_is_stuck = refl

-- a decision that is taken, the same again, one that names another life of this process, and one of a greater group

abbrev takes : Decision → Process
takes d = record (hears 1 member) { belief = Informed (Some d) }

the_next_turn : receives member 1 0 (bodies.Decision (decision 7 1 699990)) ≡ alone Done (takes (decision 7 1 699990))
unfolding step kind_rule timed_duties duties is_up
the_next_turn = refl

the_same_again : receives member 1 0 (bodies.Decision (decision 7 0 699990)) ≡ refused 1 reasons.Old
unfolding step kind_rule timed_duties duties is_up
the_same_again = refl

of_another_life : receives member 1 0 (bodies.Decision (decision 7 1 699991)) ≡ refused 1 reasons.NotMember
unfolding step kind_rule timed_duties duties is_up
of_another_life = refl

of_a_greater_group : receives member 1 0 (bodies.Decision (decision 8 0 699990)) ≡ refused 1 (reasons.Promised 7)
unfolding step kind_rule timed_duties duties is_up
of_a_greater_group = refl

-- Decisions whose list doesn't go on: one begins behind the end of the process's list, and one has an entry without a payload. That
-- one is held, and its maker is asked, whoever sent it.

behind_a_gap : receives member 1 0 (bodies.Decision (record (decision 7 1 699990) { low = 1 })) ≡ refused 1 reasons.Gap
unfolding step kind_rule timed_duties duties is_up
behind_a_gap = refl

abbrev of_an_update : Decision
of_an_update = record (decision 7 1 699990) { window = record { items = entry ∷ [] } }

without_a_payload : receives member 2 0 (bodies.Decision of_an_update) ≡ record {
  process = record (hears 2 member) {
    waiting = record { pending = []; held = Some (record { decision = of_an_update; first = 0; source = 1; payloads = [] }) };
    hold = Some (record { purpose = ToTake; promised = 7 });
  };
  answer = Dropped (reasons.Missing update);
  out = record nothing { sends = sent 1 None (bodies.Ask (wants.Update update)) ∷ [] };
  promises = [];
  makings = [];
  sendings = [];
  delivered = [];
}
unfolding step kind_rule timed_duties duties is_up
without_a_payload = refl

-- A decision of the last turn is taken, and its next one is never made. That of any other turn is, by the member after its maker.

abbrev by_the_last : ℕ → Decision
by_the_last turn = record (decision 7 turn 699990) { maker = 2 }

nor_at_once : receives member 1 0 (bodies.Decision (by_the_last (2 ^ 60 - 1))) ≡ alone Done (takes (by_the_last (2 ^ 60 - 1)))
unfolding step kind_rule timed_duties duties is_up
nor_at_once = refl

and_no_next : step team_a 723000 Tick (takes (by_the_last (2 ^ 60 - 1))) ≡ alone Done (reads_at 723000 (takes (by_the_last (2 ^ 60 - 1))))
unfolding step kind_rule timed_duties duties is_up
and_no_next = refl

abbrev made_next : Decision
made_next = record (by_the_last 6) {
  made = 713000;
  maker = 0;
  seats = record { items = supported 0 713000 ∷ supported 1 702000 ∷ seat 2 699990 ∷ [] };
}

else_the_next : receives member 1 0 (bodies.Decision (by_the_last 5)) ≡ record {
  process = record (takes made_next) { vote = record { promised = 7; support = Some 713000 } };
  answer = Done;
  out = record nothing { made = Some made_next; sends = sent 1 stamp (bodies.Decision made_next) ∷ sent 2 None (bodies.Decision made_next) ∷ [] };
  promises = [];
  makings = record { decision = made_next; before = Some (by_the_last 5); reports = []; appended = [] } ∷ [];
  sendings = [];
  delivered = [];
}
unfolding step kind_rule timed_duties duties is_up passes run_passed earlies earlies_marked
else_the_next = refl

-- Promises of an informed process that names a turn of no decision, and of a ready one, join the ballot. One of another number, and a
-- second one of a process, don't.

abbrev ballot : List Report → Ballot
ballot reports = record { number = 9; ring = None; reports = record { items = reports }; best = Some (decision 7 0 699990); best_from = 0 }

abbrev own : Report
own = report 0 kinds.Informed 7 0

-- one that holds a ballot of number 9, with these reports
abbrev elector : List Report → Process
elector reports = record member { vote = record { promised = 9; support = None }; ballot = Some (ballot reports) }

abbrev promises_to : ℕ → Process → Report → Outcome
promises_to number p given = receives p 1 0 (bodies.Promise number given None)

of_no_decision : promises_to 9 (elector (own ∷ [])) (report 1 kinds.Informed 0 5) ≡ alone Done (hears 1 (elector (own ∷ report 1 kinds.Informed 0 5 ∷ [])))
unfolding step kind_rule timed_duties duties is_up
of_no_decision = refl

of_a_ready_one : promises_to 9 (elector (own ∷ [])) (report 1 kinds.Ready 0 5) ≡ alone Done (hears 1 (elector (own ∷ report 1 kinds.Ready 0 5 ∷ [])))
unfolding step kind_rule timed_duties duties is_up
of_a_ready_one = refl

of_another_number : promises_to 10 (elector (own ∷ [])) (report 1 kinds.Ready 0 5) ≡ alone (Dropped reasons.Old) (hears 1 (elector (own ∷ [])))
unfolding step kind_rule timed_duties duties is_up
of_another_number = refl

a_second_one : promises_to 9 (elector (own ∷ report 1 kinds.Ready 0 5 ∷ [])) (report 1 kinds.Informed 0 5) ≡ alone (Dropped reasons.Old) (hears 1 (elector (own ∷ report 1 kinds.Ready 0 5 ∷ [])))
unfolding step kind_rule timed_duties duties is_up
a_second_one = refl
