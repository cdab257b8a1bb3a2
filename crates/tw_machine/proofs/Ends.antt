-- The ends of the parts that have several: what holds of each end holds of the part.
use Rattle.std.proofs.Common.{◌≡◌, ◌≢◌, refl, ℕ, Bool, true, false, cond, List, length, Option, Some, None, Result, Ok, Err}
use Rattle.tw_num.specs.declared.moment.Moment.{Moment}
use Rattle.tw_machine.specs.Types.{Team, UpdateId, Decision, Ballot, Order, Atom, Kept, Datagram, Want, ProposeFault, Reason}
use Rattle.tw_types.specs.declared.datagram.Want.TheVariants as wants
use Rattle.tw_types.specs.declared.datagram.Body.TheVariants as bodies
use Rattle.tw_types.specs.declared.answer.Reason.TheVariants as reasons
use Rattle.tw_types.specs.Refusals.{first_refusal}
use Rattle.tw_types.specs.Ballots.{is_complete}
use Rattle.tw_types.specs.Waiting.{Held, payloads_of, first_hole, Putting, Filled, Stored, Known, Stranger, OutOfRange}
use Rattle.tw_types.specs.Sends.{first_send_refusal, as_sent}
use Rattle.tw_types.specs.Logs.{list_tests, first_missing}
use Rattle.tw_types.specs.Groups.{NoGroup, TooFew, NotConsistent, Behind, Missing, Spent, group_made}
use Rattle.tw_types.specs.Process.{Purpose, ToTake, ToGroup, Hold}
use Rattle.tw_machine.specs.Event.{Event}
use Rattle.tw_machine.specs.Run.{Run, Ruled, done, dropped, Ended, sent, refused}
use Rattle.tw_machine.specs.Sending.{sent_to}
use Rattle.tw_machine.specs.Standing.{member_of}
use Rattle.tw_machine.specs.Entering.{decision_entered, asked, decision_held, dropped_missing, enter_decision}
use Rattle.tw_machine.specs.Taking.{decision_tests, take_decision}
use Rattle.tw_machine.specs.Grouping.{group_begun, begun_or_held, make_group}
use Rattle.tw_machine.specs.Beating.{ask_again}
use Rattle.tw_machine.specs.Updating.{is_stale, held_let_go, used_for, use_if_held, use_if_whole, update_kept, update_put, put_ruled, held_update, answer_ask}
use Rattle.tw_machine.specs.Proposing.{refusals, own_seq, own_update, update_sent, propose}
use Rattle.tw_machine.specs.Rules.{rule}
use Rattle.tw_machine.specs.Step.{ended, event_rule}

-- a decision that no test of the process refuses enters its list, or is held, or is refused for the list
pub by_entering {ℓ} : (now : Moment) (d : Decision) (r : Run) (P : Ruled → Type ℓ)
    → (first_refusal (list_tests r.process.log d) ≡ None → first_missing r.process.log (payloads_of r.process.waiting) d ≡ None → P (done (decision_entered d r)))
    → ((id : UpdateId) → P (dropped_missing id (decision_held now ToTake d d.maker id r)))
    → ((reason : Reason) → first_refusal (list_tests r.process.log d) ≡ Some reason → P (dropped reason r))
    → P (enter_decision now d r)
by_entering now d r P enters holds refuses = by_list (first_refusal (list_tests r.process.log d)) refl
  where
    missing : Option UpdateId
    missing = first_missing r.process.log (payloads_of r.process.waiting) d

    ended : Option UpdateId → Ruled
    ended o = elim o as (λ o. Ruled) [ None ↦ done (decision_entered d r) | Some id ↦ dropped_missing id (decision_held now ToTake d d.maker id r) ]

    by_payload : first_refusal (list_tests r.process.log d) ≡ None → (o : Option UpdateId) → missing ≡ o → P (ended o)
    by_payload fits None whole = enters fits whole
    by_payload fits (Some id) e = holds id

    by_list : (o : Option Reason) → first_refusal (list_tests r.process.log d) ≡ o → P (elim o as (λ o. Ruled) [ None ↦ ended missing | Some reason ↦ dropped reason r ])
    by_list None fits = by_payload fits missing refl
    by_list (Some reason) e = refuses reason e

-- and any other is refused before
pub by_taking {ℓ} : (now : Moment) (d : Decision) (r : Run) (P : Ruled → Type ℓ)
    → (first_refusal (decision_tests r.process d) ≡ None → first_refusal (list_tests r.process.log d) ≡ None → first_missing r.process.log (payloads_of r.process.waiting) d ≡ None → P (done (decision_entered d r)))
    → ((id : UpdateId) → P (dropped_missing id (decision_held now ToTake d d.maker id r)))
    → ((reason : Reason) → first_refusal (list_tests r.process.log d) ≡ Some reason → P (dropped reason r))
    → ((reason : Reason) → first_refusal (decision_tests r.process d) ≡ Some reason → P (dropped reason r))
    → P (take_decision now d r)
by_taking now d r P enters holds unfit refuses = go (first_refusal (decision_tests r.process d)) refl
  where
    go : (o : Option Reason) → first_refusal (decision_tests r.process d) ≡ o → P (elim o as (λ o. Ruled) [ None ↦ enter_decision now d r | Some reason ↦ dropped reason r ])
    go None free = by_entering now d r P (enters free) holds unfit
    go (Some reason) e = refuses reason e

-- a complete ballot makes a group, or its best decision is held, or nothing comes of it
pub by_group {ℓ} : (team : Team) (now : Moment) (t : ℕ) (r : Run) (P : Run → Type ℓ) → P r
    → ((ballot : Ballot) (d : Decision) → r.process.ballot ≡ Some ballot → is_complete team t ballot ≡ true
    → group_made team ballot r.process.log (payloads_of r.process.waiting) (member_of r.process.identity) t ≡ Ok d → P (group_begun team now ballot d t r))
    → ((ballot : Ballot) (best : Decision) (id : UpdateId) → r.process.ballot ≡ Some ballot → ballot.best ≡ Some best → P (decision_held now ToGroup best ballot.best_from id r))
    → P (make_group team now t r)
by_group team now t r P stays begins holds = go r.process.ballot refl
  where
    made : Ballot → Result Decision NoGroup
    made ballot = group_made team ballot r.process.log (payloads_of r.process.waiting) (member_of r.process.identity) t

    by_best : (ballot : Ballot) (id : UpdateId) → r.process.ballot ≡ Some ballot → (o : Option Decision) → ballot.best ≡ o → P (elim o as (λ o. Run) [ None ↦ r | Some best ↦ decision_held now ToGroup best ballot.best_from id r ])
    by_best ballot id is None e = stays
    by_best ballot id is (Some best) e = holds ballot best id is e

    by_result : (ballot : Ballot) → r.process.ballot ≡ Some ballot → is_complete team t ballot ≡ true → (o : Result Decision NoGroup) → made ballot ≡ o → P (begun_or_held team now ballot t o r)
    by_result ballot is full (Ok d) e = begins ballot d is full e
    by_result ballot is full (Err (Missing id)) e = by_best ballot id is ballot.best refl
    by_result ballot is full (Err TooFew) e = stays
    by_result ballot is full (Err NotConsistent) e = stays
    by_result ballot is full (Err Behind) e = stays
    by_result ballot is full (Err Spent) e = stays

    by_test : (ballot : Ballot) → r.process.ballot ≡ Some ballot → (test : Bool) → is_complete team t ballot ≡ test → P (cond test (begun_or_held team now ballot t (made ballot) r) r)
    by_test ballot is true full = by_result ballot is full (made ballot) refl
    by_test ballot is false e = stays

    go : (o : Option Ballot) → r.process.ballot ≡ o → P (elim o as (λ o. Run) [ None ↦ r | Some ballot ↦ cond (is_complete team t ballot) (begun_or_held team now ballot t (made ballot) r) r ])
    go None is = stays
    go (Some ballot) is = by_test ballot is (is_complete team t ballot) refl

-- an update is asked for again, where one is missing
pub by_asking {ℓ} : (now : Moment) (r : Run) (P : Run → Type ℓ) → P r → ((id : UpdateId) (source : ℕ) → P (asked now id source r)) → P (ask_again now r)
by_asking now r P stays asks = go (first_hole r.process.waiting.held)
  where
    go : (o : Option (UpdateId × ℕ)) → P (elim o as (λ o. Run) [ None ↦ r | Some hole ↦ asked now hole.0 hole.1 r ])
    go None = stays
    go (Some hole) = asks hole.0 hole.1

-- a held decision whose payloads are all there is released, or tried again, or stays
pub by_using {ℓ} : (now : Moment) (r : Run) (P : Run → Type ℓ) → P r → P (held_let_go r)
    → ((h : Held) (hold : Hold) → r.process.waiting.held ≡ Some h → r.process.hold ≡ Some hold → hold.purpose ≡ ToTake → is_stale hold h.decision r.process ≡ false → P (enter_decision now h.decision r).run)
    → P (use_if_whole now r)
by_using now r P stays goes enters = by_hole (first_hole r.process.waiting.held)
  where
    by_purpose : (h : Held) (hold : Hold) → r.process.waiting.held ≡ Some h → r.process.hold ≡ Some hold → is_stale hold h.decision r.process ≡ false → (purpose : Purpose) → hold.purpose ≡ purpose → P (used_for now purpose h.decision r)
    by_purpose h hold is held fresh ToTake e = enters h hold is held e fresh
    by_purpose h hold is held fresh ToGroup e = stays

    by_test : (h : Held) (hold : Hold) → r.process.waiting.held ≡ Some h → r.process.hold ≡ Some hold → (stale : Bool) → is_stale hold h.decision r.process ≡ stale → P (cond stale (held_let_go r) (used_for now hold.purpose h.decision r))
    by_test h hold is held true e = goes
    by_test h hold is held false e = by_purpose h hold is held e hold.purpose refl

    by_held : (o : Option Held) (hold : Option Hold) → r.process.waiting.held ≡ o → r.process.hold ≡ hold → P (use_if_held now o hold r)
    by_held (Some h) (Some hold) is held = by_test h hold is held (is_stale hold h.decision r.process) refl
    by_held (Some h) None is held = stays
    by_held None hold is held = stays

    by_hole : (o : Option (UpdateId × ℕ)) → P (elim o as (λ o. Run) [ None ↦ use_if_held now r.process.waiting.held r.process.hold r | Some hole ↦ r ])
    by_hole None = by_held r.process.waiting.held r.process.hold refl refl
    by_hole (Some hole) = stays

-- an update that is put is kept or not, and may fill the last hole
pub by_kept {ℓ} : (now : Moment) (putting : Putting) (k : Kept) (r : Run) (P : Run → Type ℓ) → P r → (putting ≡ Stored → P (update_kept Stored k r)) → (putting ≡ Filled → P (use_if_whole now (update_kept Filled k r))) → P (update_put now putting k r)
by_kept now Filled k r P stays stores fills = fills refl
by_kept now Stored k r P stays stores fills = stores refl
by_kept now Known k r P stays stores fills = stays
by_kept now Stranger k r P stays stores fills = stays
by_kept now OutOfRange k r P stays stores fills = stays

-- and one that is received is taken where it is kept
pub by_putting {ℓ} : (now : Moment) (putting : Putting) (k : Kept) (r : Run) (P : Ruled → Type ℓ)
    → (putting ≡ Filled → P (done (use_if_whole now (update_kept Filled k r)))) → (putting ≡ Stored → P (done (update_kept Stored k r))) → ((reason : Reason) → reason ≢ reasons.Disjoint → P (dropped reason r)) → P (put_ruled now putting k r)
by_putting now Filled k r P fills stores refuses = fills refl
by_putting now Stored k r P fills stores refuses = stores refl
by_putting now Known k r P fills stores refuses = refuses reasons.Old (λ e. cc)
by_putting now Stranger k r P fills stores refuses = refuses reasons.NotMember (λ e. cc)
by_putting now OutOfRange k r P fills stores refuses = refuses reasons.OutOfWindow (λ e. cc)

-- an update that is asked for goes back, or isn't held
pub by_answering {ℓ} : (now : Moment) (from : ℕ) (want : Want) (r : Run) (P : Ruled → Type ℓ)
    → ((id : UpdateId) (k : Kept) → held_update id r.process ≡ Some k → P (done (sent_to now (bodies.Update (as_sent k)) from r))) → P (dropped reasons.NotHeld r) → P (answer_ask now from want r)
by_answering now from (wants.Update id) r P gives hasnt = go (held_update id r.process) refl
  where
    go : (o : Option Kept) → held_update id r.process ≡ o → P (elim o as (λ o. Ruled) [ None ↦ dropped reasons.NotHeld r | Some k ↦ done (sent_to now (bodies.Update (as_sent k)) from r) ])
    go None e = hasnt
    go (Some k) e = gives id k e
by_answering now from (wants.Table group) r P gives hasnt = hasnt

-- a send is refused, or gets its number
pub by_proposing {ℓ} : (team : Team) (now : Moment) (order : Order) (atom : Atom) (payload : List ℕ) (r : Run) (P : Ended → Type ℓ)
    → (first_send_refusal (refusals team now (length payload) r.process) ≡ None → P (sent (own_seq r.process) (update_sent team now (own_update now order atom payload r.process) r)))
    → ((why : ProposeFault) → first_send_refusal (refusals team now (length payload) r.process) ≡ Some why → P (refused why r))
    → P (propose team now order atom payload r)
by_proposing team now order atom payload r P sends refuses = go (first_send_refusal (refusals team now (length payload) r.process)) refl
  where
    go : (o : Option ProposeFault) → first_send_refusal (refusals team now (length payload) r.process) ≡ o
        → P (elim o as (λ o. Ended) [ None ↦ sent (own_seq r.process) (update_sent team now (own_update now order atom payload r.process) r) | Some why ↦ refused why r ])
    go None e = sends e
    go (Some why) e = refuses why e

-- the rule of an event is that of a send, or of its packet
pub by_event {ℓ} : (team : Team) (now : Moment) (e : Event) (packet : Result (Option Datagram) Reason) (r : Run) (P : Ended → Type ℓ)
    → P (ended (rule team now packet r)) → ((order : Order) (atom : Atom) (payload : List ℕ) → P (propose team now order atom payload r)) → P (event_rule team now e packet r)
by_event team now Event.Tick packet r P rules sends = rules
by_event team now (Event.Packet read) packet r P rules sends = rules
by_event team now (Event.Reference lo hi) packet r P rules sends = rules
by_event team now (Event.Send order atom payload) packet r P rules sends = sends order atom payload
