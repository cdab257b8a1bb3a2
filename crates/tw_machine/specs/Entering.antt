-- What a process does with a decision of its group that goes on its list, or lacks payloads for that.
use Rattle.std.specs.Prelude.{ℕ, Bool, false, not, if◌then◌else◌, Option, Some, None}
use Rattle.tw_num.specs.declared.moment.Moment.{Moment}
use Rattle.tw_machine.specs.Types.{UpdateId, Decision, Reason}
use Rattle.tw_types.specs.declared.datagram.Want.TheVariants as wants
use Rattle.tw_types.specs.declared.datagram.Body.TheVariants as bodies
use Rattle.tw_types.specs.declared.answer.Reason.TheVariants.{Missing}
use Rattle.tw_types.specs.Refusals.{first_refusal}
use Rattle.tw_types.specs.Beliefs.{log_length}
use Rattle.tw_types.specs.Decisions.{is_older}
use Rattle.tw_types.specs.Waiting.{Held, Waiting, payloads_of, holding, released, settled_by}
use Rattle.tw_types.specs.Logs.{list_tests, first_missing, log_after}
use Rattle.tw_types.specs.Taking.{taken}
use Rattle.tw_types.specs.Process.{Process, Purpose, ToTake, Hold}
use Rattle.tw_machine.specs.Run.{Run, Ruled, done, dropped}
use Rattle.tw_machine.specs.Sending.{sent_to}

-- a held decision that isn't above one that is taken is of no use any more
abbrev pub is_overtaken : Decision → Option Held → Bool
is_overtaken d None = false
is_overtaken d (Some h) = not (is_older d.group d.turn h.decision.group h.decision.turn)

abbrev pub let_go_below : Decision → Waiting → Waiting
let_go_below d w = if is_overtaken d w.held then released w else w

abbrev pub hold_after : Decision → Process → Option Hold
hold_after d p = if is_overtaken d p.waiting.held then None else p.hold

-- The list goes on with the decision's entries; it is the last one from then on; what it doesn't keep pending goes, and so does a held
-- decision that isn't above it, both only then, for payloads of both go into the list.
abbrev pub entered : Decision → Process → Process
entered d p = record p {
  log = log_after (payloads_of p.waiting) d p.log;
  belief = taken d;
  waiting = let_go_below d (settled_by d p.waiting);
  hold = hold_after d p;
}

abbrev pub decision_entered : Decision → Run → Run
decision_entered d r = record r { process = entered d r.process }

-- A decision is held for what it is wanted, with all of its payloads that are there; what was held before goes.
abbrev pub held_for : Purpose → Decision → (source : ℕ) → Process → Process
held_for purpose d source p = record p {
  waiting = holding d (log_length p.log) source p.waiting;
  hold = Some (record { purpose = purpose; promised = p.vote.promised });
}

-- the process asks another one for an update
abbrev pub asked : Moment → UpdateId → (source : ℕ) → Run → Run
asked now id source r = sent_to now (bodies.Ask (wants.Update id)) source r

-- it holds a decision that lacks a payload, and asks for that
abbrev pub decision_held : Moment → Purpose → Decision → (source : ℕ) → UpdateId → Run → Run
decision_held now purpose d source id r = asked now id source (record r { process = held_for purpose d source r.process })

-- it lacks a payload, and is dropped for that
abbrev pub dropped_missing : UpdateId → Run → Ruled
dropped_missing id r = record { run = r; dropped = Some (Missing id) }

-- A decision that goes on the list enters it. One that lacks a payload is held, and its maker is asked for the first that is missing.
abbrev pub enter_decision : Moment → Decision → Run → Ruled
enter_decision now d r = by_list (first_refusal (list_tests r.process.log d))
  where
    by_payload : Option UpdateId → Ruled
    by_payload None = done (decision_entered d r)
    by_payload (Some id) = dropped_missing id (decision_held now ToTake d d.maker id r)

    by_list : Option Reason → Ruled
    by_list None = by_payload (first_missing r.process.log (payloads_of r.process.waiting) d)
    by_list (Some reason) = dropped reason r
