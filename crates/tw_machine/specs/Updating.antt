-- Updates that come, those that are asked for, and what becomes of a held decision once all of its payloads are there.
use Rattle.std.specs.Prelude.{ℕ, ◌==◌, Bool, not, ◌||◌, if◌then◌else◌, ◌++◌, Option, Some, None}
use Rattle.tw_num.specs.declared.moment.Moment.{Moment}
use Rattle.tw_machine.specs.Types.{UpdateId, Kept, Decision, Want}
use Rattle.tw_types.specs.declared.datagram.Want.TheVariants as wants
use Rattle.tw_types.specs.declared.datagram.Body.TheVariants as bodies
use Rattle.tw_types.specs.declared.answer.Reason.TheVariants.{Old, NotMember, OutOfWindow, NotHeld}
use Rattle.tw_types.specs.Beliefs.{view_decision}
use Rattle.tw_types.specs.Decisions.{or_none, is_older}
use Rattle.tw_types.specs.Updates.{find_update}
use Rattle.tw_types.specs.Waiting.{Held, first_hole, payloads_of, Putting, Filled, Stored, Known, Stranger, OutOfRange, put_as, putting_received, released}
use Rattle.tw_types.specs.Logs.{kept_entries}
use Rattle.tw_types.specs.Sends.{as_sent}
use Rattle.tw_types.specs.Process.{Process, Purpose, ToTake, ToGroup, Hold}
use Rattle.tw_machine.specs.Run.{Run, Ruled, done, dropped}
use Rattle.tw_machine.specs.Sending.{sent_to}
use Rattle.tw_machine.specs.Standing.{member_of}
use Rattle.tw_machine.specs.Entering.{enter_decision}

-- ---- a held decision whose payloads are all there

-- It is of no use any more: a greater one was taken or followed since, or another number promised.
abbrev pub is_stale : Hold → Decision → Process → Bool
is_stale hold d p =
    is_older d.group d.turn (or_none (view_decision p.belief)).group (or_none (view_decision p.belief)).turn || not (hold.promised == p.vote.promised)

abbrev pub without_held : Process → Process
without_held p = record p { waiting = released p.waiting; hold = None }

abbrev pub held_let_go : Run → Run
held_let_go r = record r { process = without_held r.process }

-- One that was held for a group waits on for that; one that was to be taken is tried again, from the checks of its list on.
abbrev pub used_for : Moment → Purpose → Decision → Run → Run
used_for now ToTake d r = (enter_decision now d r).run
used_for now ToGroup d r = r

abbrev pub use_held : Moment → Decision → Hold → Run → Run
use_held now d hold r = if is_stale hold d r.process then held_let_go r else used_for now hold.purpose d r

abbrev pub use_if_held : Moment → Option Held → Option Hold → Run → Run
use_if_held now (Some h) (Some hold) r = use_held now h.decision hold r
use_if_held now (Some h) None r = r
use_if_held now None hold r = r

abbrev pub use_if_whole : Moment → Run → Run
use_if_whole now r = by (first_hole r.process.waiting.held)
  where
    by : Option (UpdateId × ℕ) → Run
    by None = use_if_held now r.process.waiting.held r.process.hold r
    by (Some hole) = r

-- ---- an update

-- it becomes pending, or its payload is kept with the held decision
abbrev pub update_kept : Putting → Kept → Run → Run
update_kept putting k r = record r { process = record (r.process) { waiting = put_as putting k r.process.waiting } }

-- and where it filled a hole, that may have been the last one
abbrev pub update_put : Moment → Putting → Kept → Run → Run
update_put now Filled k r = use_if_whole now (update_kept Filled k r)
update_put now Stored k r = update_kept Stored k r
update_put now Known k r = r
update_put now Stranger k r = r
update_put now OutOfRange k r = r

-- what is answered to one that is received; what a filled hole sets off isn't told
abbrev pub put_ruled : Moment → Putting → Kept → Run → Ruled
put_ruled now Filled k r = done (update_put now Filled k r)
put_ruled now Stored k r = done (update_put now Stored k r)
put_ruled now Known k r = dropped Old r
put_ruled now Stranger k r = dropped NotMember r
put_ruled now OutOfRange k r = dropped OutOfWindow r

abbrev pub received_as : Process → Kept → Putting
received_as p k = putting_received (member_of p.identity) (view_decision p.belief) k p.waiting

-- The rule of an update: a hole comes before all else, then whether its sender has a seat, then whether it is known, then its number.
abbrev pub take_update : Moment → Kept → Run → Ruled
take_update now k r = put_ruled now (received_as r.process k) k r

-- ---- a question for an update

-- It is looked for among the list's last entries, then among the pending updates, then with the held decision.
abbrev pub held_update : UpdateId → Process → Option Kept
held_update id p = find_update id (kept_entries p.log ++ payloads_of p.waiting)

abbrev pub answer_update : Moment → (from : ℕ) → UpdateId → Run → Ruled
answer_update now from id r = by (held_update id r.process)
  where
    by : Option Kept → Ruled
    by None = dropped NotHeld r
    by (Some k) = done (sent_to now (bodies.Update (as_sent k)) from r)

-- The rule of a question. One for a table is dropped, for no process hands out a table yet.
abbrev pub answer_ask : Moment → (from : ℕ) → Want → Run → Ruled
answer_ask now from (wants.Update id) r = answer_update now from id r
answer_ask now from (wants.Table group) r = dropped NotHeld r
