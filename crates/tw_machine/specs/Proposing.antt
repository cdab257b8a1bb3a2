-- The rule of a send.
use Rattle.std.specs.Prelude.{ℕ, ◌+◌, unwrap_or, List, [], ◌∷◌, ◌++◌, length, find, Option, Some, None}
use Rattle.tw_num.specs.declared.moment.Moment.{Moment}
use Rattle.tw_machine.specs.Types.{Team, Order, Atom, Kept, Seat, ProposeFault}
use Rattle.tw_types.specs.declared.datagram.Body.TheVariants as bodies
use Rattle.tw_types.specs.Beliefs.{view_decision}
use Rattle.tw_types.specs.Decisions.{or_none, is_seat_of}
use Rattle.tw_types.specs.Flag.{is_up}
use Rattle.tw_types.specs.Sends.{SendRefusal, first_send_refusal, send_tests, seq_to_send, update_of}
use Rattle.tw_types.specs.Waiting.{putting}
use Rattle.tw_types.specs.Process.{Process}
use Rattle.tw_machine.specs.Run.{Run, Ended, sent, refused}
use Rattle.tw_machine.specs.Sending.{sent_to_others}
use Rattle.tw_machine.specs.Standing.{member_of, last_decision}
use Rattle.tw_machine.specs.Updating.{update_put}

-- its own seat in its last decision
abbrev pub own_seat : Process → Option Seat
own_seat p = find (is_seat_of (member_of p.identity)) (or_none (last_decision p)).seats.items

-- why it doesn't send a text of this size
abbrev pub refusals : Team → Moment → (size : ℕ) → Process → List SendRefusal
refusals team now size p = send_tests size (is_up team p.vote p.belief now.reading) (own_seat p) p.next_seq

-- the number that its next update gets
abbrev pub own_seq : Process → ℕ
own_seq p = seq_to_send (own_seat p) p.next_seq

-- The update that it sends, stamped with its reading. Who is up has one.
abbrev pub own_update : Moment → Order → Atom → List ℕ → Process → Kept
own_update now order atom payload p = update_of (member_of p.identity) (own_seq p) (unwrap_or now.reading 0) order atom payload

-- its number is given, and it is noted as sent in the process's group
abbrev pub seq_given : Kept → Run → Run
seq_given k r = record r {
  process = record (r.process) { next_seq = k.entry.id.seq + 1 };
  sendings = r.sendings ++ record { group = (or_none (last_decision r.process)).group; update = k } ∷ [];
}

-- It waits as one that came does, and then goes to all other processes, members or not.
abbrev pub update_sent : Team → Moment → Kept → Run → Run
update_sent team now k r =
    sent_to_others team.n now (bodies.Update k) (update_put now (putting (view_decision r.process.belief) k r.process.waiting) k (seq_given k r))

abbrev pub propose : Team → Moment → Order → Atom → List ℕ → Run → Ended
propose team now order atom payload r = by (first_send_refusal (refusals team now (length payload) r.process))
  where
    by : Option ProposeFault → Ended
    by None = sent (own_seq r.process) (update_sent team now (own_update now order atom payload r.process) r)
    by (Some why) = refused why r
