-- The history is what is seen.
use Rattle.tw_machine.specs.Applied.{meaning_of}
use Rattle.safety_laws.proofs.Seen.{made_lines_seen, makes_printed, sent_lines_seen, sends_answered, flags_seen, ups_printed, promise_kept, promises_told}
use Rattle.safety_laws.proofs.LinesSeen.{row_lines_seen, lines_printed, lines_in_order}
use Rattle.safety_laws.proofs.history.history_is_seen.Goals as goal

pub returns-clause-made_lines : goal.returns-clause-made_lines
returns-clause-made_lines g c shown team past sound ok = made_lines_seen (meaning_of g.A.Machine.empty g.A.Machine.after shown) team past ok

pub returns-clause-makes : goal.returns-clause-makes
returns-clause-makes g c shown team past k sound ok = makes_printed (meaning_of g.A.Machine.empty g.A.Machine.after shown) team past ok k

pub returns-clause-sent_lines : goal.returns-clause-sent_lines
returns-clause-sent_lines g c shown team past sound ok = sent_lines_seen (meaning_of g.A.Machine.empty g.A.Machine.after shown) team past ok

pub returns-clause-sends : goal.returns-clause-sends
returns-clause-sends g c shown team past z sound ok = sends_answered (meaning_of g.A.Machine.empty g.A.Machine.after shown) team past ok z

pub returns-clause-flags : goal.returns-clause-flags
returns-clause-flags g c shown team past sound ok = flags_seen (meaning_of g.A.Machine.empty g.A.Machine.after shown) team past

pub returns-clause-ups : goal.returns-clause-ups
returns-clause-ups g c shown team past k sound ok = ups_printed (meaning_of g.A.Machine.empty g.A.Machine.after shown) team past k

pub returns-clause-row_lines : goal.returns-clause-row_lines
returns-clause-row_lines g c shown team past sound ok = row_lines_seen (meaning_of g.A.Machine.empty g.A.Machine.after shown) team past sound ok

pub returns-clause-lines : goal.returns-clause-lines
returns-clause-lines g c shown team past k sound ok = lines_printed (meaning_of g.A.Machine.empty g.A.Machine.after shown) team past sound ok k

pub returns-clause-in_order : goal.returns-clause-in_order
returns-clause-in_order g c shown team past sound ok = lines_in_order (meaning_of g.A.Machine.empty g.A.Machine.after shown) team past sound ok

pub returns-clause-promised : goal.returns-clause-promised
returns-clause-promised g c = promise_kept

pub returns-clause-told : goal.returns-clause-told
returns-clause-told g c = promises_told
