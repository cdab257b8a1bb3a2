-- The law of the clocks.
use Rattle.tw_machine.specs.Applied.{meaning_of}
use Rattle.safety_laws.proofs.ClockLaw.{holds_at_step, holds_later, reads_well, rows_read_well, none_disjoint, none_dropped, intervals_sent}
use Rattle.safety_laws.proofs.clocks.clocks_hold_team_time.Goals as goal

pub returns-clause-interval : goal.returns-clause-interval
returns-clause-interval g c = holds_at_step

pub returns-clause-later : goal.returns-clause-later
returns-clause-later g c = holds_later

pub returns-clause-reading : goal.returns-clause-reading
returns-clause-reading g c shown = reads_well (meaning_of g.A.Machine.empty g.A.Machine.after shown)

pub returns-clause-rows : goal.returns-clause-rows
returns-clause-rows g c shown team past sound ok = rows_read_well (meaning_of g.A.Machine.empty g.A.Machine.after shown) team past (reads_well (meaning_of g.A.Machine.empty g.A.Machine.after shown) team past sound ok)

pub returns-clause-disjoint : goal.returns-clause-disjoint
returns-clause-disjoint g c = none_disjoint

pub returns-clause-not_dropped : goal.returns-clause-not_dropped
returns-clause-not_dropped g c shown = none_dropped (meaning_of g.A.Machine.empty g.A.Machine.after shown)

pub returns-clause-sent : goal.returns-clause-sent
returns-clause-sent g c = intervals_sent
