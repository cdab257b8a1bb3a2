-- The law of the delays.
use Rattle.safety_laws.proofs.DelayLaw.{receipt_found, sent_before, echo_covers, interval_covers, rate_covers, timely_covers, given_holds}
use Rattle.safety_laws.proofs.clocks.bounds_cover_every_delay.Goals as goal

pub returns-clause-receipt : goal.returns-clause-receipt
returns-clause-receipt c = receipt_found

pub returns-clause-before : goal.returns-clause-before
returns-clause-before c = sent_before

pub returns-clause-echo : goal.returns-clause-echo
returns-clause-echo c = echo_covers

pub returns-clause-interval : goal.returns-clause-interval
returns-clause-interval c = interval_covers

pub returns-clause-rate : goal.returns-clause-rate
returns-clause-rate c = rate_covers

pub returns-clause-timely : goal.returns-clause-timely
returns-clause-timely c = timely_covers

pub returns-clause-told : goal.returns-clause-told
returns-clause-told c = given_holds
