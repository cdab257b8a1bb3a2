use Rattle.tw_num.proofs.Delays.{echo_bounds, rate_bounds, timely_within}
use Rattle.late_detector.proofs.laws.bounds_cover_the_delay.Goals as goal

pub returns-clause-echo : goal.returns-clause-echo
returns-clause-echo c = echo_bounds

pub returns-clause-rate : goal.returns-clause-rate
returns-clause-rate c = rate_bounds

pub returns-clause-timely : goal.returns-clause-timely
returns-clause-timely c = timely_within
