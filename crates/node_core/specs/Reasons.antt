-- What a refusal by the clock means for an event.
use Rattle.std.specs.Prelude.{Option, Some, None, Result, Ok, Err}
use Rattle.tw_num.specs.declared.interval.Disjoint.{Disjoint}
use Rattle.tw_types.specs.declared.answer.Reason.{Reason}
use Rattle.tw_types.specs.declared.answer.Reason.TheVariants as reasons

abbrev pub reason_of : Result (Unit {0}) Disjoint → Option Reason
reason_of (Ok u) = None
reason_of (Err d) = Some reasons.Disjoint
