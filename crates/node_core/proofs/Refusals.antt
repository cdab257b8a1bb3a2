-- What a refusal by the clock means.
use Rattle.std.proofs.Common.{◌≡◌, refl, Option, Some, None, Result, Ok, Err}
use Rattle.std.specs.Prelude.{is_some, if◌then◌else◌}
use Rattle.std.specs.Result.{MatchResult}
use Rattle.tw_num.specs.declared.interval.Disjoint.{Disjoint}
use Rattle.tw_types.specs.declared.answer.Reason.TheVariants as reasons
use Rattle.node_core.specs.Reasons.{reason_of}

pub reason_by : (r : Result (Unit {0}) Disjoint) (why : Option Disjoint) → MatchResult r (λ _. why ≡ None) (λ d. why ≡ Some d)
    → reason_of r ≡ (if is_some why then Some reasons.Disjoint else None)
reason_by (Ok u) why e = rw e refl
reason_by (Err d) why e = rw e refl
