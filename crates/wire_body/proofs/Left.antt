-- What a reader that fills leaves behind, step by step.
use Rattle.std.proofs.Common.{◌≡◌, Result, Ok, Err, ap, subst, ◌∙◌}
use Rattle.tw_types.specs.declared.datagram.WireFault.{WireFault}
use Rattle.wire_head.specs.Reading.{◌>>=◌}
use Rattle.wire_body.specs.Lists.{Leaves}

-- what a part that was filled is
pub filled : {A : Type 0} (q : Result (Unit {0}) WireFault) (part : A) (read : Result A WireFault) → Leaves q part read → q ≡ Ok tt → read ≡ Ok part
filled (Ok done) part read is e = is
filled (Err fault) part read is e = absurd (cc e)

-- a reader that fills, where only its last part is left
pub left_by : {A : Type 0} (r : Result (Unit {0}) WireFault) (left : A) {rest all : Result A WireFault} → rest ≡ all → Leaves r left rest → Leaves r left all
left_by {A} r left {rest} {all} e is = subst (Leaves r left) e is

pub left_last : {A B : Type 0} (r : Result (Unit {0}) WireFault) (part : A) (read : Result A WireFault) (f : A → Result B WireFault) (left : B) → f part ≡ Ok left → Leaves r part read → Leaves r left (read >>= f)
left_last {A} {B} (Ok done) part read f left e is = ap (λ (s : Result A WireFault). s >>= f) is ∙ e
left_last {A} {B} (Err fault) part read f left e is = ap (λ (s : Result A WireFault). s >>= f) is
