-- What a clock tells, in range.
use Rattle.std.specs.Prelude.{◌≤◌, ◌<◌, ◌^◌, IfSome}
use Rattle.tw_num.specs.declared.moment.Moment.{Moment}

pub record MomentFits (m : Moment) : Type 0 where
  pub h : m.h < 2 ^ 60
  pub reading : IfSome m.reading (λ t. t < 2 ^ 60)
  pub interval : IfSome m.interval (λ i. i.lo ≤ i.hi)
