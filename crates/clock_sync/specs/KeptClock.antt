-- What a team clock keeps, as contracts see it.
use Rattle.std.specs.Prelude.{ℕ, Option}
use Rattle.tw_num.specs.declared.interval.Disjoint.{Disjoint}
use Rattle.clock_sync.specs.declared.keys.Keys.{Keys}

pub record KeptClock : Type 0 where
  pub ppm : ℕ
  pub eps : ℕ
  pub keys : Option Keys
  pub greatest : Option ℕ
  pub disjoint : Option Disjoint
