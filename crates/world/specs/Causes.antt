-- Why a step isn't taken.
use Rattle.std.specs.Prelude.{Option, Some, None}
use Rattle.tw_types.specs.declared.step.Cause.{Cause}
use Rattle.tw_types.specs.declared.step.Cause.TheVariants.{Time, Drift, Start, NotRunning, NoDatagram, Reference as OutsideReference}
use Rattle.world.specs.declared.refused.Refused.{Refused}
use Rattle.world.specs.declared.refused.Refused.TheVariants as refused

-- the cause that a refusal tells; want of memory has none
abbrev pub cause_told : Refused → Option Cause
cause_told refused.Time = Some Time
cause_told refused.Drift = Some Drift
cause_told refused.Start = Some Start
cause_told refused.NotRunning = Some NotRunning
cause_told refused.NoDatagram = Some NoDatagram
cause_told refused.Reference = Some OutsideReference
cause_told refused.WantOfMemory = None

-- the cause that is told, if a step is refused
abbrev pub cause_if : Option Refused → Option Cause
cause_if None = None
cause_if (Some why) = cause_told why
