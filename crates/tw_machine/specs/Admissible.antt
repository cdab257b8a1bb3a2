-- Which steps may follow a schedule. Each condition looks at all earlier steps.
use Rattle.std.specs.Prelude.{ℕ, ◌+◌, ◌-◌, ◌*◌, nat_le, nat_lt, ◌==◌, Bool, true, false, not, ◌&&◌, ◌||◌, if◌then◌else◌, List, [], ◌∷◌, Option, Some, None}
use Rattle.std.specs.List.{list_all, list_any}
use Rattle.tw_machine.specs.Types.{Team, Cause, Act, Step}
use Rattle.tw_types.specs.Numbered.{numbered}
use Rattle.tw_types.specs.declared.step.Cause.TheVariants.{Time, Drift, Start, NotRunning, NoDatagram, Reference as OutsideReference}
use Rattle.tw_types.specs.declared.step.Act.TheVariants.{First, Again, Crash, Recv, Reference}
use Rattle.tw_machine.specs.Dispatches.{Dispatch}

-- A clock that drifts by at most ppm parts per million may read h at t and later h' at t'. One tick is given to rounding, and
-- no reading falls.
abbrev pub keeps_drift : (ppm t h t' h' : ℕ) → Bool
keeps_drift ppm t h t' h' = nat_le h h'
    && nat_le ((h' - h) * 1000000) ((t' - t) * (1000000 + ppm) + 1000000)
    && nat_le ((t' - t) * (1000000 - ppm)) ((h' - h) * 1000000 + 1000000)

abbrev pub is_start : Act → Bool
is_start First = true
is_start Again = true
is_start act = false

abbrev pub is_first : Act → Bool
is_first First = true
is_first act = false

-- whether a process runs after this act, if it ran before as told
abbrev pub runs_after : Act → Bool → Bool
runs_after First before = true
runs_after Again before = true
runs_after Crash before = false
runs_after act before = before

-- a process runs from its start to its crash
abbrev pub is_running : ℕ → List Step → Bool
is_running who [] = false
is_running who (s ∷ past) = if s.who == who then runs_after s.act (is_running who past) else is_running who past

-- each step of the same process has this
abbrev pub each_own : (Step → Bool) → ℕ → List Step → Bool
each_own test who past = list_all (λ e. not (e.who == who) || test e) past

abbrev pub was_started : ℕ → List Step → Bool
was_started who past = list_any (λ e. (e.who == who) && is_start e.act) past

-- a start is of a process that isn't running, reads above each of its earlier readings, and a first start is its first
abbrev pub may_start : List Step → Step → Bool
may_start past s = not (is_running s.who past) && each_own (λ e. nat_lt e.h s.h) s.who past && not (is_first s.act && was_started s.who past)

-- a received datagram, which has its number among those sent so far, was sent to this process
abbrev pub was_sent_to : ℕ → Option Dispatch → Bool
was_sent_to who None = false
was_sent_to who (Some d) = d.to == who

abbrev pub may_receive : List Dispatch → Step → Act → Bool
may_receive sent s (Recv d) = was_sent_to s.who (numbered d sent)
may_receive sent s act = true

-- a reference holds team time
abbrev pub holds_time : Step → Act → Bool
holds_time s (Reference lo hi) = nat_le lo s.t && nat_le s.t hi
holds_time s act = true

-- a condition, and the cause that is told where it fails
pub record Condition : Type 0 where
  pub cause : Cause
  pub met : Bool

-- the conditions on a step after a past, in the order in which they are looked at
abbrev pub conditions : Team → List Dispatch → List Step → Step → List Condition
conditions team sent past s =
    record { cause = Time; met = list_all (λ e. nat_le e.t s.t) past }
    ∷ record { cause = Drift; met = each_own (λ e. keeps_drift team.ppm e.t e.h s.t s.h) s.who past }
    ∷ record { cause = Start; met = not (is_start s.act) || may_start past s }
    ∷ record { cause = NotRunning; met = is_start s.act || is_running s.who past }
    ∷ record { cause = NoDatagram; met = may_receive sent s s.act }
    ∷ record { cause = OutsideReference; met = holds_time s s.act }
    ∷ []

abbrev pub first_unmet : List Condition → Option Cause
first_unmet [] = None
first_unmet (c ∷ cs) = if c.met then first_unmet cs else Some c.cause

-- the first cause that keeps a step from following a past, None where it may follow
abbrev pub cause_of : Team → List Dispatch → List Step → Step → Option Cause
cause_of team sent past s = first_unmet (conditions team sent past s)
