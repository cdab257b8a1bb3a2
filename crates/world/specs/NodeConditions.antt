-- The conditions on a step, by what is kept of its process.
use Rattle.std.specs.Prelude.{ℕ, ◌≡◌, ◌==◌, true, false, None, Some, nat_le, not, ◌&&◌, ◌||◌, is_some, Bool, List, [], ◌∷◌, Option}
use Rattle.std.specs.List.{list_all}
use Rattle.tw_machine.specs.Types.{Step, Cause}
use Rattle.tw_types.specs.declared.step.Cause.TheVariants.{Time, Drift, Start, NotRunning, NoDatagram, Reference as OutsideReference}
use Rattle.tw_machine.specs.Admissible.{Condition, first_unmet, is_start, is_first, holds_time}
use Rattle.world.specs.declared.node.Node.{Node}
use Rattle.world.specs.Tables.{Running}
use Rattle.world.specs.Bounds.{admits, is_above}

-- the conditions on a step at ppm, after steps of which the last was at this team time; what it receives was sent or not
abbrev pub kept_conditions : ℕ → ℕ → Bool → Node → Step → List Condition
kept_conditions ppm latest received p s =
    record { cause = Time; met = nat_le latest s.t }
    ∷ record { cause = Drift; met = admits ppm p.bounds s.t s.h }
    ∷ record { cause = Start; met = not (is_start s.act) || (not (is_some p.core) && is_above p.bounds s.h && not (is_first s.act && p.started)) }
    ∷ record { cause = NotRunning; met = is_start s.act || is_some p.core }
    ∷ record { cause = NoDatagram; met = received }
    ∷ record { cause = OutsideReference; met = holds_time s s.act }
    ∷ []

-- the first cause that keeps a step from following, by what is kept
abbrev pub kept_cause : ℕ → ℕ → Bool → Node → Step → Option Cause
kept_cause ppm latest received p s = first_unmet (kept_conditions ppm latest received p s)

-- a process that was never started
pub record IsFresh (p : Node) : Type 0 where
  pub bounds : p.bounds ≡ None
  pub started : p.started ≡ false
  pub core : p.core ≡ None

-- what runs of a process, if something does, is of a team of n
abbrev pub is_of : ℕ → Node → Bool
is_of n p = of_core p.core
  where
    of_core : Option Running → Bool
    of_core None = true
    of_core (Some c) = c.state.team.n == n

abbrev pub are_of : ℕ → List Node → Bool
are_of n processes = list_all (is_of n) processes
