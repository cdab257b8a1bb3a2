-- When a process may promise a number: it then supports no group of a lower one.
use Rattle.std.specs.Prelude.{ℕ, ◌+◌, ◌-◌, nat_le, nat_lt, Bool, true, false, not, ◌&&◌, List, [], ◌∷◌}
use Rattle.tw_types.specs.declared.team.Team.{Team}
use Rattle.tw_types.specs.declared.outputs.Mode.{Mode}
use Rattle.tw_types.specs.declared.outputs.Mode.TheVariants as modes
use Rattle.tw_types.specs.declared.answer.Reason.TheVariants.{Quarantine, OutOfWindow, Promised}
use Rattle.tw_types.specs.Process.{Identity}
use Rattle.tw_types.specs.Refusals.{Refusal}
use Rattle.tw_types.specs.Slots.{slot_of}

abbrev pub is_again : Mode → Bool
is_again modes.First = false
is_again modes.Again = true

-- A process that was started again waits so many of its ticks since its start: what it promised and supported before it lost
-- its memory is then over.
abbrev pub is_quarantined : Team → Identity → ℕ → Bool
is_quarantined team me h = is_again me.mode && nat_lt (h - me.began) team.quarantine

-- a number is one below the present slot at least, and n + 1 above it at most
abbrev pub is_in_window : Team → ℕ → ℕ → Bool
is_in_window team number t = nat_le (slot_of team t) (number + 1) && nat_le number (slot_of team t + team.n + 1)

abbrev pub quarantine_test : Bool → Refusal
quarantine_test quarantined = record { reason = Quarantine; present = quarantined }

-- the number is out of the window, or not above what was promised
abbrev pub number_tests : Team → (promised number t : ℕ) → List Refusal
number_tests team promised number t =
    record { reason = OutOfWindow; present = not (is_in_window team number t) }
    ∷ record { reason = Promised promised; present = nat_le number promised }
    ∷ []

-- why a process may not promise a number
abbrev pub promise_tests : Team → Bool → (promised number t : ℕ) → List Refusal
promise_tests team quarantined promised number t = quarantine_test quarantined ∷ number_tests team promised number t
