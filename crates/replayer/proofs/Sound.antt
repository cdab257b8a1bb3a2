-- A team in which no fault is found is sound.
use Rattle.std.proofs.Common.{◌≡◌, refl, List, [], ◌∷◌, Option, Some, None, Bool, true, false, cond, arith}
use Rattle.std.proofs.lemmas.Bool.Decides.{nat_tests}
use Rattle.tw_machine.specs.Types.{Team, TeamFault}
use Rattle.tw_types.specs.Team.{Tested, faults_of, first_present, fault_of, IsSound}

absent : (present : Bool) (fault : TeamFault) (rest : Option TeamFault) → cond present (Some fault) rest ≡ None → present ≡ false
absent true fault rest e = absurd (cc)
absent false fault rest e = refl

others : (present : Bool) (fault : TeamFault) (rest : Option TeamFault) → cond present (Some fault) rest ≡ None → rest ≡ None
others true fault rest e = absurd (cc)
others false fault rest e = e

-- each test of a list with no fault is false
abbrev AllAbsent : List Tested → Type 0
AllAbsent [] = Unit {0}
AllAbsent (t ∷ ts) = (t.present ≡ false) × AllAbsent ts

all_absent : (ts : List Tested) → first_present ts ≡ None → AllAbsent ts
all_absent [] e = tt
all_absent (t ∷ ts) e = (absent t.present t.fault (first_present ts) e, all_absent ts (others t.present t.fault (first_present ts) e))

pub sound_of : (team : Team) → fault_of team ≡ None → IsSound team
sound_of team none = by_tests (all_absent (faults_of team) none)
  where
    by_tests : AllAbsent (faults_of team) → IsSound team
    by_tests t = record {
      at_least_three = let x = t.0 in grind (arith, nat_tests);
      at_most_fifteen = let x = t.0 in grind (arith, nat_tests);
      drift = let x = t.1.0 in grind (arith, nat_tests);
      eps = let x = t.1.1.0 in grind (arith, nat_tests);
      slot = let x = t.1.1.1.0 in grind (arith, nat_tests);
      delta = let x = t.1.1.1.1.0 in grind (arith, nat_tests);
      pace = let x = t.1.1.1.1.0 in grind (arith, nat_tests);
      decide = let x = t.1.1.1.1.0 in grind (arith, nat_tests);
      ring = let x = t.1.1.1.1.0 in grind (arith, nat_tests);
      lease = let x = t.1.1.1.1.1.0 in grind (arith, nat_tests);
      quarantine = let x = t.1.1.1.1.1.1.0 in grind (arith, nat_tests);
      eps_range = let x = t.1.1.1.1.1.1.1.0 in grind (arith, nat_tests);
      delta_range = let x = t.1.1.1.1.1.1.1.0 in grind (arith, nat_tests);
      pace_range = let x = t.1.1.1.1.1.1.1.0 in grind (arith, nat_tests);
      decide_range = let x = t.1.1.1.1.1.1.1.0 in grind (arith, nat_tests);
      ring_range = let x = t.1.1.1.1.1.1.1.0 in grind (arith, nat_tests);
      slot_range = let x = t.1.1.1.1.1.1.1.0 in grind (arith, nat_tests);
      lease_range = let x = t.1.1.1.1.1.1.1.0 in grind (arith, nat_tests);
      quarantine_range = let x = t.1.1.1.1.1.1.1.0 in grind (arith, nat_tests);
      theta_range = let x = t.1.1.1.1.1.1.1.0 in grind (arith, nat_tests);
    }
