-- What a core may be given and what it may keep, worked out by hand.
use Rattle.std.proofs.Common.{◌≡◌, refl, ap, ℕ, zero, suc, ◌+◌, ◌^◌, ◌-◌, arith, List, replicate, get_or, [], Option, Some, None}
use Rattle.tw_num.specs.declared.moment.Moment.{Moment}
use Rattle.tw_types.specs.declared.datagram.Echo.{Echo}
use Rattle.tw_types.specs.declared.outputs.Mode.TheVariants.{First, Again}
use Rattle.tw_types.specs.Examples.{team_a}
use Rattle.tw_types.specs.Team.{IsSound}
use Rattle.tw_types.specs.Beliefs.{no_log}
use Rattle.tw_types.specs.Waiting.{nothing_waits}
use Rattle.tw_types.specs.Process.{Identity, started}
use Rattle.oal.specs.StandsFor as list
use Rattle.node_core.specs.declared.process.Event.TheVariants.{Tick, Reference}
use Rattle.node_core.specs.declared.state.State.{State}
use Rattle.node_core.specs.declared.state.Belief.TheVariants as beliefs
use Rattle.node_core.specs.Events.{IsGivable}
use Rattle.node_core.specs.InRange.{IsInRange}
use Rattle.node_core.specs.Moments.{MomentFits}
use Rattle.node_core.specs.StandsFor.{StandsFor}
use Rattle.node_core.specs.WithMachine.{StandsWith}

-- ---- events

a_tick : IsGivable Tick
a_tick = tt

last_reference : IsGivable (Reference 5 (2 ^ 60 - 1))
last_reference = (omega arith, omega arith)

ends_too_late : IsGivable (Reference 5 (2 ^ 60)) → ⊥
ends_too_late givable = omega (arith, givable.1)

ends_crossed : IsGivable (Reference 6 5) → ⊥
ends_crossed givable = omega (arith, givable.0)

-- ---- what a clock tells

abbrev told : ℕ → Moment
told reading = record { h = 5; reading = Some reading; interval = Some (record { lo = 4; hi = 2 ^ 61 }) }

last_reading : MomentFits (told (2 ^ 60 - 1))
last_reading = record { h = omega arith; reading = omega arith; interval = omega arith }

beyond_readings : MomentFits (told (2 ^ 60)) → ⊥
beyond_readings fits = omega (arith, fits.reading)

-- ---- a core that was just made

sound : IsSound team_a
sound = record {
  at_least_three = omega arith;
  at_most_fifteen = omega arith;
  drift = omega arith;
  eps = omega arith;
  slot = omega arith;
  delta = omega arith;
  pace = omega arith;
  decide = omega arith;
  ring = omega arith;
  lease = omega arith;
  quarantine = omega arith;
  eps_range = omega arith;
  delta_range = omega arith;
  pace_range = omega arith;
  decide_range = omega arith;
  ring_range = omega arith;
  slot_range = omega arith;
  lease_range = omega arith;
  quarantine_range = omega arith;
  theta_range = omega arith;
}

two_processes : IsSound (record team_a { n = 2 }) → ⊥
two_processes is = omega (arith, is.at_least_three)

short_quarantine : IsSound (record team_a { quarantine = 1104002 }) → ⊥
short_quarantine is = omega (arith, is.quarantine)

abbrev no_echo : Option Echo
no_echo = None

abbrev made : State
made = record {
  team = team_a;
  identity = record { who = 0; mode = First; incarnation = 5; began = 5 };
  timing = record { clock = record { ppm = 0; eps = 1000; keys = None; greatest = None; disjoint = None }; heard = replicate 15 no_echo; range = refl };
  beat = record { last = None };
  vote = record { promised = 0; support = None };
  ballot = None;
  belief = beliefs.Informed None;
  oal = record { length = 0; passed = 0; kept = [] };
  store = record { n = 3; waiting = nothing_waits };
  hold = None;
  next_seq = 1;
  sound = sound;
  who = omega arith;
  incarnation = omega arith;
}

none_heard : (k q : ℕ) → get_or (replicate k no_echo) q None ≡ None
none_heard zero q = refl
none_heard (suc k) zero = refl
none_heard (suc k) (suc q) = none_heard k q

nothing_kept : list.StandsFor (record { length = 0; passed = 0; kept = [] }) no_log
nothing_kept = record { length = refl; passed = refl; kept = refl }

stands : StandsFor made (started 0 First 5)
stands = record {
  identity = refl;
  timing = record {
    clock = record { same_ppm = refl; same_eps = refl; keys = refl; unrefused = λ h known. tt; greatest = refl; disjoint = refl };
    heard = λ q small. none_heard 15 q;
  };
  beat = refl;
  vote = refl;
  ballot = refl;
  belief = refl;
  log = nothing_kept;
  waiting = refl;
  hold = refl;
  next_seq = refl;
}

for_another : StandsFor made (started 1 First 5) → ⊥
for_another s = let e : 1 ≡ 0 = ap (λ (i : Identity). i.who) s.identity in omega (arith, e)

for_one_that_lost_its_memory : StandsFor made (started 0 Again 5) → ⊥
for_one_that_lost_its_memory s = let e = s.belief in cc

-- ---- and its machine, which counts what is applied to it

abbrev one_more : ℕ → List ℕ → ℕ
one_more count payload = count + 1

stands_with : StandsWith 0 one_more (record { state = made; machine = 0 }) (started 0 First 5)
stands_with = record { state = stands; content = refl }

something_applied_before : StandsWith 0 one_more (record { state = made; machine = 1 }) (started 0 First 5) → ⊥
something_applied_before s = let e : 1 ≡ 0 = s.content in omega (arith, e)

in_range : IsInRange made
in_range = record {
  promised = omega arith;
  support = tt;
  view = tt;
  kept = tt;
  ballot = tt;
  held = tt;
  own = tt;
  within = tt;
  length = refl;
  log = record { log = no_log; stands = nothing_kept };
  waiting = record { pending = tt; held = tt };
  updates = record { listed = tt; settled = tt; held_for = tt; size = refl; numbered = omega arith };
}

promised_too_much : IsInRange (record made { vote = record { promised = 2 ^ 60; support = None } }) → ⊥
promised_too_much range = omega (arith, range.promised)

longer_than_the_last_decision_says : IsInRange (record made { oal = record { length = 1; passed = 0; kept = [] } }) → ⊥
longer_than_the_last_decision_says range = let e : 1 ≡ 0 = range.length in omega (arith, e)
