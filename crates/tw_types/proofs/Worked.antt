-- The faults of teams that were worked out by hand, and what a process starts with.
use Rattle.std.proofs.Common.{◌≡◌, refl, [], Some, None}
use Rattle.tw_types.specs.declared.team.Team.{Team}
use Rattle.tw_types.specs.declared.team.TeamFault.TheVariants.{Size, Drift, Quarantine, Range}
use Rattle.tw_types.specs.declared.outputs.Mode.TheVariants.{First, Again}
use Rattle.tw_types.specs.Team.{fault_of}
use Rattle.tw_types.specs.Examples.{team_a}
use Rattle.tw_types.specs.Beliefs.{Informed, Blank}
use Rattle.tw_types.specs.Process.{started}

abbrev five : Team
five = record { n = 5; line = 1; ppm = 100; eps = 1000; delta = 10000; pace = 20000; decide = 10000; ring = 50000; slot = 100000; lease = 400000; quarantine = 1400000; theta = 30000 }

team_a_is_sound : fault_of team_a ≡ None
team_a_is_sound = refl

five_is_sound : fault_of five ≡ None
five_is_sound = refl

one_short : fault_of (record team_a { quarantine = 1104002 }) ≡ Some Quarantine
one_short = refl

-- the first fault of the table is told, where there are several
both_wrong : fault_of (record team_a { n = 2; ppm = 1001 }) ≡ Some Size
both_wrong = refl

drifts : fault_of (record team_a { ppm = 1001; theta = 2000000000000 }) ≡ Some Drift
drifts = refl

out_of_range : fault_of (record team_a { theta = 1099511627776 }) ≡ Some Range
out_of_range = refl

-- a process knows who it is, when it began, and whether it lost its memory, and nothing else
first_started : started 2 First 5 ≡ record {
  identity = record { who = 2; mode = First; incarnation = 5; began = 5 };
  timing = record { clock = record { given = []; greatest = None; disjoint = None }; heard = λ q. None };
  beat = record { last = None };
  vote = record { promised = 0; support = None };
  ballot = None;
  belief = Informed None;
  log = record { base = 0; entries = []; passed = 0 };
  waiting = record { pending = []; held = None };
  hold = None;
  next_seq = 1;
}
first_started = refl

started_again : started 0 Again 1000 ≡ record {
  identity = record { who = 0; mode = Again; incarnation = 1000; began = 1000 };
  timing = record { clock = record { given = []; greatest = None; disjoint = None }; heard = λ q. None };
  beat = record { last = None };
  vote = record { promised = 0; support = None };
  ballot = None;
  belief = Blank None;
  log = record { base = 0; entries = []; passed = 0 };
  waiting = record { pending = []; held = None };
  hold = None;
  next_seq = 1;
}
started_again = refl
