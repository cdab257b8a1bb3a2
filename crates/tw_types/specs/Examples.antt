-- A team, and a datagram whose bytes were worked out by hand.
use Rattle.std.specs.Prelude.{◌≡◌, ℕ, List, [], ◌∷◌, Some, None, refl}
use Rattle.tw_types.specs.declared.team.Team.{Team}
use Rattle.tw_types.specs.declared.datagram.Datagram.{Datagram}
use Rattle.tw_types.specs.declared.datagram.Body.TheVariants as bodies
use Rattle.tw_types.specs.Bytes.{number_bytes}
use Rattle.tw_types.specs.Spelling.{spelling}

-- A sound team of three processes with exact clocks.
abbrev pub team_a : Team
team_a = record { n = 3; line = 7; ppm = 0; eps = 1000; delta = 10000; pace = 20000; decide = 10000; ring = 50000; slot = 100000; lease = 400000; quarantine = 1104003; theta = 30000 }

-- Process 1 of line 7 tells process 0 that it is there. It is not ready to join, knows an interval around its own
-- reading, and has heard nothing of process 0.
abbrev pub sign_of_life : Datagram
sign_of_life = record {
  head = record { from = 1; to = 0; incarnation = 699990; sent = 700000; interval = Some (record { lo = 699999; hi = 700001 }); echo = None };
  body = bodies.Sync None;
}

-- its 82 bytes, a field a line
abbrev pub sign_of_life_bytes : List ℕ
sign_of_life_bytes =
    1
    ∷ 8
    ∷ 0 ∷ 0 ∷ 0 ∷ 7
    ∷ 1
    ∷ 0
    ∷ 0 ∷ 0 ∷ 0 ∷ 0 ∷ 0 ∷ 10 ∷ 174 ∷ 86
    ∷ 0 ∷ 0 ∷ 0 ∷ 0 ∷ 0 ∷ 10 ∷ 174 ∷ 96
    ∷ 1
    ∷ 0 ∷ 0 ∷ 0 ∷ 0 ∷ 0 ∷ 10 ∷ 174 ∷ 95
    ∷ 0 ∷ 0 ∷ 0 ∷ 0 ∷ 0 ∷ 10 ∷ 174 ∷ 97
    ∷ 0 ∷ 0 ∷ 0 ∷ 0 ∷ 0 ∷ 0 ∷ 0 ∷ 0
    ∷ 0 ∷ 0 ∷ 0 ∷ 0 ∷ 0 ∷ 0 ∷ 0 ∷ 0
    ∷ 0
    ∷ 0 ∷ 0 ∷ 0 ∷ 0 ∷ 0 ∷ 0 ∷ 0 ∷ 0
    ∷ 0 ∷ 0 ∷ 0 ∷ 0 ∷ 0 ∷ 0 ∷ 0 ∷ 0
    ∷ 0 ∷ 0 ∷ 0 ∷ 0 ∷ 0 ∷ 0 ∷ 0 ∷ 0
    ∷ []

pub sign_of_life_spelled : spelling 7 sign_of_life ≡ sign_of_life_bytes
unfolding number_bytes
sign_of_life_spelled = refl
