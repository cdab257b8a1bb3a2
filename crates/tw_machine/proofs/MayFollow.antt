-- Which acts a line can spell, and which steps may follow, worked out by hand.
use Rattle.std.proofs.Common.{◌≡◌, refl, ℕ, ◌^◌, ◌-◌, arith, [], ◌∷◌, Option, Some, None}
use Rattle.tw_types.specs.declared.message.Order.TheVariants.{Total}
use Rattle.tw_types.specs.declared.message.Atom.TheVariants.{Weak}
use Rattle.tw_machine.specs.Types.{Act, Step, Cause}
use Rattle.tw_types.specs.declared.step.Act.TheVariants.{First, Again, Crash, Tick, Recv, Send, Reference, Look}
use Rattle.tw_types.specs.declared.step.Cause.TheVariants as causes
use Rattle.tw_types.specs.Examples.{team_a}
use Rattle.tw_machine.specs.Grammar.{IsAct}
use Rattle.tw_machine.specs.Admissible.{cause_of}

-- ---- acts

last_datagram : IsAct (Recv (2 ^ 32 - 1))
last_datagram = omega arith

no_datagram : IsAct (Recv (2 ^ 32)) → ⊥
no_datagram act = omega (arith, act)

last_reference : IsAct (Reference 5 (2 ^ 60 - 1))
last_reference = (omega arith, omega arith)

ends_too_late : IsAct (Reference 5 (2 ^ 60)) → ⊥
ends_too_late act = omega (arith, act.1)

ends_crossed : IsAct (Reference 6 5) → ⊥
ends_crossed act = omega (arith, act.0)

last_byte : IsAct (Send Total Weak (record { items = 255 ∷ [] }))
last_byte = (omega arith, (omega arith, tt))

no_byte : IsAct (Send Total Weak (record { items = 256 ∷ [] })) → ⊥
no_byte act = omega (arith, act.1.0)

-- ---- steps after a start of process 0 and a look at it

abbrev at : ℕ → ℕ → ℕ → Act → Step
at t who h act = record { t = t; who = who; h = h; act = act }

abbrev after : Step → Option Cause
after s = cause_of team_a [] (at 6 0 6 Look ∷ at 5 0 5 First ∷ []) s

a_tick : after (at 6 0 6 Tick) ≡ None
a_tick = refl

a_crash : after (at 7 0 7 Crash) ≡ None
a_crash = refl

another_start : after (at 6 1 0 First) ≡ None
another_start = refl

before_the_look : after (at 5 0 6 Tick) ≡ Some causes.Time
before_the_look = refl

-- a microsecond is given to rounding, and no more
a_tick_late : after (at 7 0 6 Tick) ≡ None
a_tick_late = refl

two_ticks_late : after (at 8 0 6 Tick) ≡ Some causes.Drift
two_ticks_late = refl

two_ticks_early : after (at 6 0 8 Tick) ≡ Some causes.Drift
two_ticks_early = refl

runs_already : after (at 7 0 7 Again) ≡ Some causes.Start
runs_already = refl

not_running : after (at 7 1 7 Tick) ≡ Some causes.NotRunning
not_running = refl

never_sent : after (at 7 0 7 (Recv 1)) ≡ Some causes.NoDatagram
never_sent = refl

holds_time : after (at 7 0 7 (Reference 7 7)) ≡ None
holds_time = refl

too_late_an_interval : after (at 7 0 7 (Reference 8 9)) ≡ Some causes.Reference
too_late_an_interval = refl

-- of several causes the first is told
all_wrong : after (at 5 1 5 (Reference 6 7)) ≡ Some causes.Time
all_wrong = refl
