-- The life of a process in a schedule: what happened to it since it was started.
use Rattle.std.specs.Prelude.{ℕ, ◌==◌, if◌then◌else◌, List, [], ◌∷◌, Option, Some, None, Ok}
use Rattle.std.specs.Option.{option_map}
use Rattle.tw_machine.specs.Types.{Mode, Act, Step, Team}
use Rattle.tw_types.specs.declared.outputs.Mode.TheVariants as modes
use Rattle.tw_types.specs.declared.step.Act.TheVariants.{First, Again, Crash, Tick, Recv, Send, Reference, Look}
use Rattle.tw_types.specs.Numbered.{numbered}
use Rattle.tw_machine.specs.Dispatches.{Dispatch}
use Rattle.tw_machine.specs.Event.{Event}
use Rattle.tw_machine.specs.Lives.{Happening, At, LookedAt, Life}
use Rattle.tw_machine.specs.World.{world}

abbrev pub happened : Happening → Life → Life
happened x life = record life { events = x ∷ life.events }

-- what a received datagram is; of one that wasn't sent nothing comes
abbrev pub received : ℕ → Option Dispatch → Life → Life
received h None life = life
received h (Some d) life = happened (At h (Event.Packet (Ok d.datagram))) life

-- a life after an act of its process at its reading h, after these datagrams were sent
abbrev pub life_after : ℕ → List Dispatch → Act → Option Life → Option Life
life_after h sent First life = Some (record { mode = modes.First; began = h; events = [] })
life_after h sent Again life = Some (record { mode = modes.Again; began = h; events = [] })
life_after h sent Crash life = None
life_after h sent Tick life = option_map (happened (At h Event.Tick)) life
life_after h sent (Recv d) life = option_map (received h (numbered d sent)) life
life_after h sent (Send order atom payload) life = option_map (happened (At h (Event.Send order atom payload.items))) life
life_after h sent (Reference lo hi) life = option_map (happened (At h (Event.Reference lo hi))) life
life_after h sent Look life = option_map (happened (LookedAt h)) life

-- the present life of a process in a schedule, None where it doesn't run
abbrev pub life_in : Team → List Step → ℕ → Option Life
life_in team [] who = None
life_in team (s ∷ past) who = if s.who == who then life_after s.h (world team past).sent s.act (life_in team past who) else life_in team past who
