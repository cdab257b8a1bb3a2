-- What an event of a node gives.
use Rattle.std.specs.Prelude.{ℕ, ◌≡◌, List, map, Option}
use Rattle.tw_num.specs.Clock.{IsNotBefore}
use Rattle.record_text.specs.Shown.{entries_shown}
use Rattle.tw_types.specs.Process.{Process}
use Rattle.tw_types.specs.Row.{Row}
use Rattle.tw_machine.specs.Types.{Team}
use Rattle.tw_machine.specs.Applied.{Meaning, meaning_of}
use Rattle.tw_machine.specs.Lives.{Happening}
use Rattle.tw_machine.specs.Record.{Input, Wire, Told, happening, deed_of_happening, told_by}
use Rattle.wire_body.specs.Reading.{datagram_at}
use Rattle.node_core.specs.WithMachine.{WithMachine, StandsWith}
use Rattle.record_text.specs.declared.packet.Packet.{Packet}
use Rattle.record_text.specs.Packets.{packet_seen}
use Rattle.record_text.specs.Events.{event_text}
use Rattle.node_loop.specs.Calls.{spelled}
use Rattle.node_loop.specs.Happened.{after_one}

-- What a machine's contents are to rows: a look shows the entries at the front of a content's snapshot.
abbrev pub meaning_by : {Content : Type 0} → Content → (Content → List ℕ → Content) → (Content → List ℕ) → Meaning Content
meaning_by empty after snapshot_of = meaning_of empty after (λ content. entries_shown (snapshot_of content))

-- a process after an input
abbrev pub next_of : Team → ℕ → Input → Process → Process
next_of team h input p = after_one team (happening (datagram_at team) h input) p

-- what is told of an input
abbrev pub told : {Content : Type 0} → Meaning Content → Team → ℕ → ℕ → ℕ → Input → Process → Told
told meaning team who number h input p = told_by meaning team who number h input (deed_of_happening team (happening (datagram_at team) h input) p) (next_of team h input p)

-- A process of the code took an input: it stands for the process after it, and the row and the datagrams are those that are told.
pub record Happens {A : Type 0} (empty : A) (after : A → List ℕ → A) (meaning : Meaning A) (team : Team) (who number h : ℕ) (input : Input) (p : Process) (c : WithMachine A) (row : Row) (packets : List Packet) : Type 0 where
  pub stands : StandsWith empty after c (next_of team h input p)
  pub known : IsNotBefore h (next_of team h input p).timing.clock
  pub row_is : row ≡ (told meaning team who number h input p).row
  pub packets_are : map packet_seen packets ≡ map (spelled team.line) (told meaning team who number h input p).sends

-- the record of what is told, by the bytes of its datagrams
abbrev pub written_of : ℕ → Told → List ℕ
written_of line t = event_text t.h t.input t.row (map (spelled line) t.sends)
