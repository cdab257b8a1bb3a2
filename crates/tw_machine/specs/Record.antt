-- The record of a node: its team, how its process was started, and each event with the row and the datagrams that came of it.
use Rattle.std.specs.Prelude.{ℕ, List, [], ◌∷◌, ◌++◌, Some, Result, codes}
use Rattle.std.specs.List.{flat_map}
use Rattle.std.specs.Fmt.{decimal}
use Rattle.tw_machine.specs.Types.{Team, Order, Atom, Mode, Datagram, WireFault, RowAnswer}
use Rattle.tw_types.specs.declared.outputs.Mode.TheVariants as modes
use Rattle.tw_types.specs.declared.step.Act.TheVariants as acts
use Rattle.tw_types.specs.Process.{Process}
use Rattle.tw_types.specs.Row.{Row}
use Rattle.tw_types.specs.Printed.{row_printed}
use Rattle.tw_types.specs.Spelling.{spelling}
use Rattle.tw_machine.specs.Applied.{Meaning}
use Rattle.tw_machine.specs.Event as event
use Rattle.tw_machine.specs.Grammar.{team_line, act_fields, hex_word}
use Rattle.tw_machine.specs.Lives.{Happening, At, LookedAt}
use Rattle.tw_machine.specs.RowText.{line_of, row_line, lines_around}
use Rattle.tw_machine.specs.Rows.{line_by, entries_by}
use Rattle.tw_machine.specs.Step.{looked, view_of}
use Rattle.tw_machine.specs.World.{Deed, silent, happen}

-- What happens to the process of a node: time passed; bytes came from a peer; team time is known to lie from lo to hi; an update is to be
-- sent; it is looked at.
pub data Input : Type 0 where
  Tick : Input
  Packet : (bytes : List ℕ) → Input
  Reference : (lo hi : ℕ) → Input
  Send : (order : Order) → (atom : Atom) → (payload : List ℕ) → Input
  Look : Input

-- an input as it is written, where there is an act of a schedule like that act
abbrev pub input_fields : Input → List (List ℕ)
input_fields Tick = act_fields acts.Tick
input_fields (Packet bytes) = codes "packet" ∷ hex_word bytes ∷ []
input_fields (Reference lo hi) = act_fields (acts.Reference lo hi)
input_fields (Send order atom payload) = act_fields (acts.Send order atom (record { items = payload }))
input_fields Look = act_fields acts.Look

-- what the wire says of bytes
abbrev pub Wire : Type 0
Wire = List ℕ → Result Datagram WireFault

-- an input at the reading h, as it happens to the process
abbrev pub happening : Wire → ℕ → Input → Happening
happening wire h Tick = At h event.Event.Tick
happening wire h (Packet bytes) = At h (event.Event.Packet (wire bytes))
happening wire h (Reference lo hi) = At h (event.Event.Reference lo hi)
happening wire h (Send order atom payload) = At h (event.Event.Send order atom payload)
happening wire h Look = LookedAt h

-- what comes of it
abbrev pub deed_of_happening : Team → Happening → Process → Deed
deed_of_happening team (At h e) p = happen team h e p
deed_of_happening team (LookedAt h) p = silent (Some (looked team h p)) RowAnswer.Look

-- the act of a schedule that a look is; no other input shows the table
abbrev pub entries_after : {Content : Type 0} → Meaning Content → Input → Process → List (ℕ × ℕ)
entries_after meaning Look p = entries_by meaning acts.Look (Some p)
entries_after meaning input p = []

-- An input at a reading, the row that tells what came of it, and the datagrams that the process sent, each with its receiver.
pub record Told : Type 0 where
  pub h : ℕ
  pub input : Input
  pub row : Row
  pub sends : List (ℕ × Datagram)

-- of an input of this number to process `who`, by what it came to and the process after it
abbrev pub told_by : {Content : Type 0} → Meaning Content → Team → ℕ → ℕ → ℕ → Input → Deed → Process → Told
told_by meaning team who number h input d next = record {
  h = h;
  input = input;
  row = row_printed (line_by number who d.answer (view_of team h next)) d.out 1 (entries_after meaning input next);
  sends = d.out.sends;
}

-- `in H EVENT`
abbrev pub in_line : ℕ → Input → List ℕ
in_line h input = line_of (codes "in" ∷ decimal h ∷ input_fields input)

-- `+ out WHO HEX`, the bytes of a datagram behind its receiver
abbrev pub packet_line : ℕ × List ℕ → List ℕ
packet_line p = line_of (codes "+" ∷ codes "out" ∷ decimal p.0 ∷ hex_word p.1 ∷ [])

-- the whole datagram
abbrev pub out_line : ℕ → ℕ × Datagram → List ℕ
out_line line s = packet_line (s.0, spelling line s.1)

-- the row's line, what was decided and delivered, the datagrams, and what a look shows of the table
abbrev pub outputs_text : ℕ → Told → List ℕ
outputs_text line t = row_line t.row ++ lines_around (flat_map (out_line line) t.sends) t.row

abbrev pub told_text : ℕ → Told → List ℕ
told_text line t = in_line t.h t.input ++ outputs_text line t

abbrev pub mode_word : Mode → List ℕ
mode_word modes.First = codes "first"
mode_word modes.Again = codes "again"

-- `core WHO MODE H`
abbrev pub core_line : ℕ → Mode → ℕ → List ℕ
core_line who mode h = line_of (codes "core" ∷ decimal who ∷ mode_word mode ∷ decimal h ∷ [])

-- the record of a node of this team, whose process started at the reading h
abbrev pub record_text : Team → ℕ → Mode → ℕ → List Told → List ℕ
record_text team who mode h events = (team_line team ++ 10 ∷ []) ++ (core_line who mode h ++ flat_map (told_text team.line) events)
