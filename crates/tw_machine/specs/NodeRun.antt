-- The run of a node: what its process takes from a clock and from a link, turn by turn, and what it sends and answers.
use Rattle.std.specs.Prelude.{ℕ, zero, suc, ◌+◌, ◌^◌, ◌≡◌, ◌≢◌, ◌⊎◌, ◌==◌, nat_le, max, Bool, true, false, ◌&&◌, if◌then◌else◌, List, [], ◌∷◌, ◌++◌, map, take, length, slice_get, Option, Some, None, codes}
use Rattle.std.specs.List.{join_with_byte, flat_map, AllByRecursion}
use Rattle.tw_machine.specs.Types.{Team, Order, Atom, Mode, Datagram}
use Rattle.tw_types.specs.Process.{Process}
use Rattle.tw_types.specs.Spelling.{spelling}
use Rattle.tw_machine.specs.Applied.{Meaning}
use Rattle.tw_machine.specs.Grammar.{IsPayload}
use Rattle.tw_machine.specs.Lives.{Happening, after_all}
use Rattle.tw_machine.specs.NodeText.{Address, NodeText}
use Rattle.tw_machine.specs.Record.{Input, Wire, Told, happening, deed_of_happening, told_by, input_fields, record_text}
use Rattle.tw_machine.specs.RowText.{line_of, row_line, answer_words, entry_line}

-- ---- what arrives

-- a datagram that arrives
pub record Arrival : Type 0 where
  pub from : Address
  pub bytes : List ℕ

-- the most bytes of a datagram that are received; what is behind them is cut off
abbrev pub packet_limit : ℕ
packet_limit = 4096

-- what a client asks for
pub data Request : Type 0 where
  ToSend : (order : Order) → (atom : Atom) → (payload : List ℕ) → Request
  ToLook : Request
  ToStop : Request
  Unknown : Request

-- `send ORDER ATOM HEX`
abbrev pub send_text : Order → Atom → List ℕ → List ℕ
send_text order atom payload = join_with_byte 32 (input_fields (Input.Send order atom payload))

-- what a client's line asks for
abbrev pub IsRequest : List ℕ → Request → Type 0
IsRequest line (ToSend order atom payload) = (line ≡ send_text order atom payload) × IsPayload payload
IsRequest line ToLook = line ≡ codes "look"
IsRequest line ToStop = line ≡ codes "stop"
IsRequest line Unknown = ((order : Order) (atom : Atom) (payload : List ℕ) → line ≡ send_text order atom payload → IsPayload payload → ⊥) × (line ≢ codes "look") × (line ≢ codes "stop")

-- the line that a client's datagram has: one line feed at its end is no part of it
abbrev pub IsLineOf : List ℕ → List ℕ → Type 0
IsLineOf bytes line = (bytes ≡ line ++ 10 ∷ []) ⊎ ((bytes ≡ line) × ((front : List ℕ) → bytes ≢ front ++ 10 ∷ []))

-- what a turn receives: nothing, bytes from the address of a process of the team, or what a client asks for
pub data Item : Type 0 where
  Nothing : Item
  Bytes : (bytes : List ℕ) → Item
  Asked : (from : Address) → (request : Request) → Item

-- a process of the team is reached at this address
abbrev pub IsPeer : Address → List Address → Type 0
IsPeer at [] = ⊥
IsPeer at (b ∷ peers) = (at ≡ b) ⊎ IsPeer at peers

-- what an arrival is to a node of these processes
abbrev pub IsItem : List Address → Option Arrival → Item → Type 0
IsItem peers None Nothing = Unit {0}
IsItem peers (Some a) (Bytes bytes) = IsPeer a.from peers × (bytes ≡ take packet_limit a.bytes)
IsItem peers (Some a) (Asked from request) = (IsPeer a.from peers → ⊥) × (from ≡ a.from) × (line : List ℕ) × IsLineOf (take packet_limit a.bytes) line × IsRequest line request
IsItem peers arrival item = ⊥

-- what arrivals are, one after the other
abbrev pub AreItems : List Address → List (Option Arrival) → List Item → Type 0
AreItems peers [] [] = Unit {0}
AreItems peers (a ∷ arrivals) (item ∷ items) = IsItem peers a item × AreItems peers arrivals items
AreItems peers arrivals items = ⊥

-- ---- one turn

-- the next reading: it doesn't fall, and where none is left the last one stands
abbrev pub next_reading : ℕ → List ℕ → ℕ
next_reading last [] = last
next_reading last (reading ∷ readings) = max last reading

abbrev pub readings_left : List ℕ → List ℕ
readings_left [] = []
readings_left (reading ∷ readings) = readings

abbrev pub next_item : List Item → Item
next_item [] = Nothing
next_item (item ∷ items) = item

abbrev pub items_left : List Item → List Item
items_left [] = []
items_left (item ∷ items) = items

-- a reading that a clock can't have
abbrev pub is_spent : ℕ → Bool
is_spent h = nat_le (2 ^ 60) h

-- A node's process, as it is between two turns: what happened to it, the newest first, how much that was, its last reading, and the reading
-- at which its node gave it its own clock as team time the last time.
pub record Between : Type 0 where
  pub happened : List Happening
  pub events : ℕ
  pub last : ℕ
  pub given : Option ℕ

-- the own clock is team time, and it is time to say so: it wasn't said yet, or `pace` ticks ago
abbrev pub is_own : ℕ → Option ℕ → Bool
is_own who None = false
is_own who (Some named) = named == who

abbrev pub is_time : ℕ → ℕ → Option ℕ → Bool
is_time pace h None = true
is_time pace h (Some given) = nat_le (given + pace) h

abbrev pub is_due : NodeText → ℕ → ℕ → Option ℕ → Bool
is_due text who h given = is_own who text.clock && is_time text.team.pace h given

abbrev pub own_reference : NodeText → ℕ → ℕ → Option ℕ → List Input
own_reference text who h given = if is_due text who h given then Input.Reference h h ∷ [] else []

-- what an item is to the process: what is unknown, and a wish to stop, are nothing to it
abbrev pub inputs_asked : Request → List Input
inputs_asked (ToSend order atom payload) = Input.Send order atom payload ∷ []
inputs_asked ToLook = Input.Look ∷ []
inputs_asked ToStop = []
inputs_asked Unknown = []

abbrev pub inputs_of : Item → List Input
inputs_of Nothing = Input.Tick ∷ []
inputs_of (Bytes bytes) = Input.Packet bytes ∷ []
inputs_of (Asked from request) = inputs_asked request

-- The process and the node that it is run by: what stays the same from turn to turn.
pub record Node (Content : Type 0) : Type 0 where
  pub meaning : Meaning Content
  pub wire : Wire
  pub text : NodeText
  pub who : ℕ
  pub mode : Mode
  pub began : ℕ

-- the process after what happened to it
abbrev pub process_after : {Content : Type 0} → Node Content → List Happening → Process
process_after n happened = after_all n.text.team n.who n.mode n.began happened

-- what comes of one more input, which has this number
abbrev pub told_of : {Content : Type 0} → Node Content → ℕ → ℕ → Input → List Happening → Told
told_of n number h input happened = told_by n.meaning n.text.team n.who number h input
    (deed_of_happening n.text.team (happening n.wire h input) (process_after n happened)) (process_after n (happening n.wire h input ∷ happened))

-- what comes of inputs at one reading, behind so many events
abbrev pub all_told : {Content : Type 0} → Node Content → ℕ → ℕ → List Input → List Happening → List Told
all_told n events h [] happened = []
all_told n events h (input ∷ inputs) happened = told_of n (events + 1) h input happened ∷ all_told n (events + 1) h inputs (happening n.wire h input ∷ happened)

abbrev pub all_happened : {Content : Type 0} → Node Content → ℕ → List Input → List Happening → List Happening
all_happened n h [] happened = happened
all_happened n h (input ∷ inputs) happened = all_happened n h inputs (happening n.wire h input ∷ happened)

-- a send call: where to, and the bytes
pub record Call : Type 0 where
  pub to : Address
  pub bytes : List ℕ

-- the send call of a datagram to the process of this number
abbrev pub call_to : ℕ → Datagram → Option Address → List Call
call_to line d None = []
call_to line d (Some at) = record { to = at; bytes = spelling line d } ∷ []

abbrev pub calls_of : NodeText → Told → List Call
calls_of text t = flat_map (λ (s : ℕ × Datagram). call_to text.team.line s.1 (slice_get text.peers s.0)) t.sends

-- the answer to a client, by what came of its line: a send's is its row's answer, a look's its row and the table
abbrev pub answer_text : Request → List Told → List ℕ
answer_text (ToSend order atom payload) events = flat_map (λ t. line_of (answer_words t.row.answer)) events
answer_text ToLook events = flat_map (λ t. row_line t.row ++ flat_map entry_line t.row.entries) events
answer_text ToStop events = codes "stopped" ++ 10 ∷ []
answer_text Unknown events = codes "unknown" ++ 10 ∷ []

abbrev pub answer_call : Item → List Told → List Call
answer_call Nothing events = []
answer_call (Bytes bytes) events = []
answer_call (Asked from request) events = record { to = from; bytes = answer_text request events } ∷ []

abbrev pub stops : Item → Bool
stops (Asked from ToStop) = true
stops item = false

-- what a turn gives: what came of the own reference and of the item, the datagrams of these, and then the answer to a client
pub record Turn : Type 0 where
  pub events : List Told
  pub calls : List Call
  pub next : Between

abbrev pub turn_by : {Content : Type 0} → Node Content → ℕ → Item → List Input → Between → Turn
turn_by n h item own b =
    let before : List Happening = all_happened n h own b.happened in
    let first : List Told = all_told n b.events h own b.happened in
    let second : List Told = all_told n (b.events + length own) h (inputs_of item) before in
    record {
      events = first ++ second;
      calls = flat_map (calls_of n.text) (first ++ second) ++ answer_call item second;
      next = record {
        happened = all_happened n h (inputs_of item) before;
        events = b.events + length own + length (inputs_of item);
        last = h;
        given = if is_due n.text n.who h b.given then Some h else b.given;
      };
    }

abbrev pub turn : {Content : Type 0} → Node Content → ℕ → Item → Between → Turn
turn n h item b = turn_by n h item (own_reference n.text n.who h b.given) b

-- ---- the run

-- how a run ended: after its turns, as a client wished, or since the clock had no reading any more
pub data End : Type 0 where
  Turned : End
  Stopped : End
  Spent : End

-- all that came of a run: its events in their order, its send calls in theirs, and its end
pub record NodeRun : Type 0 where
  pub events : List Told
  pub calls : List Call
  pub end : End

abbrev pub ended : End → NodeRun
ended end = record { events = []; calls = []; end = end }

-- a turn, and then the rest of the run
abbrev pub behind : Turn → NodeRun → NodeRun
behind t rest = record { events = t.events ++ rest.events; calls = t.calls ++ rest.calls; end = rest.end }

-- So many turns, each with the next reading and the next item. A reading that is spent ends the run, and the item of that turn is lost.
abbrev pub turns_from : {Content : Type 0} → Node Content → ℕ → List ℕ → List Item → Between → NodeRun
turns_from n zero readings items b = ended Turned
turns_from n (suc left) readings items b =
    let h : ℕ = next_reading b.last readings in
    let item : Item = next_item items in
    let t : Turn = turn n h item b in
    if is_spent h then ended Spent
    else if stops item then behind t (ended Stopped)
    else behind t (turns_from n left (readings_left readings) (items_left items) t.next)

-- a node before its first turn
abbrev pub at_start : ℕ → Between
at_start h = record { happened = []; events = 0; last = h; given = None }

-- The run of a node over readings and items. The first reading is the one at which its process starts.
abbrev pub node_run : {Content : Type 0} → Meaning Content → Wire → NodeText → ℕ → Mode → ℕ → List ℕ → List Item → NodeRun
node_run meaning wire text who mode turns readings items =
    let h : ℕ = next_reading 0 readings in
    if is_spent h then ended Spent
    else turns_from (record { meaning = meaning; wire = wire; text = text; who = who; mode = mode; began = h }) turns (readings_left readings) items (at_start h)

-- the record of a run; a node whose first reading is spent writes nothing
abbrev pub run_text : NodeText → ℕ → Mode → List ℕ → NodeRun → List ℕ
run_text text who mode readings run = if is_spent (next_reading 0 readings) then [] else record_text text.team who mode (next_reading 0 readings) run.events
