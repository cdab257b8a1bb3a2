-- A node of the code takes an input as the node of the definitions does.
use Rattle.std.proofs.Common.{◌≡◌, refl, sym, ap, subst, ◌∙◌, ℕ, ◌+◌, ◌<◌, List, [], ◌∷◌, ◌++◌, map, length, Option, Some, None, Result, Ok, Err}
use Rattle.std.specs.Prelude.{slice_get}
use Rattle.std.specs.Option.{option_map}
use Rattle.std.specs.Result.{IsErr}
use Rattle.std.specs.List.{flat_map}
use Rattle.std.proofs.lemmas.Option.{slice_get-map}
use Rattle.std.proofs.lemmas.List.Folds.{flat_map-map}
use Rattle.tw_num.specs.Clock.{IsNotBefore}
use Rattle.tw_io.specs.declared.addr.Addr.{Addr}
use Rattle.tw_io.specs.Link.{Sends}
use Rattle.tw_types.specs.Process.{Process}
use Rattle.tw_types.specs.Row.{Row}
use Rattle.tw_machine.specs.Types.{Team, Datagram}
use Rattle.tw_machine.specs.Applied.{Meaning}
use Rattle.tw_machine.specs.Lives.{Happening}
use Rattle.tw_machine.specs.NodeRun.{Node, Call, process_after, told_of, calls_of, call_to}
use Rattle.tw_machine.specs.NodeText.{Address}
use Rattle.tw_machine.specs.Record.{Input, Told, happening, deed_of_happening, told_by}
use Rattle.wire_body.specs.Reading.{datagram_at}
use Rattle.schedule_text.specs.Puts.{Written, Cut, Puts}
use Rattle.node_core.specs.WithMachine.{WithMachine, StandsWith}
use Rattle.record_text.specs.declared.packet.Packet.{Packet}
use Rattle.record_text.specs.Addresses.{address_of}
use Rattle.record_text.specs.Packets.{packet_seen}
use Rattle.record_text.specs.Events.{event_text}
use Rattle.node_loop.specs.declared.node.Node as code_node
use Rattle.node_loop.specs.Calls.{spelled, call_at, calls_of_packets, Sent}
use Rattle.node_loop.specs.Does.{Does}
use Rattle.node_loop.specs.Events.{next_of, told, written_of, Happens}
use Rattle.node_loop.specs.Happened.{after_one}
use Rattle.node_loop.specs.Runs.{Runs}
use Rattle.node_loop.specs.Texts.{text_seen}
use Rattle.node_loop.proofs.Calls.{no_calls}
use Rattle.node_loop.proofs.Happened.{one_more}

-- the process after an input
pub next_is : {A : Type 0} (n : Node A) (team : Team) (h : ℕ) (input : Input) (happened : List Happening) → n.text.team ≡ team → n.wire ≡ datagram_at n.text.team
    → process_after n (happening n.wire h input ∷ happened) ≡ next_of team h input (process_after n happened)
next_is n team h input happened same wire =
    one_more n.text.team n.who n.mode n.began (happening n.wire h input) happened
    ∙ ap (λ w. after_one n.text.team (happening w h input) (process_after n happened)) wire
    ∙ ap (λ (t : Team). after_one t (happening (datagram_at t) h input) (process_after n happened)) same

-- what is told of it
pub told_is : {A : Type 0} (n : Node A) (meaning : Meaning A) (team : Team) (who number h : ℕ) (input : Input) (happened : List Happening)
    → n.text.team ≡ team → n.who ≡ who → n.wire ≡ datagram_at n.text.team → n.meaning ≡ meaning
    → told_of n number h input happened ≡ told meaning team who number h input (process_after n happened)
told_is n meaning team who number h input happened same own wire means =
    ap (λ q. told_by n.meaning n.text.team n.who number h input (deed_of_happening n.text.team (happening n.wire h input) (process_after n happened)) q) (next_is n team h input happened same wire)
    ∙ ap (λ w. told_by n.meaning n.text.team n.who number h input (deed_of_happening n.text.team (happening w h input) (process_after n happened)) (next_of team h input (process_after n happened))) wire
    ∙ ap (λ (t : Team). told_by n.meaning t n.who number h input (deed_of_happening t (happening (datagram_at t) h input) (process_after n happened)) (next_of team h input (process_after n happened))) same
    ∙ ap (λ k. told_by n.meaning team k number h input (deed_of_happening team (happening (datagram_at team) h input) (process_after n happened)) (next_of team h input (process_after n happened))) own
    ∙ ap (λ m. told_by m team who number h input (deed_of_happening team (happening (datagram_at team) h input) (process_after n happened)) (next_of team h input (process_after n happened))) means

-- the send calls of datagrams that were spelled
call_seen : (line : ℕ) (d : Datagram) (at : Option Addr) → call_to line d (option_map address_of at) ≡ call_at (spelled line (0, d)).1 at
call_seen line d None = refl
call_seen line d (Some a) = refl

pub calls_seen : (line : ℕ) (peers : List Addr) (sends : List (ℕ × Datagram))
    → flat_map (λ (s : ℕ × Datagram). call_to line s.1 (slice_get (map address_of peers) s.0)) sends ≡ calls_of_packets peers (map (spelled line) sends)
calls_seen line peers [] = refl
calls_seen line peers (s ∷ sends) =
    ap (λ c. c ++ flat_map (λ (s : ℕ × Datagram). call_to line s.1 (slice_get (map address_of peers) s.0)) sends) (ap (call_to line s.1) (slice_get-map address_of peers s.0) ∙ call_seen line s.1 (slice_get peers s.0))
    ∙ ap (λ c. call_at (spelled line s).1 (slice_get peers s.0) ++ c) (calls_seen line peers sends)

-- the row, the record and the send calls of it are those of the code
pub event_runs : {A : Type 0} (meaning : Meaning A) (empty : A) (after : A → List ℕ → A) (n : Node A) (happened : List Happening) (h number : ℕ) (input : Input) (node new : code_node.Node A)
    → Runs meaning empty after n happened h node → new.text ≡ node.text → new.who ≡ node.who
    → Happens empty after meaning node.text.team node.who number h input (process_after n happened) new.core new.given.row new.given.packets
    → Runs meaning empty after n (happening n.wire h input ∷ happened) h new
event_runs meaning empty after n happened h number input node new r text who done = record {
  text = r.text ∙ ap text_seen (sym text);
  who = r.who ∙ sym who;
  wire = r.wire;
  meaning_is = r.meaning_is;
  stands = subst (λ (p : Process). StandsWith empty after new.core p) (sym (next_is n node.text.team h input happened (ap (λ t. t.team) r.text) r.wire)) done.stands;
  known = subst (λ (p : Process). IsNotBefore h p.timing.clock) (sym (next_is n node.text.team h input happened (ap (λ t. t.team) r.text) r.wire)) done.known;
}

-- what is told is what the code has
pub told_seen : {A : Type 0} (meaning : Meaning A) (empty : A) (after : A → List ℕ → A) (n : Node A) (happened : List Happening) (h number : ℕ) (input : Input) (node : code_node.Node A)
    → Runs meaning empty after n happened h node → told_of n number h input happened ≡ told meaning node.text.team node.who number h input (process_after n happened)
told_seen meaning empty after n happened h number input node r = told_is n meaning node.text.team node.who number h input happened (ap (λ t. t.team) r.text) r.who r.wire r.meaning_is

-- its calls
pub calls_told : {A : Type 0} (meaning : Meaning A) (empty : A) (after : A → List ℕ → A) (n : Node A) (happened : List Happening) (h : ℕ) (node : code_node.Node A) (t : Told)
    → Runs meaning empty after n happened h node → calls_of n.text t ≡ calls_of_packets node.text.peers.items (map (spelled node.text.team.line) t.sends)
calls_told meaning empty after n happened h node t r = ap (λ x. calls_of x t) r.text ∙ calls_seen node.text.team.line node.text.peers.items t.sends

pub text_told : {A : Type 0} (meaning : Meaning A) (empty : A) (after : A → List ℕ → A) (n : Node A) (happened : List Happening) (h number : ℕ) (input : Input) (node : code_node.Node A) (c : WithMachine A) (row : Row) (packets : List Packet)
    → Runs meaning empty after n happened h node → Happens empty after meaning node.text.team node.who number h input (process_after n happened) c row packets
    → written_of n.text.team.line (told_of n number h input happened) ≡ event_text h input row (map packet_seen packets)
text_told meaning empty after n happened h number input node c row packets r done =
    ap (written_of n.text.team.line) (told_seen meaning empty after n happened h number input node r)
    ∙ ap (λ l. written_of l (told meaning node.text.team node.who number h input (process_after n happened))) (ap (λ t. t.team.line) r.text)
    ∙ ap (λ x. event_text h input x (map (spelled node.text.team.line) (told meaning node.text.team node.who number h input (process_after n happened)).sends)) (sym done.row_is)
    ∙ ap (event_text h input row) (sym done.packets_are)

pub calls_made : {A : Type 0} (meaning : Meaning A) (empty : A) (after : A → List ℕ → A) (n : Node A) (happened : List Happening) (h number : ℕ) (input : Input) (node : code_node.Node A) (c : WithMachine A) (row : Row) (packets : List Packet)
    → Runs meaning empty after n happened h node → Happens empty after meaning node.text.team node.who number h input (process_after n happened) c row packets
    → calls_of n.text (told_of n number h input happened) ≡ calls_of_packets node.text.peers.items (map packet_seen packets)
calls_made meaning empty after n happened h number input node c row packets r done =
    calls_told meaning empty after n happened h node (told_of n number h input happened) r
    ∙ ap (λ (t : Told). calls_of_packets node.text.peers.items (map (spelled node.text.team.line) t.sends)) (told_seen meaning empty after n happened h number input node r)
    ∙ ap (calls_of_packets node.text.peers.items) (sym done.packets_are)

-- what is written and sent, and what is left of both where the sink failed
pub does_all : {A E : Type 0} {a b : Option (List ℕ)} {f g : ℕ} {s t : Option Sends} {text : List ℕ} {calls : List Call} (x : A) → Written a b f g text → Sent s calls t → Does {A = A} {E = E} a b f g s t (Ok x) text calls
does_all x w c = record { written = w; sent = c; cut = tt; some = tt }

pub does_stop : {A E : Type 0} {a b : Option (List ℕ)} {f g : ℕ} {s : Option Sends} {text : List ℕ} (calls : List Call) (r : Result A E) → IsErr r → Cut a b f g text → Does a b f g s s r text calls
does_stop calls (Ok x) is p = absurd (cc (is))
does_stop {s = s} calls (Err x) is p = record { written = tt; sent = tt; cut = p; some = ([], calls, refl, no_calls s) }
