-- The parts of what is written.
use Rattle.std.proofs.Common.{◌≡◌, ◌≤◌, refl, ap, sym, ◌∙◌, subst, ℕ, List, [], ◌∷◌, ◌++◌, map, length, take, Option, append_assoc}
use Rattle.std.proofs.lemmas.List.{take_all}
use Rattle.std.specs.List.{flat_map}
use Rattle.tw_types.specs.Row.{Row}
use Rattle.tw_machine.specs.Types.{Datagram}
use Rattle.tw_types.specs.Spelling.{spelling}
use Rattle.tw_machine.specs.Record.{Input, Told, in_line, packet_line, told_text}
use Rattle.tw_machine.specs.RowText.{row_line, entry_line, lines_before_sends, lines_around}
use Rattle.schedule_text.specs.Puts.{Written}
use Rattle.record_text.specs.declared.packet.Packet.{Packet}
use Rattle.record_text.specs.Packets.{packet_seen}
use Rattle.record_text.specs.Events.{event_text}

abbrev pub packet_text : Packet → List ℕ
packet_text p = packet_line (packet_seen p)

pub over_map : {X Y : Type 0} (text : Y → List ℕ) (of : X → Y) (xs : List X) → flat_map text (map of xs) ≡ flat_map (λ x. text (of x)) xs
over_map text of [] = refl
over_map text of (x ∷ xs) = ap (λ t. text (of x) ++ t) (over_map text of xs)

pub event_in_parts : (h : ℕ) (input : Input) (row : Row) (packets : List (ℕ × List ℕ))
    → event_text h input row packets ≡ in_line h input ++ ((row_line row ++ lines_before_sends row) ++ (flat_map packet_line packets ++ flat_map entry_line row.entries))
event_in_parts h input row packets = ap (λ t. in_line h input ++ t) (sym (append_assoc (row_line row) (lines_before_sends row) _))

-- where the packets are the spellings of an event's datagrams
pub told_is : (h : ℕ) (input : Input) (row : Row) (packets : List (ℕ × List ℕ)) (line : ℕ) (t : Told) → t.h ≡ h → t.input ≡ input → t.row ≡ row
    → packets ≡ map (λ s. (s.0, spelling line s.1)) t.sends → event_text h input row packets ≡ told_text line t
told_is h input row packets line t at is prints spelled =
    ap (λ x. event_text x input row packets) (sym at)
    ∙ ap (λ x. event_text t.h x row packets) (sym is)
    ∙ ap (λ x. event_text t.h t.input x packets) (sym prints)
    ∙ ap (λ x. event_text t.h t.input t.row x) spelled
    ∙ ap (λ x. in_line t.h t.input ++ (row_line t.row ++ lines_around x t.row)) (over_map packet_line (λ (s : ℕ × Datagram). (s.0, spelling line s.1)) t.sends)

pub all_written : {a b : Option (List ℕ)} {f g : ℕ} (packets : List Packet) (i : ℕ) → length packets ≤ i → Written a b f g (flat_map packet_text (take i packets)) → Written a b f g (flat_map packet_line (map packet_seen packets))
all_written {a = a} {b = b} {f = f} {g = g} packets i all w =
    let whole : take i packets ≡ packets = take_all i packets all in
    rw (over_map packet_line packet_seen packets) (subst (λ (ps : List Packet). Written a b f g (flat_map packet_text ps)) whole w)
