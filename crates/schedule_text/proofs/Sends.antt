-- The lines of datagrams, numbered one after the other.
use Rattle.std.proofs.Common.{◌≡◌, ◌≤◌, refl, ap, sym, ◌∙◌, ℕ, suc, ◌+◌, ◌<◌, List, [], ◌++◌, length, drop, get_or, Option, arith, append_assoc, Result}
use Rattle.std.specs.List.{flat_map}
use Rattle.std.specs.Result.{IsErr}
use Rattle.std.proofs.lemmas.List.{append-nil, drop_more, drop_all}
use Rattle.tw_types.specs.declared.datagram.Datagram.{Datagram}
use Rattle.tw_types.specs.Printed.{contents_of, sends_printed}
use Rattle.tw_machine.specs.RowText.{send_line}
use Rattle.schedule_text.specs.Puts.{Written, Cut, Puts}
use Rattle.schedule_text.proofs.Chains.{nothing_written, written_more, puts_next}

-- the lines of the datagrams from the i-th on, of which the first has this number
abbrev pub lines_from : ℕ → ℕ → List (ℕ × Datagram) → List ℕ
lines_from number i sends = flat_map send_line (sends_printed number (drop i sends))

abbrev pub line_at : ℕ → ℕ × Datagram → List ℕ
line_at number send = send_line (record { number = number; to = send.0; contents = contents_of send.1.body })

-- the lines of the first datagrams are written
pub record SendsWritten (before now : Option (List ℕ)) (faults later first : ℕ) (sends : List (ℕ × Datagram)) (number i : ℕ) : Type 0 where
  pub front : List ℕ
  pub split : lines_from first 0 sends ≡ front ++ lines_from number i sends
  pub written : Written before now faults later front

pub none_written : (a : Option (List ℕ)) (f first : ℕ) (sends : List (ℕ × Datagram)) → SendsWritten a a f f first sends first 0
none_written a f first sends = record { front = []; split = refl; written = nothing_written a f }

next_line : (number i : ℕ) (sends : List (ℕ × Datagram)) (send : ℕ × Datagram) → i < length sends → send ≡ get_or sends i send
    → lines_from number i sends ≡ line_at number send ++ lines_from (number + 1) (i + 1) sends
next_line number i sends send l e = rw (drop_more sends i send l, one) (ap (λ s. line_at number s ++ lines_from (suc number) (i + 1) sends) (sym e))
  where
    one : number + 1 ≡ suc number
    one = omega arith

pub one_written : (a b c : Option (List ℕ)) (f g h first : ℕ) (sends : List (ℕ × Datagram)) (number i : ℕ) (send : ℕ × Datagram) → i < length sends → send ≡ get_or sends i send
    → SendsWritten a b f g first sends number i → Written b c g h (line_at number send) → SendsWritten a c f h first sends (number + 1) (i + 1)
one_written a b c f g h first sends number i send l e s w = record {
  front = s.front ++ line_at number send;
  split = s.split ∙ ap (λ x. s.front ++ x) (next_line number i sends send l e) ∙ sym (append_assoc s.front _ _);
  written = written_more a b c f g h _ _ s.written w;
}

pub send_stops : {A E : Type 0} (a b c : Option (List ℕ)) (f g h first : ℕ) (r : Result A E) (sends : List (ℕ × Datagram)) (number i : ℕ) (send : ℕ × Datagram) → i < length sends → send ≡ get_or sends i send
    → SendsWritten a b f g first sends number i → IsErr r → Cut b c g h (line_at number send) → Puts a c f h r (lines_from first 0 sends)
send_stops a b c f g h first r sends number i send l e s is w = rw (s.split, next_line number i sends send l e) (puts_next r _ s.written is w)

pub all_written : (a b : Option (List ℕ)) (f g first : ℕ) (sends : List (ℕ × Datagram)) (number i : ℕ) → length sends ≤ i → SendsWritten a b f g first sends number i → Written a b f g (lines_from first 0 sends)
all_written a b f g first sends number i l s = rw (s.split, drop_all i sends l, append-nil) s.written
