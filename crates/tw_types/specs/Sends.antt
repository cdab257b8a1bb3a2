-- What a process sends as an update, why it refuses to, and why one that comes isn't kept.
use Rattle.std.specs.Prelude.{ℕ, ◌+◌, ◌≤◌, ◌<◌, ◌≡◌, ◌⊎◌, true, nat_le, nat_lt, max, is_some, Bool, false, not, ◌||◌, if◌then◌else◌, List, [], ◌∷◌, Option, Some, None}
use Rattle.std.specs.Option.{option_map_or}
use Rattle.tw_types.specs.declared.answer.ProposeFault.{ProposeFault}
use Rattle.tw_types.specs.declared.answer.ProposeFault.TheVariants.{TooLong, NotUpToDate, Full, Spent}
use Rattle.tw_types.specs.declared.message.Member.{Member}
use Rattle.tw_types.specs.declared.message.Order.{Order}
use Rattle.tw_types.specs.declared.message.Atom.{Atom}
use Rattle.tw_types.specs.declared.message.Kept.{Kept}
use Rattle.tw_types.specs.declared.message.Seat.{Seat}
use Rattle.tw_types.specs.declared.message.Decision.{Decision}
use Rattle.tw_types.specs.declared.answer.Reason.TheVariants.{Old, NotMember, OutOfWindow}
use Rattle.tw_types.specs.Decisions.{or_none, is_same_member}
use Rattle.tw_types.specs.Refusals.{Refusal}
use Rattle.tw_types.specs.Updates.{sender, has_update, pending_room, seat_of_sender}

-- an update has so many bytes at most
abbrev pub payload_room : ℕ
payload_room = 128

-- the greatest number of an update
abbrev pub last_seq : ℕ
last_seq = 4294967294

-- the number that its sender's seat awaits next
abbrev pub awaited_seq : Option Seat → ℕ
awaited_seq seat = option_map_or (λ (s : Seat). s.next) seat 1

-- An update gets the sender's next number, or the one that its seat awaits where that is greater.
abbrev pub seq_to_send : Option Seat → (next : ℕ) → ℕ
seq_to_send seat next = max next (awaited_seq seat)

-- a reason to refuse a send, and whether it is there
pub record SendRefusal : Type 0 where
  pub why : ProposeFault
  pub present : Bool

-- the first reason that is there, None where nothing refuses
abbrev pub first_send_refusal : List SendRefusal → Option ProposeFault
first_send_refusal [] = None
first_send_refusal (r ∷ rs) = if r.present then Some r.why else first_send_refusal rs

-- Why a process doesn't send a text of this size: by whether it is up, its own seat, if any, and its next number.
abbrev pub send_tests : (size : ℕ) → (up : Bool) → Option Seat → (next : ℕ) → List SendRefusal
send_tests size up seat next =
    record { why = TooLong; present = nat_lt payload_room size }
    ∷ record { why = NotUpToDate; present = not up || not (is_some seat) }
    ∷ record { why = Full; present = nat_le (awaited_seq seat + pending_room) (seq_to_send seat next) }
    ∷ record { why = Spent; present = nat_lt last_seq (seq_to_send seat next) }
    ∷ []

-- What is so exactly where a send is refused for this, or where it isn't refused: its text is short enough, its sender is up and has a seat,
-- fewer than eight numbers are ahead of that seat's, and there is a number left.
abbrev pub SendEnds : (size : ℕ) → (up : Bool) → Option Seat → (next : ℕ) → Option ProposeFault → Type 0
SendEnds size up seat next (Some TooLong) = payload_room < size
SendEnds size up seat next (Some NotUpToDate) = (size ≤ payload_room) × ((up ≡ false) ⊎ (seat ≡ None))
SendEnds size up seat next (Some Full) = (size ≤ payload_room) × (up ≡ true) × (s : Seat) × (seat ≡ Some s) × (s.next + pending_room ≤ seq_to_send seat next)
SendEnds size up seat next (Some Spent) =
    (size ≤ payload_room) × (up ≡ true) × (s : Seat) × (seat ≡ Some s) × (seq_to_send seat next < s.next + pending_room) × (last_seq < seq_to_send seat next)
SendEnds size up seat next None =
    (size ≤ payload_room) × (up ≡ true) × (s : Seat) × (seat ≡ Some s) × (seq_to_send seat next < s.next + pending_room) × (seq_to_send seat next ≤ last_seq)

-- a member's update of this number, which it sends at this reading
abbrev pub update_of : Member → (seq stamp : ℕ) → Order → Atom → List ℕ → Kept
update_of me seq stamp order atom payload = record {
  entry = record { id = record { who = me.who; incarnation = me.incarnation; seq = seq }; order = order; atom = atom; stamp = stamp; late = false };
  early = false;
  payload = record { items = payload };
}

-- an update that a process sent for the first time, and the group in which it was then
pub record Sending : Type 0 where
  pub group : ℕ
  pub update : Kept

-- an update as it is sent again: whether it was ordered late, or delivered early, doesn't count
abbrev pub as_sent : Kept → Kept
as_sent k = record k { entry = record (k.entry) { late = false }; early = false }

-- Why a member doesn't keep an update that comes and fills no hole: by the decision that it took or follows, and by what is pending.
abbrev pub update_tests : Member → Option Decision → List Kept → Kept → List Refusal
update_tests me view pending k =
    record { reason = NotMember; present = not (is_some (seat_of_sender k.entry.id (or_none view))) }
    ∷ record { reason = Old; present = is_same_member (sender k.entry.id) me || nat_lt k.entry.id.seq (awaited_seq (seat_of_sender k.entry.id (or_none view))) || has_update k.entry.id pending }
    ∷ record { reason = OutOfWindow; present = nat_le (awaited_seq (seat_of_sender k.entry.id (or_none view)) + pending_room) k.entry.id.seq }
    ∷ []
