-- Reading a body from left to right, and a whole datagram, with the first fault that is met.
use Rattle.std.specs.Prelude.{ℕ, zero, suc, ◌+◌, ◌-◌, ◌*◌, ◌%◌, min, nat_lt, nat_le, ◌==◌, Bool, false, ◌&&◌, if◌then◌else◌, List, length, Option, None, Result, Ok, Err}
use Rattle.std.specs.Int.{w16, w64}
use Rattle.tw_types.specs.declared.team.Team.{Team}
use Rattle.tw_types.specs.declared.message.Kept.{Kept}
use Rattle.tw_types.specs.declared.datagram.Head.{Head}
use Rattle.tw_types.specs.declared.datagram.Why.{Why}
use Rattle.tw_types.specs.declared.datagram.Why.TheVariants.{Stuck, Join}
use Rattle.tw_types.specs.declared.datagram.Want.{Want}
use Rattle.tw_types.specs.declared.datagram.Want.TheVariants as wants
use Rattle.tw_types.specs.declared.datagram.Body.{Body}
use Rattle.tw_types.specs.declared.datagram.Body.TheVariants as bodies
use Rattle.tw_types.specs.declared.datagram.Datagram.{Datagram}
use Rattle.tw_types.specs.declared.datagram.WireFault.{WireFault}
use Rattle.tw_types.specs.declared.datagram.WireFault.TheVariants.{Long, Kind}
use Rattle.wire_head.specs.Reading.{◌>>=◌, where_allowed, field_at, is_positive, count_at, positive_at, byte_to, text_at, head_at}
use Rattle.wire_body.specs.Lists.{counted_at, optional_at}
use Rattle.wire_body.specs.Entries.{id_at, entry_at}
use Rattle.wire_body.specs.Decisions.{decision_at, decision_size}
use Rattle.wire_body.specs.Votes.{promise_at, promise_of, optional_size, no_decision_at, no_decision_of}

-- ---- an update

unfoldable pub update_at : ℕ → List ℕ → Result Kept WireFault
update_at n bytes = do
  entry ← entry_at n false bytes 57
  payload ← counted_at w16 (λ l. nat_le l 128) text_at bytes 79
  Ok (record { entry = entry; early = false; payload = record { items = payload } })

-- ---- an election

-- no group behind a 0, and one behind a 1
abbrev pub is_group_for : ℕ → ℕ → Bool
is_group_for zero group = group == 0
is_group_for (suc number) group = is_positive group

abbrev pub why_from : ℕ → ℕ → Why
why_from zero group = Stuck
why_from (suc number) group = Join group

unfoldable pub why_at : List ℕ → ℕ → Result Why WireFault
why_at bytes place = do
  number ← byte_to 1 bytes place
  group ← field_at w64 (is_group_for number) bytes (place + 1)
  Ok (why_from number group)

unfoldable pub election_at : List ℕ → Result (ℕ × Why) WireFault
election_at bytes = do
  number ← positive_at bytes 57
  why ← why_at bytes 65
  Ok (number, why)

-- ---- what is asked for

unfoldable pub wanted_at : ℕ → ℕ → List ℕ → ℕ → Result Want WireFault
wanted_at zero n bytes place = do
  id ← id_at n bytes place
  Ok (wants.Update id)
wanted_at (suc number) n bytes place = do
  group ← positive_at bytes place
  Ok (wants.Table group)

unfoldable pub want_at : ℕ → List ℕ → Result Want WireFault
want_at n bytes = do
  number ← byte_to 1 bytes 57
  wanted_at number n bytes 58

-- where an Ask ends
abbrev pub want_end : Want → ℕ
want_end (wants.Update id) = 71
want_end (wants.Table group) = 66

-- ---- a piece of the application's content

pub record Piece : Type 0 where
  pub group : ℕ
  pub position : ℕ
  pub total : ℕ
  pub offset : ℕ
  pub bytes : List ℕ

abbrev pub is_total : ℕ → Bool
is_total n = nat_le 1 n && nat_le n 4096

abbrev pub is_offset_below : ℕ → ℕ → Bool
is_offset_below total n = nat_lt n total && (n % 1024 == 0)

unfoldable pub piece_at : List ℕ → Result Piece WireFault
piece_at bytes = do
  group ← positive_at bytes 57
  position ← count_at bytes 65
  total ← field_at w16 is_total bytes 73
  offset ← field_at w16 (is_offset_below total) bytes 75
  piece ← counted_at w16 (λ l. l == min 1024 (total - offset)) text_at bytes 77
  Ok (record { group = group; position = position; total = total; offset = offset; bytes = piece })

abbrev pub state_of : Piece → Body
state_of p = bodies.State p.group p.position p.total p.offset (record { items = p.bytes })

-- ---- a sign of life

unfoldable pub ready_at : List ℕ → ℕ → Result (ℕ × ℕ × ℕ) WireFault
ready_at bytes place = do
  group ← count_at bytes place
  turn ← count_at bytes (place + 8)
  length ← count_at bytes (place + 16)
  Ok (group, turn, length)

unfoldable pub sync_at : List ℕ → Result (Option (ℕ × ℕ × ℕ)) WireFault
sync_at bytes = optional_at 3 ready_at bytes 57

-- ---- bodies and datagrams

-- a body made of what was read, and the place where it ends
abbrev pub in_body : {A : Type 0} → (A → Body) → (A → ℕ) → Result A WireFault → Result (Body × ℕ) WireFault
in_body body_of end_of read = do
  x ← read
  Ok (body_of x, end_of x)

abbrev pub election_of : ℕ × Why → Body
election_of e = bodies.Election e.0 e.1

-- the body of this kind, behind this head
unfoldable pub body_at : ℕ → Head → ℕ → List ℕ → Result (Body × ℕ) WireFault
body_at n head kind bytes =
    if kind == 1 then in_body bodies.Update (λ k. 81 + length k.payload.items) (update_at n bytes)
    else if kind == 2 then in_body bodies.Decision (λ d. 57 + decision_size d) (decision_at n None None bytes 57)
    else if kind == 3 then in_body no_decision_of (λ g. 83 + 51 * length g.reports + decision_size g.best) (no_decision_at n bytes)
    else if kind == 4 then in_body election_of (λ e. 74) (election_at bytes)
    else if kind == 5 then in_body promise_of (λ p. 117 + optional_size p.decision) (promise_at n head bytes)
    else if kind == 6 then in_body bodies.Ask want_end (want_at n bytes)
    else if kind == 7 then in_body state_of (λ p. 79 + length p.bytes) (piece_at bytes)
    else if kind == 8 then in_body bodies.Sync (λ r. 82) (sync_at bytes)
    else Err Kind

-- the datagram with this head and the body that was read, where nothing follows
abbrev pub whole : Head → List ℕ → Result (Body × ℕ) WireFault → Result Datagram WireFault
whole head bytes read = do
  body ← read
  where_allowed (nat_le (length bytes) body.1) Long (record { head = head; body = body.0 })

-- all of the bytes
unfoldable pub datagram_at : Team → List ℕ → Result Datagram WireFault
datagram_at team bytes = do
  head ← head_at team bytes
  whole head.0 bytes (body_at team.n head.0 head.1 bytes)

-- a datagram to read into
abbrev pub blank : Datagram
blank = record { head = record { from = 0; to = 0; incarnation = 0; sent = 0; interval = None; echo = None }; body = bodies.Sync None }
