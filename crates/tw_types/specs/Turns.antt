-- The rotating decider: whose turn it is to make a group's next decision, and what that decision is.
use Rattle.std.specs.Prelude.{ℕ, ◌+◌, ◌-◌, ◌^◌, nat_le, nat_lt, ◌==◌, max, min, Bool, false, ◌&&◌, if◌then◌else◌, List, map, drop, Option, Some, None, filter_map, is_some, unwrap_or}
use Rattle.std.specs.List.{list_all, reduce}
use Rattle.std.specs.Option.{option_map_or}
use Rattle.tw_types.specs.declared.team.Team.{Team}
use Rattle.tw_types.specs.declared.message.Member.{Member}
use Rattle.tw_types.specs.declared.message.Entry.{Entry}
use Rattle.tw_types.specs.declared.message.Support.{Support}
use Rattle.tw_types.specs.declared.message.Seat.{Seat}
use Rattle.tw_types.specs.declared.message.Decision.{Decision}
use Rattle.tw_types.specs.Ranges.{DecisionFits}
use Rattle.tw_types.specs.Decisions.{decision_length, is_same_member}
use Rattle.tw_types.specs.Slots.{seat_after}
use Rattle.tw_types.specs.Appending.{with_appended}

-- the seat after the maker of a decision is this member's
abbrev pub is_next : Member → Decision → Bool
is_next me d = option_map_or (λ (s : Seat). is_same_member s.member me) (seat_after d.maker d.seats.items) false

-- A next decision is due to the member after the last one's maker, once so much time passed, if it promised no other group.
abbrev pub is_turn : Team → Member → Option Decision → (promised t : ℕ) → Bool
is_turn team me None promised t = false
is_turn team me (Some last) promised t = (last.group == promised) && is_next me last && nat_le (last.made + team.decide) t && nat_lt last.turn (2 ^ 60 - 1)

-- the last decision with the next turn, made at t by the process who
abbrev pub next_draft : Decision → (t who : ℕ) → Decision
next_draft last t who = record last { turn = last.turn + 1; made = t; maker = who }

-- the seat of this process has the support, and each other seat what it had
abbrev pub supported : ℕ → Support → Seat → Seat
supported who support seat = if seat.member.who == who then record seat { support = Some support } else seat

-- what the seats say that they have of the list
abbrev pub acks : List Seat → List ℕ
acks seats = map (λ (support : Support). support.ack) (filter_map (λ (s : Seat). s.support) seats)

-- the least of some numbers, 0 of none
abbrev pub least : List ℕ → ℕ
least xs = unwrap_or (reduce min xs) 0

-- Where every seat has a support, what all of them have needs no place in the window.
abbrev pub raised_low : ℕ → List Seat → ℕ
raised_low low seats = if list_all (λ (s : Seat). is_some s.support) seats then max low (least (acks seats)) else low

-- a decision from this position on, not below its low
abbrev pub cut_to : ℕ → Decision → Decision
cut_to low d = record d { low = low; window = record { items = drop (low - d.low) d.window.items } }

-- the maker's seat says that it has the whole list, by the moment of making
abbrev pub with_own_support : Decision → Decision
with_own_support d = record d { seats = record { items = map (supported d.maker (record { ack = decision_length d; at = d.made })) d.seats.items } }

-- a draft is in the ranges of the wire, but that its maker's support is still to come
abbrev pub DraftFits : ℕ → Decision → Type 0
DraftFits n draft = DecisionFits n (with_own_support draft)

-- a draft becomes a decision: the maker supports it, and the window loses what every member has
abbrev pub finished : Decision → Decision
finished draft = cut_to (raised_low draft.low (with_own_support draft).seats.items) (with_own_support draft)

-- the next decision, which process who makes at t and adds these entries in
abbrev pub next_decision : List Entry → Decision → (t who : ℕ) → Decision
next_decision entries last t who = finished (with_appended entries (next_draft last t who))
