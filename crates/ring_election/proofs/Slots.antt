-- Slots are far below the end of the numbers, and each seat is of a process of the team.
use Rattle.std.proofs.Common.{◌≡◌, ℕ, ◌*◌, ◌/◌, ◌^◌, ◌<◌, ◌≤◌, Bool, true, false, List, [], ◌∷◌, Option, Some, None, refl, cond, arith}
use Rattle.std.specs.Prelude.{find, slice_get, IfSome, nat_lt, ◌==◌}
use Rattle.std.specs.List.{AllByRecursion}
use Rattle.std.specs.Option.{option_or, option_map_or}
use Rattle.std.proofs.Math.Nat.{mul-div-le, mul-le-mul_right}
use Rattle.tw_types.specs.declared.team.Team.{Team}
use Rattle.tw_types.specs.declared.message.Seat.{Seat}
use Rattle.tw_types.specs.declared.message.Decision.{Decision}
use Rattle.tw_types.specs.Team.{IsSound}
use Rattle.tw_types.specs.Ranges.{SeatFits, DecisionFits}
use Rattle.tw_types.specs.Slots.{slot_of, after}
use Rattle.tw_types.specs.Rings.{after_but}

at_most_a_fifth : (t s : ℕ) → 5 ≤ s → t < 2 ^ 60 → 5 * (t / s) < 2 ^ 60
at_most_a_fifth t s few below =
    let whole : s * (t / s) ≤ t = mul-div-le t s in
    let fifth : 5 * (t / s) ≤ s * (t / s) = mul-le-mul_right (t / s) few in
    omega arith

pub slot_small : (team : Team) (t : ℕ) → IsSound team → t < 2 ^ 60 → 5 * slot_of team t < 2 ^ 60
slot_small team t sound below = at_most_a_fifth t team.slot (let eps = sound.eps in let slot = sound.slot in omega arith) below

-- ---- seats

found : (n who : ℕ) (seats : List Seat) → AllByRecursion (SeatFits n) seats → IfSome (find (λ (s : Seat). nat_lt who s.member.who) seats) (λ (s : Seat). s.member.who < n)
found n who [] h = tt
found n who (s ∷ seats) h = go (nat_lt who s.member.who) refl (found n who seats h.1)
  where
    go : (t : Bool) → nat_lt who s.member.who ≡ t → IfSome (find (λ (s : Seat). nat_lt who s.member.who) seats) (λ (s : Seat). s.member.who < n) → IfSome (find (λ (s : Seat). nat_lt who s.member.who) (s ∷ seats)) (λ (s : Seat). s.member.who < n)
    go true e rest = rw e h.0.who
    go false e rest = rw e rest

first : (n : ℕ) (seats : List Seat) → AllByRecursion (SeatFits n) seats → IfSome (slice_get seats 0) (λ (s : Seat). s.member.who < n)
first n [] h = tt
first n (s ∷ seats) h = h.0.who

either : (n : ℕ) (a b : Option Seat) → 0 < n → IfSome a (λ (s : Seat). s.member.who < n) → IfSome b (λ (s : Seat). s.member.who < n) → option_map_or (λ (s : Seat). s.member.who) (option_or a b) 0 < n
either n (Some s) b above x y = x
either n None (Some s) above x y = y
either n None None above x y = above

pub after_below : (n who : ℕ) (d : Decision) → 0 < n → DecisionFits n d → after d who < n
after_below n who d above fits = either n (find (λ (s : Seat). nat_lt who s.member.who) d.seats.items) (slice_get d.seats.items 0) above (found n who d.seats.items fits.seats) (first n d.seats.items fits.seats)

pub after_but_below : (n who skip : ℕ) (d : Decision) → 0 < n → DecisionFits n d → after_but d who skip < n
after_but_below n who skip d above fits = go (after d who == skip)
  where
    go : (t : Bool) → cond t (after d skip) (after d who) < n
    go true = after_below n skip d above fits
    go false = after_below n who d above fits
