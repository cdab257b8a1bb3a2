-- A group that is made of a ballot has a first decision in the ranges of datagrams.
use Rattle.std.proofs.Common.{◌≡◌, ℕ, ◌+◌, ◌-◌, ◌/◌, ◌^◌, ◌<◌, ◌≤◌, zero, suc, min, Bool, true, false, List, [], ◌∷◌, length, map, drop, Option, Some, None, refl, cond, arith, length-drop}
use Rattle.std.proofs.lemmas.List.{length-map}
use Rattle.std.specs.Prelude.{IfSome, find, fold, nat_le, ◌==◌, ◌&&◌}
use Rattle.std.specs.List.{AllByRecursion, list_any, range_with_len}
use Rattle.std.specs.Option.{option_map_or}
use Rattle.std.proofs.lemmas.Bool.Decides.{nat_tests}
use Rattle.tw_types.specs.declared.team.Team.{Team}
use Rattle.tw_types.specs.declared.message.Member.{Member}
use Rattle.tw_types.specs.declared.message.Support.{Support}
use Rattle.tw_types.specs.declared.message.Seat.{Seat}
use Rattle.tw_types.specs.declared.message.Report.{Report}
use Rattle.tw_types.specs.declared.message.Decision.{Decision}
use Rattle.tw_types.specs.declared.ballot.Ballot.{Ballot}
use Rattle.tw_types.specs.Bytes.{IsCount}
use Rattle.tw_types.specs.Ranges.{Distinct, ReportFits, SeatFits, SupportFits, EntryFits, DecisionFits, IsMadeBy}
use Rattle.tw_types.specs.Decisions.{or_none, decision_length, is_same_member, is_seat_of}
use Rattle.tw_types.specs.Turns.{least}
use Rattle.tw_types.specs.Reports.{is_consistent, goes_with}
use Rattle.tw_types.specs.BallotFits.{IsBallot}
use Rattle.tw_types.specs.Groups.{consistent, ascending, seated, next_of, seat_of, start_of, first_decision}
use Rattle.group_maker.proofs.Ascending.{report_of}
use Rattle.group_maker.proofs.Ranges.{all_kept, all_pass, distinct_kept, find_all, found_of, all_found, few_found, seats_ascend, owner_makes, ascending-length, own_report}

-- what a group goes on from: a decision, or none
record GoesOn (n : ℕ) (d : Decision) : Type 0 where
  low : IsCount d.low
  mark_stamp : IsCount d.mark.stamp
  mark_who : d.mark.who < n
  mark_seq : d.mark.seq < 2 ^ 32
  seats : AllByRecursion (SeatFits n) d.seats.items
  entry_count : length d.window.items ≤ 32
  end : IsCount (d.low + length d.window.items)
  window : AllByRecursion (EntryFits n) d.window.items

goes_on : (n : ℕ) (o : Option Decision) → 0 < n → IfSome o (DecisionFits n) → GoesOn n (or_none o)
goes_on n None some h = record {
  low = omega arith;
  mark_stamp = omega arith;
  mark_who = some;
  mark_seq = omega arith;
  seats = tt;
  entry_count = omega arith;
  end = omega arith;
  window = tt;
}
goes_on n (Some d) some h = record {
  low = h.low;
  mark_stamp = h.mark_stamp;
  mark_who = h.mark_who;
  mark_seq = h.mark_seq;
  seats = h.seats;
  entry_count = h.entry_count;
  end = h.end;
  window = h.window;
}

next_fits : (n : ℕ) (d : Decision) (m : Member) → AllByRecursion (SeatFits n) d.seats.items → (1 ≤ next_of d m) × (next_of d m < 2 ^ 32)
next_fits n d m h = go (find (is_seat_of m) d.seats.items) (find_all (SeatFits n) (is_seat_of m) d.seats.items h)
  where
    go : (o : Option Seat) → IfSome o (SeatFits n) → (1 ≤ option_map_or (λ (s : Seat). s.next) o 1) × (option_map_or (λ (s : Seat). s.next) o 1 < 2 ^ 32)
    go None h = (omega arith, omega arith)
    go (Some s) h = (h.next_above, h.next)

seat_fits : (n : ℕ) (d : Decision) (me : Member) (t : ℕ) (r : Report) → GoesOn n d → t < 2 ^ 60 → ReportFits n r → SeatFits n (seat_of d me t r)
seat_fits n d me t r g time fits =
    let next = next_fits n d r.member g.seats in
    record { who = fits.who; incarnation = fits.incarnation; next_above = next.0; next = next.1; support = go (is_same_member r.member me) }
  where
    go : (b : Bool) → IfSome (cond b (Some (record { ack = decision_length d; at = t })) None) SupportFits
    go true = record { ack = g.end; at = time }
    go false = tt

ack_fits : (d : Decision) (me : Member) (t end : ℕ) (r : Report) → decision_length d ≤ end → IfSome (seat_of d me t r).support (λ s. s.ack ≤ end)
ack_fits d me t end r le = go (is_same_member r.member me)
  where
    go : (b : Bool) → IfSome (cond b (Some (record { ack = decision_length d; at = t })) None) (λ (s : Support). s.ack ≤ end)
    go true = le
    go false = tt

pub all_map : {X Y : Type 0} (P : Y → Type 0) (f : X → Y) (xs : List X) → AllByRecursion (λ x. P (f x)) xs → AllByRecursion P (map f xs)
all_map P f [] h = tt
all_map P f (x ∷ xs) h = (h.0, all_map P f xs h.1)

pub all_weaker : {X : Type 0} (P Q : X → Type 0) → ((x : X) → P x → Q x) → (xs : List X) → AllByRecursion P xs → AllByRecursion Q xs
all_weaker P Q f [] h = tt
all_weaker P Q f (x ∷ xs) h = (f x h.0, all_weaker P Q f xs h.1)

all_drop : {X : Type 0} (P : X → Type 0) (k : ℕ) (xs : List X) → AllByRecursion P xs → AllByRecursion P (drop k xs)
all_drop P zero xs h = h
all_drop P (suc k) [] h = tt
all_drop P (suc k) (x ∷ xs) h = all_drop P k xs h.1

all_reports : {P : Report → Type 0} (xs : List Report) → ((r : Report) → P r) → AllByRecursion P xs
all_reports [] f = tt
all_reports (x ∷ xs) f = (f x, all_reports xs f)

-- ---- the least length

fold_min : (lo hi x : ℕ) (xs : List ℕ) → lo ≤ x → x ≤ hi → AllByRecursion (λ y. lo ≤ y) xs → (lo ≤ fold min x xs) × (fold min x xs ≤ hi)
fold_min lo hi x [] a b h = (a, b)
fold_min lo hi x (y ∷ ys) a b h = fold_min lo hi (min x y) ys (omega (arith, h.0)) (omega arith) h.1

abbrev pub IsWithin : ℕ → ℕ → Report → Type 0
IsWithin lo hi r = (lo ≤ r.length) × (r.length ≤ hi)

pub least_within : (lo hi : ℕ) (rs : List Report) → 1 ≤ length rs → AllByRecursion (IsWithin lo hi) rs
    → (lo ≤ least (map (λ (r : Report). r.length) rs)) × (least (map (λ (r : Report). r.length) rs) ≤ hi)
least_within lo hi [] some h = absurd (omega arith)
least_within lo hi (r ∷ rs) some h =
    fold_min lo hi r.length (map (λ (r : Report). r.length) rs) h.0.0 h.0.1
    (all_map (λ y. lo ≤ y) (λ (r : Report). r.length) rs (all_weaker (IsWithin lo hi) (λ (r : Report). lo ≤ r.length) (λ r w. w.0) rs h.1))

first_two : (x y z : Bool) → (x && y && z) ≡ true → (x ≡ true) × (y ≡ true)
first_two true true z h = (refl, refl)
first_two true false z h = cc
first_two false y z h = cc

pub within : (o : Option Decision) (r : Report) → is_consistent o r ≡ true → IsWithin (or_none o).low (decision_length (or_none o)) r
within o r h =
    let parts = first_two (nat_le (or_none o).low r.length) (nat_le r.length (decision_length (or_none o))) (goes_with r.kind r (or_none o)) h in
    let low = parts.0 in
    let high = parts.1 in
    (grind (arith, nat_tests, low), grind (arith, nat_tests, high))

-- ---- the decision

abbrev pub low_of : Team → Ballot → ℕ
low_of team b = least (map (λ (r : Report). r.length) (seated team b))

finished : (team : Team) (b : Ballot) (me : Member) (t : ℕ) → IsBallot team.n b → t < 2 ^ 60 → start_of team b < 2 ^ 61 → GoesOn team.n (or_none b.best)
    → (or_none b.best).low ≤ low_of team b → low_of team b ≤ decision_length (or_none b.best)
    → AllByRecursion (ReportFits team.n) (seated team b) → team.n / 2 + 1 ≤ length (seated team b)
    → IsMadeBy me.who t (map (seat_of (or_none b.best) me t) (seated team b))
    → DecisionFits team.n (first_decision team b me t)
finished team b me t ballot time start g above below fit many maker =
    let best = or_none b.best in
    let low = low_of team b in
    let cut : length (drop (low - best.low) best.window.items) ≡ length best.window.items - (low - best.low) = simp length-drop in
    let seat_count : length (map (seat_of best me t) (seated team b)) ≡ length (seated team b) = simp length-map in
    let few = few_found (report_of (consistent b)) 0 team.n in
    record {
      group = ballot.number;
      turn = omega arith;
      made = time;
      start = start;
      low = omega (arith, below, g.end);
      mark_stamp = g.mark_stamp;
      mark_who = g.mark_who;
      mark_seq = g.mark_seq;
      majority = omega (arith, seat_count, many);
      seat_count = omega (arith, seat_count, few);
      seats = all_map (SeatFits team.n) (seat_of best me t) (seated team b) (all_weaker (ReportFits team.n) (λ (r : Report). SeatFits team.n (seat_of best me t r)) (λ r f. seat_fits team.n best me t r g time f) (seated team b) fit);
      ascending = seats_ascend best me t (report_of (consistent b)) (found_of (consistent b)) 0 team.n;
      maker = maker;
      entry_count = omega (arith, cut, g.entry_count);
      end = omega (arith, cut, above, below, g.end);
      acks = all_map (λ (s : Seat). IfSome s.support (λ support. support.ack ≤ low + length (drop (low - best.low) best.window.items))) (seat_of best me t) (seated team b)
          (all_reports (seated team b) (λ r. ack_fits best me t (low + length (drop (low - best.low) best.window.items)) r (omega (arith, cut, above, below))));
      window = all_drop (EntryFits team.n) (low - best.low) best.window.items g.window;
    }

pub owner_low : (n : ℕ) (me : Member) (cs : List Report) → AllByRecursion (λ (r : Report). r.member.who < n) cs → (r : Report) → report_of cs me.who ≡ Some r → me.who < n
owner_low n me cs low r found =
    let is_low = rw found at (find_all (λ (r : Report). r.member.who < n) (λ (r : Report). r.member.who == me.who) cs low) in
    let is_me = rw found at (found_of cs me.who) in
    omega (arith, is_low, is_me)

pub made_fits : (team : Team) (b : Ballot) (me : Member) (t : ℕ) → IsBallot team.n b → t < 2 ^ 60
    → list_any (λ (r : Report). is_same_member r.member me) (consistent b) ≡ true → team.n / 2 + 1 ≤ length (consistent b) → start_of team b < 2 ^ 61
    → DecisionFits team.n (first_decision team b me t)
made_fits team b me t ballot time there many start =
    let n = team.n in
    let best = or_none b.best in
    let cs = consistent b in
    let h = report_of cs in
    let each : AllByRecursion (ReportFits n) cs = all_kept (ReportFits n) (is_consistent b.best) b.reports.items ballot.each in
    let low_who : AllByRecursion (λ (r : Report). r.member.who < n) cs = all_weaker (ReportFits n) (λ (r : Report). r.member.who < n) (λ r f. f.who) cs each in
    let apart : Distinct cs = distinct_kept (is_consistent b.best) b.reports.items ballot.distinct in
    let size : length (ascending n cs) ≡ length cs = ascending-length n cs apart low_who in
    let own = own_report me cs apart there in
    let seated_fit : AllByRecursion (ReportFits n) (ascending n cs) = all_found (ReportFits n) h (range_with_len 0 n) (λ k. find_all (ReportFits n) (λ (r : Report). r.member.who == k) cs each) in
    let me_low : me.who < n = owner_low n me cs low_who own.0 own.1 in
    let some : 0 < n = omega (arith, me_low) in
    let g : GoesOn n best = goes_on n b.best some ballot.best_fits in
    let lengths : AllByRecursion (IsWithin best.low (decision_length best)) cs =
    all_weaker (λ (r : Report). is_consistent b.best r ≡ true) (IsWithin best.low (decision_length best)) (within b.best) cs (all_pass (is_consistent b.best) b.reports.items) in
    let seated_lengths : AllByRecursion (IsWithin best.low (decision_length best)) (ascending n cs) =
    all_found (IsWithin best.low (decision_length best)) h (range_with_len 0 n) (λ k. find_all (IsWithin best.low (decision_length best)) (λ (r : Report). r.member.who == k) cs lengths) in
    let bounds = least_within best.low (decision_length best) (ascending n cs) (omega (arith, size, many)) seated_lengths in
    finished team b me t ballot time start g bounds.0 bounds.1 seated_fit (omega (arith, size, many)) (owner_makes best me t h (found_of cs) own.0 own.1 own.2 0 n (omega arith) (omega (arith, me_low)))
