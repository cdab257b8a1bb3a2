-- The list of a next decision: that of the last one, and what its maker adds.
use Rattle.std.proofs.Common.{◌≡◌, refl, sym, ap, subst, ◌∙◌, ℕ, ◌+◌, ◌-◌, ◌≤◌, max, nat_eq, Bool, true, false, cond, ◌&&◌, List, [], ◌∷◌, ◌++◌, map, length, filter, drop, is_some, Some, arith, length-append}
use Rattle.std.specs.List.{AllByRecursion, list_all, range_with_len}
use Rattle.std.proofs.lemmas.List.{length-map, map-append, drop-append-le, drop-map, drop-drop}
use Rattle.tw_machine.specs.Types.{Team, Entry, Kept, Seat, Support, Decision}
use Rattle.tw_types.specs.Appending.{count_of, mark_after, added_entries, added_kept, come_in_turn, has_room, lists_of, longest, may_append, appended_kept, raised, with_appended}
use Rattle.tw_types.specs.Decisions.{decision_length}
use Rattle.tw_types.specs.Flag.{is_up}
use Rattle.tw_types.specs.Items.{In}
use Rattle.tw_types.specs.Process.{Process}
use Rattle.tw_types.specs.Turns.{next_draft, supported, acks, least, raised_low, next_decision}
use Rattle.tw_types.proofs.Appended.{in_filter, of_filter, in_lists, longest_is}
use Rattle.tw_machine.specs.Deciding.{kept_to_add}
use Rattle.tw_machine.specs.History.{Make}
use Rattle.tw_machine.proofs.Tables.{all_mapped}
use Rattle.safety_laws.specs.Lists.{entries_of, seqs_of, GoByOne, marks_of, MarksAscend, no_mark, IsListOf}
use Rattle.safety_laws.proofs.Lists.{each_weaker, each_from, of_each}
use Rattle.safety_laws.proofs.NextDecisions.{next_length, appended_length, least_below, told_ack}
use Rattle.safety_laws.proofs.WholeLists.{seqs_joined, seqs_counted, seqs_added, by_one_joined, marks_ascend_on, mark_goes_on}

-- ---- what a decision says of its list

-- no support says less than this
abbrev AckedFrom : ℕ → List Seat → Type 0
AckedFrom low seats = AllByRecursion (λ (s : Seat). (support : Support) → s.support ≡ Some support → low ≤ support.ack) seats

-- each seat awaits the number above those of its member in the list
abbrev pub AwaitsNext : List Kept → Seat → Type 0
AwaitsNext log s = s.next ≡ 1 + length (seqs_of s.member log)

-- the same of any decision and any list as is said of a make
pub record HasList (d : Decision) (log : List Kept) : Type 0 where
  pub same_length : decision_length d ≡ length log
  pub low : d.low ≤ length log
  pub window : d.window.items ≡ entries_of (drop d.low log)
  pub acks : AckedFrom d.low d.seats.items
  pub by_one : GoByOne log
  pub next : AllByRecursion (AwaitsNext log) d.seats.items
  pub ascend : MarksAscend (marks_of log)
  pub mark : d.mark ≡ mark_after (entries_of log) no_mark

-- of a make, one way and the other
pub list_has : (m : Make) → IsListOf m → HasList m.making.decision m.log
list_has m k = record { same_length = k.same_length; low = k.low; window = k.window; acks = k.acks; by_one = k.by_one; next = k.next; ascend = k.ascend; mark = k.mark }

pub is_list : (m : Make) → HasList m.making.decision m.log → IsListOf m
is_list m k = record { same_length = k.same_length; low = k.low; window = k.window; acks = k.acks; by_one = k.by_one; next = k.next; ascend = k.ascend; mark = k.mark }

-- a window that ends a list ends it from a later position on too
pub cut_window : (window : List Entry) (low low' : ℕ) (log : List Kept) → low ≤ low' → window ≡ entries_of (drop low log) → drop (low' - low) window ≡ entries_of (drop low' log)
cut_window window low low' log above is =
    let same : low + (low' - low) ≡ low' = omega arith in
    ap (drop (low' - low)) is ∙ drop-map (λ (k : Kept). k.entry) (low' - low) (drop low log) ∙ ap entries_of (drop-drop (low' - low) low log) ∙ ap (λ n. entries_of (drop n log)) same

-- ---- the low of a next decision

-- it isn't above what any support says
raised_acked : (low : ℕ) (seats : List Seat) → AckedFrom low seats → (low ≤ raised_low low seats) × AckedFrom (raised_low low seats) seats
raised_acked low seats all = go (list_all (λ (s : Seat). is_some s.support) seats)
  where
    go : (b : Bool) → (low ≤ cond b (max low (least (acks seats))) low) × AckedFrom (cond b (max low (least (acks seats))) low) seats
    go false = (omega arith, all)
    go true = (
      omega arith,
      each_from (λ (s : Seat). (support : Support) → s.support ≡ Some support → max low (least (acks seats)) ≤ support.ack) seats (λ s i support is.
          let above = of_each (λ (z : Seat). (support : Support) → z.support ≡ Some support → low ≤ support.ack) seats s all i support is in
          let acked = least_below (acks seats) support.ack (told_ack seats s support i is) in
          omega arith),
    )

-- the maker's own support says that it has the whole list
supported_acked : (low who : ℕ) (own : Support) (seats : List Seat) → low ≤ own.ack → AckedFrom low seats → AckedFrom low (map (supported who own) seats)
supported_acked low who own [] high all = tt
supported_acked low who own (s ∷ seats) high all = (go (nat_eq s.member.who who), supported_acked low who own seats high all.1)
  where
    go : (b : Bool) → (support : Support) → (cond b (record s { support = Some own }) s).support ≡ Some support → low ≤ support.ack
    go true support is = let same : own ≡ support = cc in subst (λ (z : Support). low ≤ z.ack) same high
    go false support is = all.0 support is

-- and no next number changes by it
supported_awaits : (log : List Kept) (who : ℕ) (own : Support) (seats : List Seat) → AllByRecursion (AwaitsNext log) seats → AllByRecursion (AwaitsNext log) (map (supported who own) seats)
supported_awaits log who own [] all = tt
supported_awaits log who own (s ∷ seats) all = (go (nat_eq s.member.who who), supported_awaits log who own seats all.1)
  where
    go : (b : Bool) → AwaitsNext log (cond b (record s { support = Some own }) s)
    go true = all.0
    go false = all.0

-- ---- what is added

-- pending updates that come in turn
pub record ComeInTurn (team : Team) (t : ℕ) (last : Decision) (pending added : List Kept) : Type 0 where
  pub updates : List Kept
  pub in_turn : come_in_turn team t last pending [] updates ≡ true
  pub same : added ≡ added_kept last [] updates

-- those that are appended do
appended_in_turn : (team : Team) (t passed : ℕ) (last : Decision) (pending : List Kept) → ComeInTurn team t last pending (appended_kept team t passed last pending)
unfolding appended_kept
appended_in_turn team t passed last pending =
    let lists = filter (may_append team t passed last pending) (lists_of (length pending) pending) in
    let none : In [] lists = in_filter (may_append team t passed last pending) (lists_of (length pending) pending) [] (in_lists (length pending) pending [] tt (omega arith)) refl in
    let i = of_filter (may_append team t passed last pending) (lists_of (length pending) pending) (longest lists) (longest_is lists [] none).there in
    record {
      updates = longest lists;
      in_turn = first_of (come_in_turn team t last pending [] (longest lists)) (has_room passed last pending (added_entries last [] (longest lists))) i.1;
      same = refl;
    }
  where
    first_of : (a b : Bool) → (a && b) ≡ true → a ≡ true
    first_of true b e = refl
    first_of false b e = absurd (cc)

-- and so all that a maker adds, which is nothing where it isn't up
pub added_in_turn : (team : Team) (t : ℕ) (last : Decision) (p : Process) → ComeInTurn team t last p.waiting.pending (kept_to_add team t last p)
added_in_turn team t last p = go (is_up team p.vote p.belief (Some t))
  where
    go : (up : Bool) → ComeInTurn team t last p.waiting.pending (cond up (appended_kept team t p.log.passed last p.waiting.pending) [])
    go true = appended_in_turn team t p.log.passed last p.waiting.pending
    go false = record { updates = []; in_turn = refl; same = refl }

-- ---- the next decision

module _ (team : Team) (t who : ℕ) (last : Decision) (pending updates log : List Kept) (seat : Seat) (there : In seat last.seats.items) (mine : seat.member.who ≡ who)
    (k : HasList last log) (in_turn : come_in_turn team t last pending [] updates ≡ true) where
  abbrev added : List Kept
  added = added_kept last [] updates

  abbrev entries : List Entry
  entries = entries_of added

  abbrev next : Decision
  next = next_decision entries last t who

  abbrev own : Support
  own = record { ack = decision_length (with_appended entries (next_draft last t who)); at = t }

  abbrev seats : List Seat
  seats = map (supported who own) (map (raised entries) last.seats.items)

  -- as long as the list
  next_long : decision_length next ≡ length (log ++ added)
  next_long =
      let size : length entries ≡ length added = simp length-map in
      let all : length (log ++ added) ≡ length log + length added = simp length-append in
      let same = next_length entries last t who seat there mine in
      let longer = appended_length entries (next_draft last t who) in
      let was = k.same_length in
      omega (arith, same, longer, size, all, was)

  -- the supports of before are kept
  raised_keep : AckedFrom last.low (map (raised entries) last.seats.items)
  raised_keep = all_mapped (λ (s : Seat). (support : Support) → s.support ≡ Some support → last.low ≤ support.ack) (raised entries) last.seats.items k.acks

  -- its low
  low_is : (last.low ≤ raised_low last.low seats) × AckedFrom (raised_low last.low seats) seats
  low_is = raised_acked last.low seats (supported_acked last.low who own (map (raised entries) last.seats.items) (omega arith) raised_keep)

  -- the members' numbers
  seqs_next : GoByOne (log ++ added)
  seqs_next = by_one_joined log added k.by_one (λ member.
      let first : 1 + length (seqs_of member log) + count_of member [] ≡ 1 + length (seqs_of member log) = omega arith in
      seqs_added team t last pending (λ m. length (seqs_of m log)) member [] updates k.next in_turn ∙ ap (λ n. range_with_len n (length (seqs_of member added))) first)

  -- the next number of each seat
  awaited : (s : Seat) → AwaitsNext log s → AwaitsNext (log ++ added) (raised entries s)
  awaited s was =
      let count = seqs_counted s.member added in
      let all : length (seqs_of s.member (log ++ added)) ≡ length (seqs_of s.member log) + length (seqs_of s.member added) = ap length (seqs_joined s.member log added) ∙ simp length-append in
      omega (arith, count, all, was)

  -- All that is said of a decision's list is so of it.
  pub next_has : HasList next (log ++ added)
  next_has = record {
    same_length = next_long;
    low = let size = next_long in omega arith;
    window = cut_window (last.window.items ++ entries) last.low (raised_low last.low seats) (log ++ added) low_is.0
        (ap (λ es. es ++ entries) k.window ∙ sym (map-append (λ (z : Kept). z.entry) (drop last.low log) added) ∙ ap entries_of (sym (drop-append-le last.low log added k.low)));
    acks = low_is.1;
    by_one = seqs_next;
    next = supported_awaits (log ++ added) who own (map (raised entries) last.seats.items)
        (all_mapped (AwaitsNext (log ++ added)) (raised entries) last.seats.items (each_weaker (AwaitsNext log) (λ (s : Seat). AwaitsNext (log ++ added) (raised entries s)) last.seats.items awaited k.next));
    ascend = marks_ascend_on last log updates no_mark k.ascend k.mark;
    mark = mark_goes_on log added last.mark no_mark k.mark;
  }
