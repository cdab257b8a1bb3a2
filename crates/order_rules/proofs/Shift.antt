-- What comes behind some entries of a decision comes first in the decision with them.
use Rattle.std.proofs.Common.{◌≡◌, refl, ℕ, ◌+◌, Bool, true, false, not, cond, List, [], ◌∷◌, ◌++◌, map, reverse, Option, Some, None, arith, sym, ap, ◌∙◌, subst, nat_eq, find, append_assoc, cond}
use Rattle.std.specs.Prelude.{◌&&◌, ◌||◌}
use Rattle.std.specs.List.{list_any}
use Rattle.std.specs.Option.{option_map_or, option_or}
use Rattle.std.proofs.lemmas.List.{append-nil, reverse-append}
use Rattle.std.proofs.lemmas.List.Sums.{sum_by-cons}
use Rattle.std.proofs.lemmas.List.Folds.{find-append}
use Rattle.std.proofs.lemmas.Bool.Decides.{nat_tests}
use Rattle.order_rules.proofs.Lists.{holds_of, holds_of_each}
use Rattle.tw_types.specs.declared.team.Team.{Team}
use Rattle.tw_types.specs.declared.message.Member.{Member}
use Rattle.tw_types.specs.declared.message.Entry.{Entry}
use Rattle.tw_types.specs.declared.message.Kept.{Kept}
use Rattle.tw_types.specs.declared.message.Seat.{Seat}
use Rattle.tw_types.specs.declared.message.TimeMark.{TimeMark}
use Rattle.tw_types.specs.declared.message.Decision.{Decision}
use Rattle.tw_types.specs.Decisions.{is_seat_of, is_same_member}
use Rattle.tw_types.specs.Updates.{sender, is_timed}
use Rattle.tw_types.specs.Appending.{count_of, is_ripe, may_come, goes_before, mark_of, is_above, moves_mark, is_late, added_entry, IsNextEntry, EachIsNext, raised, mark_after, with_appended}

-- ---- candidates

count_of-cons : (member : Member) (e : Entry) (before : List Entry) → count_of member (e ∷ before) ≡ count_of member (e ∷ []) + count_of member before
count_of-cons member e before =
    let f : Entry → ℕ = λ (x : Entry). cond (is_same_member (sender x.id) member) 1 0 in
    omega (arith, sum_by-cons f e before, sum_by-cons f e [])

-- a seat's next number behind an entry more is that behind the others, at the raised seat
next_raised : (e : Entry) (before : List Entry) (s : Seat) → s.next + count_of s.member (e ∷ before) ≡ (raised (e ∷ []) s).next + count_of s.member before
next_raised e before s = omega (arith, count_of-cons s.member e before)

at_raised : (e : Entry) (before : List Entry) (k : Kept) (seats : List Seat) → list_any (λ (s : Seat). is_seat_of (sender k.entry.id) s && (nat_eq k.entry.id.seq (s.next + count_of s.member (e ∷ before)))) seats
    ≡ list_any (λ (s : Seat). is_seat_of (sender k.entry.id) s && (nat_eq k.entry.id.seq (s.next + count_of s.member before))) (map (raised (e ∷ [])) seats)
at_raised e before k [] = refl
at_raised e before k (s ∷ seats) =
    let here : (is_seat_of (sender k.entry.id) s && (nat_eq k.entry.id.seq (s.next + count_of s.member (e ∷ before)))) ≡ (is_seat_of (sender k.entry.id) s && (nat_eq k.entry.id.seq ((raised (e ∷ []) s).next + count_of s.member before)))
    = ap (λ n. is_seat_of (sender k.entry.id) s && (nat_eq k.entry.id.seq n)) (next_raised e before s) in
    let rest = at_raised e before k seats in
    ap (λ b. b || list_any (λ (s : Seat). is_seat_of (sender k.entry.id) s && (nat_eq k.entry.id.seq (s.next + count_of s.member (e ∷ before)))) seats) here
    ∙ ap (λ b. (is_seat_of (sender k.entry.id) s && (nat_eq k.entry.id.seq ((raised (e ∷ []) s).next + count_of s.member before))) || b) rest

pub may_come-cons : (team : Team) (t : ℕ) (d : Decision) (e : Entry) (before : List Entry) (k : Kept) → may_come team t d (e ∷ before) k ≡ may_come team t (with_appended (e ∷ []) d) before k
may_come-cons team t d e before k = ap (λ b. b && is_ripe team t k.entry) (at_raised e before k d.seats.items)

-- ---- late entries

above_through : (a b c : TimeMark) → is_above a b ≡ true → is_above b c ≡ true → is_above a c ≡ true
above_through a b c h g = grind (arith, nat_tests)

-- what isn't above a mark isn't above one that is above it
not_above : (x b m : TimeMark) → is_above b m ≡ true → (not (is_above x m) || not (is_above x b)) ≡ not (is_above x b)
not_above x b m h = go (is_above x b) refl (λ e. above_through x b m e h)
  where
    go : (c : Bool) → is_above x b ≡ c → (is_above x b ≡ true → is_above x m ≡ true) → (not (is_above x m) || not c) ≡ not c
    go true e f = let g = f e in rw g refl
    go false e f = elim (is_above x m) as (λ z. (not z || true) ≡ true) [ true ↦ refl | false ↦ refl ]

-- a timed entry that moves the mark is above it
abbrev pub Moves : TimeMark → Entry → Type 0
Moves mark e = moves_mark e ≡ true → is_above (mark_of e) mark ≡ true

is_late-cons : (mark : TimeMark) (e : Entry) (before : List Entry) (x : Entry) → Moves mark e → is_late mark (e ∷ before) x ≡ is_late (mark_after (e ∷ []) mark) before x
is_late-cons mark e before x moves = go (moves_mark e) refl
  where
    others : Bool
    others = list_any (λ (b : Entry). moves_mark b && not (is_above (mark_of x) (mark_of b))) before

    by : (m c : Bool) → (m || c) ≡ c → (others : Bool) → (m || (c || others)) ≡ (c || others)
    by true true h others = refl
    by true false h others = cc
    by false c h others = refl

    go : (b : Bool) → moves_mark e ≡ b → (is_timed x.order && (not (is_above (mark_of x) mark) || ((b && not (is_above (mark_of x) (mark_of e))) || list_any (λ (b : Entry). moves_mark b && not (is_above (mark_of x) (mark_of b))) before)))
        ≡ is_late (option_map_or mark_of (cond b (Some e) None) mark) before x
    go true is = ap (λ z. is_timed x.order && z) (by (not (is_above (mark_of x) mark)) (not (is_above (mark_of x) (mark_of e))) (not_above (mark_of x) (mark_of e) mark (moves is)) (list_any (λ (b : Entry). moves_mark b && not (is_above (mark_of x) (mark_of b))) before))
    go false is = refl

moves_of : (d : Decision) (k : Kept) → Moves d.mark (added_entry d [] k)
moves_of d k = by (is_timed k.entry.order) (is_above (mark_of k.entry) d.mark)
  where
    by : (timed above : Bool) → (timed && not (timed && (not above || false))) ≡ true → above ≡ true
    by true true h = refl
    by true false h = h
    by false above h = cc

-- the mark is that of the last entry that moves it
mark_after-cons : (e : Entry) (es : List Entry) (mark : TimeMark) → mark_after (e ∷ es) mark ≡ mark_after es (mark_after (e ∷ []) mark)
mark_after-cons e es mark = ap (λ es. option_map_or mark_of (find moves_mark es) mark) (reverse-append (e ∷ []) es) ∙ ap (λ o. option_map_or mark_of o mark) (find-append moves_mark (reverse es) (e ∷ [])) ∙ go (find moves_mark (reverse es))
  where
    go : (o : Option Entry) → option_map_or mark_of (option_or o (find moves_mark (e ∷ []))) mark ≡ option_map_or mark_of o (mark_after (e ∷ []) mark)
    go None = refl
    go (Some x) = refl

-- ---- decisions

raised-cons : (e : Entry) (es : List Entry) (seats : List Seat) → map (raised (e ∷ es)) seats ≡ map (raised es) (map (raised (e ∷ [])) seats)
raised-cons e es [] = refl
raised-cons e es (s ∷ seats) =
    let here : raised (e ∷ es) s ≡ raised es (raised (e ∷ []) s) = ap (λ n. record s { next = n }) (next_raised e es s) in
    let rest = raised-cons e es seats in
    cc

pub with_appended-cons : (e : Entry) (es : List Entry) (d : Decision) → with_appended (e ∷ es) d ≡ with_appended es (with_appended (e ∷ []) d)
with_appended-cons e es d =
    let mark : mark_after (e ∷ es) d.mark ≡ mark_after es (mark_after (e ∷ []) d.mark) = mark_after-cons e es d.mark in
    let seats : map (raised (e ∷ es)) d.seats.items ≡ map (raised es) (map (raised (e ∷ [])) d.seats.items) = raised-cons e es d.seats.items in
    let window : (d.window.items ++ e ∷ []) ++ es ≡ d.window.items ++ e ∷ es = append_assoc d.window.items (e ∷ []) es in
    rw (mark, seats, ← window) refl

pub with_nothing : (d : Decision) → with_appended [] d ≡ d
with_nothing d = rw (append-nil d.window.items, same d.seats.items) refl
  where
    one : (s : Seat) → raised [] s ≡ s
    one s = ap (λ n. record s { next = n }) (omega arith)

    same : (seats : List Seat) → map (raised []) seats ≡ seats
    same [] = refl
    same (s ∷ seats) = let here = one s in let rest = same seats in cc

-- ---- entries

pub added-cons : (team : Team) (t : ℕ) (d : Decision) (pending : List Kept) (e : Entry) (before : List Entry) (k : Kept) → IsNextEntry team t d pending [] e → added_entry d (e ∷ before) k ≡ added_entry (with_appended (e ∷ []) d) before k
added-cons team t d pending e before k first =
    let moves : Moves d.mark e = subst (Moves d.mark) (sym first.entry) (moves_of d first.update) in
    ap (λ b. record (k.entry) { late = b }) (is_late-cons d.mark e before k.entry moves)

-- behind an entry that comes first there comes next what does in the decision with that entry
pub next-cons : (team : Team) (t : ℕ) (d : Decision) (pending : List Kept) (e : Entry) (before : List Entry) (x : Entry) → IsNextEntry team t d pending [] e → IsNextEntry team t (with_appended (e ∷ []) d) pending before x → IsNextEntry team t d pending (e ∷ before) x
next-cons team t d pending e before x first next =
    let P : Kept → Type 0 = λ other. may_come team t (with_appended (e ∷ []) d) before other ≡ true → goes_before other.entry next.update.entry ≡ false in
    let Q : Kept → Type 0 = λ other. may_come team t d (e ∷ before) other ≡ true → goes_before other.entry next.update.entry ≡ false in
    record {
      update = next.update;
      waits = next.waits;
      ripe = may_come-cons team t d e before next.update ∙ next.ripe;
      first = holds_of_each Q pending (λ other c may. holds_of P pending other next.first c (sym (may_come-cons team t d e before other) ∙ may));
      entry = next.entry ∙ sym (added-cons team t d pending e before next.update first);
    }

-- each entry comes first in the decision with those before it
abbrev pub EachIsFirst : Team → (t : ℕ) → Decision → List Kept → (entries : List Entry) → Type 0
EachIsFirst team t d pending [] = Unit {0}
EachIsFirst team t d pending (e ∷ entries) = IsNextEntry team t d pending [] e × EachIsFirst team t (with_appended (e ∷ []) d) pending entries

each-cons : (team : Team) (t : ℕ) (d : Decision) (pending : List Kept) (e : Entry) (before entries : List Entry) → IsNextEntry team t d pending [] e → EachIsNext team t (with_appended (e ∷ []) d) pending before entries → EachIsNext team t d pending (e ∷ before) entries
each-cons team t d pending e before [] first each = tt
each-cons team t d pending e before (x ∷ entries) first each = (next-cons team t d pending e before x first each.0, each-cons team t d pending e (before ++ x ∷ []) entries first each.1)

pub each_is_next : (team : Team) (t : ℕ) (d : Decision) (pending : List Kept) (entries : List Entry) → EachIsFirst team t d pending entries → EachIsNext team t d pending [] entries
each_is_next team t d pending [] each = tt
each_is_next team t d pending (e ∷ entries) each =
    (each.0, each-cons team t d pending e [] entries each.0 (each_is_next team t (with_appended (e ∷ []) d) pending entries each.1))

-- ---- one entry more, at the end

pub one_more_first : (team : Team) (t : ℕ) (d : Decision) (pending : List Kept) (entries : List Entry) (x : Entry) → EachIsFirst team t d pending entries → IsNextEntry team t (with_appended entries d) pending [] x → EachIsFirst team t d pending (entries ++ x ∷ [])
one_more_first team t d pending [] x each next = (subst (λ z. IsNextEntry team t z pending [] x) (with_nothing d) next, tt)
one_more_first team t d pending (e ∷ entries) x each next =
    (each.0, one_more_first team t (with_appended (e ∷ []) d) pending entries x each.1 (subst (λ z. IsNextEntry team t z pending [] x) (with_appended-cons e entries d) next))

pub with_one_more : (entries : List Entry) (x : Entry) (d : Decision) → with_appended (entries ++ x ∷ []) d ≡ with_appended (x ∷ []) (with_appended entries d)
with_one_more [] x d = ap (with_appended (x ∷ [])) (sym (with_nothing d))
with_one_more (e ∷ entries) x d = with_appended-cons e (entries ++ x ∷ []) d ∙ (with_one_more entries x (with_appended (e ∷ []) d) ∙ ap (with_appended (x ∷ [])) (sym (with_appended-cons e entries d)))

-- what may come behind entries is what may come in the decision with them
pub may_come_with : (team : Team) (t : ℕ) (d : Decision) (entries : List Entry) (k : Kept) → may_come team t d entries k ≡ may_come team t (with_appended entries d) [] k
may_come_with team t d [] k = ap (λ z. may_come team t z [] k) (sym (with_nothing d))
may_come_with team t d (e ∷ entries) k = may_come-cons team t d e entries k ∙ (may_come_with team t (with_appended (e ∷ []) d) entries k ∙ ap (λ z. may_come team t z [] k) (sym (with_appended-cons e entries d)))
