-- A group that is made fits its owner's log.
use Rattle.std.proofs.Common.{◌≡◌, ℕ, ◌+◌, ◌-◌, ◌<◌, ◌≤◌, zero, suc, min, Bool, true, false, List, [], ◌∷◌, length, map, drop, Option, Some, None, refl, sym, ap, ◌∙◌, arith, eqb, ◌⊎◌, inl, inr, length-drop}
use Rattle.std.specs.Prelude.{fold, nat_lt, ◌==◌}
use Rattle.std.specs.List.{AllByRecursion, filter_map, range_with_len, cons_option, list_any}
use Rattle.std.specs.Option.{option_map}
use Rattle.std.proofs.Math.Seq.{drop-nil}
use Rattle.std.proofs.lemmas.Bool.Decides.{nat_tests}
use Rattle.tw_types.specs.declared.team.Team.{Team}
use Rattle.tw_types.specs.declared.message.Member.{Member}
use Rattle.tw_types.specs.declared.message.Entry.{Entry}
use Rattle.tw_types.specs.declared.message.Kept.{Kept}
use Rattle.tw_types.specs.declared.message.Report.{Report}
use Rattle.tw_types.specs.declared.message.Decision.{Decision}
use Rattle.tw_types.specs.declared.ballot.Ballot.{Ballot}
use Rattle.tw_types.specs.Beliefs.{Log, log_length}
use Rattle.tw_types.specs.Decisions.{or_none, decision_length, is_same_member}
use Rattle.tw_types.specs.Refusals.{first_refusal}
use Rattle.tw_types.specs.Waiting.{entries_from}
use Rattle.tw_types.specs.Logs.{log_room, fit_tests}
use Rattle.tw_types.specs.Turns.{least}
use Rattle.tw_types.specs.Reports.{is_consistent}
use Rattle.tw_types.specs.Groups.{consistent, seated, first_decision}
use Rattle.group_maker.proofs.Ascending.{report_of}
use Rattle.group_maker.proofs.Ranges.{all_kept, all_pass, find_all, found_of, all_found}
use Rattle.group_maker.proofs.Fitting.{IsWithin, all_weaker, least_within, within, low_of}
use Rattle.group_maker.proofs.Missing.{missing, none_refused}

-- ---- the owner's report is among those of the members

abbrev IsAmong : Report → List Report → Type 0
IsAmong r [] = ⊥
IsAmong r (q ∷ qs) = (q ≡ r) ⊎ IsAmong r qs

found_among : (h : ℕ → Option Report) (r : Report) (w : ℕ) → h w ≡ Some r → (a k : ℕ) → a ≤ w → w < a + k → IsAmong r (filter_map h (range_with_len a k))
found_among h r w there a zero le lt = absurd (omega arith)
found_among h r w there a (suc k) le lt = go (eqb a w) refl (λ more. found_among h r w there (a + 1) k more (omega arith))
  where
    later : (o : Option Report) (qs : List Report) → IsAmong r qs → IsAmong r (cons_option o qs)
    later None qs among = among
    later (Some q) qs among = inr among

    go : (b : Bool) → eqb a w ≡ b → (a + 1 ≤ w → IsAmong r (filter_map h (range_with_len (a + 1) k))) → IsAmong r (filter_map h (range_with_len a (suc k)))
    go true eq rest =
        let here : a ≡ w = grind (arith, nat_tests) in
        let found : h a ≡ Some r = ap h here ∙ there in
        rw found (inl refl)
    go false eq rest =
        let other : (a ≡ w) → ⊥ = grind (arith, nat_tests) in
        later (h a) (filter_map h (range_with_len (a + 1) k)) (rest (omega arith))

some_among : (r : Report) (qs : List Report) → IsAmong r qs → 1 ≤ length qs
some_among r [] among = absurd among
some_among r (q ∷ qs) among = omega arith

abbrev lengths : List Report → List ℕ
lengths qs = map (λ (r : Report). r.length) qs

below_first : (x : ℕ) (xs : List ℕ) → fold min x xs ≤ x
below_first x [] = omega arith
below_first x (y ∷ ys) = let h : fold min (min x y) ys ≤ min x y = below_first (min x y) ys in omega arith

below_each : (x : ℕ) (r : Report) (qs : List Report) → IsAmong r qs → fold min x (lengths qs) ≤ r.length
below_each x r [] among = absurd among
below_each x r (q ∷ qs) (inl same) = let h : fold min (min x q.length) (lengths qs) ≤ min x q.length = below_first (min x q.length) (lengths qs) in rw (sym same) (omega arith)
below_each x r (q ∷ qs) (inr among) = below_each (min x q.length) r qs among

least_below : (r : Report) (qs : List Report) → IsAmong r qs → least (lengths qs) ≤ r.length
least_below r [] among = absurd among
least_below r (q ∷ qs) (inl same) = rw (sym same) (below_first q.length (lengths qs))
least_below r (q ∷ qs) (inr among) = below_each q.length r qs among

own_found : (me : Member) (xs : List Report) → list_any (λ (r : Report). is_same_member r.member me) xs ≡ true → (r : Report) × (report_of xs me.who ≡ Some r)
own_found me [] there = cc
own_found me (x ∷ xs) there = go (x.member.who == me.who) refl (λ more. own_found me xs more)
  where
    go : (b : Bool) → (x.member.who == me.who) ≡ b → (list_any (λ (r : Report). is_same_member r.member me) xs ≡ true → (r : Report) × (report_of xs me.who ≡ Some r))
        → (r : Report) × (report_of (x ∷ xs) me.who ≡ Some r)
    go true e rest = (x, rw e refl)
    go false e rest = let found = rest (rw e at there) in (found.0, rw e found.1)

-- ---- the list

drop_twice : {X : Type 0} (i k : ℕ) (xs : List X) → drop i (drop k xs) ≡ drop (k + i) xs
drop_twice i zero xs = let e : i ≡ 0 + i = omega arith in ap (λ z. drop z xs) e
drop_twice i (suc k) [] = drop-nil i ∙ sym (drop-nil (suc k + i))
drop_twice i (suc k) (x ∷ xs) = let e : suc (k + i) ≡ suc k + i = omega arith in drop_twice i k xs ∙ ap (λ z. drop z (x ∷ xs)) e

cut_fits : (l : Log) (payloads : List Kept) (best d : Decision) (low : ℕ) → d.low ≡ low → d.window.items ≡ drop (low - best.low) best.window.items
    → best.low ≤ low → low ≤ decision_length best → low ≤ log_length l
    → log_length l ≤ decision_length best → decision_length best ≤ l.passed + log_room
    → option_map (λ (e : Entry). e.id) (missing payloads (entries_from (log_length l) best)) ≡ None
    → first_refusal (fit_tests l payloads d) ≡ None
cut_fits l payloads best d low is cut above below own longer near none =
    let L = log_length l in
    let count : length (drop (low - best.low) best.window.items) ≡ length best.window.items - (low - best.low) = length-drop (low - best.low) best.window.items in
    let end : decision_length d ≡ decision_length best = ap (λ z. z + length d.window.items) is ∙ ap (λ xs. low + length xs) cut ∙ omega (arith, count) in
    let begins : nat_lt L d.low ≡ false = grind (arith, nat_tests, is, own) in
    let ends : nat_lt (decision_length d) L ≡ false = grind (arith, nat_tests, end, longer) in
    let ahead : nat_lt (l.passed + log_room) (decision_length d) ≡ false = grind (arith, nat_tests, end, near) in
    let steps : low - best.low + (L - low) ≡ L - best.low = omega arith in
    let same : entries_from L d ≡ entries_from L best =
    ap (λ z. drop (L - z) d.window.items) is ∙ ap (λ xs. drop (L - low) xs) cut ∙ drop_twice (L - low) (low - best.low) best.window.items ∙ ap (λ z. drop z best.window.items) steps in
    rw (begins, ends, ahead, same) (none_refused payloads (entries_from L best) none)

-- a group goes on its owner's log, where no report of the owner tells a greater length than that of the log
pub made_fits_log : (team : Team) (b : Ballot) (l : Log) (payloads : List Kept) (me : Member) (t : ℕ)
    → list_any (λ (r : Report). is_same_member r.member me) (consistent b) ≡ true
    → log_length l ≤ decision_length (or_none b.best) → decision_length (or_none b.best) ≤ l.passed + log_room
    → option_map (λ (e : Entry). e.id) (missing payloads (entries_from (log_length l) (or_none b.best))) ≡ None
    → me.who < team.n → AllByRecursion (λ (r : Report). r.member.who ≡ me.who → r.length ≤ log_length l) b.reports.items
    → first_refusal (fit_tests l payloads (first_decision team b me t)) ≡ None
made_fits_log team b l payloads me t there longer near none seat all =
    let best = or_none b.best in
    let cs = consistent b in
    let h = report_of cs in
    let own = own_found me cs there in
    let of_me : own.0.member.who ≡ me.who = rw own.1 at (found_of cs me.who) in
    let told : (own.0.member.who ≡ me.who) → own.0.length ≤ log_length l =
    rw own.1 at (find_all (λ (r : Report). r.member.who ≡ me.who → r.length ≤ log_length l) (λ (r : Report). r.member.who == me.who) cs
    (all_kept (λ (r : Report). r.member.who ≡ me.who → r.length ≤ log_length l) (is_consistent b.best) b.reports.items all)) in
    let own_below : own.0.length ≤ log_length l = told of_me in
    let among : IsAmong own.0 (seated team b) = found_among h own.0 me.who own.1 0 team.n (omega arith) (omega (arith, seat)) in
    let below_own : low_of team b ≤ own.0.length = least_below own.0 (seated team b) among in
    let lengths_within : AllByRecursion (IsWithin best.low (decision_length best)) cs =
    all_weaker (λ (r : Report). is_consistent b.best r ≡ true) (IsWithin best.low (decision_length best)) (within b.best) cs (all_pass (is_consistent b.best) b.reports.items) in
    let seated_within : AllByRecursion (IsWithin best.low (decision_length best)) (seated team b) =
    all_found (IsWithin best.low (decision_length best)) h (range_with_len 0 team.n) (λ k. find_all (IsWithin best.low (decision_length best)) (λ (r : Report). r.member.who == k) cs lengths_within) in
    let bounds = least_within best.low (decision_length best) (seated team b) (some_among own.0 (seated team b) among) seated_within in
    cut_fits l payloads best (first_decision team b me t) (low_of team b) refl refl bounds.0 bounds.1 (omega (arith, below_own, own_below)) longer near none
