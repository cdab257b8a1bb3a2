-- What the first decision of a group is, by the ballot that it is made of.
use Rattle.std.proofs.Common.{◌≡◌, ◌≢◌, refl, sym, ap, subst, ◌∙◌, inl, inr, ℕ, zero, suc, ◌+◌, ◌-◌, ◌/◌, ◌≤◌, ◌<◌, max, Bool, true, false, cond, not, ◌||◌, nat_eq, nat_lt, List, [], ◌∷◌, length, map, drop, Option, Some, None, Result, Ok, Err, arith, length-drop}
use Rattle.std.specs.List.{AllByRecursion, IsDistinct, list_any, filter_map, range_with_len, cons_option, fold}
use Rattle.std.specs.Option.{option_map}
use Rattle.std.specs.Prelude.{count_by}
use Rattle.std.proofs.lemmas.Bool.Decides.{nat_tests}
use Rattle.std.proofs.lemmas.List.{length-map}
use Rattle.std.proofs.lemmas.Map.Keys.{IsDistinct-head, IsDistinct-tail, IsDistinct-cons}
use Rattle.tw_machine.specs.Types.{Team, Ballot, Kept, Decision, Member, Report, Seat, Support}
use Rattle.tw_types.specs.Beliefs.{Log, log_length}
use Rattle.tw_types.specs.Decisions.{or_none, decision_length, is_same_member, is_seat_of, has_seat}
use Rattle.tw_types.specs.Groups.{NoGroup, consistent, ascending, seat_of, lease_ends, readings, greatest, start_of, Objection, objections, first_objection, first_decision, group_made}
use Rattle.tw_types.specs.Ranges.{Distinct, Ascends}
use Rattle.tw_types.specs.Reports.{is_by_informed, is_consistent}
use Rattle.group_maker.proofs.Ascending.{report_of}
use Rattle.group_maker.proofs.Ranges.{all_kept, all_pass, distinct_kept, find_all, found_of, all_found, seats_ascend, ascending-length, own_report}
use Rattle.group_maker.proofs.Fitting.{IsWithin, least_within, within, low_of, all_map, owner_low}
use Rattle.tw_types.specs.Items.{In}
use Rattle.tw_types.proofs.Appended.{of_filter}
use Rattle.safety_laws.specs.Made.{reporters, StartsAfter}
use Rattle.safety_laws.proofs.Lists.{each_weaker, each_from, found_in, of_filter_map}

-- ---- different processes, said in two ways

pub are_distinct : (rs : List Report) → Distinct rs → IsDistinct nat_eq (reporters rs)
unfolding IsDistinct
are_distinct [] d = tt
are_distinct (r ∷ rs) d = IsDistinct-cons nat_eq r.member.who (reporters rs) (all_map (λ y. nat_eq r.member.who y ≡ false) (λ (q : Report). q.member.who) rs (each_weaker (λ (q : Report). (r.member.who ≡ q.member.who) → ⊥) (λ (q : Report). nat_eq r.member.who q.member.who ≡ false) rs (λ q other. grind (arith, nat_tests)) d.0)) (are_distinct rs d.1)

pub all_mapped_from : {X Y : Type 0} (P : Y → Type 0) (f : X → Y) (xs : List X) → AllByRecursion P (map f xs) → AllByRecursion (λ x. P (f x)) xs
all_mapped_from P f [] all = tt
all_mapped_from P f (x ∷ xs) all = (all.0, all_mapped_from P f xs all.1)

pub were_distinct : (rs : List Report) → IsDistinct nat_eq (reporters rs) → Distinct rs
were_distinct [] d = tt
were_distinct (r ∷ rs) d = (
  each_weaker (λ (q : Report). nat_eq r.member.who q.member.who ≡ false) (λ (q : Report). (r.member.who ≡ q.member.who) → ⊥) rs (λ q other same. let eq : nat_eq r.member.who q.member.who ≡ true = grind (arith, nat_tests) in cc)
      (all_mapped_from (λ y. nat_eq r.member.who y ≡ false) (λ (q : Report). q.member.who) rs (IsDistinct-head nat_eq r.member.who (reporters rs) d)),
  were_distinct rs (IsDistinct-tail nat_eq r.member.who (reporters rs) d),
)

ascend_distinct : (seats : List Seat) → Ascends seats → IsDistinct nat_eq (map (λ (s : Seat). s.member.who) seats)
unfolding IsDistinct
ascend_distinct [] a = tt
ascend_distinct (s ∷ seats) a =
    IsDistinct-cons nat_eq s.member.who (map (λ (s : Seat). s.member.who) seats) (all_map (λ y. nat_eq s.member.who y ≡ false) (λ (s : Seat). s.member.who) seats
    (each_weaker (λ (t : Seat). s.member.who < t.member.who) (λ (t : Seat). nat_eq s.member.who t.member.who ≡ false) seats (λ t low. grind (arith, nat_tests)) a.0)) (ascend_distinct seats a.1)

-- ---- what is found of a range

-- who has a report among those of the range stands there
pub over_found : (h : ℕ → Option Report) (r : Report) (who : ℕ) → h who ≡ Some r → (a k : ℕ) → a ≤ who → who < a + k → In r (filter_map h (range_with_len a k))
over_found h r who e a zero low high = absurd (omega arith)
over_found h r who e a (suc k) low high = go (nat_eq a who) refl (λ more. over_found h r who e (a + 1) k more (omega arith))
  where
    later : (o : Option Report) → In r (filter_map h (range_with_len (a + 1) k)) → In r (cons_option o (filter_map h (range_with_len (a + 1) k)))
    later None i = i
    later (Some x) i = inr i

    go : (b : Bool) → nat_eq a who ≡ b → (a + 1 ≤ who → In r (filter_map h (range_with_len (a + 1) k))) → In r (filter_map h (range_with_len a (suc k)))
    go true eq rest = let here : a ≡ who = grind (arith, nat_tests) in let found : h a ≡ Some r = ap h here ∙ e in rw found (inl refl)
    go false eq rest = let other : a ≢ who = grind (arith, nat_tests) in later (h a) (rest (omega arith))

pub or_later : (a b : Bool) → b ≡ true → (a || b) ≡ true
or_later true b e = refl
or_later false b e = e

pub in_list_any : {X : Type 0} (t : X → Bool) (xs : List X) (x : X) → In x xs → t x ≡ true → list_any t xs ≡ true
in_list_any t [] x i e = absurd i
in_list_any t (y ∷ xs) x (inl same) e = let test : t y ≡ true = subst (λ z. t z ≡ true) same e in rw test refl
in_list_any t (y ∷ xs) x (inr i) e = or_later (t y) (list_any t xs) (in_list_any t xs x i e)

-- ---- the greatest of some numbers

above_fold : (x : ℕ) (xs : List ℕ) → (x ≤ fold max x xs)
above_fold x [] = omega arith
above_fold x (y ∷ xs) = let rest = above_fold (max x y) xs in omega arith

folded_above : (start : ℕ) (xs : List ℕ) (x : ℕ) → In x xs → x ≤ fold max start xs
folded_above start [] x i = absurd i
folded_above start (y ∷ xs) x (inl e) = let rest = above_fold (max start y) xs in omega arith
folded_above start (y ∷ xs) x (inr i) = folded_above (max start y) xs x i

in_readings : (rs : List Report) (r : Report) → In r rs → In r.reading (readings rs)
in_readings [] r i = absurd i
in_readings (x ∷ rs) r (inl e) = inl (ap (λ (q : Report). q.reading) e)
in_readings (x ∷ rs) r (inr i) = inr (in_readings rs r i)

in_leases : (team : Team) (rs : List Report) (r : Report) (support : ℕ) → In r rs → r.support ≡ Some support → In (support + team.lease) (lease_ends team rs)
in_leases team [] r support i e = absurd i
in_leases team (x ∷ rs) r support (inl same) e =
    let there : x.support ≡ Some support = ap (λ (q : Report). q.support) (sym same) ∙ e in
    rw there (inl refl)
in_leases team (x ∷ rs) r support (inr i) e = more (option_map (λ at. at + team.lease) x.support) (in_leases team rs r support i e)
  where
    more : (o : Option ℕ) → In (support + team.lease) (lease_ends team rs) → In (support + team.lease) (cons_option o (lease_ends team rs))
    more None j = j
    more (Some y) j = inr j

starts_after : (team : Team) (b : Ballot) (full : Bool) → AllByRecursion (StartsAfter team full (start_of team b)) b.reports.items
starts_after team b full = each_from (StartsAfter team full (start_of team b)) b.reports.items (λ r i. record {
  reading = let low = folded_above 0 (readings b.reports.items) r.reading (in_readings b.reports.items r i) in omega arith;
  lease = λ spare support e. let low = folded_above 0 (lease_ends team b.reports.items) (support + team.lease) (in_leases team b.reports.items r support i e) in omega arith;
})

-- ---- the decision

-- the parts of a group that a ballot makes, by its maker at t
pub record IsFirstOf (team : Team) (b : Ballot) (me : Member) (t : ℕ) (d : Decision) : Type 0 where
  pub group : d.group ≡ b.number
  pub turn : d.turn ≡ 0
  pub made : d.made ≡ t
  pub maker : d.maker ≡ me.who
  pub majority : team.n / 2 + 1 ≤ count_by is_by_informed b.reports.items
  pub members : AllByRecursion (λ (s : Seat). (r : Report) × In r b.reports.items × (is_consistent b.best r ≡ true) × (r.member ≡ s.member)) d.seats.items
  pub seats : team.n / 2 + 1 ≤ length d.seats.items
  pub one_seat : IsDistinct nat_eq (map (λ (s : Seat). s.member.who) d.seats.items)
  pub own_seat : has_seat me d ≡ true
  pub supports : AllByRecursion (λ (s : Seat). s.support ≢ None → (s.member ≡ me) × (s.support ≡ Some (record { ack = decision_length d; at = d.made }))) d.seats.items
  pub starts : (full : Bool) → AllByRecursion (StartsAfter team full d.start) b.reports.items
  pub starts_later : (o : Decision) → b.best ≡ Some o → o.start < d.start
  pub length : decision_length d ≡ decision_length (or_none b.best)

-- where nothing objects
record IsUnopposed (team : Team) (b : Ballot) (me : Member) : Type 0 where
  informed : team.n / 2 + 1 ≤ count_by is_by_informed b.reports.items
  there : list_any (λ (r : Report). is_same_member r.member me) (consistent b) ≡ true
  many : team.n / 2 + 1 ≤ length (consistent b)

pub none_present : (os : List Objection) → first_objection os ≡ None → AllByRecursion (λ (o : Objection). o.present ≡ false) os
none_present [] none = tt
none_present (o ∷ os) none = go o.present refl none (none_present os)
  where
    go : (b : Bool) → o.present ≡ b → cond b (Some o.why) (first_objection os) ≡ None → (first_objection os ≡ None → AllByRecursion (λ (x : Objection). x.present ≡ false) os) → (o.present ≡ false) × AllByRecursion (λ (x : Objection). x.present ≡ false) os
    go true e f rest = absurd (cc)
    go false e f rest = (e, rest f)

unopposed : (team : Team) (b : Ballot) (log : Log) (payloads : List Kept) (me : Member) → first_objection (objections team b log payloads me) ≡ None → IsUnopposed team b me
unopposed team b log payloads me none =
    let all = none_present (objections team b log payloads me) none in
    let few = all.0 in
    let apart = parts (list_any (λ (r : Report). is_same_member r.member me) (consistent b)) (nat_lt (decision_length (or_none b.best)) (log_length log)) (nat_lt (length (consistent b)) (team.n / 2 + 1)) all.1.0 in
    let enough = apart.1 in
    record { informed = grind (arith, nat_tests); there = apart.0; many = grind (arith, nat_tests) }
  where
    parts : (there shorter few : Bool) → (not there || shorter || few) ≡ false → (there ≡ true) × (few ≡ false)
    parts true false few e = (refl, e)
    parts true true few e = absurd (cc)
    parts false shorter few e = absurd (cc)

-- a member is its process and its incarnation
pub one_member : (a b : Member) → a.who ≡ b.who → a.incarnation ≡ b.incarnation → a ≡ b
one_member a b who incarnation = ap (λ (w : ℕ). record { who = w; incarnation = a.incarnation }) who ∙ ap (λ (i : ℕ). record { who = b.who; incarnation = i }) incarnation

pub same_member_of : (a b : Member) → is_same_member a b ≡ true → a ≡ b
same_member_of a b e = one_member a b (grind (arith, nat_tests)) (grind (arith, nat_tests))

pub same_member : (m : Member) → is_same_member m m ≡ true
same_member m = grind (arith, nat_tests)

first_is : (team : Team) (b : Ballot) (me : Member) (t : ℕ) → AllByRecursion (λ (r : Report). r.member.who < team.n) b.reports.items → Distinct b.reports.items → IsUnopposed team b me → IsFirstOf team b me t (first_decision team b me t)
first_is team b me t below distinct free = record {
  group = refl;
  turn = refl;
  made = refl;
  maker = refl;
  majority = free.informed;
  members = all_map (λ (s : Seat). (r : Report) × In r b.reports.items × (is_consistent b.best r ≡ true) × (r.member ≡ s.member)) (seat_of best me t) (ascending team.n cs)
      (each_from (λ (r : Report). (q : Report) × In q b.reports.items × (is_consistent b.best q ≡ true) × (q.member ≡ r.member)) (ascending team.n cs) (λ r i. let j = seated_in r i in (r, j.0, j.1, refl)));
  seats = omega (arith, size, free.many, seat_count);
  one_seat = ascend_distinct (map (seat_of best me t) (ascending team.n cs)) (seats_ascend best me t h (found_of cs) 0 team.n);
  own_seat = own_is_seated;
  supports = all_map (λ (s : Seat). s.support ≢ None → (s.member ≡ me) × (s.support ≡ Some (record { ack = decision_length (first_decision team b me t); at = t }))) (seat_of best me t) (ascending team.n cs)
      (each_from (λ (r : Report). (seat_of best me t r).support ≢ None → ((seat_of best me t r).member ≡ me) × ((seat_of best me t r).support ≡ Some (record { ack = decision_length (first_decision team b me t); at = t }))) (ascending team.n cs) (λ r i. supported_by r));
  starts = starts_after team b;
  starts_later = λ o e. later b.best o e;
  length = same_length;
}
  where
    best : Decision
    best = or_none b.best

    cs : List Report
    cs = consistent b

    h : ℕ → Option Report
    h = report_of cs

    low_who : AllByRecursion (λ (r : Report). r.member.who < team.n) cs
    low_who = all_kept (λ (r : Report). r.member.who < team.n) (is_consistent b.best) b.reports.items below

    apart : Distinct cs
    apart = distinct_kept (is_consistent b.best) b.reports.items distinct

    size : length (ascending team.n cs) ≡ length cs
    size = ascending-length team.n cs apart low_who

    seat_count : length (map (seat_of best me t) (ascending team.n cs)) ≡ length (ascending team.n cs)
    seat_count = simp length-map

    seated_in : (r : Report) → In r (ascending team.n cs) → In r b.reports.items × (is_consistent b.best r ≡ true)
    seated_in r i = let k = of_filter_map h (range_with_len 0 team.n) r i in of_filter (is_consistent b.best) b.reports.items r (found_in (λ (q : Report). nat_eq q.member.who k.0) cs r k.2).0

    own : (r : Report) × (report_of cs me.who ≡ Some r) × (is_same_member r.member me ≡ true)
    own = own_report me cs apart free.there

    own_is_seated : has_seat me (first_decision team b me t) ≡ true
    own_is_seated =
        let low = owner_low team.n me cs low_who own.0 own.1 in
        let i : In own.0 (ascending team.n cs) = over_found h own.0 me.who own.1 0 team.n (omega arith) (omega arith) in
        seat_there (ascending team.n cs) i
      where
        seat_there : (rs : List Report) → In own.0 rs → list_any (is_seat_of me) (map (seat_of best me t) rs) ≡ true
        seat_there [] i = absurd i
        seat_there (r ∷ rs) (inl e) = let same : is_same_member r.member me ≡ true = subst (λ (q : Report). is_same_member q.member me ≡ true) e own.2 in rw same refl
        seat_there (r ∷ rs) (inr i) = or_later (is_same_member r.member me) (list_any (is_seat_of me) (map (seat_of best me t) rs)) (seat_there rs i)

    lengths : AllByRecursion (IsWithin best.low (decision_length best)) cs
    lengths = each_weaker (λ (r : Report). is_consistent b.best r ≡ true) (IsWithin best.low (decision_length best)) cs (within b.best) (all_pass (is_consistent b.best) b.reports.items)

    bounds : (best.low ≤ low_of team b) × (low_of team b ≤ decision_length best)
    bounds = least_within best.low (decision_length best) (ascending team.n cs) (omega (arith, size, free.many))
        (all_found (IsWithin best.low (decision_length best)) h (range_with_len 0 team.n) (λ k. find_all (IsWithin best.low (decision_length best)) (λ (r : Report). nat_eq r.member.who k) cs lengths))

    same_length : decision_length (first_decision team b me t) ≡ decision_length best
    same_length =
        let cut : length (drop (low_of team b - best.low) best.window.items) ≡ length best.window.items - (low_of team b - best.low) = simp length-drop in
        let in_bounds = bounds in
        omega (arith, cut, in_bounds.0, in_bounds.1)

    supported_by : (r : Report) → (seat_of best me t r).support ≢ None → ((seat_of best me t r).member ≡ me) × ((seat_of best me t r).support ≡ Some (record { ack = decision_length (first_decision team b me t); at = t }))
    supported_by r = go (is_same_member r.member me) refl
      where
        go : (same : Bool) → is_same_member r.member me ≡ same → cond {A = Option Support} same (Some (record { ack = decision_length best; at = t })) None ≢ None
            → (r.member ≡ me) × (cond {A = Option Support} same (Some (record { ack = decision_length best; at = t })) None ≡ Some (record { ack = decision_length (first_decision team b me t); at = t }))
        go true e some = (same_member_of r.member me e, ap (λ (a : ℕ). Some (record { ack = a; at = t })) (sym same_length))
        go false e some = absurd (some refl)

    later : (best : Option Decision) (o : Decision) → best ≡ Some o → o.start < 1 + max (or_none best).start (max (greatest (lease_ends team b.reports.items)) (greatest (readings b.reports.items)))
    later None o e = absurd (cc)
    later (Some d) o e = let same : d.start ≡ o.start = cc in omega arith

-- of a group that was made
pub first_of_ballot : (team : Team) (b : Ballot) (log : Log) (payloads : List Kept) (me : Member) (t : ℕ) (d : Decision) → AllByRecursion (λ (r : Report). r.member.who < team.n) b.reports.items → Distinct b.reports.items → group_made team b log payloads me t ≡ Ok d → IsFirstOf team b me t d
first_of_ballot team b log payloads me t d below distinct e = go (first_objection (objections team b log payloads me)) refl e
  where
    go : (o : Option NoGroup) → first_objection (objections team b log payloads me) ≡ o → (elim o as (λ o. Result Decision NoGroup) [ None ↦ Ok (first_decision team b me t) | Some why ↦ Err why ]) ≡ Ok d → IsFirstOf team b me t d
    go None none e = let same : first_decision team b me t ≡ d = cc in subst (IsFirstOf team b me t) same (first_is team b me t below distinct (unopposed team b log payloads me none))
    go (Some why) none e = absurd (cc)

-- a group that is made is the first decision of its ballot
pub group_is_first : (team : Team) (ballot : Ballot) (log : Log) (payloads : List Kept) (me : Member) (t : ℕ) (d : Decision) → group_made team ballot log payloads me t ≡ Ok d → first_decision team ballot me t ≡ d
group_is_first team ballot log payloads me t d e = go (first_objection (objections team ballot log payloads me)) e
  where
    go : (o : Option NoGroup) → (elim o as (λ o. Result Decision NoGroup) [ None ↦ Ok (first_decision team ballot me t) | Some why ↦ Err why ]) ≡ Ok d → first_decision team ballot me t ≡ d
    go None e = cc
    go (Some why) e = absurd (cc)
