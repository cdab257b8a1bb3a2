-- Where the window of a made decision begins: not behind what its maker has of the list.
use Rattle.std.proofs.Common.{◌≡◌, ◌≢◌, refl, sym, ap, subst, ◌∙◌, inl, inr, ℕ, ◌≤◌, ◌<◌, max, nat_eq, Bool, true, false, cond, not, ◌||◌, ◌&&◌, List, [], ◌∷◌, map, length, is_some, Option, Some, None, Result, Ok, Err, arith}
use Rattle.std.specs.List.{AllByRecursion, IsDistinct, list_all, list_any}
use Rattle.std.proofs.lemmas.Bool.Decides.{nat_tests}
use Rattle.std.proofs.lemmas.List.{length-map}
use Rattle.std.proofs.lemmas.Map.Keys.{IsDistinct-head}
use Rattle.std.proofs.lemmas.Option.{same_Some}
use Rattle.tw_machine.specs.Types.{Team, Ballot, Decision, Entry, Kept, Member, Report, Seat, Support}
use Rattle.tw_types.specs.Appending.{raised}
use Rattle.tw_types.specs.Beliefs.{Log}
use Rattle.tw_types.specs.Decisions.{or_none, decision_length, is_same_member}
use Rattle.tw_types.specs.Groups.{NoGroup, consistent, seated, objections, first_objection, Objection, payload_objection, first_decision, group_made}
use Rattle.tw_types.specs.Items.{In}
use Rattle.tw_types.specs.Logs.{needed}
use Rattle.tw_types.specs.Ranges.{Distinct}
use Rattle.tw_types.specs.Reports.{is_consistent}
use Rattle.tw_types.specs.Turns.{supported, acks, least, raised_low, next_decision}
use Rattle.tw_types.specs.Updates.{has_update}
use Rattle.tw_types.proofs.Appended.{in_map, of_filter}
use Rattle.tw_types.proofs.Lists.{all_parted}
use Rattle.tw_machine.specs.History.{Promised, Make}
use Rattle.tw_machine.proofs.Tables.{all_mapped}
use Rattle.group_maker.proofs.Ascending.{report_of}
use Rattle.group_maker.proofs.Ranges.{all_kept, distinct_kept, own_report}
use Rattle.group_maker.proofs.Fitting.{owner_low}
use Rattle.safety_laws.specs.Made.{WasMade, Follows, ComesFrom, AllArise}
use Rattle.safety_laws.proofs.Counting.{IsMajority}
use Rattle.safety_laws.proofs.FirstDecisions.{all_mapped_from, same_member_of, none_present, over_found}
use Rattle.safety_laws.proofs.Groups.{are_majority}
use Rattle.safety_laws.proofs.Lists.{of_each, each_weaker, found_in}
use Rattle.safety_laws.proofs.NextDecisions.{in_changed, least_below, told_ack}
use Rattle.safety_laws.proofs.Turns.{along_turns}

-- ---- the least of some numbers

-- where every seat has a support this one does
all_have : (seats : List Seat) (s : Seat) → In s seats → list_all (λ (z : Seat). is_some z.support) seats ≡ true → (support : Support) × (s.support ≡ Some support)
all_have [] s i e = absurd i
all_have (x ∷ seats) s i e = go (is_some x.support) refl e i (all_have seats s)
  where
    has : (o : Option Support) → is_some o ≡ true → (support : Support) × (o ≡ Some support)
    has None e = absurd (cc)
    has (Some support) e = (support, refl)

    go : (b : Bool) → is_some x.support ≡ b → (b && list_all (λ (z : Seat). is_some z.support) seats) ≡ true → In s (x ∷ seats)
        → (In s seats → list_all (λ (z : Seat). is_some z.support) seats ≡ true → (support : Support) × (s.support ≡ Some support)) → (support : Support) × (s.support ≡ Some support)
    go true is e (inl same) rest = let k = has x.support is in (k.0, ap (λ (z : Seat). z.support) same ∙ k.1)
    go true is e (inr j) rest = rest j e
    go false is e j rest = absurd (cc)

-- A low that rises stays at or below what one of the seats has, if it was.
low_kept : (low end : ℕ) (seats : List Seat) → low ≤ end → (s : Seat) → In s seats → ((support : Support) → s.support ≡ Some support → support.ack ≤ end) → raised_low low seats ≤ end
low_kept low end seats below s i has = go (list_all (λ (z : Seat). is_some z.support) seats) refl
  where
    go : (b : Bool) → list_all (λ (z : Seat). is_some z.support) seats ≡ b → cond b (max low (least (acks seats))) low ≤ end
    go true e = let k = all_have seats s i e in let small = least_below (acks seats) k.0.ack (told_ack seats s k.0 i k.1) in let high = has k.0 k.1 in omega (arith, below, small, high)
    go false e = below

-- ---- a next decision

-- no seat says more than there is
abbrev SaysAtMost : ℕ → Seat → Type 0
SaysAtMost end s = (support : Support) → s.support ≡ Some support → support.ack ≤ end

-- in no make
acks_within : (team : Team) (promises : List Promised) (makes : List Make) → AllArise team promises makes → AllByRecursion (λ (m : Make). AllByRecursion (SaysAtMost (decision_length m.making.decision)) m.making.decision.seats.items) makes
acks_within team promises = along_turns team promises (λ (m : Make). AllByRecursion (SaysAtMost (decision_length m.making.decision)) m.making.decision.seats.items) first next
  where
    first : (older : List Make) (m : Make) → m.making.decision.turn ≡ 0 → ComesFrom team promises older m → AllByRecursion (SaysAtMost (decision_length m.making.decision)) m.making.decision.seats.items
    first older m turn comes =
        each_weaker (λ (s : Seat). s.support ≢ None → (s.member ≡ m.member) × (s.support ≡ Some (record { ack = decision_length m.making.decision; at = m.making.decision.made })))
        (SaysAtMost (decision_length m.making.decision)) m.making.decision.seats.items
        (λ s f support is.
        let k = f (λ none. let no_support : None ≡ Some support = sym none ∙ is in cc) in
        let ack = ap (λ (z : Support). z.ack) (same_Some support (record { ack = decision_length m.making.decision; at = m.making.decision.made }) (sym is ∙ k.1)) in omega (arith, ack)) comes.supports

    by_seat : (who : ℕ) (own : Support) (end : ℕ) (s : Seat) → own.ack ≤ end → SaysAtMost end s → SaysAtMost end (supported who own s)
    by_seat who own end s low k = go (nat_eq s.member.who who)
      where
        go : (b : Bool) → SaysAtMost end (cond b (record s { support = Some own }) s)
        go true support is = let same = ap (λ (z : Support). z.ack) (same_Some own support is) in omega (arith, same, low)
        go false support is = k support is

    next : (older : List Make) (m b : Make) (last : Decision) → Follows older m last → In b older → b.making.decision ≡ last → AllByRecursion (SaysAtMost (decision_length b.making.decision)) b.making.decision.seats.items
        → AllByRecursion (SaysAtMost (decision_length m.making.decision)) m.making.decision.seats.items
    next older m b last f i same all =
        let was : AllByRecursion (SaysAtMost (decision_length last)) last.seats.items = subst (λ (d : Decision). AllByRecursion (SaysAtMost (decision_length d)) d.seats.items) same all in
        let longer = f.longer in
        let own : Support = record { ack = decision_length m.making.decision; at = m.making.decision.made } in
        subst (AllByRecursion (SaysAtMost (decision_length m.making.decision))) (sym f.seats)
        (all_mapped (SaysAtMost (decision_length m.making.decision)) (supported m.who own) (map (raised f.entries) last.seats.items)
        (all_mapped (λ (s : Seat). SaysAtMost (decision_length m.making.decision) (supported m.who own s)) (raised f.entries) last.seats.items
        (each_weaker (SaysAtMost (decision_length last)) (λ (s : Seat). SaysAtMost (decision_length m.making.decision) (supported m.who own (raised f.entries s))) last.seats.items
        (λ s k. by_seat m.who own (decision_length m.making.decision) (raised f.entries s) (omega arith) (λ support is. let low = k support is in omega (arith, low, longer))) was)))

-- another process has a seat where there are two
other_seat : (who : ℕ) (seats : List Seat) → IsDistinct nat_eq (map (λ (s : Seat). s.member.who) seats) → 2 ≤ length seats → (s : Seat) × In s seats × (nat_eq s.member.who who ≡ false)
other_seat who [] apart many = absurd (omega arith)
other_seat who (a ∷ []) apart many = absurd (omega arith)
other_seat who (a ∷ b ∷ seats) apart many = go (nat_eq a.member.who who) refl
  where
    go : (t : Bool) → nat_eq a.member.who who ≡ t → (s : Seat) × In s (a ∷ b ∷ seats) × (nat_eq s.member.who who ≡ false)
    go true e =
        let other = (IsDistinct-head nat_eq a.member.who (b.member.who ∷ map (λ (s : Seat). s.member.who) seats) apart).0 in
        (b, inr (inl refl), grind (arith, nat_tests))
    go false e = (a, inl refl, e)

-- Its window begins within the list of the last one: some other seat says no more than that.
pub next_low : (team : Team) (promises : List Promised) (makes : List Make) → AllArise team promises makes → 3 ≤ team.n → (last : Decision) → WasMade makes last → (entries : List Entry) (t who : ℕ) → (next_decision entries last t who).low ≤ decision_length last
next_low team promises makes arise many last made entries t who = by_seat (other_seat who last.seats.items major.distinct enough)
  where
    major : IsMajority team.n (map (λ (s : Seat). s.member.who) last.seats.items)
    major = subst (λ (d : Decision). IsMajority team.n (map (λ (s : Seat). s.member.who) d.seats.items)) made.2 (are_majority team promises makes arise made.0 made.1)

    enough : 2 ≤ length last.seats.items
    enough = let size = major.enough in let same : length (map (λ (s : Seat). s.member.who) last.seats.items) ≡ length last.seats.items = simp length-map in omega (arith, size, same, many)

    within : AllByRecursion (SaysAtMost (decision_length last)) last.seats.items
    within = subst (λ (d : Decision). AllByRecursion (SaysAtMost (decision_length d)) d.seats.items) made.2
        (of_each (λ (m : Make). AllByRecursion (SaysAtMost (decision_length m.making.decision)) m.making.decision.seats.items) makes made.0 (acks_within team promises makes arise) made.1)

    by_seat : (s : Seat) × In s last.seats.items × (nat_eq s.member.who who ≡ false) → (next_decision entries last t who).low ≤ decision_length last
    by_seat s = low_kept last.low (decision_length last) _ (omega arith) (supported who _ (raised entries s.0))
        (in_changed (supported who _) (map (raised entries) last.seats.items) (raised entries s.0) (in_changed (raised entries) last.seats.items s.0 s.1))
        (λ support is. of_each (SaysAtMost (decision_length last)) last.seats.items s.0 within s.1 support (same_support (nat_eq s.0.member.who who) s.2 (raised entries s.0) support _ is))
      where
        same_support : (b : Bool) → b ≡ false → (z : Seat) (support own : Support) → (cond b (record z { support = Some own }) z).support ≡ Some support → z.support ≡ Some support
        same_support true e z support own is = absurd (cc)
        same_support false e z support own is = is

-- ---- a group

-- a group that is made is the first decision of its ballot, where nothing objects
pub record IsUnopposed (team : Team) (b : Ballot) (log : Log) (payloads : List Kept) (me : Member) (t : ℕ) (d : Decision) : Type 0 where
  pub same : first_decision team b me t ≡ d
  pub there : list_any (λ (r : Report). is_same_member r.member me) (consistent b) ≡ true
  pub whole : AllByRecursion (λ (e : Entry). not (has_update e.id payloads) ≡ false) (needed log (or_none b.best))

-- of a group that was made
pub unopposed : (team : Team) (b : Ballot) (log : Log) (payloads : List Kept) (me : Member) (t : ℕ) (d : Decision) → group_made team b log payloads me t ≡ Ok d → IsUnopposed team b log payloads me t d
unopposed team b log payloads me t d e = go (first_objection (objections team b log payloads me)) refl e
  where
    is_there : (there shorter few : Bool) → (not there || shorter || few) ≡ false → there ≡ true
    is_there true shorter few e = refl
    is_there false shorter few e = absurd (cc)

    go : (o : Option NoGroup) → first_objection (objections team b log payloads me) ≡ o → (elim o as (λ o. Result Decision NoGroup) [ None ↦ Ok (first_decision team b me t) | Some why ↦ Err why ]) ≡ Ok d → IsUnopposed team b log payloads me t d
    go None none e =
        let all = none_present (objections team b log payloads me) none in record {
          same = cc;
          there = is_there (list_any (λ (r : Report). is_same_member r.member me) (consistent b)) _ _ all.1.0;
          whole = all_mapped_from (λ (o : Objection). o.present ≡ false) (payload_objection payloads) (needed log (or_none b.best))
              (all_parted (λ (o : Objection). o.present ≡ false) (map (payload_objection payloads) (needed log (or_none b.best))) _ all.1.1.1).0;
        }
    go (Some why) none e = absurd (cc)

-- a member's own report, which goes with best
pub record IsOwnReport (team : Team) (b : Ballot) (me : Member) (t : ℕ) (r : Report) : Type 0 where
  pub there : In r b.reports.items
  pub consistent : is_consistent b.best r ≡ true
  pub member : r.member ≡ me
  pub low : (first_decision team b me t).low ≤ r.length

-- The window of a group begins within what its maker reported.
pub own_low : (team : Team) (b : Ballot) (me : Member) (t : ℕ) → AllByRecursion (λ (r : Report). r.member.who < team.n) b.reports.items → Distinct b.reports.items → list_any (λ (r : Report). is_same_member r.member me) (consistent b) ≡ true
    → (r : Report) × IsOwnReport team b me t r
own_low team b me t below apart there =
    let among = of_filter (is_consistent b.best) b.reports.items own.0 (found_in (λ (r : Report). nat_eq r.member.who me.who) cs own.0 own.1).0 in (
      own.0,
      record {
        there = among.0;
        consistent = among.1;
        member = same_member_of own.0.member me own.2;
        low = least_below (map (λ (r : Report). r.length) (seated team b)) own.0.length
            (in_map (λ (r : Report). r.length) (seated team b) own.0 (over_found (report_of cs) own.0 me.who own.1 0 team.n (omega arith) (let low = owner_low team.n me cs low_who own.0 own.1 in omega (arith, low))));
      },
    )
  where
    cs : List Report
    cs = consistent b

    low_who : AllByRecursion (λ (r : Report). r.member.who < team.n) cs
    low_who = all_kept (λ (r : Report). r.member.who < team.n) (is_consistent b.best) b.reports.items below

    own : (r : Report) × (report_of cs me.who ≡ Some r) × (is_same_member r.member me ≡ true)
    own = own_report me cs (distinct_kept (is_consistent b.best) b.reports.items apart) there
