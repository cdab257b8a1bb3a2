-- What a majority acknowledged of a list begins the list of each later group; and what supports say of lengths.
use Rattle.std.proofs.Common.{◌≡◌, refl, sym, ap, subst, ◌∙◌, ◌⊎◌, inl, inr, ℕ, zero, suc, ◌+◌, ◌/◌, ◌≤◌, ◌<◌, true, List, length, take, Option, Some, None, is_some, count_by, arith}
use Rattle.std.specs.List.{AllByRecursion}
use Rattle.std.proofs.lemmas.Bool.{cases_lt}
use Rattle.std.proofs.lemmas.Bool.Decides.{nat_tests}
use Rattle.tw_machine.specs.Types.{Team, Decision, Kept, Seat, Support}
use Rattle.tw_types.specs.Items.{In}
use Rattle.tw_machine.specs.History.{Promised, Make, list_of}
use Rattle.safety_laws.specs.Acknowledged.{reaches, has_acked, Supported}
use Rattle.safety_laws.specs.Beginnings.{IsBeginning}
use Rattle.safety_laws.specs.Groups.{BeginsAbove}
use Rattle.safety_laws.specs.Lists.{IsListOf}
use Rattle.safety_laws.specs.Made.{WasMade, WasMadeIfAny}
use Rattle.safety_laws.specs.Supports.{AllSupported}
use Rattle.safety_laws.proofs.Groups.{comes_at, has_first}
use Rattle.safety_laws.proofs.Lists.{of_each, each_from}
use Rattle.safety_laws.proofs.Prefixes.{HaveLists, begins_length, begins_first, list_of_made, before_made, extend, group_list}
use Rattle.safety_laws.proofs.Quorums.{Agree, Shared, Binds, supported_at, shared_support, binds}
use Rattle.safety_laws.proofs.Ballots.{not_older_turn}

-- ---- supports tell lengths

pub supports_tell : (makes : List Make) → AllSupported makes → AllByRecursion IsListOf makes → AllByRecursion (λ (m : Make). AllByRecursion (Supported makes m) m.making.decision.seats.items) makes
supports_tell makes all whole =
    each_from (λ (m : Make). AllByRecursion (Supported makes m) m.making.decision.seats.items) makes (λ m i. each_from (Supported makes m) m.making.decision.seats.items (λ seat j support e. tell m i seat j support e))
  where
    tell : (m : Make) → In m makes → (seat : Seat) → In seat m.making.decision.seats.items → Supported makes m seat
    tell m i seat j support e =
        let k = supported_at makes m all i seat j support e in
        let own = of_each IsListOf makes k.0 whole k.1 in
        (k.0, k.1, record { member = k.2.member; group = k.2.group; at = k.2.at; length_is = sym own.same_length ∙ k.2.ack })

-- ---- a group that stands on a decision

-- The make of that decision: its list is the group's, and its group is below.
pub record StoodOn (makes : List Make) (later : Make) (best : Decision) : Type 0 where
  pub make : Make
  pub among : In make makes
  pub is : make.making.decision ≡ best
  pub list : later.log ≡ make.log
  pub below : best.group < later.making.decision.group

pub stood_on : (team : Team) (promises : List Promised) (makes : List Make) → HaveLists team promises makes → (later : Make) → In later makes → later.making.decision.turn ≡ 0 → (best : Decision)
    → later.making.before ≡ Some best → StoodOn makes later best
stood_on team promises makes k later j turn best e =
    let made : WasMade makes best = subst (WasMadeIfAny makes) e (before_made team promises makes k.arise later j) in
    let at = comes_at team promises makes later k.arise j turn in
    record {
      make = made.0;
      among = made.1;
      is = made.2;
      list = group_list team promises makes k later j turn ∙ ap (list_of makes) e ∙ list_of_made makes k.once best made;
      below = at.comes.lower best e;
    }

-- ---- acknowledged entries last

-- the list of a make is at least so long, and begins as another one's
abbrev HasFirsts : ℕ → Make → Make → Type 0
HasFirsts l m later = (l ≤ length later.log) × (take l later.log ≡ take l m.log)

firsts_of : (l : ℕ) (xs ys zs : List Kept) → IsBeginning xs ys → l ≤ length xs → take l xs ≡ zs → (l ≤ length ys) × (take l ys ≡ zs)
firsts_of l xs ys zs begins low same = let long = begins_length xs ys begins in (omega arith, begins_first l xs ys begins low ∙ same)

-- a seat that acknowledged so many has a support that says so
acked_some : (l : ℕ) (o : Option Support) → reaches l o ≡ true → is_some o ≡ true
acked_some l None e = absurd (cc)
acked_some l (Some support) e = refl

acked_low : (l : ℕ) (support : Support) → reaches l (Some support) ≡ true → l ≤ support.ack
acked_low l support e = grind (arith, nat_tests)

module _ (team : Team) (promises : List Promised) (makes : List Make) (k : HaveLists team promises makes) (agree : Agree team promises makes) (whole : AllByRecursion IsListOf makes) where
  -- one group, where it holds of the groups between
  last_at : (l : ℕ) (m later : Make) → In m makes → In later makes → team.n / 2 + 1 ≤ count_by (has_acked l) m.making.decision.seats.items → BeginsAbove m.making.decision.group later
      → ((first : Make) → In first makes → BeginsAbove m.making.decision.group first → first.making.decision.group < later.making.decision.group → HasFirsts l m first) → HasFirsts l m later
  last_at l m later i j enough above between = subst (λ list. (l ≤ length list) × (take l list ≡ take l m.log)) (sym on.list) (by (cases_lt m.making.decision.group b.best.group))
    where
      b : Binds team promises makes (has_acked l) m later
      b = binds team promises makes agree (has_acked l) m later i j above.turn (shared_support team promises makes agree (has_acked l) m later (λ s e. acked_some l s.support e) i j enough above.turn above.above)

      x : Shared team promises makes (has_acked l) m later
      x = b.shared

      on : StoodOn makes later b.best
      on = stood_on team promises makes k later j above.turn b.best b.before

      group : on.make.making.decision.group ≡ b.best.group
      group = ap (λ (d : Decision). d.group) on.is

      -- what the shared process made, of the group of m, has so many
      long : l ≤ length x.made.log
      long =
          let low = acked_low l x.support (subst (λ (o : Option Support). reaches l o ≡ true) x.supports x.passes) in
          let ack = x.of_seat.ack in
          let own = (of_each IsListOf makes x.made whole x.made_among).same_length in
          omega (arith, low)

      same : take l x.made.log ≡ take l m.log
      same = sym (begins_first l x.made.log m.log (extend team promises makes k x.made m x.made_among i x.of_seat.group x.of_seat.turn) long)

      by : (m.making.decision.group < b.best.group) ⊎ (b.best.group ≤ m.making.decision.group) → HasFirsts l m on.make
      by (inl higher) =
          let h = has_first team promises makes agree.arise on.make on.among in
          let number : h.first.making.decision.group ≡ b.best.group = h.group ∙ group in
          let below = on.below in
          let start = h.turn in
          let f = between h.first h.among (record { turn = h.turn; above = omega (arith, higher, number) }) (omega (arith, below, number)) in
          firsts_of l h.first.log on.make.log (take l m.log) (extend team promises makes k h.first on.make h.among on.among h.group (omega (arith, start))) f.0 f.1
      by (inr low) =
          let not_below = b.group in
          let one : b.best.group ≡ x.made.making.decision.group = omega (arith, low, not_below) ∙ sym x.of_seat.group in
          let turn : x.made.making.decision.turn ≤ on.make.making.decision.turn =
          subst (λ (d : Decision). x.made.making.decision.turn ≤ d.turn) (sym on.is) (not_older_turn b.best.group b.best.turn x.made.making.decision.group x.made.making.decision.turn b.pair (sym one)) in
          firsts_of l x.made.log on.make.log (take l m.log) (extend team promises makes k x.made on.make x.made_among on.among (sym one ∙ sym group) turn) long same

  last_below : (n : ℕ) (l : ℕ) (m later : Make) → In m makes → In later makes → team.n / 2 + 1 ≤ count_by (has_acked l) m.making.decision.seats.items → BeginsAbove m.making.decision.group later
      → later.making.decision.group < n → HasFirsts l m later
  last_below zero l m later i j enough above low = absurd (omega (arith, low))
  last_below (suc n) l m later i j enough above low = last_at l m later i j enough above (λ first f begins below. last_below n l m first i f enough begins (omega (arith, low, below)))

  -- What a majority acknowledged of a made decision, each group made with a greater number has, before or after it.
  pub acked_last : (m later : Make) (l : ℕ) → In m makes → In later makes → team.n / 2 + 1 ≤ count_by (has_acked l) m.making.decision.seats.items → BeginsAbove m.making.decision.group later
      → (l ≤ length later.log) × (take l later.log ≡ take l m.log)
  acked_last m later l i j enough above = last_below (suc later.making.decision.group) l m later i j enough above (omega arith)
