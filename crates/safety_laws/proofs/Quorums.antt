-- A majority binds later groups: one of its processes promised the later one, and told what it had made.
use Rattle.std.proofs.Common.{◌≡◌, refl, sym, ap, subst, ◌∙◌, inl, inr, ℕ, ◌+◌, ◌/◌, ◌≤◌, ◌<◌, Bool, true, List, [], ◌∷◌, Option, Some, None, is_some, count_by, arith}
use Rattle.std.specs.List.{AllByRecursion}
use Rattle.std.proofs.lemmas.Bool.Decides.{nat_tests}
use Rattle.tw_machine.specs.Types.{Team, Decision, Member, Report, Seat, Support, Step}
use Rattle.tw_types.specs.Decisions.{or_none}
use Rattle.tw_types.specs.Reports.{is_by_informed}
use Rattle.tw_machine.specs.History.{Promised, Make}
use Rattle.tw_machine.proofs.Tables.{all_mapped}
use Rattle.safety_laws.specs.Effects.{Written}
use Rattle.tw_types.specs.Items.{In}
use Rattle.safety_laws.specs.Made.{IsNotOlder, WasReported, AllArise}
use Rattle.safety_laws.specs.Names.{make_name, IsNamed, AreNamed}
use Rattle.safety_laws.specs.Precede.{Precedes, PrecedeIt}
use Rattle.safety_laws.specs.Supports.{IsMakeOf, IsSupported, AllSupported}
use Rattle.safety_laws.proofs.Counting.{IsMajority, processes_by, majority_by, shared_by}
use Rattle.safety_laws.proofs.Groups.{ComesAt, comes_at, has_first, are_majority}
use Rattle.safety_laws.proofs.Lists.{of_each, each_weaker}
use Rattle.safety_laws.proofs.Ballots.{not_older_group}

-- ---- what is known of promises and makes

-- a make bears its own process's name
abbrev pub HasOwnName : Make → Type 0
HasOwnName m = m.member.who ≡ m.who

pub own_names : (steps : List Step) (w : Written) → AreNamed steps w → AllByRecursion HasOwnName w.makes
own_names steps w named = each_weaker (λ (m : Make). IsNamed steps (make_name m)) HasOwnName w.makes (λ m n. n.member) named.makes

pub record Agree (team : Team) (promises : List Promised) (makes : List Make) : Type 0 where
  pub arise : AllArise team promises makes
  pub supported : AllSupported makes
  pub precede : AllByRecursion (PrecedeIt team makes) promises
  pub named : AllByRecursion HasOwnName makes

-- a support is a make of its member
pub supported_at : (makes : List Make) (m : Make) → AllSupported makes → In m makes → (seat : Seat) → In seat m.making.decision.seats.items → (support : Support) → seat.support ≡ Some support → (made : Make) × In made makes × IsMakeOf m seat support made
supported_at [] m all i seat j support e = absurd i
supported_at (x ∷ older) m all (inl same) seat j support e =
    of_each (IsSupported (x ∷ older) m) m.making.decision.seats.items seat (subst (λ (y : Make). AllByRecursion (IsSupported (x ∷ older) y) y.making.decision.seats.items) (sym same) all.0) j support e
supported_at (x ∷ older) m all (inr i) seat j support e = let r = supported_at older m all.1 i seat j support e in (r.0, inr r.1, r.2)

-- ---- the shared process

-- A process of both: its seat in the lower group's decision passes the test and has a support, which it made, and its report is in the
-- ballot of the higher group, with its promise.
pub record Shared (team : Team) (promises : List Promised) (makes : List Make) (test : Seat → Bool) (lower higher : Make) : Type 0 where
  pub seat : Seat
  pub seat_among : In seat lower.making.decision.seats.items
  pub passes : test seat ≡ true
  pub support : Support
  pub supports : seat.support ≡ Some support
  pub made : Make
  pub made_among : In made makes
  pub of_seat : IsMakeOf lower seat support made
  pub report : Report
  pub reported : In report higher.making.reports
  pub informed : is_by_informed report ≡ true
  pub given : Promised
  pub given_among : In given promises
  pub number : given.promise.number ≡ higher.making.decision.group
  pub told : given.promise.report ≡ report
  pub same_process : made.who ≡ given.who
  pub precedes : Precedes team given made

pub some_support : (o : Option Support) → is_some o ≡ true → (support : Support) × (o ≡ Some support)
some_support None e = absurd (cc)
some_support (Some support) e = (support, refl)

-- the members whose seats pass a test, where they are enough
pub supporters : (team : Team) (promises : List Promised) (makes : List Make) → AllArise team promises makes → (test : Seat → Bool) (m : Make) → In m makes → team.n / 2 + 1 ≤ count_by test m.making.decision.seats.items
    → IsMajority team.n (processes_by (λ (s : Seat). s.member.who) test m.making.decision.seats.items)
supporters team promises makes arise test m i enough =
    let all = are_majority team promises makes arise m i in
    majority_by team.n (λ (s : Seat). s.member.who) test m.making.decision.seats.items all.distinct all.below enough

-- the informed ones that a group was made of
informed_ones : (team : Team) (promises : List Promised) (makes : List Make) (m : Make) → ComesAt team promises makes m → IsMajority team.n (processes_by (λ (r : Report). r.member.who) is_by_informed m.making.reports)
informed_ones team promises makes m at =
    majority_by team.n (λ (r : Report). r.member.who) is_by_informed m.making.reports at.comes.distinct
    (all_mapped (λ q. q < team.n) (λ (r : Report). r.member.who) m.making.reports at.comes.below) at.comes.majority

module _ (team : Team) (promises : List Promised) (makes : List Make) (k : Agree team promises makes) (test : Seat → Bool) (lower higher : Make) where
  -- a seat that passes, and the report of its process in the ballot of the higher group
  shared_at : ((s : Seat) → test s ≡ true → is_some s.support ≡ true) → In lower makes → In higher makes → higher.making.decision.turn ≡ 0 → lower.making.decision.group < higher.making.decision.group
      → (s : Seat) (r : Report) → In s lower.making.decision.seats.items → In r higher.making.reports → test s ≡ true → is_by_informed r ≡ true → s.member.who ≡ r.member.who → Shared team promises makes test lower higher
  shared_at there i j turn later s r si ri passes informed same =
      let at = comes_at team promises makes higher k.arise j turn in
      let support = some_support s.support (there s passes) in
      let m = supported_at makes lower k.supported i s si support.0 support.1 in
      let p = of_each (WasReported promises higher.making.decision.group) higher.making.reports r at.comes.promised ri in
      let one : m.0.who ≡ p.0.who = sym (of_each HasOwnName makes m.0 k.named m.1) ∙ ap (λ (x : Member). x.who) m.2.member ∙ same ∙ sym p.2 in
      record {
        seat = s;
        seat_among = si;
        passes = passes;
        support = support.0;
        supports = support.1;
        made = m.0;
        made_among = m.1;
        of_seat = m.2;
        report = r;
        reported = ri;
        informed = informed;
        given = p.0;
        given_among = p.1;
        number = p.3;
        told = p.4;
        same_process = one;
        precedes = of_each (λ (m : Make). m.who ≡ p.0.who → m.making.decision.group < p.0.promise.number → Precedes team p.0 m) makes m.0 (of_each (PrecedeIt team makes) promises p.0 k.precede p.1) m.1 one
            (subst (λ (g : ℕ). g < p.0.promise.number) (sym m.2.group) (subst (λ (x : ℕ). lower.making.decision.group < x) (sym p.3) later));
      }

  -- there is such a process, where enough seats pass
  pub shared_support : ((s : Seat) → test s ≡ true → is_some s.support ≡ true) → In lower makes → In higher makes → team.n / 2 + 1 ≤ count_by test lower.making.decision.seats.items
      → higher.making.decision.turn ≡ 0 → lower.making.decision.group < higher.making.decision.group → Shared team promises makes test lower higher
  shared_support there i j enough turn later =
      let both = shared_by team.n (λ (s : Seat). s.member.who) test lower.making.decision.seats.items (λ (r : Report). r.member.who) is_by_informed higher.making.reports (supporters team promises makes k.arise test lower i enough) (informed_ones team promises makes higher (comes_at team promises makes higher k.arise j turn)) in
      shared_at there i j turn later both.0 both.1 both.2 both.3 both.4 both.5 both.6

-- ---- a majority binds later groups

not_older_still : (g t g1 t1 g2 t2 : ℕ) → IsNotOlder g t g1 t1 → IsNotOlder g1 t1 g2 t2 → IsNotOlder g t g2 t2
not_older_still g t g1 t1 g2 t2 a b = grind (arith, nat_tests)

-- The higher group stands on a decision, of a group that isn't below the lower one, with a pair that isn't below what the shared
-- process made.
pub record Binds (team : Team) (promises : List Promised) (makes : List Make) (test : Seat → Bool) (lower higher : Make) : Type 0 where
  pub shared : Shared team promises makes test lower higher
  pub best : Decision
  pub before : higher.making.before ≡ Some best
  pub group : lower.making.decision.group ≤ best.group
  pub pair : IsNotOlder best.group best.turn shared.made.making.decision.group shared.made.making.decision.turn

-- whatever process they share
pub binds : (team : Team) (promises : List Promised) (makes : List Make) → Agree team promises makes → (test : Seat → Bool) (lower higher : Make) → In lower makes → In higher makes → higher.making.decision.turn ≡ 0
    → Shared team promises makes test lower higher → Binds team promises makes test lower higher
binds team promises makes k test lower higher i j turn x = on higher.making.before refl above
  where
    at : ComesAt team promises makes higher
    at = comes_at team promises makes higher k.arise j turn

    positive : 1 ≤ lower.making.decision.group
    positive = let h = has_first team promises makes k.arise lower i in subst (λ (g : ℕ). 1 ≤ g) h.group h.at.comes.positive

    told : IsNotOlder x.given.promise.report.group x.given.promise.report.turn x.made.making.decision.group x.made.making.decision.turn
    told = x.precedes.pair (subst (λ (r : Report). is_by_informed r ≡ true) (sym x.told) x.informed)

    above : IsNotOlder (or_none higher.making.before).group (or_none higher.making.before).turn x.made.making.decision.group x.made.making.decision.turn
    above =
        not_older_still (or_none higher.making.before).group (or_none higher.making.before).turn x.report.group x.report.turn x.made.making.decision.group x.made.making.decision.turn
        (of_each (λ (r : Report). is_by_informed r ≡ true → IsNotOlder (or_none higher.making.before).group (or_none higher.making.before).turn r.group r.turn) higher.making.reports x.report at.comes.best.greatest x.reported x.informed)
        (subst (λ (r : Report). IsNotOlder r.group r.turn x.made.making.decision.group x.made.making.decision.turn) x.told told)

    on : (o : Option Decision) → higher.making.before ≡ o → IsNotOlder (or_none o).group (or_none o).turn x.made.making.decision.group x.made.making.decision.turn → Binds team promises makes test lower higher
    on None e pair =
        let below = not_older_group 0 0 x.made.making.decision.group x.made.making.decision.turn pair in
        let same = x.of_seat.group in
        absurd (omega (arith, positive))
    on (Some best) e pair =
        let not_below = not_older_group best.group best.turn x.made.making.decision.group x.made.making.decision.turn pair in
        record { shared = x; best = best; before = e; group = subst (λ (g : ℕ). g ≤ best.group) x.of_seat.group not_below; pair = pair }

-- A made decision that a majority supports, and a made group above its group, made before or after it.
pub majority_binds : (team : Team) (promises : List Promised) (makes : List Make) → Agree team promises makes → (lower higher : Make) → In lower makes → In higher makes
    → team.n / 2 + 1 ≤ count_by (λ (s : Seat). is_some s.support) lower.making.decision.seats.items → higher.making.decision.turn ≡ 0 → lower.making.decision.group < higher.making.decision.group
    → Binds team promises makes (λ (s : Seat). is_some s.support) lower higher
majority_binds team promises makes k lower higher i j enough turn later =
    binds team promises makes k (λ (s : Seat). is_some s.support) lower higher i j turn (shared_support team promises makes k (λ (s : Seat). is_some s.support) lower higher (λ s e. e) i j enough turn later)
