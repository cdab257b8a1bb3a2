-- Leases outlast older groups: a later group starts above each reading at which a majority's supports of an older one count.
use Rattle.std.proofs.Common.{◌≡◌, refl, sym, subst, ◌⊎◌, inl, inr, ℕ, ◌+◌, ◌/◌, ◌≤◌, ◌<◌, true, false, List, Option, Some, None, is_some, count_by, arith}
use Rattle.std.proofs.lemmas.Bool.Decides.{nat_tests}
use Rattle.tw_machine.specs.Types.{Team, Decision, Seat, Support}
use Rattle.tw_types.specs.Flag.{counts, is_supported}
use Rattle.tw_machine.specs.History.{Promised, Make, Up}
use Rattle.safety_laws.specs.Full.{is_full}
use Rattle.tw_types.specs.Items.{In}
use Rattle.safety_laws.specs.Made.{StartsAfter}
use Rattle.safety_laws.specs.Memory.{IsAtLeast}
use Rattle.safety_laws.specs.NotAhead.{promise_reading, make_reading}
use Rattle.safety_laws.specs.Ups.{WasUp}
use Rattle.safety_laws.proofs.Groups.{ComesAt, comes_at}
use Rattle.safety_laws.proofs.Lists.{of_each}
use Rattle.safety_laws.proofs.Quorums.{Agree, Shared, shared_support}

-- what counts is there
pub counts_there : (team : Team) (t : ℕ) (o : Option Support) → counts team t o ≡ true → is_some o ≡ true
counts_there team t None e = absurd (cc)
counts_there team t (Some support) e = refl

pub counts_at : (team : Team) (t : ℕ) (o : Option Support) (support : Support) → o ≡ Some support → counts team t o ≡ true → t ≤ support.at + team.lease
counts_at team t o support e c = is (rw e at c)
  where
    is : counts team t (Some support) ≡ true → t ≤ support.at + team.lease
    is c = grind (arith, nat_tests)

-- Where a majority's supports of a made decision count at a reading, each made group above its group starts above that reading.
-- It may have been made before or after, but not of a full ballot.
leases_outlast : (team : Team) (promises : List Promised) (makes : List Make) → Agree team promises makes → (t : ℕ) (lower higher : Make) → In lower makes → In higher makes
    → team.n / 2 + 1 ≤ count_by (λ (s : Seat). counts team t s.support) lower.making.decision.seats.items → higher.making.decision.turn ≡ 0 → lower.making.decision.group < higher.making.decision.group → is_full higher ≡ false
    → t < higher.making.decision.start
leases_outlast team promises makes k t lower higher i j enough turn later not_full = by x.precedes.support
  where
    x : Shared team promises makes (λ (s : Seat). counts team t s.support) lower higher
    x = shared_support team promises makes k (λ (s : Seat). counts team t s.support) lower higher (λ s c. counts_there team t s.support c) i j enough turn later

    at : ComesAt team promises makes higher
    at = comes_at team promises makes higher k.arise j turn

    counted : t ≤ make_reading x.made + team.lease
    counted = subst (λ (r : ℕ). t ≤ r + team.lease) (sym x.of_seat.at) (counts_at team t x.seat.support x.support x.supports x.passes)

    after : StartsAfter team (is_full higher) higher.making.decision.start x.given.promise.report
    after = subst (StartsAfter team (is_full higher) higher.making.decision.start) (sym x.told) (of_each (StartsAfter team (is_full higher) higher.making.decision.start) higher.making.reports x.report at.comes.starts x.reported)

    behind : (o : Option ℕ) → x.given.promise.report.support ≡ o → IsAtLeast (make_reading x.made) o → t < higher.making.decision.start
    behind None e least = absurd least
    behind (Some support) e least = let ends = after.lease not_full support e in omega (arith, counted, least, ends)

    by : IsAtLeast (make_reading x.made) x.given.promise.report.support ⊎ (make_reading x.made + team.lease < promise_reading x.given) → t < higher.making.decision.start
    by (inl least) = behind x.given.promise.report.support refl least
    by (inr over) = let read = after.reading in omega (arith, counted, over, read)

-- no group starts early yet
none_full : (m : Make) → is_full m ≡ false
unfolding is_full
none_full m = refl

pub supported_enough : (team : Team) (t : ℕ) (d : Decision) → is_supported team t d ≡ true → team.n / 2 + 1 ≤ count_by (λ (s : Seat). counts team t s.support) d.seats.items
supported_enough team t d e = search (arith, nat_tests)

-- Who was up in a group at a reading: each made group above it starts above that reading.
pub up_outlasts : (team : Team) (promises : List Promised) (makes : List Make) → Agree team promises makes → (u : Up) → WasUp team makes u → (higher : Make) → In higher makes
    → higher.making.decision.turn ≡ 0 → u.group < higher.making.decision.group → u.reading < higher.making.decision.start
up_outlasts team promises makes k u was higher j turn later =
    let lower = was.made.0 in
    let last : lower.making.decision ≡ u.last = was.made.2 in
    let enough = supported_enough team u.reading u.last was.supported in
    let below : u.last.group < higher.making.decision.group = subst (λ (g : ℕ). g < higher.making.decision.group) was.group later in
    leases_outlast team promises makes k u.reading lower higher was.made.1 j (subst (λ (d : Decision). team.n / 2 + 1 ≤ count_by (λ (s : Seat). counts team u.reading s.support) d.seats.items) (sym last) enough)
    turn (subst (λ (d : Decision). d.group < higher.making.decision.group) (sym last) below) (none_full higher)
