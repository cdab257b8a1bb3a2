-- What was promised and made, as the lists grow; and whose promise a last decision's group is.
use Rattle.std.proofs.Common.{◌≡◌, ◌≢◌, refl, sym, ap, subst, ◌∙◌, inr, ℕ, ◌≤◌, ◌<◌, true, List, [], ◌∷◌, Option, Some, None, arith}
use Rattle.std.specs.List.{AllByRecursion}
use Rattle.tw_machine.specs.Types.{Team, Ballot, Decision, Member, Report, Seat, Step}
use Rattle.tw_types.specs.Beliefs.{Belief, Informed, Blank, is_informed, last_of, view_decision}
use Rattle.tw_types.specs.Decisions.{has_seat, is_seat_of, or_none}
use Rattle.tw_types.specs.Process.{Process}
use Rattle.tw_types.specs.Slots.{owner}
use Rattle.tw_machine.specs.History.{Promised, Make, life}
use Rattle.tw_machine.specs.Standing.{member_of, last_decision}
use Rattle.safety_laws.specs.Effects.{Written}
use Rattle.tw_types.specs.Items.{In}
use Rattle.safety_laws.specs.Made.{WasMade, WasMadeIfAny, WasReported, TellsLast, TellsDecision, KeepsMade, ComesFrom, Arises, AsFirst, AsNext, AllArise, IsUnderPromise, HasSeat, BallotHolds, OfMaker}
use Rattle.safety_laws.specs.Names.{promise_name, IsNamed, IsOfLife, Present, Earlier, IsOwn}
use Rattle.safety_laws.specs.Promises.{OfPromises, OfPromiser}
use Rattle.safety_laws.proofs.FirstDecisions.{same_member_of}
use Rattle.safety_laws.proofs.Lists.{of_each, each_weaker}
use Rattle.safety_laws.proofs.NextDecisions.{any_in}
use Rattle.safety_laws.proofs.Turns.{IsPromisedSeat, seats_promised}

-- an owner is one of the n
pub owner_below : (n number who : ℕ) → 0 < n → owner n number ≡ who → who < n
owner_below n number who positive is = grind arith

-- each that stands in the one list stands in the other
abbrev pub More : {X : Type 0} → List X → List X → Type 0
More {X} xs ys = (x : X) → In x xs → In x ys

pub more_same : {X : Type 0} (xs ys : List X) → ys ≡ xs → More xs ys
more_same xs ys e x i = rw e i

pub more_by : {X : Type 0} (xs ys : List X) (new : X) → ys ≡ new ∷ xs → More xs ys
more_by xs ys new e x i = rw e (inr i)

pub made_more : (makes makes' : List Make) (d : Decision) → More makes makes' → WasMade makes d → WasMade makes' d
made_more makes makes' d more k = (k.0, more k.0 k.1, k.2)

pub if_any_more : (makes makes' : List Make) (o : Option Decision) → More makes makes' → WasMadeIfAny makes o → WasMadeIfAny makes' o
if_any_more makes makes' None more k = tt
if_any_more makes makes' (Some d) more k = made_more makes makes' d more k

tells_last_more : (makes makes' : List Make) (x : Promised) (o : Option Decision) → More makes makes' → TellsLast makes x o → TellsLast makes' x o
tells_last_more makes makes' x None more k = k
tells_last_more makes makes' x (Some d) more k = (made_more makes makes' d more k.0, k.1, k.2, k.3, k.4)

pub tells_more : (makes makes' : List Make) (x : Promised) → More makes makes' → TellsDecision makes x → TellsDecision makes' x
tells_more makes makes' x more k = record { informed = λ yes. tells_last_more makes makes' x x.promise.decision more (k.informed yes); ready = k.ready }

reported_more : (promises promises' : List Promised) (number : ℕ) (r : Report) → More promises promises' → WasReported promises number r → WasReported promises' number r
reported_more promises promises' number r more k = (k.0, more k.0 k.1, k.2, k.3, k.4)

comes_more : (team : Team) (promises promises' : List Promised) (older : List Make) (m : Make) → More promises promises' → ComesFrom team promises older m → ComesFrom team promises' older m
comes_more team promises promises' older m more k = record {
  owned = k.owned;
  positive = k.positive;
  distinct = k.distinct;
  below = k.below;
  promised = each_weaker (WasReported promises m.making.decision.group) (WasReported promises' m.making.decision.group) m.making.reports (λ r. reported_more promises promises' m.making.decision.group r more) k.promised;
  majority = k.majority;
  best = k.best;
  before = k.before;
  appended = k.appended;
  lower = k.lower;
  members = k.members;
  seats = k.seats;
  one_seat = k.one_seat;
  own_seat = k.own_seat;
  maker = k.maker;
  supports = k.supports;
  starts = k.starts;
  starts_later = k.starts_later;
}

pub arise_more : (team : Team) (promises promises' : List Promised) (makes : List Make) → More promises promises' → AllArise team promises makes → AllArise team promises' makes
arise_more team promises promises' [] more all = tt
arise_more team promises promises' (m ∷ makes) more all = (go all.0, arise_more team promises promises' makes more all.1)
  where
    go : Arises team promises makes m → Arises team promises' makes m
    go (AsFirst turn comes) = AsFirst turn (comes_more team promises promises' makes m more comes)
    go (AsNext last f) = AsNext last f

pub under_more : (promises promises' : List Promised) (m : Make) → More promises promises' → IsUnderPromise promises m → IsUnderPromise promises' m
under_more promises promises' m more k = (k.0, more k.0 k.1, k.2, k.3, k.4, k.5)

pub ballot_more : (team : Team) (steps : List Step) (w v : Written) (who : ℕ) (p : Process) (b : Ballot) → More w.promises v.promises → BallotHolds team steps w who p b → BallotHolds team steps v who p b
ballot_more team steps w v who p b more k = record {
  owned = k.owned;
  informed = k.informed;
  distinct = k.distinct;
  below = k.below;
  promised = each_weaker (WasReported w.promises b.number) (WasReported v.promises b.number) b.reports.items (λ r. reported_more w.promises v.promises b.number r more) k.promised;
  own = let x = k.own in (x.0, more x.0 x.1, x.2, x.3, x.4, x.5, x.6);
  best = k.best;
}

-- a process that is as it was, in lists that grew
pub maker_more : (team : Team) (steps : List Step) (w v : Written) (who : ℕ) (p : Process) → More w.promises v.promises → More w.makes v.makes → ((o : Option Decision) → HasSeat steps w who p o → HasSeat steps v who p o)
    → OfMaker team steps w who p → OfMaker team steps v who p
maker_more team steps w v who p promises makes seat k = record {
  keeps = record { view = if_any_more w.makes v.makes (view_decision p.belief) makes k.keeps.view; best = if_any_more w.makes v.makes _ makes k.keeps.best; held = if_any_more w.makes v.makes _ makes k.keeps.held };
  seat = λ informed. seat (last_decision p) (k.seat informed);
  ballot = λ b is. ballot_more team steps w v who p b promises (k.ballot b is);
}

pub seat_same : (steps : List Step) (w v : Written) (who : ℕ) (p : Process) → v.promises ≡ w.promises → v.makes ≡ w.makes → (o : Option Decision) → HasSeat steps w who p o → HasSeat steps v who p o
seat_same steps w v who p promises makes (Some d) k = k
seat_same steps w v who p promises makes None k = (k.0, rw makes k.1, rw promises k.2)

pub seat_other_promise : (steps : List Step) (w v : Written) (new : Promised) (who : ℕ) (p : Process) → v.promises ≡ new ∷ w.promises → v.makes ≡ w.makes → (new.who ≡ who → new.promise.report.group ≡ 0) → (o : Option Decision) → HasSeat steps w who p o → HasSeat steps v who p o
seat_other_promise steps w v new who p promises makes none (Some d) k = k
seat_other_promise steps w v new who p promises makes none None k = (k.0, rw makes k.1, rw promises (none, k.2))

pub seat_other_make : (steps : List Step) (w v : Written) (new : Make) (who : ℕ) (p : Process) → v.promises ≡ w.promises → v.makes ≡ new ∷ w.makes → new.who ≢ who → (o : Option Decision) → HasSeat steps w who p o → HasSeat steps v who p o
seat_other_make steps w v new who p promises makes other (Some d) k = k
seat_other_make steps w v new who p promises makes other None k = (k.0, rw makes (other, k.1), rw promises k.2)

-- ---- whose promise a last decision's group is

-- a process promised this group in its present life
pub record OwnPromise (steps : List Step) (w : Written) (who : ℕ) (p : Process) (group : ℕ) : Type 0 where
  pub item : Promised
  pub there : In item w.promises
  pub by : item.who ≡ who
  pub life : item.life ≡ life who steps
  pub member : item.promise.report.member ≡ member_of p.identity
  pub number : item.promise.number ≡ group
  pub below : group ≤ p.vote.promised

pub viewed : (b : Belief) (d : Decision) → last_of b ≡ Some d → view_decision b ≡ Some d
viewed (Informed last) d e = e
viewed (Blank followed) d e = absurd (cc)

pub last_made : (makes : List Make) (p : Process) (d : Decision) → KeepsMade makes p → last_decision p ≡ Some d → WasMade makes d
last_made makes p d k e = subst (WasMadeIfAny makes) (viewed p.belief d e) k.view

-- a decision that may be missing, and is of a group, is there
pub some_last : (o : Option Decision) → 1 ≤ (or_none o).group → (d : Decision) × (o ≡ Some d)
some_last None low = absurd (omega (arith, low))
some_last (Some d) low = (d, refl)

informed_by_last : (b : Belief) (d : Decision) → last_of b ≡ Some d → is_informed b ≡ true
informed_by_last (Informed last) d e = refl
informed_by_last (Blank followed) d e = absurd (cc)

pub has_last : (p : Process) (d : Decision) → last_decision p ≡ Some d → is_informed p.belief ≡ true
has_last p d e = informed_by_last p.belief d e

pub own_group : (team : Team) (steps : List Step) (w : Written) (who : ℕ) (p : Process) (d : Decision) → OfPromises team steps w → OfPromiser steps w who p → AllArise team w.promises w.makes → OfMaker team steps w who p → last_decision p ≡ Some d → OwnPromise steps w who p d.group
own_group team steps w who p d known mine arise k is = go (of_each (λ (v : Promised). v.who ≡ who → IsOfLife (life who steps) p own.begun (promise_name v)) w.promises x.0 own.promises x.1 by)
  where
    own : IsOwn steps w who p
    own = mine.own

    made : WasMade w.makes d
    made = last_made w.makes p d k.keeps is

    seated : has_seat (member_of p.identity) d ≡ true
    seated = subst (HasSeat steps w who p) is (k.seat (has_last p d is))

    seat : (s : Seat) × In s d.seats.items × (is_seat_of (member_of p.identity) s ≡ true)
    seat = any_in (is_seat_of (member_of p.identity)) d.seats.items seated

    promised : AllByRecursion (IsPromisedSeat w.promises d.group) d.seats.items
    promised = subst (λ (z : Decision). AllByRecursion (IsPromisedSeat w.promises z.group) z.seats.items) made.2
        (of_each (λ (m : Make). AllByRecursion (IsPromisedSeat w.promises m.making.decision.group) m.making.decision.seats.items) w.makes made.0 (seats_promised team w.promises w.makes arise) made.1)

    x : IsPromisedSeat w.promises d.group seat.0
    x = of_each (IsPromisedSeat w.promises d.group) d.seats.items seat.0 promised seat.1

    member : x.0.promise.report.member ≡ member_of p.identity
    member = x.3 ∙ same_member_of seat.0.member (member_of p.identity) seat.2

    by : x.0.who ≡ who
    by = sym (of_each (λ (v : Promised). IsNamed steps (promise_name v)) w.promises x.0 known.names.promises x.1).member ∙ ap (λ (m : Member). m.who) member ∙ own.is

    go : IsOfLife (life who steps) p own.begun (promise_name x.0) → OwnPromise steps w who p d.group
    go (Present l incarnation) = record {
      item = x.0;
      there = x.1;
      by = by;
      life = l;
      member = member;
      number = x.2;
      below = let low = of_each (λ (v : Promised). v.who ≡ who → v.life ≡ life who steps → v.promise.number ≤ p.vote.promised) w.promises x.0 mine.latest.greatest x.1 by l in let same = x.2 in omega arith;
    }
    go (Earlier l incarnation t again) = absurd (let began = own.began in let same = ap (λ (m : Member). m.incarnation) member in omega arith)
