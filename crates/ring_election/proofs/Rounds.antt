-- What begins a ring and what goes round is in the ranges of datagrams.
use Rattle.std.proofs.Common.{◌≡◌, ℕ, ◌+◌, ◌<◌, ◌≤◌, ◌^◌, Bool, true, false, not, List, [], ◌∷◌, ◌++◌, Option, Some, None, refl, sym, cond, subst, inl, inr, arith, length-append}
use Rattle.std.specs.Prelude.{nat_le, IfSome, IsSomeAnd}
use Rattle.std.specs.List.{AllByRecursion}
use Rattle.std.proofs.lemmas.Bool.Decides.{nat_tests}
use Rattle.tw_types.specs.declared.team.Team.{Team}
use Rattle.tw_types.specs.declared.message.Report.{Report}
use Rattle.tw_types.specs.declared.message.Decision.{Decision}
use Rattle.tw_types.specs.Team.{IsSound}
use Rattle.tw_types.specs.Ranges.{IsPositive, ReportFits, IsTold, IsBelow, IsNotBelow, IsOf, IsGreatest, DecisionFits}
use Rattle.tw_types.specs.Decisions.{or_none, is_older}
use Rattle.tw_types.specs.declared.datagram.Body.{Body}
use Rattle.tw_types.specs.declared.answer.Reason.{Reason}
use Rattle.tw_types.specs.declared.answer.Reason.TheVariants.{Quarantine, OutOfWindow, Promised, Unwilling}
use Rattle.tw_types.specs.Refusals.{first_refusal}
use Rattle.tw_types.specs.Slots.{slot_of, owner}
use Rattle.tw_types.specs.Promises.{is_in_window}
use Rattle.tw_types.specs.Ballots.{greater, is_reported}
use Rattle.tw_types.specs.BallotFits.{IsPromise}
use Rattle.tw_types.specs.Rings.{Round, RoundFits, round_of, round_body, ring_number, first_promise, first_round, after_but, has_seat_of, round_tests, round_answered, is_willing_in}
use Rattle.group_book.proofs.Rooms.{few_reports, others}
use Rattle.group_book.proofs.Joining.{all-push, distinct-push}
use Rattle.ring_election.proofs.Slots.{slot_small, after_below, after_but_below}

-- ---- begin

number_fits : (team : Team) (who promised t : ℕ) → IsSound team → t < 2 ^ 60 → ring_number team who promised t ≤ slot_of team t + team.n + 1 → IsPositive (ring_number team who promised t)
number_fits team who promised t sound below window = record {
  above = omega arith;
  count = let small = slot_small team t sound below in let n = sound.at_most_fifteen in omega arith;
}

pub promise_fits : (team : Team) (me : Report) (last : Decision) (promised t : ℕ) → IsSound team → t < 2 ^ 60 → ReportFits team.n me → IsTold team.n me (Some last)
    → ring_number team me.member.who promised t ≤ slot_of team t + team.n + 1 → IsPromise team.n (first_promise team me last promised t)
promise_fits team me last promised t sound below fits told window = record {
  number = number_fits team me.member.who promised t sound below window;
  report = fits;
  decision = told;
}

pub first_round_fits : (team : Team) (me : Report) (last : Decision) (promised t : ℕ) → IsSound team → t < 2 ^ 60 → ReportFits team.n me → IsTold team.n me (Some last)
    → last.group ≡ promised → ring_number team me.member.who promised t ≤ slot_of team t + team.n + 1 → RoundFits team.n (first_round team me last promised t)
first_round_fits team me last promised t sound below fits told same window = record {
  number_fits = number_fits team me.member.who promised t sound below window;
  group_fits = told.4.group;
  turn_fits = told.4.turn;
  skip_fits = after_below team.n last.maker last (let n = sound.at_least_three in omega arith) told.4;
  at_least_one = omega arith;
  at_most = let n = sound.at_least_three in omega arith;
  each = (fits, tt);
  distinct = (tt, tt);
  below = (record { kind = told.0; group = told.1; below = let g = told.2 in omega arith }, tt);
  best_fits = told.4;
  greatest = record { reported = inl (sym told.2, sym told.3); greatest = (inr (sym told.2, let t = told.3 in omega arith), tt) };
}

-- ---- answer

of_longer : (g t : ℕ) (xs ys : List Report) → IsOf g t xs → IsOf g t (xs ++ ys)
of_longer g t [] ys h = absurd h
of_longer g t (x ∷ xs) ys (inl e) = inl e
of_longer g t (x ∷ xs) ys (inr h) = inr (of_longer g t xs ys h)

of_last : (g t : ℕ) (xs : List Report) (r : Report) → r.group ≡ g → r.turn ≡ t → IsOf g t (xs ++ r ∷ [])
of_last g t [] r a b = inl (a, b)
of_last g t (x ∷ xs) r a b = inr (of_last g t xs r a b)

higher : (g t g' t' : ℕ) (xs : List Report) → is_older g t g' t' ≡ true → AllByRecursion (IsNotBelow g t) xs → AllByRecursion (IsNotBelow g' t') xs
higher g t g' t' [] older h = tt
higher g t g' t' (x ∷ xs) older h = let low = h.0 in (grind (arith, nat_tests), higher g t g' t' xs older h.1)

not_below : (g t : ℕ) (d : Decision) (r : Report) → is_older g t d.group d.turn ≡ false → d.group ≡ r.group → d.turn ≡ r.turn → IsNotBelow g t r
not_below g t d r older a b = grind (arith, nat_tests)

-- the better of a round's best decision and this one, with a report that tells this one
abbrev Best : ℕ → Report → Round → Decision → Type 0
Best n me r b = DecisionFits n b × IsGreatest b.group b.turn (r.reports ++ me ∷ [])

better : (n : ℕ) (me : Report) (d : Decision) (r : Round) → RoundFits n r → IsTold n me (Some d) → Best n me r (or_none (greater (Some r.best) (Some d)))
better n me d r h told = go (is_older r.best.group r.best.turn d.group d.turn) refl
  where
    go : (t : Bool) → is_older r.best.group r.best.turn d.group d.turn ≡ t → Best n me r (or_none (cond t (Some d) (Some r.best)))
    go true e = (
      told.4,
      record {
        reported = of_last d.group d.turn r.reports me (sym told.2) (sym told.3);
        greatest = all-push (IsNotBelow d.group d.turn) r.reports me (higher r.best.group r.best.turn d.group d.turn r.reports e h.greatest.greatest) (inr (sym told.2, let t = told.3 in omega arith));
      },
    )
    go false e = (
      h.best_fits,
      record {
        reported = of_longer r.best.group r.best.turn r.reports (me ∷ []) h.greatest.reported;
        greatest = all-push (IsNotBelow r.best.group r.best.turn) r.reports me h.greatest.greatest (not_below r.best.group r.best.turn d me e told.2 told.3);
      },
    )

pub answered_fits : (n : ℕ) (me : Report) (d : Decision) (r : Round) → RoundFits n r → ReportFits n me → IsTold n me (Some d) → d.group < r.number
    → is_reported me.member.who r.reports ≡ false → RoundFits n (round_answered me (Some d) r)
answered_fits n me d r h fits told below new =
    let best = better n me d r h told in
    record {
      number_fits = h.number_fits;
      group_fits = h.group_fits;
      turn_fits = h.turn_fits;
      skip_fits = h.skip_fits;
      at_least_one = let one = h.at_least_one in omega (arith, length-append r.reports (me ∷ []));
      at_most = omega (arith, length-append r.reports (me ∷ []), few_reports n me.member.who r.reports fits.who h.distinct h.each new);
      each = all-push (ReportFits n) r.reports me h.each fits;
      distinct = distinct-push r.reports me h.distinct (others me.member.who r.reports new);
      below = all-push (IsBelow r.number) r.reports me h.below (record { kind = told.0; group = told.1; below = let g = told.2 in omega arith });
      best_fits = best.0;
      greatest = best.1;
    }

-- a process that promises has no report in the round
not_present : (b : Bool) (why : Reason) (o : Option Reason) → cond b (Some why) o ≡ None → (b ≡ false) × (o ≡ None)
not_present true why o e = cc
not_present false why o e = (refl, e)

willing_is_new : (team : Team) (me : Report) (last : Option Decision) (r : Round) (t : ℕ) → not (is_willing_in team me last r t) ≡ false → is_reported me.member.who r.reports ≡ false
willing_is_new team me last r t e = grind (arith, nat_tests)

pub joins_new : (team : Team) (me : Report) (last : Option Decision) (promised : ℕ) (quarantined : Bool) (r : Round) (t : ℕ) → first_refusal (round_tests team me last promised quarantined r t) ≡ None
    → is_reported me.member.who r.reports ≡ false
joins_new team me last promised quarantined r t e =
    let a = not_present quarantined Quarantine _ e in
    let b = not_present (not (has_seat_of (owner team.n r.number) (or_none last))) OutOfWindow _ a.1 in
    let c = not_present (not (is_in_window team r.number t)) OutOfWindow _ b.1 in
    let d = not_present (nat_le r.number promised) (Promised promised) _ c.1 in
    willing_is_new team me last r t (not_present (not (is_willing_in team me last r t)) Unwilling _ d.1).0

-- what is handed on, and to whom, of a body that may tell a round
pub handed_fits : (n : ℕ) (me : Report) (d : Decision) (o : Option Round) (sent : Body) (to : ℕ) → 0 < n
    → IfSome o (λ (r : Round). sent ≡ round_body (round_answered me (Some d) r)) → IfSome o (λ (r : Round). to ≡ after_but d me.member.who r.skip)
    → IfSome o (λ (r : Round). is_reported me.member.who r.reports ≡ false)
    → IfSome o (λ (r : Round). RoundFits n r → ReportFits n me → IsTold n me (Some d) → d.group < r.number → (to < n) × IsSomeAnd (round_of sent) (RoundFits n))
handed_fits n me d None sent to above a b c = tt
handed_fits n me d (Some r) sent to above a b c =
    λ fits mine told below. (rw b (after_but_below n me.member.who r.skip d above told.4), subst (λ (x : Body). IsSomeAnd (round_of x) (RoundFits n)) (sym a) (answered_fits n me d r fits mine told below c))
