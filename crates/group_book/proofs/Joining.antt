-- A ballot stays one as a promise is added.
use Rattle.std.proofs.Common.{◌≡◌, ℕ, Bool, true, false, List, [], ◌∷◌, ◌++◌, Option, Some, None, refl, sym, cond, arith}
use Rattle.std.specs.Prelude.{IfSome}
use Rattle.std.specs.List.{AllByRecursion}
use Rattle.std.proofs.lemmas.Bool.Decides.{nat_tests}
use Rattle.tw_types.specs.declared.message.Kind.TheVariants.{Informed, Ready}
use Rattle.tw_types.specs.declared.message.Kind.{Kind}
use Rattle.tw_types.specs.declared.message.Report.{Report}
use Rattle.tw_types.specs.declared.message.Decision.{Decision}
use Rattle.tw_types.specs.declared.ballot.Ballot.{Ballot}
use Rattle.tw_types.specs.Ranges.{Distinct, ReportFits, DecisionFits, IsTold}
use Rattle.tw_types.specs.Votes.{Promise}
use Rattle.tw_types.specs.Decisions.{or_none, is_older}
use Rattle.tw_types.specs.Reports.{best}
use Rattle.tw_types.specs.Ballots.{begun, joined, greater, wants, has_report_of}
use Rattle.tw_types.specs.BallotFits.{IsPromise, IsNamed, IsBallot}
use Rattle.group_book.proofs.Pushes.{best_with, best-push}
use Rattle.group_book.proofs.Rooms.{others}

pub all-push : {X : Type 0} (P : X → Type 0) (xs : List X) (x : X) → AllByRecursion P xs → P x → AllByRecursion P (xs ++ x ∷ [])
all-push P [] x h p = (p, tt)
all-push P (y ∷ xs) x h p = (h.0, all-push P xs x h.1 p)

pub distinct-push : (xs : List Report) (r : Report) → Distinct xs → AllByRecursion (λ (q : Report). (r.member.who ≡ q.member.who) → ⊥) xs → Distinct (xs ++ r ∷ [])
distinct-push [] r d o = (tt, tt)
distinct-push (x ∷ xs) r d o = (all-push (λ (q : Report). (x.member.who ≡ q.member.who) → ⊥) xs r d.0 (λ e. o.0 (cc)), distinct-push xs r d.1 o.1)

-- a decision that is told with a report is named by it, and the greater of two decisions by the greater pair
unsaid : (n : ℕ) (k : Kind) (r : Report) (e : Option Decision) → r.kind ≡ Ready → IsTold n r e → e ≡ None
unsaid n k r None ready told = refl
unsaid n k r (Some d) ready told = cc

named_with : (n : ℕ) (b : Option (ℕ × ℕ)) (d : Option Decision) (r : Report) (e : Option Decision) (k : Kind) → r.kind ≡ k → IsNamed b d → IsTold n r e → IsNamed (best_with b r) (greater d e)
named_with n b d r (Some e) Ready k h told = cc
named_with n None d r None Ready k h told = rw (k, h) refl
named_with n (Some b) d r None Ready k h told = rw k (grind (arith, nat_tests))
named_with n None d r None Informed k h told = rw (k, h) (let z = told k in (sym z, λ one. omega arith))
named_with n (Some b) d r None Informed k h told = rw k (let z = told k in grind (arith, nat_tests))
named_with n None d r (Some e) Informed k h told = rw (k, h) (grind (arith, nat_tests))
named_with n (Some b) d r (Some e) Informed k h told = rw k (grind (arith, nat_tests))

best_fits : (n : ℕ) (d : Option Decision) (r : Report) (e : Option Decision) → IfSome d (DecisionFits n) → IsTold n r e → IfSome (greater d e) (DecisionFits n)
best_fits n d r e h told = go (is_older (or_none d).group (or_none d).turn (or_none e).group (or_none e).turn) e told
  where
    go : (b : Bool) (e : Option Decision) → IsTold n r e → IfSome (cond b e d) (DecisionFits n)
    go true None told = tt
    go true (Some x) told = told.4
    go false e told = h

first_named : (n : ℕ) (r : Report) (d : Option Decision) (k : Kind) → r.kind ≡ k → IsTold n r d → IsNamed (best (r ∷ [])) d
first_named n r (Some d) Ready e told = cc
first_named n r None Ready e told = rw e refl
first_named n r None Informed e told = rw e (let z = told e in (sym z, λ one. omega arith))
first_named n r (Some d) Informed e told = rw e (told.2, λ one. told.3)

told_fits : (n : ℕ) (r : Report) (d : Option Decision) → IsTold n r d → IfSome d (DecisionFits n)
told_fits n r None told = tt
told_fits n r (Some d) told = told.4

pub begun_fits : (n : ℕ) (p : Promise) → IsPromise n p → IsBallot n (begun p)
begun_fits n p h = record {
  number = h.number;
  each = (h.report, tt);
  distinct = (tt, tt);
  best_fits = told_fits n p.report p.decision h.decision;
  best = first_named n p.report p.decision p.report.kind refl h.decision;
  best_from = refl;
}

pub joined_fits : (n : ℕ) (p : Promise) (b : Ballot) → IsPromise n p → IsBallot n b → wants p (Some b) ≡ true → IsBallot n (joined p b)
joined_fits n p b hp hb w =
    let other : has_report_of p.report.member.who b ≡ false = grind (arith, nat_tests) in
    record {
      number = hb.number;
      each = all-push (ReportFits n) b.reports.items p.report hb.each hp.report;
      distinct = distinct-push b.reports.items p.report hb.distinct (others p.report.member.who b.reports.items other);
      best_fits = best_fits n b.best p.report p.decision hb.best_fits hp.decision;
      best = rw (best-push b.reports.items p.report) (named_with n (best b.reports.items) b.best p.report p.decision p.report.kind refl hb.best hp.decision);
      best_from = refl;
    }
