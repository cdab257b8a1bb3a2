use Rattle.std.proofs.Common.{◌≡◌, ◌<◌, ◌≤◌, ◌∙◌, refl, sym, ap, subst, ◌⊎◌, inl, inr, ℕ, true, List, None, Result, IfOk, IfErr}
use Rattle.tw_machine.specs.Types.{Ballot, Decision, Kept, Report, Member}
use Rattle.std.specs.List.{AllByRecursion}
use Rattle.tw_types.specs.Ballots.{is_complete}
use Rattle.tw_types.specs.Beliefs.{Log, log_length}
use Rattle.tw_types.specs.Logs.{fit_tests, fit_tests_at}
use Rattle.tw_types.specs.Refusals.{first_refusal}
use Rattle.oal.specs.Recent.{Recent}
use Rattle.oal.specs.StandsFor as list
use Rattle.node_core.specs.InRange.{ReportsWithin}
use Rattle.tw_types.specs.Groups.{NoGroup, group_made}
use Rattle.tw_types.specs.Process.{Process, Identity}
use Rattle.tw_types.specs.Ranges.{DecisionFits}
use Rattle.tw_types.specs.Waiting.{Waiting, payloads_of}
use Rattle.tw_machine.specs.Standing.{member_of}
use Rattle.group_maker.specs.declared.making.Made.{Made}
use Rattle.group_maker.specs.declared.making.Made.TheVariants as mades
use Rattle.group_maker.specs.Outcome.{outcome, IfGroup}
use Rattle.node_core.specs.declared.state.State.{State}
use Rattle.node_core.specs.Outcomes.{if_made, made_if_complete}
use Rattle.node_core.specs.StandsFor.{StandsFor, identity_seen}
use Rattle.node_core.proofs.Concerns.{FitsWhy, missing_in_range, made_when, made_not, number_of, made_at}
use Rattle.node_core.proofs.state.State.made_of.Goals as goal

-- what the code makes of a complete ballot, the definitions make of it
made_here : (c : State) (t : ℕ) (p : Process) (ballot : Ballot) (result made : Made) (me : Member) → StandsFor c p → me ≡ member_of (identity_seen c.identity)
    → outcome result ≡ group_made c.team ballot p.log (payloads_of c.store.waiting) me t → is_complete c.team t ballot ≡ true → result ≡ made → if_made (outcome made) ≡ made_if_complete c.team t p ballot
made_here c t p ballot result made me s own is complete e = sym (made_when c.team t p ballot (outcome made) complete (
    ap (λ (w : Waiting). group_made c.team ballot p.log (payloads_of w) (member_of p.identity) t) s.waiting
    ∙ ap (λ (i : Identity). group_made c.team ballot p.log (payloads_of c.store.waiting) (member_of i) t) s.identity
    ∙ ap (λ (x : Member). group_made c.team ballot p.log (payloads_of c.store.waiting) x t) (sym own)
    ∙ sym is ∙ ap outcome e))

-- the list that is kept makes the same group
-- what fits the log fits the end of it that is kept
fits_here : (o : Recent) (l : Log) (payloads : List Kept) (result made : Made) → list.StandsFor o l → result ≡ made → IfGroup result (λ d. first_refusal (fit_tests l payloads d) ≡ None)
    → IfGroup made (λ d. first_refusal (fit_tests_at o.length o.passed payloads d) ≡ None)
fits_here o l payloads result made s e fits =
    subst (λ (m : Made). IfGroup m (λ (d : Decision). first_refusal (fit_tests_at o.length o.passed payloads d) ≡ None)) e
    (subst (λ (n : ℕ). IfGroup result (λ (d : Decision). first_refusal (fit_tests_at n o.passed payloads d) ≡ None)) (sym s.length)
    (subst (λ (n : ℕ). IfGroup result (λ (d : Decision). first_refusal (fit_tests_at (log_length l) n payloads d) ≡ None)) (sym s.passed) fits))

-- nothing comes of a ballot of which no group is made, whatever the reason
made_none : (made : Made) → (made ≡ mades.TooFew) ⊎ (made ≡ mades.NotConsistent) ⊎ (made ≡ mades.Behind) ⊎ (made ≡ mades.Spent) → if_made (outcome made) ≡ None
made_none made (inl e) = ap (λ (m : Made). if_made (outcome m)) e
made_none made (inr (inl e)) = ap (λ (m : Made). if_made (outcome m)) e
made_none made (inr (inr (inl e))) = ap (λ (m : Made). if_made (outcome m)) e
made_none made (inr (inr (inr e))) = ap (λ (m : Made). if_made (outcome m)) e

pub returns-then-not-complete-clause-exact : goal.returns-then-not-complete-clause-exact
returns-then-not-complete-clause-exact c = λ p s. sym (made_not c.args.self.now.team c.args.t p c.args.ballot.now (sym c.complete.ensures ∙ c.if-not-complete.true))

pub returns-in-Group-clause-exact : goal.returns-in-Group-clause-exact
returns-in-Group-clause-exact c = λ p s. made_here c.args.self.now c.args.t p c.args.ballot.now _ (mades.Group c.in-Group.d) c.member.result s c.member.ensures (c.make_group.ensures.exact p.log s.log) (sym c.complete.ensures ∙ c.if-not-complete.false) c.in-Group.is

pub returns-in-Group-clause-fits : goal.returns-in-Group-clause-fits
returns-in-Group-clause-fits c = subst (λ (m : Made). IfGroup m (DecisionFits c.args.self.now.team.n)) c.in-Group.is (c.make_group.ensures.fits c.requires.ballot c.requires.reading)

pub returns-in-Group-clause-list : goal.returns-in-Group-clause-list
returns-in-Group-clause-list c =
    let n = c.args.self.now.team.n in
    let l : Log = c.requires.fits.log.log in
    let who : c.member.result.who < n = subst (λ (m : Member). m.who < n) (sym c.member.ensures) c.args.self.now.who in
    let within : AllByRecursion (λ (r : Report). r.member.who ≡ c.member.result.who → r.length ≤ log_length l) c.args.ballot.now.reports.items =
    subst (λ (m : Member). AllByRecursion (λ (r : Report). r.member.who ≡ m.who → r.length ≤ log_length l) c.args.ballot.now.reports.items) (sym c.member.ensures)
    (subst (λ (x : ℕ). ReportsWithin c.args.self.now.identity.who x c.args.ballot.now) c.requires.fits.log.stands.length c.requires.within) in
    fits_here c.args.self.now.oal l (payloads_of c.args.self.now.store.waiting) _ (mades.Group c.in-Group.d) c.requires.fits.log.stands c.in-Group.is (c.make_group.ensures.fits_log l c.requires.fits.log.stands who within)

pub returns-in-Group-clause-number : goal.returns-in-Group-clause-number
returns-in-Group-clause-number c =
    let l : Log = c.requires.fits.log.log in
    subst (λ (r : Result Decision NoGroup). IfOk r (λ d. d.group ≡ c.args.ballot.now.number)) (sym (c.make_group.ensures.exact l c.requires.fits.log.stands) ∙ ap outcome c.in-Group.is)
    (number_of c.args.self.now.team c.args.ballot.now l (payloads_of c.args.self.now.store.waiting) c.member.result c.args.t)

pub returns-in-Group-clause-made : goal.returns-in-Group-clause-made
returns-in-Group-clause-made c =
    let l : Log = c.requires.fits.log.log in
    subst (λ (r : Result Decision NoGroup). IfOk r (λ d. d.made ≡ c.args.t)) (sym (c.make_group.ensures.exact l c.requires.fits.log.stands) ∙ ap outcome c.in-Group.is)
    (made_at c.args.self.now.team c.args.ballot.now l (payloads_of c.args.self.now.store.waiting) c.member.result c.args.t)

pub returns-in-Missing-clause-exact : goal.returns-in-Missing-clause-exact
returns-in-Missing-clause-exact c = λ p s. made_here c.args.self.now c.args.t p c.args.ballot.now _ (mades.Missing c.in-Missing.id) c.member.result s c.member.ensures (c.make_group.ensures.exact p.log s.log) (sym c.complete.ensures ∙ c.if-not-complete.false) c.in-Missing.is

pub returns-in-Missing-clause-id : goal.returns-in-Missing-clause-id
returns-in-Missing-clause-id c =
    let n = c.args.self.now.team.n in
    let l : Log = c.requires.fits.log.log in
    subst (λ (m : Made). IfErr (outcome m) (FitsWhy n)) c.in-Missing.is (subst (λ (r : Result Decision NoGroup). IfErr r (FitsWhy n)) (sym (c.make_group.ensures.exact l c.requires.fits.log.stands))
    (missing_in_range n c.args.self.now.team c.args.ballot.now l (payloads_of c.args.self.now.store.waiting) c.member.result c.args.t c.requires.ballot.best_fits))

pub returns-in-TooFew : goal.returns-in-TooFew
returns-in-TooFew c = record {
  exact = λ p s. sym (made_none c.make_group.result c.in-TooFew.is)
      ∙ made_here c.args.self.now c.args.t p c.args.ballot.now _ c.make_group.result c.member.result s c.member.ensures (c.make_group.ensures.exact p.log s.log) (sym c.complete.ensures ∙ c.if-not-complete.false) refl;
  fits = tt;
  id = tt;
  list = tt;
  number = tt;
  made = tt;
}
