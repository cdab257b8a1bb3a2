use Rattle.std.proofs.Common.{◌≡◌, ◌≤◌, ◌∙◌, refl, sym, ap, subst, Bool, true, false, cond, Option, Some, IfSome, rules}
use Rattle.std.specs.Option.{option_copied, option_map}
use Rattle.tw_machine.specs.Types.{Decision, Ballot}
use Rattle.tw_types.specs.Votes.{Promise}
use Rattle.tw_types.specs.BallotFits.{IsBallot}
use Rattle.tw_types.specs.Ballots.{has_report_of, joined, wants}
use Rattle.tw_types.specs.declared.answer.Reason.TheVariants as reasons
use Rattle.tw_machine.specs.Run.{Run, Ruled, done, dropped}
use Rattle.tw_machine.specs.Grouping.{take_promise, promise_added}
use Rattle.node_core.specs.InRange.{ReportsWithin}
use Rattle.node_core.proofs.Concerns.{joined_own, joined_within}
use Rattle.node_core.proofs.state.State.take_promise.Goals as goal

-- what is true of the ballot stays true with one promise more
pub returns-then-add-clause-fits : goal.returns-then-add-clause-fits
returns-then-add-clause-fits c =
    let who = c.args.self.now.identity.who in
    let b : Ballot = c.in-Some.ballot in
    let p : Promise = record { number = c.args.number; report = c.args.report.now; decision = c.map.result } in
    let is : c.add.new.ballot ≡ joined p b = c.add.ensures.ballot ∙ rw c.if-add.true refl in
    let wanted : wants p (Some b) ≡ true = sym c.add.ensures.wanted ∙ c.if-add.true in
    let held : b.number ≤ c.args.self.now.vote.promised = subst (λ (o : Option Ballot). IfSome o (λ b. b.number ≤ c.args.self.now.vote.promised)) c.in-Some.is c.requires.fits.held in
    let own : has_report_of who b ≡ true = subst (λ (o : Option Ballot). IfSome o (λ b. has_report_of who b ≡ true)) c.in-Some.is c.requires.fits.own in
    let within : ReportsWithin who c.args.self.now.oal.length b = subst (λ (o : Option Ballot). IfSome o (ReportsWithin who c.args.self.now.oal.length)) c.in-Some.is c.requires.fits.within in
    let ballot : IsBallot c.args.self.now.team.n c.add.new.ballot = search rules in
    record {
      promised = c.requires.fits.promised;
      support = c.requires.fits.support;
      view = c.requires.fits.view;
      kept = c.requires.fits.kept;
      ballot = ballot;
      held = rw is held;
      own = rw is (joined_own who p b own);
      within = rw is (joined_within who c.args.self.now.oal.length p b wanted own within);
      length = c.requires.fits.length;
      log = c.requires.fits.log;
      waiting = c.requires.fits.waiting;
      updates = c.requires.fits.updates;
    }

-- a promise that isn't wanted changes nothing
refused_is : (given : Promise) (r : Run) → wants given r.process.ballot ≡ false → take_promise given r ≡ dropped reasons.Old r
refused_is given r e = ap (λ (b : Bool). cond b (done (promise_added given r)) (dropped reasons.Old r)) e

added_is : (given : Promise) (r : Run) → wants given r.process.ballot ≡ true → take_promise given r ≡ done (promise_added given r)
added_is given r e = ap (λ (b : Bool). cond b (done (promise_added given r)) (dropped reasons.Old r)) e

pub returns-in_default-clause-stands : goal.returns-in_default-clause-stands
returns-in_default-clause-stands c = λ team out r s.
    let p : Promise = record { number = c.args.number; report = c.args.report.now; decision = option_copied c.args.decision } in
    rw (refused_is p r (ap (wants p) (s.process.ballot ∙ c.in_default.is))) (record {
      same_team = s.same_team;
      process = record { identity = s.process.identity; timing = s.process.timing; beat = s.process.beat; vote = s.process.vote; ballot = s.process.ballot; belief = s.process.belief; log = s.process.log; waiting = s.process.waiting; hold = s.process.hold; next_seq = s.process.next_seq };
      given = s.given;
    })

pub returns-in_default-clause-dropped : goal.returns-in_default-clause-dropped
returns-in_default-clause-dropped c = λ team out r s.
    let p : Promise = record { number = c.args.number; report = c.args.report.now; decision = option_copied c.args.decision } in
    sym (ap (λ (x : Ruled). x.dropped) (refused_is p r (ap (wants p) (s.process.ballot ∙ c.in_default.is))))

pub returns-in_default-clause-fits : goal.returns-in_default-clause-fits
returns-in_default-clause-fits c = record {
  promised = c.requires.fits.promised;
  support = c.requires.fits.support;
  view = c.requires.fits.view;
  kept = c.requires.fits.kept;
  ballot = c.requires.fits.ballot;
  held = c.requires.fits.held;
  own = c.requires.fits.own;
  within = c.requires.fits.within;
  length = c.requires.fits.length;
  log = c.requires.fits.log;
  waiting = c.requires.fits.waiting;
  updates = c.requires.fits.updates;
}

pub returns-then-add-clause-dropped : goal.returns-then-add-clause-dropped
returns-then-add-clause-dropped c = λ team out r s.
    let p : Promise = record { number = c.args.number; report = c.args.report.now; decision = option_copied c.args.decision } in
    sym (ap (λ (x : Ruled). x.dropped) (added_is p r (ap (wants p) (s.process.ballot ∙ c.in-Some.is) ∙ sym c.add.ensures.wanted ∙ c.if-add.true)))

pub returns-else-add-clause-stands : goal.returns-else-add-clause-stands
returns-else-add-clause-stands c = λ team out r s.
    let p : Promise = record { number = c.args.number; report = c.args.report.now; decision = option_copied c.args.decision } in
    let same : c.add.new.ballot ≡ c.in-Some.ballot = c.add.ensures.ballot ∙ rw c.if-add.false refl in
    rw (refused_is p r (ap (wants p) (s.process.ballot ∙ c.in-Some.is) ∙ sym c.add.ensures.wanted ∙ c.if-add.false)) (record {
      same_team = s.same_team;
      process = record { identity = s.process.identity; timing = s.process.timing; beat = s.process.beat; vote = s.process.vote; ballot = s.process.ballot ∙ c.in-Some.is ∙ ap (λ (b : Ballot). Some b) (sym same); belief = s.process.belief; log = s.process.log; waiting = s.process.waiting; hold = s.process.hold; next_seq = s.process.next_seq };
      given = s.given;
    })

pub returns-else-add-clause-dropped : goal.returns-else-add-clause-dropped
returns-else-add-clause-dropped c = λ team out r s.
    let p : Promise = record { number = c.args.number; report = c.args.report.now; decision = option_copied c.args.decision } in
    sym (ap (λ (x : Ruled). x.dropped) (refused_is p r (ap (wants p) (s.process.ballot ∙ c.in-Some.is) ∙ sym c.add.ensures.wanted ∙ c.if-add.false)))

pub returns-then-add-clause-stands : goal.returns-then-add-clause-stands
returns-then-add-clause-stands c = λ team out r s.
    let p : Promise = record { number = c.args.number; report = c.args.report.now; decision = option_copied c.args.decision } in
    let same : c.map.result ≡ option_copied c.args.decision = search rules in
    let is : c.add.new.ballot ≡ joined p c.in-Some.ballot = c.add.ensures.ballot ∙ rw c.if-add.true (ap (λ (o : Option Decision). joined (record { number = c.args.number; report = c.args.report.now; decision = o }) c.in-Some.ballot) same) in
    rw (added_is p r (ap (wants p) (s.process.ballot ∙ c.in-Some.is) ∙ sym c.add.ensures.wanted ∙ c.if-add.true)) (record {
      same_team = s.same_team;
      process = record { identity = s.process.identity; timing = s.process.timing; beat = s.process.beat; vote = s.process.vote; ballot = ap (option_map (joined p)) (s.process.ballot ∙ c.in-Some.is) ∙ ap (λ (b : Ballot). Some b) (sym is); belief = s.process.belief; log = s.process.log; waiting = s.process.waiting; hold = s.process.hold; next_seq = s.process.next_seq };
      given = s.given;
    })

pub returns-else-add-clause-fits : goal.returns-else-add-clause-fits
returns-else-add-clause-fits c =
    let same : Some c.in-Some.ballot ≡ Some c.add.new.ballot = ap (λ (b : Ballot). Some b) (sym (c.add.ensures.ballot ∙ rw c.if-add.false refl)) in
    let is : c.args.self.now.ballot ≡ Some c.add.new.ballot = c.in-Some.is ∙ same in
    record {
      promised = c.requires.fits.promised;
      support = c.requires.fits.support;
      view = c.requires.fits.view;
      kept = c.requires.fits.kept;
      ballot = subst (λ (o : Option Ballot). IfSome o (IsBallot c.args.self.now.team.n)) is c.requires.fits.ballot;
      held = subst (λ (o : Option Ballot). IfSome o (λ b. b.number ≤ c.args.self.now.vote.promised)) is c.requires.fits.held;
      own = subst (λ (o : Option Ballot). IfSome o (λ b. has_report_of c.args.self.now.identity.who b ≡ true)) is c.requires.fits.own;
      within = subst (λ (o : Option Ballot). IfSome o (ReportsWithin c.args.self.now.identity.who c.args.self.now.oal.length)) is c.requires.fits.within;
      length = c.requires.fits.length;
      log = c.requires.fits.log;
      waiting = c.requires.fits.waiting;
      updates = c.requires.fits.updates;
    }
