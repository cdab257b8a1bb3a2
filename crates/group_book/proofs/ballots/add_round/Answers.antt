-- There is room for the new reports, and the ballot stays one.
use Rattle.std.proofs.Common.{◌≡◌, ◌∙◌, true, subst, sym, arith, refl, List}
use Rattle.std.specs.Prelude.{Some, IfSome, IsSomeAnd}
use Rattle.std.proofs.lemmas.Bool.Decides.{nat_tests}
use Rattle.tw_types.specs.declared.ballot.Ballot.{Ballot}
use Rattle.tw_types.specs.declared.datagram.Body.{Body}
use Rattle.tw_types.specs.declared.message.Decision.{Decision}
use Rattle.tw_types.specs.declared.message.Report.{Report}
use Rattle.tw_types.specs.Ballots.{with_reports}
use Rattle.tw_types.specs.Rings.{Round, RoundFits, round_of, new_reports, takes_round, round_joined}
use Rattle.tw_types.specs.BallotFits.{IsBallot}
use Rattle.group_book.proofs.Rounds.{room, round_joined_fits}
use Rattle.group_book.proofs.ballots.add_round.Goals as goal

grown : (b new : Ballot) (rs : List Report) (r : Round) (d : Decision) → new ≡ with_reports rs (Some d) b → rs ≡ new_reports r b → d ≡ r.best → new ≡ round_joined r b
grown b new rs r d joined told best = joined ∙ rw (told, best) refl

pub join-requires : goal.join-requires
join-requires c =
    let told : Round = record { number = c.in-NoDecision.number; group = c.in-NoDecision.group; turn = c.in-NoDecision.turn; skip = c.in-NoDecision.skip; reports = c.in-NoDecision.reports.items; best = c.in-NoDecision.best } in
    let fits : RoundFits c.args.team.now.n told = subst (λ (b : Body). IsSomeAnd (round_of b) (RoundFits c.args.team.now.n)) c.in-NoDecision.is c.requires.packet in
    let same : c.deref-3.result.now ≡ new_reports told c.args.ballot.now = cc in
    rw same (omega (arith, room c.args.team.now.n c.args.ballot.now told c.requires.ballot fits))

pub returns-clause-ballot : goal.returns-clause-ballot
returns-clause-ballot c =
    let told : Round = record { number = c.in-NoDecision.number; group = c.in-NoDecision.group; turn = c.in-NoDecision.turn; skip = c.in-NoDecision.skip; reports = c.in-NoDecision.reports.items; best = c.in-NoDecision.best } in
    let same : c.join.new.ballot ≡ round_joined told c.args.ballot.now = grown c.args.ballot.now c.join.new.ballot c.deref-3.result.now told c.copy.result c.join.ensures (cc) c.copy.ensures in
    subst (λ (b : Body). IfSome (round_of b) (λ r. c.join.new.ballot ≡ round_joined r c.args.ballot.now)) (sym c.in-NoDecision.is) same

pub returns-clause-fits : goal.returns-clause-fits
returns-clause-fits c =
    let told : Round = record { number = c.in-NoDecision.number; group = c.in-NoDecision.group; turn = c.in-NoDecision.turn; skip = c.in-NoDecision.skip; reports = c.in-NoDecision.reports.items; best = c.in-NoDecision.best } in
    let fits : RoundFits c.args.team.now.n told = subst (λ (b : Body). IsSomeAnd (round_of b) (RoundFits c.args.team.now.n)) c.in-NoDecision.is c.requires.packet in
    let taken : takes_round told (Some c.args.ballot.now) ≡ true = grind (arith, nat_tests) in
    let same : c.join.new.ballot ≡ round_joined told c.args.ballot.now = grown c.args.ballot.now c.join.new.ballot c.deref-3.result.now told c.copy.result c.join.ensures (cc) c.copy.ensures in
    subst (IsBallot c.args.team.now.n) (sym same) (round_joined_fits c.args.team.now.n c.args.ballot.now told c.requires.ballot fits taken)
