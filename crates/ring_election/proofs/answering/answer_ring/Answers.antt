-- What is handed on is in range.
use Rattle.std.proofs.Common.{◌≡◌, ℕ, Bool, false, Option, Some, None, arith}
use Rattle.std.specs.Prelude.{IfSome}
use Rattle.tw_types.specs.declared.team.Team.{Team}
use Rattle.tw_types.specs.declared.message.Report.{Report}
use Rattle.tw_types.specs.declared.message.Decision.{Decision}
use Rattle.tw_types.specs.Refusals.{first_refusal}
use Rattle.tw_types.specs.Ballots.{is_reported}
use Rattle.tw_types.specs.Rings.{Round, round_of, round_tests}
use Rattle.ring_election.proofs.Rounds.{joins_new, handed_fits}
use Rattle.ring_election.proofs.answering.answer_ring.Goals as goal

each_new : (team : Team) (me : Report) (last : Option Decision) (promised : ℕ) (quarantined : Bool) (o : Option Round) (t : ℕ)
    → IfSome o (λ (r : Round). first_refusal (round_tests team me last promised quarantined r t) ≡ None) → IfSome o (λ (r : Round). is_reported me.member.who r.reports ≡ false)
each_new team me last promised quarantined None t h = tt
each_new team me last promised quarantined (Some r) t h = joins_new team me last promised quarantined r t h

pub returns-clause-fits : goal.returns-clause-fits
returns-clause-fits c =
    let new = each_new c.args.team.now c.args.me.now (Some c.in-Some.last.now) c.args.promised c.args.quarantined (round_of c.args.body.now) c.args.t c.in_ok-may_join.ensures.exact in
    let handed = handed_fits c.args.team.now.n c.args.me.now c.in-Some.last.now (round_of c.args.body.now) c.joined.result c.receiver.result (let n = c.requires.sound.at_least_three in omega arith) c.joined.ensures c.receiver.ensures new in
    rw c.in-Some.is handed
