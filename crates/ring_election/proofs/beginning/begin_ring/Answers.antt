-- The ballot of a ring and what begins it are in range.
use Rattle.std.proofs.Common.{◌≡◌, ◌≤◌, ◌+◌, ℕ, Bool, true, false, Option, Some, None, refl, cond, arith}
use Rattle.std.specs.Prelude.{nat_le}
use Rattle.std.proofs.lemmas.Bool.Decides.{nat_tests}
use Rattle.tw_types.specs.Slots.{slot_of}
use Rattle.tw_types.specs.BallotFits.{IsBallot, IsPromise}
use Rattle.tw_types.specs.Rings.{ring_number}
use Rattle.ring_election.proofs.Rounds.{promise_fits, first_round_fits}
use Rattle.ring_election.proofs.beginning.begin_ring.Goals as goal

-- a number that was chosen is within the bound
chosen : (number bound x : ℕ) (o : Option ℕ) → o ≡ cond (nat_le number bound) (Some number) None → o ≡ Some x → (number ≤ bound) × (x ≡ number)
chosen number bound x o e f = go (nat_le number bound) refl e
  where
    go : (t : Bool) → nat_le number bound ≡ t → o ≡ cond t (Some number) None → (number ≤ bound) × (x ≡ number)
    go true within g = (grind (arith, nat_tests), cc)
    go false within g = cc

pub returns-clause-fits : goal.returns-clause-fits
returns-clause-fits c =
    λ fits told.
    let number : ℕ = ring_number c.args.team.now c.args.me.now.member.who c.args.promised c.args.t in
    let within = chosen number (slot_of c.args.team.now c.args.t + c.args.team.now.n + 1) c.in_ok-number.number c.ring_number.result c.ring_number.ensures c.in_ok-number.was in
    let promise : IsPromise c.args.team.now.n (record { number = c.in_ok-number.number; report = c.args.me.now; decision = Some c.copy.result }) =
    rw (within.1, c.copy.ensures) (promise_fits c.args.team.now c.args.me.now c.args.last.now c.args.promised c.args.t c.requires.sound c.requires.reading fits told within.0) in
    let ballot : IsBallot c.args.team.now.n c.begin-ballot.result = c.begin-ballot.ensures.fits c.args.team.now.n promise in (
      record { number = ballot.number; each = ballot.each; distinct = ballot.distinct; best_fits = ballot.best_fits; best = ballot.best; best_from = ballot.best_from },
      first_round_fits c.args.team.now c.args.me.now c.args.last.now c.args.promised c.args.t c.requires.sound c.requires.reading fits told (cc) within.0,
    )
