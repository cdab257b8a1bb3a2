-- The slot and what was promised are far below the end of the numbers.
use Rattle.std.proofs.Common.{arith}
use Rattle.ring_election.proofs.Slots.{slot_small}
use Rattle.ring_election.proofs.beginning.ring_number.Goals as goal

pub next_owned-number-requires-clause-number : goal.next_owned-number-requires-clause-number
next_owned-number-requires-clause-number c = let small = slot_small c.args.team.now c.args.t c.requires.sound c.requires.reading in omega (arith, small, c.max.ensures)
