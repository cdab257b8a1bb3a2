-- The steps to the owner are the fewest.
use Rattle.wheel.proofs.Owned.{is_next_owned}
use Rattle.wheel.proofs.slots.next_owned.Goals as goal

pub returns-clause-least : goal.returns-clause-least
returns-clause-least c = rw (c.from.ensures, c.from-n.ensures) (is_next_owned c.args.n c.args.number c.args.who)
