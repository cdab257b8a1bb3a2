use Rattle.std.proofs.Common.{arith, refl, false, None}
use Rattle.tw_machine.proofs.Tables.{all_push}
use Rattle.world.specs.declared.node.Node.{Node}
use Rattle.world.specs.NodeConditions.{IsFresh}
use Rattle.world.proofs.Worlds.{all_pushed, fresh_stands, all_get, nothing_sent}
use Rattle.world.proofs.world.World.new.Goals as goal

abbrev fresh : Node
fresh = record { bounds = None; started = false; core = None }

pub loop-who-preserved : goal.loop-who-preserved
loop-who-preserved c = record {
  count = omega (arith, c.in_ok-push.ensures.len);
  fresh = rw c.in_ok-push.ensures.items (all_push IsFresh c.loop-who.processes.items fresh c.loop-who.invariant.fresh (record { bounds = refl; started = refl; core = refl }));
  one_team = rw c.in_ok-push.ensures.items (all_pushed c.args.team.n c.loop-who.processes.items fresh c.loop-who.invariant.one_team refl);
}

pub returns-clause-stands : goal.returns-clause-stands
returns-clause-stands c = record {
  same_team = refl;
  steps = refl;
  latest = refl;
  admissible = tt;
  each = λ who p e. fresh_stands c.args.team who p (all_get IsFresh _ who p c.loop-who.invariant.fresh e);
  sent = nothing_sent c.args.team c.new.result c.new.ensures.places;
}
