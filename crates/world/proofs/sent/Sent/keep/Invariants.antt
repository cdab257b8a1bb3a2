use Rattle.std.proofs.Common.{◌≡◌, ◌≤◌, ◌++◌, ◌+◌, ◌-◌, map, take, vec_len}
use Rattle.world.specs.Datagrams.{datagrams, HasRoom, spelled}
use Rattle.world.proofs.sent.Sent.keep.Given as goal

abbrev pub invariant-loop-to : goal.invariant-loop-to
invariant-loop-to l = record {
  room : HasRoom (64 - l.to-index) l.self;
  kept : datagrams l.self ≡ datagrams l.fn.self ++ map (spelled l.team.line) (take l.to-index l.fn.sends);
  count : vec_len l.self.places ≤ vec_len l.fn.self.places + l.to-index;
}
