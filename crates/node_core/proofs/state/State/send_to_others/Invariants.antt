use Rattle.std.proofs.Common.{◌≡◌, ◌≤◌, ◌<◌, ◌+◌, map, length, not, nat_eq}
use Rattle.std.specs.List.{AllByRecursion, filter, range_with_len}
use Rattle.tw_types.specs.declared.team.Team.{Team}
use Rattle.tw_machine.specs.Run.{Run, with_sends}
use Rattle.tw_machine.specs.Sending.{datagram_to}
use Rattle.node_core.specs.StandsFor.{RunStandsFor}
use Rattle.node_core.specs.Sends.{IsSendable, IsSayable}
use Rattle.node_core.proofs.state.State.send_to_others.Given as goal

abbrev pub invariant-loop-to : goal.invariant-loop-to
invariant-loop-to l = record {
  stands : (team : Team) (r : Run) → RunStandsFor team l.self l.fn.out r →
      RunStandsFor team l.self l.out (with_sends (map (datagram_to l.now r.process.identity r.process.timing l.body) (filter (λ q. not (nat_eq q r.process.identity.who)) (range_with_len 0 l.to))) r);
  fits : IsSayable l.self.team.n l.self.identity l.body → AllByRecursion (IsSendable l.self.team.n) l.fn.out.sends → AllByRecursion (IsSendable l.self.team.n) l.out.sends;
  few : length l.out.sends ≤ length l.fn.out.sends + l.to;
  passes : l.out.passes ≡ l.fn.out.passes;
  earlies : l.out.earlies ≡ l.fn.out.earlies;
  fewer : l.self.identity.who < l.to → length l.out.sends + 1 ≤ length l.fn.out.sends + l.to;
}
