-- What may be handed to the wire.
use Rattle.std.specs.Prelude.{ℕ, ◌+◌, ◌<◌, ◌≤◌, ◌≡◌, length}
use Rattle.std.specs.List.{AllByRecursion}
use Rattle.tw_machine.specs.Types.{Head, Body, Datagram, Outputs}
use Rattle.tw_types.specs.Ranges.{BodyFits, DatagramFits}
use Rattle.node_core.specs.declared.state.Identity.{Identity}

-- it goes to one of the n processes, and has a spelling
pub record IsSendable (n : ℕ) (s : ℕ × Datagram) : Type 0 where
  pub to : s.0 < n
  pub fits : DatagramFits n s.1

-- what a process of n says is in range, in each datagram that it sends
abbrev pub IsSayable : ℕ → Identity → Body → Type 0
IsSayable n me body = (head : Head) → head.from ≡ me.who → head.incarnation ≡ me.incarnation → BodyFits n head body

-- At most so many datagrams more are sent than before, and all may be handed to the wire if those before may.
pub record SendsMore (n most : ℕ) (before after : Outputs) : Type 0 where
  pub fits : AllByRecursion (IsSendable n) before.sends → AllByRecursion (IsSendable n) after.sends
  pub few : length after.sends ≤ length before.sends + most

-- The same, and no more is delivered.
pub record GivesMore (n most : ℕ) (before after : Outputs) : Type 0 where
  pub fits : AllByRecursion (IsSendable n) before.sends → AllByRecursion (IsSendable n) after.sends
  pub few : length after.sends ≤ length before.sends + most
  pub passes : after.passes ≡ before.passes
  pub earlies : after.earlies ≡ before.earlies
