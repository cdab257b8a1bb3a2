-- All that is known of promises, and of what is held under them, in one law for the laws that follow.
use Rattle.std.specs.Prelude.{ℕ, List}
use Rattle.std.specs.List.{AllByRecursion}
use Rattle.tw_machine.specs.Types.{Team, Step}
use Rattle.tw_types.specs.Process.{Process}
use Rattle.tw_machine.specs.Dispatches.{Dispatch}
use Rattle.safety_laws.specs.Ascend.{Ascends}
use Rattle.safety_laws.specs.Effects.{Written}
use Rattle.safety_laws.specs.Held.{HoldsWell}
use Rattle.safety_laws.specs.Latest.{IsLatest}
use Rattle.safety_laws.specs.Laws.{Law}
use Rattle.safety_laws.specs.Mail.{TellsGiven}
use Rattle.safety_laws.specs.Names.{AreNamed, IsOwn}
use Rattle.safety_laws.specs.NotAhead.{AreNear, AreBehind}
use Rattle.safety_laws.specs.Outlived.{OutlivesAll}
use Rattle.safety_laws.specs.Windows.{IsInWindow}

pub record OfPromises (team : Team) (steps : List Step) (w : Written) : Type 0 where
  pub names : AreNamed steps w
  pub near : AreNear team.eps w
  pub windows : AllByRecursion (IsInWindow team) w.promises
  pub ascend : Ascends w.promises
  pub mail : AllByRecursion (λ (k : Dispatch). TellsGiven w.promises k.datagram.head.from k.datagram.body) w.sent
  pub outlived : AllByRecursion (OutlivesAll team w.makes) w.promises

pub record OfPromiser (steps : List Step) (w : Written) (who : ℕ) (p : Process) : Type 0 where
  pub own : IsOwn steps w who p
  pub behind : AreBehind steps w who p
  pub latest : IsLatest steps w who p
  pub held : HoldsWell p

-- the laws on promises
abbrev pub of_promises : Team → Law
of_promises team = record { History = OfPromises team; Running = OfPromiser }
