use Rattle.tw_machine.proofs.Untimely.{untimely_is_dropped}
use Rattle.tw_machine.proofs.laws.untimely_datagrams_are_dropped.Goals as goal

pub returns : goal.returns
returns c = record { exact = untimely_is_dropped }
