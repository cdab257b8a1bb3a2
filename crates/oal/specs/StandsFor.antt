-- The list of updates that a process has, of which it keeps the end.
use Rattle.std.specs.Prelude.{◌≡◌}
use Rattle.tw_types.specs.Beliefs.{Log, log_length}
use Rattle.oal.specs.Recent.{Recent, newest}

-- The log forgets nothing. Its last entries are kept.
pub record StandsFor (o : Recent) (log : Log) : Type 0 where
  pub length : o.length ≡ log_length log
  pub passed : o.passed ≡ log.passed
  pub kept : o.kept ≡ newest log.entries
