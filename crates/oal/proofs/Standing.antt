-- Which positions of a log are kept.
use Rattle.std.proofs.Common.{◌≡◌, ap, ◌+◌, ◌-◌, ◌≤◌, length, arith, length-drop}
use Rattle.tw_types.specs.Beliefs.{Log}
use Rattle.tw_types.specs.Logs.{kept_from}
use Rattle.oal.specs.Recent.{Recent, IsRecent, newest, first_kept}
use Rattle.oal.specs.StandsFor.{StandsFor}

-- where the first one that is kept stands
pub first_stands : (o : Recent) (log : Log) → StandsFor o log → first_kept o ≡ log.base + (length log.entries - 64)
first_stands o log s =
    let left : length (newest log.entries) ≡ length log.entries - (length log.entries - 64) = length-drop (length log.entries - 64) log.entries in
    let kept : length o.kept ≡ length (newest log.entries) = ap length s.kept in
    let end : o.length ≡ log.base + length log.entries = s.length in
    omega arith

-- each position that isn't passed is kept
pub kept_from_passed : (o : Recent) (log : Log) → IsRecent o → StandsFor o log → kept_from log ≤ log.passed
kept_from_passed o log recent s =
    let first : first_kept o ≡ log.base + (length log.entries - 64) = first_stands o log s in
    let passed : o.passed ≡ log.passed = s.passed in
    let from : first_kept o ≤ o.passed = recent.from_passed in
    omega arith
