-- A body written behind a head.
use Rattle.std.proofs.Common.{◌≡◌, ℕ, ◌≤◌, List, ◌++◌, length, drop, arith}
use Rattle.wire_head.specs.Writing.{Writes}
use Rattle.wire_head.proofs.Written.{written_then}

pub written_whole : (old mid new head body : List ℕ) (end : ℕ) → mid ≡ head ++ drop 57 old → length head ≡ 57 → 57 ≤ length old → Writes mid 57 body new end → new ≡ (head ++ body) ++ drop end old
written_whole old mid new head body end front size room written =
    let first : Writes old 0 head mid 57 = record { bytes = front; end_is = omega arith; room = room } in
    (written_then first written).bytes
