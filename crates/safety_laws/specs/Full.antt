-- Groups that were made of a full ballot.
use Rattle.std.specs.Prelude.{Bool, false}
use Rattle.tw_machine.specs.History.{Make}

-- A group of a full ballot may start early: not behind the leases that its ballot names. There is no early start yet, so no make is
-- full.
unfoldable pub is_full : Make → Bool
is_full m = false
