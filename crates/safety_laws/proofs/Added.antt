-- What a maker adds to the list: the entries have their payloads, and are those of pending updates.
use Rattle.std.proofs.Common.{◌≡◌, refl, ℕ, Bool, true, false, cond, [], map, Some}
use Rattle.std.specs.List.{AllByRecursion}
use Rattle.tw_machine.specs.Types.{Team, Kept, Decision}
use Rattle.tw_types.specs.Appending.{appended_list, appended_kept}
use Rattle.tw_types.specs.Flag.{is_up}
use Rattle.tw_types.specs.Process.{Process}
use Rattle.tw_types.proofs.Appended.{appended_entries, IsAddedFrom, appended_come}
use Rattle.tw_machine.specs.Deciding.{entries_to_add, kept_to_add}

pub entries_kept : (team : Team) (t : ℕ) (last : Decision) (p : Process) → map (λ (k : Kept). k.entry) (kept_to_add team t last p) ≡ entries_to_add team t last p
entries_kept team t last p = go (is_up team p.vote p.belief (Some t))
  where
    go : (up : Bool) → map (λ (k : Kept). k.entry) (cond up (appended_kept team t p.log.passed last p.waiting.pending) []) ≡ cond up (appended_list team t p.log.passed last p.waiting.pending) []
    go true = appended_entries team t p.log.passed last p.waiting.pending
    go false = refl

pub kept_come : (team : Team) (t : ℕ) (last : Decision) (p : Process) → AllByRecursion (IsAddedFrom p.waiting.pending) (kept_to_add team t last p)
kept_come team t last p = go (is_up team p.vote p.belief (Some t))
  where
    go : (up : Bool) → AllByRecursion (IsAddedFrom p.waiting.pending) (cond up (appended_kept team t p.log.passed last p.waiting.pending) [])
    go true = appended_come team t p.log.passed last p.waiting.pending
    go false = tt
