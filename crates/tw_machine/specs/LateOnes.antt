-- Why a timed update is added to the list as late.
use Rattle.std.specs.Prelude.{ℕ, ◌==◌, Bool, true, List, [], ◌∷◌, ◌++◌, ◌≡◌}
use Rattle.std.specs.List.{list_any}
use Rattle.tw_machine.specs.Types.{Entry, TimeMark}
use Rattle.tw_types.specs.Appending.{mark_of, is_above}

-- an entry of this process stands among these
abbrev pub has_entry_of : (who : ℕ) → List Entry → Bool
has_entry_of who entries = list_any (λ (e : Entry). e.id.who == who) entries

-- Of entries behind those before, each late one isn't above the mark as adding began, or stands behind one of its own process that was
-- added with it. So no update is late because that of another process with a greater stamp was added before it.
abbrev pub LateForACause : TimeMark → (before entries : List Entry) → Type 0
LateForACause mark before [] = Unit {0}
LateForACause mark before (e ∷ entries) = (e.late ≡ true → is_above (mark_of e) mark ≡ true → has_entry_of e.id.who before ≡ true) × LateForACause mark (before ++ e ∷ []) entries
