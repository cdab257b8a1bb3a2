-- What a process keeps of its list of updates: the end of it.
use Rattle.std.specs.Prelude.{ℕ, ◌+◌, ◌-◌, ◌≤◌, ◌^◌, nat_le, nat_lt, ◌&&◌, if◌then◌else◌, List, ◌++◌, length, drop, filter_map, Option, Some, None}
use Rattle.tw_types.specs.declared.message.Kept.{Kept}
use Rattle.tw_types.specs.declared.message.Decision.{Decision}
use Rattle.tw_types.specs.Waiting.{entries_from}
use Rattle.tw_types.specs.Logs.{log_room, entry_joined}

-- how long the list is, up to which position it is passed, and its last entries
pub record Recent : Type 0 where
  pub length : ℕ
  pub passed : ℕ
  pub kept : List Kept

-- the last ones of some entries, as many as there is room for
abbrev pub newest : List Kept → List Kept
newest entries = drop (length entries - log_room) entries

-- the position of the first entry that is kept
abbrev pub first_kept : Recent → ℕ
first_kept o = o.length - length o.kept

-- the place of a position among the entries that are kept
abbrev pub place_of : ℕ → Recent → Option ℕ
place_of position o = if nat_le (first_kept o) position && nat_lt position o.length then Some (position - first_kept o) else None

-- There is room for what is kept; each position that isn't passed is kept; and no sum of positions overflows.
pub record IsRecent (o : Recent) : Type 0 where
  pub few : length o.kept ≤ log_room
  pub within : length o.kept ≤ o.length
  pub from_passed : first_kept o ≤ o.passed
  pub no_further : o.passed ≤ o.length
  pub bounded : o.length ≤ 2 ^ 62

-- with more entries at the end
abbrev pub grown : List Kept → Recent → Recent
grown entries o = record { length = o.length + length entries; passed = o.passed; kept = newest (o.kept ++ entries) }

-- after a decision: its entries behind the end joined, with what is found for them among these payloads
abbrev pub recent_after : List Kept → Decision → Recent → Recent
recent_after payloads d o = grown (filter_map (entry_joined payloads) (entries_from o.length d)) o
