-- How the list of updates of a process grows and is passed, and which decisions fit it.
use Rattle.std.specs.Prelude.{ℕ, ◌+◌, ◌-◌, nat_le, nat_lt, true, not, ◌||◌, if◌then◌else◌, List, [], ◌∷◌, ◌++◌, map, length, drop, max, Option, Some, None, find, filter_map, slice_get, slice_set}
use Rattle.std.specs.Option.{option_map}
use Rattle.tw_types.specs.declared.message.UpdateId.{UpdateId}
use Rattle.tw_types.specs.declared.message.Entry.{Entry}
use Rattle.tw_types.specs.declared.message.Kept.{Kept}
use Rattle.tw_types.specs.declared.message.Decision.{Decision}
use Rattle.tw_types.specs.declared.answer.Reason.TheVariants.{Gap, Behind, Missing}
use Rattle.tw_types.specs.Beliefs.{Log, log_length}
use Rattle.tw_types.specs.Decisions.{decision_length}
use Rattle.tw_types.specs.Refusals.{Refusal}
use Rattle.tw_types.specs.Updates.{find_update, has_update}
use Rattle.tw_types.specs.Waiting.{entries_from}

-- so many entries may stand between what was passed and the end of the list
abbrev pub log_room : ℕ
log_room = 64

-- what a decision adds to a log: its entries at positions behind the log's end
abbrev pub needed : Log → Decision → List Entry
needed log d = entries_from (log_length log) d

-- Of a list that is so long and passed so far: a decision's window begins behind its end, or ends before it; or it ends too far ahead
-- of what was passed.
abbrev pub end_tests : (length passed : ℕ) → Decision → List Refusal
end_tests length passed d =
    record { reason = Gap; present = nat_lt length d.low || nat_lt (decision_length d) length }
    ∷ record { reason = Behind; present = nat_lt (passed + log_room) (decision_length d) }
    ∷ []

abbrev pub list_tests : Log → Decision → List Refusal
list_tests log d = end_tests (log_length log) log.passed d

-- the payload of an entry is missing among these
abbrev pub payload_test : List Kept → Entry → Refusal
payload_test payloads e = record { reason = Missing e.id; present = not (has_update e.id payloads) }

-- Why a decision doesn't go on a list that is so long and passed so far. Of the payloads that are missing the first is told.
abbrev pub fit_tests_at : (length passed : ℕ) → List Kept → Decision → List Refusal
fit_tests_at length passed payloads d = end_tests length passed d ++ map (payload_test payloads) (entries_from length d)

-- why a decision doesn't fit a log
abbrev pub fit_tests : Log → List Kept → Decision → List Refusal
fit_tests log payloads d = fit_tests_at (log_length log) log.passed payloads d

-- the first update that a decision needs of a log and whose payload is missing among these
abbrev pub first_missing : Log → List Kept → Decision → Option UpdateId
first_missing log payloads d = option_map (λ (e : Entry). e.id) (find (λ (e : Entry). not (has_update e.id payloads)) (needed log d))

-- an entry, as a decision has it, with the payload and the early mark that are found for it
abbrev pub entry_joined : List Kept → Entry → Option Kept
entry_joined payloads e = option_map (λ (k : Kept). record k { entry = e }) (find_update e.id payloads)

-- the log after a decision that fits it
abbrev pub log_after : List Kept → Decision → Log → Log
log_after payloads d log = record log { entries = log.entries ++ filter_map (entry_joined payloads) (needed log d) }

-- the entry at a position
abbrev pub log_at : ℕ → Log → Option Kept
log_at position log = if nat_le log.base position then slice_get log.entries (position - log.base) else None

-- the first of the positions that a process keeps in any case
abbrev pub kept_from : Log → ℕ
kept_from log = max log.base (log_length log - log_room)

-- the entry at a position that is kept
abbrev pub kept_at : ℕ → Log → Option Kept
kept_at position log = if nat_le (kept_from log) position then log_at position log else None

-- the entries that a process keeps in any case, the oldest first
abbrev pub kept_entries : Log → List Kept
kept_entries log = drop (kept_from log - log.base) log.entries

-- one position more is passed
abbrev pub passed_one : Log → Log
passed_one log = record log { passed = log.passed + 1 }

-- the entry at a position, where there is one, was delivered early
abbrev pub marked_at : ℕ → Log → Log
marked_at position log = by (log_at position log)
  where
    by : Option Kept → Log
    by None = log
    by (Some k) = record log { entries = slice_set log.entries (position - log.base) (record k { early = true }) }

-- a log that begins at this position, where all before it is passed
abbrev pub log_from : ℕ → Log
log_from position = record { base = position; entries = []; passed = position }
