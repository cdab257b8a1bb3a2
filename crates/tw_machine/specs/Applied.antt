-- What is applied of a list of updates, and the table that a process has then. The table is no part of what a process keeps: it
-- follows from its list and its cursor.
use Rattle.std.specs.Prelude.{ℕ, ◌-◌, Bool, not, ◌&&◌, List, map, filter, fold, take, Option, Some, None}
use Rattle.tw_types.specs.declared.message.Kept.{Kept}
use Rattle.tw_types.specs.Beliefs.{Belief, Informed, Blank, Log}
use Rattle.tw_types.specs.Process.{Process}
use Rattle.tw_types.specs.Updates.{is_unordered}

-- A machine, whatever its contents are: the content of one to which nothing was applied, the content after a payload, from the
-- content before, and what a look shows of a content, which is keys with their values.
pub record Meaning (Content : Type 0) : Type 0 where
  pub empty : Content
  pub after : Content → List ℕ → Content
  pub shown : Content → List (ℕ × ℕ)

abbrev pub meaning_of : {Content : Type 0} → Content → (Content → List ℕ → Content) → (Content → List (ℕ × ℕ)) → Meaning Content
meaning_of empty after shown = record { empty = empty; after = after; shown = shown }

-- a total or a timed update that isn't late is applied as its position is passed
abbrev pub is_applied : Kept → Bool
is_applied k = not (is_unordered k.entry.order) && not k.entry.late

-- what was passed of a log, from its base on
abbrev pub passed_of : Log → List Kept
passed_of log = take (log.passed - log.base) log.entries

-- of these updates, the payloads of those that are applied
abbrev pub payloads_in : List Kept → List (List ℕ)
payloads_in updates = map (λ (k : Kept). k.payload.items) (filter is_applied updates)

-- the payloads that were applied, by position
abbrev pub payloads_applied : Log → List (List ℕ)
payloads_applied log = payloads_in (passed_of log)

-- the content after all of them, the first one first
abbrev pub content_of : {Content : Type 0} → Meaning Content → Log → Content
content_of meaning log = fold meaning.after meaning.empty (payloads_applied log)

abbrev pub table_by : {Content : Type 0} → Meaning Content → Belief → Log → Option Content
table_by meaning (Informed last) log = Some (content_of meaning log)
table_by meaning (Blank followed) log = None

-- the table of a process; a blank one has none
abbrev pub table_of : {Content : Type 0} → Meaning Content → Process → Option Content
table_of meaning p = table_by meaning p.belief p.log
