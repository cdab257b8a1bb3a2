-- What a process believes of its group, and its list of updates.
use Rattle.std.specs.Prelude.{ℕ, ◌+◌, Bool, true, false, List, [], length, Option, None}
use Rattle.tw_types.specs.declared.message.Decision.{Decision}
use Rattle.tw_types.specs.declared.message.Kept.{Kept}

-- An informed process has the list of updates, whole, and took a last decision, or none yet. A blank one lost its memory, and
-- follows a decision, or none yet.
pub data Belief : Type 0 where
  Informed : (last : Option Decision) → Belief
  Blank : (followed : Option Decision) → Belief

abbrev pub is_informed : Belief → Bool
is_informed (Informed last) = true
is_informed (Blank followed) = false

-- the last decision that an informed process took
abbrev pub last_of : Belief → Option Decision
last_of (Informed last) = last
last_of (Blank followed) = None

-- the decision that a process took or follows
abbrev pub view_decision : Belief → Option Decision
view_decision (Informed last) = last
view_decision (Blank followed) = followed

-- The list of updates: the position that it begins at, its entries with their payloads, and the position up to which it is
-- passed.
pub record Log : Type 0 where
  pub base : ℕ
  pub entries : List Kept
  pub passed : ℕ

-- nothing yet, from the first position on
abbrev pub no_log : Log
no_log = record { base = 0; entries = []; passed = 0 }

-- the position behind the last entry
abbrev pub log_length : Log → ℕ
log_length log = log.base + length log.entries
