-- What the answer of a table tells of its content.
use Rattle.std.proofs.Common.{◌≡◌, ℕ, Bool, true, false, List, length, Option, Some, None, inl, inr, refl, cond, ◌⊎◌}
use Rattle.std.specs.Prelude.{nat_eq, is_some}
use Rattle.app_table.specs.declared.machine.Applied.{Applied}
use Rattle.app_table.specs.declared.machine.Applied.TheVariants.{Put, Removed, Absent, TableFull, BadCommand}
use Rattle.app_table.specs.Table.{Entry, IsTable, value_at, has_key, without, with_value, is_too_many, put_answer, after_put, remove_answer, key_of, value_of, after_payload, payload_answer}
use Rattle.app_table.proofs.Maps.{nothing_removed, value_after_put, value_after_removal}

-- ---- nothing changed

-- the answer says so
abbrev pub ChangesNothing : Applied → Type 0
ChangesNothing answer = (answer ≡ Absent) ⊎ (answer ≡ TableFull) ⊎ (answer ≡ BadCommand)

put_changes : ChangesNothing Put → ⊥
put_changes (inl e) = cc
put_changes (inr (inl e)) = cc
put_changes (inr (inr e)) = cc

removal_changes : ChangesNothing Removed → ⊥
removal_changes (inl e) = cc
removal_changes (inr (inl e)) = cc
removal_changes (inr (inr e)) = cc

same_after_put : (key value : ℕ) (es : List Entry) → ChangesNothing (put_answer key es) → after_put key value es ≡ es
same_after_put key value es h = go (is_too_many key es) h
  where
    go : (b : Bool) → ChangesNothing (cond b TableFull Put) → cond b es (with_value key value es) ≡ es
    go true h = refl
    go false h = absurd (put_changes h)

same_after_removal : (key : ℕ) (es : List Entry) → IsTable es → ChangesNothing (remove_answer key es) → without key es ≡ es
same_after_removal key es is h = go (value_at key es) refl h
  where
    go : (v : Option ℕ) → value_at key es ≡ v → ChangesNothing (cond (is_some v) Removed Absent) → without key es ≡ es
    go None none h = nothing_removed key es is.ascending none
    go (Some value) there h = absurd (removal_changes h)

pub same_after : (es : List Entry) (payload : List ℕ) → IsTable es → ChangesNothing (payload_answer es payload) → after_payload es payload ≡ es
same_after es payload is h = go (nat_eq (length payload) 12) (nat_eq (length payload) 4) h
  where
    go : (twelve four : Bool) → ChangesNothing (cond twelve (put_answer (key_of payload) es) (cond four (remove_answer (key_of payload) es) BadCommand)) →
        cond twelve (after_put (key_of payload) (value_of payload) es) (cond four (without (key_of payload) es) es) ≡ es
    go true four h = same_after_put (key_of payload) (value_of payload) es h
    go false true h = same_after_removal (key_of payload) es is h
    go false false h = refl

-- ---- a value was put, or a key removed

put_answered : (es : List Entry) (payload : List ℕ) → payload_answer es payload ≡ Put → after_payload es payload ≡ with_value (key_of payload) (value_of payload) es
put_answered es payload h = go (nat_eq (length payload) 12) (nat_eq (length payload) 4) (is_too_many (key_of payload) es) (has_key (key_of payload) es) h
  where
    go : (twelve four many known : Bool) → cond twelve (cond many TableFull Put) (cond four (cond known Removed Absent) BadCommand) ≡ Put →
        cond twelve (cond many es (with_value (key_of payload) (value_of payload) es)) (cond four (without (key_of payload) es) es) ≡ with_value (key_of payload) (value_of payload) es
    go true four true known h = cc
    go true four false known h = refl
    go false true many true h = cc
    go false true many false h = cc
    go false false many known h = cc

removal_answered : (es : List Entry) (payload : List ℕ) → payload_answer es payload ≡ Removed → after_payload es payload ≡ without (key_of payload) es
removal_answered es payload h = go (nat_eq (length payload) 12) (nat_eq (length payload) 4) (is_too_many (key_of payload) es) h
  where
    go : (twelve four many : Bool) → cond twelve (cond many TableFull Put) (cond four (remove_answer (key_of payload) es) BadCommand) ≡ Removed →
        cond twelve (cond many es (with_value (key_of payload) (value_of payload) es)) (cond four (without (key_of payload) es) es) ≡ without (key_of payload) es
    go true four true h = cc
    go true four false h = cc
    go false true many h = refl
    go false false many h = cc

pub value_put : (es : List Entry) (payload : List ℕ) (other : ℕ) → payload_answer es payload ≡ Put →
    value_at other (after_payload es payload) ≡ cond (nat_eq other (key_of payload)) (Some (value_of payload)) (value_at other es)
value_put es payload other h = rw (put_answered es payload h) (value_after_put (key_of payload) (value_of payload) other es)

pub value_gone : (es : List Entry) (payload : List ℕ) (other : ℕ) → payload_answer es payload ≡ Removed →
    value_at other (after_payload es payload) ≡ cond (nat_eq other (key_of payload)) None (value_at other es)
value_gone es payload other h = rw (removal_answered es payload h) (value_after_removal (key_of payload) other es)
