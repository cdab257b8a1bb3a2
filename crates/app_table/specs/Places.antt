-- Where a key stands among the entries of a table, or where it would go.
use Rattle.std.specs.Prelude.{◌≡◌, ℕ, suc, ◌<◌, ◌≤◌, true, false, List, length, take, drop}
use Rattle.app_table.specs.Table.{Entry, below, above, has_key}

-- the entry at this place has the key
pub record IsPlace (key : ℕ) (entries : List Entry) (place : ℕ) : Type 0 where
  pub within : place < length entries
  pub known : has_key key entries ≡ true
  pub before : take place entries ≡ below key entries
  pub behind : drop (suc place) entries ≡ above key entries

-- no entry has the key, and an entry with it would go to this place
pub record IsGap (key : ℕ) (entries : List Entry) (place : ℕ) : Type 0 where
  pub within : place ≤ length entries
  pub unknown : has_key key entries ≡ false
  pub before : take place entries ≡ below key entries
  pub behind : drop place entries ≡ above key entries
