-- What a buffer holds after a write.
use Rattle.std.specs.Prelude.{◌≡◌, ℕ, ◌+◌, ◌≤◌, List, ◌++◌, length, take, drop}

-- A text was written at a place, and all else stayed. Its end is the place behind it.
pub record Writes (old : List ℕ) (place : ℕ) (text new : List ℕ) (end : ℕ) : Type 0 where
  pub bytes : new ≡ take place old ++ (text ++ drop end old)
  pub end_is : end ≡ place + length text
  pub room : end ≤ length old
