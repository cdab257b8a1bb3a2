-- What an early delivery stands behind.
use Rattle.std.specs.Prelude.{ℕ, ◌≤◌, ◌<◌, ◌≡◌, ◌≢◌, true, false, Some}
use Rattle.tw_types.specs.declared.team.Team.{Team}
use Rattle.tw_types.specs.declared.message.Atom.TheVariants.{Strong, Strict}
use Rattle.tw_types.specs.declared.message.Kept.{Kept}
use Rattle.tw_types.specs.declared.message.Decision.{Decision}
use Rattle.tw_types.specs.Beliefs.{Log}
use Rattle.tw_types.specs.Logs.{log_at}
use Rattle.tw_types.specs.Deliveries.{may_pass, early_at}

-- the cursor stands before this position, and waits for a strict update
pub record WaitsForStrict (team : Team) (d : Decision) (log : Log) (i : ℕ) : Type 0 where
  pub before : log.passed < i
  pub waits : may_pass team d log log.passed ≡ false
  pub update : Kept
  pub there : log_at log.passed log ≡ Some update
  pub strict : update.entry.atom ≡ Strict

-- of what is delivered early nothing is strict, and what is strong stands behind a strict update
abbrev pub EarlyBehindStrict : Team → Decision → Log → Type 0
EarlyBehindStrict team d log = (i : ℕ) (k : Kept) → log.passed ≤ i → log_at i log ≡ Some k → early_at team d i k ≡ true →
    (k.entry.atom ≢ Strict) × (k.entry.atom ≡ Strong → WaitsForStrict team d log i)
