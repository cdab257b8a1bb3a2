-- A search from a position on finds the next early one.
use Rattle.std.proofs.Common.{◌≡◌, ◌≤◌, ◌<◌, ◌-◌, refl, sym, ℕ, true, false, max, Option, Some, None, arith}
use Rattle.std.specs.Option.{MatchOption}
use Rattle.tw_types.specs.declared.team.Team.{Team}
use Rattle.tw_types.specs.declared.message.Decision.{Decision}
use Rattle.tw_types.specs.Beliefs.{Log, log_length}
use Rattle.tw_types.specs.Logs.{kept_from}
use Rattle.tw_types.specs.Deliveries.{may_go_early, next_early}
use Rattle.tw_types.proofs.Delivered.{first_found, none_found}

pub found_first : (team : Team) (d : Decision) (l : Log) (from first end : ℕ) (r : Option ℕ) → first ≡ max from l.passed → end ≡ log_length l → kept_from l ≤ first →
    MatchOption r ((k : ℕ) → first ≤ k → k < end → kept_from l ≤ k → may_go_early team d l k ≡ false)
    (λ i. (first ≤ i) × (i < end) × (kept_from l ≤ i → may_go_early team d l i ≡ true) × ((k : ℕ) → first ≤ k → k < i → kept_from l ≤ k → may_go_early team d l k ≡ false)) →
    r ≡ next_early team d l from
found_first team d l from first end None f e kept h =
    sym (none_found (may_go_early team d l) (log_length l - max from l.passed) (max from l.passed) (log_length l) refl (λ j low high. h j (omega (arith, f, low)) (omega (arith, e, high)) (omega (arith, kept, f, low))))
found_first team d l from first end (Some i) f e kept (low, high, may, none) =
    sym (first_found (may_go_early team d l) (log_length l - max from l.passed) (max from l.passed) (log_length l) i refl (record {
      from = omega (arith, f, low);
      within = omega (arith, e, high);
      taken = may (omega (arith, kept, low));
      before = λ j m n. none j (omega (arith, f, m)) n (omega (arith, kept, f, m));
    }))
