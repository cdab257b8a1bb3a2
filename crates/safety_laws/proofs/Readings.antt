-- What the processes of a schedule read, and what one may read next.
use Rattle.std.proofs.Common.{◌≡◌, refl, ℕ, ◌-◌, ◌≤◌, Bool, true, not, ◌&&◌, ◌||◌, nat_eq, List, [], ◌∷◌, inl, inr, arith}
use Rattle.std.specs.Prelude.{nat_le}
use Rattle.std.specs.List.{list_all}
use Rattle.std.proofs.lemmas.Bool.Decides.{nat_tests}
use Rattle.std.proofs.lemmas.Bool.{and_parts}
use Rattle.tw_types.specs.declared.step.Step.{Step}
use Rattle.tw_num.specs.Elapsed.{MayElapse}
use Rattle.tw_machine.specs.Admissible.{keeps_drift}
use Rattle.safety_laws.specs.Clocks.{MayRead}
use Rattle.safety_laws.specs.Readings.{HasRead}
use Rattle.tw_machine.proofs.Tables.{same_number}

pub has_just_read : (past : List Step) (s : Step) → HasRead (s ∷ past) s.who s.t s.h
has_just_read past s = inl (record { by = refl; time = refl; reading = refl })

-- h is read at t, and h0 was read by the same clock at t0, no later
pub record IsSince (ppm t0 h0 t h : ℕ) : Type 0 where
  pub not_before : t0 ≤ t
  pub ticks : MayElapse ppm (h - h0) (t - t0)

-- no step is later
pub not_later : (past : List Step) (who t t0 h0 : ℕ) → list_all (λ (e : Step). nat_le e.t t) past ≡ true → HasRead past who t0 h0 → t0 ≤ t
not_later [] who t t0 h0 all read = absurd read
not_later (s ∷ past) who t t0 h0 all (inl r) = let first = (and_parts (nat_le s.t t) _ all).0 in let same = r.time in grind (arith, nat_tests)
not_later (s ∷ past) who t t0 h0 all (inr r) = not_later past who t t0 h0 (and_parts (nat_le s.t t) _ all).1 r

kept : (ppm t h u k : ℕ) → keeps_drift ppm t h u k ≡ true → MayElapse ppm (k - h) (u - t)
kept ppm t h u k keeps = record { fast = grind (arith, nat_tests); slow = grind (arith, nat_tests) }

-- what a process may read after a step, it may read after the steps before that
pub read_before : (ppm who : ℕ) (past : List Step) (s : Step) (t h : ℕ) → MayRead ppm who (s ∷ past) t h → MayRead ppm who past t h
read_before ppm who past s t h may = record { time = (and_parts (nat_le s.t t) _ may.time).1; drift = (and_parts (not (nat_eq s.who who) || keeps_drift ppm s.t s.h t h) _ may.drift).1 }

drift_from : (ppm who : ℕ) (past : List Step) (s : Step) (t h : ℕ) → s.who ≡ who → MayRead ppm who (s ∷ past) t h → keeps_drift ppm s.t s.h t h ≡ true
drift_from ppm who past s t h same may =
    let test : nat_eq s.who who ≡ true = rw same (same_number who) in
    rw test at ((and_parts (not (nat_eq s.who who) || keeps_drift ppm s.t s.h t h) _ may.drift).0)

-- what a process may read keeps the drift from all that it read
pub since : (ppm who : ℕ) (past : List Step) (t h t0 h0 : ℕ) → MayRead ppm who past t h → HasRead past who t0 h0 → IsSince ppm t0 h0 t h
since ppm who [] t h t0 h0 may read = absurd read
since ppm who (s ∷ past) t h t0 h0 may (inl r) =
    let ticks : MayElapse ppm (h - s.h) (t - s.t) = kept ppm s.t s.h t h (drift_from ppm who past s t h r.by may) in
    let time = r.time in
    let reading = r.reading in
    record { not_before = not_later (s ∷ past) who t t0 h0 may.time (inl r); ticks = record { fast = let f = ticks.fast in grind arith; slow = let f = ticks.slow in grind arith } }
since ppm who (s ∷ past) t h t0 h0 may (inr r) = since ppm who past t h t0 h0 (read_before ppm who past s t h may) r

-- after its step a process may read what it reads at it
pub may_read_still : (ppm : ℕ) (past : List Step) (s : Step) → MayRead ppm s.who past s.t s.h → MayRead ppm s.who (s ∷ past) s.t s.h
may_read_still ppm past s may = record { time = both _ _ is_now may.time; drift = both _ _ (rw (same_number s.who) no_drift) may.drift }
  where
    both : (a b : Bool) → a ≡ true → b ≡ true → (a && b) ≡ true
    both a b p q = rw (p, q) refl

    is_now : nat_le s.t s.t ≡ true
    is_now = grind (arith, nat_tests)

    no_drift : keeps_drift ppm s.t s.h s.t s.h ≡ true
    no_drift = grind (arith, nat_tests)
