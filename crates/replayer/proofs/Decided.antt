-- Whether a line is that of a step can be decided, for numbers, words and payloads are bounded. So each text has a verdict, also one
-- that isn't read to its end.
use Rattle.std.proofs.Common.{subst, ◌≡◌, ◌≢◌, ◌⊎◌, ◌≤◌, ◌<◌, ◌^◌, ◌+◌, inl, inr, refl, sym, ap, ◌∙◌, ℕ, zero, suc, true, false, nat_eq, List, [], ◌∷◌, ◌++◌, length, Option, Some, None, arith, append_assoc}
use Rattle.std.specs.List.{AllByRecursion}
use Rattle.std.proofs.lemmas.Bool.{cases_lt}
use Rattle.std.proofs.lemmas.Bool.Decides.{eqb_tells}
use Rattle.std.proofs.lemmas.List.{append-nil, nil_from_length}
use Rattle.tw_machine.specs.Types.{Team, Order, Atom, Act, Step, Cause}
use Rattle.tw_types.specs.declared.message.Order.TheVariants.{Unordered, Total, Timed}
use Rattle.tw_types.specs.declared.message.Atom.TheVariants.{Weak, Strong, Strict}
use Rattle.tw_types.specs.declared.step.Act.TheVariants.{First, Again, Crash, Tick, Recv, Send, Reference, Look}
use Rattle.tw_types.specs.declared.step.Cause.TheVariants.{Grammar}
use Rattle.tw_machine.specs.Grammar.{IsStepLine, IsAct, IsPayload, step_line, line_limit}

abbrev pub Decided : Type 0 → Type 0
Decided P = P ⊎ (P → ⊥)

same_bytes : (xs ys : List ℕ) → Decided (xs ≡ ys)
same_bytes [] [] = inl refl
same_bytes [] (y ∷ ys) = inr (λ e. cc)
same_bytes (x ∷ xs) [] = inr (λ e. cc)
same_bytes (x ∷ xs) (y ∷ ys) = both (eqb_tells x y) (same_bytes xs ys)
  where
    both : ((nat_eq x y ≡ true) × (x ≡ y)) ⊎ ((nat_eq x y ≡ false) × (x ≢ y)) → Decided (xs ≡ ys) → Decided (x ∷ xs ≡ y ∷ ys)
    both (inl same) (inl all) = let e = same.1 in inl (cc)
    both (inl same) (inr none) = inr (λ e. none (cc))
    both (inr other) rest = inr (λ e. other.1 (cc))

-- one of the numbers below a bound
below : (n : ℕ) (P : ℕ → Type 0) → ((i : ℕ) → Decided (P i)) → Decided ((i : ℕ) × (i < n) × P i)
below zero P each = inr (λ found. absurd (omega (arith, found.1)))
below (suc n) P each = more (each n) (below n P each)
  where
    more : Decided (P n) → Decided ((i : ℕ) × (i < n) × P i) → Decided ((i : ℕ) × (i < suc n) × P i)
    more (inl p) rest = inl (n, omega arith, p)
    more (inr never) (inl found) = inl (found.0, omega (arith, found.1), found.2)
    more (inr never) (inr none) = inr (λ found. elim (cases_lt found.0 n) [ inl l ↦ none (found.0, l, found.2) | inr l ↦ never (subst P (omega (arith, found.1, l)) found.2) ])

nowhere : (n : ℕ) (P : List ℕ → Type 0) → (P [] → ⊥) → ((b : ℕ) × (b < 256) × ((bytes : List ℕ) × (length bytes ≤ n) × AllByRecursion (λ b. b < 256) bytes × P (b ∷ bytes)) → ⊥)
    → (bytes : List ℕ) → length bytes ≤ suc n → AllByRecursion (λ b. b < 256) bytes → P bytes → ⊥
nowhere n P never none [] short small p = never p
nowhere n P never none (b ∷ bytes) short small p = none (b, small.0, (bytes, omega (arith, short), small.1, p))

-- one of the lists of so many bytes at most
payloads : (n : ℕ) (P : List ℕ → Type 0) → ((bytes : List ℕ) → Decided (P bytes)) → Decided ((bytes : List ℕ) × (length bytes ≤ n) × AllByRecursion (λ b. b < 256) bytes × P bytes)
payloads zero P each = none (each [])
  where
    none : Decided (P []) → Decided ((bytes : List ℕ) × (length bytes ≤ zero) × AllByRecursion (λ b. b < 256) bytes × P bytes)
    none (inl p) = inl ([], omega arith, tt, p)
    none (inr never) = inr (λ found. never (subst P (nil_from_length found.0 (omega (arith, found.1))) found.3))
payloads (suc n) P each = more (each []) (below 256 (λ b. (bytes : List ℕ) × (length bytes ≤ n) × AllByRecursion (λ b. b < 256) bytes × P (b ∷ bytes)) (λ b. payloads n (λ bytes. P (b ∷ bytes)) (λ bytes. each (b ∷ bytes))))
  where
    more : Decided (P []) → Decided ((b : ℕ) × (b < 256) × ((bytes : List ℕ) × (length bytes ≤ n) × AllByRecursion (λ b. b < 256) bytes × P (b ∷ bytes)))
        → Decided ((bytes : List ℕ) × (length bytes ≤ suc n) × AllByRecursion (λ b. b < 256) bytes × P bytes)
    more (inl p) rest = inl ([], omega arith, tt, p)
    more (inr never) (inl found) = inl (found.0 ∷ found.2.0, omega (arith, found.2.1), (found.1, found.2.2), found.2.3)
    more (inr never) (inr none) = inr (λ found. nowhere n P never none found.0 found.1 found.2 found.3)

-- one of two
either : {P Q : Type 0} → Decided P → Decided Q → Decided (P ⊎ Q)
either (inl p) rest = inl (inl p)
either (inr never) (inl q) = inl (inr q)
either (inr never) (inr none) = inr (λ found. elim found [ inl p ↦ never p | inr q ↦ none q ])

like : {P Q : Type 0} → (P → Q) → (Q → P) → Decided P → Decided Q
like to from (inl p) = inl (to p)
like to from (inr never) = inr (λ q. never (from q))

orders : (P : Order → Type 0) → ((order : Order) → Decided (P order)) → Decided ((order : Order) × P order)
orders P each = like to from (either (each Unordered) (either (each Total) (each Timed)))
  where
    to : P Unordered ⊎ (P Total ⊎ P Timed) → (order : Order) × P order
    to (inl p) = (Unordered, p)
    to (inr (inl p)) = (Total, p)
    to (inr (inr p)) = (Timed, p)

    by : (order : Order) → P order → P Unordered ⊎ (P Total ⊎ P Timed)
    by Unordered p = inl p
    by Total p = inr (inl p)
    by Timed p = inr (inr p)

    from : (order : Order) × P order → P Unordered ⊎ (P Total ⊎ P Timed)
    from found = by found.0 found.1

atoms : (P : Atom → Type 0) → ((atom : Atom) → Decided (P atom)) → Decided ((atom : Atom) × P atom)
atoms P each = like to from (either (each Weak) (either (each Strong) (each Strict)))
  where
    to : P Weak ⊎ (P Strong ⊎ P Strict) → (atom : Atom) × P atom
    to (inl p) = (Weak, p)
    to (inr (inl p)) = (Strong, p)
    to (inr (inr p)) = (Strict, p)

    by : (atom : Atom) → P atom → P Weak ⊎ (P Strong ⊎ P Strict)
    by Weak p = inl p
    by Strong p = inr (inl p)
    by Strict p = inr (inr p)

    from : (atom : Atom) × P atom → P Weak ⊎ (P Strong ⊎ P Strict)
    from found = by found.0 found.1

-- an act with numbers, and a send
abbrev Receives : (Act → Type 0) → Type 0
Receives P = (d : ℕ) × (d < 2 ^ 32) × P (Recv d)

abbrev Refers : (Act → Type 0) → Type 0
Refers P = (hi : ℕ) × (hi < 2 ^ 60) × ((lo : ℕ) × (lo < hi + 1) × P (Reference lo hi))

abbrev Sends : (Act → Type 0) → Type 0
Sends P = (order : Order) × ((atom : Atom) × ((bytes : List ℕ) × (length bytes ≤ 1024) × AllByRecursion (λ b. b < 256) bytes × P (Send order atom (record { items = bytes }))))

-- one of the acts
abbrev Acts : (Act → Type 0) → Type 0
Acts P = P First ⊎ (P Again ⊎ (P Crash ⊎ (P Tick ⊎ (P Look ⊎ (Receives P ⊎ (Refers P ⊎ Sends P))))))

some_act : (P : Act → Type 0) → ((act : Act) → Decided (P act)) → Decided ((act : Act) × IsAct act × P act)
some_act P each = like to from (either (each First) (either (each Again) (either (each Crash) (either (each Tick) (either (each Look) (either receives (either refers sends)))))))
  where
    receives : Decided (Receives P)
    receives = below (2 ^ 32) (λ d. P (Recv d)) (λ d. each (Recv d))

    refers : Decided (Refers P)
    refers = below (2 ^ 60) (λ hi. (lo : ℕ) × (lo < hi + 1) × P (Reference lo hi)) (λ hi. below (hi + 1) (λ lo. P (Reference lo hi)) (λ lo. each (Reference lo hi)))

    sends : Decided (Sends P)
    sends = orders (λ order. (atom : Atom) × ((bytes : List ℕ) × (length bytes ≤ 1024) × AllByRecursion (λ b. b < 256) bytes × P (Send order atom (record { items = bytes }))))
        (λ order. atoms (λ atom. (bytes : List ℕ) × (length bytes ≤ 1024) × AllByRecursion (λ b. b < 256) bytes × P (Send order atom (record { items = bytes })))
        (λ atom. payloads 1024 (λ bytes. P (Send order atom (record { items = bytes }))) (λ bytes. each (Send order atom (record { items = bytes })))))

    to : Acts P → (act : Act) × IsAct act × P act
    to (inl p) = (First, tt, p)
    to (inr (inl p)) = (Again, tt, p)
    to (inr (inr (inl p))) = (Crash, tt, p)
    to (inr (inr (inr (inl p)))) = (Tick, tt, p)
    to (inr (inr (inr (inr (inl p))))) = (Look, tt, p)
    to (inr (inr (inr (inr (inr (inl r)))))) = (Recv r.0, r.1, r.2)
    to (inr (inr (inr (inr (inr (inr (inl r))))))) = (Reference r.2.0 r.0, (omega (arith, r.2.1), r.1), r.2.2)
    to (inr (inr (inr (inr (inr (inr (inr r))))))) = (Send r.0 r.1.0 (record { items = r.1.1.0 }), (r.1.1.1, r.1.1.2), r.1.1.3)

    by : (act : Act) → IsAct act → P act → Acts P
    by First is p = inl p
    by Again is p = inr (inl p)
    by Crash is p = inr (inr (inl p))
    by Tick is p = inr (inr (inr (inl p)))
    by Look is p = inr (inr (inr (inr (inl p))))
    by (Recv d) is p = inr (inr (inr (inr (inr (inl (d, is, p))))))
    by (Reference lo hi) is p = inr (inr (inr (inr (inr (inr (inl (hi, is.1, (lo, omega (arith, is.0), p))))))))
    by (Send order atom payload) is p = inr (inr (inr (inr (inr (inr (inr (order, (atom, (payload.items, is.0, is.1, p)))))))))

    from : (act : Act) × IsAct act × P act → Acts P
    from found = by found.0 found.1 found.2

-- a step with this line, whatever the line's length
abbrev AtH : List ℕ → ℕ → ℕ → ℕ → Type 0
AtH line t who h = (act : Act) × IsAct act × (line ≡ step_line (record { t = t; who = who; h = h; act = act }))

abbrev AtWho : List ℕ → ℕ → ℕ → Type 0
AtWho line t who = (h : ℕ) × (h < 2 ^ 60) × AtH line t who h

abbrev AtT : ℕ → List ℕ → ℕ → Type 0
AtT n line t = (who : ℕ) × (who < n) × AtWho line t who

spelled : (n : ℕ) (line : List ℕ) → Decided ((t : ℕ) × (t < 2 ^ 60) × AtT n line t)
spelled n line = below (2 ^ 60) (AtT n line) (λ t. below n (AtWho line t) (λ who. below (2 ^ 60) (AtH line t who) (λ h.
    some_act (λ act. line ≡ step_line (record { t = t; who = who; h = h; act = act })) (λ act. same_bytes line (step_line (record { t = t; who = who; h = h; act = act }))))))

pub some_step : (n : ℕ) (line : List ℕ) → Decided ((s : Step) × IsStepLine n line s)
some_step n line = elim (cases_lt line_limit (length line)) [
  | inl long ↦ inr (λ found. absurd (omega (arith, found.1.fits)))
  | inr short ↦ like (to short) from (spelled n line)
]
  where
    to : length line ≤ line_limit → (t : ℕ) × (t < 2 ^ 60) × AtT n line t → (s : Step) × IsStepLine n line s
    to short (t, small, (who, within, (h, low, (act, is, text)))) = (record { t = t; who = who; h = h; act = act }, record { text = text; t = small; who = within; h = low; act = is; fits = short })

    from : (s : Step) × IsStepLine n line s → (t : ℕ) × (t < 2 ^ 60) × AtT n line t
    from (s, is) = (s.t, is.t, (s.who, is.who, (s.h, is.h, (s.act, is.act, is.text))))
