-- What is sent to the others, one process after the other.
use Rattle.std.proofs.Common.{◌≡◌, ◌≢◌, ◌<◌, ◌≤◌, refl, sym, ap, ◌∙◌, ℕ, zero, suc, ◌+◌, Bool, true, false, cond, nat_eq, List, [], ◌∷◌, ◌++◌, map, append_assoc, arith}
use Rattle.std.specs.Prelude.{nat_lt}
use Rattle.std.specs.List.{filter, range_with_len}
use Rattle.std.proofs.lemmas.Bool.Decides.{nat_tests}
use Rattle.std.proofs.lemmas.List.{map-append}
use Rattle.std.proofs.lemmas.List.Elements.{filter-append}
use Rattle.tw_machine.specs.Types.{Team, Datagram, Outputs}
use Rattle.tw_machine.specs.Run.{Run, with_sends}
use Rattle.node_core.specs.declared.state.State.{State}
use Rattle.node_core.specs.StandsFor.{RunStandsFor}

range_push : (a n : ℕ) → range_with_len a (suc n) ≡ range_with_len a n ++ (a + n) ∷ []
range_push a zero = ap (λ x. x ∷ []) (omega arith)
range_push a (suc n) = ap (λ xs. a ∷ xs) (range_push (a + 1) n ∙ ap (λ x. range_with_len (a + 1) n ++ x ∷ []) (omega arith))

next : (n : ℕ) → n + 1 ≡ suc n
next n = omega arith

none_before : (n : ℕ) → 0 + n ≡ n
none_before n = omega arith

-- one process more
others_push : {A : Type 0} (f : ℕ → A) (p : ℕ → Bool) (n : ℕ) → map f (filter p (range_with_len 0 (n + 1))) ≡ map f (filter p (range_with_len 0 n)) ++ map f (cond (p n) (n ∷ []) [])
others_push f p n =
    ap (λ k. map f (filter p (range_with_len 0 k))) (next n)
    ∙ ap (λ xs. map f (filter p xs)) (range_push 0 n ∙ ap (λ x. range_with_len 0 n ++ x ∷ []) (none_before n))
    ∙ ap (map f) (filter-append p (range_with_len 0 n) (n ∷ []))
    ∙ map-append f (filter p (range_with_len 0 n)) (filter p (n ∷ []))

sent_on : (team : Team) (c : State) (out : Outputs) (r : Run) (xs ys zs : List (ℕ × Datagram)) → zs ≡ xs ++ ys → RunStandsFor team c out (with_sends ys (with_sends xs r)) → RunStandsFor team c out (with_sends zs r)
sent_on team c out r xs ys zs is s = record {
  same_team = s.same_team;
  process = s.process;
  given = s.given ∙ ap (λ (l : List (ℕ × Datagram)). record (r.out) { sends = l }) (append_assoc r.out.sends xs ys ∙ ap (λ (l : List (ℕ × Datagram)). r.out.sends ++ l) (sym is));
}

pub one_more : (team : Team) (c : State) (out : Outputs) (r : Run) (f : ℕ → ℕ × Datagram) (p : ℕ → Bool) (n : ℕ)
    → RunStandsFor team c out (with_sends (map f (cond (p n) (n ∷ []) [])) (with_sends (map f (filter p (range_with_len 0 n))) r))
    → RunStandsFor team c out (with_sends (map f (filter p (range_with_len 0 (n + 1)))) r)
one_more team c out r f p n s = sent_on team c out r _ _ _ (others_push f p n) s

-- the process that sends is left out of the count
pub fewer_after : (old out new who to : ℕ) → (who < to → out + 1 ≤ old + to) → out ≤ old + to → new ≤ out + 1 → (to ≡ who → new ≡ out) → who < to + 1 → new + 1 ≤ old + (to + 1)
fewer_after old out new who to fewer few more same low = go (nat_eq to who) refl
  where
    go : (b : Bool) → nat_eq to who ≡ b → new + 1 ≤ old + (to + 1)
    go true e = let s = same (grind arith) in omega arith
    go false e = let other : to ≢ who = grind arith in let f = fewer (omega arith) in omega arith

pub room_for : (old out who to n : ℕ) → (who < to → out + 1 ≤ old + to) → out ≤ old + to → old + 14 ≤ 64 → to < n → who < n → n ≤ 15 → to ≢ who → out + 1 ≤ 64
room_for old out who to n fewer few room low me small other = go (nat_lt who to) refl
  where
    go : (b : Bool) → nat_lt who to ≡ b → out + 1 ≤ 64
    go true e = let f = fewer (grind (arith, nat_tests)) in omega arith
    go false e = let below : to ≤ who = grind (arith, nat_tests) in omega arith
