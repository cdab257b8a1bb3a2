-- The numbers that stand at the front of a line's fields.
use Rattle.std.proofs.Common.{◌≡◌, ℕ, ◌<◌, ◌≤◌, ◌^◌, refl, List, [], ◌∷◌, ◌++◌, length, get_or, map, arith}
use Rattle.std.specs.Fmt.{decimal}
use Rattle.std.specs.List.{All}
use Rattle.std.proofs.lemmas.List.Elements.{All-head, All-tail, All-from_recursion}
use Rattle.std.proofs.lemmas.Fmt.{decimal_injective}
use Rattle.tw_machine.specs.Types.{Team, Step}
use Rattle.tw_machine.specs.Grammar.{IsStepLine, IsWritten}

abbrev pub IsSmall : ℕ → Type 0
IsSmall n = n < 2 ^ 60

pub same_number : (m n : ℕ) → m < 2 ^ 60 → n < 2 ^ 60 → decimal m ≡ decimal n → m ≡ n
same_number m n l k e = decimal_injective m n (omega arith) (omega arith) e

-- Equal rows begin with equal numbers.
pub same_numbers : (ms ns : List ℕ) (a b : List (List ℕ)) → length ms ≡ length ns → All IsSmall ms → All IsSmall ns → map decimal ms ++ a ≡ map decimal ns ++ b → (ms ≡ ns) × (a ≡ b)
same_numbers [] [] a b l sm sn e = (refl, e)
same_numbers [] (n ∷ ns) a b l sm sn e = absurd (omega arith)
same_numbers (m ∷ ms) [] a b l sm sn e = absurd (omega arith)
same_numbers (m ∷ ms) (n ∷ ns) a b l sm sn e =
    let head : decimal m ≡ decimal n = cc in
    let tail : map decimal ms ++ a ≡ map decimal ns ++ b = cc in
    let first = same_number m n (All-head IsSmall m ms sm) (All-head IsSmall n ns sn) head in
    let rest = same_numbers ms ns a b (omega arith) (All-tail IsSmall m ms sm) (All-tail IsSmall n ns sn) tail in
    (cc (first, rest.0), rest.1)

abbrev pub times : Step → List ℕ
times s = s.t ∷ s.who ∷ s.h ∷ []

pub small_times : (n : ℕ) (line : List ℕ) (s : Step) → n ≤ 2 ^ 60 → IsStepLine n line s → All IsSmall (times s)
small_times n line s small h = All-from_recursion IsSmall (times s) (h.t, (omega (arith, h.who), (h.h, tt)))

abbrev pub numbers_of : Team → List ℕ
numbers_of team = team.n ∷ team.line ∷ team.ppm ∷ team.eps ∷ team.delta ∷ team.pace ∷ team.decide ∷ team.ring ∷ team.slot ∷ team.lease ∷ team.quarantine ∷ team.theta ∷ []

abbrev pub team_by : List ℕ → Team
team_by ns = record { n = get_or ns 0 0; line = get_or ns 1 0; ppm = get_or ns 2 0; eps = get_or ns 3 0; delta = get_or ns 4 0; pace = get_or ns 5 0; decide = get_or ns 6 0; ring = get_or ns 7 0; slot = get_or ns 8 0; lease = get_or ns 9 0; quarantine = get_or ns 10 0; theta = get_or ns 11 0 }

pub small_numbers : (team : Team) → IsWritten team → All IsSmall (numbers_of team)
small_numbers team w = All-from_recursion IsSmall (numbers_of team) (omega (arith, w.n), (omega (arith, w.line), (w.ppm, (w.eps, (w.delta, (w.pace, (w.decide, (w.ring, (w.slot, (w.lease, (w.quarantine, (w.theta, tt))))))))))))
