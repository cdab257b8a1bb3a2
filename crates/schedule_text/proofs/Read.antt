-- What the readers of lines conclude from the fields that they took.
use Rattle.std.proofs.Common.{◌≡◌, ℕ, ◌<◌, ◌≤◌, ◌^◌, refl, ap, sym, ◌∙◌, List, [], ◌∷◌, ◌++◌, length, get_or, map, arith}
use Rattle.std.specs.Prelude.{codes}
use Rattle.std.specs.Fmt.{decimal}
use Rattle.std.specs.List.{All, join_with_byte}
use Rattle.std.proofs.lemmas.List.Splits.{join_with_byte-slice_split}
use Rattle.tw_machine.specs.Types.{Team, Act, Step}
use Rattle.tw_machine.specs.Grammar.{IsTeamLine, IsStepLine, IsAct, team_fields, act_fields}
use Rattle.tw_machine.proofs.LineNumbers.{IsSmall, same_numbers, times, small_times, numbers_of, team_by, small_numbers}
use Rattle.tw_machine.proofs.Lines.{cut, team_cut, step_cut}

from_cut : (line : List ℕ) (fields : List (List ℕ)) → cut line ≡ fields → line ≡ join_with_byte 32 fields
from_cut line fields e = sym (join_with_byte-slice_split 32 line) ∙ ap (join_with_byte 32) e

three_cells : (xs : List ℕ) → length xs ≡ 3 → xs ≡ get_or xs 0 0 ∷ get_or xs 1 0 ∷ get_or xs 2 0 ∷ []
three_cells (a ∷ b ∷ c ∷ []) e = refl
three_cells _ e = absurd (omega arith)

-- no three numbers begin the line
pub step_none : (n : ℕ) (line : List ℕ) (fields : List (List ℕ)) → n ≤ 2 ^ 60 → fields ≡ cut line → ((ns : List ℕ) (more : List (List ℕ)) → length ns ≡ 3 → All IsSmall ns → fields ≡ map decimal ns ++ more → ⊥) →
    (s : Step) → IsStepLine n line s → ⊥
step_none n line fields small is none s h = none (times s) (act_fields s.act) refl (small_times n line s small h) (is ∙ step_cut n line s small h)

-- the numbers that were taken are the step's, and the rest spells its act
pub step_taken : (n : ℕ) (line : List ℕ) (fields left : List (List ℕ)) (ns : List ℕ) → n ≤ 2 ^ 60 → fields ≡ cut line → length ns ≡ 3 → All IsSmall ns → fields ≡ map decimal ns ++ left →
    (s : Step) → IsStepLine n line s → (ns ≡ times s) × (left ≡ act_fields s.act)
step_taken n line fields left ns small is three smalls taken s h = same_numbers ns (times s) left (act_fields s.act) three smalls (small_times n line s small h) (sym taken ∙ is ∙ step_cut n line s small h)

pub step_read : (n : ℕ) (line : List ℕ) (fields left : List (List ℕ)) (ns : List ℕ) (act : Act) → fields ≡ cut line → length ns ≡ 3 → All IsSmall ns → fields ≡ map decimal ns ++ left → get_or ns 1 0 < n →
    IsAct act → left ≡ act_fields act → length line ≤ 9000 → IsStepLine n line (record { t = get_or ns 0 0; who = get_or ns 1 0; h = get_or ns 2 0; act = act })
step_read n line fields left ns act is three smalls taken who fits spells short =
    let parts : cut line ≡ decimal (get_or ns 0 0) ∷ decimal (get_or ns 1 0) ∷ decimal (get_or ns 2 0) ∷ act_fields act = sym is ∙ taken ∙ ap (λ xs. map decimal xs ++ left) (three_cells ns three) ∙ ap (λ r. decimal (get_or ns 0 0) ∷ decimal (get_or ns 1 0) ∷ decimal (get_or ns 2 0) ∷ r) spells in
    record {
      text = from_cut line _ parts;
      t = smalls 0 0 (omega arith);
      who = who;
      h = smalls 2 0 (omega arith);
      act = fits;
      fits = short;
    }

twelve_cells : (xs : List ℕ) → length xs ≡ 12 → xs ≡ numbers_of (team_by xs)
twelve_cells (a ∷ b ∷ c ∷ d ∷ e ∷ f ∷ g ∷ h ∷ i ∷ j ∷ k ∷ l ∷ []) q = refl
twelve_cells _ q = absurd (omega arith)

-- no twelve numbers stand behind the line's first word
pub team_none : (line : List ℕ) (fields left : List (List ℕ)) (word : List ℕ) → fields ≡ cut line → fields ≡ word ∷ left → ((ns : List ℕ) (more : List (List ℕ)) → length ns ≡ 12 → All IsSmall ns → left ≡ map decimal ns ++ more → ⊥) →
    (team : Team) → IsTeamLine line team → ⊥
team_none line fields left word is at none team h =
    let parts = team_cut line team h in
    let behind : left ≡ map decimal (numbers_of team) ++ [] = cc in
    none (numbers_of team) [] refl (small_numbers team h.written) behind

-- the numbers that were taken are the team's, and nothing is left
pub team_taken : (line : List ℕ) (fields left rest : List (List ℕ)) (word : List ℕ) (ns : List ℕ) → fields ≡ cut line → fields ≡ word ∷ left → length ns ≡ 12 → All IsSmall ns → left ≡ map decimal ns ++ rest →
    (team : Team) → IsTeamLine line team → (ns ≡ numbers_of team) × (rest ≡ [])
team_taken line fields left rest word ns is at twelve smalls taken team h =
    let parts = team_cut line team h in
    let behind : left ≡ map decimal (numbers_of team) ++ [] = cc in
    same_numbers ns (numbers_of team) rest [] twelve smalls (small_numbers team h.written) (sym taken ∙ behind)

pub team_read : (line : List ℕ) (fields left rest : List (List ℕ)) (word : List ℕ) (ns : List ℕ) → fields ≡ cut line → fields ≡ word ∷ left → word ≡ codes "team" → length ns ≡ 12 → All IsSmall ns → left ≡ map decimal ns ++ rest → rest ≡ [] →
    get_or ns 0 0 < 2 ^ 8 → get_or ns 1 0 < 2 ^ 32 → length line ≤ 9000 → IsTeamLine line (team_by ns)
team_read line fields left rest word ns is at team twelve smalls taken end n_fits number_fits short =
    let behind : left ≡ map decimal (numbers_of (team_by ns)) ++ rest = taken ∙ ap (λ xs. map decimal xs ++ rest) (twelve_cells ns twelve) in
    let parts : cut line ≡ team_fields (team_by ns) = cc in
    record {
      text = from_cut line _ parts;
      written = record {
        n = n_fits;
        line = number_fits;
        ppm = smalls 2 0 (omega arith);
        eps = smalls 3 0 (omega arith);
        delta = smalls 4 0 (omega arith);
        pace = smalls 5 0 (omega arith);
        decide = smalls 6 0 (omega arith);
        ring = smalls 7 0 (omega arith);
        slot = smalls 8 0 (omega arith);
        lease = smalls 9 0 (omega arith);
        quarantine = smalls 10 0 (omega arith);
        theta = smalls 11 0 (omega arith);
      };
      fits = short;
    }
