-- The reports of processes in ascending order: one process more, and how many they are.
use Rattle.std.proofs.Common.{◌≡◌, ℕ, ◌+◌, List, [], ◌∷◌, ◌++◌, Option, ap, sym, ◌∙◌, arith, add-zero, add-one, zero-add, zero, suc}
use Rattle.std.specs.Prelude.{◌==◌, find}
use Rattle.std.specs.List.{filter_map, range_with_len, cons_option}
use Rattle.std.proofs.lemmas.List.Elements.{filter_map-append}
use Rattle.tw_types.specs.declared.message.Report.{Report}
use Rattle.tw_types.specs.Groups.{ascending}

abbrev pub report_of : List Report → ℕ → Option Report
report_of reports who = find (λ (r : Report). r.member.who == who) reports

range-more : (a n : ℕ) → range_with_len a (suc n) ≡ range_with_len a n ++ (a + n) ∷ []
range-more a zero = ap (λ z. z ∷ []) (sym (add-zero a))
range-more a (suc n) =
    let last : a + 1 + n ≡ a + suc n = omega arith in
    ap (λ ks. a ∷ ks) (range-more (a + 1) n ∙ ap (λ z. range_with_len (a + 1) n ++ z ∷ []) last)

pub ascending-more : (n : ℕ) (reports : List Report) → ascending (n + 1) reports ≡ ascending n reports ++ cons_option (report_of reports n) []
ascending-more n reports =
    let range : range_with_len 0 (n + 1) ≡ range_with_len 0 n ++ n ∷ [] = ap (range_with_len 0) (add-one n) ∙ range-more 0 n ∙ ap (λ z. range_with_len 0 n ++ z ∷ []) (zero-add n) in
    ap (filter_map (report_of reports)) range ∙ filter_map-append (report_of reports) (range_with_len 0 n) (n ∷ [])
