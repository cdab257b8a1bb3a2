-- A row's text in the parts that are written.
use Rattle.std.proofs.Common.{◌≡◌, refl, ap, sym, ℕ, List, [], ◌∷◌, ◌++◌, map, append_assoc}
use Rattle.std.specs.List.{flat_map}
use Rattle.tw_machine.specs.Types.{Outputs, RowLine}
use Rattle.tw_types.specs.Row.{Row}
use Rattle.tw_types.specs.Printed.{row_printed, update_printed, pass_printed, entry_printed}
use Rattle.tw_machine.specs.RowText.{row_line, lines_before_sends, row_text, pass_line, early_line, send_line, entry_line}
use Rattle.schedule_text.specs.RowLines.{entry_text, deliveries_text}

over_map : {X Y : Type 0} (text : Y → List ℕ) (of : X → Y) (xs : List X) → flat_map text (map of xs) ≡ flat_map (λ x. text (of x)) xs
over_map text of [] = refl
over_map text of (x ∷ xs) = ap (λ t. text (of x) ++ t) (over_map text of xs)

pub deliveries_are : (l : RowLine) (out : Outputs) (first : ℕ) (entries : List (ℕ × ℕ)) → lines_before_sends (row_printed l out first entries) ≡ deliveries_text out
deliveries_are l out first entries = rw (over_map pass_line pass_printed out.passes, over_map early_line update_printed out.earlies) refl

pub entries_are : (l : RowLine) (out : Outputs) (first : ℕ) (entries : List (ℕ × ℕ)) → flat_map entry_line (row_printed l out first entries).entries ≡ flat_map entry_text entries
entries_are l out first entries = over_map entry_line entry_printed entries

pub row_in_parts : (r : Row) → row_text r ≡ (row_line r ++ lines_before_sends r) ++ (flat_map send_line r.sends ++ flat_map entry_line r.entries)
row_in_parts r = sym (append_assoc (row_line r) (lines_before_sends r) _)
