-- The line of each thing that a step gave.
use Rattle.std.specs.Prelude.{ℕ, List, ◌++◌}
use Rattle.std.specs.List.{flat_map}
use Rattle.std.specs.Option.{option_map}
use Rattle.tw_machine.specs.Types.{Kept, Pass, Outputs}
use Rattle.tw_types.specs.Printed.{made_printed, update_printed, pass_printed, entry_printed}
use Rattle.tw_machine.specs.RowText.{made_line, pass_line, early_line, entry_line}

abbrev pub pass_text : Pass → List ℕ
pass_text p = pass_line (pass_printed p)

abbrev pub early_text : Kept → List ℕ
early_text k = early_line (update_printed k)

abbrev pub entry_text : ℕ × ℕ → List ℕ
entry_text e = entry_line (entry_printed e)

-- what a step decided and delivered
abbrev pub deliveries_text : Outputs → List ℕ
deliveries_text out = made_line (option_map made_printed out.made) ++ (flat_map pass_text out.passes ++ flat_map early_text out.earlies)
