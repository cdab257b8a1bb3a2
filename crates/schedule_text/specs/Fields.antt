-- The fields that a reader of a line still has.
use Rattle.std.specs.Prelude.{ℕ, ◌==◌, List, [], Option, Some, None}
use Rattle.std.specs.Borrow.{Bor}
use Rattle.std.specs.List.{slice_split}
use Rattle.schedule_text.specs.declared.fields.Fields.{Fields}

abbrev pub fields_of : ℕ → Option (Bor (List ℕ)) → List (List ℕ)
fields_of between None = []
fields_of between (Some bytes) = slice_split (λ b. b == between) bytes.now

abbrev pub fields_left : Fields → List (List ℕ)
fields_left f = fields_of f.between f.rest
