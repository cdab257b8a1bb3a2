-- The text of a field.
use Rattle.std.specs.Prelude.{ℕ, ◌+◌, ◌/◌, ◌%◌, false, List, [], ◌∷◌, codes}
use Rattle.std.specs.Fmt.{decimal, digit_glyph}
use Rattle.schedule_text.specs.declared.line.Field.{Field}
use Rattle.schedule_text.specs.declared.line.Field.TheVariants.{Plus, Word, Number, Sum, Pair, Id, Bytes}
use Rattle.tw_machine.specs.Grammar.{hex_word}
use Rattle.tw_machine.specs.RowText.{dotted, id_text}

abbrev pub field_text : Field → List ℕ
field_text Plus = codes "+"
field_text (Word word) = word.now
field_text (Number n) = decimal n
field_text (Sum a b) = decimal (a + b)
field_text (Pair a b) = dotted (decimal a) (decimal b)
field_text (Id id) = id_text id
field_text (Bytes bytes) = hex_word bytes.now

-- a field behind a space
abbrev pub spaced : Field → List ℕ
spaced field = 32 ∷ field_text field

-- the two hexadecimal digits of a byte
abbrev pub two_digits : ℕ → List ℕ
two_digits b = digit_glyph false (b / 16) ∷ digit_glyph false (b % 16) ∷ []
