-- A line in the parts that are written.
use Rattle.std.proofs.Common.{◌≡◌, refl, ap, sym, ℕ, ◌-◌, ◌<◌, List, [], ◌∷◌, ◌++◌, length, take, drop, get_or, map, arith, append_assoc}
use Rattle.std.proofs.lemmas.List.{append-nil, take_rest}
use Rattle.std.specs.List.{join_with_byte, flat_map}
use Rattle.tw_machine.specs.RowText.{line_of}
use Rattle.schedule_text.specs.declared.line.Field.{Field}
use Rattle.schedule_text.specs.LineFields.{field_text, spaced, two_digits}
use Rattle.tw_machine.specs.Grammar.{hex_word}

joined : (field : Field) (fields back : List Field) → join_with_byte 32 (map field_text (field ∷ fields ++ back)) ≡ field_text field ++ (flat_map spaced fields ++ flat_map spaced back)
joined field [] [] = sym (append-nil (field_text field))
joined field [] (next ∷ back) = ap (λ x. field_text field ++ 32 ∷ x) (joined next [] back)
joined field (next ∷ fields) back = rw (joined next fields back) (simp append_assoc)

pub line_parts : (front back : List Field) (d : Field) → 0 < length front
    → line_of (map field_text (front ++ back)) ≡ field_text (get_or front 0 d) ++ (flat_map spaced (take (length front - 1) (drop 1 front)) ++ (flat_map spaced back ++ 10 ∷ []))
line_parts [] back d some = absurd (omega arith)
line_parts (field ∷ fields) back d some = rw (take_rest (field ∷ fields) 1, joined field fields back) (simp append_assoc)

pub hex_parts : (bytes : List ℕ) → 0 < length bytes → hex_word bytes ≡ flat_map two_digits bytes
hex_parts [] some = absurd (omega arith)
hex_parts (b ∷ bytes) some = refl
