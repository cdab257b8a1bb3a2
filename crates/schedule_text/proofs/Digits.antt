-- Bytes as pairs of hexadecimal digits.
use Rattle.std.proofs.Common.{◌≡◌, ℕ, ◌+◌, ◌*◌, ◌/◌, ◌%◌, ◌<◌, ◌≤◌, refl, ap, sym, ◌∙◌, List, [], ◌∷◌, ◌++◌, length, get_or, take, arith, subst, false, append_assoc, length-append}
use Rattle.std.specs.Fmt.{digit_glyph}
use Rattle.std.specs.List.{All, AllByRecursion}
use Rattle.std.proofs.lemmas.List.{take_more}
use Rattle.std.proofs.lemmas.List.Elements.{All-from_recursion}
use Rattle.std.proofs.lemmas.Grind.{flat_map-append, common_steps}
use Rattle.tw_machine.specs.Grammar.{hex_digits}
use Rattle.schedule_text.specs.Bytes.{AreBytes}
use Rattle.tw_machine.proofs.Tables.{all_push}

-- the bytes that the first i pairs of digits spell
pub record IsSpelled (digits bytes : List ℕ) (i : ℕ) : Type 0 where
  pub count : length bytes ≡ i
  pub fits : AllByRecursion (λ b. b < 256) bytes
  pub text : take (2 * i) digits ≡ hex_digits bytes

pub none_spelled : (digits : List ℕ) → IsSpelled digits [] 0
none_spelled digits = record { count = refl; fits = tt; text = refl }

-- the digits of a byte that is made of two numbers below 16
pair_of : (high low b : ℕ) → high < 16 → low < 16 → b ≡ 16 * high + low → (b / 16 ≡ high) × (b % 16 ≡ low)
pair_of high low b h l e = (omega arith, omega arith)

two_more : (digits : List ℕ) (i : ℕ) → 2 * i + 1 < length digits → take (2 * (i + 1)) digits ≡ take (2 * i) digits ++ get_or digits (2 * i) 0 ∷ get_or digits (2 * i + 1) 0 ∷ []
two_more digits i l =
    let next : 2 * (i + 1) ≡ 2 * i + 1 + 1 = omega arith in
    ap (λ k. take k digits) next ∙ take_more digits (2 * i + 1) 0 l ∙ ap (λ r. r ++ get_or digits (2 * i + 1) 0 ∷ []) (take_more digits (2 * i) 0 (omega arith)) ∙ append_assoc (take (2 * i) digits) _ _

pub one_spelled : (digits bytes : List ℕ) (i high low b : ℕ) → 2 * i + 1 < length digits → IsSpelled digits bytes i → high < 16 → low < 16 →
    get_or digits (2 * i) 0 ≡ digit_glyph false high → get_or digits (2 * i + 1) 0 ≡ digit_glyph false low → b ≡ 16 * high + low → IsSpelled digits (bytes ++ b ∷ []) (i + 1)
one_spelled digits bytes i high low b l h high_fits low_fits first second is =
    let parts = pair_of high low b high_fits low_fits is in
    let glyphs : hex_digits (b ∷ []) ≡ get_or digits (2 * i) 0 ∷ get_or digits (2 * i + 1) 0 ∷ [] = cc in
    record {
      count = omega (arith, length-append {A = ℕ}, h.count);
      fits = all_push (λ x. x < 256) bytes b h.fits (omega arith);
      text = two_more digits i l ∙ ap (λ r. r ++ get_or digits (2 * i) 0 ∷ get_or digits (2 * i + 1) 0 ∷ []) h.text
          ∙ ap (λ r. hex_digits bytes ++ r) (sym glyphs) ∙ sym (flat_map-append (λ x. digit_glyph false (x / 16) ∷ digit_glyph false (x % 16) ∷ []) bytes (b ∷ []));
    }

pub all_spelled : (digits bytes : List ℕ) (i most : ℕ) → length digits ≤ 2 * i → i ≤ most → IsSpelled digits bytes i → AreBytes most bytes × (digits ≡ hex_digits bytes)
all_spelled digits bytes i most l small h =
    let whole : take (2 * i) digits ≡ digits = grind (arith, common_steps) in
    ((omega (arith, h.count), h.fits), sym whole ∙ h.text)

-- each byte has two digits
pub digits_count : (bytes : List ℕ) → length (hex_digits bytes) ≡ 2 * length bytes
digits_count [] = refl
digits_count (b ∷ bytes) = omega (arith, digits_count bytes)

abbrev pub IsGlyph : ℕ → Type 0
IsGlyph c = (d : ℕ) × (d < 16) × (c ≡ digit_glyph false d)

glyphs_of : (bytes : List ℕ) → AllByRecursion (λ b. b < 256) bytes → AllByRecursion IsGlyph (hex_digits bytes)
glyphs_of [] h = tt
glyphs_of (b ∷ bytes) h = ((b / 16, omega (arith, h.0), refl), ((b % 16, omega arith, refl), glyphs_of bytes h.1))

-- a byte that is no digit stands in no such text
pub no_glyph : (digits bytes : List ℕ) (k most : ℕ) → k < length digits → ((d : ℕ) → d < 16 → get_or digits k 0 ≡ digit_glyph false d → ⊥) → AreBytes most bytes → digits ≡ hex_digits bytes → ⊥
no_glyph digits bytes k most l none fits e =
    let at : IsGlyph (get_or digits k 0) = subst (All IsGlyph) (sym e) (All-from_recursion IsGlyph (hex_digits bytes) (glyphs_of bytes fits.1)) k 0 l in
    none at.0 at.1 at.2
