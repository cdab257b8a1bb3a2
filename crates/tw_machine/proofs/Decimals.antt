-- The decimal words of numbers below 2 ^ 60.
use Rattle.std.proofs.Common.{◌≡◌, ℕ, ◌+◌, ◌-◌, ◌*◌, ◌<◌, ◌≤◌, ◌^◌, ap, sym, ◌∙◌, List, ◌∷◌, length, get_or, arith, lit<, take, length-take, subst, zero, suc, true, false}
use Rattle.std.specs.Fmt.{decimal}
use Rattle.std.specs.Char.{digit_value, is_ascii_digit}
use Rattle.std.specs.Str.Parse.{AllDigits, digits_value}
use Rattle.std.proofs.lemmas.Fmt.{decimal_is_IsNumeral, decimal_digit, length-decimal-le, first_decimal, decimal-digits_value, decimal_injective}
use Rattle.std.proofs.lemmas.Int.Digits.{digits_more, digits_value_more}
use Rattle.std.proofs.lemmas.Grind.{common_steps}
use Rattle.std.proofs.lemmas.Bool.Decides.{nat_tests}
use Rattle.std.proofs.lemmas.Str.Parse.{IsNumeralModel, numerals_by_value, tells_digits, digit_at, digits_value_short}

pub own : IsNumeralModel (AllDigits 10) (digits_value 10)
own = numerals_by_value (AllDigits 10) tells_digits

-- what every such word has
pub record IsDecimal (word : List ℕ) : Type 0 where
  pub some : 0 < length word
  pub short : length word ≤ 19
  pub no_zero : get_or word 0 0 ≡ 48 → length word ≡ 1
  pub digits : AllDigits 10 word

zero_alone : (n : ℕ) → n < 2 ^ 60 → get_or (decimal n) 0 0 ≡ 48 → length (decimal n) ≡ 1
zero_alone zero small e = ap length (decimal_digit 0 (lit< tt))
zero_alone (suc n) small e = absurd (omega (arith, first_decimal (suc n) (omega arith) (omega arith)))

decimal_shape : (n : ℕ) → n < 2 ^ 60 → IsDecimal (decimal n)
decimal_shape n small = let numeral = decimal_is_IsNumeral n (omega arith) in record {
  some = numeral.0.0;
  short = length-decimal-le 19 n (lit< tt) (omega arith) (omega arith);
  no_zero = zero_alone n small;
  digits = numeral.0.1;
}

pub shape_of : (word : List ℕ) (n : ℕ) → n < 2 ^ 60 → word ≡ decimal n → IsDecimal word
shape_of word n small e = subst IsDecimal (sym e) (decimal_shape n small)

-- at most 19 digits are below 10 ^ 19
pub value_small : (word : List ℕ) → AllDigits 10 word → length word ≤ 19 → digits_value 10 word < 10 ^ 19
value_small word d l = digits_value_short own word 19 d l

-- a word of such a shape is the decimal word of its value
pub decimal_of_word : (word : List ℕ) → IsDecimal word → word ≡ decimal (digits_value 10 word)
decimal_of_word word h = let small = value_small word h.digits h.short in sym (decimal-digits_value own word h.digits h.some h.no_zero (omega arith))

-- the digit of a byte of `0` to `9`
digit_of : (c : ℕ) → is_ascii_digit c ≡ true → (48 ≤ c) × (digit_value c ≡ c - 48) × (digit_value c < 10)
digit_of c e = (grind (arith, nat_tests), grind (arith, nat_tests), grind (arith, nat_tests))

pub record IsOneMore (word : List ℕ) (i : ℕ) : Type 0 where
  pub digits : AllDigits 10 (take (i + 1) word)
  pub value : digits_value 10 (take (i + 1) word) ≡ digits_value 10 (take i word) * 10 + (get_or word i 0 - 48)
  pub small : digits_value 10 (take (i + 1) word) < 10 ^ 19

-- one more digit
pub one_more : (word : List ℕ) (i : ℕ) → i < length word → length word ≤ 19 → AllDigits 10 (take i word) → is_ascii_digit (get_or word i 0) ≡ true → IsOneMore word i
one_more word i l short before is =
    let d = digit_of (get_or word i 0) is in
    let all = digits_more 10 word i l before d.2 in
    record {
      digits = all;
      value = digits_value_more 10 word i l ∙ ap (λ x. digits_value 10 (take i word) * 10 + x) d.1;
      small = value_small _ all (omega (arith, length-take {A = ℕ}));
    }

-- a byte that is no digit stands in no decimal word
pub no_digit : (word : List ℕ) (i n : ℕ) → i < length word → is_ascii_digit (get_or word i 0) ≡ false → n < 2 ^ 60 → word ≡ decimal n → ⊥
no_digit word i n l is small e = let r = digit_at word i (shape_of word n small e).digits l in grind (arith, nat_tests)

pub read_word : (word : List ℕ) (i : ℕ) → 0 < length word → length word ≤ 19 → length word ≤ i → (get_or word 0 0 ≡ 48 → length word ≤ 1) → AllDigits 10 (take i word) → word ≡ decimal (digits_value 10 (take i word))
read_word word i some short end no_zero digits =
    let whole : take i word ≡ word = grind (arith, common_steps) in
    let is : IsDecimal word = record { some = some; short = short; no_zero = λ e. let l = no_zero e in omega arith; digits = subst (AllDigits 10) whole digits } in
    decimal_of_word word is ∙ ap (λ w. decimal (digits_value 10 w)) (sym whole)

-- a number at or above the limit is no other number below it
pub not_below : (word : List ℕ) (fields rest more : List (List ℕ)) (m n : ℕ) → m < 2 ^ 64 → 2 ^ 60 ≤ m → n < 2 ^ 60 → word ≡ decimal m → fields ≡ word ∷ rest → fields ≡ decimal n ∷ more → ⊥
not_below word fields rest more m n big over below is has wants =
    let same : decimal m ≡ decimal n = cc in
    let e = decimal_injective m n big (omega arith) same in
    omega arith
