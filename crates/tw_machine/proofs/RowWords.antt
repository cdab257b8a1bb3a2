-- The words of a row's lines: none has a space, a line feed or a byte below them, and each is read back as what it spells.
use Rattle.std.proofs.Common.{◌≡◌, ℕ, ◌+◌, ◌-◌, ◌*◌, ◌/◌, ◌%◌, ◌<◌, ◌≤◌, refl, ap, ◌∙◌, List, [], ◌∷◌, ◌++◌, length, get_or, arith, Bool, true, false, ◌&&◌, ◌==◌}
use Rattle.std.specs.Prelude.{nat_lt, if◌then◌else◌}
use Rattle.std.specs.Fmt.{decimal, digit_glyph}
use Rattle.std.specs.List.{All, AllByRecursion, list_all, slice_split, flat_map}
use Rattle.std.specs.Str.Parse.{digits_value}
use Rattle.std.proofs.lemmas.List.Elements.{All-from_get_or}
use Rattle.std.proofs.lemmas.List.Folds.{list_all-append}
use Rattle.std.proofs.lemmas.List.Sums.{list_all-from_AllPass}
use Rattle.std.proofs.lemmas.List.Splits.{slice_split_none, slice_split_at}
use Rattle.std.proofs.lemmas.Str.Parse.{digit_at}
use Rattle.std.proofs.lemmas.Fmt.{decimal_is_IsNumeral_wide}
use Rattle.std.proofs.lemmas.Bool.Decides.{nat_tests}
use Rattle.tw_machine.specs.Types.{UpdateId, Member}
use Rattle.tw_machine.specs.Grammar.{hex_word}
use Rattle.tw_machine.specs.RowText.{dotted, id_text, member_text}
use Rattle.tw_machine.specs.RowLimits.{HasRoom, IsByte, IdFits, MemberFits}

-- each byte is above the space
abbrev pub is_word : List ℕ → Bool
is_word w = list_all (λ b. nat_lt 32 b) w

both : (a b : Bool) → a ≡ true → b ≡ true → (a && b) ≡ true
both true true p q = refl
both true false p q = q
both false b p q = p

pub word_append : (a b : List ℕ) → is_word a ≡ true → is_word b ≡ true → is_word (a ++ b) ≡ true
word_append a b p q = list_all-append (λ b. nat_lt 32 b) a b ∙ both (is_word a) (is_word b) p q

-- ---- numbers

-- the number that a word spells
abbrev pub number_of : List ℕ → ℕ
number_of w = digits_value 10 w

pub number_back : (n : ℕ) → HasRoom n → number_of (decimal n) ≡ n
number_back n room = (decimal_is_IsNumeral_wide n (omega (arith, room))).1

digits_in : (n i : ℕ) → HasRoom n → i < length (decimal n) → (48 ≤ get_or (decimal n) i 0) × (get_or (decimal n) i 0 ≤ 57)
digits_in n i room l =
    let numeral = decimal_is_IsNumeral_wide n (omega (arith, room)) in
    let r = digit_at (decimal n) i numeral.0.1 l in
    (omega (arith, r), omega (arith, r))

above : (b : ℕ) → 48 ≤ b → nat_lt 32 b ≡ true
above b l = grind (arith, nat_tests)

pub word_decimal : (n : ℕ) → HasRoom n → is_word (decimal n) ≡ true
word_decimal n room = list_all-from_AllPass (λ b. nat_lt 32 b) (decimal n) (All-from_get_or (λ b. nat_lt 32 b ≡ true) (decimal n) 0 (λ i l. above (get_or (decimal n) i 0) (digits_in n i room l).0))

pub first_digit : (n : ℕ) → HasRoom n → 48 ≤ get_or (decimal n) 0 0
first_digit n room =
    let numeral = decimal_is_IsNumeral_wide n (omega (arith, room)) in
    let some : 0 < length (decimal n) = numeral.0.0 in
    (digits_in n 0 room some).0

no_point : (b : ℕ) → 48 ≤ b → (b == 46) ≡ false
no_point b l = grind (arith, nat_tests)

pointless : (n : ℕ) → HasRoom n → All (λ b. (b == 46) ≡ false) (decimal n)
pointless n room = All-from_get_or (λ b. (b == 46) ≡ false) (decimal n) 0 (λ i l. no_point (get_or (decimal n) i 0) (digits_in n i room l).0)

-- ---- numbers with points between

abbrev pub parts : List ℕ → List (List ℕ)
parts w = slice_split (λ b. b == 46) w

one_part : (n : ℕ) → HasRoom n → parts (decimal n) ≡ decimal n ∷ []
one_part n room = slice_split_none (λ b. b == 46) (decimal n) (pointless n room)

more_parts : (n : ℕ) (rest : List ℕ) → HasRoom n → parts (dotted (decimal n) rest) ≡ decimal n ∷ parts rest
more_parts n rest room = slice_split_at (λ b. b == 46) (decimal n) 46 rest (pointless n room) refl

-- the i-th number of a word
abbrev pub part_at : ℕ → List ℕ → ℕ
part_at i w = number_of (get_or (parts w) i [])

abbrev pub pair_text : ℕ → ℕ → List ℕ
pair_text a b = dotted (decimal a) (decimal b)

pair_parts : (a b : ℕ) → HasRoom a → HasRoom b → parts (pair_text a b) ≡ decimal a ∷ decimal b ∷ []
pair_parts a b p q = more_parts a (decimal b) p ∙ ap (λ r. decimal a ∷ r) (one_part b q)

pub pair_first : (a b : ℕ) → HasRoom a → HasRoom b → part_at 0 (pair_text a b) ≡ a
pair_first a b p q = ap (λ r. number_of (get_or r 0 [])) (pair_parts a b p q) ∙ number_back a p

pub pair_second : (a b : ℕ) → HasRoom a → HasRoom b → part_at 1 (pair_text a b) ≡ b
pair_second a b p q = ap (λ r. number_of (get_or r 1 [])) (pair_parts a b p q) ∙ number_back b q

pub word_pair : (a b : ℕ) → HasRoom a → HasRoom b → is_word (pair_text a b) ≡ true
word_pair a b p q = word_append (decimal a) (46 ∷ decimal b) (word_decimal a p) (word_append (46 ∷ []) (decimal b) refl (word_decimal b q))

abbrev pub id_of : List ℕ → UpdateId
id_of w = record { who = part_at 0 w; incarnation = part_at 1 w; seq = part_at 2 w }

id_parts : (id : UpdateId) → IdFits id → parts (id_text id) ≡ decimal id.who ∷ decimal id.incarnation ∷ decimal id.seq ∷ []
id_parts id f = more_parts id.who _ f.0 ∙ ap (λ r. decimal id.who ∷ r) (pair_parts id.incarnation id.seq f.1 f.2)

same_id : (a b c d e f : ℕ) → a ≡ d → b ≡ e → c ≡ f → let x : UpdateId = record { who = a; incarnation = b; seq = c } in let y : UpdateId = record { who = d; incarnation = e; seq = f } in x ≡ y
same_id a b c d e f p q r = cc

pub id_back : (id : UpdateId) → IdFits id → id_of (id_text id) ≡ id
id_back id f = same_id _ _ _ id.who id.incarnation id.seq
    (ap (λ r. number_of (get_or r 0 [])) (id_parts id f) ∙ number_back id.who f.0)
    (ap (λ r. number_of (get_or r 1 [])) (id_parts id f) ∙ number_back id.incarnation f.1)
    (ap (λ r. number_of (get_or r 2 [])) (id_parts id f) ∙ number_back id.seq f.2)

pub word_id : (id : UpdateId) → IdFits id → is_word (id_text id) ≡ true
word_id id f = word_append (decimal id.who) (46 ∷ pair_text id.incarnation id.seq) (word_decimal id.who f.0) (word_append (46 ∷ []) (pair_text id.incarnation id.seq) refl (word_pair id.incarnation id.seq f.1 f.2))

abbrev pub member_of : List ℕ → Member
member_of w = record { who = part_at 0 w; incarnation = part_at 1 w }

same_member : (a b c d : ℕ) → a ≡ c → b ≡ d → let x : Member = record { who = a; incarnation = b } in let y : Member = record { who = c; incarnation = d } in x ≡ y
same_member a b c d p q = cc

pub member_back : (m : Member) → MemberFits m → member_of (member_text m) ≡ m
member_back m f = same_member _ _ m.who m.incarnation (pair_first m.who m.incarnation f.0 f.1) (pair_second m.who m.incarnation f.0 f.1)

pub word_member : (m : Member) → MemberFits m → is_word (member_text m) ≡ true
word_member m f = word_pair m.who m.incarnation f.0 f.1

-- ---- bytes

abbrev pub digit_of : ℕ → ℕ
digit_of c = if nat_lt c 58 then c - 48 else c - 87

abbrev pub bytes_of : List ℕ → List ℕ
bytes_of [] = []
bytes_of (c ∷ []) = []
bytes_of (c ∷ d ∷ rest) = (digit_of c * 16 + digit_of d) ∷ bytes_of rest

digit_back : (d : ℕ) → d < 16 → digit_of (digit_glyph false d) ≡ d
digit_back d l = grind (arith, nat_tests)

above_glyph : (d : ℕ) → nat_lt 32 (digit_glyph false d) ≡ true
above_glyph d = grind (arith, nat_tests)

abbrev digits_of : List ℕ → List ℕ
digits_of bytes = flat_map (λ x. digit_glyph false (x / 16) ∷ digit_glyph false (x % 16) ∷ []) bytes

byte_back : (b : ℕ) → b < 256 → digit_of (digit_glyph false (b / 16)) * 16 + digit_of (digit_glyph false (b % 16)) ≡ b
byte_back b l = rw (digit_back (b / 16) (omega arith), digit_back (b % 16) (omega arith)) (omega arith)

digits_back : (bytes : List ℕ) → AllByRecursion IsByte bytes → bytes_of (digits_of bytes) ≡ bytes
digits_back [] h = refl
digits_back (b ∷ bytes) h = rw (byte_back b h.0, digits_back bytes h.1) refl

pub bytes_back : (bytes : List ℕ) → AllByRecursion IsByte bytes → bytes_of (hex_word bytes) ≡ bytes
bytes_back [] h = refl
bytes_back (b ∷ bytes) h = digits_back (b ∷ bytes) h

word_digits : (bytes : List ℕ) → is_word (digits_of bytes) ≡ true
word_digits [] = refl
word_digits (b ∷ bytes) = both _ _ (above_glyph (b / 16)) (both _ _ (above_glyph (b % 16)) (word_digits bytes))

pub word_hex : (bytes : List ℕ) → is_word (hex_word bytes) ≡ true
word_hex [] = refl
word_hex (b ∷ bytes) = word_digits (b ∷ bytes)
