-- A text of lines is cut back into its lines, and each line into its fields.
use Rattle.std.proofs.Common.{◌≡◌, ℕ, refl, ap, sym, ◌∙◌, List, [], ◌∷◌, ◌++◌, map, arith, Bool, true, false, ◌==◌, append_assoc}
use Rattle.std.specs.Prelude.{nat_lt}
use Rattle.std.specs.List.{All, AllByRecursion, slice_split, join_with_byte, flat_map}
use Rattle.std.proofs.lemmas.List.{append_cancel_right}
use Rattle.std.proofs.lemmas.List.Elements.{All-weaker, All-append, All-cons}
use Rattle.std.proofs.lemmas.List.Sums.{AllPass-from_list_all}
use Rattle.std.proofs.lemmas.List.Splits.{slice_split_none, slice_split_at}
use Rattle.std.proofs.lemmas.Bool.Decides.{nat_tests}
use Rattle.tw_machine.specs.RowText.{line_of}
use Rattle.tw_machine.proofs.RowWords.{is_word}

abbrev pub AreWords : List (List ℕ) → Type 0
AreWords words = AllByRecursion (λ w. is_word w ≡ true) words

-- one word at least
abbrev pub IsLine : List (List ℕ) → Type 0
IsLine [] = ⊥
IsLine (word ∷ words) = AreWords (word ∷ words)

no_space : (b : ℕ) → nat_lt 32 b ≡ true → (b == 32) ≡ false
no_space b e = grind (arith, nat_tests)

no_feed : (b : ℕ) → nat_lt 32 b ≡ true → (b == 10) ≡ false
no_feed b e = grind (arith, nat_tests)

spaceless : (word : List ℕ) → is_word word ≡ true → All (λ b. (b == 32) ≡ false) word
spaceless word h = All-weaker (λ b. nat_lt 32 b ≡ true) (λ b. (b == 32) ≡ false) no_space word (AllPass-from_list_all (λ b. nat_lt 32 b) word h)

feedless : (word : List ℕ) → is_word word ≡ true → All (λ b. (b == 10) ≡ false) word
feedless word h = All-weaker (λ b. nat_lt 32 b ≡ true) (λ b. (b == 10) ≡ false) no_feed word (AllPass-from_list_all (λ b. nat_lt 32 b) word h)

abbrev joined : List (List ℕ) → List ℕ
joined fields = join_with_byte 32 fields

abbrev fields_in : List ℕ → List (List ℕ)
fields_in line = slice_split (λ b. b == 32) line

abbrev lines_in : List ℕ → List (List ℕ)
lines_in text = slice_split (λ b. b == 10) text

fields_back : (line : List (List ℕ)) → IsLine line → fields_in (joined line) ≡ line
fields_back [] h = absurd h
fields_back (word ∷ []) h = slice_split_none (λ b. b == 32) word (spaceless word h.0)
fields_back (word ∷ next ∷ words) h = slice_split_at (λ b. b == 32) word 32 (joined (next ∷ words)) (spaceless word h.0) refl ∙ ap (λ r. word ∷ r) (fields_back (next ∷ words) h.1)

one_line : (line : List (List ℕ)) → IsLine line → All (λ b. (b == 10) ≡ false) (joined line)
one_line [] h = absurd h
one_line (word ∷ []) h = feedless word h.0
one_line (word ∷ next ∷ words) h = All-append (λ b. (b == 10) ≡ false) word (32 ∷ joined (next ∷ words)) (feedless word h.0)
    (All-cons (λ b. (b == 10) ≡ false) 32 (joined (next ∷ words)) refl (one_line (next ∷ words) h.1))

lines_back : (lines : List (List (List ℕ))) → AllByRecursion IsLine lines → lines_in (flat_map line_of lines) ≡ map joined lines ++ [] ∷ []
lines_back [] h = refl
lines_back (line ∷ lines) h = rw (append_assoc (joined line) (10 ∷ []) (flat_map line_of lines))
    (slice_split_at (λ b. b == 10) (joined line) 10 (flat_map line_of lines) (one_line line h.0) refl ∙ ap (λ r. joined line ∷ r) (lines_back lines h.1))

all_back : (lines : List (List (List ℕ))) → AllByRecursion IsLine lines → map fields_in (map joined lines) ≡ lines
all_back [] h = refl
all_back (line ∷ lines) h = rw (fields_back line h.0, all_back lines h.1) refl

-- one text is that of one list of lines
pub same_lines : (a b : List (List (List ℕ))) → AllByRecursion IsLine a → AllByRecursion IsLine b → flat_map line_of a ≡ flat_map line_of b → a ≡ b
same_lines a b p q e =
    let cut : map joined a ++ [] ∷ [] ≡ map joined b ++ [] ∷ [] = sym (lines_back a p) ∙ ap lines_in e ∙ lines_back b q in
    let same = append_cancel_right (map joined a) (map joined b) ([] ∷ []) cut in
    sym (all_back a p) ∙ ap (λ ls. map fields_in ls) same ∙ all_back b q

-- ---- lists of several kinds of lines

pub over_append : {X : Type 0} (f : X → List ℕ) (xs ys : List X) → flat_map f (xs ++ ys) ≡ flat_map f xs ++ flat_map f ys
over_append f [] ys = refl
over_append f (x ∷ xs) ys = rw (over_append f xs ys) (sym (append_assoc (f x) (flat_map f xs) (flat_map f ys)))

pub over_map : {X Y : Type 0} (f : Y → List ℕ) (g : X → Y) (xs : List X) → flat_map f (map g xs) ≡ flat_map (λ x. f (g x)) xs
over_map f g [] = refl
over_map f g (x ∷ xs) = ap (λ t. f (g x) ++ t) (over_map f g xs)

pub all_over_append : {X : Type 0} (P : X → Type 0) (xs ys : List X) → AllByRecursion P xs → AllByRecursion P ys → AllByRecursion P (xs ++ ys)
all_over_append P [] ys p q = q
all_over_append P (x ∷ xs) ys p q = (p.0, all_over_append P xs ys p.1 q)

pub all_over_map : {X Y : Type 0} (V : X → Type 0) (P : Y → Type 0) (g : X → Y) → ((x : X) → V x → P (g x)) → (xs : List X) → AllByRecursion V xs → AllByRecursion P (map g xs)
all_over_map V P g each [] h = tt
all_over_map V P g each (x ∷ xs) h = (each x h.0, all_over_map V P g each xs h.1)

pub each_over_map : {X Y : Type 0} (P : Y → Type 0) (g : X → Y) → ((x : X) → P (g x)) → (xs : List X) → AllByRecursion P (map g xs)
each_over_map P g each [] = tt
each_over_map P g each (x ∷ xs) = (each x, each_over_map P g each xs)

-- the first item, where there is one, is of another kind
abbrev pub OtherHead : {X : Type 0} → (X → Bool) → List X → Type 0
OtherHead p [] = Unit {0}
OtherHead p (x ∷ xs) = p x ≡ false

pub other_head : {X : Type 0} (p : X → Bool) (xs : List X) → AllByRecursion (λ x. p x ≡ false) xs → OtherHead p xs
other_head p [] h = tt
other_head p (x ∷ xs) h = h.0

-- a list of one kind ends where the first item of another kind stands
pub split_kind : {X : Type 0} (p : X → Bool) (xs ys us vs : List X)
    → AllByRecursion (λ x. p x ≡ true) xs → OtherHead p ys → AllByRecursion (λ x. p x ≡ true) us → OtherHead p vs
    → xs ++ ys ≡ us ++ vs → (xs ≡ us) × (ys ≡ vs)
split_kind p [] ys [] vs a b c d e = (refl, e)
split_kind p [] [] (u ∷ us) vs a b c d e = absurd (cc)
split_kind p [] (y ∷ ys) (u ∷ us) vs a b c d e = let s = c.0 in let same : y ≡ u = cc in absurd (cc (ap p same))
split_kind p (x ∷ xs) ys [] [] a b c d e = absurd (cc)
split_kind p (x ∷ xs) ys [] (v ∷ vs) a b c d e = let t = a.0 in let same : x ≡ v = cc in absurd (cc (ap p same))
split_kind p (x ∷ xs) ys (u ∷ us) vs a b c d e =
    let head : x ≡ u = cc in
    let tail : xs ++ ys ≡ us ++ vs = cc in
    let r = split_kind p xs ys us vs a.1 b c.1 d tail in
    (cc (head, r.0), r.1)

-- lists that are read back item by item
map_back : {X Y : Type 0} (V : X → Type 0) (f : X → Y) (g : Y → X) → ((x : X) → V x → g (f x) ≡ x) → (xs : List X) → AllByRecursion V xs → map g (map f xs) ≡ xs
map_back V f g each [] h = refl
map_back V f g each (x ∷ xs) h = rw (each x h.0, map_back V f g each xs h.1) refl

pub same_items : {X Y : Type 0} (V : X → Type 0) (f : X → Y) (g : Y → X) → ((x : X) → V x → g (f x) ≡ x)
    → (xs ys : List X) → AllByRecursion V xs → AllByRecursion V ys → map f xs ≡ map f ys → xs ≡ ys
same_items V f g each xs ys p q e = sym (map_back V f g each xs p) ∙ ap (λ l. map g l) e ∙ map_back V f g each ys q
