-- The lines of a text, taken from its front.
use Rattle.std.proofs.Common.{zero, suc, get_or, take, drop, Some, None, ◌≡◌, ◌≢◌, refl, ap, ◌∙◌, ℕ, ◌+◌, ◌<◌, ◌≤◌, List, [], ◌∷◌, ◌++◌, length, Bool, true, false, cond, arith, nat_eq}
use Rattle.std.specs.List.{onto_first, position, position_or_len}
use Rattle.std.proofs.lemmas.List.{take_all}
use Rattle.std.proofs.lemmas.List.Quantifiers.{position-Some}
use Rattle.std.proofs.lemmas.List.Sums.{fails_before_first, sum_by-cons}
use Rattle.std.proofs.lemmas.Bool.Decides.{nat_tests}
use Rattle.std.specs.Prelude.{nat_lt, count_by}
use Rattle.tw_io.specs.Lines.{lines_of, ended_lines, IsOneLine, IsFirstLine, Ended, Last}

differs : (b : ℕ) → b ≢ 10 → nat_eq b 10 ≡ false
differs b h = grind arith

pub lines_of-ended : (line rest : List ℕ) → IsOneLine line → lines_of (line ++ 10 ∷ rest) ≡ line ∷ lines_of rest
lines_of-ended [] rest h = refl
lines_of-ended (b ∷ line) rest h = rw (differs b h.0, lines_of-ended line rest h.1) refl

pub lines_of-last : (line : List ℕ) → IsOneLine line → 0 < length line → lines_of line ≡ line ∷ []
lines_of-last [] h some = absurd (omega arith)
lines_of-last (b ∷ []) h some = rw (differs b h.0) refl
lines_of-last (b ∷ c ∷ line) h some = rw (differs b h.0, lines_of-last (c ∷ line) h.1 (omega arith)) refl

-- a text that isn't empty has a first line
pub lines_of-some : (bytes : List ℕ) → 0 < length bytes → (line : List ℕ) × (lines : List (List ℕ)) × (lines_of bytes ≡ line ∷ lines)
lines_of-some [] some = absurd (omega arith)
lines_of-some (b ∷ bytes) some = first (nat_eq b 10) (lines_of bytes)
  where
    first : (t : Bool) (after : List (List ℕ)) → (line : List ℕ) × (lines : List (List ℕ)) × (cond t ([] ∷ after) (onto_first b after) ≡ line ∷ lines)
    first true after = ([], after, refl)
    first false [] = (b ∷ [], [], refl)
    first false (line ∷ lines) = (b ∷ line, lines, refl)

-- a line that goes on is at least as long
pub lines_of-longer : (line more : List ℕ) → IsOneLine line → 0 < length line
    → (whole : List ℕ) × (lines : List (List ℕ)) × (lines_of (line ++ more) ≡ whole ∷ lines) × (length line ≤ length whole)
lines_of-longer [] more h some = absurd (omega arith)
lines_of-longer (b ∷ []) more h some = rw (differs b h.0) (first (lines_of more))
  where
    first : (after : List (List ℕ)) → (whole : List ℕ) × (lines : List (List ℕ)) × (onto_first b after ≡ whole ∷ lines) × (1 ≤ length whole)
    first [] = (b ∷ [], [], refl, omega arith)
    first (line ∷ lines) = (b ∷ line, lines, refl, omega arith)
lines_of-longer (b ∷ c ∷ line) more h some =
    let rest = lines_of-longer (c ∷ line) more h.1 (omega arith) in
    (b ∷ rest.0, rest.1, rw (differs b h.0, rest.2) refl, omega (arith, rest.3))

one_line_from : (bytes : List ℕ) (i : ℕ) → ((k : ℕ) → k < i → nat_eq (get_or bytes k 0) 10 ≡ false) → IsOneLine (take i bytes)
one_line_from bytes zero h = tt
one_line_from [] (suc i) h = tt
one_line_from (b ∷ bytes) (suc i) h = (grind (arith, h 0 (omega arith)), one_line_from bytes i (λ k low. h (suc k) (omega arith)))

-- a line stands before the first line feed
pub at_the_line_feed : (bytes : List ℕ) (i : ℕ) → position (λ b. nat_eq b 10) bytes ≡ Some i → IsOneLine (take i bytes) × (bytes ≡ take i bytes ++ 10 ∷ drop (i + 1) bytes)
at_the_line_feed bytes i e =
    let at = position-Some (λ b. nat_eq b 10) bytes i 0 e in
    (one_line_from bytes i at.2, split bytes i at.0 at.1)
  where
    split : (bytes : List ℕ) (i : ℕ) → i < length bytes → nat_eq (get_or bytes i 0) 10 ≡ true → bytes ≡ take i bytes ++ 10 ∷ drop (i + 1) bytes
    split [] i low at = absurd (omega arith)
    split (b ∷ bytes) zero low at = let same : b ≡ 10 = grind arith in ap (λ x. x ∷ bytes) same
    split (b ∷ bytes) (suc i) low at = let more : suc i + 1 ≡ suc (i + 1) = omega arith in rw more (ap (λ x. b ∷ x) (split bytes i (omega arith) at))

-- the first line ends at the first line feed
pub first_line_ended : (bytes : List ℕ) (i : ℕ) → position (λ b. nat_eq b 10) bytes ≡ Some i → IsFirstLine bytes (take i bytes) (drop (i + 1) bytes)
first_line_ended bytes i e = let at = at_the_line_feed bytes i e in Ended at.0 at.1

-- a text without a line feed is one line
pub no_line_feed : (bytes : List ℕ) → position (λ b. nat_eq b 10) bytes ≡ None → IsOneLine bytes
no_line_feed bytes e = rw (take_all (length bytes) bytes (omega arith)) at (one_line_from bytes (length bytes) (λ k low. fails_before_first (λ b. nat_eq b 10) bytes k 0 (omega (arith, past_end (position_or_len (λ b. nat_eq b 10) bytes) (length bytes) e))))
  where
    past_end : (i n : ℕ) → cond (nat_lt i n) (Some i) None ≡ None → n ≤ i
    past_end i n e = grind (arith, nat_tests)

pub first_line_last : (bytes : List ℕ) → 0 < length bytes → position (λ b. nat_eq b 10) bytes ≡ None → IsFirstLine bytes bytes []
first_line_last bytes some e = Last (no_line_feed bytes e) refl refl some

pub nonempty : (bytes : List ℕ) → false ≡ nat_eq (length bytes) 0 → 0 < length bytes
nonempty bytes e = grind (arith, nat_tests)

-- how many line feeds a text has
abbrev feeds : List ℕ → ℕ
feeds bytes = count_by (λ b. nat_eq b 10) bytes

no_feed_more : (b : ℕ) (bytes : List ℕ) → b ≢ 10 → feeds (b ∷ bytes) ≡ feeds bytes
no_feed_more b bytes differ = omega (arith, sum_by-cons one_for b bytes, none (nat_eq b 10) (differs b differ))
  where
    one_for : ℕ → ℕ
    one_for b = cond (nat_eq b 10) 1 0

    none : (t : Bool) → t ≡ false → cond {A = ℕ} t 1 0 ≡ 0
    none true e = cc
    none false e = refl

one_line_feeds : (line : List ℕ) → IsOneLine line → feeds line ≡ 0
one_line_feeds [] h = refl
one_line_feeds (b ∷ line) h = no_feed_more b line h.0 ∙ one_line_feeds line h.1

feeds-ended : (line rest : List ℕ) → IsOneLine line → feeds (line ++ 10 ∷ rest) ≡ suc (feeds rest)
feeds-ended [] rest h = omega (arith, sum_by-cons (λ b. cond (nat_eq b 10) 1 0) 10 rest)
feeds-ended (b ∷ line) rest h = no_feed_more b (line ++ 10 ∷ rest) h.0 ∙ feeds-ended line rest h.1

-- a line with its line feed is the first of the lines up to the last line feed
pub ended_lines-ended : (line rest : List ℕ) → IsOneLine line → ended_lines (line ++ 10 ∷ rest) ≡ line ∷ ended_lines rest
ended_lines-ended line rest h = ap (λ n. take n (lines_of (line ++ 10 ∷ rest))) (feeds-ended line rest h) ∙ ap (λ ls. take (suc (feeds rest)) ls) (lines_of-ended line rest h)

-- a line without one is none of them
pub ended_lines-open : (line : List ℕ) → IsOneLine line → ended_lines line ≡ []
ended_lines-open line h = ap (λ n. take n (lines_of line)) (one_line_feeds line h)
