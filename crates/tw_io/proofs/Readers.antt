-- What a reader of lines gives of what it holds.
use Rattle.std.proofs.Common.{take, drop, Some, None, ◌≡◌, refl, sym, ap, ◌∙◌, ℕ, ◌+◌, ◌-◌, ◌<◌, ◌≤◌, List, [], ◌∷◌, ◌++◌, length, arith, append_assoc, nat_eq}
use Rattle.std.specs.List.{position}
use Rattle.std.proofs.lemmas.List.{drop-drop, drop-take, length-take, length-drop, take-append-drop, take-append-le, take_all}
use Rattle.std.proofs.lemmas.Grind.{common_steps}
use Rattle.tw_io.specs.Lines.{lines_of}
use Rattle.tw_io.specs.declared.line_reader.Line.TheVariants as line
use Rattle.tw_io.specs.declared.line_reader.LineReader.{LineReader}
use Rattle.tw_io.specs.LineReader.{held, IsNextLine}
use Rattle.tw_io.proofs.Lines.{lines_of-ended, lines_of-last, lines_of-longer, at_the_line_feed, no_line_feed}

-- how many bytes are held
pub length_of_held : (r : LineReader) → length (held r) ≡ r.end - r.start
length_of_held r = omega (arith, r.order, r.within, length-take (r.end - r.start) (drop r.start r.room.items), length-drop r.start r.room.items)

-- the front of a part of a list, and what is left of it
pub front_of_part : (xs : List ℕ) (i j k : ℕ) → i + k ≤ j → take ((i + k) - i) (drop i xs) ≡ take k (take (j - i) (drop i xs))
front_of_part xs i j k low = grind (arith, common_steps)

pub rest_of_part : (xs : List ℕ) (i j k : ℕ) → i + k ≤ j → take (j - (i + k)) (drop (i + k) xs) ≡ drop k (take (j - i) (drop i xs))
rest_of_part xs i j k low =
    ap (λ z. take (j - (i + k)) z) (sym (drop-drop k i xs)) ∙ sym (drop-take k (j - (i + k)) (drop i xs)) ∙ ap (λ n. drop k (take n (drop i xs))) (omega arith)

glued : (line after rest : List ℕ) → (line ++ 10 ∷ after) ++ rest ≡ line ++ 10 ∷ (after ++ rest)
glued [] after rest = refl
glued (b ∷ line) after rest = ap (λ x. b ∷ x) (glued line after rest)

-- a line that a line feed ends
pub ended_line : (limit : ℕ) (bytes : List ℕ) (i : ℕ) → position (λ b. nat_eq b 10) bytes ≡ Some i
    → (rest : List ℕ) → IsNextLine limit (bytes ++ rest) (Some line.Ended) (take i bytes) (drop (i + 1) bytes ++ rest)
ended_line limit bytes i e rest =
    let at = at_the_line_feed bytes i e in
    let whole : bytes ++ rest ≡ take i bytes ++ 10 ∷ (drop (i + 1) bytes ++ rest) = ap (λ x. x ++ rest) at.1 ∙ glued (take i bytes) (drop (i + 1) bytes) rest in
    (whole, at.0, ap lines_of whole ∙ lines_of-ended (take i bytes) (drop (i + 1) bytes ++ rest) at.0)

-- a line that a line feed ends too late
pub ended_late : (limit : ℕ) (bytes given : List ℕ) (i : ℕ) → position (λ b. nat_eq b 10) bytes ≡ Some i → i < length bytes → limit < i
    → (rest : List ℕ) → IsNextLine limit (bytes ++ rest) (Some line.Longer) given (bytes ++ rest)
ended_late limit bytes given i e low late rest =
    let line = ended_line limit bytes i e rest in
    (refl, take i bytes, lines_of (drop (i + 1) bytes ++ rest), line.2, omega (arith, length-take i bytes))

-- a line that goes on for too long
pub too_long : (limit : ℕ) (bytes given : List ℕ) → position (λ b. nat_eq b 10) bytes ≡ None → limit < length bytes
    → (rest : List ℕ) → IsNextLine limit (bytes ++ rest) (Some line.Longer) given (bytes ++ rest)
too_long limit bytes given e long rest =
    let line = lines_of-longer bytes rest (no_line_feed bytes e) (omega arith) in
    (refl, line.0, line.1, line.2, omega (arith, line.3))

-- the last line
pub last_line : (limit : ℕ) (bytes : List ℕ) → position (λ b. nat_eq b 10) bytes ≡ None → 0 < length bytes → IsNextLine limit bytes (Some line.Last) bytes []
last_line limit bytes e some = (refl, refl, lines_of-last bytes (no_line_feed bytes e) some)

-- the items of a vector that was written over its whole length
pub all_written : (before after : List ℕ) (len : ℕ) → len ≡ length after → take len (after ++ drop (length after) before) ≡ after
all_written before after len e = rw e (take-append-le (length after) after (drop (length after) before) (omega arith) ∙ take_all (length after) after (omega arith))

-- what is held after a piece was put behind it
pub held_behind : (before after piece : List ℕ) (len start end : ℕ) → len ≡ length after → start ≡ 0 → take (end + length piece) after ≡ take end before ++ piece
    → take ((end + length piece) - start) (drop start (take len (after ++ drop (length after) before))) ≡ take (end - start) (drop start before) ++ piece
held_behind before after piece len start end whole e front =
    rw (e, all_written before after len whole) (ap (λ k. take k after) (omega arith) ∙ front ∙ ap (λ k. take k before ++ piece) (omega arith))

-- a text that was read on
pub text_read_on : (before after more bytes : List ℕ) (n : ℕ) → after ≡ before ++ more → more ≡ take n bytes → before ++ bytes ≡ after ++ drop n bytes
text_read_on before after more bytes n a m = rw (a, m) (ap (λ x. before ++ x) (sym (take-append-drop n bytes)) ∙ sym (append_assoc before (take n bytes) (drop n bytes)))
