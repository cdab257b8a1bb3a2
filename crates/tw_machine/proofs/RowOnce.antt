-- Two rows that can be printed have one text only where they are one row.
use Rattle.std.proofs.Common.{◌≡◌, ℕ, refl, ap, sym, ◌∙◌, append_assoc, List, [], ◌∷◌, ◌++◌, get_or, drop, map, Bool, true, false, Option, Some, None}
use Rattle.std.specs.Prelude.{codes}
use Rattle.std.specs.Fmt.{decimal}
use Rattle.std.specs.List.{AllByRecursion, flat_map}
use Rattle.std.proofs.lemmas.List.{append-nil}
use Rattle.tw_machine.specs.Types.{Member, RowAnswer}
use Rattle.tw_types.specs.Row.{Made, Pass, Sending, Entry, Row}
use Rattle.tw_types.specs.Row as row
use Rattle.tw_machine.specs.RowText.{line_of, member_text, flag_text, reading_text, answer_words, made_line, pass_line, early_line, send_line, entry_line, lines_below, row_line, row_text, text_of}
use Rattle.tw_machine.specs.RowLimits.{MemberFits, MadeFits, PassFits, UpdateFits, SendingFits, EntryFits, RowFits}
use Rattle.tw_machine.proofs.RowWords.{number_of, number_back, first_digit, word_decimal, pair_text, part_at, pair_first, pair_second, word_pair, member_of, member_back, word_member}
use Rattle.tw_machine.proofs.RowLines.{AreWords, IsLine, same_lines, over_append, over_map, all_over_append, all_over_map, each_over_map, OtherHead, other_head, split_kind, same_items}
use Rattle.tw_machine.proofs.RowFields.{word_at, same_word, not_a_plus, flag_of, flag_back, word_flag, answer_of, answer_back, words_answer, reading_of, reading_back, word_reading, pass_fields, pass_of, pass_back, words_pass, early_fields, early_of, early_back, words_early, send_fields, send_of, send_back, words_send, entry_fields, entry_of, entry_back, words_entry}

abbrev Lines : Type 0
Lines = List (List (List ℕ))

-- ---- the decision that was made

abbrev made_fields : Made → List (List ℕ)
made_fields m = codes "+" ∷ codes "made" ∷ pair_text m.group m.turn ∷ codes "start" ∷ decimal m.start ∷ codes "low" ∷ decimal m.low
    ∷ codes "len" ∷ decimal m.length ∷ codes "members" ∷ map member_text m.members

abbrev made_of : List (List ℕ) → Made
made_of f = record {
  group = part_at 0 (word_at 2 f);
  turn = part_at 1 (word_at 2 f);
  start = number_of (word_at 4 f);
  low = number_of (word_at 6 f);
  length = number_of (word_at 8 f);
  members = map member_of (drop 10 f);
}

same_made : (a b c d e f g h i j : ℕ) (k l : List Member) → a ≡ b → c ≡ d → e ≡ f → g ≡ h → i ≡ j → k ≡ l
    → let x : Made = record { group = a; turn = c; start = e; low = g; length = i; members = k } in
    let y : Made = record { group = b; turn = d; start = f; low = h; length = j; members = l } in x ≡ y
same_made a b c d e f g h i j k l p q r s t u = cc

members_back : (ms : List Member) → AllByRecursion MemberFits ms → map member_of (map member_text ms) ≡ ms
members_back [] h = refl
members_back (m ∷ ms) h = rw (member_back m h.0, members_back ms h.1) refl

made_back : (m : Made) → MadeFits (Some m) → made_of (made_fields m) ≡ m
made_back m f = same_made _ m.group _ m.turn _ m.start _ m.low _ m.length _ m.members
    (pair_first m.group m.turn f.0 f.1) (pair_second m.group m.turn f.0 f.1) (number_back m.start f.2) (number_back m.low f.3) (number_back m.length f.4) (members_back m.members f.5)

words_made : (m : Made) → MadeFits (Some m) → AreWords (made_fields m)
words_made m f = (
  refl,
  (
    refl,
    (
      word_pair m.group m.turn f.0 f.1,
      (
        refl,
        (
          word_decimal m.start f.2,
          (
            refl,
            (
              word_decimal m.low f.3,
              (
                refl,
                (
                  word_decimal m.length f.4,
                  (
                    refl,
                    all_over_map MemberFits _ member_text word_member m.members f.5,
                  ),
                ),
              ),
            ),
          ),
        ),
      ),
    ),
  ),
)

abbrev made_lines : Option Made → Lines
made_lines None = []
made_lines (Some m) = made_fields m ∷ []

abbrev made_in : Lines → Option Made
made_in [] = None
made_in (f ∷ fs) = Some (made_of f)

made_lines_back : (m : Option Made) → MadeFits m → made_in (made_lines m) ≡ m
made_lines_back None h = refl
made_lines_back (Some m) h = ap Some (made_back m h)

made_text : (m : Option Made) → made_line m ≡ flat_map line_of (made_lines m)
made_text None = refl
made_text (Some m) = sym (append-nil (line_of (made_fields m)))

are_made : (m : Option Made) → MadeFits m → AllByRecursion IsLine (made_lines m)
are_made None h = tt
are_made (Some m) h = (words_made m h, tt)

-- ---- all lines

abbrev row_fields : Row → List (List ℕ)
row_fields r = decimal r.step ∷ decimal r.who ∷ decimal r.incarnation ∷ reading_text r.reading ∷ flag_text r.up
    ∷ pair_text r.group r.turn ∷ decimal r.length ∷ decimal r.passed ∷ answer_words r.answer

abbrev from_entries : Row → Lines
from_entries r = map entry_fields r.entries

abbrev from_sends : Row → Lines
from_sends r = map send_fields r.sends ++ from_entries r

abbrev from_earlies : Row → Lines
from_earlies r = map early_fields r.earlies ++ from_sends r

abbrev from_passes : Row → Lines
from_passes r = map pass_fields r.passes ++ from_earlies r

abbrev below : Row → Lines
below r = made_lines r.made ++ from_passes r

-- one line after the other
in_a_row : (r : Row) → lines_below r ≡ made_line r.made ++ (flat_map pass_line r.passes ++ (flat_map early_line r.earlies ++ (flat_map send_line r.sends ++ flat_map entry_line r.entries)))
in_a_row r = append_assoc (made_line r.made) _ _ ∙ ap (λ t. made_line r.made ++ t) (append_assoc (flat_map pass_line r.passes) (flat_map early_line r.earlies) _)

text_below : (r : Row) → lines_below r ≡ flat_map line_of (below r)
text_below r = in_a_row r ∙ rw (
  over_append line_of (made_lines r.made) (from_passes r),
  over_append line_of (map pass_fields r.passes) (from_earlies r),
  over_append line_of (map early_fields r.earlies) (from_sends r),
  over_append line_of (map send_fields r.sends) (from_entries r),
  over_map line_of pass_fields r.passes,
  over_map line_of early_fields r.earlies,
  over_map line_of send_fields r.sends,
  over_map line_of entry_fields r.entries,
  ← made_text r.made,
) refl

are_lines : (r : Row) → RowFits r → AllByRecursion IsLine (row_fields r ∷ below r)
are_lines r f =
    let entries = all_over_map EntryFits IsLine entry_fields words_entry r.entries f.entries in
    let sends = all_over_append IsLine (map send_fields r.sends) (from_entries r) (all_over_map SendingFits IsLine send_fields words_send r.sends f.sends) entries in
    let earlies = all_over_append IsLine (map early_fields r.earlies) (from_sends r) (all_over_map UpdateFits IsLine early_fields words_early r.earlies f.earlies) sends in
    let passes = all_over_append IsLine (map pass_fields r.passes) (from_earlies r) (all_over_map PassFits IsLine pass_fields words_pass r.passes f.passes) earlies in (
      (
        word_decimal r.step f.step,
        (
          word_decimal r.who f.who,
          (
            word_decimal r.incarnation f.incarnation,
            (
              word_reading r.reading f.reading,
              (
                word_flag r.up,
                (word_pair r.group r.turn f.group f.turn, (word_decimal r.length f.length, (word_decimal r.passed f.passed, words_answer r.answer f.answer))),
              ),
            ),
          ),
        ),
      ),
      all_over_append IsLine (made_lines r.made) (from_passes r) (are_made r.made f.made) passes,
    )

same_fields : (a b : Row) → RowFits a → RowFits b → row_text a ≡ row_text b → row_fields a ∷ below a ≡ row_fields b ∷ below b
same_fields a b p q e = same_lines (row_fields a ∷ below a) (row_fields b ∷ below b) (are_lines a p) (are_lines b q)
    (ap (λ t. row_line a ++ t) (sym (text_below a)) ∙ e ∙ ap (λ t. row_line b ++ t) (text_below b))

-- ---- lines of one kind

abbrev is_kind : List ℕ → List (List ℕ) → Bool
is_kind word fields = same_word (word_at 1 fields) word

abbrev Is : List ℕ → List (List ℕ) → Type 0
Is word fields = is_kind word fields ≡ true

abbrev IsNot : List ℕ → List (List ℕ) → Type 0
IsNot word fields = is_kind word fields ≡ false

is_made : (m : Option Made) → AllByRecursion (Is (codes "made")) (made_lines m)
is_made None = tt
is_made (Some m) = (refl, tt)

no_made : (r : Row) → AllByRecursion (IsNot (codes "made")) (from_passes r)
no_made r = all_over_append (IsNot (codes "made")) (map pass_fields r.passes) (from_earlies r) (each_over_map (IsNot (codes "made")) pass_fields (λ x. refl) r.passes)
    (all_over_append (IsNot (codes "made")) (map early_fields r.earlies) (from_sends r) (each_over_map (IsNot (codes "made")) early_fields (λ x. refl) r.earlies)
    (all_over_append (IsNot (codes "made")) (map send_fields r.sends) (from_entries r) (each_over_map (IsNot (codes "made")) send_fields (λ x. refl) r.sends)
    (each_over_map (IsNot (codes "made")) entry_fields (λ x. refl) r.entries)))

no_pass : (r : Row) → AllByRecursion (IsNot (codes "pass")) (from_earlies r)
no_pass r = all_over_append (IsNot (codes "pass")) (map early_fields r.earlies) (from_sends r) (each_over_map (IsNot (codes "pass")) early_fields (λ x. refl) r.earlies)
    (all_over_append (IsNot (codes "pass")) (map send_fields r.sends) (from_entries r) (each_over_map (IsNot (codes "pass")) send_fields (λ x. refl) r.sends)
    (each_over_map (IsNot (codes "pass")) entry_fields (λ x. refl) r.entries))

no_early : (r : Row) → AllByRecursion (IsNot (codes "early")) (from_sends r)
no_early r = all_over_append (IsNot (codes "early")) (map send_fields r.sends) (from_entries r) (each_over_map (IsNot (codes "early")) send_fields (λ x. refl) r.sends)
    (each_over_map (IsNot (codes "early")) entry_fields (λ x. refl) r.entries)

no_send : (r : Row) → AllByRecursion (IsNot (codes "send")) (from_entries r)
no_send r = each_over_map (IsNot (codes "send")) entry_fields (λ x. refl) r.entries

no_made_first : (r : Row) → OtherHead (is_kind (codes "made")) (from_passes r)
no_made_first r = other_head (is_kind (codes "made")) (from_passes r) (no_made r)

no_pass_first : (r : Row) → OtherHead (is_kind (codes "pass")) (from_earlies r)
no_pass_first r = other_head (is_kind (codes "pass")) (from_earlies r) (no_pass r)

no_early_first : (r : Row) → OtherHead (is_kind (codes "early")) (from_sends r)
no_early_first r = other_head (is_kind (codes "early")) (from_sends r) (no_early r)

no_send_first : (r : Row) → OtherHead (is_kind (codes "send")) (from_entries r)
no_send_first r = other_head (is_kind (codes "send")) (from_entries r) (no_send r)

-- what happened in the two steps is the same
record SameBelow (a b : Row) : Type 0 where
  made : a.made ≡ b.made
  passes : a.passes ≡ b.passes
  earlies : a.earlies ≡ b.earlies
  sends : a.sends ≡ b.sends
  entries : a.entries ≡ b.entries

same_below : (a b : Row) → RowFits a → RowFits b → below a ≡ below b → SameBelow a b
same_below a b p q e =
    let one = split_kind (is_kind (codes "made")) (made_lines a.made) (from_passes a) (made_lines b.made) (from_passes b) (is_made a.made) (no_made_first a) (is_made b.made) (no_made_first b) e in
    let two = split_kind (is_kind (codes "pass")) (map pass_fields a.passes) (from_earlies a) (map pass_fields b.passes) (from_earlies b)
    (each_over_map (Is (codes "pass")) pass_fields (λ x. refl) a.passes) (no_pass_first a) (each_over_map (Is (codes "pass")) pass_fields (λ x. refl) b.passes) (no_pass_first b) one.1 in
    let three = split_kind (is_kind (codes "early")) (map early_fields a.earlies) (from_sends a) (map early_fields b.earlies) (from_sends b)
    (each_over_map (Is (codes "early")) early_fields (λ x. refl) a.earlies) (no_early_first a) (each_over_map (Is (codes "early")) early_fields (λ x. refl) b.earlies) (no_early_first b) two.1 in
    let four = split_kind (is_kind (codes "send")) (map send_fields a.sends) (from_entries a) (map send_fields b.sends) (from_entries b)
    (each_over_map (Is (codes "send")) send_fields (λ x. refl) a.sends) (no_send_first a) (each_over_map (Is (codes "send")) send_fields (λ x. refl) b.sends) (no_send_first b) three.1 in
    record {
      made = sym (made_lines_back a.made p.made) ∙ ap made_in one.0 ∙ made_lines_back b.made q.made;
      passes = same_items PassFits pass_fields pass_of pass_back a.passes b.passes p.passes q.passes two.0;
      earlies = same_items UpdateFits early_fields early_of early_back a.earlies b.earlies p.earlies q.earlies three.0;
      sends = same_items SendingFits send_fields send_of send_back a.sends b.sends p.sends q.sends four.0;
      entries = same_items EntryFits entry_fields entry_of entry_back a.entries b.entries p.entries q.entries four.1;
    }

-- ---- the first line

-- the row of a first line and of all that happened
abbrev row_of : List (List ℕ) → Option Made → List Pass → List row.Update → List Sending → List Entry → Row
row_of f made passes earlies sends entries = record {
  step = number_of (word_at 0 f);
  who = number_of (word_at 1 f);
  incarnation = number_of (word_at 2 f);
  reading = reading_of (word_at 3 f);
  up = flag_of (word_at 4 f);
  group = part_at 0 (word_at 5 f);
  turn = part_at 1 (word_at 5 f);
  length = number_of (word_at 6 f);
  passed = number_of (word_at 7 f);
  answer = answer_of (drop 8 f);
  made = made;
  passes = passes;
  earlies = earlies;
  sends = sends;
  entries = entries;
}

same_row : (r : Row) (a b c g h i j : ℕ) (d : Option ℕ) (e : Bool) (k : RowAnswer)
    → a ≡ r.step → b ≡ r.who → c ≡ r.incarnation → d ≡ r.reading → e ≡ r.up → g ≡ r.group → h ≡ r.turn → i ≡ r.length → j ≡ r.passed → k ≡ r.answer
    → record r { step = a; who = b; incarnation = c; reading = d; up = e; group = g; turn = h; length = i; passed = j; answer = k } ≡ r
same_row r a b c g h i j d e k p1 p2 p3 p4 p5 p6 p7 p8 p9 p10 = rw (p1, p2, p3, p4, p5, p6, p7, p8, p9, p10) refl

row_back : (r : Row) → RowFits r → row_of (row_fields r) r.made r.passes r.earlies r.sends r.entries ≡ r
row_back r f = same_row r _ _ _ _ _ _ _ _ _ _
    (number_back r.step f.step) (number_back r.who f.who) (number_back r.incarnation f.incarnation) (reading_back r.reading f.reading) (flag_back r.up)
    (pair_first r.group r.turn f.group f.turn) (pair_second r.group r.turn f.group f.turn) (number_back r.length f.length) (number_back r.passed f.passed) (answer_back r.answer f.answer)

same_parts : (f g : List (List ℕ)) (m n : Option Made) (p q : List Pass) (e h : List row.Update) (s t : List Sending) (c d : List Entry)
    → f ≡ g → m ≡ n → p ≡ q → e ≡ h → s ≡ t → c ≡ d → row_of f m p e s c ≡ row_of g n q h t d
same_parts f g m n p q e h s t c d p1 p2 p3 p4 p5 p6 = ap (λ x. row_of x m p e s c) p1 ∙ ap (λ x. row_of g x p e s c) p2 ∙ ap (λ x. row_of g n x e s c) p3
    ∙ ap (λ x. row_of g n q x s c) p4 ∙ ap (λ x. row_of g n q h x c) p5 ∙ ap (λ x. row_of g n q h t x) p6

row_by_lines : (a b : Row) → RowFits a → RowFits b → row_fields a ≡ row_fields b → below a ≡ below b → a ≡ b
row_by_lines a b p q first e =
    let s = same_below a b p q e in
    sym (row_back a p) ∙ same_parts _ _ _ _ _ _ _ _ _ _ _ _ first s.made s.passes s.earlies s.sends s.entries ∙ row_back b q

pub row_once : (a b : Row) → RowFits a → RowFits b → row_text a ≡ row_text b → a ≡ b
row_once a b p q e =
    let fields = same_fields a b p q e in
    row_by_lines a b p q (ap (λ ls. get_or ls 0 []) fields) (ap (λ ls. drop 1 ls) fields)

-- ---- rows, one after the other

abbrev lines_of_rows : List Row → Lines
lines_of_rows rows = flat_map (λ r. row_fields r ∷ below r) rows

rows_text : (rows : List Row) → text_of rows ≡ flat_map line_of (lines_of_rows rows)
rows_text [] = refl
rows_text (r ∷ rows) = rw (text_below r, rows_text rows, over_append line_of (row_fields r ∷ below r) (lines_of_rows rows)) refl

are_all_lines : (rows : List Row) → AllByRecursion RowFits rows → AllByRecursion IsLine (lines_of_rows rows)
are_all_lines [] h = tt
are_all_lines (r ∷ rows) h = all_over_append IsLine (row_fields r ∷ below r) (lines_of_rows rows) (are_lines r h.0) (are_all_lines rows h.1)

-- a line below a row's first begins with a plus
abbrev is_below : List (List ℕ) → Bool
is_below fields = same_word (word_at 0 fields) (codes "+")

abbrev IsBelow : List (List ℕ) → Type 0
IsBelow fields = is_below fields ≡ true

made_is_below : (m : Option Made) → AllByRecursion IsBelow (made_lines m)
made_is_below None = tt
made_is_below (Some m) = (refl, tt)

all_below : (r : Row) → AllByRecursion IsBelow (below r)
all_below r = all_over_append IsBelow (made_lines r.made) (from_passes r) (made_is_below r.made)
    (all_over_append IsBelow (map pass_fields r.passes) (from_earlies r) (each_over_map IsBelow pass_fields (λ x. refl) r.passes)
    (all_over_append IsBelow (map early_fields r.earlies) (from_sends r) (each_over_map IsBelow early_fields (λ x. refl) r.earlies)
    (all_over_append IsBelow (map send_fields r.sends) (from_entries r) (each_over_map IsBelow send_fields (λ x. refl) r.sends)
    (each_over_map IsBelow entry_fields (λ x. refl) r.entries))))

next_is_first : (rows : List Row) → AllByRecursion RowFits rows → OtherHead is_below (lines_of_rows rows)
next_is_first [] h = tt
next_is_first (r ∷ rows) h = not_a_plus (decimal r.step) (first_digit r.step h.0.step)

same_rows : (a b : List Row) → AllByRecursion RowFits a → AllByRecursion RowFits b → lines_of_rows a ≡ lines_of_rows b → a ≡ b
same_rows [] [] p q e = refl
same_rows [] (b ∷ bs) p q e = cc
same_rows (a ∷ rest) [] p q e = cc
same_rows (a ∷ rest) (b ∷ bs) p q e =
    let first : row_fields a ≡ row_fields b = ap (λ ls. get_or ls 0 []) e in
    let after : below a ++ lines_of_rows rest ≡ below b ++ lines_of_rows bs = ap (λ ls. drop 1 ls) e in
    let two = split_kind is_below (below a) (lines_of_rows rest) (below b) (lines_of_rows bs) (all_below a) (next_is_first rest p.1) (all_below b) (next_is_first bs q.1) after in
    let head = row_by_lines a b p.0 q.0 first two.0 in
    let tail = same_rows rest bs p.1 q.1 two.1 in
    cc (head, tail)

pub rows_once : (a b : List Row) → AllByRecursion RowFits a → AllByRecursion RowFits b → text_of a ≡ text_of b → a ≡ b
rows_once a b p q e = same_rows a b p q (same_lines (lines_of_rows a) (lines_of_rows b) (are_all_lines a p) (are_all_lines b q) (sym (rows_text a) ∙ e ∙ rows_text b))
