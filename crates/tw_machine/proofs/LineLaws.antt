-- A line spells one team, and one step; it isn't empty, and has no line feed.
use Rattle.std.proofs.Common.{◌≡◌, ◌≢◌, ℕ, ◌+◌, ◌<◌, ◌≤◌, ◌^◌, ◌/◌, ◌%◌, refl, ap, sym, ◌∙◌, List, [], ◌∷◌, ◌++◌, length, length-append, get_or, drop, map, arith, subst, false, ◌==◌}
use Rattle.std.specs.Prelude.{codes}
use Rattle.std.specs.Fmt.{decimal, digit_glyph}
use Rattle.std.specs.List.{All, AllByRecursion}
use Rattle.std.proofs.lemmas.List.Elements.{All-weaker, recursion_from_All}
use Rattle.std.proofs.lemmas.Bool.Decides.{nat_tests}
use Rattle.tw_machine.specs.Types.{Team, Act, Step, Order, Atom}
use Rattle.tw_types.specs.declared.message.Order.TheVariants.{Unordered, Total, Timed}
use Rattle.tw_types.specs.declared.message.Atom.TheVariants.{Weak, Strong, Strict}
use Rattle.arrayvec.specs.ArrayVec.{ArrayVec}
use Rattle.tw_types.specs.declared.step.Act.TheVariants.{First, Again, Crash, Tick, Recv, Send, Reference, Look}
use Rattle.tw_machine.specs.Grammar.{IsTeamLine, IsStepLine, IsAct, team_fields, step_fields, act_fields, order_word, atom_word, hex_digits, hex_word}
use Rattle.tw_machine.proofs.Lines.{cut, team_cut, step_cut, unequal, feedless_join, plain_numbers, plain_act, plain_decimal}
use Rattle.tw_machine.proofs.LineNumbers.{same_number, same_numbers, numbers_of, small_numbers, team_by, times, small_times}

-- the numbers of a team's line, and the fields of a step's, each twice
same_fields : (line : List ℕ) (a b : List (List ℕ)) → cut line ≡ a → cut line ≡ b → a ≡ b
same_fields line a b p q = sym p ∙ q

pub team_line_once : (line : List ℕ) (a b : Team) → IsTeamLine line a → IsTeamLine line b → a ≡ b
team_line_once line a b p q =
    let fields : map decimal (numbers_of a) ++ [] ≡ map decimal (numbers_of b) ++ [] = ap (drop 1) (same_fields line _ _ (team_cut line a p) (team_cut line b q)) in
    ap team_by (same_numbers (numbers_of a) (numbers_of b) [] [] refl (small_numbers a p.written) (small_numbers b q.written) fields).0

order_once : (a b : Order) → order_word a ≡ order_word b → a ≡ b
order_once Unordered Unordered e = refl
order_once Total Total e = refl
order_once Timed Timed e = refl
order_once Unordered _ e = absurd (omega (arith, ap (λ w. get_or w 1 0) e))
order_once Total _ e = absurd (omega (arith, ap (λ w. get_or w 1 0) e))
order_once Timed _ e = absurd (omega (arith, ap (λ w. get_or w 1 0) e))

atom_once : (a b : Atom) → atom_word a ≡ atom_word b → a ≡ b
atom_once Weak Weak e = refl
atom_once Strong Strong e = refl
atom_once Strict Strict e = refl
atom_once Weak _ e = absurd (omega (arith, ap (λ w. get_or w 3 0) e))
atom_once Strong _ e = absurd (omega (arith, ap (λ w. get_or w 3 0) e))
atom_once Strict _ e = absurd (omega (arith, ap (λ w. get_or w 3 0) e))

glyph_once : (d e : ℕ) → d < 16 → e < 16 → digit_glyph false d ≡ digit_glyph false e → d ≡ e
glyph_once d e l k h = grind (arith, nat_tests)

byte_once : (b c : ℕ) → b < 256 → c < 256 → digit_glyph false (b / 16) ≡ digit_glyph false (c / 16) → digit_glyph false (b % 16) ≡ digit_glyph false (c % 16) → b ≡ c
byte_once b c l k high low =
    let first = glyph_once (b / 16) (c / 16) (omega arith) (omega arith) high in
    let second = glyph_once (b % 16) (c % 16) (omega arith) (omega arith) low in
    omega arith

digits_once : (a b : List ℕ) → AllByRecursion (λ x. x < 256) a → AllByRecursion (λ x. x < 256) b → hex_digits a ≡ hex_digits b → a ≡ b
digits_once [] [] p q e = refl
digits_once [] (c ∷ b) p q e = cc
digits_once (x ∷ a) [] p q e = cc
digits_once (x ∷ a) (c ∷ b) p q e =
    let high : digit_glyph false (x / 16) ≡ digit_glyph false (c / 16) = cc in
    let low : digit_glyph false (x % 16) ≡ digit_glyph false (c % 16) = cc in
    let rest : hex_digits a ≡ hex_digits b = cc in
    let first = byte_once x c p.0 q.0 high low in
    let behind = digits_once a b p.1 q.1 rest in
    cc

pub hex_once : (a b : List ℕ) → AllByRecursion (λ x. x < 256) a → AllByRecursion (λ x. x < 256) b → hex_word a ≡ hex_word b → a ≡ b
hex_once [] [] p q e = refl
hex_once [] (c ∷ b) p q e = cc
hex_once (x ∷ a) [] p q e = cc
hex_once (x ∷ a) (c ∷ b) p q e = digits_once (x ∷ a) (c ∷ b) p q e

-- tells the first words of acts apart
abbrev pub first_tag : List (List ℕ) → ℕ
first_tag fields = get_or (get_or fields 0 []) 0 0 + length (get_or fields 0 [])

act_once : (a b : Act) → IsAct a → IsAct b → act_fields a ≡ act_fields b → a ≡ b
act_once First First x y e = refl
act_once Again Again x y e = refl
act_once Crash Crash x y e = refl
act_once Tick Tick x y e = refl
act_once Look Look x y e = refl
act_once (Recv d) (Recv n) x y e =
    let word : decimal d ≡ decimal n = cc in
    ap Recv (same_number d n (omega (arith, x)) (omega (arith, y)) word)
act_once (Send order atom payload) (Send line kind bytes) x y e =
    let first = order_once order line (cc) in
    let second = atom_once atom kind (cc) in
    let digits : hex_word payload.items ≡ hex_word bytes.items = cc in
    let third : payload ≡ bytes = ap (λ (xs : List ℕ). let v : ArrayVec ℕ = record { items = xs } in v) (hex_once payload.items bytes.items x.1 y.1 digits) in
    cc
act_once (Reference lo hi) (Reference low high) x y e =
    let first : decimal lo ≡ decimal low = cc in
    let second : decimal hi ≡ decimal high = cc in
    let below = same_number lo low (omega (arith, x.0, x.1)) (omega (arith, y.0, y.1)) first in
    let above = same_number hi high x.1 y.1 second in
    cc
act_once First _ x y e = absurd (omega (arith, ap first_tag e))
act_once Again _ x y e = absurd (omega (arith, ap first_tag e))
act_once Crash _ x y e = absurd (omega (arith, ap first_tag e))
act_once Tick _ x y e = absurd (omega (arith, ap first_tag e))
act_once Look _ x y e = absurd (omega (arith, ap first_tag e))
act_once (Recv d) _ x y e = absurd (omega (arith, ap first_tag e))
act_once (Send order atom payload) _ x y e = absurd (omega (arith, ap first_tag e))
act_once (Reference lo hi) _ x y e = absurd (omega (arith, ap first_tag e))

pub step_line_once : (n : ℕ) (line : List ℕ) (a b : Step) → n ≤ 2 ^ 60 → IsStepLine n line a → IsStepLine n line b → a ≡ b
step_line_once n line a b small p q =
    let fields = same_fields line _ _ (step_cut n line a small p) (step_cut n line b small q) in
    let same = same_numbers (times a) (times b) (act_fields a.act) (act_fields b.act) refl (small_times n line a small p) (small_times n line b small q) fields in
    let act = act_once a.act b.act p.act q.act same.1 in
    let moved : a ≡ record b { act = a.act } = ap (λ (xs : List ℕ). let s : Step = record { t = get_or xs 0 0; who = get_or xs 1 0; h = get_or xs 2 0; act = a.act } in s) same.0 in
    moved ∙ ap (λ x. record b { act = x }) act

-- no byte is a line feed, in the form that `slice_split_at` takes
pub team_line_feedless : (line : List ℕ) (team : Team) → IsTeamLine line team → All (λ b. (b == 10) ≡ false) line
team_line_feedless line team h =
    let p = plain_numbers team h.written in
    subst (All (λ b. (b == 10) ≡ false)) (sym h.text) (feedless_join (codes "team") (drop 1 (team_fields team)) p.0 p.1)

pub step_line_feedless : (n : ℕ) (line : List ℕ) (s : Step) → n ≤ 2 ^ 60 → IsStepLine n line s → All (λ b. (b == 10) ≡ false) line
step_line_feedless n line s small h = subst (All (λ b. (b == 10) ≡ false)) (sym h.text) (feedless_join (decimal s.t) (drop 1 (step_fields s)) (plain_decimal s.t h.t) (plain_decimal s.who (omega (arith, h.who)), (plain_decimal s.h h.h, plain_act s.act h.act)))

by_recursion : (line : List ℕ) → All (λ b. (b == 10) ≡ false) line → AllByRecursion (λ b. b ≢ 10) line
by_recursion line h = recursion_from_All (λ b. b ≢ 10) line (All-weaker (λ b. (b == 10) ≡ false) (λ b. b ≢ 10) unequal line h)

pub team_line_is_one_line : (line : List ℕ) (team : Team) → IsTeamLine line team → AllByRecursion (λ b. b ≢ 10) line
team_line_is_one_line line team h = by_recursion line (team_line_feedless line team h)

pub step_line_is_one_line : (n : ℕ) (line : List ℕ) (s : Step) → n ≤ 2 ^ 60 → IsStepLine n line s → AllByRecursion (λ b. b ≢ 10) line
step_line_is_one_line n line s small h = by_recursion line (step_line_feedless n line s small h)

pub team_line_some : (line : List ℕ) (team : Team) → IsTeamLine line team → 0 < length line
team_line_some line team h = omega (arith, ap length h.text)

pub step_line_some : (n : ℕ) (line : List ℕ) (s : Step) → IsStepLine n line s → 0 < length line
step_line_some n line s h = omega (arith, ap length h.text, length-append {A = ℕ})
