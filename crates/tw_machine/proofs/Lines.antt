-- The fields of a line, cut at each space.
use Rattle.std.proofs.Common.{◌≡◌, ℕ, ◌+◌, ◌-◌, ◌<◌, ◌≤◌, ◌^◌, ◌/◌, ◌%◌, ◌≢◌, refl, ap, sym, ◌∙◌, List, [], ◌∷◌, length, get_or, take, drop, arith, subst, Bool, true, false, cond, ◌&&◌, not, ◌==◌, Some, None, ltb}
use Rattle.std.specs.Fmt.{decimal, digit_glyph}
use Rattle.std.specs.List.{AllByRecursion, list_all, slice_split, join_with_byte, position, before_first, after_first, All}
use Rattle.std.proofs.lemmas.List.{drop-drop}
use Rattle.std.proofs.lemmas.List.Splits.{slice_split_none, slice_split_at, slice_split_first}
use Rattle.std.proofs.lemmas.List.Sums.{fails_before_first, AllPass-from_list_all, list_all-from_AllPass}
use Rattle.std.proofs.lemmas.List.Elements.{All-weaker, All-append, All-cons, All-from_get_or}
use Rattle.std.proofs.lemmas.Str.Parse.{digit_at}
use Rattle.std.proofs.lemmas.Fmt.{decimal_is_IsNumeral}
use Rattle.tw_machine.specs.Types.{Team, Act, Step, Order, Atom}
use Rattle.tw_types.specs.declared.message.Order.TheVariants.{Unordered, Total, Timed}
use Rattle.tw_types.specs.declared.message.Atom.TheVariants.{Weak, Strong, Strict}
use Rattle.tw_types.specs.declared.step.Act.TheVariants.{First, Again, Crash, Tick, Recv, Send, Reference, Look}
use Rattle.tw_machine.specs.Grammar.{IsTeamLine, IsStepLine, IsWritten, IsAct, team_fields, step_fields, act_fields, order_word, atom_word, hex_digits, hex_word}
use Rattle.std.proofs.lemmas.Bool.Decides.{nat_tests}
use Rattle.std.proofs.lemmas.Grind.{common_steps}

abbrev pub cut : List ℕ → List (List ℕ)
cut line = slice_split (λ b. b == 32) line

space_at : (rest : List ℕ) (end p : ℕ) → cond (ltb p (length rest)) (Some p) None ≡ Some end → (p ≡ end) × (end < length rest)
space_at rest end p e = (grind (arith, nat_tests), grind (arith, nat_tests))

no_space : (rest : List ℕ) (p : ℕ) → cond (ltb p (length rest)) (Some p) None ≡ None → length rest ≤ p
no_space rest p e = grind (arith, nat_tests)

take_rest : (rest : List ℕ) (k : ℕ) → take (length rest - k) (drop k rest) ≡ drop k rest
take_rest rest k = grind (arith, common_steps)

-- the parts of a text that one byte parts
abbrev pub parted : ℕ → List ℕ → List (List ℕ)
parted s text = slice_split (λ b. b == s) text

pub first_word : (s : ℕ) (rest word after : List ℕ) (end : ℕ) → position (λ b. b == s) rest ≡ Some end → word ≡ take end rest → after ≡ drop end rest → parted s rest ≡ word ∷ parted s (take (length after - 1) (drop 1 after))
first_word s rest word after end e is is_after =
    let at = space_at rest end _ e in
    let first : parted s rest ≡ before_first (λ b. b == s) rest ∷ parted s (after_first (λ b. b == s) rest) = slice_split_first (λ b. b == s) rest 0 (omega (arith, at.0, at.1)) in
    let found = subst (λ k. parted s rest ≡ take k rest ∷ parted s (drop (k + 1) rest)) at.0 first in
    let back : drop (end + 1) rest ≡ take (length after - 1) (drop 1 after) = sym (take_rest after 1 ∙ ap (drop 1) is_after ∙ drop-drop 1 end rest) in
    found ∙ cc

pub last_word : (s : ℕ) (rest : List ℕ) → position (λ b. b == s) rest ≡ None → parted s rest ≡ rest ∷ []
last_word s rest e =
    let l = no_space rest _ e in
    slice_split_none (λ b. b == s) rest (λ k d h. fails_before_first (λ b. b == s) rest k d (omega (arith, l)))

-- a word with no space and no line feed
abbrev pub is_plain : List ℕ → Bool
is_plain word = list_all (λ b. not (b == 32) && not (b == 10)) word

abbrev pub ArePlain : List (List ℕ) → Type 0
ArePlain words = AllByRecursion (λ w. is_plain w ≡ true) words

no_space_byte : (b : ℕ) → (not (b == 32) && not (b == 10)) ≡ true → (b == 32) ≡ false
no_space_byte b e = grind (arith, nat_tests)

no_feed_byte : (b : ℕ) → (not (b == 32) && not (b == 10)) ≡ true → (b == 10) ≡ false
no_feed_byte b e = grind (arith, nat_tests)

plain_byte : (b : ℕ) → 48 ≤ b → (not (b == 32) && not (b == 10)) ≡ true
plain_byte b l = grind (arith, nat_tests)

pub unequal : (b : ℕ) → (b == 10) ≡ false → b ≢ 10
unequal b e = λ h. grind (arith, nat_tests)

spaceless : (word : List ℕ) → is_plain word ≡ true → All (λ b. (b == 32) ≡ false) word
spaceless word h = All-weaker (λ b. (not (b == 32) && not (b == 10)) ≡ true) (λ b. (b == 32) ≡ false) no_space_byte word (AllPass-from_list_all (λ b. not (b == 32) && not (b == 10)) word h)

feedless : (word : List ℕ) → is_plain word ≡ true → All (λ b. (b == 10) ≡ false) word
feedless word h = All-weaker (λ b. (not (b == 32) && not (b == 10)) ≡ true) (λ b. (b == 10) ≡ false) no_feed_byte word (AllPass-from_list_all (λ b. not (b == 32) && not (b == 10)) word h)

pub plain_decimal : (n : ℕ) → n < 2 ^ 60 → is_plain (decimal n) ≡ true
plain_decimal n small =
    let numeral = decimal_is_IsNumeral n (omega arith) in
    list_all-from_AllPass (λ b. not (b == 32) && not (b == 10)) (decimal n) (All-from_get_or (λ b. (not (b == 32) && not (b == 10)) ≡ true) (decimal n) 0 (λ i l. let r = digit_at (decimal n) i numeral.0.1 l in plain_byte (get_or (decimal n) i 0) (omega arith)))

-- plain words are the fields of their line
pub cut_join : (word : List ℕ) (words : List (List ℕ)) → is_plain word ≡ true → ArePlain words → cut (join_with_byte 32 (word ∷ words)) ≡ word ∷ words
cut_join word [] h hs = slice_split_none (λ b. b == 32) word (spaceless word h)
cut_join word (next ∷ words) h hs = slice_split_at (λ b. b == 32) word 32 (join_with_byte 32 (next ∷ words)) (spaceless word h) refl ∙ ap (λ r. word ∷ r) (cut_join next words hs.0 hs.1)

pub feedless_join : (word : List ℕ) (words : List (List ℕ)) → is_plain word ≡ true → ArePlain words → All (λ b. (b == 10) ≡ false) (join_with_byte 32 (word ∷ words))
feedless_join word [] h hs = feedless word h
feedless_join word (next ∷ words) h hs = All-append (λ b. (b == 10) ≡ false) word (32 ∷ join_with_byte 32 (next ∷ words)) (feedless word h) (All-cons (λ b. (b == 10) ≡ false) 32 (join_with_byte 32 (next ∷ words)) refl (feedless_join next words hs.0 hs.1))

pub plain_numbers : (team : Team) → IsWritten team → ArePlain (team_fields team)
plain_numbers team w = (refl, (plain_decimal team.n (omega (arith, w.n)), (plain_decimal team.line (omega (arith, w.line)), (plain_decimal _ w.ppm, (plain_decimal _ w.eps, (plain_decimal _ w.delta, (plain_decimal _ w.pace, (plain_decimal _ w.decide, (plain_decimal _ w.ring, (plain_decimal _ w.slot, (plain_decimal _ w.lease, (plain_decimal _ w.quarantine, (plain_decimal _ w.theta, tt)))))))))))))

pub plain_order : (order : Order) → is_plain (order_word order) ≡ true
plain_order Unordered = refl
plain_order Total = refl
plain_order Timed = refl

pub plain_atom : (atom : Atom) → is_plain (atom_word atom) ≡ true
plain_atom Weak = refl
plain_atom Strong = refl
plain_atom Strict = refl

plain_glyph : (d : ℕ) → (not (digit_glyph false d == 32) && not (digit_glyph false d == 10)) ≡ true
plain_glyph d = plain_byte (digit_glyph false d) (grind (arith, nat_tests))

plain_digits : (bytes : List ℕ) → is_plain (hex_digits bytes) ≡ true
plain_digits [] = refl
plain_digits (b ∷ bytes) = rw (plain_glyph (b / 16), plain_glyph (b % 16)) (plain_digits bytes)

pub plain_hex : (bytes : List ℕ) → is_plain (hex_word bytes) ≡ true
plain_hex [] = refl
plain_hex (b ∷ bytes) = plain_digits (b ∷ bytes)

pub plain_act : (act : Act) → IsAct act → ArePlain (act_fields act)
plain_act First a = (refl, tt)
plain_act Again a = (refl, tt)
plain_act Crash a = (refl, tt)
plain_act Tick a = (refl, tt)
plain_act (Recv d) a = (refl, (plain_decimal d (omega (arith, a)), tt))
plain_act (Send order atom payload) a = (refl, (plain_order order, (plain_atom atom, (plain_hex payload.items, tt))))
plain_act (Reference lo hi) a = (refl, (plain_decimal lo (omega (arith, a.0, a.1)), (plain_decimal hi a.1, tt)))
plain_act Look a = (refl, tt)

-- the fields of a team's line
pub team_cut : (line : List ℕ) (team : Team) → IsTeamLine line team → cut line ≡ team_fields team
team_cut line team h = let p = plain_numbers team h.written in ap cut h.text ∙ cut_join _ _ p.0 p.1

pub step_cut : (n : ℕ) (line : List ℕ) (s : Step) → n ≤ 2 ^ 60 → IsStepLine n line s → cut line ≡ step_fields s
step_cut n line s small h = ap cut h.text ∙ cut_join (decimal s.t) _ (plain_decimal s.t h.t) (plain_decimal s.who (omega (arith, h.who)), (plain_decimal s.h h.h, plain_act s.act h.act))
