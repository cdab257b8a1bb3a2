-- The fields of a node's lines.
use Rattle.std.proofs.Common.{◌≡◌, ℕ, ◌<◌, ◌≤◌, refl, ap, sym, ◌∙◌, zero, suc, true, false, ◌&&◌, not, ◌==◌, List, [], ◌∷◌, length, get_or, map, arith, Option, Some, None}
use Rattle.std.specs.Prelude.{codes}
use Rattle.std.specs.Fmt.{decimal}
use Rattle.std.specs.List.{All, AllByRecursion, join_with_byte}
use Rattle.std.proofs.lemmas.Bool.Decides.{nat_tests}
use Rattle.std.proofs.lemmas.List.Folds.{list_all-append}
use Rattle.std.proofs.lemmas.List.Splits.{slice_split_none, slice_split_at, join_with_byte-slice_split}
use Rattle.std.proofs.lemmas.List.Elements.{All-from_get_or, All-from_recursion}
use Rattle.std.proofs.lemmas.Str.Parse.{digit_at}
use Rattle.std.proofs.lemmas.Fmt.{decimal_is_IsNumeral}
use Rattle.tw_machine.specs.Types.{Order, Atom}
use Rattle.tw_machine.specs.Grammar.{order_word, atom_word, hex_word}
use Rattle.tw_machine.specs.NodeRun.{send_text}
use Rattle.tw_machine.specs.NodeText.{Address, IsAddress, ip_text, peer_line, clock_word, clock_line, NamesOne}
use Rattle.tw_machine.proofs.Lines.{cut, parted, cut_join, is_plain, plain_decimal, plain_order, plain_atom, plain_hex}
use Rattle.tw_machine.proofs.LineNumbers.{IsSmall}

pub from_cut : (between : ℕ) (line : List ℕ) (fields : List (List ℕ)) → parted between line ≡ fields → line ≡ join_with_byte between fields
from_cut between line fields e = sym (join_with_byte-slice_split between line) ∙ ap (join_with_byte between) e

-- ---- the four numbers of an address

no_point : (n : ℕ) → n < 256 → All (λ b. (b == 46) ≡ false) (decimal n)
no_point n small =
    let numeral = decimal_is_IsNumeral n (omega arith) in
    All-from_get_or (λ b. (b == 46) ≡ false) (decimal n) 0 (λ i l. let r = digit_at (decimal n) i numeral.0.1 l in digit_only (get_or (decimal n) i 0) (omega arith))
  where
    digit_only : (b : ℕ) → 48 ≤ b → (b == 46) ≡ false
    digit_only b l = grind (arith, nat_tests)

numbers_cut : (n : ℕ) (ns : List ℕ) → AllByRecursion (λ b. b < 256) (n ∷ ns) → parted 46 (ip_text (n ∷ ns)) ≡ map decimal (n ∷ ns)
numbers_cut n [] h = slice_split_none (λ b. b == 46) (decimal n) (no_point n h.0)
numbers_cut n (m ∷ ns) h = slice_split_at (λ b. b == 46) (decimal n) 46 (ip_text (m ∷ ns)) (no_point n h.0) refl ∙ ap (λ r. decimal n ∷ r) (numbers_cut m ns h.1)

pub ip_cut : (word : List ℕ) (ip : List ℕ) → length ip ≡ 4 → AllByRecursion (λ b. b < 256) ip → word ≡ ip_text ip → parted 46 word ≡ map decimal ip
ip_cut word [] four h e = absurd (omega arith)
ip_cut word (n ∷ ns) four h e = ap (parted 46) e ∙ numbers_cut n ns h

pub small_bytes : (ip : List ℕ) → AllByRecursion (λ b. b < 256) ip → All IsSmall ip
small_bytes ip h = All-from_recursion IsSmall ip (go ip h)
  where
    go : (ip : List ℕ) → AllByRecursion (λ b. b < 256) ip → AllByRecursion IsSmall ip
    go [] h = tt
    go (n ∷ ns) h = (omega (arith, h.0), go ns h.1)

pub byte_at : (ip : List ℕ) → AllByRecursion (λ b. b < 256) ip → (i : ℕ) → get_or ip i 0 < 256
byte_at [] h i = omega arith
byte_at (n ∷ ns) h zero = h.0
byte_at (n ∷ ns) h (suc i) = byte_at ns h.1 i

pub four_cells : (xs : List ℕ) → length xs ≡ 4 → xs ≡ get_or xs 0 0 ∷ get_or xs 1 0 ∷ get_or xs 2 0 ∷ get_or xs 3 0 ∷ []
four_cells (a ∷ b ∷ c ∷ d ∷ []) e = refl
four_cells _ e = absurd (omega arith)

-- ---- where a process is reached

plain_numbers : (n : ℕ) (ns : List ℕ) → AllByRecursion (λ b. b < 256) (n ∷ ns) → is_plain (ip_text (n ∷ ns)) ≡ true
plain_numbers n [] h = plain_decimal n (omega (arith, h.0))
plain_numbers n (m ∷ ns) h =
    list_all-append (λ b. not (b == 32) && not (b == 10)) (decimal n) (46 ∷ ip_text (m ∷ ns)) ∙ rw (plain_decimal n (omega (arith, h.0)), plain_numbers m ns h.1) refl

plain_ip : (ip : List ℕ) → length ip ≡ 4 → AllByRecursion (λ b. b < 256) ip → is_plain (ip_text ip) ≡ true
plain_ip [] four h = absurd (omega arith)
plain_ip (n ∷ ns) four h = plain_numbers n ns h

pub peer_cut : (fields : List (List ℕ)) (line : List ℕ) (who : ℕ) (at : Address) → who < 256 → fields ≡ cut line → line ≡ peer_line who at → IsAddress at
    → fields ≡ codes "peer" ∷ decimal who ∷ ip_text at.ip ∷ decimal at.port ∷ []
peer_cut fields line who at small is e a = is ∙ ap cut e ∙
    cut_join (codes "peer") _ refl (plain_decimal who (omega arith), (plain_ip at.ip a.four a.bytes, (plain_decimal at.port (omega (arith, a.most)), tt)))

-- ---- whose clock is team time

plain_clock : (n : ℕ) (clock : Option ℕ) → n < 256 → NamesOne n clock → is_plain (clock_word clock) ≡ true
plain_clock n None small h = refl
plain_clock n (Some who) small h = plain_decimal who (omega (arith, h))

pub clock_cut : (fields : List (List ℕ)) (line : List ℕ) (n : ℕ) (clock : Option ℕ) → n < 256 → fields ≡ cut line → line ≡ clock_line clock → NamesOne n clock
    → fields ≡ codes "clock" ∷ clock_word clock ∷ []
clock_cut fields line n clock small is e h = is ∙ ap cut e ∙ cut_join (codes "clock") _ refl (plain_clock n clock small h, tt)

-- a word that isn't `none` names a process
pub clock_named : (fields left more : List (List ℕ)) (word named : List ℕ) (n : ℕ) (clock : Option ℕ) → fields ≡ codes "clock" ∷ clock_word clock ∷ [] → fields ≡ word ∷ left → left ≡ named ∷ more
    → (named ≡ codes "none" → ⊥) → NamesOne n clock → (who : ℕ) × (who < n) × (left ≡ decimal who ∷ [])
clock_named fields left more word named n None whole first second other h = absurd (other (let e : named ∷ more ≡ codes "none" ∷ [] = cc in cc))
clock_named fields left more word named n (Some who) whole first second other h = (who, h, cc)

-- ---- an update

pub send_cut : (fields : List (List ℕ)) (line : List ℕ) (order : Order) (atom : Atom) (payload : List ℕ) → fields ≡ cut line → line ≡ send_text order atom payload
    → fields ≡ codes "send" ∷ order_word order ∷ atom_word atom ∷ hex_word payload ∷ []
send_cut fields line order atom payload is e = is ∙ ap cut e ∙ cut_join (codes "send") _ refl (plain_order order, (plain_atom atom, (plain_hex payload, tt)))
