-- A store of sent datagrams with one more.
use Rattle.std.proofs.Common.{zero, suc, take, drop, ◌≡◌, refl, sym, ap, ◌∙◌, ℕ, ◌+◌, ◌-◌, ◌<◌, ◌≤◌, List, [], ◌∷◌, ◌++◌, length, map, Bool, true, false, not, ◌&&◌, nat_lt, arith}
use Rattle.std.specs.Prelude.{slice_set}
use Rattle.std.proofs.lemmas.List.{drop-take, length-take-le, take-append-le, take_all}
use Rattle.std.proofs.lemmas.Bool.Decides.{nat_tests}
use Rattle.std.proofs.lemmas.Grind.{common_steps}
use Rattle.tw_io.specs.declared.addr.Addr.{Addr}
use Rattle.tw_io.specs.declared.outbox.Kept.{Kept}
use Rattle.tw_io.specs.Outbox.{all_within, sent_in}

-- the front of a list up to an item that was set
one_more_set : {X : Type 0} (xs : List X) (i : ℕ) (x : X) → i < length xs → take (i + 1) (slice_set xs i x) ≡ take i xs ++ x ∷ []
one_more_set [] i x low = absurd (omega arith)
one_more_set (y ∷ ys) zero x low = refl
one_more_set (y ∷ ys) (suc i) x low =
    let more : suc i + 1 ≡ suc (i + 1) = omega arith in
    rw more (ap (λ z. y ∷ z) (one_more_set ys i x (omega arith)))

both : (a b : Bool) → (a && b) ≡ true → (a ≡ true) × (b ≡ true)
both true b h = (refl, h)
both false b h = absurd (grind arith)

joined : (a b : Bool) → a ≡ true → b ≡ true → (a && b) ≡ true
joined a b h i = rw (h, i) refl

low_of : (used n : ℕ) → not (nat_lt used n) ≡ true → n ≤ used
low_of used n h = grind (arith, nat_tests)

of_low : (used n : ℕ) → n ≤ used → not (nat_lt used n) ≡ true
of_low used n h = grind (arith, nat_tests)

-- what stands among the first bytes still does with one more behind it
one_more_within : (used n : ℕ) (xs : List Kept) (k : Kept) → all_within used xs ≡ true → k.start + k.len ≤ used + n → all_within (used + n) (xs ++ k ∷ []) ≡ true
one_more_within used n [] k h low = joined (not (nat_lt (used + n) (k.start + k.len))) true (of_low (used + n) (k.start + k.len) low) refl
one_more_within used n (x ∷ xs) k h low =
    let parts = both (not (nat_lt used (x.start + x.len))) (all_within used xs) h in
    joined (not (nat_lt (used + n) (x.start + x.len))) (all_within (used + n) (xs ++ k ∷ [])) (of_low (used + n) (x.start + x.len) (omega (arith, low_of used (x.start + x.len) parts.0))) (one_more_within used n xs k parts.1 low)

pub still_within : (items : List Kept) (count used n : ℕ) (k : Kept) → count < length items → all_within used (take count items) ≡ true → k.start + k.len ≤ used + n
    → all_within (used + n) (take (count + 1) (slice_set items count k)) ≡ true
still_within items count used n k low h within = rw (one_more_set items count k low) (one_more_within used n (take count items) k h within)

-- a part that stands among the first bytes
part_of_front : (used start len : ℕ) (room : List ℕ) → start + len ≤ used → take len (drop start room) ≡ take len (drop start (take used room))
part_of_front used start len room low =
    let cut : used ≡ start + (used - start) = omega arith in
    let front : drop start (take used room) ≡ take (used - start) (drop start room) = ap (λ n. drop start (take n room)) cut ∙ drop-take start (used - start) room in
    let fewer : len ≤ used - start = omega arith in
    within (used - start) (drop start room) fewer ∙ ap (λ z. take len z) (sym front)
  where
    within : (m : ℕ) (ys : List ℕ) → len ≤ m → take len ys ≡ take len (take m ys)
    within m ys fewer = grind (arith, common_steps)

same_sends : (used : ℕ) (room after : List ℕ) (xs : List Kept) → all_within used xs ≡ true → take used after ≡ take used room → map (sent_in after) xs ≡ map (sent_in room) xs
same_sends used room after [] h e = refl
same_sends used room after (k ∷ xs) h e =
    let parts = both (not (nat_lt used (k.start + k.len))) (all_within used xs) h in
    let low = low_of used (k.start + k.len) parts.0 in
    let same : take k.len (drop k.start after) ≡ take k.len (drop k.start room) = part_of_front used k.start k.len after low ∙ ap (λ z. take k.len (drop k.start z)) e ∙ sym (part_of_front used k.start k.len room low) in
    ap (λ (z : List ℕ). record { number = k.number; to = k.to; bytes = z } ∷ map (sent_in after) xs) same ∙ ap (λ z. sent_in room k ∷ z) (same_sends used room after xs parts.1 e)

mapped : (room : List ℕ) (xs : List Kept) (k : Kept) → map (sent_in room) (xs ++ k ∷ []) ≡ map (sent_in room) xs ++ sent_in room k ∷ []
mapped room [] k = refl
mapped room (x ∷ xs) k = ap (λ z. sent_in room x ∷ z) (mapped room xs k)

front_kept : (used n : ℕ) (room after bytes : List ℕ) → used ≤ length room → take (used + n) after ≡ take used room ++ bytes → take used after ≡ take used room
front_kept used n room after bytes low e = shorter ∙ ap (λ z. take used z) e ∙ whole (take used room) (length-take-le used room low)
  where
    shorter : take used after ≡ take used (take (used + n) after)
    shorter = grind (arith, common_steps)

    whole : (ys : List ℕ) → length ys ≡ used → take used (ys ++ bytes) ≡ ys
    whole ys h = take-append-le used ys bytes (omega arith) ∙ take_all used ys (omega arith)

dropped : (ys bytes : List ℕ) → drop (length ys) (ys ++ bytes) ≡ bytes
dropped [] bytes = refl
dropped (y ∷ ys) bytes = dropped ys bytes

bytes_kept : (used n : ℕ) (room after bytes : List ℕ) → used ≤ length room → take (used + n) after ≡ take used room ++ bytes → take n (drop used after) ≡ bytes
bytes_kept used n room after bytes low e =
    sym (drop-take used n after) ∙ ap (λ z. drop used z) e ∙ ap (λ m. drop m (take used room ++ bytes)) (sym (length-take-le used room low)) ∙ dropped (take used room) bytes

-- the datagrams, with one more
pub one_more_sent : (items : List Kept) (count used n : ℕ) (room after bytes : List ℕ) (number : ℕ) (to : Addr) → count < length items → all_within used (take count items) ≡ true
    → used ≤ length room → take (used + n) after ≡ take used room ++ bytes
    → map (sent_in after) (take (count + 1) (slice_set items count (record { number = number; to = to; start = used; len = n }))) ≡ map (sent_in room) (take count items) ++ record { number = number; to = to; bytes = bytes } ∷ []
one_more_sent items count used n room after bytes number to low h within e =
    let k : Kept = record { number = number; to = to; start = used; len = n } in
    ap (λ z. map (sent_in after) z) (one_more_set items count k low)
    ∙ mapped after (take count items) k
    ∙ ap (λ z. z ++ sent_in after k ∷ []) (same_sends used room after (take count items) h (front_kept used n room after bytes within e))
    ∙ ap (λ (z : List ℕ). map (sent_in room) (take count items) ++ record { number = number; to = to; bytes = z } ∷ []) (bytes_kept used n room after bytes within e)
