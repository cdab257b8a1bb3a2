-- The least of what the seats have, gathered seat by seat.
use Rattle.std.proofs.Common.{◌≡◌, refl, ℕ, ◌+◌, ◌<◌, min, List, ◌∷◌, length, drop, get_or, map, filter_map, Option, Some, None, add-one, ◌∙◌}
use Rattle.std.specs.List.{fold, reduce, cons_option}
use Rattle.std.specs.Option.{option_map}
use Rattle.std.proofs.Math.Seq.{drop-cons}
use Rattle.tw_num.specs.Rate.{lesser}
use Rattle.tw_types.specs.declared.message.Support.{Support}
use Rattle.tw_types.specs.declared.message.Seat.{Seat}
use Rattle.tw_types.specs.Turns.{acks}

-- the least of some numbers and one more, if it is there
abbrev pub joined : Option ℕ → List ℕ → Option ℕ
joined None xs = reduce min xs
joined (Some x) xs = Some (fold min x xs)

abbrev ack_of : Option Support → Option ℕ
ack_of o = option_map (λ (support : Support). support.ack) o

taken_in : (least : Option ℕ) (o : Option Support) (others : List Support) → joined (lesser least (ack_of o)) (map (λ (support : Support). support.ack) others) ≡ joined least (map (λ (support : Support). support.ack) (cons_option o others))
taken_in None None others = refl
taken_in None (Some support) others = refl
taken_in (Some x) None others = refl
taken_in (Some x) (Some support) others = refl

pub one_more : (least : Option ℕ) (seats : List Seat) (i : ℕ) (s : Seat) → i < length seats → joined (lesser least (ack_of (get_or seats i s).support)) (acks (drop (i + 1) seats)) ≡ joined least (acks (drop i seats))
one_more least seats i s inside =
    let rest : drop i seats ≡ get_or seats i s ∷ drop (i + 1) seats = drop-cons seats i s inside ∙ rw (add-one i) refl in
    taken_in least (get_or seats i s).support (filter_map (λ (s : Seat). s.support) (drop (i + 1) seats)) ∙ rw rest refl
