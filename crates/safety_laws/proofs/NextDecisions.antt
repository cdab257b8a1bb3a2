-- What a next decision is, by the one that it follows.
use Rattle.std.proofs.Common.{◌≡◌, ◌||◌, refl, sym, ap, subst, ◌∙◌, inl, inr, ℕ, ◌+◌, ◌-◌, ◌≤◌, max, min, Bool, true, false, cond, nat_eq, nat_lt, List, [], ◌∷◌, ◌++◌, length, map, drop, Option, Some, None, find, slice_get, filter_map, is_some, arith, length-drop, length-append}
use Rattle.std.specs.List.{list_all, list_any, fold, cons_option}
use Rattle.std.specs.Option.{option_or, option_map_or}
use Rattle.std.proofs.lemmas.Bool.Decides.{nat_tests}
use Rattle.tw_machine.specs.Types.{Team, Entry, Decision, Member, Seat, Support}
use Rattle.tw_types.specs.Decisions.{decision_length, is_same_member, is_seat_of}
use Rattle.tw_types.specs.Slots.{seat_after}
use Rattle.tw_types.specs.Appending.{raised, with_appended}
use Rattle.tw_types.specs.Turns.{is_turn, is_next, next_draft, supported, acks, least, raised_low, cut_to, with_own_support, finished, next_decision}
use Rattle.tw_types.specs.Items.{In}
use Rattle.safety_laws.proofs.FirstDecisions.{same_member_of, same_member, or_later}
use Rattle.safety_laws.proofs.Lists.{found_in}

-- ---- the ring

-- whose turn it is has the seat after the last maker's
pub seat_due : (team : Team) (me : Member) (last : Decision) (promised t : ℕ) → is_turn team me (Some last) promised t ≡ true → is_next me last ≡ true
seat_due team me last promised t turn = grind (arith, nat_tests)

pub next_seat : (me : Member) (d : Decision) → is_next me d ≡ true → (seat : Seat) × (seat_after d.maker d.seats.items ≡ Some seat) × (seat.member ≡ me)
next_seat me d e = go (seat_after d.maker d.seats.items) refl e
  where
    go : (o : Option Seat) → seat_after d.maker d.seats.items ≡ o → option_map_or (λ (s : Seat). is_same_member s.member me) o false ≡ true → (seat : Seat) × (seat_after d.maker d.seats.items ≡ Some seat) × (seat.member ≡ me)
    go None is e = absurd (cc)
    go (Some seat) is e = (seat, is, same_member_of seat.member me e)

first_in : (seats : List Seat) (seat : Seat) → slice_get seats 0 ≡ Some seat → In seat seats
first_in [] seat e = absurd (cc)
first_in (x ∷ seats) seat e = inl (cc)

pub after_in : (maker : ℕ) (seats : List Seat) (seat : Seat) → seat_after maker seats ≡ Some seat → In seat seats
after_in maker seats seat e = go (find (λ (s : Seat). nat_lt maker s.member.who) seats) refl e
  where
    go : (o : Option Seat) → find (λ (s : Seat). nat_lt maker s.member.who) seats ≡ o → option_or o (slice_get seats 0) ≡ Some seat → In seat seats
    go None is e = first_in seats seat e
    go (Some x) is e = (found_in (λ (s : Seat). nat_lt maker s.member.who) seats seat (is ∙ e)).0

-- ---- the least of some numbers

fold_below : (x : ℕ) (xs : List ℕ) → fold min x xs ≤ x
fold_below x [] = omega arith
fold_below x (y ∷ xs) = let rest = fold_below (min x y) xs in omega arith

fold_below_each : (start : ℕ) (xs : List ℕ) (x : ℕ) → In x xs → fold min start xs ≤ x
fold_below_each start [] x i = absurd i
fold_below_each start (y ∷ xs) x (inl e) = let rest = fold_below (min start y) xs in omega arith
fold_below_each start (y ∷ xs) x (inr i) = fold_below_each (min start y) xs x i

pub least_below : (xs : List ℕ) (x : ℕ) → In x xs → least xs ≤ x
least_below [] x i = absurd i
least_below (y ∷ xs) x (inl e) = let rest = fold_below y xs in omega arith
least_below (y ∷ xs) x (inr i) = fold_below_each y xs x i

-- ---- the length of its list

-- what a support says stands among the acks
pub told_ack : (seats : List Seat) (seat : Seat) (support : Support) → In seat seats → seat.support ≡ Some support → In support.ack (acks seats)
told_ack [] seat support i e = absurd i
told_ack (x ∷ seats) seat support (inl same) e = let there : x.support ≡ Some support = ap (λ (s : Seat). s.support) (sym same) ∙ e in rw there (inl refl)
told_ack (x ∷ seats) seat support (inr i) e = more x.support (told_ack seats seat support i e)
  where
    more : (o : Option Support) → In support.ack (acks seats) → In support.ack (map (λ (s : Support). s.ack) (cons_option o (filter_map (λ (s : Seat). s.support) seats)))
    more None j = j
    more (Some y) j = inr j

in_acks : (seats : List Seat) (who : ℕ) (support : Support) (seat : Seat) → In seat seats → seat.member.who ≡ who → In support.ack (acks (map (supported who support) seats))
in_acks [] who support seat i mine = absurd i
in_acks (x ∷ seats) who support seat (inl e) mine =
    let same : nat_eq x.member.who who ≡ true = subst (λ (z : Seat). nat_eq z.member.who who ≡ true) e (grind (arith, nat_tests)) in
    rw same (inl refl)
in_acks (x ∷ seats) who support seat (inr i) mine = more (supported who support x).support (in_acks seats who support seat i mine)
  where
    more : (o : Option Support) → In support.ack (acks (map (supported who support) seats)) → In support.ack (map (λ (s : Support). s.ack) (cons_option o (filter_map (λ (s : Seat). s.support) (map (supported who support) seats))))
    more None j = j
    more (Some y) j = inr j

cut_length : (low : ℕ) (d : Decision) → d.low ≤ low → low ≤ decision_length d → decision_length (cut_to low d) ≡ decision_length d
cut_length low d above below =
    let cut : length (drop (low - d.low) d.window.items) ≡ length d.window.items - (low - d.low) = simp length-drop in
    omega (arith, cut)

raised_above : (low : ℕ) (seats : List Seat) → low ≤ raised_low low seats
raised_above low seats = go (list_all (λ (s : Seat). is_some s.support) seats)
  where
    go : (b : Bool) → low ≤ cond b (max low (least (acks seats))) low
    go true = omega arith
    go false = omega arith

raised_below : (low end : ℕ) (seats : List Seat) → low ≤ end → least (acks seats) ≤ end → raised_low low seats ≤ end
raised_below low end seats a b = go (list_all (λ (s : Seat). is_some s.support) seats)
  where
    go : (b : Bool) → cond b (max low (least (acks seats))) low ≤ end
    go true = omega arith
    go false = omega arith

-- a decision whose maker has a seat keeps the length of its draft
finished_length : (draft : Decision) (seat : Seat) → In seat draft.seats.items → seat.member.who ≡ draft.maker → decision_length (finished draft) ≡ decision_length draft
finished_length draft seat i mine =
    let support : Support = record { ack = decision_length draft; at = draft.made } in
    let acked = least_below (acks (map (supported draft.maker support) draft.seats.items)) (decision_length draft) (in_acks draft.seats.items draft.maker support seat i mine) in
    cut_length (raised_low draft.low (with_own_support draft).seats.items) (with_own_support draft)
    (raised_above draft.low (with_own_support draft).seats.items)
    (raised_below draft.low (decision_length draft) (with_own_support draft).seats.items (omega arith) acked)

-- what stands in a list stands, changed, in the list of all that are changed so
pub in_changed : (f : Seat → Seat) (seats : List Seat) (seat : Seat) → In seat seats → In (f seat) (map f seats)
in_changed f [] seat i = absurd i
in_changed f (x ∷ seats) seat (inl e) = inl (ap f e)
in_changed f (x ∷ seats) seat (inr i) = inr (in_changed f seats seat i)

-- and whatever entries are added, a next decision is as long as the last one with them
pub next_length : (entries : List Entry) (last : Decision) (t who : ℕ) (seat : Seat) → In seat last.seats.items → seat.member.who ≡ who → decision_length (next_decision entries last t who) ≡ decision_length (with_appended entries (next_draft last t who))
next_length entries last t who seat i mine = finished_length (with_appended entries (next_draft last t who)) (raised entries seat) (in_changed (raised entries) last.seats.items seat i) mine

-- which is longer than that by the entries
pub appended_length : (entries : List Entry) (d : Decision) → decision_length (with_appended entries d) ≡ decision_length d + length entries
appended_length entries d = let all : length (d.window.items ++ entries) ≡ length d.window.items + length entries = simp length-append in omega (arith, all)

-- ---- its seats

-- the supports that an equal length and an equal process give
pub same_supported : (seats : List Seat) (who who' ack ack' at : ℕ) → who ≡ who' → ack ≡ ack' → map (supported who (record { ack = ack; at = at })) seats ≡ map (supported who' (record { ack = ack'; at = at })) seats
same_supported seats who who' ack ack' at e f = rw (e, f) refl

pub any_in : {X : Type 0} (t : X → Bool) (xs : List X) → list_any t xs ≡ true → (x : X) × In x xs × (t x ≡ true)
any_in {X = X} t [] e = absurd (cc)
any_in {X = X} t (x ∷ xs) e = go (t x) refl e (any_in t xs)
  where
    go : (b : Bool) → t x ≡ b → (b || list_any t xs) ≡ true → (list_any t xs ≡ true → (y : X) × In y xs × (t y ≡ true)) → (y : X) × In y (x ∷ xs) × (t y ≡ true)
    go true test e rest = (x, inl refl, test)
    go false test e rest = let k = rest e in (k.0, inr k.1, k.2)

pub has_seat_of : (seats : List Seat) (m : Member) (seat : Seat) → In seat seats → seat.member ≡ m → list_any (is_seat_of m) seats ≡ true
has_seat_of [] m seat i e = absurd i
has_seat_of (x ∷ seats) m seat (inl same) e = let here : x.member ≡ m = ap (λ (z : Seat). z.member) (sym same) ∙ e in rw (here, same_member m) refl
has_seat_of (x ∷ seats) m seat (inr i) e = or_later (is_seat_of m x) (list_any (is_seat_of m) seats) (has_seat_of seats m seat i e)

pub supported_is : (who : ℕ) (support : Support) (seat : Seat) → (supported who support seat).member ≡ seat.member
supported_is who support seat = go (nat_eq seat.member.who who)
  where
    go : (b : Bool) → (cond b (record seat { support = Some support }) seat).member ≡ seat.member
    go true = refl
    go false = refl

pub seat_stays : (who : ℕ) (support : Support) (seats : List Seat) (m : Member) (seat : Seat) → In seat seats → seat.member ≡ m → list_any (is_seat_of m) (map (supported who support) seats) ≡ true
seat_stays who support seats m seat i e = has_seat_of (map (supported who support) seats) m (supported who support seat) (in_changed (supported who support) seats seat i) (supported_is who support seat ∙ e)
