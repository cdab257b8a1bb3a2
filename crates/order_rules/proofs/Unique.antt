-- One entry alone comes next behind those before it.
use Rattle.std.proofs.Common.{◌≡◌, refl, ℕ, ◌+◌, ◌<◌, Bool, true, false, not, cond, List, [], ◌∷◌, length, inl, inr, ◌⊎◌, arith, sym, ap, ◌∙◌, nat_lt, nat_eq}
use Rattle.std.specs.Prelude.{◌&&◌, ◌||◌}
use Rattle.std.specs.List.{Contains}
use Rattle.std.proofs.lemmas.Bool.Decides.{nat_tests}
use Rattle.tw_types.specs.declared.team.Team.{Team}
use Rattle.tw_types.specs.declared.message.Entry.{Entry}
use Rattle.tw_types.specs.declared.message.Kept.{Kept}
use Rattle.tw_types.specs.declared.message.Seat.{Seat}
use Rattle.tw_types.specs.declared.message.Decision.{Decision}
use Rattle.tw_types.specs.Ranges.{Ascends}
use Rattle.tw_types.specs.Decisions.{is_seat_of}
use Rattle.tw_types.specs.Updates.{sender, is_timed, waits_before, WaitInOrder}
use Rattle.tw_types.specs.Appending.{count_of, is_candidate, is_ripe, may_come, goes_before, added_entry, IsNextEntry}
use Rattle.order_rules.proofs.Lists.{in_cases, holds_of, passing, both}

-- ---- which goes first

-- the order of two entries by what it reads: whether each is timed, its stamp, and who sent it
abbrev before_by : (timed timed' : Bool) (stamp stamp' who who' : ℕ) → Bool
before_by timed timed' stamp stamp' who who' =
    cond timed (not timed' || nat_lt stamp stamp' || ((nat_eq stamp stamp') && nat_lt who who')) (not timed' && nat_lt who who')

tied_by : (timed timed' : Bool) (stamp stamp' who who' : ℕ) → before_by timed timed' stamp stamp' who who' ≡ false → before_by timed' timed stamp' stamp who' who ≡ false → who ≡ who'
tied_by true true stamp stamp' who who' a b = grind (arith, nat_tests)
tied_by true false stamp stamp' who who' a b = cc
tied_by false true stamp stamp' who who' a b = cc
tied_by false false stamp stamp' who who' a b = grind (arith, nat_tests)

through_by : (timed timed' timed'' : Bool) (stamp stamp' stamp'' who who' who'' : ℕ) → before_by timed timed' stamp stamp' who who' ≡ true → before_by timed' timed'' stamp' stamp'' who' who'' ≡ true → before_by timed timed'' stamp stamp'' who who'' ≡ true
through_by true true true stamp stamp' stamp'' who who' who'' a b = grind (arith, nat_tests)
through_by true true false stamp stamp' stamp'' who who' who'' a b = refl
through_by true false true stamp stamp' stamp'' who who' who'' a b = cc
through_by true false false stamp stamp' stamp'' who who' who'' a b = refl
through_by false true timed'' stamp stamp' stamp'' who who' who'' a b = cc
through_by false false true stamp stamp' stamp'' who who' who'' a b = cc
through_by false false false stamp stamp' stamp'' who who' who'' a b = grind (arith, nat_tests)

not_itself_by : (timed : Bool) (stamp who : ℕ) → before_by timed timed stamp stamp who who ≡ false
not_itself_by true stamp who = grind (arith, nat_tests)
not_itself_by false stamp who = grind (arith, nat_tests)

-- two entries of which neither goes before the other were sent by one process
pub tied : (a b : Entry) → goes_before a b ≡ false → goes_before b a ≡ false → a.id.who ≡ b.id.who
tied a b = tied_by (is_timed a.order) (is_timed b.order) a.stamp b.stamp a.id.who b.id.who

pub through : (a b c : Entry) → goes_before a b ≡ true → goes_before b c ≡ true → goes_before a c ≡ true
through a b c = through_by (is_timed a.order) (is_timed b.order) (is_timed c.order) a.stamp b.stamp c.stamp a.id.who b.id.who c.id.who

pub not_itself : (e : Entry) → goes_before e e ≡ false
not_itself e = not_itself_by (is_timed e.order) e.stamp e.id.who

-- ---- what is one alone

-- seats that ascend have one for each process
pub one_seat : (seats : List Seat) (a b : Seat) → Ascends seats → Contains seats a → Contains seats b → a.member.who ≡ b.member.who → a ≡ b
one_seat [] a b up in_a in_b same = absurd (omega (arith, in_a.1))
one_seat (s ∷ seats) a b up in_a in_b same = go (in_cases s seats a in_a) (in_cases s seats b in_b) (λ x y. one_seat seats a b up.1 x y same)
  where
    above : (t : Seat) → Contains seats t → s.member.who < t.member.who
    above t c = holds_of (λ (t : Seat). s.member.who < t.member.who) seats t up.0 c

    go : (s ≡ a) ⊎ Contains seats a → (s ≡ b) ⊎ Contains seats b → (Contains seats a → Contains seats b → a ≡ b) → a ≡ b
    go (inl x) (inl y) later = sym x ∙ y
    go (inl x) (inr y) later = (let l = above b y in let e : s.member.who ≡ a.member.who = cc in absurd (omega arith))
    go (inr x) (inl y) later = (let l = above a x in let e : s.member.who ≡ b.member.who = cc in absurd (omega arith))
    go (inr x) (inr y) later = later x y

-- pending updates that wait in order have one for each process and number
pub one_update : (pending : List Kept) (a b : Kept) → WaitInOrder pending → Contains pending a → Contains pending b → a.entry.id.who ≡ b.entry.id.who → a.entry.id.seq ≡ b.entry.id.seq → a ≡ b
one_update [] a b order in_a in_b who seq = absurd (omega (arith, in_a.1))
one_update (k ∷ pending) a b order in_a in_b who seq = go (in_cases k pending a in_a) (in_cases k pending b in_b) (λ x y. one_update pending a b order.1 x y who seq)
  where
    apart : (x y : Kept) → waits_before x y ≡ true → x.entry.id.who ≡ y.entry.id.who → x.entry.id.seq ≡ y.entry.id.seq → ⊥
    apart x y w e f = grind (arith, nat_tests)

    behind : (other : Kept) → Contains pending other → waits_before k other ≡ true
    behind other c = holds_of (λ (other : Kept). waits_before k other ≡ true) pending other order.0 c

    go : (k ≡ a) ⊎ Contains pending a → (k ≡ b) ⊎ Contains pending b → (Contains pending a → Contains pending b → a ≡ b) → a ≡ b
    go (inl x) (inl y) later = sym x ∙ y
    go (inl x) (inr y) later = absurd (apart k b (behind b y) (ap (λ (k : Kept). k.entry.id.who) x ∙ who) (ap (λ (k : Kept). k.entry.id.seq) x ∙ seq))
    go (inr x) (inl y) later = absurd (apart k a (behind a x) (ap (λ (k : Kept). k.entry.id.who) y ∙ sym who) (ap (λ (k : Kept). k.entry.id.seq) y ∙ sym seq))
    go (inr x) (inr y) later = later x y

-- the seat of a candidate's sender, and its number there
pub record IsAtSeat (before : List Entry) (seats : List Seat) (k : Kept) (s : Seat) : Type 0 where
  pub seated : Contains seats s
  pub who : s.member.who ≡ k.entry.id.who
  pub incarnation : s.member.incarnation ≡ k.entry.id.incarnation
  pub seq : k.entry.id.seq ≡ s.next + count_of s.member before

pub seat_of : (d : Decision) (before : List Entry) (k : Kept) → is_candidate d before k ≡ true → (s : Seat) × IsAtSeat before d.seats.items k s
seat_of d before k h =
    let z = passing (λ (s : Seat). is_seat_of (sender k.entry.id) s && (nat_eq k.entry.id.seq (s.next + count_of s.member before))) d.seats.items h in
    (z.0, record { seated = z.1; who = grind (arith, nat_tests); incarnation = grind (arith, nat_tests); seq = grind (arith, nat_tests) })

-- pending updates wait in order, unless there is no seat for which they could
abbrev pub WaitForSeats : Decision → List Kept → Type 0
WaitForSeats d pending = 0 < length d.seats.items → WaitInOrder pending

-- two updates of one process that may come at one place are one
pub one_candidate : (d : Decision) (pending : List Kept) (before : List Entry) (a b : Kept) → Ascends d.seats.items → WaitForSeats d pending → Contains pending a → Contains pending b → is_candidate d before a ≡ true → is_candidate d before b ≡ true → a.entry.id.who ≡ b.entry.id.who → a ≡ b
one_candidate d pending before a b up order in_a in_b can_a can_b same =
    let x = seat_of d before a can_a in
    let y = seat_of d before b can_b in
    let seat : x.0 ≡ y.0 = one_seat d.seats.items x.0 y.0 up x.1.seated y.1.seated (x.1.who ∙ (same ∙ sym y.1.who)) in
    let seq : a.entry.id.seq ≡ b.entry.id.seq = x.1.seq ∙ (ap (λ (s : Seat). s.next + count_of s.member before) seat ∙ sym y.1.seq) in
    one_update pending a b (order (omega (arith, x.1.seated.1))) in_a in_b same seq

-- of two entries that come next behind the same ones neither goes before the other, so they are one
pub one_next : (team : Team) (t : ℕ) (d : Decision) (pending : List Kept) (before : List Entry) (e f : Entry) → Ascends d.seats.items → WaitForSeats d pending → IsNextEntry team t d pending before e → IsNextEntry team t d pending before f → e ≡ f
one_next team t d pending before e f up order x y =
    let P : Kept → Kept → Type 0 = λ u other. may_come team t d before other ≡ true → goes_before other.entry u.entry ≡ false in
    let ahead : goes_before y.update.entry x.update.entry ≡ false = holds_of (P x.update) pending y.update x.first y.waits y.ripe in
    let behind : goes_before x.update.entry y.update.entry ≡ false = holds_of (P y.update) pending x.update y.first x.waits x.ripe in
    let can_x = (both (is_candidate d before x.update) (is_ripe team t x.update.entry) x.ripe).0 in
    let can_y = (both (is_candidate d before y.update) (is_ripe team t y.update.entry) y.ripe).0 in
    let same : x.update ≡ y.update = one_candidate d pending before x.update y.update up order x.waits y.waits can_x can_y (tied x.update.entry y.update.entry behind ahead) in
    x.entry ∙ (ap (added_entry d before) same ∙ sym y.entry)
