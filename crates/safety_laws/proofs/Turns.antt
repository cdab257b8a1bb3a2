-- What holds of each first decision, and passes from a decision to the next one, holds of each make.
use Rattle.std.proofs.Common.{◌≡◌, refl, sym, ap, subst, ◌∙◌, inl, inr, ℕ, ◌≤◌, List, [], ◌∷◌, map, arith}
use Rattle.std.specs.List.{AllByRecursion}
use Rattle.tw_machine.specs.Types.{Team, Entry, Decision, Member, Report, Seat, Support}
use Rattle.tw_types.specs.Appending.{raised}
use Rattle.tw_types.specs.Turns.{supported}
use Rattle.tw_machine.specs.History.{Promised, Make}
use Rattle.tw_machine.proofs.Tables.{all_mapped}
use Rattle.tw_types.specs.Items.{In}
use Rattle.safety_laws.specs.Made.{WasMade, WasReported, Follows, ComesFrom, Arises, AsFirst, AsNext, AllArise, IsBeginOf, members}
use Rattle.safety_laws.specs.Once.{SamePair, AllOnce}
use Rattle.safety_laws.proofs.Lists.{of_each, each_weaker}
use Rattle.safety_laws.proofs.NextDecisions.{supported_is}

pub along_turns : (team : Team) (promises : List Promised) (P : Make → Type 0) → ((older : List Make) (m : Make) → m.making.decision.turn ≡ 0 → ComesFrom team promises older m → P m)
    → ((older : List Make) (m b : Make) (last : Decision) → Follows older m last → In b older → b.making.decision ≡ last → P b → P m)
    → (makes : List Make) → AllArise team promises makes → AllByRecursion P makes
along_turns team promises P first next [] all = tt
along_turns team promises P first next (m ∷ older) all = (go all.0 (along_turns team promises P first next older all.1), along_turns team promises P first next older all.1)
  where
    go : Arises team promises older m → AllByRecursion P older → P m
    go (AsFirst turn comes) rest = first older m turn comes
    go (AsNext last f) rest = let b = f.was_made in next older m b.0 last f b.1 b.2 (of_each P older b.0 rest b.1)

-- a group's number is positive
pub all_positive : (team : Team) (promises : List Promised) (makes : List Make) → AllArise team promises makes → AllByRecursion (λ (m : Make). 1 ≤ m.making.decision.group) makes
all_positive team promises = along_turns team promises (λ (m : Make). 1 ≤ m.making.decision.group) (λ older m turn comes. comes.positive)
    (λ older m b last f i same low. let group = f.group in let was : b.making.decision.group ≡ last.group = ap (λ (d : Decision). d.group) same in omega arith)

-- a member of a decision promised its group
abbrev pub IsPromisedSeat : List Promised → ℕ → Seat → Type 0
IsPromisedSeat promises group seat = (x : Promised) × In x promises × (x.promise.number ≡ group) × (x.promise.report.member ≡ seat.member)

of_supported : (P : Member → Type 0) (who : ℕ) (support : Support) (seats : List Seat) → AllByRecursion (λ (s : Seat). P s.member) seats → AllByRecursion (λ (s : Seat). P s.member) (map (supported who support) seats)
of_supported P who support [] all = tt
of_supported P who support (s ∷ seats) all = (subst P (sym (supported_is who support s)) all.0, of_supported P who support seats all.1)

pub seats_promised : (team : Team) (promises : List Promised) (makes : List Make) → AllArise team promises makes → AllByRecursion (λ (m : Make). AllByRecursion (IsPromisedSeat promises m.making.decision.group) m.making.decision.seats.items) makes
seats_promised team promises = along_turns team promises (λ (m : Make). AllByRecursion (IsPromisedSeat promises m.making.decision.group) m.making.decision.seats.items) first next
  where
    first : (older : List Make) (m : Make) → m.making.decision.turn ≡ 0 → ComesFrom team promises older m → AllByRecursion (IsPromisedSeat promises m.making.decision.group) m.making.decision.seats.items
    first older m turn comes =
        each_weaker _ (IsPromisedSeat promises m.making.decision.group) m.making.decision.seats.items
        (λ s k. let x = of_each (WasReported promises m.making.decision.group) m.making.reports k.0 comes.promised k.1 in (x.0, x.1, x.3, ap (λ (r : Report). r.member) x.4 ∙ k.3)) comes.members

    next : (older : List Make) (m b : Make) (last : Decision) → Follows older m last → In b older → b.making.decision ≡ last → AllByRecursion (IsPromisedSeat promises b.making.decision.group) b.making.decision.seats.items
        → AllByRecursion (IsPromisedSeat promises m.making.decision.group) m.making.decision.seats.items
    next older m b last f i same all =
        let was : AllByRecursion (IsPromisedSeat promises last.group) last.seats.items = subst (λ (d : Decision). AllByRecursion (IsPromisedSeat promises d.group) d.seats.items) same all in
        rw (f.seats, f.group) (of_supported (λ member. (x : Promised) × In x promises × (x.promise.number ≡ last.group) × (x.promise.report.member ≡ member)) m.who _ (map (raised f.entries) last.seats.items)
        (all_mapped (IsPromisedSeat promises last.group) (raised f.entries) last.seats.items was))

-- two makes of one pair are one
pub once_same : (makes : List Make) → AllOnce makes → (a b : Make) → In a makes → In b makes → SamePair a b → a ≡ b
once_same [] once a b i j same = absurd i
once_same (m ∷ older) once a b (inl x) (inl y) same = x ∙ sym y
once_same (m ∷ older) once a b (inl x) (inr j) same = absurd (of_each (λ (d : Make). SamePair m d → ⊥) older b once.0 j (subst (λ z. SamePair z b) x same))
once_same (m ∷ older) once a b (inr i) (inl y) same = absurd (of_each (λ (d : Make). SamePair m d → ⊥) older a once.0 i (subst (λ z. SamePair z a) y (sym same.0, sym same.1)))
once_same (m ∷ older) once a b (inr i) (inr j) same = once_same older once.1 a b i j same

supported_members : (who : ℕ) (support : Support) (seats : List Seat) → map (λ (s : Seat). s.member) (map (supported who support) seats) ≡ map (λ (s : Seat). s.member) seats
supported_members who support [] = refl
supported_members who support (s ∷ seats) = let one = supported_is who support s in let more = supported_members who support seats in cc

raised_members : (entries : List Entry) (seats : List Seat) → map (λ (s : Seat). s.member) (map (raised entries) seats) ≡ map (λ (s : Seat). s.member) seats
raised_members entries [] = refl
raised_members entries (s ∷ seats) = ap (λ ms. s.member ∷ ms) (raised_members entries seats)

pub follower_members : (older : List Make) (m : Make) (last : Decision) → Follows older m last → members m.making.decision ≡ members last
follower_members older m last k = ap (λ (seats : List Seat). map (λ (s : Seat). s.member) seats) k.seats ∙ supported_members _ _ (map (raised k.entries) last.seats.items) ∙ raised_members k.entries last.seats.items

-- Each make's group was begun by an older make or by itself.
pub first_of_make : (team : Team) (promises : List Promised) (makes : List Make) → AllArise team promises makes → (m : Make) → In m makes → (k : Make) × In k makes × IsBeginOf m.making.decision k
first_of_make team promises [] all m i = absurd i
first_of_make team promises (x ∷ older) all m (inr i) = let k = first_of_make team promises older all.1 m i in (k.0, inr k.1, k.2)
first_of_make team promises (x ∷ older) all m (inl same) =
    let k = by all.0 (first_of_make team promises older all.1) in
    (k.0, k.1, subst (λ (y : Make). IsBeginOf y.making.decision k.0) (sym same) k.2)
  where
    by : Arises team promises older x → ((m : Make) → In m older → (k : Make) × In k older × IsBeginOf m.making.decision k) → (k : Make) × In k (x ∷ older) × IsBeginOf x.making.decision k
    by (AsFirst first comes) rest = (x, inl refl, record { begins = record { group_is = refl; turn = first }; start = refl; same_members = refl })
    by (AsNext last follows) rest =
        let made = follows.was_made in
        let k = rest made.0 made.1 in
        let first : IsBeginOf last k.0 = subst (λ (d : Decision). IsBeginOf d k.0) made.2 k.2 in (
          k.0,
          inr k.1,
          record {
            begins = record { group_is = first.begins.group_is ∙ sym follows.group; turn = first.begins.turn };
            start = first.start ∙ sym follows.start;
            same_members = first.same_members ∙ sym (follower_members older x last follows);
          },
        )

-- and so was the group of each decision that was made
pub first_of_made : (team : Team) (promises : List Promised) (makes : List Make) → AllArise team promises makes → (d : Decision) → WasMade makes d → (k : Make) × In k makes × IsBeginOf d k
first_of_made team promises makes all d made =
    let k = first_of_make team promises makes all made.0 made.1 in
    (k.0, k.1, subst (λ (x : Decision). IsBeginOf x k.0) made.2 k.2)

-- how a make of the list came about, by the makes behind it
pub arises_of : (team : Team) (promises : List Promised) (makes : List Make) → AllArise team promises makes → (m : Make) → In m makes → (older : List Make) × ((x : Make) → In x older → In x makes) × Arises team promises older m
arises_of team promises [] all m i = absurd i
arises_of team promises (x ∷ makes) all m (inl same) = (makes, (λ y j. inr j), subst (λ z. Arises team promises makes z) (sym same) all.0)
arises_of team promises (x ∷ makes) all m (inr i) = let k = arises_of team promises makes all.1 m i in (k.0, (λ y j. inr (k.1 y j)), k.2)
