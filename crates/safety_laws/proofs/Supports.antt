-- Supports are of decisions: of each make by how it came about, so without an induction over a schedule.
use Rattle.std.proofs.Common.{◌≡◌, ◌≢◌, refl, sym, ap, subst, ◌∙◌, inl, inr, Bool, true, false, cond, nat_eq, List, [], ◌∷◌, map, Some, None, arith}
use Rattle.std.specs.List.{AllByRecursion, IsDistinct}
use Rattle.std.proofs.lemmas.Map.Keys.{IsDistinct-head, IsDistinct-tail}
use Rattle.std.proofs.lemmas.Bool.Decides.{nat_tests}
use Rattle.tw_machine.specs.Types.{Team, Decision, Member, Seat, Support}
use Rattle.tw_types.specs.Decisions.{decision_length}
use Rattle.tw_types.specs.Appending.{raised}
use Rattle.tw_types.specs.Turns.{supported}
use Rattle.tw_machine.specs.History.{Promised, Make}
use Rattle.tw_types.specs.Items.{In}
use Rattle.safety_laws.specs.Made.{Follows, ComesFrom, Arises, AsFirst, AsNext, AllArise}
use Rattle.safety_laws.specs.Supports.{IsMakeOf, IsSupported, AllSupported}
use Rattle.safety_laws.proofs.Lists.{of_each, each_weaker, each_from}
use Rattle.safety_laws.proofs.NextDecisions.{after_in}
use Rattle.safety_laws.proofs.Groups.{are_majority}
use Rattle.safety_laws.proofs.Quorums.{supported_at}

of_itself : (makes : List Make) (m : Make) (seat : Seat) (support : Support) → In m makes → m.member ≡ seat.member → support ≡ record { ack = decision_length m.making.decision; at = m.making.decision.made } → (d : Make) × In d makes × IsMakeOf m seat support d
of_itself makes m seat support i member is = (m, i, record { member = member; group = refl; turn = omega arith; at = ap (λ (s : Support). s.at) (sym is); ack = ap (λ (s : Support). s.ack) (sym is) })

some_same : {X : Type 0} {a b : X} → Some a ≡ Some b → a ≡ b
some_same e = cc

-- the seats of a first decision
first_supported : (team : Team) (promises : List Promised) (older : List Make) (m : Make) → ComesFrom team promises older m → AllByRecursion (IsSupported (m ∷ older) m) m.making.decision.seats.items
first_supported team promises older m comes = each_weaker (λ (s : Seat). s.support ≢ None → (s.member ≡ m.member) × (s.support ≡ Some (record { ack = decision_length m.making.decision; at = m.making.decision.made }))) (IsSupported (m ∷ older) m) m.making.decision.seats.items
    (λ seat k support is. let own = k (λ none. let no : Some support ≡ None = sym is ∙ none in cc) in of_itself (m ∷ older) m seat support (inl refl) (sym own.0) (some_same (sym is ∙ own.1))) comes.supports

-- a support of the decision before stands in the next one
carried_on : (older : List Make) (m b : Make) (last : Decision) (seat : Seat) (support : Support) → (f : Follows older m last) → b.making.decision ≡ last → (d : Make) × In d older × IsMakeOf b seat support d
    → (d : Make) × In d (m ∷ older) × IsMakeOf m (raised f.entries seat) support d
carried_on older m b last seat support f same (d, i, k) = (
  d,
  inr i,
  record {
    member = k.member;
    group = k.group ∙ ap (λ (z : Decision). z.group) same ∙ sym f.group;
    turn = let low = k.turn in let turn = f.turn in let was = ap (λ (z : Decision). z.turn) same in omega (arith, was);
    at = k.at;
    ack = k.ack;
  },
)

-- of seats of different processes the one of the maker's process is the maker's
abbrev AreApart : List Seat → Type 0
AreApart seats = (a b : Seat) → In a seats → In b seats → a.member.who ≡ b.member.who → a.member ≡ b.member

next_supported : (older : List Make) (m b : Make) (last : Decision) → Follows older m last → b.making.decision ≡ last → m.member.who ≡ m.who → AreApart last.seats.items
    → AllByRecursion (IsSupported older b) last.seats.items → AllByRecursion (IsSupported (m ∷ older) m) m.making.decision.seats.items
next_supported older m b last f same name apart all =
    subst (AllByRecursion (IsSupported (m ∷ older) m)) (sym f.seats) (go last.seats.items (λ seat i. i) all)
  where
    own : Support
    own = record { ack = decision_length m.making.decision; at = m.making.decision.made }

    one : (seat : Seat) → In seat last.seats.items → IsSupported older b seat → IsSupported (m ∷ older) m (supported m.who own (raised f.entries seat))
    one seat i k = by_test (nat_eq seat.member.who m.who) refl
      where
        by_test : (mine : Bool) → nat_eq seat.member.who m.who ≡ mine → IsSupported (m ∷ older) m (cond mine (record (raised f.entries seat) { support = Some own }) (raised f.entries seat))
        by_test true e support is =
            let ring = f.ring in
            let who : seat.member.who ≡ ring.0.member.who = (let w : seat.member.who ≡ m.who = grind (arith, nat_tests) in w) ∙ sym name ∙ ap (λ (z : Member). z.who) (sym ring.2) in
            let member : seat.member ≡ m.member = apart seat ring.0 i (after_in last.maker last.seats.items ring.0 ring.1) who ∙ ring.2 in
            of_itself (m ∷ older) m (record (raised f.entries seat) { support = Some own }) support (inl refl) (sym member) (some_same (sym is))
        by_test false e support is = carried_on older m b last seat support f same (k support is)

    go : (seats : List Seat) → ((seat : Seat) → In seat seats → In seat last.seats.items) → AllByRecursion (IsSupported older b) seats → AllByRecursion (IsSupported (m ∷ older) m) (map (supported m.who own) (map (raised f.entries) seats))
    go [] within k = tt
    go (seat ∷ seats) within k = (one seat (within seat (inl refl)) k.0, go seats (λ s i. within s (inr i)) k.1)

-- seats of different processes are told apart by them
from_map : (z : Seat) (seats : List Seat) → AllByRecursion (λ q. nat_eq z.member.who q ≡ false) (map (λ (s : Seat). s.member.who) seats) → AllByRecursion (λ (s : Seat). nat_eq z.member.who s.member.who ≡ false) seats
from_map z [] all = tt
from_map z (s ∷ seats) all = (all.0, from_map z seats all.1)

not_later : (z c : Seat) (seats : List Seat) → IsDistinct nat_eq (z.member.who ∷ map (λ (s : Seat). s.member.who) seats) → In c seats → z.member.who ≡ c.member.who → ⊥
not_later z c seats d k e =
    let f = of_each (λ (s : Seat). nat_eq z.member.who s.member.who ≡ false) seats c (from_map z seats (IsDistinct-head nat_eq z.member.who (map (λ (s : Seat). s.member.who) seats) d)) k in
    let t : nat_eq z.member.who c.member.who ≡ true = grind (arith, nat_tests) in
    cc

apart_by : (seats : List Seat) → IsDistinct nat_eq (map (λ (s : Seat). s.member.who) seats) → AreApart seats
apart_by [] d a b i j same = absurd i
apart_by (x ∷ seats) d a b (inl p) (inl q) same = ap (λ (s : Seat). s.member) (p ∙ sym q)
apart_by (x ∷ seats) d a b (inl p) (inr j) same = absurd (not_later x b seats d j (sym (ap (λ (s : Seat). s.member.who) p) ∙ same))
apart_by (x ∷ seats) d a b (inr i) (inl q) same = absurd (not_later x a seats d i (sym (ap (λ (s : Seat). s.member.who) q) ∙ sym same))
apart_by (x ∷ seats) d a b (inr i) (inr j) same = apart_by seats (IsDistinct-tail nat_eq x.member.who (map (λ (s : Seat). s.member.who) seats) d) a b i j same

pub all_supported : (team : Team) (promises : List Promised) (makes : List Make) → AllArise team promises makes → AllByRecursion (λ (m : Make). m.member.who ≡ m.who) makes → AllSupported makes
all_supported team promises [] all names = tt
all_supported team promises (m ∷ older) all names = (go all.0 (all_supported team promises older all.1 names.1), all_supported team promises older all.1 names.1)
  where
    go : Arises team promises older m → AllSupported older → AllByRecursion (IsSupported (m ∷ older) m) m.making.decision.seats.items
    go (AsFirst turn comes) rest = first_supported team promises older m comes
    go (AsNext last f) rest =
        let b = f.was_made in
        let apart : AreApart last.seats.items = subst (λ (d : Decision). AreApart d.seats.items) b.2 (apart_by b.0.making.decision.seats.items (are_majority team promises older all.1 b.0 b.1).distinct) in
        let stood : AllByRecursion (IsSupported older b.0) last.seats.items = subst (λ (d : Decision). AllByRecursion (IsSupported older b.0) d.seats.items) b.2 (each_from (IsSupported older b.0) b.0.making.decision.seats.items (λ seat i support is. supported_at older b.0 rest b.1 seat i support is)) in
        next_supported older m b.0 last f b.2 names.0 apart stood
