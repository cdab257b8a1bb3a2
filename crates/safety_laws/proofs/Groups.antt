-- Makes of one group: each has a first one, which came of a ballot, with its start and its members.
use Rattle.std.proofs.Common.{◌≡◌, refl, sym, ap, subst, ◌∙◌, inl, inr, suc, ◌<◌, true, List, [], ◌∷◌, map}
use Rattle.std.specs.List.{AllByRecursion, list_any}
use Rattle.std.proofs.lemmas.Bool.{or_cases}
use Rattle.std.proofs.lemmas.List.{length-map}
use Rattle.tw_machine.specs.Types.{Team, Decision, Member, Report, Seat}
use Rattle.tw_types.specs.Decisions.{is_seat_of, has_seat}
use Rattle.tw_types.specs.Reports.{is_consistent}
use Rattle.tw_machine.specs.History.{Promised, Make}
use Rattle.tw_machine.proofs.Tables.{all_mapped}
use Rattle.tw_types.specs.Items.{In}
use Rattle.tw_types.proofs.Appended.{of_map}
use Rattle.safety_laws.specs.Made.{members, ComesFrom, Arises, AsFirst, AsNext, AllArise, WasMade}
use Rattle.safety_laws.specs.Once.{AllOnce}
use Rattle.safety_laws.proofs.Counting.{IsMajority}
use Rattle.safety_laws.proofs.FirstDecisions.{same_member_of}
use Rattle.safety_laws.proofs.Lists.{of_each, each_weaker}
use Rattle.safety_laws.proofs.NextDecisions.{has_seat_of}
use Rattle.safety_laws.proofs.Turns.{first_of_make, arises_of, once_same, first_of_made}

-- ---- the first make of a group

-- it came of a ballot
pub record ComesAt (team : Team) (promises : List Promised) (makes : List Make) (m : Make) : Type 0 where
  pub older : List Make
  pub within : (x : Make) → In x older → In x makes
  pub comes : ComesFrom team promises older m

pub comes_at : (team : Team) (promises : List Promised) (makes : List Make) (m : Make) → AllArise team promises makes → In m makes → m.making.decision.turn ≡ 0 → ComesAt team promises makes m
comes_at team promises makes m arise i turn = by (arises_of team promises makes arise m i)
  where
    later : (last : Decision) → m.making.decision.turn ≡ suc last.turn → ⊥
    later last e = cc

    by : (older : List Make) × ((x : Make) → In x older → In x makes) × Arises team promises older m → ComesAt team promises makes m
    by (older, within, AsFirst t c) = record { older = older; within = within; comes = c }
    by (older, within, AsNext last f) = absurd (later last f.turn)

-- the first make of the group of m, with the start and the members of m
pub record HasFirst (team : Team) (promises : List Promised) (makes : List Make) (m : Make) : Type 0 where
  pub first : Make
  pub among : In first makes
  pub turn : first.making.decision.turn ≡ 0
  pub at : ComesAt team promises makes first
  pub group : first.making.decision.group ≡ m.making.decision.group
  pub start : first.making.decision.start ≡ m.making.decision.start
  pub same_members : members first.making.decision ≡ members m.making.decision

pub has_first : (team : Team) (promises : List Promised) (makes : List Make) → AllArise team promises makes → (m : Make) → In m makes → HasFirst team promises makes m
has_first team promises makes arise m i =
    let k = first_of_make team promises makes arise m i in
    record {
      first = k.0;
      among = k.1;
      turn = k.2.begins.turn;
      at = comes_at team promises makes k.0 arise k.1 k.2.begins.turn;
      group = k.2.begins.group_is;
      start = k.2.start;
      same_members = k.2.same_members;
    }

-- ---- members

-- the processes of a decision's seats are those of its members
processes_of : (seats : List Seat) → map (λ (s : Seat). s.member.who) seats ≡ map (λ (m : Member). m.who) (map (λ (s : Seat). s.member) seats)
processes_of [] = refl
processes_of (s ∷ seats) = ap (λ xs. s.member.who ∷ xs) (processes_of seats)

same_processes : (a b : Decision) → members a ≡ members b → map (λ (s : Seat). s.member.who) a.seats.items ≡ map (λ (s : Seat). s.member.who) b.seats.items
same_processes a b e = processes_of a.seats.items ∙ ap (λ ms. map (λ (m : Member). m.who) ms) e ∙ sym (processes_of b.seats.items)

seats_of_reports : (team : Team) (promises : List Promised) (older : List Make) (m : Make) → ComesFrom team promises older m → AllByRecursion (λ (s : Seat). s.member.who < team.n) m.making.decision.seats.items
seats_of_reports team promises older m c =
    each_weaker (λ (s : Seat). (r : Report) × In r m.making.reports × (is_consistent m.making.before r ≡ true) × (r.member ≡ s.member)) (λ (s : Seat). s.member.who < team.n) m.making.decision.seats.items
    (λ s r. subst (λ (x : Member). x.who < team.n) r.3 (of_each (λ (r : Report). r.member.who < team.n) m.making.reports r.0 c.below r.1)) c.members

-- the members of a made decision are a majority of the team
pub are_majority : (team : Team) (promises : List Promised) (makes : List Make) → AllArise team promises makes → (m : Make) → In m makes → IsMajority team.n (map (λ (s : Seat). s.member.who) m.making.decision.seats.items)
are_majority team promises makes arise m i =
    subst (IsMajority team.n) (same_processes h.first.making.decision m.making.decision h.same_members) (record {
      distinct = h.at.comes.one_seat;
      below = all_mapped (λ q. q < team.n) (λ (s : Seat). s.member.who) h.first.making.decision.seats.items (seats_of_reports team promises h.at.older h.first h.at.comes);
      enough = rw (length-map h.first.making.decision.seats.items (λ (s : Seat). s.member.who)) h.at.comes.seats;
    })
  where
    h : HasFirst team promises makes m
    h = has_first team promises makes arise m i

-- who has a seat is a member
pub seat_in : (member : Member) (seats : List Seat) → list_any (is_seat_of member) seats ≡ true → In member (map (λ (s : Seat). s.member) seats)
seat_in member [] e = absurd (cc)
seat_in member (s ∷ seats) e =
    elim (or_cases (is_seat_of member s) (list_any (is_seat_of member) seats) e) [ inl t ↦ inl (sym (same_member_of s.member member t)) | inr t ↦ inr (seat_in member seats t) ]

-- who has a seat in a decision has one in each of the same members
pub seat_of_members : (a b : Decision) (m : Member) → members a ≡ members b → has_seat m b ≡ true → has_seat m a ≡ true
seat_of_members a b m same seat =
    let s = of_map (λ (s : Seat). s.member) a.seats.items m (subst (In m) (sym same) (seat_in m b.seats.items seat)) in
    has_seat_of a.seats.items m s.0 s.1 (sym s.2)

module _ (team : Team) (promises : List Promised) (makes : List Make) (arise : AllArise team promises makes) (once : AllOnce makes) where
  -- decisions of one group have one list of members,
  group_members : (a b : Decision) → WasMade makes a → WasMade makes b → a.group ≡ b.group → members a ≡ members b
  group_members a b i j same =
      let f = first_of_made team promises makes arise a i in
      let g = first_of_made team promises makes arise b j in
      let one : f.0 ≡ g.0 = once_same makes once f.0 g.0 f.1 g.1 (f.2.begins.group_is ∙ same ∙ sym g.2.begins.group_is, f.2.begins.turn ∙ sym g.2.begins.turn) in
      sym f.2.same_members ∙ ap (λ (z : Make). members z.making.decision) one ∙ g.2.same_members

  -- so who has a seat in one has one in each
  pub seat_in_each : (a b : Decision) → WasMade makes a → WasMade makes b → a.group ≡ b.group → (member : Member) → has_seat member a ≡ true → has_seat member b ≡ true
  seat_in_each a b i j same member seat = seat_of_members b a member (group_members b a j i (sym same)) seat
