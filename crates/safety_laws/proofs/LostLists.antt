-- Where an update stands that waits at a process, when a list goes on: it waits still, is in the list's new part, or has no seat of its
-- sender there.
use Rattle.std.proofs.Common.{◌≡◌, ◌≢◌, refl, sym, ap, subst, ◌∙◌, inl, inr, ◌⊎◌, ℕ, zero, suc, ◌+◌, ◌≤◌, ◌<◌, nat_eq, nat_le, Bool, true, false, cond, List, [], ◌∷◌, ◌++◌, map, length, filter, filter_map, find, Option, Some, None, arith, length-append}
use Rattle.std.specs.List.{range_with_len}
use Rattle.std.specs.Option.{option_map, option_map_or}
use Rattle.std.proofs.lemmas.Bool.Decides.{nat_tests}
use Rattle.std.proofs.lemmas.Bool.{false_from_ne_true}
use Rattle.std.proofs.lemmas.Option.{same_Some}
use Rattle.tw_machine.specs.Types.{Decision, Entry, Kept, Member, Seat, UpdateId}
use Rattle.tw_types.specs.Decisions.{is_same_member, is_seat_of, has_seat}
use Rattle.tw_types.specs.Items.{In}
use Rattle.tw_types.specs.Logs.{entry_joined}
use Rattle.tw_types.specs.Updates.{is_same_id, is_named, find_update, has_update, sender, is_awaited, pending_room, seat_of_sender, stays_pending}
use Rattle.tw_types.proofs.Appended.{in_map, of_map, in_filter, of_filter}
use Rattle.tw_machine.specs.History.{Make}
use Rattle.tw_types.proofs.Lists.{all_joined}
use Rattle.safety_laws.specs.Beginnings.{unmarked}
use Rattle.safety_laws.specs.Early.{IsAbsent}
use Rattle.safety_laws.specs.Lists.{seqs_of, GoByOne, IsListOf}
use Rattle.safety_laws.specs.Pending.{IsAwaited, NoneTwice}
use Rattle.safety_laws.proofs.EndLists.{same_id}
use Rattle.safety_laws.proofs.FirstDecisions.{in_list_any, same_member, same_member_of}
use Rattle.safety_laws.proofs.IdLists.{same_id_of, one_id}
use Rattle.safety_laws.proofs.Lists.{of_each, each_from, of_append, found_in, any_found, of_filter_map, in_range}
use Rattle.safety_laws.proofs.NextDecisions.{any_in}
use Rattle.safety_laws.proofs.WholeLists.{seqs_joined}

-- ---- the numbers of a member in a list that goes by one

-- each number from a on, below the end, is there
range_in : (a n x : ℕ) → a ≤ x → x < a + n → In x (range_with_len a n)
range_in a zero x low high = absurd (omega (arith, low, high))
range_in a (suc n) x low high = go (nat_eq x a) refl (λ more. range_in (a + 1) n x more (omega (arith, high)))
  where
    go : (b : Bool) → nat_eq x a ≡ b → (a + 1 ≤ x → In x (range_with_len (a + 1) n)) → In x (a ∷ range_with_len (a + 1) n)
    go true e rest = inl (grind (arith, nat_tests))
    go false e rest = let other : a < x = grind (arith, nat_tests) in inr (rest (omega (arith, other)))

-- an update's number isn't above how many its sender has there
number_below : (list : List Kept) → GoByOne list → (k : Kept) → In k list → k.entry.id.seq ≤ length (seqs_of (sender k.entry.id) list)
number_below list by_one k i =
    let member : Member = sender k.entry.id in
    let there : In k.entry.id.seq (seqs_of member list) = in_map (λ (z : Kept). z.entry.id.seq) (filter (λ (z : Kept). is_same_member (sender z.entry.id) member) list) k
    (in_filter (λ (z : Kept). is_same_member (sender z.entry.id) member) list k i (same_member member)) in
    let range = in_range 1 (length (seqs_of member list)) k.entry.id.seq (subst (In k.entry.id.seq) (by_one member) there) in
    let high = range.1 in
    omega (arith, high)

-- and each number up to that is there
has_number : (list : List Kept) → GoByOne list → (id : UpdateId) → 1 ≤ id.seq → id.seq ≤ length (seqs_of (sender id) list) → (k : Kept) × In k list × (k.entry.id ≡ id)
has_number list by_one id low high =
    let member : Member = sender id in
    let there : In id.seq (seqs_of member list) = subst (In id.seq) (sym (by_one member)) (range_in 1 (length (seqs_of member list)) id.seq low (omega (arith, high))) in
    let k = of_map (λ (z : Kept). z.entry.id.seq) (filter (λ (z : Kept). is_same_member (sender z.entry.id) member) list) id.seq there in
    let f = of_filter (λ (z : Kept). is_same_member (sender z.entry.id) member) list k.0 k.1 in
    let from = same_member_of (sender k.0.entry.id) member f.1 in
    (k.0, f.0, one_id k.0.entry.id id (ap (λ (m : Member). m.who) from) (ap (λ (m : Member). m.incarnation) from) (sym k.2))

-- ---- where a list goes on

-- how many a member has in a list with more behind it
longer : (member : Member) (list rest whole : List Kept) → whole ≡ list ++ rest → length (seqs_of member list) ≤ length (seqs_of member whole)
longer member list rest whole is =
    let joined : length (seqs_of member whole) ≡ length (seqs_of member list) + length (seqs_of member rest) = ap (λ l. length (seqs_of member l)) is ∙ ap length (seqs_joined member list rest) ∙ simp length-append in
    omega (arith, joined)

-- what is awaited behind a list isn't in it
pub awaited_absent : (v : Make) → IsListOf v → (u : Kept) → IsAwaited v.making.decision u → IsAbsent u.entry.id v.log
awaited_absent v whole u waits = each_from (λ (k : Kept). k.entry.id ≢ u.entry.id) v.log (λ k i same.
    let next : waits.seat.next ≡ 1 + length (seqs_of waits.seat.member v.log) = of_each (λ (s : Seat). s.next ≡ 1 + length (seqs_of s.member v.log)) v.making.decision.seats.items waits.seat whole.next waits.there in
    let few = number_below v.log whole.by_one k i in
    let seq = ap (λ (id : UpdateId). id.seq) same in
    let by : length (seqs_of waits.seat.member v.log) ≡ length (seqs_of (sender k.entry.id) v.log) = ap (λ (m : Member). length (seqs_of m v.log)) (waits.sender_is ∙ ap sender (sym same)) in
    let low = waits.low in
    omega (arith, next, few, seq, by, low))

-- What becomes of an update that waits: it waits still, is among what is new in the list, or has no seat and isn't in the list.
pub data AfterAll (d : Make) (rest : List Kept) (u : Kept) : Type 0 where
  Waits : stays_pending d.making.decision u ≡ true → AfterAll d rest u
  Comes : (k : Kept) → In k rest → k.entry.id ≡ u.entry.id → AfterAll d rest u
  Loses : has_seat (sender u.entry.id) d.making.decision ≡ false → IsAbsent u.entry.id d.log → AfterAll d rest u

-- where no update has this id
none_absent : (id : UpdateId) (list : List Kept) → has_update id list ≡ false → IsAbsent id list
none_absent id list none = each_from (λ (k : Kept). k.entry.id ≢ id) list (λ k i same.
    let some : has_update id list ≡ true = in_list_any (is_named id) list k i (subst (λ z. is_same_id z id ≡ true) (sym same) (same_id id)) in
    cc)

-- of no seat that is found
no_seat : (member : Member) (d : Decision) → find (is_seat_of member) d.seats.items ≡ None → has_seat member d ≡ false
no_seat member d none = false_from_ne_true (has_seat member d) (λ e. any_found (is_seat_of member) d.seats.items e none)

-- Where a made decision's list goes on that of another one, all that waits by that one comes to one of these ends.
pub settles : (v d : Make) → IsListOf v → IsListOf d → (rest : List Kept) → d.log ≡ v.log ++ rest → (u : Kept) → IsAwaited v.making.decision u → AfterAll d rest u
settles v d of_v of_d rest goes u waits = by_rest (has_update u.entry.id rest) refl
  where
    absent : IsAbsent u.entry.id v.log
    absent = awaited_absent v of_v u waits

    before : waits.seat.next ≡ 1 + length (seqs_of (sender u.entry.id) v.log)
    before = subst (λ (m : Member). waits.seat.next ≡ 1 + length (seqs_of m v.log)) waits.sender_is (of_each (λ (s : Seat). s.next ≡ 1 + length (seqs_of s.member v.log)) v.making.decision.seats.items waits.seat of_v.next waits.there)

    by_number : (s : Seat) → seat_of_sender u.entry.id d.making.decision ≡ Some s → s.next ≡ 1 + length (seqs_of (sender u.entry.id) d.log) → (b : Bool) → nat_le s.next u.entry.id.seq ≡ b → AfterAll d rest u
    by_number s is next true e =
        let more = longer (sender u.entry.id) v.log rest d.log goes in
        let high = waits.high in
        let room : u.entry.id.seq < s.next + pending_room = omega (arith, before, next, more, high) in
        let awaited : is_awaited s.next u.entry.id.seq ≡ true = grind (arith, nat_tests) in
        Waits (ap (λ o. option_map_or (λ (s : Seat). is_awaited s.next u.entry.id.seq) o false) is ∙ awaited)
    by_number s is next false e =
        let below : u.entry.id.seq < s.next = grind (arith, nat_tests) in
        let low = waits.low in
        let k = has_number d.log of_d.by_one u.entry.id (omega (arith, before, low)) (omega (arith, next, below)) in
        go k.0 k.2 (of_append k.0 v.log rest (subst (In k.0) goes k.1))
      where
        go : (k : Kept) → k.entry.id ≡ u.entry.id → In k v.log ⊎ In k rest → AfterAll d rest u
        go k same (inl i) = absurd (of_each (λ (z : Kept). z.entry.id ≢ u.entry.id) v.log k absent i same)
        go k same (inr i) = Comes k i same

    by_seat : has_update u.entry.id rest ≡ false → (o : Option Seat) → seat_of_sender u.entry.id d.making.decision ≡ o → AfterAll d rest u
    by_seat none (Some s) is =
        let found = found_in (is_seat_of (sender u.entry.id)) d.making.decision.seats.items s is in
        let next = of_each (λ (s : Seat). s.next ≡ 1 + length (seqs_of s.member d.log)) d.making.decision.seats.items s of_d.next found.0 in
        by_number s is (subst (λ (m : Member). s.next ≡ 1 + length (seqs_of m d.log)) (same_member_of s.member (sender u.entry.id) found.1) next) (nat_le s.next u.entry.id.seq) refl
    by_seat none None is =
        Loses (no_seat (sender u.entry.id) d.making.decision is) (subst (IsAbsent u.entry.id) (sym goes) (all_joined (λ (k : Kept). k.entry.id ≢ u.entry.id) v.log rest absent (none_absent u.entry.id rest none)))

    by_rest : (b : Bool) → has_update u.entry.id rest ≡ b → AfterAll d rest u
    by_rest true e = let k = any_in (is_named u.entry.id) rest e in Comes k.0 k.1 (same_id_of k.0.entry.id u.entry.id k.2)
    by_rest false e = by_seat e (seat_of_sender u.entry.id d.making.decision) refl

-- ---- marks

-- an update with this id and with the mark
abbrev pub HasMark : UpdateId → List Kept → Type 0
HasMark id list = (k : Kept) × In k list × (k.entry.id ≡ id) × (k.early ≡ true)

-- of what is pending an update is found by its id
found_pending : (pending others : List Kept) (u : Kept) → NoneTwice pending → In u pending → find_update u.entry.id (pending ++ others) ≡ Some u
found_pending [] others u once i = absurd i
found_pending (k ∷ pending) others u once (inl e) =
    let named : is_named u.entry.id k ≡ true = subst (λ (z : Kept). is_same_id z.entry.id u.entry.id ≡ true) e (same_id u.entry.id) in
    ap (λ b. cond b (Some k) (find_update u.entry.id (pending ++ others))) named ∙ ap Some (sym e)
found_pending (k ∷ pending) others u once (inr i) =
    let named : is_named u.entry.id k ≡ false = of_each (λ (other : Kept). is_same_id k.entry.id other.entry.id ≡ false) pending u once.0 i in
    ap (λ b. cond b (Some k) (find_update u.entry.id (pending ++ others))) named ∙ found_pending pending others u once.1 i

-- A pending update's mark goes with it into the list.
pub mark_comes : (pending others : List Kept) (es : List Entry) (u : Kept) → NoneTwice pending → In u pending → u.early ≡ true → (k : Kept) → In k (map unmarked (filter_map (entry_joined (pending ++ others)) es)) → k.entry.id ≡ u.entry.id
    → HasMark u.entry.id (filter_map (entry_joined (pending ++ others)) es)
mark_comes pending others es u once i early k j same = (a.0, a.1, id, marked)
  where
    a : (a : Kept) × In a (filter_map (entry_joined (pending ++ others)) es) × (k ≡ unmarked a)
    a = of_map unmarked (filter_map (entry_joined (pending ++ others)) es) k j

    id : a.0.entry.id ≡ u.entry.id
    id = ap (λ (z : Kept). z.entry.id) (sym a.2) ∙ same

    e : (e : Entry) × In e es × (entry_joined (pending ++ others) e ≡ Some a.0)
    e = of_filter_map (entry_joined (pending ++ others)) es a.0 a.1

    by : (o : Option Kept) → find_update e.0.id (pending ++ others) ≡ o → option_map (λ (k : Kept). record k { entry = e.0 }) o ≡ Some a.0 → a.0.early ≡ true
    by None is f = absurd (cc)
    by (Some w) is f =
        let joined : record w { entry = e.0 } ≡ a.0 = same_Some (record w { entry = e.0 }) a.0 f in
        let named : e.0.id ≡ u.entry.id = ap (λ (z : Kept). z.entry.id) joined ∙ id in
        let one : w ≡ u = same_Some w u (sym is ∙ ap (λ z. find_update z (pending ++ others)) named ∙ found_pending pending others u once i) in
        ap (λ (z : Kept). z.early) (sym joined) ∙ ap (λ (z : Kept). z.early) one ∙ early

    marked : a.0.early ≡ true
    marked = by (find_update e.0.id (pending ++ others)) refl e.2
