-- What becomes of marks when a process enters a decision: what waits with a mark waits still, or is in the list with it, or is lost for
-- good.
use Rattle.std.proofs.Common.{◌≡◌, ◌≢◌, refl, sym, ap, subst, ◌∙◌, inl, inr, ◌⊎◌, ℕ, zero, suc, ◌≤◌, ◌<◌, true, false, List, ◌++◌, map, filter_map, Option, Some, arith}
use Rattle.std.proofs.lemmas.Bool.{false_from_ne_true}
use Rattle.std.proofs.lemmas.List.{map-append}
use Rattle.tw_machine.specs.Types.{Team, Decision, Entry, Kept, UpdateId, Step}
use Rattle.tw_types.specs.Beliefs.{last_of, view_decision}
use Rattle.tw_types.specs.Decisions.{or_none, has_seat}
use Rattle.tw_types.specs.Items.{In}
use Rattle.tw_types.specs.Logs.{entry_joined}
use Rattle.tw_types.specs.Process.{Process}
use Rattle.tw_types.specs.Updates.{sender, stays_pending, settled}
use Rattle.tw_types.specs.Waiting.{held_payloads, payloads_of}
use Rattle.tw_types.proofs.Appended.{in_filter}
use Rattle.tw_machine.specs.History.{Make}
use Rattle.tw_machine.specs.Standing.{member_of}
use Rattle.tw_types.proofs.Lists.{all_joined}
use Rattle.safety_laws.specs.Beginnings.{unmarked}
use Rattle.safety_laws.specs.Early.{IsMarked, IsAbsent, IsLost}
use Rattle.safety_laws.specs.Effects.{Written}
use Rattle.safety_laws.specs.Groups.{OfGroups, OfMember}
use Rattle.safety_laws.specs.Lists.{AreLists, IsListOf}
use Rattle.safety_laws.specs.Made.{WasMade}
use Rattle.safety_laws.specs.Pending.{IsAwaited, IsSettled}
use Rattle.safety_laws.specs.Seated.{AddsOfSeats, AllAddOfSeats}
use Rattle.safety_laws.proofs.Begun.{have_lists, no_group_above}
use Rattle.safety_laws.proofs.Groups.{seat_in_each}
use Rattle.safety_laws.proofs.HasLine.{last_positive}
use Rattle.safety_laws.proofs.Lists.{of_each, each_from, each_weaker, in_first, in_last, of_append}
use Rattle.safety_laws.proofs.LostLists.{AfterAll, Waits, Comes, Loses, settles, mark_comes}
use Rattle.safety_laws.proofs.Prefixes.{HaveLists, next_of, extend}
use Rattle.safety_laws.proofs.Turns.{once_same}

-- what is known of all that was written down
pub record KnowsMakes (team : Team) (steps : List Step) (w : Written) : Type 0 where
  pub groups : OfGroups team steps w
  pub lists : AreLists w.makes
  pub seated : AllAddOfSeats w

module _ (team : Team) (steps : List Step) (w : Written) (known : KnowsMakes team steps w) where
  -- the lists of what was made
  lists : HaveLists team w.promises w.makes
  lists = have_lists team steps w known.groups known.lists

  -- who has no seat in one make of a group has none in another
  no_seat_in_group : (a b : Make) → In a w.makes → In b w.makes → a.making.decision.group ≡ b.making.decision.group → (id : UpdateId) → has_seat (sender id) b.making.decision ≡ false → has_seat (sender id) a.making.decision ≡ false
  no_seat_in_group a b i j group id none = false_from_ne_true (has_seat (sender id) a.making.decision)
      (λ e. let some = seat_in_each team w.promises w.makes known.groups.makes.arise known.groups.once a.making.decision b.making.decision (a, i, refl) (b, j, refl) group (sender id) e in cc)

  -- ---- a group that an update doesn't come into

  -- what a make of the group adds isn't of a member without a seat
  none_added : (m : Make) → In m w.makes → (id : UpdateId) → has_seat (sender id) m.making.decision ≡ false → IsAbsent id m.making.appended
  none_added m i id none = each_weaker (λ (k : Kept). has_seat (sender k.entry.id) m.making.decision ≡ true) (λ (k : Kept). k.entry.id ≢ id) m.making.appended
      (λ k seat same. let some : has_seat (sender id) m.making.decision ≡ true = subst (λ (z : UpdateId). has_seat (sender z) m.making.decision ≡ true) same seat in cc)
      (of_each AddsOfSeats w.makes m known.seated i)

  -- turn by turn
  absent_at : (n : ℕ) (c m : Make) → In c w.makes → In m w.makes → c.making.decision.turn ≡ 0 → m.making.decision.group ≡ c.making.decision.group → m.making.decision.turn ≡ n
      → (id : UpdateId) → has_seat (sender id) c.making.decision ≡ false → IsAbsent id c.log → IsAbsent id m.log
  absent_at zero c m i j first group turn id none absent =
      let one : c ≡ m = once_same w.makes known.groups.once c m i j (sym group, first ∙ sym turn) in
      subst (λ (z : Make). IsAbsent id z.log) one absent
  absent_at (suc n) c m i j first group turn id none absent =
      let late : 0 < m.making.decision.turn = omega (arith, turn) in
      let before = next_of team w.promises w.makes lists m j late in
      let next = before.2 in
      let step = next.turn in
      subst (IsAbsent id) (sym next.list)
      (all_joined (λ (k : Kept). k.entry.id ≢ id) before.0.log m.making.appended
      (absent_at n c before.0 i before.1 first (next.group ∙ group) (omega (arith, turn, step)) id none absent)
      (none_added m j id (no_seat_in_group m c j i group id none)))

  -- ---- what is lost

  -- An update that isn't in the list of a process's last decision, which has no seat of its sender, is lost for the process, if that
  -- decision is of the group that it promised.
  lost_by : (who : ℕ) (q : Process) (d : Decision) → OfMember team steps w who q → last_of q.belief ≡ Some d → d.group ≡ q.vote.promised → (was : WasMade w.makes d)
      → (id : UpdateId) → has_seat (sender id) was.0.making.decision ≡ false → IsAbsent id was.0.log → IsLost team w.makes q id
  lost_by who q d mine last group was id none absent = each_from _ w.makes (λ c i first low seat.
      let positive = last_positive team steps w who q d known.groups mine last in
      let most = no_group_above team steps w who q known.groups mine (omega (arith, positive, group)) c i seat in
      let least : d.group ≤ c.making.decision.group = subst (λ (o : Option Decision). (or_none o).group ≤ c.making.decision.group) last low in
      let made_group = ap (λ (z : Decision). z.group) was.2 in
      let same : c.making.decision.group ≡ was.0.making.decision.group = omega (arith, most, least, made_group, group) in
      let begun = extend team w.promises w.makes lists c was.0 i was.1 same (omega (arith, first)) in
      let out = no_seat_in_group c was.0 i was.1 same id none in
      let not_first : IsAbsent id c.log = each_from (λ (k : Kept). k.entry.id ≢ id) c.log (λ k j. of_each (λ (k : Kept). k.entry.id ≢ id) was.0.log k absent (subst (In k) (sym begun.1) (in_first k c.log begun.0 j))) in
      record {
        absent = each_from (λ (m : Make). m.making.decision.group ≡ c.making.decision.group → IsAbsent id m.log) w.makes (λ m j same_group. absent_at m.making.decision.turn c m i j first same_group refl id out not_first);
        sender_out = inl out;
      })

  -- what was lost is lost with a later last decision
  pub lost_still : (p q : Process) (id : UpdateId) → q.identity ≡ p.identity → (or_none (last_of p.belief)).group ≤ (or_none (last_of q.belief)).group → IsLost team w.makes p id → IsLost team w.makes q id
  lost_still p q id identity later lost = each_weaker _ _ w.makes (λ c f first low seat. f first (omega (arith, later, low)) (ap (λ m. has_seat m c.making.decision) (sym (ap member_of identity)) ∙ seat)) lost

  -- ---- a decision is entered

  -- a process q that was p before it entered the decision d, when its last decision was v
  pub record Entered (who : ℕ) (p q : Process) (v d : Decision) : Type 0 where
    pub view : view_decision p.belief ≡ Some v
    pub last : last_of q.belief ≡ Some d
    pub group : d.group ≡ q.vote.promised
    pub mine : OfMember team steps w who q
    pub was_v : WasMade w.makes v
    pub was_d : WasMade w.makes d
    pub list_v : map unmarked p.log.entries ≡ was_v.0.log
    pub list_d : map unmarked q.log.entries ≡ was_d.0.log
    pub entries : List Entry
    pub log : q.log.entries ≡ p.log.entries ++ filter_map (entry_joined (payloads_of p.waiting)) entries
    pub pending : q.waiting.pending ≡ settled d p.waiting.pending
    pub settled_before : IsSettled p

  module _ (who : ℕ) (p q : Process) (v d : Decision) (e : Entered who p q v d) where
    -- what is new in the list
    added : List Kept
    added = filter_map (entry_joined (payloads_of p.waiting)) e.entries

    -- the list of the decision goes on that of the one before
    goes_on : e.was_d.0.log ≡ e.was_v.0.log ++ map unmarked added
    unfolding added
    goes_on = sym e.list_d ∙ ap (map unmarked) e.log ∙ map-append unmarked p.log.entries (filter_map (entry_joined (payloads_of p.waiting)) e.entries)
        ∙ ap (λ l. l ++ map unmarked (filter_map (entry_joined (payloads_of p.waiting)) e.entries)) e.list_v

    -- a mark that waits
    waiting_mark : (u : Kept) → In u p.waiting.pending → u.early ≡ true → IsMarked q u.entry.id ⊎ IsLost team w.makes q u.entry.id
    unfolding added
    waiting_mark u i early = go (settles e.was_v.0 e.was_d.0 (of_each IsListOf w.makes e.was_v.0 known.lists.whole e.was_v.1) (of_each IsListOf w.makes e.was_d.0 known.lists.whole e.was_d.1) (map unmarked added) goes_on u awaited)
      where
        awaited : IsAwaited e.was_v.0.making.decision u
        awaited = subst (λ (z : Decision). IsAwaited z u) (sym e.was_v.2) (subst (λ (o : Option Decision). IsAwaited (or_none o) u) e.view (of_each (IsAwaited (or_none (view_decision p.belief))) p.waiting.pending u e.settled_before.awaited i))

        go : AfterAll e.was_d.0 (map unmarked added) u → IsMarked q u.entry.id ⊎ IsLost team w.makes q u.entry.id
        go (Waits stays) = inl (u, in_last u q.log.entries q.waiting.pending (subst (In u) (sym e.pending) (in_filter (stays_pending d) p.waiting.pending u i (subst (λ (z : Decision). stays_pending z u ≡ true) e.was_d.2 stays))), refl, early)
        go (Comes k j same) =
            let m = mark_comes p.waiting.pending (held_payloads p.waiting.held) e.entries u e.settled_before.once i early k j same in
            inl (m.0, in_first m.0 q.log.entries q.waiting.pending (subst (In m.0) (sym e.log) (in_last m.0 p.log.entries added m.1)), m.2, m.3)
        go (Loses none absent) = inr (lost_by who q d e.mine e.last e.group e.was_d u.entry.id none absent)

    -- What was marked is marked still, or lost.
    pub marked_or_lost : (id : UpdateId) → IsMarked p id → IsMarked q id ⊎ IsLost team w.makes q id
    unfolding added
    marked_or_lost id m = go (of_append m.0 p.log.entries p.waiting.pending m.1)
      where
        go : In m.0 p.log.entries ⊎ In m.0 p.waiting.pending → IsMarked q id ⊎ IsLost team w.makes q id
        go (inl i) = inl (m.0, in_first m.0 q.log.entries q.waiting.pending (subst (In m.0) (sym e.log) (in_first m.0 p.log.entries added i)), m.2, m.3)
        go (inr i) = subst (λ z. IsMarked q z ⊎ IsLost team w.makes q z) m.2 (waiting_mark m.0 i m.3)
