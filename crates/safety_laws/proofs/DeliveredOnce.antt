-- Each update is delivered once at a member, and what is passed as delivered earlier went early before.
use Rattle.std.proofs.Common.{◌≡◌, refl, sym, ap, subst, ◌∙◌, inl, inr, ◌⊎◌, ℕ, true, false, List, [], ◌∷◌, ◌++◌, map, Option, Some, arith}
use Rattle.std.specs.Prelude.{◌≢◌, ◌≤◌}
use Rattle.std.specs.List.{AllByRecursion}
use Rattle.std.proofs.lemmas.Option.{same_Some}
use Rattle.tw_machine.specs.Types.{Team, Decision, Kept, Member, How, Step}
use Rattle.tw_types.specs.Beliefs.{is_informed, last_of}
use Rattle.tw_types.specs.Decisions.{or_none, has_seat}
use Rattle.tw_types.specs.Flag.{is_up}
use Rattle.tw_types.specs.Items.{In}
use Rattle.tw_types.specs.Logs.{log_at}
use Rattle.tw_types.specs.Process.{Process}
use Rattle.tw_types.specs.Updates.{is_unordered, sender}
use Rattle.tw_types.specs.Waiting.{held_payloads, payloads_of}
use Rattle.tw_machine.specs.Delivering.{all_told}
use Rattle.tw_machine.specs.History.{Line, Make, SentUpdate, line_item, lines_on}
use Rattle.tw_machine.specs.Run.{Place, AtPass, AtEarly, AtWait, Delivered}
use Rattle.tw_machine.specs.Standing.{member_of}
use Rattle.tw_machine.specs.World.{world}
use Rattle.safety_laws.specs.Beginnings.{unmarked}
use Rattle.safety_laws.specs.Delivered.{IsPassedOf, IsBacked}
use Rattle.safety_laws.specs.Early.{is_early, WentEarly, IsTold, marks, IsMarked, IsAbsent, IsLostIn, IsLost, IsMarkedOrLost, NotBoth, WentBefore, DeliveredOnce, once}
use Rattle.safety_laws.specs.Effects.{Written, State, Here, Delivers, Change}
use Rattle.safety_laws.specs.Groups.{HasMajority, OfGroups, OfMember}
use Rattle.safety_laws.specs.Ids.{IsOfSend}
use Rattle.safety_laws.specs.Laws.{Law, Holds, Both}
use Rattle.safety_laws.specs.Lists.{IsListOf}
use Rattle.safety_laws.specs.Made.{WasMade, IsBeginOf, HasSeat}
use Rattle.safety_laws.specs.Overtaken.{IsSupportedGroup, IsOvertaken}
use Rattle.safety_laws.specs.Pending.{IsAwaited}
use Rattle.safety_laws.proofs.DeliveryLaws.{with_delivered}
use Rattle.safety_laws.proofs.Groups.{seat_of_members}
use Rattle.safety_laws.proofs.IdLists.{one_send}
use Rattle.safety_laws.proofs.Lists.{of_each, each_weaker, each_from, each_both, in_first, of_append}
use Rattle.safety_laws.proofs.Lost.{with_lost}
use Rattle.safety_laws.proofs.MadeLists.{viewed, last_made, has_last}
use Rattle.safety_laws.proofs.Marks.{went_more}
use Rattle.safety_laws.proofs.NextDecisions.{has_seat_of}
use Rattle.safety_laws.proofs.OneOfEach.{HasPlaces, has_places}
use Rattle.safety_laws.proofs.Overtaken.{overtaken_at}
use Rattle.safety_laws.proofs.Passed.{own_list}
use Rattle.safety_laws.proofs.PassedLists.{at_base, listed_in, stands_in}
use Rattle.safety_laws.proofs.Places.{at_in, place_of}
use Rattle.safety_laws.proofs.Stack.{Stepping, RulesOver, history_rules, part_holds}
use Rattle.safety_laws.proofs.Supported.{up_majority}
use Rattle.safety_laws.proofs.ToldOnce.{Stands, IsOf, AreApart, ToldFrom, all_told_once}
use Rattle.safety_laws.proofs.Turns.{first_of_made}

-- ---- what the law rests on

-- the laws on what is delivered and on lost marks, and that each mark has its line
abbrev pub before_once : Team → Law
before_once team = Both (with_lost team) marks

-- ---- lines

-- Lines of updates that are told once each, and of which none was delivered before, are put before older ones.
once_on : (row : ℕ) (member : Member) (life : ℕ) (s : Step) (zs : List Delivered) (older : List Line)
    → AllByRecursion (λ (z : Delivered). AllByRecursion (NotBoth (line_item row member life s z)) older × WentBefore older (line_item row member life s z)) zs → AreApart zs → DeliveredOnce older
    → DeliveredOnce (lines_on row member life s zs older)
once_on row member life s [] older new apart all = all
once_on row member life s (z ∷ zs) older new apart all = once_on row member life s zs (line_item row member life s z ∷ older)
    (each_both (λ (v : Delivered). AllByRecursion (NotBoth (line_item row member life s v)) older × WentBefore older (line_item row member life s v)) (λ (v : Delivered). v.update.entry.id ≡ z.update.entry.id → ⊥)
    (λ (v : Delivered). AllByRecursion (NotBoth (line_item row member life s v)) (line_item row member life s z ∷ older) × WentBefore (line_item row member life s z ∷ older) (line_item row member life s v)) zs
    (λ v k other. (((λ same ids later earlier. other ids), k.0), λ position e. went_more older (line_item row member life s z ∷ older) member v.update.entry.id (λ l i. inr i) (k.1 position e))) new.1 apart.0)
    apart.1 (new.0.0, new.0.1, all)

-- ---- a delivery

module _ (team : Team) (past : List Step) (s : Step) (here : Here) (x y : State) (at : Stepping team past s here)
    (before : Holds (before_once team) (s ∷ past) (world team past) s.who x) (c : Delivers here x y) where
  -- its process
  abbrev p : Process
  p = x.process

  abbrev me : Member
  me = member_of p.identity

  -- what is known of lists and lines
  known : Holds (with_delivered team) (s ∷ past) (world team past) s.who x
  known = part_holds (with_delivered team) (before_once team) (s ∷ past) (world team past) s.who x (record { history = λ steps w k. k.0.0.0.0.0; running = λ steps w who p k. k.0.0.0.0.0 }) before

  -- and of groups, and of the process in them
  groups : OfGroups team (s ∷ past) x.written
  groups = known.history.0.0.0.0.0.0

  mine : OfMember team (s ∷ past) x.written s.who p
  mine = known.own.0.0.0.0.0.0

  -- the process took its last decision, which was made
  informed : is_informed p.belief ≡ true
  informed = has_last p c.last c.last_is

  was : WasMade x.written.makes c.last
  was = last_made x.written.makes p c.last mine.maker.keeps c.last_is

  -- the process's list is that decision's
  list_is : map unmarked p.log.entries ≡ was.0.log
  list_is = own_list x.written.makes p c.last groups.once known.own.1.base known.own.0.1.1 c.last_is was

  -- its seats await what is pending
  awaited : AllByRecursion (IsAwaited was.0.making.decision) p.waiting.pending
  awaited = subst (λ (d : Decision). AllByRecursion (IsAwaited d) p.waiting.pending) (ap or_none (viewed p.belief c.last c.last_is) ∙ sym was.2) before.own.0.0.0.1.awaited

  -- so each update has one place
  places : HasPlaces p.log p.waiting.pending
  places = has_places was.0 (of_each IsListOf x.written.makes was.0 known.history.0.0.1.whole was.1) p known.own.1.base list_is awaited before.own.0.0.0.1.once

  -- and what is told is told once
  told : ToldFrom p.log p.waiting.pending p.log.passed (all_told here.team c.last p.log p.waiting.pending)
  told = all_told_once here.team c.last p.log p.waiting.pending places before.own.0.0.0.1.once

  -- it stands at a position that isn't passed yet, or waits
  abbrev IsAhead : Kept → Type 0
  IsAhead u = Stands p.log p.waiting.pending p.log.passed u

  -- ---- older lines

  -- nothing that was passed
  not_passed : (l : Line) → In l x.written.lines → l.member ≡ me → (u : Kept) → IsAhead u → u.entry.id ≡ l.delivered.update.entry.id → (j : ℕ) (how : How) → l.delivered.place ≡ AtPass j how → ⊥
  not_passed l i member u stands ids j how place = go stands
    where
      go : IsAhead u → ⊥
      go (inl there) =
          let k = (of_each (IsPassedOf p) x.written.lines l known.own.1.passed i member).1 j how place in
          let same : k.there.entry.id ≡ u.entry.id = ap (λ (v : Kept). v.entry.id) k.same ∙ sym ids in
          let one = places.listed j there.0 k.there u k.at there.2 same in
          let below = k.below in
          let behind = there.1 in
          omega (arith, one, below, behind)
      go (inr waits) =
          let k = (of_each (IsPassedOf p) x.written.lines l known.own.1.passed i member).1 j how place in
          places.apart j k.there u k.at waits (ap (λ (v : Kept). v.entry.id) k.same ∙ sym ids)

  -- an update that stands there was sent
  of_send : (u : Kept) → IsAhead u → IsOfSend x.written.sends u
  of_send u (inl there) = of_each (IsOfSend x.written.sends) p.log.entries u known.own.0.0.0.0.1.list (listed_in p.log there.0 u there.2)
  of_send u (inr waits) = of_each (IsOfSend x.written.sends) (payloads_of p.waiting) u known.own.0.0.0.0.1.waiting (in_first u p.waiting.pending (held_payloads p.waiting.held) waits)

  -- what went early is unordered
  early_unordered : (l : Line) → In l x.written.lines → is_early l.delivered.place ≡ true → is_unordered l.delivered.update.entry.order ≡ true
  early_unordered l i early = go l.delivered.place refl early
    where
      backed : IsBacked team x.written.makes l
      backed = of_each (IsBacked team x.written.makes) x.written.lines l known.history.1.backed i

      go : (place : Place) → l.delivered.place ≡ place → is_early place ≡ true → is_unordered l.delivered.update.entry.order ≡ true
      go (AtPass position how) is e = absurd (cc)
      go (AtEarly position) is e = (backed.early position is).1
      go AtWait is e = (backed.waited is).0

  -- and so is the same update where it stands
  still_unordered : (l : Line) → In l x.written.lines → is_early l.delivered.place ≡ true → (u : Kept) → IsAhead u → u.entry.id ≡ l.delivered.update.entry.id → is_unordered u.entry.order ≡ true
  still_unordered l i early u stands ids =
      let a = of_send u stands in
      let b = of_each (λ (l : Line). IsOfSend x.written.sends l.delivered.update) x.written.lines l known.history.1.keep i in
      let one = one_send x.written.sends a.0 b.0 known.history.0.0.0.0.0.1.0 a.1 b.1 (ap (λ (v : Kept). v.entry.id) a.2 ∙ ids ∙ sym (ap (λ (v : Kept). v.entry.id) b.2)) in
      let order : u.entry.order ≡ l.delivered.update.entry.order = sym (ap (λ (v : Kept). v.entry.order) a.2) ∙ ap (λ (z : SentUpdate). z.sending.update.entry.order) one ∙ ap (λ (v : Kept). v.entry.order) b.2 in
      ap is_unordered order ∙ early_unordered l i early

  -- an update that stands there, and one of its id that the process has in its list or pending, are one
  one_update : (u v : Kept) → IsAhead u → In v (p.log.entries ++ p.waiting.pending) → v.entry.id ≡ u.entry.id → v ≡ u
  one_update u v stands i ids = go (of_append v p.log.entries p.waiting.pending i) stands
    where
      position : In v p.log.entries → (j : ℕ) × (log_at j p.log ≡ Some v)
      position i = let there = place_of p.log.entries v i in (there.0, at_base p.log known.own.1.base there.0 ∙ there.1)

      go : In v p.log.entries ⊎ In v p.waiting.pending → IsAhead u → v ≡ u
      go (inl i) (inl there) =
          let at_v = position i in
          let one = places.listed at_v.0 there.0 v u at_v.1 there.2 ids in
          same_Some v u (sym at_v.1 ∙ ap (λ j. log_at j p.log) one ∙ there.2)
      go (inl i) (inr waits) = let at_v = position i in absurd (places.apart at_v.0 v u at_v.1 waits ids)
      go (inr i) (inl there) = absurd (places.apart there.0 u v there.2 i (sym ids))
      go (inr i) (inr waits) = places.waiting v u i waits ids

  -- ---- lost marks

  -- the first decision of the last one's group
  first : (f : Make) × In f x.written.makes × IsBeginOf c.last f
  first = first_of_made team x.written.promises x.written.makes groups.makes.arise c.last was

  -- names the process
  seated : has_seat me first.0.making.decision ≡ true
  seated = seat_of_members first.0.making.decision c.last (member_of p.identity) first.2.same_members (subst (HasSeat (s ∷ past) x.written s.who p) c.last_is (mine.maker.seat informed))

  -- the group has supports of a majority
  supported : IsSupportedGroup team x.written.makes first.0.making.decision.group
  supported =
      let up : is_up team p.vote p.belief (Some c.t) ≡ true = subst (λ (z : Team). is_up z p.vote p.belief (Some c.t) ≡ true) at.same_team c.up in
      (was.0, was.1, ap (λ (d : Decision). d.group) was.2 ∙ sym first.2.begins.group_is, subst (HasMajority team) (sym was.2) (up_majority team p c.t c.last c.last_is up))

  -- no update that stands there is lost
  not_lost : (u : Kept) → IsAhead u → IsLost team x.written.makes p u.entry.id → ⊥
  not_lost u stands all = go stands
    where
      in_group : (or_none (last_of p.belief)).group ≡ first.0.making.decision.group
      in_group = ap (λ (o : Option Decision). (or_none o).group) c.last_is ∙ sym first.2.begins.group_is

      lost_in : IsLostIn team x.written.makes u.entry.id first.0
      lost_in = of_each (λ (m : Make). m.making.decision.turn ≡ 0 → (or_none (last_of p.belief)).group ≤ m.making.decision.group → has_seat me m.making.decision ≡ true → IsLostIn team x.written.makes u.entry.id m)
          x.written.makes first.0 all first.1 first.2.begins.turn (let same = in_group in omega (arith, same)) seated

      absent : IsAbsent u.entry.id was.0.log
      absent = of_each (λ (m : Make). m.making.decision.group ≡ first.0.making.decision.group → IsAbsent u.entry.id m.log) x.written.makes was.0 lost_in.absent was.1
          (ap (λ (d : Decision). d.group) was.2 ∙ sym first.2.begins.group_is)

      has_sender : In u p.waiting.pending → has_seat (sender u.entry.id) first.0.making.decision ≡ true
      has_sender waits =
          let a = of_each (IsAwaited was.0.making.decision) p.waiting.pending u awaited waits in
          let seat : has_seat (sender u.entry.id) was.0.making.decision ≡ true = has_seat_of was.0.making.decision.seats.items (sender u.entry.id) a.seat a.there a.sender_is in
          seat_of_members first.0.making.decision c.last (sender u.entry.id) first.2.same_members (subst (λ (d : Decision). has_seat (sender u.entry.id) d ≡ true) was.2 seat)

      out : In u p.waiting.pending → (has_seat (sender u.entry.id) first.0.making.decision ≡ false) ⊎ IsOvertaken team x.written.makes first.0 → ⊥
      out waits (inl none) = let seat = has_sender waits in absurd (cc)
      out waits (inr over) = overtaken_at team (s ∷ past) x.written groups first.0 first.2.begins.turn over supported

      go : IsAhead u → ⊥
      go (inl there) =
          let listed : In (unmarked u) was.0.log = at_in was.0.log there.0 (unmarked u) (stands_in p.log was.0.log known.own.1.base list_is there.0 u there.2) in
          of_each (λ (v : Kept). v.entry.id ≢ u.entry.id) was.0.log (unmarked u) absent listed refl
      go (inr waits) = out waits lost_in.sender_out

  -- so an update that went early, and stands there, has its mark
  not_early : (l : Line) → In l x.written.lines → l.member ≡ me → is_early l.delivered.place ≡ true → (u : Kept) → IsAhead u → u.entry.id ≡ l.delivered.update.entry.id → u.early ≡ false → ⊥
  not_early l i member early u stands ids fresh =
      go (of_each (IsMarkedOrLost team x.written.makes p) x.written.lines l (before.own.0.1 informed) i member early)
    where
      go : IsMarked p l.delivered.update.entry.id ⊎ IsLost team x.written.makes p l.delivered.update.entry.id → ⊥
      go (inl k) = let one : k.0 ≡ u = one_update u k.0 stands k.1 (k.2 ∙ sym ids) in let mark : u.early ≡ true = ap (λ (v : Kept). v.early) (sym one) ∙ k.3 in absurd (cc)
      go (inr all) = not_lost u stands (subst (IsLost team x.written.makes p) (sym ids) all)

  -- ---- new lines

  abbrev line : Delivered → Line
  line z = line_item here.row me here.life here.step z

  -- no older line is of the same update, where both are deliveries
  against_older : (z : Delivered) → IsOf p.log p.waiting.pending p.log.passed z → (l : Line) → In l x.written.lines → NotBoth (line z) l
  against_older z of l i member ids now then = go l.delivered.place refl
    where
      same : of.update.entry.id ≡ l.delivered.update.entry.id
      same = sym (ap (λ (v : Kept). v.entry.id) of.same) ∙ ids

      early : is_early l.delivered.place ≡ true → ⊥
      early went = not_early l i (sym member) went of.update of.stands same (of.fresh now (still_unordered l i went of.update of.stands same))

      go : (place : Place) → l.delivered.place ≡ place → ⊥
      go (AtPass position how) is = not_passed l i (sym member) of.update of.stands same position how is
      go (AtEarly position) is = early (ap is_early is)
      go AtWait is = early (ap is_early is)

  -- what is passed as delivered earlier has its older line
  went_before : (z : Delivered) → IsOf p.log p.waiting.pending p.log.passed z → WentBefore x.written.lines (line z)
  went_before z of position is = subst (WentEarly x.written.lines me) (sym (ap (λ (v : Kept). v.entry.id) of.same)) (go of.stands (of.went position is))
    where
      go : IsAhead of.update → IsTold x.written.lines p of.update
      go (inl there) = of_each (IsTold x.written.lines p) p.log.entries of.update before.own.1.list (listed_in p.log there.0 of.update there.2)
      go (inr waits) = of_each (IsTold x.written.lines p) (payloads_of p.waiting) of.update before.own.1.waiting (in_first of.update p.waiting.pending (held_payloads p.waiting.held) waits)

  delivers_once : DeliveredOnce x.written.lines → DeliveredOnce y.written.lines
  delivers_once all = subst (λ (w : Written). DeliveredOnce w.lines) (sym c.written)
      (once_on here.row me here.life here.step (all_told here.team c.last p.log p.waiting.pending) x.written.lines
      (each_weaker (IsOf p.log p.waiting.pending p.log.passed) (λ (z : Delivered). AllByRecursion (NotBoth (line z)) x.written.lines × WentBefore x.written.lines (line z)) (all_told here.team c.last p.log p.waiting.pending)
      (λ z of. (each_from (NotBoth (line z)) x.written.lines (against_older z of), went_before z of)) told.each)
      told.apart all)

-- ---- the law

-- whatever the effect: only a delivery tells lines
changed : (team : Team) (past : List Step) (s : Step) (here : Here) (x y : State) → Stepping team past s here → Change here x y → Holds (before_once team) (s ∷ past) (world team past) s.who x
    → DeliveredOnce x.written.lines → DeliveredOnce y.written.lines
changed team past s here x y at (Change.Keep c) before all = rw c.lines all
changed team past s here x y at (Change.Give c) before all = rw c.written all
changed team past s here x y at (Change.Hold c) before all = rw c.written all
changed team past s here x y at (Change.Take c) before all = rw c.written all
changed team past s here x y at (Change.Make c) before all = rw c.written all
changed team past s here x y at (Change.Raise c) before all = rw c.written all
changed team past s here x y at (Change.Deliver c) before all = delivers_once team past s here x y at before c all

-- Each update is delivered once at a member, where marks have their lines, lost ones are lost for good, and what is pending is settled.
pub once_rules : (team : Team) → RulesOver team (before_once team) once
once_rules team = history_rules team (before_once team) (λ (w : Written). DeliveredOnce w.lines) tt (λ past s here x y at change before after k. changed team past s here x y at change before k)
