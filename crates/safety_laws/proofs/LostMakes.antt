-- What is lost stays lost when a decision is made.
use Rattle.std.proofs.Common.{◌≡◌, refl, sym, ap, subst, ◌∙◌, ◌⊎◌, inl, inr, ℕ, suc, ◌≤◌, ◌<◌, Bool, true, false, List, ◌∷◌, Option, Some, None, is_some, arith}
use Rattle.std.proofs.lemmas.Bool.{cases_lt}
use Rattle.std.proofs.lemmas.Option.{same_Some}
use Rattle.std.proofs.Math.Logic.{⊎_map}
use Rattle.tw_machine.specs.Types.{Team, Decision, Kept, Member, Report, Seat, UpdateId, Step}
use Rattle.tw_types.specs.Beliefs.{last_of, view_decision}
use Rattle.tw_types.specs.Decisions.{or_none, is_seat_of, has_seat}
use Rattle.tw_types.specs.Items.{In}
use Rattle.tw_types.specs.Process.{Process}
use Rattle.tw_types.specs.Reports.{is_by_informed, is_consistent}
use Rattle.tw_types.specs.Updates.{sender}
use Rattle.tw_machine.specs.History.{Promised, Make, make_item, list_of}
use Rattle.tw_machine.specs.Standing.{member_of}
use Rattle.tw_types.proofs.Lists.{all_joined}
use Rattle.safety_laws.specs.Early.{IsAbsent, IsLostIn, IsLost, lost}
use Rattle.safety_laws.specs.Effects.{Written, State, Here, Makes}
use Rattle.safety_laws.specs.Groups.{HasMajority, OfGroups, OfMember}
use Rattle.safety_laws.specs.Lists.{AreLists}
use Rattle.safety_laws.specs.Made.{WasMade, WasMadeIfAny, IsNotOlder, WasReported, TellsLast, TellsDecision, ComesFrom, Arises, AsFirst, AsNext, IsBeginOf}
use Rattle.safety_laws.specs.Once.{SamePair}
use Rattle.safety_laws.specs.Overtaken.{IsOvertaken}
use Rattle.safety_laws.specs.Reported.{IsSeated, IsInformedPromise, AreReports}
use Rattle.safety_laws.specs.Still.{SaysTheSame}
use Rattle.safety_laws.proofs.AddedBy.{IsAddedBy, AddsOfMembers, added_by}
use Rattle.safety_laws.proofs.Ballots.{not_older_group}
use Rattle.safety_laws.proofs.BeginLists.{same_or_below, seated_below}
use Rattle.safety_laws.proofs.Begun.{before_beginnings}
use Rattle.safety_laws.proofs.FirstDecisions.{same_member_of}
use Rattle.safety_laws.proofs.Groups.{seat_of_members, seat_in_each}
use Rattle.safety_laws.proofs.Lists.{of_each, each_from}
use Rattle.safety_laws.proofs.ListsAt.{agree_at}
use Rattle.safety_laws.proofs.MadeLists.{viewed, last_made, some_last}
use Rattle.safety_laws.proofs.NextDecisions.{any_in}
use Rattle.safety_laws.proofs.Overtaken.{earlier_in, supported_more, overtaken_still, overtaken_at}
use Rattle.safety_laws.proofs.Prefixes.{HaveLists, listed, group_list, list_of_made}
use Rattle.safety_laws.proofs.Quorums.{Binds, majority_binds}
use Rattle.safety_laws.proofs.Stack.{Stepping}
use Rattle.safety_laws.proofs.Turns.{first_of_make, first_of_made}

-- ---- a make more

-- what a process lost is lost in a group, if it begins with this make
abbrev IsLostAt : Team → Process → UpdateId → List Make → Make → Type 0
IsLostAt team p id makes c = c.making.decision.turn ≡ 0 → (or_none (last_of p.belief)).group ≤ c.making.decision.group → has_seat (member_of p.identity) c.making.decision ≡ true → IsLostIn team makes id c

module _ (team : Team) (steps : List Step) (w : Written) (known_then : OfGroups team steps w) (reports : AreReports w) (new : Make)
    (known_now : OfGroups team steps (record w { makes = new ∷ w.makes })) (lists : AreLists (new ∷ w.makes)) where
  -- the makes before it, and with it
  abbrev older : List Make
  older = w.makes

  abbrev more : List Make
  more = new ∷ w.makes

  have_more : HaveLists team w.promises more
  have_more = record { arise = known_now.makes.arise; once = known_now.once; listed = lists.listed }

  -- where it begins its group, nothing of that was made before
  not_made : new.making.decision.turn ≡ 0 → (m : Make) → In m older → m.making.decision.group ≡ new.making.decision.group → ⊥
  not_made begins m i same =
      let f = first_of_make team w.promises older known_then.makes.arise m i in
      of_each (λ (d : Make). SamePair new d → ⊥) older f.0 known_now.once.0 f.1 (sym (f.2.begins.group_is ∙ same), begins ∙ sym f.2.begins.turn)

  -- ---- one that begins its group

  -- the promise of a member, whose report goes with what the group stands on
  record IsOfMember (member : Member) : Type 0 where
    promise : Promised
    there : In promise w.promises
    number : promise.promise.number ≡ new.making.decision.group
    member_is : promise.promise.report.member ≡ member
    among : In promise.promise.report new.making.reports
    consistent : is_consistent new.making.before promise.promise.report ≡ true
    informed : is_by_informed promise.promise.report ≡ true

  module _ (begins : new.making.decision.turn ≡ 0) (comes : ComesFrom team w.promises older new) where
    of_member : (member : Member) → has_seat member new.making.decision ≡ true → IsOfMember member
    of_member member seat =
        let z = any_in (is_seat_of member) new.making.decision.seats.items seat in
        let r = of_each (λ (s : Seat). (r : Report) × In r new.making.reports × (is_consistent new.making.before r ≡ true) × (r.member ≡ s.member)) new.making.decision.seats.items z.0 comes.members z.1 in
        let x = of_each (WasReported w.promises new.making.decision.group) new.making.reports r.0 comes.promised r.1 in
        record {
          promise = x.0;
          there = x.1;
          number = x.3;
          member_is = ap (λ (q : Report). q.member) x.4 ∙ r.3 ∙ same_member_of z.0.member member z.2;
          among = subst (λ (q : Report). In q new.making.reports) (sym x.4) r.1;
          consistent = subst (λ (q : Report). is_consistent new.making.before q ≡ true) (sym x.4) r.2;
          informed = of_each IsInformedPromise w.promises x.0 reports.informed x.1;
        }

    -- what it tells isn't above what the group stands on
    not_above : (member : Member) → (x : IsOfMember member) → x.promise.promise.report.group ≤ (or_none new.making.before).group
    not_above member x =
        let report = x.promise.promise.report in
        not_older_group (or_none new.making.before).group (or_none new.making.before).turn report.group report.turn
        (of_each (λ (r : Report). is_by_informed r ≡ true → IsNotOlder (or_none new.making.before).group (or_none new.making.before).turn r.group r.turn) new.making.reports report comes.best.greatest x.among x.informed)

    module _ (best : Decision) (stands : new.making.before ≡ Some best) where
      best_made : WasMade older best
      best_made = subst (WasMadeIfAny older) stands comes.before

      -- the members are members of what it stands on: one that told a lower group has a seat there, and one that told its group had one in that
      seat_before : (member : Member) → has_seat member new.making.decision ≡ true → has_seat member best ≡ true
      seat_before member seat = subst (λ (m : Member). has_seat m best ≡ true) x.member_is (go (same_or_below report.group best.group low))
        where
          x : IsOfMember member
          x = of_member member seat

          report : Report
          report = x.promise.promise.report

          low : report.group ≤ best.group
          low = subst (λ (o : Option Decision). report.group ≤ (or_none o).group) stands (not_above member x)

          told : report.group ≡ best.group → (o : Option Decision) → x.promise.promise.decision ≡ o → TellsLast older x.promise o → has_seat report.member best ≡ true
          told same None is t = absurd (let none = t.0 in let some = comes.best.positive best stands in omega (arith, none, some, same))
          told same (Some d) is t =
              seat_in_each team w.promises older known_then.makes.arise known_then.once d best t.0 best_made (sym t.2 ∙ same) report.member (of_each IsSeated w.promises x.promise reports.seated x.there d is)

          go : (report.group ≡ best.group) ⊎ (report.group < best.group) → has_seat report.member best ≡ true
          go (inl same) = told same x.promise.promise.decision refl ((of_each (TellsDecision older) w.promises x.promise known_then.makes.tells x.there).informed x.informed)
          go (inr below) =
              subst (λ (o : Option Decision). has_seat report.member (or_none o) ≡ true) stands
              (seated_below new.making.before report x.informed x.consistent (subst (λ (o : Option Decision). report.group < (or_none o).group) (sym stands) below))

      -- an overtaken group below leaves this one overtaken
      also_overtaken : (first : Make) → first.making.decision.group ≡ best.group → IsOvertaken team older first → IsOvertaken team more new
      also_overtaken first group k = record {
        by = k.by;
        turn = k.turn;
        greater = go (cases_lt new.making.decision.group k.by.making.decision.group);
        before = inl (refl, there);
        supported = supported_more team older more k.by.making.decision.group (λ x i. inr i) k.supported;
      }
        where
          there : In k.by older
          there = earlier_in older first k.by k.before

          -- one between would be bound by a majority to stand on the lower one
          between : k.by.making.decision.group < new.making.decision.group → ⊥
          between low = (let not_below = above in let same = k.supported.2 in let greater = k.greater in omega (arith, not_below, same, greater, group))
            where
              b : Binds team w.promises more (λ (s : Seat). is_some s.support) k.supported.0 new
              b = majority_binds team w.promises more (agree_at team steps (record w { makes = more }) known_now) k.supported.0 new (inr k.supported.1) (inl refl) k.supported.3 begins
                  (subst (λ (g : ℕ). g < new.making.decision.group) (sym k.supported.2) low)

              above : k.supported.0.making.decision.group ≤ best.group
              above = subst (λ (d : Decision). k.supported.0.making.decision.group ≤ d.group) (same_Some b.best best (sym b.before ∙ stands)) b.group

          low_by : (k.by.making.decision.group ≡ new.making.decision.group) ⊎ (k.by.making.decision.group < new.making.decision.group) → new.making.decision.group < k.by.making.decision.group
          low_by (inl same) = absurd (not_made begins k.by there same)
          low_by (inr low) = absurd (between low)

          go : (new.making.decision.group < k.by.making.decision.group) ⊎ (k.by.making.decision.group ≤ new.making.decision.group) → new.making.decision.group < k.by.making.decision.group
          go (inl above) = above
          go (inr low) = low_by (same_or_below k.by.making.decision.group new.making.decision.group low)

      -- what is lost in the first decision of best's group is lost in this one
      lost_from : (id : UpdateId) (first : Make) → IsBeginOf best first → IsLostIn team older id first → IsLostIn team more id new
      lost_from id first begin k = record {
        absent = (λ same. absent, each_from (λ (m : Make). m.making.decision.group ≡ new.making.decision.group → IsAbsent id m.log) older (λ m i same. absurd (not_made begins m i same)));
        sender_out = by_seat (has_seat (sender id) new.making.decision) refl;
      }
        where
          list : new.log ≡ best_made.0.log
          list = group_list team w.promises more have_more new (inl refl) begins ∙ ap (list_of more) stands ∙ list_of_made more known_now.once best (best_made.0, inr best_made.1, best_made.2)

          absent : IsAbsent id new.log
          absent = subst (IsAbsent id) (sym list)
              (of_each (λ (m : Make). m.making.decision.group ≡ first.making.decision.group → IsAbsent id m.log) older best_made.0 k.absent best_made.1 (ap (λ (d : Decision). d.group) best_made.2 ∙ sym begin.begins.group_is))

          go : has_seat (sender id) first.making.decision ≡ true → (has_seat (sender id) first.making.decision ≡ false) ⊎ IsOvertaken team older first → IsOvertaken team more new
          go seat (inl out) = absurd (cc)
          go seat (inr late) = also_overtaken first begin.begins.group_is late

          by_seat : (b : Bool) → has_seat (sender id) new.making.decision ≡ b → (has_seat (sender id) new.making.decision ≡ false) ⊎ IsOvertaken team more new
          by_seat false e = inl e
          by_seat true e = inr (go (seat_of_members first.making.decision best (sender id) begin.same_members (seat_before (sender id) e)) k.sender_out)

    -- what a process lost is lost in it: what it stands on isn't below the process's last decision, and names the process
    lost_new : (who : ℕ) (p : Process) → OfMember team steps w who p → 1 ≤ (or_none (last_of p.belief)).group → (id : UpdateId) → IsLost team older p id
        → (or_none (last_of p.belief)).group ≤ new.making.decision.group → has_seat (member_of p.identity) new.making.decision ≡ true → IsLostIn team more id new
    lost_new who p mine some id lost low seat =
        let last = some_last (last_of p.belief) some in
        by_group last.0 last.1 (same_or_below last.0.group new.making.decision.group (subst (λ (o : Option Decision). (or_none o).group ≤ new.making.decision.group) last.1 low))
      where
        x : IsOfMember (member_of p.identity)
        x = of_member (member_of p.identity) seat

        -- it stands on one of the group of the process's last decision, or a greater one
        onto : (d : Decision) → last_of p.belief ≡ Some d → x.promise.promise.report.group ≡ d.group → (o : Option Decision) → new.making.before ≡ o → IsLostIn team more id new
        onto d is group None stands =
            absurd (let high = subst (λ (o : Option Decision). x.promise.promise.report.group ≤ (or_none o).group) stands (not_above (member_of p.identity) x) in
            let positive = subst (λ (o : Option Decision). 1 ≤ (or_none o).group) is some in omega (arith, high, group, positive))
        onto d is group (Some best) stands =
            let high = subst (λ (o : Option Decision). x.promise.promise.report.group ≤ (or_none o).group) stands (not_above (member_of p.identity) x) in
            let first = first_of_made team w.promises older known_then.makes.arise best (best_made best stands) in
            let number = first.2.begins.group_is in
            let last = ap (λ (o : Option Decision). (or_none o).group) is in
            lost_from best stands id first.0 first.2
            (of_each (IsLostAt team p id older) older first.0 lost first.1 first.2.begins.turn
            (omega (arith, high, group, number, last)) (seat_of_members first.0.making.decision best (member_of p.identity) first.2.same_members (seat_before best stands (member_of p.identity) seat)))

        -- below its promise it stands still
        still : (d : Decision) → last_of p.belief ≡ Some d → d.group < new.making.decision.group → IsLostIn team more id new
        still d is below =
            let view = viewed p.belief d is in
            let number = x.number in
            let group = ap (λ (o : Option Decision). (or_none o).group) view in
            let same = of_each (λ (z : Promised). z.promise.report.member ≡ member_of p.identity → (or_none (view_decision p.belief)).group < z.promise.number → SaysTheSame p z) w.promises x.promise mine.still x.there x.member_is (omega (arith, below, number, group)) in
            onto d is (sym same.group ∙ group) new.making.before refl

        by_group : (d : Decision) → last_of p.belief ≡ Some d → (d.group ≡ new.making.decision.group) ⊎ (d.group < new.making.decision.group) → IsLostIn team more id new
        by_group d is (inl same) = let was = last_made older p d mine.maker.keeps is in absurd (not_made begins was.0 was.1 (ap (λ (z : Decision). z.group) was.2 ∙ same))
        by_group d is (inr below) = still d is below

  -- ---- an older group

  module _ (added : AddsOfMembers team new) (id : UpdateId) (c : Make) (i : In c older) (begins : c.making.decision.turn ≡ 0) (k : IsLostIn team older id c) where
    -- where the new one goes on from its last decision
    module _ (last : Decision) (stands : new.making.before ≡ Some last) (was : WasMade older last) (group : last.group ≡ c.making.decision.group) where
      refuted : has_seat (sender id) last ≡ true → HasMajority team last → (has_seat (sender id) c.making.decision ≡ false) ⊎ IsOvertaken team older c → ⊥
      refuted seat majority (inl out) =
          let there = seat_in_each team w.promises older known_then.makes.arise known_then.once last c.making.decision was (c, i, refl) group (sender id) seat in cc
      refuted seat majority (inr late) = overtaken_at team steps w known_then c begins late (was.0, was.1, ap (λ (d : Decision). d.group) was.2 ∙ group, subst (HasMajority team) (sym was.2) majority)

      -- it adds none of this id
      not_added : IsAbsent id new.making.appended
      not_added = each_from (λ (u : Kept). (u.entry.id ≡ id) → ⊥) new.making.appended (λ u j same.
          let a = subst (λ (o : Option Decision). IsAddedBy team o u) stands (of_each (IsAddedBy team new.making.before) new.making.appended u added j) in
          refuted (subst (λ (z : UpdateId). has_seat (sender z) last ≡ true) same a.seat) a.majority k.sender_out)

      not_before : IsAbsent id (list_of more new.making.before)
      not_before =
          subst (IsAbsent id) (sym (ap (list_of more) stands ∙ list_of_made more known_now.once last (was.0, inr was.1, was.2)))
          (of_each (λ (m : Make). m.making.decision.group ≡ c.making.decision.group → IsAbsent id m.log) older was.0 k.absent was.1 (ap (λ (d : Decision). d.group) was.2 ∙ group))

      next_absent : IsAbsent id new.log
      next_absent = subst (IsAbsent id) (sym (listed team w.promises more known_now.makes.arise known_now.once lists.listed new (inl refl)))
          (all_joined (λ (u : Kept). (u.entry.id ≡ id) → ⊥) (list_of more new.making.before) new.making.appended not_before not_added)

    absent : Arises team w.promises older new → new.making.decision.group ≡ c.making.decision.group → IsAbsent id new.log
    absent (AsFirst first comes) same = absurd (not_made first c i (sym same))
    absent (AsNext last f) same = next_absent last f.before f.was_made (sym f.group ∙ same)

    -- what is lost in it stays so: what the new one adds is of members, and a majority supports what it is added to
    lost_old : IsLostIn team more id c
    lost_old = record { absent = (absent known_now.makes.arise.0, k.absent); sender_out = ⊎_map (λ out. out) (overtaken_still team new older c) k.sender_out }

  -- ---- all groups

  -- What a process lost is lost still when a decision is made, by itself or by another one.
  lost_with_new : AddsOfMembers team new → (who : ℕ) (p : Process) → OfMember team steps w who p → 1 ≤ (or_none (last_of p.belief)).group → (id : UpdateId)
      → IsLost team older p id → IsLost team more p id
  lost_with_new added who p mine some id lost = (first known_now.makes.arise.0, each_from (IsLostAt team p id more) older (λ c i begins low seat. lost_old added id c i begins (of_each (IsLostAt team p id older) older c lost i begins low seat)))
    where
      no_first : (last : Decision) → new.making.decision.turn ≡ suc last.turn → new.making.decision.turn ≡ 0 → ⊥
      no_first last next begins = cc

      first : Arises team w.promises older new → IsLostAt team p id more new
      first (AsFirst turn comes) begins low seat = lost_new begins comes who p mine some id lost low seat
      first (AsNext last f) begins low seat = absurd (no_first last f.turn begins)

-- ---- the effect

-- A decision is made, and these laws hold before that and after it.
module _ (team : Team) (past : List Step) (s : Step) (here : Here) (x y : State) (at : Stepping team past s here) (before : (before_beginnings team).History (s ∷ past) x.written) (after : (before_beginnings team).History (s ∷ past) y.written)
    (c : Makes here x y) (who : ℕ) (p : Process) (mine : OfMember team (s ∷ past) x.written who p) where
  -- the new make
  new_one : Make
  new_one = make_item (member_of x.process.identity) here.life here.step x.written.makes c.making

  -- What a process lost, before it takes the new decision if it made that, is lost with it: where it took a decision before.
  pub made_lost : 1 ≤ (or_none (last_of p.belief)).group → (id : UpdateId) → IsLost team x.written.makes p id → IsLost team y.written.makes p id
  unfolding new_one
  made_lost some id lost = subst (λ (w : Written). IsLost team w.makes p id) (sym c.written)
      (lost_with_new team (s ∷ past) x.written before.0.0.0.0 before.0.1 new_one (subst (OfGroups team (s ∷ past)) known after.0.0.0.0) (subst (λ (w : Written). AreLists w.makes) known after.1) (added_by team past s here x y at c) who p mine some id lost)
    where
      known : y.written ≡ record (x.written) { makes = new_one ∷ x.written.makes }
      known = c.written
