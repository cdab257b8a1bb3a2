-- What went early at a process is marked there, or lost for good.
use Rattle.std.proofs.Common.{◌≡◌, ◌≢◌, refl, sym, ap, subst, ◌∙◌, inl, inr, ◌⊎◌, ℕ, ◌≤◌, Bool, true, false, not, List, ◌∷◌, ◌++◌, filter, Option, Some, arith}
use Rattle.std.specs.List.{AllByRecursion}
use Rattle.std.proofs.Math.Logic.{⊎_map}
use Rattle.tw_machine.specs.Types.{Team, Decision, Kept, UpdateId, Step}
use Rattle.tw_types.specs.Beliefs.{Belief, Log, is_informed, last_of}
use Rattle.tw_types.specs.Decisions.{or_none}
use Rattle.tw_types.specs.Deliveries.{weaks_marked, log_delivered}
use Rattle.tw_types.specs.Items.{In}
use Rattle.tw_types.specs.Logs.{needed, log_after}
use Rattle.tw_types.specs.Process.{Process, started}
use Rattle.tw_types.specs.Updates.{with_pending, waits_before, settled}
use Rattle.tw_types.specs.Waiting.{Waiting, payloads_of}
use Rattle.tw_types.proofs.Appended.{in_filter}
use Rattle.tw_machine.specs.Delivering.{all_told}
use Rattle.tw_machine.specs.History.{Line, line_item}
use Rattle.tw_machine.specs.Run.{Delivered}
use Rattle.tw_machine.specs.Standing.{member_of}
use Rattle.tw_machine.specs.World.{world}
use Rattle.tw_machine.proofs.Tables.{all_of}
use Rattle.safety_laws.specs.Beginnings.{IsEndOfKnown}
use Rattle.safety_laws.specs.Delivered.{IsPassedOf, IsNamedLine}
use Rattle.safety_laws.specs.Early.{IsMarked, IsLost, IsMarkedOrLost, lost}
use Rattle.safety_laws.specs.Effects.{Written, State, Here, Waits, Stays, Puts, Fills, Goes, ForTaking, ForGroup, Takes, Makes, Delivers, Change}
use Rattle.safety_laws.specs.Groups.{OfMember, of_groups}
use Rattle.safety_laws.specs.HasLine.{HasLastIfOwn}
use Rattle.safety_laws.specs.Laws.{Law, Holds, Both}
use Rattle.safety_laws.specs.Made.{WasMade}
use Rattle.safety_laws.specs.Pending.{pending}
use Rattle.safety_laws.specs.Seated.{AllAddOfSeats}
use Rattle.safety_laws.proofs.HasLine.{with_last, last_too}
use Rattle.safety_laws.proofs.Held.{may_take}
use Rattle.safety_laws.proofs.ListLaws.{with_beginnings}
use Rattle.safety_laws.proofs.Lists.{of_each, each_from, each_weaker, in_first, in_last}
use Rattle.safety_laws.proofs.LostMakes.{made_lost}
use Rattle.safety_laws.proofs.LostMarks.{MarksStay, marks_same, mark_stays, marks_joined, log_marks, pending_marks, IsMarkedIn, early_are_marked}
use Rattle.safety_laws.proofs.LostTaken.{KnowsMakes, Entered, lost_still, marked_or_lost}
use Rattle.safety_laws.proofs.MadeLists.{More, more_same, more_by, viewed, last_made, own_group, some_last}
use Rattle.safety_laws.proofs.Passed.{none_of_started, own_list, line_of_none_else}
use Rattle.safety_laws.proofs.PassedLists.{each_line}
use Rattle.safety_laws.proofs.Pending.{pending_after, pending_rules}
use Rattle.safety_laws.proofs.Seated.{seated_rules}
use Rattle.safety_laws.proofs.Stack.{Stepping, LawRules, RulesOver, IsPartOf, OfHistory, stack, rests_on, part_holds, over_any}

-- ---- what the law rests on

-- the laws on what is delivered, that what is pending is settled, and that what is added is of members
abbrev before_lost : Team → Law
before_lost team = Both (Both (with_last team) pending) (OfHistory AllAddOfSeats)

-- the laws on lists are among these
beginnings_part : (team : Team) → IsPartOf (with_beginnings team) (before_lost team)
beginnings_part team = record { history = λ steps w k. k.0.0.0.0; running = λ steps w who p k. k.0.0.0.0 }

-- what is known of what was written down,
knows_makes : (team : Team) (steps : List Step) (w : Written) → (before_lost team).History steps w → KnowsMakes team steps w
knows_makes team steps w k = record { groups = k.0.0.0.0.0.0.0.0.0; lists = k.0.0.0.0.0.1; seated = k.1 }

-- and of a process
record KnowsProcess (team : Team) (steps : List Step) (w : Written) (who : ℕ) (p : Process) : Type 0 where
  mine : OfMember team steps w who p
  ends : IsEndOfKnown w.makes p
  base : p.log.base ≡ 0
  passed : AllByRecursion (IsPassedOf p) w.lines
  last : AllByRecursion (HasLastIfOwn p) w.lines

knows_process : (team : Team) (steps : List Step) (w : Written) (who : ℕ) (p : Process) → (before_lost team).Running steps w who p → KnowsProcess team steps w who p
knows_process team steps w who p k = record { mine = k.0.0.0.0.0.0.0.0.0; ends = k.0.0.0.0.1.1; base = k.0.0.0.1.base; passed = k.0.0.0.1.passed; last = k.0.0.1 }

-- ---- what waits keeps its marks

-- with an update more
with_marks : (u : Kept) (ks : List Kept) → MarksStay ks (with_pending u ks)
with_marks u ks k i early = (k, go (waits_before k u) refl, refl, early)
  where
    go : (b : Bool) → waits_before k u ≡ b → In k (with_pending u ks)
    go true e = in_first k (filter (λ (other : Kept). waits_before other u) ks) (u ∷ filter (λ (other : Kept). not (waits_before other u)) ks) (in_filter (λ (other : Kept). waits_before other u) ks k i e)
    go false e = in_last k (filter (λ (other : Kept). waits_before other u) ks) (u ∷ filter (λ (other : Kept). not (waits_before other u)) ks) (inr (in_filter (λ (other : Kept). not (waits_before other u)) ks k i (ap not e)))

-- whatever becomes of it
waiting_marks : (here : Here) (x y : State) → Waits here x y → MarksStay x.process.waiting.pending y.process.waiting.pending
waiting_marks here x y change = go change
  where
    same : y.process.waiting.pending ≡ x.process.waiting.pending → MarksStay x.process.waiting.pending y.process.waiting.pending
    same e = subst (MarksStay x.process.waiting.pending) (sym e) (marks_same x.process.waiting.pending)

    go : Waits here x y → MarksStay x.process.waiting.pending y.process.waiting.pending
    go (Stays is hold) = same (ap (λ (w : Waiting). w.pending) is)
    go (Puts u origin put is hold) = subst (MarksStay x.process.waiting.pending) (sym (ap (λ (w : Waiting). w.pending) is)) (with_marks u x.process.waiting.pending)
    go (Fills u origin put is hold) = same (ap (λ (w : Waiting). w.pending) is)
    go (Goes is hold) = same (ap (λ (w : Waiting). w.pending) is)
    go (ForTaking d from source is hold) = same (ap (λ (w : Waiting). w.pending) is)
    go (ForGroup ballot best from there told number is hold) = same (ap (λ (w : Waiting). w.pending) is)

-- ---- an effect

module _ (team : Team) (past : List Step) (s : Step) (here : Here) (x y : State) (at : Stepping team past s here)
    (before : Holds (before_lost team) (s ∷ past) (world team past) s.who x) (after : Holds (before_lost team) (s ∷ past) (world team past) s.who y) (k : Holds (lost team) (s ∷ past) (world team past) s.who x) where
  -- the schedule with this step
  abbrev now : List Step
  now = s ∷ past

  -- its process before the effect, and after it
  abbrev p : Process
  p = x.process

  abbrev q : Process
  q = y.process

  -- what is known before and after it of what was written down,
  makes_before : KnowsMakes team now x.written
  makes_before = knows_makes team now x.written before.history

  makes_after : KnowsMakes team now y.written
  makes_after = knows_makes team now y.written after.history

  -- and of its process
  own_before : KnowsProcess team now x.written s.who p
  own_before = knows_process team now x.written s.who p before.own

  own_after : KnowsProcess team now y.written s.who q
  own_after = knows_process team now y.written s.who q after.own

  -- ---- where no decision is entered

  -- what was marked or lost is still, where marks stay
  one_still : q.identity ≡ p.identity → q.belief ≡ p.belief → MarksStay (p.log.entries ++ p.waiting.pending) (q.log.entries ++ q.waiting.pending) → (l : Line) → IsMarkedOrLost team x.written.makes p l → IsMarkedOrLost team x.written.makes q l
  one_still identity belief stay l f mine early = ⊎_map
      (mark_stays (p.log.entries ++ p.waiting.pending) (q.log.entries ++ q.waiting.pending) stay l.delivered.update.entry.id)
      (lost_still team now x.written makes_before p q l.delivered.update.entry.id identity (let same = ap (λ (b : Belief). (or_none (last_of b)).group) belief in omega (arith, same)))
      (f (mine ∙ ap member_of identity) early)

  -- of all lines
  all_still : q.identity ≡ p.identity → q.belief ≡ p.belief → MarksStay (p.log.entries ++ p.waiting.pending) (q.log.entries ++ q.waiting.pending) → is_informed q.belief ≡ true → AllByRecursion (IsMarkedOrLost team x.written.makes q) x.written.lines
  all_still identity belief stay informed =
      each_weaker (IsMarkedOrLost team x.written.makes p) (IsMarkedOrLost team x.written.makes q) x.written.lines (one_still identity belief stay) (k.own (ap is_informed (sym belief) ∙ informed))

  -- where nothing is made or delivered
  still : y.written.lines ≡ x.written.lines → y.written.makes ≡ x.written.makes → q.identity ≡ p.identity → q.belief ≡ p.belief → MarksStay (p.log.entries ++ p.waiting.pending) (q.log.entries ++ q.waiting.pending)
      → Holds (lost team) now (world team past) s.who y
  still lines makes identity belief stay = record {
    history = tt;
    own = λ informed. rw (lines, makes) (all_still identity belief stay informed);
    others = λ i r other runs informed. rw (lines, makes) (k.others i r other runs informed);
  }

  -- where its list and what waits is the same too
  unmoved : y.written.lines ≡ x.written.lines → y.written.makes ≡ x.written.makes → q.identity ≡ p.identity → q.belief ≡ p.belief → q.log ≡ p.log → q.waiting ≡ p.waiting → Holds (lost team) now (world team past) s.who y
  unmoved lines makes identity belief log waiting = still lines makes identity belief (rw (log, waiting) (marks_same (p.log.entries ++ p.waiting.pending)))

  -- ---- a delivery

  -- marks stay,
  delivery_stays : (c : Delivers here x y) → MarksStay (p.log.entries ++ p.waiting.pending) (q.log.entries ++ q.waiting.pending)
  delivery_stays c = subst (λ (r : Process). MarksStay (p.log.entries ++ p.waiting.pending) (r.log.entries ++ r.waiting.pending)) (sym c.process)
      (marks_joined p.log.entries p.waiting.pending (log_delivered here.team c.last p.log).entries (weaks_marked p.waiting.pending) (log_marks here.team c.last p.log) (pending_marks p.waiting.pending))

  -- and what is delivered early gets one
  delivered_marked : (c : Delivers here x y) → AllByRecursion (λ (z : Delivered). IsMarkedOrLost team x.written.makes q (line_item here.row (member_of p.identity) here.life here.step z)) (all_told here.team c.last p.log p.waiting.pending)
  delivered_marked c = each_weaker (IsMarkedIn (q.log.entries ++ q.waiting.pending)) (λ (z : Delivered). IsMarkedOrLost team x.written.makes q (line_item here.row (member_of p.identity) here.life here.step z)) (all_told here.team c.last p.log p.waiting.pending)
      (λ z f mine early. inl (f early))
      (subst (λ (r : Process). AllByRecursion (IsMarkedIn (r.log.entries ++ r.waiting.pending)) (all_told here.team c.last p.log p.waiting.pending)) (sym c.process) (early_are_marked here.team c.last p.log p.waiting.pending))

  delivers : Delivers here x y → Holds (lost team) now (world team past) s.who y
  delivers c = record {
    history = tt;
    own = λ informed. subst (λ (w : Written). AllByRecursion (IsMarkedOrLost team w.makes q) w.lines) (sym c.written)
        (each_line (IsMarkedOrLost team x.written.makes q) here.row (member_of p.identity) here.life here.step (all_told here.team c.last p.log p.waiting.pending) x.written.lines (delivered_marked c)
        (all_still (ap (λ (r : Process). r.identity) c.process) (ap (λ (r : Process). r.belief) c.process) (delivery_stays c) informed));
    others = λ i r other runs informed. subst (λ (w : Written). AllByRecursion (IsMarkedOrLost team w.makes r) w.lines) (sym c.written)
        (each_line (IsMarkedOrLost team x.written.makes r) here.row (member_of p.identity) here.life here.step (all_told here.team c.last p.log p.waiting.pending) x.written.lines
        (all_of (λ (z : Delivered). IsMarkedOrLost team x.written.makes r (line_item here.row (member_of p.identity) here.life here.step z)) (all_told here.team c.last p.log p.waiting.pending)
        (λ z same early. absurd (line_of_none_else team past s x (part_holds (with_beginnings team) (before_lost team) now (world team past) s.who x (beginnings_part team) before) i r other runs same)))
        (k.others i r other runs informed));
  }

  -- ---- a decision is entered

  -- what an effect that enters this decision is
  record Enters (d : Decision) : Type 0 where
    more : More x.written.makes y.written.makes
    lines : y.written.lines ≡ x.written.lines
    identity : q.identity ≡ p.identity
    last : last_of q.belief ≡ Some d
    log : q.log ≡ log_after (payloads_of p.waiting) d p.log
    waiting : q.waiting.pending ≡ settled d p.waiting.pending
    promised : q.vote.promised ≡ p.vote.promised
    group : d.group ≡ p.vote.promised
    grown : 1 ≤ (or_none (last_of p.belief)).group → (id : UpdateId) → IsLost team x.written.makes p id → IsLost team y.written.makes p id

  module _ (d : Decision) (e : Enters d) where
    -- the decision was made
    was_made : WasMade y.written.makes d
    was_made = last_made y.written.makes q d own_after.mine.maker.keeps e.last

    -- from this last decision
    module _ (v : Decision) (v_is : last_of p.belief ≡ Some v) where
      -- which was made
      v_made : WasMade x.written.makes v
      v_made = last_made x.written.makes p v own_before.mine.maker.keeps v_is

      -- of a group that isn't above
      not_above : (or_none (last_of p.belief)).group ≤ (or_none (last_of q.belief)).group
      not_above =
          let own = own_group team now x.written s.who p v makes_before.groups.promises own_before.mine.promiser makes_before.groups.makes.arise own_before.mine.maker v_is in
          let low = own.below in
          let group = e.group in
          let old = ap (λ (o : Option Decision). (or_none o).group) v_is in
          let new = ap (λ (o : Option Decision). (or_none o).group) e.last in
          omega (arith, low, group, old, new)

      entered : Entered team now y.written makes_after s.who p q v d
      entered = record {
        view = viewed p.belief v v_is;
        last = e.last;
        group = e.group ∙ sym e.promised;
        mine = own_after.mine;
        was_v = (v_made.0, e.more v_made.0 v_made.1, v_made.2);
        was_d = was_made;
        list_v = own_list x.written.makes p v makes_before.groups.once own_before.base own_before.ends v_is v_made;
        list_d = own_list y.written.makes q d makes_after.groups.once own_after.base own_after.ends e.last was_made;
        entries = needed p.log d;
        log = ap (λ (l : Log). l.entries) e.log;
        pending = e.waiting;
        settled_before = before.own.0.1;
      }

      -- of an update that was marked or lost
      goes : (id : UpdateId) → (IsLost team x.written.makes p id → IsLost team y.written.makes p id) → IsMarked p id ⊎ IsLost team x.written.makes p id → IsMarked q id ⊎ IsLost team y.written.makes q id
      goes id grown (inl m) = marked_or_lost team now y.written makes_after s.who p q v d entered id m
      goes id grown (inr gone) = inr (lost_still team now y.written makes_after p q id e.identity not_above (grown gone))

    -- of all lines
    enters : is_informed q.belief ≡ true → AllByRecursion (IsMarkedOrLost team y.written.makes q) y.written.lines
    enters informed = subst (AllByRecursion (IsMarkedOrLost team y.written.makes q)) (sym e.lines) (each_from (IsMarkedOrLost team y.written.makes q) x.written.lines (λ l i own early.
        let mine = own ∙ ap member_of e.identity in
        let before_it = (of_each (IsPassedOf p) x.written.lines l own_before.passed i mine).0 in
        let positive = of_each (HasLastIfOwn p) x.written.lines l own_before.last i mine in
        let v = some_last (last_of p.belief) positive in
        goes v.0 v.1 l.delivered.update.entry.id (e.grown positive l.delivered.update.entry.id) (of_each (IsMarkedOrLost team x.written.makes p) x.written.lines l (k.own before_it) i mine early)))

  -- a decision is taken
  takes : (c : Takes here x y) → Enters c.taken_decision
  takes c = record {
    more = more_same x.written.makes y.written.makes (ap (λ (w : Written). w.makes) c.written);
    lines = ap (λ (w : Written). w.lines) c.written;
    identity = ap (λ (r : Process). r.identity) c.process;
    last = ap (λ (r : Process). last_of r.belief) c.process;
    log = ap (λ (r : Process). r.log) c.process;
    waiting = ap (λ (r : Process). r.waiting.pending) c.process ∙ pending_after c.taken_decision p.waiting;
    promised = ap (λ (r : Process). r.vote.promised) c.process;
    group = (may_take here x c.taken_decision c.source own_before.mine.promiser.held).promised;
    grown = λ positive id gone. subst (λ (w : Written). IsLost team w.makes p id) (sym c.written) gone;
  }

  -- what is lost stays lost when a decision is made
  grows : Makes here x y → (who : ℕ) (r : Process) → OfMember team now x.written who r → 1 ≤ (or_none (last_of r.belief)).group → (id : UpdateId) → IsLost team x.written.makes r id → IsLost team y.written.makes r id
  grows c = made_lost team past s here x y at before.history.0.0.0.0.0 after.history.0.0.0.0.0 c

  -- or made
  makes : (c : Makes here x y) → Enters c.making.decision
  makes c = record {
    more = more_by x.written.makes y.written.makes _ (ap (λ (w : Written). w.makes) c.written);
    lines = ap (λ (w : Written). w.lines) c.written;
    identity = ap (λ (r : Process). r.identity) c.process;
    last = ap (λ (r : Process). last_of r.belief) c.process;
    log = ap (λ (r : Process). r.log) c.process;
    waiting = ap (λ (r : Process). r.waiting.pending) c.process ∙ pending_after c.making.decision p.waiting;
    promised = ap (λ (r : Process). r.vote.promised) c.process;
    group = c.group;
    grown = grows c s.who p own_before.mine;
  }

  -- another process's are as they were, but for what grew
  others_grow : (c : Makes here x y) → (i : ℕ) (r : Process) → s.who ≢ i → (world team past).process_of i ≡ Some r → is_informed r.belief ≡ true → AllByRecursion (IsMarkedOrLost team y.written.makes r) y.written.lines
  others_grow c i r other runs informed = subst (AllByRecursion (IsMarkedOrLost team y.written.makes r)) (sym (ap (λ (w : Written). w.lines) c.written)) (each_from (IsMarkedOrLost team y.written.makes r) x.written.lines (λ l j mine early.
      let known = knows_process team now x.written i r (before.others i r other runs) in
      ⊎_map (λ marked. marked) (grows c i r known.mine (of_each (HasLastIfOwn r) x.written.lines l known.last j mine) l.delivered.update.entry.id)
      (of_each (IsMarkedOrLost team x.written.makes r) x.written.lines l (k.others i r other runs informed) j mine early)))

  -- ---- each effect

  changed : Change here x y → Holds (lost team) now (world team past) s.who y
  changed (Change.Keep c) = still c.lines c.makes c.identity c.belief
      (subst (λ (l : Log). MarksStay (p.log.entries ++ p.waiting.pending) (l.entries ++ q.waiting.pending)) (sym c.log)
      (marks_joined p.log.entries p.waiting.pending p.log.entries q.waiting.pending (marks_same p.log.entries) (waiting_marks here x y c.waits)))
  changed (Change.Give c) = unmoved (ap (λ (w : Written). w.lines) c.written) (ap (λ (w : Written). w.makes) c.written)
      (ap (λ (r : Process). r.identity) c.process) (ap (λ (r : Process). r.belief) c.process) (ap (λ (r : Process). r.log) c.process) (ap (λ (r : Process). r.waiting) c.process)
  changed (Change.Hold c) = unmoved (ap (λ (w : Written). w.lines) c.written) (ap (λ (w : Written). w.makes) c.written)
      (ap (λ (r : Process). r.identity) c.process) (ap (λ (r : Process). r.belief) c.process) (ap (λ (r : Process). r.log) c.process) (ap (λ (r : Process). r.waiting) c.process)
  changed (Change.Raise c) = unmoved (ap (λ (w : Written). w.lines) c.written) (ap (λ (w : Written). w.makes) c.written)
      (ap (λ (r : Process). r.identity) c.process) (ap (λ (r : Process). r.belief) c.process) (ap (λ (r : Process). r.log) c.process) (ap (λ (r : Process). r.waiting) c.process)
  changed (Change.Deliver c) = delivers c
  changed (Change.Take c) = record {
    history = tt;
    own = enters c.taken_decision (takes c);
    others = λ i r other runs informed. rw c.written (k.others i r other runs informed);
  }
  changed (Change.Make c) = record { history = tt; own = enters c.making.decision (makes c); others = others_grow c }

-- ---- the law

-- Lost marks are lost for good.
lost_rules : (team : Team) → RulesOver team (before_lost team) (lost team)
lost_rules team = record {
  nothing = tt;
  waits = λ past s w sound ok before k. tt;
  remains = λ past s w who p sound ok same before h own k. k;
  begins = λ past s w mode sound ok act more before k informed.
      each_weaker (IsNamedLine past) (IsMarkedOrLost team w.makes (started s.who mode s.h)) w.lines (λ x named same early. absurd (none_of_started team past s mode ok act x named same)) before.0.0.0.1.named;
  changes = λ past s here x y at mailed change before after k. changed team past s here x y at before after k change;
}

-- ---- the laws, one on the other

-- the laws on groups are among these
groups_part : (team : Team) → IsPartOf (of_groups team) (Both (with_last team) pending)
groups_part team = record { history = λ steps w k. k.0.0.0.0.0.0.0.0; running = λ steps w who p k. k.0.0.0.0.0.0.0.0 }

-- what the law rests on, of every schedule
before_lost_too : (team : Team) → LawRules team (before_lost team)
before_lost_too team = stack team (Both (with_last team) pending) (OfHistory AllAddOfSeats)
    (stack team (with_last team) pending (last_too team) (over_any team (with_last team) pending (pending_rules team)))
    (rests_on team (of_groups team) (Both (with_last team) pending) (OfHistory AllAddOfSeats) (groups_part team) (seated_rules team))

-- with it
abbrev pub with_lost : Team → Law
with_lost team = Both (before_lost team) (lost team)

pub lost_too : (team : Team) → LawRules team (with_lost team)
lost_too team = stack team (before_lost team) (lost team) (before_lost_too team) (lost_rules team)
