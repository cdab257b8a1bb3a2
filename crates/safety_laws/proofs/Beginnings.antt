-- What a process knows of a list begins the lists of later groups that name it, and its own list is the end of that.
use Rattle.std.proofs.Common.{◌≡◌, ◌≢◌, refl, sym, ap, subst, ◌∙◌, inl, inr, ◌⊎◌, ℕ, zero, suc, ◌≤◌, ◌<◌, true, false, not, List, [], ◌∷◌, ◌++◌, length, take, drop, Option, Some, None, Ok, arith}
use Rattle.std.specs.List.{AllByRecursion}
use Rattle.std.proofs.Math.Seq.{drop-append_seam}
use Rattle.tw_machine.specs.Types.{Team, Ballot, Decision, Entry, Kept, Report, Mode, Step}
use Rattle.tw_types.specs.declared.outputs.Mode.TheVariants as modes
use Rattle.tw_types.specs.Beliefs.{Belief, Informed, Blank, is_informed, view_decision, last_of, log_length}
use Rattle.tw_types.specs.Decisions.{or_none, decision_length}
use Rattle.tw_types.specs.Groups.{group_made, group_making}
use Rattle.tw_types.specs.Logs.{needed}
use Rattle.tw_types.specs.Process.{Process, started}
use Rattle.tw_types.specs.Reports.{is_consistent}
use Rattle.tw_types.specs.Updates.{has_update}
use Rattle.tw_types.specs.Votes.{Making}
use Rattle.tw_types.specs.Waiting.{payloads_of, held_payloads}
use Rattle.tw_machine.specs.Deciding.{entries_to_add, kept_to_add, next_made}
use Rattle.tw_machine.specs.History as items
use Rattle.tw_machine.specs.History.{Promised, list_of}
use Rattle.tw_machine.specs.Standing.{member_of, last_decision}
use Rattle.tw_machine.specs.World.{world}
use Rattle.tw_types.proofs.Lists.{all_joined}
use Rattle.safety_laws.specs.Beginnings.{IsBeginning, list_at, known, BeginsGroup, IsEndOfKnown, IsUnmarked, AreBegun, beginnings}
use Rattle.safety_laws.specs.Effects.{Written, State, Here, MakeReason, Next, Group, Makes, Takes, Change}
use Rattle.safety_laws.specs.Groups.{OfGroups, OfMember}
use Rattle.safety_laws.specs.Ids.{IsOfSend, MakeKeeps}
use Rattle.safety_laws.specs.Laws.{Holds}
use Rattle.safety_laws.specs.Lists.{AreLists, IsListOf, entries_of}
use Rattle.safety_laws.specs.Made.{WasMade, WasMadeIfAny, BallotHolds, best_of, made}
use Rattle.safety_laws.specs.Promises.{of_promises}
use Rattle.safety_laws.specs.Reported.{AreReports}
use Rattle.safety_laws.specs.Sends.{AllSentOnce}
use Rattle.safety_laws.specs.Still.{SaysTheSame}
use Rattle.safety_laws.proofs.Added.{kept_come}
use Rattle.safety_laws.proofs.Ballots.{older_is_not}
use Rattle.safety_laws.proofs.BeginLists.{same_or_below, view_pair, known_by_pair, begins_list, reaches_window}
use Rattle.safety_laws.proofs.Begun.{before_beginnings, begun, ballot_begins, promises_part, made_part, new_make, now_known, now_own, now_lists, more_lists, first_is, best_made, group_list_is, group_seated, known_still, process_begins, begun_changes}
use Rattle.safety_laws.proofs.Delivers.{log_delivers}
use Rattle.safety_laws.proofs.EndLists.{AllThere, MayEnter, needed_is, entered_ends, fits_low, there_of_entries, none_missing, ends_by, ends_same, added_there, kept_early, ends_delivered}
use Rattle.safety_laws.proofs.FirstDecisions.{IsFirstOf, were_distinct}
use Rattle.safety_laws.proofs.Held.{may_take}
use Rattle.safety_laws.proofs.Lists.{of_each, each_from}
use Rattle.safety_laws.proofs.LowLists.{next_low, IsUnopposed, unopposed, IsOwnReport, own_low}
use Rattle.safety_laws.proofs.Made.{source_made}
use Rattle.safety_laws.proofs.MadeLists.{has_last, last_made, own_group, viewed}
use Rattle.safety_laws.proofs.Prefixes.{HaveLists, nothing_begins, take_begins_also, list_is, list_of_made, list_older, list_holds}
use Rattle.safety_laws.proofs.Stack.{Stepping, IsMailed, RulesOver, IsPartOf, part_holds}
use Rattle.safety_laws.proofs.Turns.{all_positive}

-- the half on beginnings
begun_part : IsPartOf begun beginnings
begun_part = record { history = λ steps w k. k.begun; running = λ steps w who p k. k.0 }

-- one that is informed follows none
last_viewed : (b : Belief) → is_informed b ≡ true → last_of b ≡ view_decision b
last_viewed (Informed last) e = refl
last_viewed (Blank followed) e = absurd (cc)

-- one that isn't above nor the same is below
not_same : (a b : ℕ) → a ≤ b → (a ≢ b) → a < b
not_same a b low other = go (same_or_below a b low)
  where
    go : (a ≡ b) ⊎ (a < b) → a < b
    go (inl same) = absurd (other same)
    go (inr less) = less

module _ (team : Team) (past : List Step) (s : Step) (here : Here) (x y : State) (at : Stepping team past s here) (mailed : IsMailed here x.written) (change : Change here x y)
    (before : Holds (before_beginnings team) (s ∷ past) (world team past) s.who x) (after : Holds (before_beginnings team) (s ∷ past) (world team past) s.who y) (k : Holds beginnings (s ∷ past) (world team past) s.who x) where
  -- the schedule with this step
  abbrev now : List Step
  now = s ∷ past

  -- its process
  abbrev p : Process
  p = x.process

  -- the makes before
  abbrev older : List items.Make
  older = x.written.makes

  -- what is known of the process
  mine : OfMember team now x.written s.who p
  mine = now_own team past s here x y at mailed change before after

  -- of promises and makes
  known_now : OfGroups team now x.written
  known_now = now_known team past s here x y at mailed change before after

  -- of lists
  lists : HaveLists team x.written.promises older
  lists = now_lists team past s here x y at mailed change before after

  -- of sends
  once : AllSentOnce x.written.sends
  once = before.history.0.0.0.1.0

  -- of payloads
  payloads : AllByRecursion (IsOfSend x.written.sends) (payloads_of p.waiting)
  payloads = before.own.0.0.1.waiting

  -- ---- a decision is taken

  -- it was made
  taken_made : (c : Takes here x y) → WasMade older c.taken_decision
  taken_made c = source_made team past s here x y at mailed change
      (part_holds (of_promises team) (before_beginnings team) now (world team past) s.who x (promises_part team) before)
      (part_holds (of_promises team) (before_beginnings team) now (world team past) s.who y (promises_part team) after)
      (part_holds (made team) (before_beginnings team) now (world team past) s.who x (made_part team) before) c.taken_decision c.source

  -- It goes on what the process knows: what is known begins its list, by its group or by the begin of that.
  take_enters : (c : Takes here x y) → (was : WasMade older c.taken_decision) → MayEnter x.written.sends older p c.taken_decision was.0.log
  take_enters c was = record {
    list_is = list_of_made older lists.once d was;
    begins = subst (IsBeginning (known older p)) (list_of_made older lists.once d was) (subst (λ l. IsBeginning l (list_of older (Some d))) (sym (known_by_pair team x.written.promises older lists p)) begins);
    low = low;
    window = window;
    there = none_missing p.log (payloads_of p.waiting) d was.0.log low window c.whole;
    sent = (of_each (MakeKeeps x.written.sends) older was.0 before.history.0.0.1.makes was.1).list;
    early = of_each IsUnmarked older was.0 k.history.unmarked was.1;
    payloads = payloads;
  }
    where
      d : Decision
      d = c.taken_decision

      low : d.low ≤ log_length p.log
      low = fits_low p.log d c.fits

      window : d.window.items ≡ entries_of (drop d.low was.0.log)
      window = subst (λ (z : Decision). z.window.items ≡ entries_of (drop z.low was.0.log)) was.2 (of_each IsListOf older was.0 before.history.1.whole was.1).window

      view : Decision
      view = or_none (view_decision p.belief)

      begins : IsBeginning (take (log_length p.log) (list_at older view.group view.turn)) (list_of older (Some d))
      begins =
          let may = may_take here x d c.source mine.promiser.held in
          begins_list team x.written.promises older lists (log_length p.log) view.group view.turn (member_of p.identity) d (view_pair older (view_decision p.belief) mine.maker.keeps.view) was
          (older_is_not view.group view.turn d.group d.turn may.newer) (λ low. may.seat)
          (λ m i turn seat low same. subst (λ l. IsBeginning l m.log) (known_by_pair team x.written.promises older lists p) (of_each (BeginsGroup p older) older m k.own.0 i turn seat low))

  -- so the process's list ends that of the decision
  take_ends : (c : Takes here x y) → IsEndOfKnown y.written.makes y.process
  take_ends c =
      let was = taken_made c in
      rw c.written (entered_ends x.written.sends older p c.taken_decision was.0.log once (take_enters c was) k.own.1 y.process (ap (λ (p : Process). p.log) c.process) (ap (λ (p : Process). p.belief) c.process))

  -- ---- a decision is made

  -- the makes with the new one
  abbrev more : Makes here x y → List items.Make
  more c = new_make team past s here x y at mailed change before after c ∷ older

  -- and their lists
  with_new : (c : Makes here x y) → HaveLists team x.written.promises (more c)
  with_new c = more_lists team past s here x y at mailed change before after c

  -- what was listed and kept of the new make
  new_list : (c : Makes here x y) → IsListOf (new_make team past s here x y at mailed change before after c)
  new_list c = (subst (λ (w : Written). AllByRecursion IsListOf w.makes) c.written after.history.1.whole).0

  -- its group is positive
  new_positive : (c : Makes here x y) → 1 ≤ c.making.decision.group
  new_positive c = (all_positive team x.written.promises (more c) (with_new c).arise).0

  -- its updates were sent
  new_keeps : (c : Makes here x y) → MakeKeeps x.written.sends (new_make team past s here x y at mailed change before after c)
  new_keeps c = (subst (λ (w : Written). AllByRecursion (MakeKeeps w.sends) w.makes) c.written after.history.0.0.1.makes).0

  -- and none is marked
  new_unmarked : (c : Makes here x y) → IsUnmarked (new_make team past s here x y at mailed change before after c)
  new_unmarked c = all_joined (λ (z : Kept). z.early ≡ false) (list_of older c.making.before) c.making.appended (list_holds (AllByRecursion (λ (z : Kept). z.early ≡ false)) tt older k.history.unmarked c.making.before) (go c.reason)
    where
      go : MakeReason here c.making c.t x y → AllByRecursion (λ (z : Kept). z.early ≡ false) c.making.appended
      go (Next last is turn same ballot) = subst (λ (m : Making). AllByRecursion (λ (z : Kept). z.early ≡ false) m.appended) (sym same) (kept_early here.team c.t last p)
      go (Group ballot is full e same none) = subst (λ (m : Making). AllByRecursion (λ (z : Kept). z.early ≡ false) m.appended) (sym same) tt

  -- what depends on the reason
  record Enters (c : Makes here x y) : Type 0 where
    begins : IsBeginning (known (more c) p) (new_make team past s here x y at mailed change before after c).log
    low : c.making.decision.low ≤ log_length p.log
    there : AllThere (payloads_of p.waiting) (drop (log_length p.log) (new_make team past s here x y at mailed change before after c).log)

  -- so the maker's list ends the new one
  make_ends : (c : Makes here x y) → Enters c → IsEndOfKnown y.written.makes y.process
  make_ends c by =
      let new = new_make team past s here x y at mailed change before after c in
      rw c.written (entered_ends x.written.sends (more c) p c.making.decision new.log once (record {
        list_is = list_is (more c) (with_new c).once new (inl refl);
        begins = by.begins;
        low = by.low;
        window = (new_list c).window;
        there = by.there;
        sent = (new_keeps c).list;
        early = new_unmarked c;
        payloads = payloads;
      }) (ends_by older (more c) p (list_older new older (with_new c).once (view_decision p.belief) mine.maker.keeps.view) k.own.1) y.process (ap (λ (p : Process). p.log) c.process) (ap (λ (p : Process). p.belief) c.process))

  -- what is known by more makes
  known_more : (c : Makes here x y) → known (more c) p ≡ known older p
  known_more c = known_still team now x.written known_now before.history.0.1 (new_make team past s here x y at mailed change before after c) lists (with_new c) p mine.maker.keeps.view

  -- a next decision goes on the whole list of the last one
  next_enters : (c : Makes here x y) → (last : Decision) → last_decision p ≡ Some last → c.making ≡ next_made here.team c.t last p → Enters c
  next_enters c last is same = record {
    begins = subst (λ l. IsBeginning l new.log) (sym (known_more c)) (take_begins_also (log_length p.log) (list_of older (view_decision p.belief)) new.log (added, list_is_joined));
    low = subst (λ (m : Making). m.decision.low ≤ log_length p.log) (sym same) (let low = next_low team x.written.promises older lists.arise at.sound.at_least_three last was (entries_to_add here.team c.t last p) c.t p.identity.who in omega (arith, low, length_is));
    there = subst (AllThere (payloads_of p.waiting)) (sym (ap (drop (log_length p.log)) list_is_joined ∙ ap (λ n. drop n (list_of older (view_decision p.belief) ++ added)) all_known ∙ drop-append_seam (list_of older (view_decision p.belief)) added))
        (added_there p.waiting.pending (held_payloads p.waiting.held) added (kept_come here.team c.t last p));
  }
    where
      new : items.Make
      new = new_make team past s here x y at mailed change before after c

      added : List Kept
      added = kept_to_add here.team c.t last p

      view : view_decision p.belief ≡ Some last
      view = viewed p.belief last is

      was : WasMade older last
      was = last_made older p last mine.maker.keeps is

      all_known : log_length p.log ≡ length (list_of older (view_decision p.belief))
      all_known = k.own.1.whole (has_last p last is)

      list_is_joined : new.log ≡ list_of older (view_decision p.belief) ++ added
      list_is_joined = ap (λ (m : Making). list_of older m.before ++ m.appended) same ∙ ap (λ o. list_of older o ++ added) (sym view)

      length_is : decision_length last ≡ log_length p.log
      length_is =
          let long : decision_length last ≡ length was.0.log = subst (λ (d : Decision). decision_length d ≡ length was.0.log) was.2 (of_each IsListOf older was.0 before.history.1.whole was.1).same_length in
          let list = ap length (ap (list_of older) view ∙ list_of_made older lists.once last was) in
          omega (arith, long, list, all_known)

  -- who makes a group is in a lower one: nothing was made yet of the number of its ballot
  view_below : (c : Makes here x y) → (ballot : Ballot) → p.ballot ≡ Some ballot → c.making.decision.group ≡ ballot.number → (or_none (view_decision p.belief)).group < c.making.decision.group
  view_below c ballot is number = go (view_decision p.belief) refl
    where
      informed : is_informed p.belief ≡ true
      informed = (mine.maker.ballot ballot is).informed

      go : (o : Option Decision) → view_decision p.belief ≡ o → (or_none o).group < c.making.decision.group
      go None view = let low = new_positive c in omega (arith, low)
      go (Some last) view =
          let last_is : last_decision p ≡ Some last = last_viewed p.belief informed ∙ view in
          let was = last_made older p last mine.maker.keeps last_is in
          let other = of_each (λ (m : items.Make). m.making.decision.group ≢ ballot.number) older was.0 (mine.unmade ballot is) was.1 in
          let own = own_group team now x.written s.who p last known_now.promises mine.promiser known_now.makes.arise mine.maker last_is in
          let low = own.below in
          let group = c.group in
          let made_group = ap (λ (d : Decision). d.group) was.2 in
          not_same last.group c.making.decision.group (omega (arith, low, group)) (λ e. other (made_group ∙ e ∙ number))

  -- a group goes on the list of best, which the maker's own report begins
  group_enters : (c : Makes here x y) → (ballot : Ballot) → p.ballot ≡ Some ballot → group_made here.team ballot p.log (payloads_of p.waiting) (member_of p.identity) c.t ≡ Ok c.making.decision
      → c.making ≡ group_making ballot c.making.decision → Enters c
  unfolding known_now lists with_new
  group_enters c ballot is e same = record {
    begins = process_begins team now x.written known_now before.history.0.1 new lists (with_new c) (group_seated team past s here x y at mailed change before after k.history.begun c ballot is e same) s.who p mine first.turn first.own_seat (view_below c ballot is first.group);
    low = subst (λ (d : Decision). d.low ≤ log_length p.log) free.same (let low = own.1.low in omega (arith, low, reported));
    there = subst (λ l. AllThere (payloads_of p.waiting) (drop (log_length p.log) l)) (sym (group_list_is team past s here x y at mailed change before after c ballot same)) (there_of ballot.best refl);
  }
    where
      new : items.Make
      new = new_make team past s here x y at mailed change before after c

      first : IsFirstOf team ballot (member_of p.identity) c.t c.making.decision
      first = first_is team past s here x y at mailed change before after c ballot is e

      holds : BallotHolds team now x.written s.who p ballot
      holds = mine.maker.ballot ballot is

      free : IsUnopposed team ballot p.log (payloads_of p.waiting) (member_of p.identity) c.t c.making.decision
      free = unopposed team ballot p.log (payloads_of p.waiting) (member_of p.identity) c.t c.making.decision
          (subst (λ (t : Team). group_made t ballot p.log (payloads_of p.waiting) (member_of p.identity) c.t ≡ Ok c.making.decision) at.same_team e)

      own : (r : Report) × IsOwnReport team ballot (member_of p.identity) c.t r
      own = own_low team ballot (member_of p.identity) c.t holds.below (were_distinct ballot.reports.items holds.distinct) free.there

      -- the process stands still since its own promise
      reported : log_length p.log ≡ own.0.length
      reported =
          let b = ballot_begins team now x.written s.who p ballot known_now before.history.0.1 before.history.1 k.history.begun (best_made team past s here x y at mailed change before after ballot is) holds own.0 own.1.there own.1.consistent in
          let low = view_below c ballot is first.group in
          let number = b.3 in
          let group = first.group in
          let still = of_each (λ (z : Promised). z.promise.report.member ≡ member_of p.identity → (or_none (view_decision p.belief)).group < z.promise.number → SaysTheSame p z) x.written.promises b.0 mine.still b.1 (ap (λ (r : Report). r.member) b.2 ∙ own.1.member) (omega (arith, low, number, group)) in
          still.length ∙ ap (λ (r : Report). r.length) b.2

      there_of : (best : Option Decision) → ballot.best ≡ best → AllThere (payloads_of p.waiting) (drop (log_length p.log) (list_of older best))
      there_of None best_is = none_there (log_length p.log)
        where
          none_there : (n : ℕ) → AllThere (payloads_of p.waiting) (drop n [])
          none_there zero = tt
          none_there (suc n) = tt
      there_of (Some best) best_is =
          let was : WasMade older best = subst (WasMadeIfAny older) best_is (best_made team past s here x y at mailed change before after ballot is) in
          let list = list_of_made older lists.once best was in
          let window : best.window.items ≡ entries_of (drop best.low was.0.log) = subst (λ (z : Decision). z.window.items ≡ entries_of (drop z.low was.0.log)) was.2 (of_each IsListOf older was.0 before.history.1.whole was.1).window in
          let low : best.low ≤ log_length p.log = subst (λ (o : Option Decision). (or_none o).low ≤ log_length p.log) best_is (let low = reaches_window ballot.best own.0 own.1.consistent in omega (arith, low, reported)) in
          subst (λ l. AllThere (payloads_of p.waiting) (drop (log_length p.log) l)) (sym list)
          (there_of_entries (payloads_of p.waiting) (drop (log_length p.log) was.0.log)
          (subst (AllByRecursion (λ (e : Entry). not (has_update e.id (payloads_of p.waiting)) ≡ false)) (ap (λ (o : Option Decision). needed p.log (or_none o)) best_is ∙ needed_is p.log best was.0.log low window) free.whole))

  -- whatever the reason
  enters : (c : Makes here x y) → Enters c
  enters c = go c.reason
    where
      go : MakeReason here c.making c.t x y → Enters c
      go (Next last is turn same ballot) = next_enters c last is same
      go (Group ballot is full e same none) = group_enters c ballot is e same

  -- ---- each effect

  -- the half on beginnings
  half : Holds begun now (world team past) s.who y
  half = begun_changes team past s here x y at mailed change before after change (part_holds begun beginnings now (world team past) s.who x begun_part k)

  -- where nothing is made
  same_makes : y.written.makes ≡ older → IsEndOfKnown older y.process → Holds beginnings now (world team past) s.who y
  same_makes same own = record {
    history = record { begun = half.history; unmarked = rw same k.history.unmarked };
    own = (half.own, rw same own);
    others = λ q r other runs. (half.others q r other runs, rw same (k.others q r other runs).1);
  }

  -- whatever the effect
  changed : Change here x y → Holds beginnings now (world team past) s.who y
  changed (Change.Keep c) = same_makes c.makes (ends_same older p y.process c.log c.belief k.own.1)
  changed (Change.Give c) = same_makes (ap (λ (w : Written). w.makes) c.written) (ends_same older p y.process (ap (λ (p : Process). p.log) c.process) (ap (λ (p : Process). p.belief) c.process) k.own.1)
  changed (Change.Hold c) = same_makes (ap (λ (w : Written). w.makes) c.written) (ends_same older p y.process (ap (λ (p : Process). p.log) c.process) (ap (λ (p : Process). p.belief) c.process) k.own.1)
  changed (Change.Raise c) = same_makes (ap (λ (w : Written). w.makes) c.written) (ends_same older p y.process (ap (λ (p : Process). p.log) c.process) (ap (λ (p : Process). p.belief) c.process) k.own.1)
  changed (Change.Deliver c) = same_makes (ap (λ (w : Written). w.makes) c.written) (ends_delivered older p y.process (log_delivers here x y c) (ap (λ (p : Process). p.belief) c.process) k.own.1)
  changed (Change.Take c) = same_makes (ap (λ (w : Written). w.makes) c.written) (subst (λ ms. IsEndOfKnown ms y.process) (ap (λ (w : Written). w.makes) c.written) (take_ends c))
  changed (Change.Make c) = record {
    history = record { begun = half.history; unmarked = rw c.written (new_unmarked c, k.history.unmarked) };
    own = (half.own, make_ends c (enters c));
    others = λ q r other runs.
        let view = (before.others q r other runs).0.0.0.0.maker.keeps.view in
        (half.others q r other runs, rw c.written (ends_by older (more c) r (list_older (new_make team past s here x y at mailed change before after c) older (with_new c).once (view_decision r.belief) view) (k.others q r other runs).1));
  }

-- a process that was just started knows nothing
fresh_ends : (makes : List items.Make) (who h : ℕ) (mode : Mode) → IsEndOfKnown makes (started who mode h)
fresh_ends makes who h modes.First = record { base = omega arith; passed = omega arith; within = omega arith; entries = refl; whole = λ informed. refl }
fresh_ends makes who h modes.Again = record { base = omega arith; passed = omega arith; within = omega arith; entries = refl; whole = λ informed. absurd (cc) }

-- in every schedule
pub beginnings_rules : (team : Team) → RulesOver team (before_beginnings team) beginnings
beginnings_rules team = record {
  nothing = record { begun = tt; unmarked = tt };
  waits = λ past s w sound ok before k. k;
  remains = λ past s w who p sound ok same before h own k. k;
  begins = λ past s w mode sound ok act more before k.
      (each_from (BeginsGroup (started s.who mode s.h) w.makes) w.makes (λ c i turn seat low. nothing_begins c.log), fresh_ends w.makes s.who s.h mode);
  changes = λ past s here x y at mailed change before after k. changed team past s here x y at mailed change before after k change;
}

-- ---- consistent reports

-- In a ballot of a running process the first items of the list that a consistent report names, as many as it says, begin best's list.
pub consistent_reports : (team : Team) (steps : List Step) (w : Written) (who : ℕ) (p : Process) → OfGroups team steps w → AreReports w → AreLists w.makes → AreBegun w → OfMember team steps w who p → (b : Ballot) → p.ballot ≡ Some b
    → AllByRecursion (λ (r : Report). is_consistent b.best r ≡ true → IsBeginning (take r.length (list_at w.makes r.group r.turn)) (list_of w.makes b.best)) b.reports.items
consistent_reports team steps w who p known reports lists all mine b is =
    each_from (λ (r : Report). is_consistent b.best r ≡ true → IsBeginning (take r.length (list_at w.makes r.group r.turn)) (list_of w.makes b.best)) b.reports.items (λ r i consistent.
    let made : WasMadeIfAny w.makes b.best = subst (λ (o : Option Ballot). WasMadeIfAny w.makes (best_of o)) is mine.maker.keeps.best in
    let z = ballot_begins team steps w who p b known reports lists all.begun made (mine.maker.ballot b is) r i consistent in
    subst (λ (q : Report). IsBeginning (take q.length (list_at w.makes q.group q.turn)) (list_of w.makes b.best)) z.2 z.4)
