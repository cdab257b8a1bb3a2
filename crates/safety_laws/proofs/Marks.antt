-- What a process has with a mark, in its list or of what waits, went early at it.
use Rattle.std.proofs.Common.{◌≡◌, refl, sym, ap, subst, ◌∙◌, inl, inr, ℕ, zero, suc, ◌-◌, Bool, true, false, cond, List, [], ◌∷◌, ◌++◌, map, filter, filter_map, Option, Some, None}
use Rattle.std.specs.Prelude.{slice_set}
use Rattle.std.specs.List.{AllByRecursion}
use Rattle.std.specs.Option.{option_map}
use Rattle.tw_machine.specs.Types.{Team, Datagram, Decision, Kept, Member, UpdateId, Mode, Step}
use Rattle.tw_types.specs.declared.datagram.Body.TheVariants as bodies
use Rattle.tw_types.specs.declared.outputs.Mode.TheVariants as modes
use Rattle.tw_types.specs.Beliefs.{Log, log_length}
use Rattle.tw_types.specs.Deliveries.{passes, run_passed, as_early, early_positions, marked_each, earlies_marked, weaks, weaks_marked, log_delivered, waiting_delivered}
use Rattle.tw_types.specs.Items.{In}
use Rattle.tw_types.specs.Logs.{log_at, marked_at, needed, log_after}
use Rattle.tw_types.specs.Process.{Process, started}
use Rattle.tw_types.specs.Updates.{may_be_early}
use Rattle.tw_types.specs.Waiting.{held_payloads, payloads_of}
use Rattle.tw_types.proofs.Appended.{in_map}
use Rattle.tw_types.proofs.Lists.{all_parted, all_joined}
use Rattle.tw_machine.specs.Delivering.{delivered_at, earlies_told, all_told}
use Rattle.tw_machine.specs.Dispatches.{Dispatch}
use Rattle.tw_machine.specs.History.{Line, line_item, lines_on}
use Rattle.tw_machine.specs.Run.{AtEarly, AtWait, Delivered}
use Rattle.tw_machine.specs.Standing.{member_of}
use Rattle.tw_machine.specs.World.{world}
use Rattle.safety_laws.specs.Early.{is_early, WentEarly, IsTold, AreTold, marks}
use Rattle.safety_laws.specs.Effects.{Written, State, Here, WasSent, Origin, ByMail, ByItself, Waits, Stays, Puts, Fills, Goes, ForTaking, ForGroup, Delivers, Change}
use Rattle.safety_laws.specs.Ids.{BodyKeeps}
use Rattle.safety_laws.specs.Laws.{Holds}
use Rattle.safety_laws.specs.Sends.{IsOfSender}
use Rattle.safety_laws.proofs.DeliveryLaws.{with_delivered}
use Rattle.safety_laws.proofs.IdLists.{same_id_of}
use Rattle.safety_laws.proofs.Lists.{of_each, each_weaker, in_first, in_last, in_filter_map}
use Rattle.safety_laws.proofs.MadeLists.{More}
use Rattle.safety_laws.proofs.Marked.{log_alike, one_marked, same_id}
use Rattle.safety_laws.proofs.SendLaws.{with_ids}
use Rattle.safety_laws.proofs.Stack.{IsMailed, IsPartOf, RulesOver, rests_on}
use Rattle.safety_laws.proofs.WaitingItems.{all_entered, all_put, all_filled, all_released, all_held, all_settled}

-- ---- lines

-- older lines stay,
older_lines : (row : ℕ) (member : Member) (life : ℕ) (s : Step) (zs : List Delivered) (older : List Line) → More older (lines_on row member life s zs older)
older_lines row member life s [] older x i = i
older_lines row member life s (z ∷ zs) older x i = older_lines row member life s zs (line_item row member life s z ∷ older) x (inr i)

-- and what is told gives one each
new_line : (row : ℕ) (member : Member) (life : ℕ) (s : Step) (zs : List Delivered) (older : List Line) (z : Delivered) → In z zs → In (line_item row member life s z) (lines_on row member life s zs older)
new_line row member life s [] older z i = absurd i
new_line row member life s (x ∷ zs) older z (inl e) = older_lines row member life s zs (line_item row member life s x ∷ older) (line_item row member life s z) (inl (ap (line_item row member life s) e))
new_line row member life s (x ∷ zs) older z (inr i) = new_line row member life s zs (line_item row member life s x ∷ older) z i

-- what went early did so where there are more lines
pub went_more : (lines more : List Line) (member : Member) (id : UpdateId) → More lines more → WentEarly lines member id → WentEarly more member id
went_more lines more member id all k = record { line = k.line; there = all k.line k.there; member_is = k.member_is; early = k.early; id_is = k.id_is }

told_more : (lines more : List Line) (p : Process) → More lines more → (k : Kept) → IsTold lines p k → IsTold more p k
told_more lines more p all k t early = went_more lines more (member_of p.identity) k.entry.id all (t early)

are_told_more : (lines more : List Line) (p : Process) → More lines more → AreTold lines p → AreTold more p
are_told_more lines more p all k = record {
  list = each_weaker (IsTold lines p) (IsTold more p) p.log.entries (told_more lines more p all) k.list;
  waiting = each_weaker (IsTold lines p) (IsTold more p) (payloads_of p.waiting) (told_more lines more p all) k.waiting;
}

-- ---- what gets a mark

-- a mark is of an update whose id is one of these
abbrev IsMarkOf : (UpdateId → Type 0) → Kept → Type 0
IsMarkOf P k = k.early ≡ true → P k.entry.id

-- one item more of a list
set_all : (P : Kept → Type 0) (xs : List Kept) (i : ℕ) (k : Kept) → P k → AllByRecursion P xs → AllByRecursion P (slice_set xs i k)
set_all P [] i k new all = tt
set_all P (x ∷ xs) zero k new all = (new, all.1)
set_all P (x ∷ xs) (suc i) k new all = (all.0, set_all P xs i k new all.1)

-- a log of which one position is marked
marked_some : (i : ℕ) (log : Log) (k : Kept) → log_at i log ≡ Some k → marked_at i log ≡ record log { entries = slice_set log.entries (i - log.base) (as_early k) }
marked_some i log k is = rw is refl

marked_none : (i : ℕ) (log : Log) → log_at i log ≡ None → marked_at i log ≡ log
marked_none i log is = rw is refl

-- at each position of it stands an update of the id that stood there
marked_back : (i j : ℕ) (log : Log) (u : Kept) → log_at j (marked_at i log) ≡ Some u → (old : Kept) × (log_at j log ≡ Some old) × (u.entry.id ≡ old.entry.id)
marked_back i j log u is =
    let marks = one_marked i log in
    let old = log_alike (marked_at i log) log (sym marks.base) (sym marks.entries) j u is in
    (old.0, old.1, sym (same_id u old.0 old.2))

-- where each of these positions has an update of such an id, so has each mark
marked_all : (P : UpdateId → Type 0) (positions : List ℕ) (log : Log) → ((i : ℕ) (k : Kept) → In i positions → log_at i log ≡ Some k → P k.entry.id) → AllByRecursion (IsMarkOf P) log.entries
    → AllByRecursion (IsMarkOf P) (marked_each positions log).entries
marked_all P [] log each all = all
marked_all P (i ∷ positions) log each all = marked_all P positions (marked_at i log) later (one (log_at i log) refl)
  where
    later : (j : ℕ) (u : Kept) → In j positions → log_at j (marked_at i log) ≡ Some u → P u.entry.id
    later j u at is = let old = marked_back i j log u is in subst P (sym old.2) (each j old.0 (inr at) old.1)

    one : (found : Option Kept) → log_at i log ≡ found → AllByRecursion (IsMarkOf P) (marked_at i log).entries
    one None none = subst (λ (l : Log). AllByRecursion (IsMarkOf P) l.entries) (sym (marked_none i log none)) all
    one (Some k) some = subst (λ (l : Log). AllByRecursion (IsMarkOf P) l.entries) (sym (marked_some i log k some))
        (set_all (IsMarkOf P) log.entries (i - log.base) (as_early k) (λ early. each i k (inl refl) some) all)

-- what waits and gets a mark is told
weaks_all : (P : UpdateId → Type 0) (pending : List Kept) → ((u : Kept) → In u (weaks pending) → P u.entry.id) → AllByRecursion (IsMarkOf P) pending → AllByRecursion (IsMarkOf P) (weaks_marked pending)
weaks_all P [] each all = tt
weaks_all P (k ∷ pending) each all = go (may_be_early k) each (λ less. weaks_all P pending less all.1)
  where
    go : (b : Bool) → ((u : Kept) → In u (map as_early (cond b (k ∷ filter may_be_early pending) (filter may_be_early pending))) → P u.entry.id)
        → (((u : Kept) → In u (weaks pending) → P u.entry.id) → AllByRecursion (IsMarkOf P) (weaks_marked pending)) → IsMarkOf P (cond b (as_early k) k) × AllByRecursion (IsMarkOf P) (weaks_marked pending)
    go true each rest = ((λ early. each (as_early k) (inl refl)), rest (λ u i. each u (inr i)))
    go false each rest = (all.0, rest each)

-- ---- an effect

module _ (team : Team) (past : List Step) (s : Step) (here : Here) (x y : State) (mailed : IsMailed here x.written)
    (before : Holds (with_ids team) (s ∷ past) (world team past) s.who x) (k : Holds marks (s ∷ past) (world team past) s.who x) where
  -- its process
  abbrev p : Process
  p = x.process

  abbrev Told : Kept → Type 0
  Told u = IsTold x.written.lines p u

  -- ---- what waits

  -- what was sent isn't marked
  sent_plain : (u : Kept) → WasSent x.written.sends u → u.early ≡ false
  sent_plain u w = ap (λ (v : Kept). v.early) (sym w.2) ∙ sym (ap (λ (v : Kept). v.early) (of_each (IsOfSender (s ∷ past)) x.written.sends w.0 before.history.0.1.1 w.1).fresh)

  -- nor is an update that comes, or that the process sends
  origin_told : (u : Kept) → Origin here x u → Told u
  origin_told u origin early = absurd (let no : u.early ≡ false = go origin in cc)
    where
      go : Origin here x u → u.early ≡ false
      go (ByItself was) = sent_plain u was
      go (ByMail head is) =
          let got = mailed (record { head = head; body = bodies.Update u }) is in
          sent_plain u (subst (λ (d : Datagram). BodyKeeps x.written.sends d.body) got.2 (of_each (λ (d : Dispatch). BodyKeeps x.written.sends d.datagram.body) x.written.sent got.0 before.history.1.told got.1))

  waiting_told : Waits here x y → AllByRecursion Told (payloads_of y.process.waiting)
  waiting_told (Stays is hold) = rw is k.own.waiting
  waiting_told (Puts u origin put is hold) = rw is (all_put Told u p.waiting (origin_told u origin) k.own.waiting)
  waiting_told (Fills u origin put is hold) = rw is (all_filled Told u p.waiting (origin_told u origin) k.own.waiting)
  waiting_told (Goes is hold) = rw is (all_released Told p.waiting k.own.waiting)
  waiting_told (ForTaking d source from is hold) = rw is (all_held Told d (log_length p.log) source p.waiting k.own.waiting)
  waiting_told (ForGroup ballot best source there told number is hold) = rw is (all_held Told best (log_length p.log) source p.waiting k.own.waiting)

  -- ---- a decision is entered

  -- an entry that gets a payload has its mark
  list_told : (d : Decision) → AllByRecursion Told (log_after (payloads_of p.waiting) d p.log).entries
  list_told d = all_joined Told p.log.entries (filter_map _ (needed p.log d)) k.own.list
      (all_entered Told (payloads_of p.waiting) (needed p.log d) k.own.waiting (λ e u i t same early. subst (WentEarly x.written.lines (member_of p.identity)) (same_id_of u.entry.id e.id same) (t early)))

  -- ---- each effect

  -- where no line is new
  no_line : y.written.lines ≡ x.written.lines → y.process.identity ≡ p.identity → AllByRecursion Told y.process.log.entries → AllByRecursion Told (payloads_of y.process.waiting) → Holds marks (s ∷ past) (world team past) s.who y
  no_line lines identity list waiting = record {
    history = tt;
    own = record { list = rw (lines, identity) list; waiting = rw (lines, identity) waiting };
    others = λ q r other runs. rw lines (k.others q r other runs);
  }

  -- and the process has what it had
  still : y.written.lines ≡ x.written.lines → y.process.identity ≡ p.identity → y.process.log ≡ p.log → y.process.waiting ≡ p.waiting → Holds marks (s ∷ past) (world team past) s.who y
  still lines identity log waiting = no_line lines identity (rw log k.own.list) (rw waiting k.own.waiting)

  -- what is delivered gets its lines, and only that is marked
  module _ (c : Delivers here x y) where
    -- all that is told
    told : List Delivered
    told = all_told here.team c.last p.log p.waiting.pending

    -- the list behind the run
    behind : Log
    behind = run_passed here.team c.last p.log

    -- the lines then
    lines : List Line
    lines = lines_on here.row (member_of p.identity) here.life here.step told x.written.lines

    more : More x.written.lines lines
    unfolding lines
    more = older_lines here.row (member_of p.identity) here.life here.step told x.written.lines

    -- an update of this id went early
    abbrev Went : UpdateId → Type 0
    Went id = WentEarly lines (member_of p.identity) id

    -- of what is told early there is a line
    went : (z : Delivered) → In z told → is_early z.place ≡ true → Went z.update.entry.id
    unfolding lines
    went z i early = record {
      line = line_item here.row (member_of p.identity) here.life here.step z;
      there = new_line here.row (member_of p.identity) here.life here.step told x.written.lines z i;
      member_is = refl;
      early = early;
      id_is = refl;
    }

    -- an early position
    went_at : (i : ℕ) (u : Kept) → In i (early_positions here.team c.last behind.passed behind) → log_at i behind ≡ Some u → Went u.entry.id
    unfolding told behind
    went_at i u at is =
        let z : Delivered = delivered_at c.last (AtEarly i) (as_early u) in
        let early : List Delivered = earlies_told here.team c.last behind.passed behind in
        let there : In z early = in_filter_map (λ (i : ℕ). option_map (λ (v : Kept). delivered_at c.last (AtEarly i) (as_early v)) (log_at i behind)) (early_positions here.team c.last behind.passed behind) i z at
        (ap (option_map (λ (v : Kept). delivered_at c.last (AtEarly i) (as_early v))) is) in
        went z (in_first z (map _ (passes here.team c.last p.log) ++ early) (map (delivered_at c.last AtWait) (weaks p.waiting.pending)) (in_last z (map _ (passes here.team c.last p.log)) early there)) refl

    -- and one that waits
    went_waiting : (u : Kept) → In u (weaks p.waiting.pending) → Went u.entry.id
    unfolding told
    went_waiting u i =
        let z : Delivered = delivered_at c.last AtWait u in
        went z (in_last z (map _ (passes here.team c.last p.log) ++ earlies_told here.team c.last (run_passed here.team c.last p.log).passed (run_passed here.team c.last p.log)) (map (delivered_at c.last AtWait) (weaks p.waiting.pending))
        (in_map (delivered_at c.last AtWait) (weaks p.waiting.pending) u i)) refl

    -- older marks have older lines
    old_told : (list : List Kept) → AllByRecursion Told list → AllByRecursion (IsMarkOf Went) list
    old_told list all = each_weaker Told (IsMarkOf Went) list (λ u t early. went_more x.written.lines lines (member_of p.identity) u.entry.id more (t early)) all

    list_delivers : AllByRecursion (IsMarkOf Went) (log_delivered here.team c.last p.log).entries
    unfolding earlies_marked run_passed behind
    list_delivers = marked_all Went (early_positions here.team c.last behind.passed behind) behind went_at (old_told p.log.entries k.own.list)

    waiting_delivers : AllByRecursion (IsMarkOf Went) (payloads_of (waiting_delivered p.waiting))
    waiting_delivers =
        let parts = all_parted (IsMarkOf Went) p.waiting.pending (held_payloads p.waiting.held) (old_told (payloads_of p.waiting) k.own.waiting) in
        all_joined (IsMarkOf Went) (weaks_marked p.waiting.pending) (held_payloads p.waiting.held) (weaks_all Went p.waiting.pending went_waiting parts.0) parts.1

    lines_are : y.written.lines ≡ lines
    unfolding lines told
    lines_are = ap (λ (w : Written). w.lines) c.written

    delivers : Holds marks (s ∷ past) (world team past) s.who y
    delivers = record {
      history = tt;
      own = rw (c.process, lines_are) (record { list = list_delivers; waiting = waiting_delivers });
      others = λ q r other runs. rw lines_are (are_told_more x.written.lines lines r more (k.others q r other runs));
    }

  -- whatever the effect
  changed : Change here x y → Holds marks (s ∷ past) (world team past) s.who y
  changed (Change.Keep c) = no_line c.lines c.identity (rw c.log k.own.list) (waiting_told c.waits)
  changed (Change.Give c) = still (ap (λ (w : Written). w.lines) c.written) (ap (λ (q : Process). q.identity) c.process) (ap (λ (q : Process). q.log) c.process) (ap (λ (q : Process). q.waiting) c.process)
  changed (Change.Hold c) = still (ap (λ (w : Written). w.lines) c.written) (ap (λ (q : Process). q.identity) c.process) (ap (λ (q : Process). q.log) c.process) (ap (λ (q : Process). q.waiting) c.process)
  changed (Change.Raise c) = still (ap (λ (w : Written). w.lines) c.written) (ap (λ (q : Process). q.identity) c.process) (ap (λ (q : Process). q.log) c.process) (ap (λ (q : Process). q.waiting) c.process)
  changed (Change.Deliver c) = delivers c
  changed (Change.Take c) = no_line (ap (λ (w : Written). w.lines) c.written) (ap (λ (q : Process). q.identity) c.process)
      (rw c.process (list_told c.taken_decision)) (rw c.process (all_settled Told c.taken_decision p.waiting k.own.waiting))
  changed (Change.Make c) = no_line (ap (λ (w : Written). w.lines) c.written) (ap (λ (q : Process). q.identity) c.process)
      (rw c.process (list_told c.making.decision)) (rw c.process (all_settled Told c.making.decision p.waiting k.own.waiting))

-- ---- the law

-- nothing waits at a process that was just started, and its list is empty
begins : (older : List Line) (who h : ℕ) (mode : Mode) → AreTold older (started who mode h)
begins older who h modes.First = record { list = tt; waiting = tt }
begins older who h modes.Again = record { list = tt; waiting = tt }

ids_part : (team : Team) → IsPartOf (with_ids team) (with_delivered team)
ids_part team = record { history = λ steps w k. k.0.0.0.0; running = λ steps w who p k. k.0.0.0.0 }

-- Each mark has its line, where what comes was sent.
pub marks_rules : (team : Team) → RulesOver team (with_delivered team) marks
marks_rules team = rests_on team (with_ids team) (with_delivered team) marks (ids_part team) (record {
  nothing = tt;
  waits = λ past s w sound ok before k. tt;
  remains = λ past s w who p sound ok same before h own k. k;
  begins = λ past s w mode sound ok act more before k. begins w.lines s.who s.h mode;
  changes = λ past s here x y at mailed change before after k. changed team past s here x y mailed before k change;
})
