-- What was delivered is of lists, and backed.
use Rattle.std.proofs.Common.{◌≡◌, ◌≢◌, refl, sym, ap, subst, ◌∙◌, inl, inr, ◌⊎◌, ℕ, ◌<◌, true, false, List, ◌∷◌, map, take, drop, Some, arith}
use Rattle.std.specs.Prelude.{slice_get, ◌||◌}
use Rattle.std.specs.List.{AllByRecursion}
use Rattle.std.proofs.Math.Seq.{take-length}
use Rattle.std.proofs.lemmas.Bool.{false_from_ne_true}
use Rattle.tw_machine.specs.Types.{Team, Decision, Kept, Member, How, Mode, Step}
use Rattle.tw_types.specs.declared.outputs.How.TheVariants.{Late}
use Rattle.tw_types.specs.declared.outputs.Mode.TheVariants as modes
use Rattle.tw_types.specs.Beliefs.{Log, is_informed, view_decision, last_of}
use Rattle.tw_types.specs.Deliveries.{fulfils, passes_at, how_passed, run_passed}
use Rattle.tw_types.specs.Items.{In}
use Rattle.tw_types.specs.Logs.{log_at}
use Rattle.tw_types.specs.Process.{Process, started}
use Rattle.tw_types.specs.Sends.{as_sent}
use Rattle.tw_types.specs.Waiting.{payloads_of, held_payloads}
use Rattle.tw_machine.specs.Delivering.{all_told}
use Rattle.tw_machine.specs.History.{Line, SentUpdate, line_item, lines_on, list_of}
use Rattle.tw_machine.specs.History as items
use Rattle.tw_machine.specs.Run.{Delivered}
use Rattle.tw_machine.specs.Standing.{member_of}
use Rattle.tw_machine.specs.World.{world, Admissible}
use Rattle.safety_laws.specs.Beginnings.{known, unmarked, IsEndOfKnown}
use Rattle.safety_laws.specs.Delivered.{IsPassedOf, HasAt, PassesAscend, IsBacked, IsNamedLine, delivered, StandsPassed}
use Rattle.safety_laws.specs.Effects.{Written, State, Here, Delivers, WasSent, Numbers, SendsNone, SendsOne, Change}
use Rattle.safety_laws.specs.Groups.{OfGroups, OfMember}
use Rattle.safety_laws.specs.Ids.{IsOfSend}
use Rattle.safety_laws.specs.Laws.{Holds}
use Rattle.safety_laws.specs.Made.{WasMade}
use Rattle.safety_laws.specs.Once.{AllOnce}
use Rattle.safety_laws.specs.Readings.{HasRead}
use Rattle.safety_laws.proofs.Delivers.{log_delivers}
use Rattle.safety_laws.proofs.Induction.{start_by}
use Rattle.safety_laws.proofs.ListLaws.{with_beginnings}
use Rattle.safety_laws.proofs.Lists.{of_each, each_weaker, in_first}
use Rattle.safety_laws.proofs.MadeLists.{More, more_same, more_by, viewed, last_made, has_last}
use Rattle.safety_laws.proofs.Marked.{cursor_delivers}
use Rattle.safety_laws.proofs.Names.{above_read}
use Rattle.safety_laws.proofs.PassedLists.{GoesOn, goes_same, goes_after, goes_delivered, IsTold, all_are_told, all_go_up, each_line, IsBelow, ascend_on, stands_in, late_told}
use Rattle.safety_laws.proofs.Prefixes.{list_of_made}
use Rattle.safety_laws.proofs.Stack.{Stepping, RulesOver}

-- ---- what stays

-- what was passed stays so in a log that goes on
stands_on : (p q : Process) (x : Line) → q.identity ≡ p.identity → (is_informed p.belief ≡ true → is_informed q.belief ≡ true) → GoesOn p.log q.log → IsPassedOf p x → IsPassedOf q x
stands_on p q x identity informed on k mine =
    let was = k (mine ∙ ap member_of identity) in (
      informed was.0,
      λ position how e.
          let s = was.1 position how e in
          let there = on.at position s.there s.at in
          let below = s.below in
          let more = on.more in
          record { below = omega (arith, below, more); there = there.0; at = there.1; same = there.2 ∙ s.same },
    )

all_stand_on : (p q : Process) (lines : List Line) → q.identity ≡ p.identity → (is_informed p.belief ≡ true → is_informed q.belief ≡ true) → GoesOn p.log q.log → AllByRecursion (IsPassedOf p) lines → AllByRecursion (IsPassedOf q) lines
all_stand_on p q lines identity informed on all = each_weaker (IsPassedOf p) (IsPassedOf q) lines (λ x. stands_on p q x identity informed on) all

-- a line is backed by more makes, and of more sends
backed_more : (team : Team) (makes more : List items.Make) (x : Line) → More makes more → IsBacked team makes x → IsBacked team more x
backed_more team makes more x all k = record { make = k.make; made = all k.make k.made; group = k.group; turn = k.turn; passed = k.passed; early = k.early; waited = k.waited }

keep_more : (sends more : List SentUpdate) (x : Line) → More sends more → IsOfSend sends x.delivered.update → IsOfSend more x.delivered.update
keep_more sends more x all w = (w.0, all w.0 w.1, w.2)

-- a line is named after a step more
named_still : (past : List Step) (s : Step) (x : Line) → IsNamedLine past x → IsNamedLine (s ∷ past) x
named_still past s x k = record { member = k.member; t = k.t; h = k.h; read = inr k.read; incarnation = k.incarnation }

-- a list that ends what is known, from its begin on, and that a process which took its decision has whole, is that decision's list
pub whole_list : (makes : List items.Make) (p : Process) (list : List Kept) → p.log.base ≡ 0 → IsEndOfKnown makes p → is_informed p.belief ≡ true → list_of makes (view_decision p.belief) ≡ list → map unmarked p.log.entries ≡ list
whole_list makes p list base ends informed is =
    ends.entries ∙ ap (λ n. drop n (known makes p)) base ∙ ap (λ n. take n (list_of makes (view_decision p.belief))) (ends.whole informed) ∙ take-length (list_of makes (view_decision p.belief)) ∙ is

-- that of its last decision
pub own_list : (makes : List items.Make) (p : Process) (d : Decision) → AllOnce makes → p.log.base ≡ 0 → IsEndOfKnown makes p → last_of p.belief ≡ Some d → (was : WasMade makes d) → map unmarked p.log.entries ≡ was.0.log
own_list makes p d once base ends is was = whole_list makes p was.0.log base ends (has_last p d is) (ap (list_of makes) (viewed p.belief d is) ∙ list_of_made makes once d was)

-- where what was passed stands at its position
pub passed_in : (p : Process) (list : List Kept) → p.log.base ≡ 0 → map unmarked p.log.entries ≡ list → (position : ℕ) (update : Kept) → StandsPassed p position update → slice_get list position ≡ Some (unmarked update)
passed_in p list base same position update k = stands_in p.log list base same position k.there k.at ∙ ap Some k.same

-- what may pass and isn't late is fulfilled
not_late : (team : Team) (d : Decision) (i : ℕ) (k : Kept) (how : How) → passes_at team d i k ≡ true → how ≡ how_passed k → how ≢ Late → fulfils team d i k.entry.atom ≡ true
not_late team d i k how may is other =
    let now : k.entry.late ≡ false = false_from_ne_true k.entry.late (λ e. other (is ∙ (late_told k).1 e)) in
    ap (λ b. b || fulfils team d i k.entry.atom) (sym now) ∙ may

-- a new line is of the process of the step, and of no other
pub line_of_none_else : (team : Team) (past : List Step) (s : Step) (x : State) → Holds (with_beginnings team) (s ∷ past) (world team past) s.who x → (q : ℕ) (r : Process) → s.who ≢ q → (world team past).process_of q ≡ Some r
    → member_of x.process.identity ≡ member_of r.identity → ⊥
line_of_none_else team past s x before q r other runs same =
    other (sym before.own.0.0.0.0.0.promiser.own.is ∙ ap (λ (m : Member). m.who) same ∙ (before.others q r other runs).0.0.0.0.0.promiser.own.is)

-- ---- an effect

module _ (team : Team) (past : List Step) (s : Step) (here : Here) (x y : State) (at : Stepping team past s here) (change : Change here x y)
    (before : Holds (with_beginnings team) (s ∷ past) (world team past) s.who x) (k : Holds (delivered team) (s ∷ past) (world team past) s.who x) where
  -- the schedule with this step
  abbrev now : List Step
  now = s ∷ past

  -- its process
  abbrev p : Process
  p = x.process

  -- what is known of it
  mine : OfMember team now x.written s.who p
  mine = before.own.0.0.0.0.0

  -- and of promises and makes
  known_now : OfGroups team now x.written
  known_now = before.history.0.0.0.0.0

  -- ---- where nothing is delivered

  -- the lines stay, the log goes on, and there may be more makes and sends
  no_line : y.written.lines ≡ x.written.lines → More x.written.makes y.written.makes → More x.written.sends y.written.sends
      → y.process.identity ≡ p.identity → (is_informed p.belief ≡ true → is_informed y.process.belief ≡ true) → GoesOn p.log y.process.log → y.process.log.base ≡ p.log.base
      → Holds (delivered team) now (world team past) s.who y
  no_line lines makes sends identity informed on base = record {
    history = record {
      named = subst (AllByRecursion (IsNamedLine now)) (sym lines) k.history.named;
      ascend = rw lines k.history.ascend;
      backed = subst (AllByRecursion (IsBacked team y.written.makes)) (sym lines)
          (each_weaker (IsBacked team x.written.makes) (IsBacked team y.written.makes) x.written.lines (λ l. backed_more team x.written.makes y.written.makes l makes) k.history.backed);
      keep = subst (AllByRecursion (λ (l : Line). IsOfSend y.written.sends l.delivered.update)) (sym lines)
          (each_weaker (λ (l : Line). IsOfSend x.written.sends l.delivered.update) (λ (l : Line). IsOfSend y.written.sends l.delivered.update) x.written.lines (λ l. keep_more x.written.sends y.written.sends l sends) k.history.keep);
    };
    own = record { base = base ∙ k.own.base; passed = subst (AllByRecursion (IsPassedOf y.process)) (sym lines) (all_stand_on p y.process x.written.lines identity informed on k.own.passed) };
    others = λ q r other runs. let o = k.others q r other runs in record { base = o.base; passed = subst (AllByRecursion (IsPassedOf r)) (sym lines) o.passed };
  }

  -- where neither the process's list nor anything of what was made or sent is another
  still : y.written.lines ≡ x.written.lines → y.written.makes ≡ x.written.makes → y.written.sends ≡ x.written.sends → y.process.identity ≡ p.identity → y.process.belief ≡ p.belief → y.process.log ≡ p.log
      → Holds (delivered team) now (world team past) s.who y
  still lines makes sends identity belief log = no_line lines (more_same x.written.makes y.written.makes makes) (more_same x.written.sends y.written.sends sends) identity
      (λ i. ap is_informed belief ∙ i) (goes_same p.log y.process.log log) (ap (λ (l : Log). l.base) log)

  -- ---- a delivery

  module _ (c : Delivers here x y) where
    -- what is told of it
    told : List Delivered
    told = all_told here.team c.last p.log p.waiting.pending

    -- the cursor then
    end : ℕ
    end = (run_passed here.team c.last p.log).passed

    -- the process took its last decision
    informed : is_informed p.belief ≡ true
    informed = has_last p c.last c.last_is

    -- which was made
    was : WasMade x.written.makes c.last
    was = last_made x.written.makes p c.last mine.maker.keeps c.last_is

    -- the process's list is that decision's
    list_is : map unmarked p.log.entries ≡ was.0.log
    list_is = own_list x.written.makes p c.last known_now.once k.own.base before.own.1.1 c.last_is was

    -- so it has there what the process has
    has_at : (i : ℕ) (u : Kept) → log_at i p.log ≡ Some u → HasAt was.0 i u
    has_at = stands_in p.log was.0.log k.own.base list_is

    -- what it fulfils
    fulfilled : (i : ℕ) (u : Kept) → fulfils here.team c.last i u.entry.atom ≡ true → fulfils team was.0.making.decision i u.entry.atom ≡ true
    fulfilled i u e = subst (λ (t : Team). fulfils t was.0.making.decision i u.entry.atom ≡ true) at.same_team (subst (λ (d : Decision). fulfils here.team d i u.entry.atom ≡ true) (sym was.2) e)

    -- the cursor is there
    cursor : y.process.log.passed ≡ end
    unfolding end
    cursor = ap (λ (q : Process). q.log.passed) c.process ∙ cursor_delivers here.team c.last p.log

    -- a new line
    line : Delivered → Line
    line = line_item here.row (member_of p.identity) here.life here.step

    -- is backed,
    line_backed : (z : Delivered) → IsTold here.team c.last p.log end p.waiting.pending z → IsBacked team x.written.makes (line z)
    unfolding line
    line_backed z t = record {
      make = was.0;
      made = was.1;
      group = ap (λ (d : Decision). d.group) was.2 ∙ sym t.group;
      turn = ap (λ (d : Decision). d.turn) was.2 ∙ sym t.turn;
      passed = λ position how e. let one = t.passed position how e in
          (has_at position z.update one.there, one.told, λ other. fulfilled position z.update (not_late here.team c.last position z.update how one.may one.told other));
      early = λ position e. let one = t.early position e in
          (has_at position one.old one.there ∙ ap Some one.same, one.unordered, fulfilled position z.update one.fulfilled);
      waited = t.waited;
    }

    -- of a send,
    line_keeps : (z : Delivered) → IsTold here.team c.last p.log end p.waiting.pending z → IsOfSend x.written.sends (line z).delivered.update
    unfolding line
    line_keeps z t = subst (WasSent x.written.sends) (sym (ap as_sent t.same)) (go t.from)
      where
        go : In t.source p.log.entries ⊎ In t.source p.waiting.pending → IsOfSend x.written.sends t.source
        go (inl i) = of_each (IsOfSend x.written.sends) p.log.entries t.source before.own.0.0.0.1.list i
        go (inr i) = of_each (IsOfSend x.written.sends) (payloads_of p.waiting) t.source before.own.0.0.0.1.waiting (in_first t.source p.waiting.pending (held_payloads p.waiting.held) i)

    -- named,
    line_named : (z : Delivered) → IsNamedLine now (line z)
    unfolding line
    line_named z =
        let own = mine.promiser.own in
        let who : s.who ≡ here.step.who = ap (λ (e : Step). e.who) (sym at.same_step) in
        record { member = own.is ∙ who; t = own.last_t; h = own.last_h; read = subst (λ q. HasRead now q own.last_t own.last_h) who own.last; incarnation = own.incarnation }

    -- and passed by its process,
    line_passed : (z : Delivered) → IsTold here.team c.last p.log end p.waiting.pending z → IsPassedOf y.process (line z)
    unfolding line
    line_passed z t same = (
      ap (λ (q : Process). is_informed q.belief) c.process ∙ informed,
      λ position how e.
          let one = t.passed position how e in
          let there = (goes_delivered p.log y.process.log (log_delivers here x y c)).at position z.update one.there in
          record { below = subst (λ n. position < n) (sym cursor) one.below; there = there.0; at = there.1; same = there.2 },
    )

    -- and of no other one
    line_of_other : (q : ℕ) (r : Process) → s.who ≢ q → (world team past).process_of q ≡ Some r → (z : Delivered) → IsPassedOf r (line z)
    unfolding line
    line_of_other q r other runs z same = absurd (line_of_none_else team past s x before q r other runs same)

    -- what was written down then
    lines_are : y.written ≡ record (x.written) { lines = lines_on here.row (member_of p.identity) here.life here.step told x.written.lines }
    unfolding told
    lines_are = c.written

    -- each of what is told
    each_told : AllByRecursion (IsTold here.team c.last p.log end p.waiting.pending) told
    unfolding told end
    each_told = all_are_told here.team c.last p.log p.waiting.pending

    -- what holds of each new line, and of each older one
    every : (P : Line → Type 0) → ((z : Delivered) → IsTold here.team c.last p.log end p.waiting.pending z → P (line z)) → AllByRecursion P x.written.lines
        → AllByRecursion P (lines_on here.row (member_of p.identity) here.life here.step told x.written.lines)
    unfolding line
    every P new all = each_line P here.row (member_of p.identity) here.life here.step told x.written.lines
        (each_weaker (IsTold here.team c.last p.log end p.waiting.pending) (λ (z : Delivered). P (line z)) told new each_told) all

    -- new passes ascend from the cursor on, and older ones are below it
    ascends : PassesAscend (lines_on here.row (member_of p.identity) here.life here.step told x.written.lines)
    unfolding told
    ascends = ascend_on here.row (member_of p.identity) here.life here.step told x.written.lines p.log.passed (all_go_up here.team c.last p.log p.waiting.pending)
        (each_weaker (IsPassedOf p) (IsBelow (member_of p.identity) p.log.passed) x.written.lines (λ l passed same i how e. ((passed same).1 i how e).below) k.own.passed) k.history.ascend

    -- the law after it
    delivers : Holds (delivered team) now (world team past) s.who y
    delivers = record {
      history = rw lines_are (record {
        named = every (IsNamedLine now) (λ z t. line_named z) k.history.named;
        ascend = ascends;
        backed = every (IsBacked team x.written.makes) line_backed k.history.backed;
        keep = every (λ (l : Line). IsOfSend x.written.sends l.delivered.update) line_keeps k.history.keep;
      });
      own = record {
        base = (log_delivers here x y c).base ∙ k.own.base;
        passed = subst (λ (w : Written). AllByRecursion (IsPassedOf y.process) w.lines) (sym lines_are) (every (IsPassedOf y.process) line_passed
            (all_stand_on p y.process x.written.lines (ap (λ (q : Process). q.identity) c.process) (λ i. ap (λ (q : Process). is_informed q.belief) c.process ∙ i) (goes_delivered p.log y.process.log (log_delivers here x y c)) k.own.passed));
      };
      others = λ q r other runs. let o = k.others q r other runs in record {
        base = o.base;
        passed = subst (λ (w : Written). AllByRecursion (IsPassedOf r) w.lines) (sym lines_are) (every (IsPassedOf r) (λ z t. line_of_other q r other runs z) o.passed);
      };
    }

  -- ---- each effect

  -- what was sent before was sent
  sends_more : Numbers here x y → More x.written.sends y.written.sends
  sends_more (SendsNone seq same) = more_same x.written.sends y.written.sends same
  sends_more (SendsOne sending from seq new) = more_by x.written.sends y.written.sends _ new

  -- whatever the effect
  changed : Change here x y → Holds (delivered team) now (world team past) s.who y
  changed (Change.Keep c) = no_line c.lines (more_same x.written.makes y.written.makes c.makes) (sends_more c.numbers) c.identity (λ i. ap is_informed c.belief ∙ i) (goes_same p.log y.process.log c.log) (ap (λ (l : Log). l.base) c.log)
  changed (Change.Give c) = still (ap (λ (w : Written). w.lines) c.written) (ap (λ (w : Written). w.makes) c.written) (ap (λ (w : Written). w.sends) c.written)
      (ap (λ (q : Process). q.identity) c.process) (ap (λ (q : Process). q.belief) c.process) (ap (λ (q : Process). q.log) c.process)
  changed (Change.Hold c) = still (ap (λ (w : Written). w.lines) c.written) (ap (λ (w : Written). w.makes) c.written) (ap (λ (w : Written). w.sends) c.written)
      (ap (λ (q : Process). q.identity) c.process) (ap (λ (q : Process). q.belief) c.process) (ap (λ (q : Process). q.log) c.process)
  changed (Change.Raise c) = still (ap (λ (w : Written). w.lines) c.written) (ap (λ (w : Written). w.makes) c.written) (ap (λ (w : Written). w.sends) c.written)
      (ap (λ (q : Process). q.identity) c.process) (ap (λ (q : Process). q.belief) c.process) (ap (λ (q : Process). q.log) c.process)
  changed (Change.Deliver c) = delivers c
  changed (Change.Take c) = no_line (ap (λ (w : Written). w.lines) c.written) (more_same x.written.makes y.written.makes (ap (λ (w : Written). w.makes) c.written))
      (more_same x.written.sends y.written.sends (ap (λ (w : Written). w.sends) c.written))
      (ap (λ (q : Process). q.identity) c.process) (λ i. ap (λ (q : Process). is_informed q.belief) c.process)
      (subst (GoesOn p.log) (sym (ap (λ (q : Process). q.log) c.process)) (goes_after (payloads_of p.waiting) c.taken_decision p.log)) (ap (λ (q : Process). q.log.base) c.process)
  changed (Change.Make c) = no_line (ap (λ (w : Written). w.lines) c.written) (more_by x.written.makes y.written.makes _ (ap (λ (w : Written). w.makes) c.written))
      (more_same x.written.sends y.written.sends (ap (λ (w : Written). w.sends) c.written))
      (ap (λ (q : Process). q.identity) c.process) (λ i. ap (λ (q : Process). is_informed q.belief) c.process)
      (subst (GoesOn p.log) (sym (ap (λ (q : Process). q.log) c.process)) (goes_after (payloads_of p.waiting) c.making.decision p.log)) (ap (λ (q : Process). q.log.base) c.process)

-- ---- the law

-- no line is of the incarnation of a process that was just started: all that it read before is below that
pub none_of_started : (team : Team) (past : List Step) (s : Step) (mode : Mode) → Admissible team (s ∷ past) → s.act ≡ start_by mode → (x : Line) → IsNamedLine past x → x.member ≡ member_of (started s.who mode s.h).identity → ⊥
none_of_started team past s mode ok act x named same =
    let who : x.who ≡ s.who = sym named.member ∙ ap (λ (m : Member). m.who) same in
    let above = above_read team past s mode ok act named.t named.h (subst (λ q. HasRead past q named.t named.h) who named.read) in
    let incarnation = named.incarnation in
    let is : x.member.incarnation ≡ s.h = ap (λ (m : Member). m.incarnation) same in
    omega (arith, above, incarnation, is)

-- its list is from its begin on
started_base : (who h : ℕ) (mode : Mode) → (started who mode h).log.base ≡ 0
started_base who h modes.First = refl
started_base who h modes.Again = refl

-- in every schedule
pub delivered_rules : (team : Team) → RulesOver team (with_beginnings team) (delivered team)
delivered_rules team = record {
  nothing = record { named = tt; ascend = tt; backed = tt; keep = tt };
  waits = λ past s w sound ok before k. record { named = each_weaker (IsNamedLine past) (IsNamedLine (s ∷ past)) w.lines (named_still past s) k.named; ascend = k.ascend; backed = k.backed; keep = k.keep };
  remains = λ past s w who p sound ok same before h own k. k;
  begins = λ past s w mode sound ok act more before k. record {
    base = started_base s.who s.h mode;
    passed = each_weaker (IsNamedLine past) (IsPassedOf (started s.who mode s.h)) w.lines (λ x named same. absurd (none_of_started team past s mode ok act x named same)) k.named;
  };
  changes = λ past s here x y at mailed change before after k. changed team past s here x y at change before k change;
}
