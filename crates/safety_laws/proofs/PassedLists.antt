-- What is told of one delivery, item by item, and where it stands.
use Rattle.std.proofs.Common.{◌≡◌, refl, sym, ap, subst, ◌∙◌, inl, inr, ◌⊎◌, ℕ, zero, suc, ◌+◌, ◌-◌, ◌≤◌, ◌<◌, nat_le, Bool, true, false, cond, List, [], ◌∷◌, ◌++◌, map, length, filter, filter_map, Option, Some, None, arith, ◌↔◌}
use Rattle.std.specs.Prelude.{slice_get, ◌&&◌, not}
use Rattle.std.specs.List.{AllByRecursion, range_with_len, cons_option}
use Rattle.std.specs.Option.{option_map, option_map_or}
use Rattle.std.proofs.lemmas.Option.{same_Some}
use Rattle.std.proofs.lemmas.Bool.{and_parts, not-true}
use Rattle.std.proofs.lemmas.Bool.Decides.{nat_tests}
use Rattle.std.proofs.lemmas.List.{append_assoc}
use Rattle.tw_machine.specs.Types.{Team, Decision, Kept, Member, How, Pass, Step}
use Rattle.tw_types.specs.Beliefs.{Log}
use Rattle.tw_types.specs.Deliveries.{fulfils, positions_from, passes_at, may_pass, run, how_passed, pass_of, passes, run_passed, early_at, may_go_early, early_positions, as_early, weaks}
use Rattle.tw_types.specs.Items.{In}
use Rattle.tw_types.specs.Logs.{log_at, log_after}
use Rattle.tw_types.specs.Updates.{is_weak, is_unordered, may_be_early}
use Rattle.tw_types.proofs.Appended.{of_map, of_filter}
use Rattle.tw_types.proofs.Delivered.{run_shape}
use Rattle.tw_types.specs.declared.outputs.How.TheVariants.{Now, Earlier, Late}
use Rattle.tw_machine.specs.Delivering.{delivered_at, earlies_told, all_told}
use Rattle.tw_machine.specs.History.{Line, line_item, lines_on}
use Rattle.tw_machine.specs.Run.{AtPass, AtEarly, AtWait, Delivered}
use Rattle.tw_types.proofs.Lists.{all_joined}
use Rattle.safety_laws.specs.Beginnings.{unmarked}
use Rattle.safety_laws.specs.Delivered.{PassedAbove, PassesAscend}
use Rattle.safety_laws.proofs.Lists.{each_weaker, each_from, of_filter_map, in_range}
use Rattle.safety_laws.proofs.Marked.{OnlyDelivers, without_mark, listed_at, log_alike}
use Rattle.safety_laws.proofs.Places.{at_in, at_more}

-- ---- positions of a log

-- a number that isn't above another one passes the test
nat_le_to : (a b : ℕ) → a ≤ b → nat_le a b ≡ true
nat_le_to a b low = search (arith, nat_tests)

-- in a log from its begin on a position is one of its list
pub at_base : (log : Log) → log.base ≡ 0 → (i : ℕ) → log_at i log ≡ slice_get log.entries i
at_base log base i =
    let low : nat_le log.base i ≡ true = nat_le_to log.base i (omega (arith, base)) in
    let same : i - log.base ≡ i = omega (arith, base) in
    ap (λ b. cond b (slice_get log.entries (i - log.base)) None) low ∙ ap (slice_get log.entries) same

-- what stands at a position of a log is of its list
pub listed_in : (log : Log) (i : ℕ) (k : Kept) → log_at i log ≡ Some k → In k log.entries
listed_in log i k is = at_in log.entries (i - log.base) k (listed_at i log k is)

-- what stands at a position of a log from its begin on stands there, without its mark, in the list that the log has but for marks
pub stands_in : (log : Log) (list : List Kept) → log.base ≡ 0 → map unmarked log.entries ≡ list → (i : ℕ) (k : Kept) → log_at i log ≡ Some k → slice_get list i ≡ Some (unmarked k)
stands_in log list base same i k is = ap (λ l. slice_get l i) (sym same) ∙ without_mark log.entries i k (sym (at_base log base i) ∙ is)

-- A log goes on from another one: what stands there stands there again, but for marks, and no less of it is passed.
pub record GoesOn (old new : Log) : Type 0 where
  pub more : old.passed ≤ new.passed
  pub at : (i : ℕ) (k : Kept) → log_at i old ≡ Some k → (there : Kept) × (log_at i new ≡ Some there) × (unmarked there ≡ unmarked k)

-- the same one does,
pub goes_same : (old new : Log) → new ≡ old → GoesOn old new
goes_same old new same = subst (GoesOn old) (sym same) (record { more = omega arith; at = λ i k is. (k, is, refl) })

-- and that after a decision,
pub goes_after : (payloads : List Kept) (d : Decision) (log : Log) → GoesOn log (log_after payloads d log)
goes_after payloads d log = record { more = omega arith; at = λ i k is. (k, go i k (nat_le log.base i) is, refl) }
  where
    go : (i : ℕ) (k : Kept) (b : Bool) → cond b (slice_get log.entries (i - log.base)) None ≡ Some k → cond b (slice_get (log_after payloads d log).entries (i - log.base)) None ≡ Some k
    go i k true is = at_more log.entries _ (i - log.base) k is
    go i k false is = absurd (cc)

-- and that after a delivery.
pub goes_delivered : (old new : Log) → OnlyDelivers old new → GoesOn old new
goes_delivered old new only = record { more = only.more; at = log_alike old new only.base only.entries }

-- ---- what is told

-- only what is late is passed as such
pub late_told : (k : Kept) → how_passed k ≡ Late ↔ k.entry.late ≡ true
late_told k = by k.entry.late (is_unordered k.entry.order && k.early)
  where
    early_or_now : (early : Bool) → cond early Earlier Now ≡ Late → ⊥
    early_or_now true e = absurd (cc)
    early_or_now false e = absurd (cc)

    by : (late early : Bool) → cond late Late (cond early Earlier Now) ≡ Late ↔ late ≡ true
    by true early = ((λ e. refl), (λ e. refl))
    by false early = ((λ e. absurd (early_or_now early e)), (λ e. absurd (cc)))

-- a pass is of the update at its position, which may pass, and is below the new cursor
pub record IsToldPass (team : Team) (d : Decision) (log : Log) (end position : ℕ) (how : How) (update : Kept) : Type 0 where
  pub there : log_at position log ≡ Some update
  pub told : how ≡ how_passed update
  pub may : passes_at team d position update ≡ true
  pub below : position < end

-- an early one is of the update at its position, which gets a mark
pub record IsToldEarly (team : Team) (d : Decision) (log : Log) (position : ℕ) (update : Kept) : Type 0 where
  pub old : Kept
  pub there : log_at position log ≡ Some old
  pub same : unmarked old ≡ unmarked update
  pub unordered : is_unordered update.entry.order ≡ true
  pub fulfilled : fulfils team d position update.entry.atom ≡ true

-- what is told by a decision, of a list and of what is pending
pub record IsTold (team : Team) (d : Decision) (log : Log) (end : ℕ) (pending : List Kept) (z : Delivered) : Type 0 where
  pub group : z.group ≡ d.group
  pub turn : z.turn ≡ d.turn
  pub passed : (position : ℕ) (how : How) → z.place ≡ AtPass position how → IsToldPass team d log end position how z.update
  pub early : (position : ℕ) → z.place ≡ AtEarly position → IsToldEarly team d log position z.update
  pub waited : z.place ≡ AtWait → (is_unordered z.update.entry.order ≡ true) × (is_weak z.update.entry.atom ≡ true)
  pub source : Kept
  pub from : In source log.entries ⊎ In source pending
  pub same : unmarked z.update ≡ unmarked source

-- two passes are one only at one position and in one way
same_pass : (i j : ℕ) (a b : How) → AtPass i a ≡ AtPass j b → (i ≡ j) × (a ≡ b)
same_pass i j a b e = (cc, cc)

-- ---- passes

-- what is told of so many positions from one on
abbrev pub told_range : Decision → Log → (first count : ℕ) → List Delivered
told_range d log first count = map (λ (p : Pass). delivered_at d (AtPass p.position p.how) p.kept) (filter_map (λ (i : ℕ). option_map (pass_of i) (log_at i log)) (range_with_len first count))

-- it begins with the update at the first one
pub told_cons : (d : Decision) (log : Log) (first count : ℕ) (k : Kept) → log_at first log ≡ Some k → told_range d log first (suc count) ≡ delivered_at d (AtPass first (how_passed k)) k ∷ told_range d log (first + 1) count
told_cons d log first count k is =
    ap (λ o. map (λ (p : Pass). delivered_at d (AtPass p.position p.how) p.kept) (cons_option (option_map (pass_of first) o) (filter_map (λ (i : ℕ). option_map (pass_of i) (log_at i log)) (range_with_len (first + 1) count)))) is

-- a position that may pass has an update
pub there_of_may : (team : Team) (d : Decision) (log : Log) (i : ℕ) → may_pass team d log i ≡ true → (k : Kept) × (log_at i log ≡ Some k) × (passes_at team d i k ≡ true)
there_of_may team d log i may = go (log_at i log) refl may
  where
    go : (o : Option Kept) → log_at i log ≡ o → option_map_or (passes_at team d i) o false ≡ true → (k : Kept) × (log_at i log ≡ Some k) × (passes_at team d i k ≡ true)
    go None is e = absurd (cc)
    go (Some k) is e = (k, is, e)

-- the passes are of the neighbours from the cursor on
pub passes_range : (team : Team) (d : Decision) (log : Log) → map (λ (p : Pass). delivered_at d (AtPass p.position p.how) p.kept) (passes team d log) ≡ told_range d log log.passed (length (run team d log))
unfolding passes
passes_range team d log = ap (λ r. map (λ (p : Pass). delivered_at d (AtPass p.position p.how) p.kept) (filter_map (λ (i : ℕ). option_map (pass_of i) (log_at i log)) r)) (run_shape team d log).neighbours

-- ---- all of it

-- what holds of each early one of the list, at these positions
each_early : (P : Delivered → Type 0) (d : Decision) (log : Log) (positions : List ℕ) → ((i : ℕ) (k : Kept) → In i positions → log_at i log ≡ Some k → P (delivered_at d (AtEarly i) (as_early k)))
    → AllByRecursion P (filter_map (λ (i : ℕ). option_map (λ (k : Kept). delivered_at d (AtEarly i) (as_early k)) (log_at i log)) positions)
each_early P d log positions early = each_from P (filter_map told positions) (λ z j. let i = of_filter_map told positions z j in go z i.0 i.1 (log_at i.0 log) refl i.2)
  where
    told : ℕ → Option Delivered
    told i = option_map (λ (k : Kept). delivered_at d (AtEarly i) (as_early k)) (log_at i log)

    go : (z : Delivered) (i : ℕ) → In i positions → (o : Option Kept) → log_at i log ≡ o → option_map (λ (k : Kept). delivered_at d (AtEarly i) (as_early k)) o ≡ Some z → P z
    go z i j None is e = absurd (cc)
    go z i j (Some k) is e = subst P (same_Some (delivered_at d (AtEarly i) (as_early k)) z e) (early i k j is)

-- and of each one that waited
pub each_waiting : (P : Delivered → Type 0) (d : Decision) (pending : List Kept) → ((k : Kept) → In k pending → may_be_early k ≡ true → P (delivered_at d AtWait (as_early k)))
    → AllByRecursion P (map (delivered_at d AtWait) (weaks pending))
each_waiting P d pending wait = each_from P (map (delivered_at d AtWait) (weaks pending)) (λ z i.
    let w = of_map (delivered_at d AtWait) (weaks pending) z i in
    let k = of_map as_early (filter may_be_early pending) w.0 w.1 in
    let f = of_filter may_be_early pending k.0 k.1 in
    subst P (sym w.2) (subst (λ (u : Kept). P (delivered_at d AtWait u)) (sym k.2) (wait k.0 f.0 f.1)))

-- What holds of each pass, of each early one of the list, and of each one that waited holds of all that is told of what is delivered.
pub each_told : (P : Delivered → Type 0) (team : Team) (d : Decision) (log : Log) (pending : List Kept)
    → ((i : ℕ) (k : Kept) → log_at i log ≡ Some k → passes_at team d i k ≡ true → i < (run_passed team d log).passed → P (delivered_at d (AtPass i (how_passed k)) k))
    → ((i : ℕ) (k : Kept) → In i (early_positions team d (run_passed team d log).passed (run_passed team d log)) → log_at i log ≡ Some k → early_at team d i k ≡ true → P (delivered_at d (AtEarly i) (as_early k)))
    → ((k : Kept) → In k pending → may_be_early k ≡ true → P (delivered_at d AtWait (as_early k)))
    → AllByRecursion P (all_told team d log pending)
unfolding run_passed
each_told P team d log pending pass early wait =
    all_joined P (map told (passes team d log) ++ earlies_told team d (run_passed team d log).passed (run_passed team d log)) (map (delivered_at d AtWait) (weaks pending))
    (all_joined P (map told (passes team d log)) (earlies_told team d (run_passed team d log).passed (run_passed team d log)) (each_from P (map told (passes team d log)) of_pass)
    (each_early P d (run_passed team d log) (early_positions team d (run_passed team d log).passed (run_passed team d log)) of_early))
    (each_waiting P d pending wait)
  where
    told : Pass → Delivered
    told p = delivered_at d (AtPass p.position p.how) p.kept

    neighbours : List ℕ
    neighbours = range_with_len log.passed (length (run team d log))

    one_pass : (i : ℕ) (p : Pass) → In i neighbours → option_map (pass_of i) (log_at i log) ≡ Some p → P (told p)
    one_pass i p j e =
        let range = in_range log.passed (length (run team d log)) i j in
        let k = there_of_may team d log i ((run_shape team d log).each i range.0 range.1) in
        subst (λ (q : Pass). P (told q)) (same_Some (pass_of i k.0) p (sym (ap (option_map (pass_of i)) k.1) ∙ e)) (pass i k.0 k.1 k.2 range.1)

    of_pass : (z : Delivered) → In z (map told (passes team d log)) → P z
    of_pass z i =
        let p = of_map told (filter_map (λ (i : ℕ). option_map (pass_of i) (log_at i log)) neighbours) z (subst (In z) (passes_range team d log) i) in
        let n = of_filter_map (λ (i : ℕ). option_map (pass_of i) (log_at i log)) neighbours p.0 p.1 in
        subst P (sym p.2) (one_pass n.0 p.0 n.1 n.2)

    of_early : (i : ℕ) (k : Kept) → In i (early_positions team d (run_passed team d log).passed (run_passed team d log)) → log_at i log ≡ Some k → P (delivered_at d (AtEarly i) (as_early k))
    of_early i k j is =
        let test = (of_filter (may_go_early team d (run_passed team d log)) (positions_from (run_passed team d log).passed (run_passed team d log)) i j).1 in
        early i k j is (sym (ap (λ o. option_map_or (early_at team d i) o false) is) ∙ test)

-- what goes early from its position is unordered, has no mark, and is fulfilled there
pub early_tests : (team : Team) (d : Decision) (i : ℕ) (k : Kept) → early_at team d i k ≡ true → (is_unordered k.entry.order ≡ true) × (k.early ≡ false) × (fulfils team d i k.entry.atom ≡ true)
early_tests team d i k e =
    let two = and_parts (is_unordered k.entry.order && not k.early) (fulfils team d i k.entry.atom) e in
    let first = and_parts (is_unordered k.entry.order) (not k.early) two.0 in
    (first.0, not-true k.early first.1, two.1)

-- and what goes early while it waits is weak and unordered, and has no mark
pub waiting_tests : (k : Kept) → may_be_early k ≡ true → (is_weak k.entry.atom ≡ true) × (is_unordered k.entry.order ≡ true) × (k.early ≡ false)
waiting_tests k e =
    let two = and_parts (is_weak k.entry.atom && is_unordered k.entry.order) (not k.early) e in
    let first = and_parts (is_weak k.entry.atom) (is_unordered k.entry.order) two.0 in
    (first.0, first.1, not-true k.early two.1)

-- what is told of all that is delivered
pub all_are_told : (team : Team) (d : Decision) (log : Log) (pending : List Kept) → AllByRecursion (IsTold team d log (run_passed team d log).passed pending) (all_told team d log pending)
all_are_told team d log pending = each_told (IsTold team d log end pending) team d log pending one_told early_told waiting_told
  where
    end : ℕ
    end = (run_passed team d log).passed

    one_told : (i : ℕ) (k : Kept) → log_at i log ≡ Some k → passes_at team d i k ≡ true → i < end → IsTold team d log end pending (delivered_at d (AtPass i (how_passed k)) k)
    one_told i k is may below = record {
      group = refl;
      turn = refl;
      passed = λ position how e. let same = same_pass i position (how_passed k) how e in record {
        there = subst (λ n. log_at n log ≡ Some k) same.0 is;
        told = sym same.1;
        may = subst (λ n. passes_at team d n k ≡ true) same.0 may;
        below = subst (λ n. n < end) same.0 below;
      };
      early = λ position e. absurd (cc);
      waited = λ e. absurd (cc);
      source = k;
      from = inl (listed_in log i k is);
      same = refl;
    }

    early_told : (i : ℕ) (k : Kept) → In i (early_positions team d end (run_passed team d log)) → log_at i log ≡ Some k → early_at team d i k ≡ true → IsTold team d log end pending (delivered_at d (AtEarly i) (as_early k))
    early_told i k j is e = let tests = early_tests team d i k e in record {
      group = refl;
      turn = refl;
      passed = λ position how e. absurd (cc);
      early = λ position e. let at : i ≡ position = cc in record {
        old = k;
        there = subst (λ n. log_at n log ≡ Some k) at is;
        same = refl;
        unordered = tests.0;
        fulfilled = subst (λ n. fulfils team d n k.entry.atom ≡ true) at tests.2;
      };
      waited = λ e. absurd (cc);
      source = k;
      from = inl (listed_in log i k is);
      same = refl;
    }

    waiting_told : (k : Kept) → In k pending → may_be_early k ≡ true → IsTold team d log end pending (delivered_at d AtWait (as_early k))
    waiting_told k i e = let tests = waiting_tests k e in record {
      group = refl;
      turn = refl;
      passed = λ position how e. absurd (cc);
      early = λ position e. absurd (cc);
      waited = λ e. (tests.1, tests.0);
      source = k;
      from = inr i;
      same = refl;
    }

-- ---- in ascent

-- what isn't a pass
abbrev IsNoPass : Delivered → Type 0
IsNoPass z = (i : ℕ) (how : How) → z.place ≡ AtPass i how → ⊥

-- passes go up from this position on
abbrev GoUp : ℕ → List Delivered → Type 0
GoUp from [] = Unit {0}
GoUp from (z ∷ zs) = (to : ℕ) × (from ≤ to) × ((i : ℕ) (how : How) → z.place ≡ AtPass i how → (from ≤ i) × (i < to)) × GoUp to zs

-- without passes there is nothing to go up
up_none : (from : ℕ) (zs : List Delivered) → AllByRecursion IsNoPass zs → GoUp from zs
up_none from [] none = tt
up_none from (z ∷ zs) none = (from, omega arith, λ i how e. absurd (none.0 i how e), up_none from zs none.1)

-- passes of neighbours go up, with no other passes behind them
up_range : (team : Team) (d : Decision) (log : Log) (count first : ℕ) (rest : List Delivered) → ((i : ℕ) → first ≤ i → i < first + count → may_pass team d log i ≡ true) → AllByRecursion IsNoPass rest
    → GoUp first (told_range d log first count ++ rest)
up_range team d log zero first rest may none = up_none first rest none
up_range team d log (suc count) first rest may none =
    let one = there_of_may team d log first (may first (omega arith) (omega arith)) in
    subst (λ zs. GoUp first (zs ++ rest)) (sym (told_cons d log first count one.0 one.1)) (
      first + 1,
      omega arith,
      λ i how e. let same = (same_pass first i (how_passed one.0) how e).0 in (omega (arith, same), omega (arith, same)),
      up_range team d log count (first + 1) rest (λ i low high. may i (omega (arith, low)) (omega (arith, high))) none,
    )

-- from the cursor on
pub all_go_up : (team : Team) (d : Decision) (log : Log) (pending : List Kept) → GoUp log.passed (all_told team d log pending)
all_go_up team d log pending =
    let passed : List Delivered = map (λ (p : Pass). delivered_at d (AtPass p.position p.how) p.kept) (passes team d log) in
    let early : List Delivered = earlies_told team d (run_passed team d log).passed (run_passed team d log) in
    let waiting : List Delivered = map (delivered_at d AtWait) (weaks pending) in
    subst (GoUp log.passed) (sym (append_assoc passed early waiting))
    (subst (λ zs. GoUp log.passed (zs ++ (early ++ waiting))) (sym (passes_range team d log))
    (up_range team d log (length (run team d log)) log.passed (early ++ waiting) (run_shape team d log).each
    (all_joined IsNoPass early waiting
    (each_early IsNoPass d (run_passed team d log) (early_positions team d (run_passed team d log).passed (run_passed team d log)) (λ i k j is n how e. absurd (cc))) (each_waiting IsNoPass d pending (λ k j early n how e. absurd (cc))))))

-- ---- lines

-- what holds of each new line and of all older ones
pub each_line : (P : Line → Type 0) (row : ℕ) (member : Member) (life : ℕ) (s : Step) (zs : List Delivered) (older : List Line) → AllByRecursion (λ (z : Delivered). P (line_item row member life s z)) zs → AllByRecursion P older
    → AllByRecursion P (lines_on row member life s zs older)
each_line P row member life s [] older new all = all
each_line P row member life s (z ∷ zs) older new all = each_line P row member life s zs (line_item row member life s z ∷ older) new.1 (new.0, all)

-- what a member passed is below this position
abbrev pub IsBelow : Member → ℕ → Line → Type 0
IsBelow member end x = x.member ≡ member → (i : ℕ) (how : How) → x.delivered.place ≡ AtPass i how → i < end

-- passes that go up from behind the older ones ascend with them
pub ascend_on : (row : ℕ) (member : Member) (life : ℕ) (s : Step) (zs : List Delivered) (older : List Line) (from : ℕ) → GoUp from zs → AllByRecursion (IsBelow member from) older → PassesAscend older
    → PassesAscend (lines_on row member life s zs older)
ascend_on row member life s [] older from up low all = all
ascend_on row member life s (z ∷ zs) older from (to, more, at, up) low all = ascend_on row member life s zs (line_item row member life s z ∷ older) to up
    (λ same i how e. (at i how e).1, each_weaker (IsBelow member from) (IsBelow member to) older (λ x f same i how e. let less = f same i how e in omega (arith, less, more)) low)
    (each_weaker (IsBelow member from) (PassedAbove (line_item row member life s z)) older (λ x f same i j how how' e g. let less = f same j how' g in let high = (at i how e).0 in omega (arith, less, high)) low, all)
