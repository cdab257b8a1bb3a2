-- The table of a process is what its group's list makes of it, up to its cursor, so in one group equal cursors show equal tables.
use Rattle.std.proofs.Common.{◌≡◌, ◌≢◌, refl, sym, ap, subst, ◌∙◌, inl, inr, ◌⊎◌, ℕ, ◌+◌, ◌-◌, ◌≤◌, Bool, true, false, cond, List, [], ◌∷◌, map, filter, length, take, fold, Option, Some, None, Result, arith}
use Rattle.std.specs.Option.{option_map_or}
use Rattle.std.proofs.lemmas.List.{take-map}
use Rattle.tw_machine.specs.Types.{Reason, Datagram, Decision, Kept, Member, RowAnswer, Act, Step, Team}
use Rattle.tw_types.specs.declared.step.Act.TheVariants.{Look}
use Rattle.tw_num.specs.declared.moment.Moment.{Moment}
use Rattle.tw_types.specs.Beliefs.{Belief, Informed, Blank, Log, is_informed, last_of, view_decision}
use Rattle.tw_types.specs.Decisions.{or_none}
use Rattle.tw_types.specs.Items.{In}
use Rattle.tw_types.specs.Printed.{entry_printed}
use Rattle.tw_types.specs.Process.{Process}
use Rattle.tw_types.specs.Row.{Row}
use Rattle.tw_types.specs.Team.{IsSound}
use Rattle.tw_types.specs.Votes.{Making}
use Rattle.tw_machine.specs.Applied.{Meaning, is_applied, payloads_in, payloads_applied, table_by, table_of}
use Rattle.tw_machine.specs.Event.{Event}
use Rattle.tw_machine.specs.History.{Promised, Make, list_of, life, make_item, makes_on, makes_by, history}
use Rattle.tw_machine.specs.Places.{Each}
use Rattle.tw_machine.specs.Rows.{entries_by, row_by, row_of, rows_of}
use Rattle.tw_machine.specs.Run.{Run}
use Rattle.tw_machine.specs.SafeRows.{EqualTables}
use Rattle.tw_machine.specs.Rules.{rule}
use Rattle.tw_machine.specs.Standing.{member_of}
use Rattle.tw_machine.specs.Step.{answer_by, row_answer, event_rule, learnt_by, moment_of, read_by, step, looked}
use Rattle.tw_machine.specs.World.{Deed, silent, deed_in, world, Admissible}
use Rattle.tw_machine.proofs.Ends.{by_event, by_proposing}
use Rattle.safety_laws.specs.Beginnings.{unmarked, IsEndOfKnown, IsBeginning}
use Rattle.safety_laws.specs.Effects.{written}
use Rattle.safety_laws.specs.Groups.{OfGroups, OfMember}
use Rattle.safety_laws.specs.Made.{WasMade, KeepsMade}
use Rattle.safety_laws.specs.Once.{AllOnce}
use Rattle.safety_laws.specs.Tables.{content_at}
use Rattle.safety_laws.proofs.Begun.{have_lists}
use Rattle.safety_laws.proofs.ClockLaw.{own_after}
use Rattle.safety_laws.proofs.DeliveryLaws.{with_delivered, delivered_well}
use Rattle.safety_laws.proofs.Induction.{earlier, Turn, turn}
use Rattle.safety_laws.proofs.MadeLists.{More, last_made}
use Rattle.safety_laws.proofs.Passed.{whole_list}
use Rattle.safety_laws.proofs.Places.{each_pushed}
use Rattle.safety_laws.proofs.Prefixes.{HaveLists, begins_first, list_of_made, one_begins}
use Rattle.safety_laws.proofs.Stack.{Kept as Holding}

-- ---- of one process

-- what is applied of updates doesn't see their marks
payloads_unmarked : (updates : List Kept) → payloads_in (map unmarked updates) ≡ payloads_in updates
payloads_unmarked [] = refl
payloads_unmarked (k ∷ updates) = go (is_applied k) (payloads_unmarked updates)
  where
    payloads : List Kept → List (List ℕ)
    payloads ks = map (λ (x : Kept). x.payload.items) ks

    go : (b : Bool) → payloads (filter is_applied (map unmarked updates)) ≡ payloads (filter is_applied updates)
        → payloads (cond b (unmarked k ∷ filter is_applied (map unmarked updates)) (filter is_applied (map unmarked updates))) ≡ payloads (cond b (k ∷ filter is_applied updates) (filter is_applied updates))
    go true rest = ap (λ ps. k.payload.items ∷ ps) rest
    go false rest = rest

-- from the begin on as much is passed as the cursor says
from_begin : (log : Log) → log.base ≡ 0 → payloads_applied log ≡ payloads_in (take log.passed log.entries)
from_begin log base = let all : log.passed - log.base ≡ log.passed = omega (arith, base) in ap (λ n. payloads_in (take n log.entries)) all

-- what an informed process applied is what is applied of its decision's list up to its cursor
applied_of_list : (makes : List Make) (p : Process) → p.log.base ≡ 0 → IsEndOfKnown makes p → is_informed p.belief ≡ true → payloads_applied p.log ≡ payloads_in (take p.log.passed (list_of makes (view_decision p.belief)))
applied_of_list makes p base ends informed =
    from_begin p.log base
    ∙ sym (payloads_unmarked (take p.log.passed p.log.entries))
    ∙ ap payloads_in (sym (take-map unmarked p.log.passed p.log.entries) ∙ ap (take p.log.passed) (whole_list makes p (list_of makes (view_decision p.belief)) base ends informed refl))

-- so is its table
table_is : {Content : Type 0} (meaning : Meaning Content) (makes : List Make) (p : Process) (last : Option Decision) → p.belief ≡ Informed last → p.log.base ≡ 0 → IsEndOfKnown makes p
    → table_of meaning p ≡ Some (content_at meaning (list_of makes last) p.log.passed)
table_is meaning makes p last belief base ends =
    ap (λ (b : Belief). table_by meaning b p.log) belief
    ∙ ap (λ ps. Some (fold meaning.after meaning.empty ps)) (applied_of_list makes p base ends (ap is_informed belief))
    ∙ ap (λ (b : Belief). Some (content_at meaning (list_of makes (view_decision b)) p.log.passed)) belief

-- In every schedule, the table of an informed process is what its last decision's list makes of it, up to the process's cursor.
pub tables_of_lists : {Content : Type 0} (meaning : Meaning Content) (team : Team) (past : List Step) (who : ℕ) (p : Process) (last : Option Decision) → IsSound team → Admissible team past
    → (world team past).process_of who ≡ Some p → p.belief ≡ Informed last → table_of meaning p ≡ Some (content_at meaning (list_of (history team past).makes last) p.log.passed)
tables_of_lists meaning team past who p last sound ok runs belief =
    let k = (delivered_well team past sound ok).running who p runs in
    table_is meaning (history team past).makes p last belief k.1.base k.0.1.1

-- ---- more makes

on_more : (member : Member) (life : ℕ) (s : Step) (makings : List Making) (older : List Make) → More older (makes_on member life s makings older)
on_more member life s [] older x i = i
on_more member life s (making ∷ makings) older x i = on_more member life s makings (make_item member life s older making ∷ older) x (inr i)

by_more : (life : ℕ) (s : Step) (o : Option Process) (makings : List Making) (older : List Make) → More older (makes_by life s o makings older)
by_more life s None makings older x i = i
by_more life s (Some p) makings older x i = on_more (member_of p.identity) life s makings older x i

-- what was made was made after a step more
pub makes_more : (team : Team) (past : List Step) (s : Step) → More (history team past).makes (history team (s ∷ past)).makes
makes_more team past s = by_more (life s.who (s ∷ past)) s (deed_in team (world team past) s).process (deed_in team (world team past) s).makings (history team past).makes

-- ---- no step but a look is answered as one

unlooked : (o : Option Reason) → row_answer (answer_by o) ≢ RowAnswer.Look
unlooked None e = absurd (cc)
unlooked (Some reason) e = absurd (cc)

event_unlooked : (team : Team) (now : Moment) (e : Event) (packet : Result (Option Datagram) Reason) (r : Run) → (event_rule team now e packet r).answer ≢ RowAnswer.Look
event_unlooked team now e packet r = by_event team now e packet r (λ z. z.answer ≢ RowAnswer.Look) (unlooked (rule team now packet r).dropped)
    (λ order atom payload. by_proposing team now order atom payload r (λ z. z.answer ≢ RowAnswer.Look) (λ free f. absurd (cc)) (λ why is f. absurd (cc)))

step_unlooked : (team : Team) (h : ℕ) (e : Event) (p : Process) → (step team h e p).answer ≢ RowAnswer.Look
unfolding step
step_unlooked team h e p = event_unlooked team (moment_of team h e p) e (learnt_by team h e p).packet (read_by team h e p)

-- ---- what a look shows

-- a row shows what the list of a make of its group makes of a table, up to the row's cursor
record ShowsTable {Content : Type 0} (meaning : Meaning Content) (makes : List Make) (r : Row) : Type 0 where
  make : Make
  made : In make makes
  group : make.making.decision.group ≡ r.group
  within : r.passed ≤ length make.log
  entries : r.entries ≡ map entry_printed (meaning.shown (content_at meaning make.log r.passed))

shows_more : {Content : Type 0} (meaning : Meaning Content) (makes more : List Make) (r : Row) → More makes more → ShowsTable meaning makes r → ShowsTable meaning more r
shows_more meaning makes more r all k = record { make = k.make; made = all k.make k.made; group = k.group; within = k.within; entries = k.entries }

-- a look at a process that has a group
look_shows : {Content : Type 0} (meaning : Meaning Content) (team : Team) (number already : ℕ) (s : Step) (before : Option Process) (makes : List Make) (q : Process) (b : Belief)
    → s.act ≡ Look → q.belief ≡ b → AllOnce makes → KeepsMade makes q → q.log.base ≡ 0 → IsEndOfKnown makes q → 1 ≤ (or_none (last_of b)).group
    → ShowsTable meaning makes (row_by meaning team number already s before (silent (Some q) RowAnswer.Look))
look_shows meaning team number already s before makes q (Blank followed) act is once keeps base ends some = absurd (omega (arith, some))
look_shows meaning team number already s before makes q (Informed None) act is once keeps base ends some = absurd (omega (arith, some))
look_shows {Content = Content} meaning team number already s before makes q (Informed (Some d)) act is once keeps base ends some = record {
  make = was.0;
  made = was.1;
  group = ap (λ (x : Decision). x.group) was.2 ∙ sym (ap (λ (b : Belief). (or_none (last_of b)).group) is);
  within = let low = ends.passed in let whole = ends.whole (ap is_informed is) ∙ ap length (ap (λ (b : Belief). list_of makes (view_decision b)) is ∙ list_is) in omega (arith, low, whole);
  entries = ap (λ (a : Act). map entry_printed (entries_by meaning a (Some q))) act
      ∙ ap (λ (t : Option Content). map entry_printed (option_map_or meaning.shown t [])) (table_is meaning makes q (Some d) is base ends ∙ ap (λ list. Some (content_at meaning list q.log.passed)) list_is);
}
  where
    was : WasMade makes d
    was = last_made makes q d keeps (ap last_of is)

    list_is : list_of makes (Some d) ≡ was.0.log
    list_is = list_of_made makes once d was

-- the last row
module _ {Content : Type 0} (meaning : Meaning Content) (team : Team) (past : List Step) (s : Step) (sound : IsSound team) (ok : Admissible team (s ∷ past)) where
  -- what it is after a deed
  abbrev row_after : Deed → Row
  row_after d = row_by meaning team (length past + 1) (length (world team past).sent) s ((world team past).process_of s.who) d

  -- shows a table
  abbrev Shows : Row → Type 0
  Shows r = ShowsTable meaning (history team (s ∷ past)).makes r

  looked_shows : (q : Process) → s.act ≡ Look → deed_in team (world team past) s ≡ silent (Some q) RowAnswer.Look → 1 ≤ (or_none (last_of q.belief)).group → Shows (row_after (silent (Some q) RowAnswer.Look))
  looked_shows q act comes some =
      let all : Holding team (with_delivered team) (s ∷ past) = delivered_well team (s ∷ past) sound ok in
      let k = all.running s.who q (own_after team past s ∙ ap (λ (d : Deed). d.process) comes) in
      let groups : OfGroups team (s ∷ past) (written team (s ∷ past)) = all.history.0.0.0.0.0.0 in
      let mine : OfMember team (s ∷ past) (written team (s ∷ past)) s.who q = k.0.0.0.0.0.0 in
      look_shows meaning team (length past + 1) (length (world team past).sent) s ((world team past).process_of s.who) (history team (s ∷ past)).makes q q.belief act refl groups.once mine.maker.keeps k.1.base k.0.1.1 some

  last_shows : Turn team past s (deed_in team (world team past) s) → (row_of meaning team past s).answer ≡ RowAnswer.Look → 1 ≤ (row_of meaning team past s).group → Shows (row_of meaning team past s)
  last_shows (Turn.Starts mode act comes) e some = let f : RowAnswer.Start ≡ RowAnswer.Look = sym (ap (λ (d : Deed). d.answer) comes) ∙ e in absurd (cc)
  last_shows (Turn.Stops act comes) e some = let f : RowAnswer.Crash ≡ RowAnswer.Look = sym (ap (λ (d : Deed). d.answer) comes) ∙ e in absurd (cc)
  last_shows (Turn.Happens event p runs brings comes) e some = absurd (step_unlooked team s.h event p (sym (ap (λ (d : Deed). d.answer) comes) ∙ e))
  last_shows (Turn.Looks p runs act comes) e some =
      subst (λ (d : Deed). Shows (row_after d)) (sym comes) (looked_shows (looked team s.h p) act comes (subst (λ (d : Deed). 1 ≤ (row_after d).group) comes some))

-- Each look at a process that has a group shows what the list of a make of it makes of a table.
looks_show : {Content : Type 0} (meaning : Meaning Content) (team : Team) (past : List Step) → IsSound team → Admissible team past
    → Each (rows_of meaning team past) (λ i r. r.answer ≡ RowAnswer.Look → 1 ≤ r.group → ShowsTable meaning (history team past).makes r)
looks_show meaning team [] sound ok = λ i r e. absurd (cc)
looks_show meaning team (s ∷ past) sound ok =
    each_pushed (λ i r. r.answer ≡ RowAnswer.Look → 1 ≤ r.group → ShowsTable meaning (history team (s ∷ past)).makes r) (rows_of meaning team past) (row_of meaning team past s)
    (λ i r at look some. shows_more meaning (history team past).makes (history team (s ∷ past)).makes r (makes_more team past s) (looks_show meaning team past sound (earlier team past s ok) i r at look some))
    (last_shows meaning team past s sound ok (turn team past s ok))

-- ---- equal tables

-- lists of one group have the same first updates, as many as both have
same_first : (team : Team) (promises : List Promised) (makes : List Make) → HaveLists team promises makes → (a b : Make) → In a makes → In b makes → a.making.decision.group ≡ b.making.decision.group
    → (n : ℕ) → n ≤ length a.log → n ≤ length b.log → take n a.log ≡ take n b.log
same_first team promises makes k a b i j group n low high = by (one_begins team promises makes k a b i j group)
  where
    by : IsBeginning a.log b.log ⊎ IsBeginning b.log a.log → take n a.log ≡ take n b.log
    by (inl begins) = sym (begins_first n a.log b.log begins low)
    by (inr begins) = begins_first n b.log a.log begins high

-- Two looks in one group that passed as much show the same table.
pub equal_tables : {Content : Type 0} (meaning : Meaning Content) (team : Team) (past : List Step) → IsSound team → Admissible team past → EqualTables (rows_of meaning team past)
equal_tables meaning team past sound ok i r at j s at' look look' some group passed =
    let a = looks_show meaning team past sound ok i r at look some in
    let b = looks_show meaning team past sound ok j s at' look' (subst (λ g. 1 ≤ g) group some) in
    let all : Holding team (with_delivered team) past = delivered_well team past sound ok in
    let lists : HaveLists team (history team past).promises (history team past).makes = have_lists team past (written team past) all.history.0.0.0.0.0.0 all.history.0.0.1 in
    let high = b.within in
    let first = same_first team (history team past).promises (history team past).makes lists a.make b.make a.made b.made (a.group ∙ group ∙ sym b.group) r.passed a.within (subst (λ n. n ≤ length b.make.log) (sym passed) high) in
    a.entries
    ∙ ap (λ list. map entry_printed (meaning.shown (fold meaning.after meaning.empty (payloads_in list)))) (first ∙ ap (λ n. take n b.make.log) passed)
    ∙ sym b.entries
