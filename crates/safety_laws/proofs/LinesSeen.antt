-- The lines of the history are the deliveries that rows print, in their order.
use Rattle.std.proofs.Common.{◌≡◌, ◌≢◌, refl, sym, ap, subst, ◌∙◌, inl, inr, ◌⊎◌, ℕ, suc, ◌<◌, nat_eq, Bool, true, false, cond, List, [], ◌∷◌, ◌++◌, map, append-nil, reverse, Option, Some, length, arith}
use Rattle.std.proofs.lemmas.List.{append_assoc, map-append, reverse-append}
use Rattle.std.proofs.lemmas.Grind.{flat_map-append}
use Rattle.std.specs.List.{AllByRecursion, flat_map}
use Rattle.tw_machine.specs.Types.{Member, Step, Team}
use Rattle.tw_types.specs.Decisions.{or_none}
use Rattle.tw_types.specs.Items.{In}
use Rattle.tw_types.specs.Process.{Identity, Process}
use Rattle.tw_types.specs.Row.{Row}
use Rattle.tw_types.specs.Team.{IsSound}
use Rattle.tw_types.proofs.Appended.{in_map, of_map}
use Rattle.tw_machine.specs.Applied.{Meaning}
use Rattle.tw_machine.specs.Event.{Event}
use Rattle.tw_machine.specs.History.{Line, life, line_item, lines_on, lines_by, history}
use Rattle.tw_machine.specs.Places.{Each, Exists}
use Rattle.tw_machine.specs.Rows.{row_by, row_of, rows_of}
use Rattle.tw_machine.specs.Run.{Delivered}
use Rattle.tw_machine.specs.Standing.{member_of, last_decision}
use Rattle.tw_machine.specs.Step.{step}
use Rattle.tw_machine.specs.World.{Deed, happen, deed_in, world, Admissible}
use Rattle.tw_machine.proofs.Tables.{same_number, other_number}
use Rattle.tw_machine.proofs.Steps.{step_identity}
use Rattle.safety_laws.specs.Seen.{delivery_of, IsLineOf, lines_of, AreLinesOf, shown_by, shown_in, shown_of}
use Rattle.safety_laws.proofs.FirstDecisions.{one_member}
use Rattle.safety_laws.proofs.Induction.{earlier, Turn, turn, by_turn}
use Rattle.safety_laws.proofs.LinesTold.{delivery_told, AgreesOnTold, step_agrees_on_told}
use Rattle.safety_laws.proofs.Lists.{of_each, each_from}
use Rattle.safety_laws.proofs.Places.{each_pushed, exists_pushed, exists_last}
use Rattle.safety_laws.proofs.Promises.{promised_well}

-- ---- lines by the numbers of their rows

-- lines in their order, put before what is older
abbrev put_on : List Line → List Line → List Line
put_on [] older = older
put_on (x ∷ more) older = put_on more (x ∷ older)

-- these bear a number
abbrev Bear : ℕ → List Line → Type 0
Bear number xs = AllByRecursion (λ (x : Line). x.row ≡ number) xs

-- lines of this number come behind those that are there
own_lines : (number : ℕ) (new older : List Line) → Bear number new → lines_of number (put_on new older) ≡ lines_of number older ++ new
own_lines number [] older bear = sym (append-nil (lines_of number older))
own_lines number (x ∷ more) older bear =
    let is : nat_eq x.row number ≡ true = subst (λ (k : ℕ). nat_eq k number ≡ true) (sym bear.0) (same_number number) in
    own_lines number more (x ∷ older) bear.1
    ∙ ap (λ (b : Bool). cond b (lines_of number older ++ x ∷ []) (lines_of number older) ++ more) is
    ∙ append_assoc (lines_of number older) (x ∷ []) more

-- those of another number change nothing
other_lines : (number other : ℕ) (new older : List Line) → Bear number new → number ≢ other → lines_of other (put_on new older) ≡ lines_of other older
other_lines number other [] older bear differs = refl
other_lines number other (x ∷ more) older bear differs =
    let isnt : nat_eq x.row other ≡ false = subst (λ (k : ℕ). nat_eq k other ≡ false) (sym bear.0) (other_number number other differs) in
    other_lines number other more (x ∷ older) bear.1 differs
    ∙ ap (λ (b : Bool). cond b (lines_of other older ++ x ∷ []) (lines_of other older)) isnt

-- where each line has a lower number there are none
none_yet : (number : ℕ) (xs : List Line) → ((x : Line) → In x xs → x.row < number) → lines_of number xs ≡ []
none_yet number [] low = refl
none_yet number (x ∷ older) low =
    let isnt : nat_eq x.row number ≡ false = other_number x.row number (λ same. let l = low x (inl refl) in absurd (omega (arith, l, same))) in
    ap (λ (b : Bool). cond b (lines_of number older ++ x ∷ []) (lines_of number older)) isnt ∙ none_yet number older (λ y i. low y (inr i))

of_put : (x : Line) (new older : List Line) → In x (put_on new older) → In x new ⊎ In x older
of_put x [] older i = inr i
of_put x (y ∷ more) older i = go (of_put x more (y ∷ older) i)
  where
    go : In x more ⊎ In x (y ∷ older) → In x (y ∷ more) ⊎ In x older
    go (inl j) = inl (inr j)
    go (inr (inl e)) = inl (inl e)
    go (inr (inr j)) = inr j

put_lines : (row : ℕ) (member : Member) (life : ℕ) (s : Step) (told : List Delivered) (older : List Line) → lines_on row member life s told older ≡ put_on (map (line_item row member life s) told) older
put_lines row member life s [] older = refl
put_lines row member life s (x ∷ more) older = put_lines row member life s more (line_item row member life s x ∷ older)

-- ---- rows and their lines

-- what a row adds to the lines: those that are its own
record AddsLines (r : Row) (older newer : List Line) : Type 0 where
  new : List Line
  is : newer ≡ put_on new older
  own : AreLinesOf r new

-- of rows whose numbers are below this one
record AreLines (next : ℕ) (rows : List Row) (lines : List Line) : Type 0 where
  numbered : Each rows (λ i r. r.step < next)
  each_row : Each rows (λ i r. AreLinesOf r (lines_of r.step lines))
  each_line : (x : Line) → In x lines → Exists rows (λ i r. IsLineOf r x)

bear_own : (r : Row) (new : List Line) → AreLinesOf r new → Bear r.step new
bear_own r new own = each_from (λ (x : Line). x.row ≡ r.step) new (λ x i. (of_each (IsLineOf r) new x own.each i).number)

lines_on_row : (next : ℕ) (rows : List Row) (r : Row) (older newer : List Line) → r.step ≡ next → AreLines next rows older → AddsLines r older newer → AreLines (suc next) (rows ++ r ∷ []) newer
lines_on_row next rows r older newer number before adds = record {
  numbered = each_pushed (λ i q. q.step < suc next) rows r (λ i q at. let l = before.numbered i q at in omega (arith, l)) (omega (arith, number));
  each_row = each_pushed (λ i q. AreLinesOf q (lines_of q.step newer)) rows r
      (λ i q at.
      let l = before.numbered i q at in
      let differs : r.step ≢ q.step = λ same. absurd (omega (arith, l, same, number)) in
      subst (AreLinesOf q) (sym (ap (lines_of q.step) adds.is ∙ other_lines r.step q.step adds.new older bear differs)) (before.each_row i q at))
      (subst (AreLinesOf r) (sym (ap (lines_of r.step) adds.is ∙ own_lines r.step adds.new older bear ∙ ap (λ xs. xs ++ adds.new) (none_yet r.step older low))) adds.own);
  each_line = λ x i. by x (of_put x adds.new older (subst (In x) adds.is i));
}
  where
    bear : Bear r.step adds.new
    bear = bear_own r adds.new adds.own

    low : (x : Line) → In x older → x.row < r.step
    low x i = let e = before.each_line x i in let l = before.numbered e.0 e.1 e.2 in omega (arith, l, e.3.number, number)

    by : (x : Line) → In x adds.new ⊎ In x older → Exists (rows ++ r ∷ []) (λ i q. IsLineOf q x)
    by x (inl j) = exists_last (λ i q. IsLineOf q x) rows r (of_each (IsLineOf r) adds.new x adds.own.each j)
    by x (inr j) = exists_pushed (λ i q. IsLineOf q x) rows r (before.each_line x j)

-- ---- the row of a deed

abbrev AddsOfDeed : {Content : Type 0} → Meaning Content → Team → ℕ → ℕ → ℕ → Step → Option Process → List Line → Deed → Type 0
AddsOfDeed meaning team number already life s before older d = AddsLines (row_by meaning team number already s before d) older (lines_by number life s d.process d.delivered older)

items_printed : (row : ℕ) (member : Member) (life : ℕ) (s : Step) (told : List Delivered) → map delivery_of (map (line_item row member life s) told) ≡ map delivery_told told
items_printed row member life s [] = refl
items_printed row member life s (x ∷ more) = ap (λ rest. delivery_told x ∷ rest) (items_printed row member life s more)

-- of an event
event_adds_lines : {Content : Type 0} (meaning : Meaning Content) (team : Team) (number already life : ℕ) (s : Step) (before : Option Process) (older : List Line) (e : Event) (p : Process)
    → p.identity.who ≡ s.who → AgreesOnTold (or_none (last_decision (step team s.h e p).process)) (step team s.h e p).out (step team s.h e p).delivered → AddsOfDeed meaning team number already life s before older (happen team s.h e p)
event_adds_lines meaning team number already life s before older e p named agrees = record {
  new = map item told;
  is = put_lines number member life s told older;
  own = record {
    each = each_from (IsLineOf row) (map item told) (λ x i. let k = of_map item told x i in subst (IsLineOf row) (sym k.2) (is_line k.0 k.1));
    whole = items_printed number member life s told ∙ agrees.whole;
  };
}
  where
    told : List Delivered
    told = (step team s.h e p).delivered

    member : Member
    member = member_of (step team s.h e p).process.identity

    is_member : member_of (step team s.h e p).process.identity ≡ record { who = s.who; incarnation = (step team s.h e p).process.identity.incarnation }
    is_member = one_member member (record { who = s.who; incarnation = member.incarnation }) (ap (λ (i : Identity). i.who) (step_identity team s.h e p) ∙ named) refl

    item : Delivered → Line
    item = line_item number member life s

    row : Row
    row = row_by meaning team number already s before (happen team s.h e p)

    is_line : (x : Delivered) → In x told → IsLineOf row (item x)
    is_line x i =
        let by = of_each _ told x agrees.each i in
        record { number = refl; who = refl; member = is_member; group = by.0; turn = by.1; printed = subst (In (delivery_told x)) agrees.whole (in_map delivery_told told x i) }

deed_adds_lines : {Content : Type 0} (meaning : Meaning Content) (team : Team) (past : List Step) (number already life : ℕ) (s : Step) (before : Option Process) (older : List Line) (d : Deed) → Turn team past s d
    → ((p : Process) → (world team past).process_of s.who ≡ Some p → p.identity.who ≡ s.who) → AddsOfDeed meaning team number already life s before older d
deed_adds_lines meaning team past number already life s before older d t named = by_turn team past s (AddsOfDeed meaning team number already life s before older) d t
    (λ answer mute. record { new = []; is = refl; own = record { each = tt; whole = refl } }) (λ p answer mute. record { new = []; is = refl; own = record { each = tt; whole = refl } })
    (λ e p runs brings. event_adds_lines meaning team number already life s before older e p (named p runs) (step_agrees_on_told team s.h e p))

-- the lines after one step more
step_adds_lines : {Content : Type 0} (meaning : Meaning Content) (team : Team) (past : List Step) (s : Step) → IsSound team → Admissible team (s ∷ past)
    → AddsLines (row_of meaning team past s) (history team past).lines (history team (s ∷ past)).lines
step_adds_lines meaning team past s sound ok =
    deed_adds_lines meaning team past _ _ (life s.who (s ∷ past)) s ((world team past).process_of s.who) (history team past).lines (deed_in team (world team past) s) (turn team past s ok)
    (λ p runs. ((promised_well team past sound (earlier team past s ok)).running s.who p runs).own.is)

lines_seen : {Content : Type 0} (meaning : Meaning Content) (team : Team) (past : List Step) → IsSound team → Admissible team past → AreLines (suc (length past)) (rows_of meaning team past) (history team past).lines
lines_seen meaning team [] sound ok = record { numbered = λ i r e. absurd (cc); each_row = λ i r e. absurd (cc); each_line = λ x i. absurd i }
lines_seen meaning team (s ∷ past) sound ok =
    lines_on_row (suc (length past)) (rows_of meaning team past) (row_of meaning team past s) (history team past).lines (history team (s ∷ past)).lines (omega arith) (lines_seen meaning team past sound (earlier team past s ok))
    (step_adds_lines meaning team past s sound ok)

-- ---- rows one after the other

-- all lines, the oldest first, are what rows show
abbrev InOrder : List Row → List Line → Type 0
InOrder rows lines = map shown_of (reverse lines) ≡ flat_map shown_in rows

put_last : (new older : List Line) → reverse (put_on new older) ≡ reverse older ++ new
put_last [] older = sym (append-nil (reverse older))
put_last (x ∷ more) older = put_last more (x ∷ older) ∙ ap (λ xs. xs ++ more) (reverse-append (x ∷ []) older) ∙ append_assoc (reverse older) (x ∷ []) more

line_shown : (r : Row) (x : Line) → IsLineOf r x → shown_of x ≡ shown_by r (delivery_of x)
line_shown r x is = let incarnation : x.member.incarnation ≡ r.incarnation = ap (λ (m : Member). m.incarnation) is.member in cc (is.number, is.who, incarnation, is.group, is.turn)

lines_shown : (r : Row) (xs : List Line) → AllByRecursion (IsLineOf r) xs → map shown_of xs ≡ map (shown_by r) (map delivery_of xs)
lines_shown r [] each = refl
lines_shown r (x ∷ xs) each = ap (λ y. y ∷ map shown_of xs) (line_shown r x each.0) ∙ ap (λ ys. shown_by r (delivery_of x) ∷ ys) (lines_shown r xs each.1)

order_on_row : (rows : List Row) (r : Row) (older newer : List Line) → InOrder rows older → AddsLines r older newer → InOrder (rows ++ r ∷ []) newer
order_on_row rows r older newer before adds =
    ap (λ xs. map shown_of (reverse xs)) adds.is
    ∙ ap (λ xs. map shown_of xs) (put_last adds.new older)
    ∙ map-append shown_of (reverse older) adds.new
    ∙ ap (λ ys. ys ++ map shown_of adds.new) before
    ∙ ap (λ ys. flat_map shown_in rows ++ ys) (lines_shown r adds.new adds.own.each ∙ ap (λ ys. map (shown_by r) ys) adds.own.whole ∙ sym (append-nil (shown_in r)))
    ∙ sym (flat_map-append shown_in rows (r ∷ []))

-- ---- in every schedule

-- The lines that bear a row's number are its own, one for each of its deliveries and in their order.
pub row_lines_seen : {Content : Type 0} (meaning : Meaning Content) (team : Team) (past : List Step) → IsSound team → Admissible team past
    → Each (rows_of meaning team past) (λ i r. AreLinesOf r (lines_of r.step (history team past).lines))
row_lines_seen meaning team past sound ok = (lines_seen meaning team past sound ok).each_row

-- And each line is of a row.
pub lines_printed : {Content : Type 0} (meaning : Meaning Content) (team : Team) (past : List Step) → IsSound team → Admissible team past
    → (x : Line) → In x (history team past).lines → Exists (rows_of meaning team past) (λ i r. IsLineOf r x)
lines_printed meaning team past sound ok = (lines_seen meaning team past sound ok).each_line

-- All lines, the oldest first, are what the rows show of their deliveries, row after row.
pub lines_in_order : {Content : Type 0} (meaning : Meaning Content) (team : Team) (past : List Step) → IsSound team → Admissible team past
    → map shown_of (reverse (history team past).lines) ≡ flat_map shown_in (rows_of meaning team past)
lines_in_order meaning team [] sound ok = refl
lines_in_order meaning team (s ∷ past) sound ok =
    order_on_row (rows_of meaning team past) (row_of meaning team past s) (history team past).lines (history team (s ∷ past)).lines (lines_in_order meaning team past sound (earlier team past s ok))
    (step_adds_lines meaning team past s sound ok)
