-- What a process's list is after a decision is entered: the end of the decision's list.
use Rattle.std.proofs.Common.{◌≡◌, refl, sym, ap, subst, ◌∙◌, ℕ, ◌+◌, ◌-◌, ◌≤◌, nat_lt, Bool, true, false, cond, not, ◌||◌, List, [], ◌∷◌, ◌++◌, map, length, take, drop, filter_map, find, Option, Some, None, arith, length-append}
use Rattle.std.specs.List.{AllByRecursion, cons_option}
use Rattle.std.specs.Option.{option_map}
use Rattle.std.proofs.lemmas.Bool.Decides.{nat_tests}
use Rattle.std.proofs.lemmas.Bool.{not-false}
use Rattle.std.proofs.lemmas.List.{drop-map, drop-drop, drop-append-le, length-map, length-take-le, map-append}
use Rattle.std.proofs.Math.Seq.{drop-append_seam, take-length}
use Rattle.tw_machine.specs.Types.{Decision, Entry, Kept, UpdateId, Reason, Team}
use Rattle.tw_types.specs.declared.answer.Reason.TheVariants.{Gap}
use Rattle.tw_types.specs.Appending.{added_entry, added_kept, appended_updates, appended_kept}
use Rattle.tw_types.specs.Flag.{is_up}
use Rattle.tw_types.proofs.Appended.{IsAddedFrom}
use Rattle.tw_machine.specs.Deciding.{kept_to_add}
use Rattle.safety_laws.proofs.FirstDecisions.{in_list_any, all_mapped_from}
use Rattle.tw_types.specs.Beliefs.{Belief, Informed, is_informed, view_decision, Log, log_length}
use Rattle.tw_types.specs.Decisions.{decision_length}
use Rattle.tw_types.specs.Items.{In}
use Rattle.tw_types.specs.Logs.{list_tests, first_missing, needed, entry_joined, log_after}
use Rattle.tw_types.specs.Process.{Process}
use Rattle.tw_types.specs.Refusals.{first_refusal}
use Rattle.tw_types.specs.Sends.{as_sent}
use Rattle.tw_types.specs.Updates.{is_same_id, is_named, find_update, has_update}
use Rattle.tw_types.specs.Waiting.{payloads_of}
use Rattle.tw_machine.specs.History.{Make, SentUpdate, list_of}
use Rattle.safety_laws.specs.Beginnings.{IsBeginning, known, unmarked, IsEndOfKnown}
use Rattle.safety_laws.specs.Ids.{IsOfSend}
use Rattle.safety_laws.specs.Lists.{entries_of}
use Rattle.safety_laws.specs.Sends.{id_of, AllSentOnce}
use Rattle.safety_laws.proofs.IdLists.{same_id_of, one_send}
use Rattle.safety_laws.proofs.Lists.{of_each, each_from, each_weaker, in_first, in_drop, found_in, finds}
use Rattle.safety_laws.proofs.NextDecisions.{any_in}
use Rattle.safety_laws.proofs.Marked.{OnlyDelivers}

-- ---- what is found

-- where nothing is found none passes
none_found : {X : Type 0} (test : X → Bool) (xs : List X) → find test xs ≡ None → AllByRecursion (λ x. test x ≡ false) xs
none_found test [] none = tt
none_found {X} test (x ∷ xs) none = go (test x) refl none (none_found test xs)
  where
    go : (b : Bool) → test x ≡ b → cond b (Some x) (find test xs) ≡ None → (find test xs ≡ None → AllByRecursion (λ y. test y ≡ false) xs) → (test x ≡ false) × AllByRecursion (λ y. test y ≡ false) xs
    go true is none rest = absurd (cc)
    go false is none rest = (is, rest none)

-- an update with this id
record IsFound (id : UpdateId) (updates : List Kept) : Type 0 where
  update : Kept
  found : find_update id updates ≡ Some update
  there : In update updates
  named : update.entry.id ≡ id

-- it is found where it is there
is_found : (id : UpdateId) (updates : List Kept) → has_update id updates ≡ true → IsFound id updates
is_found id updates has =
    let one = any_in (is_named id) updates has in
    let f = finds (is_named id) updates one.0 one.1 one.2 in
    let k = found_in (is_named id) updates f.0 f.1 in
    record { update = f.0; found = f.1; there = k.0; named = same_id_of f.0.entry.id id k.1 }

-- ---- the entries that a decision adds

-- the payloads that are wanted are there
abbrev pub AllThere : List Kept → List Kept → Type 0
AllThere payloads list = AllByRecursion (λ (k : Kept). has_update k.entry.id payloads ≡ true) list

-- The entries of updates that were sent, with the payloads that are found for them, are these updates, but for marks.
joined_one : (sends : List SentUpdate) (payloads : List Kept) (k : Kept) → AllSentOnce sends → AllByRecursion (IsOfSend sends) payloads → IsOfSend sends k → k.early ≡ false → has_update k.entry.id payloads ≡ true
    → (u : Kept) × (entry_joined payloads k.entry ≡ Some u) × (unmarked u ≡ k)
joined_one sends payloads k once sent of_k early has =
    let f = is_found k.entry.id payloads has in
    let of_u = of_each (IsOfSend sends) payloads f.update sent f.there in
    let ids : id_of of_u.0 ≡ id_of of_k.0 = ap (λ (z : Kept). z.entry.id) of_u.2 ∙ f.named ∙ sym (ap (λ (z : Kept). z.entry.id) of_k.2) in
    let one : of_u.0 ≡ of_k.0 = one_send sends of_u.0 of_k.0 once of_u.1 of_k.1 ids in
    let same : as_sent f.update ≡ as_sent k = sym of_u.2 ∙ ap (λ (z : SentUpdate). z.sending.update) one ∙ of_k.2 in (
      record (f.update) { entry = k.entry },
      ap (option_map (λ (u : Kept). record u { entry = k.entry })) f.found,
      same_kept (ap (λ (z : Kept). z.payload) same),
    )
  where
    same_kept : {payload : _} → payload ≡ k.payload → record { entry = k.entry; early = false; payload = payload } ≡ k
    same_kept same = ap (λ p. record { entry = k.entry; early = false; payload = p }) same ∙ ap (λ e. record { entry = k.entry; early = e; payload = k.payload }) (sym early)

-- all of them
joined_same : (sends : List SentUpdate) (payloads list : List Kept) → AllSentOnce sends → AllByRecursion (IsOfSend sends) payloads → AllByRecursion (IsOfSend sends) list → AllByRecursion (λ (k : Kept). k.early ≡ false) list → AllThere payloads list
    → map unmarked (filter_map (entry_joined payloads) (entries_of list)) ≡ list
joined_same sends payloads [] once sent of_list early there = refl
joined_same sends payloads (k ∷ list) once sent of_list early there =
    let one = joined_one sends payloads k once sent of_list.0 early.0 there.0 in
    ap (λ o. map unmarked (cons_option o (filter_map (entry_joined payloads) (entries_of list)))) one.1
    ∙ ap (λ u. u ∷ map unmarked (filter_map (entry_joined payloads) (entries_of list))) one.2
    ∙ ap (λ rest. k ∷ rest) (joined_same sends payloads list once sent of_list.1 early.1 there.1)

-- ---- a decision is entered

-- What a process has to know to enter a decision of this list.
pub record MayEnter (sends : List SentUpdate) (makes : List Make) (p : Process) (d : Decision) (list : List Kept) : Type 0 where
  pub list_is : list_of makes (Some d) ≡ list
  pub begins : IsBeginning (known makes p) list
  pub low : d.low ≤ log_length p.log
  pub window : d.window.items ≡ entries_of (drop d.low list)
  pub there : AllThere (payloads_of p.waiting) (drop (log_length p.log) list)
  pub sent : AllByRecursion (IsOfSend sends) list
  pub early : AllByRecursion (λ (k : Kept). k.early ≡ false) list
  pub payloads : AllByRecursion (IsOfSend sends) (payloads_of p.waiting)

-- the entries that are needed are those behind what the process has
pub needed_is : (log : Log) (d : Decision) (list : List Kept) → d.low ≤ log_length log → d.window.items ≡ entries_of (drop d.low list) → needed log d ≡ entries_of (drop (log_length log) list)
needed_is log d list low window =
    let sum : d.low + (log_length log - d.low) ≡ log_length log = omega (arith, low) in
    ap (drop (log_length log - d.low)) window
    ∙ drop-map (λ (k : Kept). k.entry) (log_length log - d.low) (drop d.low list)
    ∙ ap entries_of (drop-drop (log_length log - d.low) d.low list ∙ ap (λ n. drop n list) sum)

-- what holds of each holds of each that is left
each_dropped : (P : Kept → Type 0) (n : ℕ) (list : List Kept) → AllByRecursion P list → AllByRecursion P (drop n list)
each_dropped P n list all = each_from P (drop n list) (λ k i. of_each P list k all (in_drop n list k i))

module _ (sends : List SentUpdate) (makes : List Make) (p : Process) (d : Decision) (list : List Kept) (once : AllSentOnce sends) (may : MayEnter sends makes p d list) (ends : IsEndOfKnown makes p) where
  -- the updates that are added
  added : List Kept
  added = filter_map (entry_joined (payloads_of p.waiting)) (needed p.log d)

  -- and the list behind what is known
  rest : List Kept
  rest = drop (log_length p.log) list

  -- what is added is the rest of the list
  added_is : map unmarked added ≡ rest
  unfolding added rest
  added_is =
      ap (λ es. map unmarked (filter_map (entry_joined (payloads_of p.waiting)) es)) (needed_is p.log d list may.low may.window)
      ∙ joined_same sends (payloads_of p.waiting) (drop (log_length p.log) list) once may.payloads (each_dropped (IsOfSend sends) (log_length p.log) list may.sent) (each_dropped (λ (k : Kept). k.early ≡ false) (log_length p.log) list may.early) may.there

  -- as many items are known as the process's list reaches to
  known_length : length (known makes p) ≡ log_length p.log
  known_length = length-take-le (log_length p.log) (list_of makes (view_decision p.belief)) ends.within

  -- the list is what is known, and the rest
  whole_is : list ≡ known makes p ++ rest
  unfolding rest
  whole_is = may.begins.1 ∙ ap (λ l. known makes p ++ l) (sym (ap (λ n. drop n list) (sym known_length) ∙ ap (drop (length (known makes p))) may.begins.1 ∙ drop-append_seam (known makes p) may.begins.0))

  -- so it is as long as the process's list is then
  full_length : p.log.base + length (p.log.entries ++ added) ≡ length list
  full_length =
      let joined : length (p.log.entries ++ added) ≡ length p.log.entries + length added = simp length-append in
      let same : length added ≡ length rest = sym (length-map added unmarked) ∙ ap length added_is in
      let whole : length list ≡ length (known makes p) + length rest = ap length whole_is ∙ simp length-append in
      let n = known_length in
      omega (arith, joined, same, whole, n)

  -- Then the process's list is the end of the decision's list.
  pub entered_ends : (q : Process) → q.log ≡ log_after (payloads_of p.waiting) d p.log → q.belief ≡ Informed (Some d) → IsEndOfKnown makes q
  unfolding added
  entered_ends q log belief = record {
    base = rw log ends.base;
    passed = let low = ends.passed in let joined : length (p.log.entries ++ added) ≡ length p.log.entries + length added = simp length-append in rw log (omega (arith, low, joined));
    within = rw (log, belief) (let n = full_length in let l = ap length may.list_is in omega (arith, n, l));
    entries = rw (log, belief) (
        map-append unmarked p.log.entries added
        ∙ ap (λ l. l ++ map unmarked added) ends.entries
        ∙ ap (λ l. drop p.log.base (known makes p) ++ l) added_is
        ∙ sym (drop-append-le p.log.base (known makes p) rest (let low = ends.base in let high = ends.passed in let n = known_length in omega (arith, low, high, n)))
        ∙ ap (drop p.log.base) (sym whole_is ∙ sym (ap (λ n. take n (list_of makes (Some d))) full_length ∙ ap (take (length list)) may.list_is ∙ take-length list))
        );
    whole = λ informed. rw (log, belief) (full_length ∙ sym (ap length may.list_is));
  }

-- ---- what is asked of a decision that is taken

-- its window begins within the list
pub fits_low : (log : Log) (d : Decision) → first_refusal (list_tests log d) ≡ None → d.low ≤ log_length log
fits_low log d none = go (nat_lt (log_length log) d.low) refl _ none
  where
    go : (b : Bool) → nat_lt (log_length log) d.low ≡ b → (others : Option Reason) → cond (b || nat_lt (decision_length d) (log_length log)) (Some Gap) others ≡ None → d.low ≤ log_length log
    go true is others e = absurd (cc)
    go false is others e = grind (arith, nat_tests)

-- of updates none of whose entries lacks a payload
pub there_of_entries : (payloads list : List Kept) → AllByRecursion (λ (e : Entry). not (has_update e.id payloads) ≡ false) (entries_of list) → AllThere payloads list
there_of_entries payloads list all = each_weaker (λ (k : Kept). not (has_update k.entry.id payloads) ≡ false) (λ (k : Kept). has_update k.entry.id payloads ≡ true) list (λ k e. not-false (has_update k.entry.id payloads) e)
    (all_mapped_from (λ (e : Entry). not (has_update e.id payloads) ≡ false) (λ (k : Kept). k.entry) list all)

-- none of its payloads is missing
pub none_missing : (log : Log) (payloads : List Kept) (d : Decision) (list : List Kept) → d.low ≤ log_length log → d.window.items ≡ entries_of (drop d.low list) → first_missing log payloads d ≡ None → AllThere payloads (drop (log_length log) list)
none_missing log payloads d list low window none =
    there_of_entries payloads (drop (log_length log) list)
    (subst (AllByRecursion (λ (e : Entry). not (has_update e.id payloads) ≡ false)) (needed_is log d list low window)
    (none_found (λ (e : Entry). not (has_update e.id payloads)) (needed log d) (go (find (λ (e : Entry). not (has_update e.id payloads)) (needed log d)) none)))
  where
    go : (o : Option Entry) → option_map (λ (e : Entry). e.id) o ≡ None → o ≡ None
    go None e = refl
    go (Some e) f = absurd (cc)

-- ---- marks, and more makes

-- a process's list is the end of what it knows by more makes too
pub ends_by : (makes more : List Make) (p : Process) → list_of more (view_decision p.belief) ≡ list_of makes (view_decision p.belief) → IsEndOfKnown makes p → IsEndOfKnown more p
ends_by makes more p same k = record {
  base = k.base;
  passed = k.passed;
  within = subst (λ l. log_length p.log ≤ length l) (sym same) k.within;
  entries = subst (λ l. map unmarked p.log.entries ≡ drop p.log.base (take (log_length p.log) l)) (sym same) k.entries;
  whole = λ informed. subst (λ l. log_length p.log ≡ length l) (sym same) (k.whole informed);
}

-- as much is known where the belief is the same and the list as long
pub known_same : (makes : List Make) (p q : Process) → q.belief ≡ p.belief → log_length q.log ≡ log_length p.log → known makes q ≡ known makes p
known_same makes p q belief as_long = ap (λ n. take n (list_of makes (view_decision q.belief))) as_long ∙ ap (λ (b : Belief). take (log_length p.log) (list_of makes (view_decision b))) belief

-- so is the list of a process of which only marks are others, and how much of it is passed
pub ends_delivered : (makes : List Make) (p q : Process) → OnlyDelivers p.log q.log → q.belief ≡ p.belief → IsEndOfKnown makes p → IsEndOfKnown makes q
ends_delivered makes p q only belief k =
    let base = only.base in
    let more = only.more in
    let low = k.base in
    let high = only.within k.passed in
    let as_long = only.same_length in
    let list : list_of makes (view_decision q.belief) ≡ list_of makes (view_decision p.belief) = ap (λ (b : Belief). list_of makes (view_decision b)) belief in
    record {
      base = omega (arith, base, more, low);
      passed = omega (arith, high, as_long);
      within = subst (λ n. n ≤ length (list_of makes (view_decision q.belief))) (sym as_long) (subst (λ l. log_length p.log ≤ length l) (sym list) k.within);
      entries = only.entries ∙ k.entries ∙ ap (λ n. drop n (known makes p)) (sym base) ∙ ap (drop q.log.base) (sym (known_same makes p q belief as_long));
      whole = λ informed. as_long ∙ k.whole (ap is_informed (sym belief) ∙ informed) ∙ sym (ap length list);
    }

-- and of a process with the same list and belief
pub ends_same : (makes : List Make) (p q : Process) → q.log ≡ p.log → q.belief ≡ p.belief → IsEndOfKnown makes p → IsEndOfKnown makes q
ends_same makes p q log belief k = record {
  base = rw log k.base;
  passed = rw log k.passed;
  within = rw (log, belief) k.within;
  entries = rw (log, belief) k.entries;
  whole = λ informed. rw (log, belief) (k.whole (ap is_informed (sym belief) ∙ informed));
}

-- ---- updates that a next decision adds

-- an id is itself
pub same_id : (id : UpdateId) → is_same_id id id ≡ true
same_id id = grind (arith, nat_tests)

-- the payloads of pending updates are there
pub added_there : (pending others updates : List Kept) → AllByRecursion (IsAddedFrom pending) updates → AllThere (pending ++ others) updates
added_there pending others updates all = each_weaker (IsAddedFrom pending) (λ (k : Kept). has_update k.entry.id (pending ++ others) ≡ true) updates
    (λ k from.
    let id : from.update.entry.id ≡ k.entry.id = ap (λ (z : Kept). z.entry.id) (sym from.same) in
    in_list_any (is_named k.entry.id) (pending ++ others) from.update (in_first from.update pending others from.waits) (subst (λ z. is_same_id z k.entry.id ≡ true) (sym id) (same_id k.entry.id))) all

-- what is added has no mark
added_early : (d : Decision) (before : List Entry) (updates : List Kept) → AllByRecursion (λ (k : Kept). k.early ≡ false) (added_kept d before updates)
added_early d before [] = tt
added_early d before (k ∷ updates) = (refl, added_early d (before ++ added_entry d before k ∷ []) updates)

-- nor what is appended
appended_early : (team : Team) (t passed : ℕ) (d : Decision) (pending : List Kept) → AllByRecursion (λ (k : Kept). k.early ≡ false) (appended_kept team t passed d pending)
unfolding appended_kept
appended_early team t passed d pending = added_early d [] (appended_updates team t passed d pending)

-- so what a maker adds has none, also where it was delivered early while it waited
pub kept_early : (team : Team) (t : ℕ) (last : Decision) (p : Process) → AllByRecursion (λ (k : Kept). k.early ≡ false) (kept_to_add team t last p)
kept_early team t last p = go (is_up team p.vote p.belief (Some t))
  where
    go : (up : Bool) → AllByRecursion (λ (k : Kept). k.early ≡ false) (cond up (appended_kept team t p.log.passed last p.waiting.pending) [])
    go true = appended_early team t p.log.passed last p.waiting.pending
    go false = tt
