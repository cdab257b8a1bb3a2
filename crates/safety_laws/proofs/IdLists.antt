-- Lists of updates and entries of which each keeps what its send gave.
use Rattle.std.proofs.Common.{◌≡◌, ◌≢◌, sym, ap, subst, ◌∙◌, inl, inr, ℕ, true, false, List, [], ◌∷◌, map, drop, filter_map, Option, Some, None, arith}
use Rattle.std.specs.List.{AllByRecursion}
use Rattle.std.proofs.lemmas.Bool.Decides.{nat_tests}
use Rattle.tw_machine.specs.Types.{Body, UpdateId, Entry, Kept, Decision}
use Rattle.tw_types.specs.declared.datagram.Body.TheVariants as bodies
use Rattle.tw_types.specs.Decisions.{or_none}
use Rattle.tw_types.specs.Logs.{needed, entry_joined}
use Rattle.tw_types.specs.Process.{Process}
use Rattle.tw_types.specs.Sends.{as_sent}
use Rattle.tw_types.specs.Updates.{is_same_id}
use Rattle.tw_types.specs.Waiting.{payloads_of}
use Rattle.tw_types.proofs.Appended.{IsAddedFrom}
use Rattle.tw_machine.specs.Entering.{entered}
use Rattle.tw_machine.specs.History.{SentUpdate, Make, list_of}
use Rattle.tw_machine.proofs.Tables.{all_mapped}
use Rattle.tw_types.proofs.Lists.{all_joined}
use Rattle.safety_laws.specs.Effects.{WasSent}
use Rattle.safety_laws.specs.Ids.{IsOfSend, EntryIsOfSend, MakeKeeps, ProcessKeeps, BodyKeeps}
use Rattle.tw_types.specs.Items.{In}
use Rattle.safety_laws.specs.Made.{WasMade, WasMadeIfAny}
use Rattle.safety_laws.specs.Sends.{id_of, AllSentOnce}
use Rattle.safety_laws.proofs.Lists.{of_each, each_weaker, each_from, in_drop}
use Rattle.safety_laws.proofs.MadeLists.{More}
use Rattle.safety_laws.proofs.Prefixes.{list_holds}
use Rattle.safety_laws.proofs.WaitingItems.{all_entered, all_settled}

-- ---- where more was sent, all is kept

-- an update, and an entry
sent_more : (sends more : List SentUpdate) (k : Kept) → More sends more → WasSent sends k → WasSent more k
sent_more sends more k all w = (w.0, all w.0 w.1, w.2)

entry_more : (sends more : List SentUpdate) (e : Entry) → More sends more → EntryIsOfSend sends e → EntryIsOfSend more e
entry_more sends more e all w = (w.0, all w.0 w.1, w.2)

-- a make, a process, and a datagram's body
pub make_more : (sends more : List SentUpdate) (m : Make) → More sends more → MakeKeeps sends m → MakeKeeps more m
make_more sends more m all k = record {
  appended = each_weaker (IsOfSend sends) (IsOfSend more) m.making.appended (λ u. sent_more sends more (as_sent u) all) k.appended;
  list = each_weaker (IsOfSend sends) (IsOfSend more) m.log (λ u. sent_more sends more (as_sent u) all) k.list;
  window = each_weaker (EntryIsOfSend sends) (EntryIsOfSend more) m.making.decision.window.items (λ e. entry_more sends more e all) k.window;
}

pub process_more : (sends more : List SentUpdate) (p : Process) → More sends more → ProcessKeeps sends p → ProcessKeeps more p
process_more sends more p all k = record {
  list = each_weaker (IsOfSend sends) (IsOfSend more) p.log.entries (λ u. sent_more sends more (as_sent u) all) k.list;
  waiting = each_weaker (IsOfSend sends) (IsOfSend more) (payloads_of p.waiting) (λ u. sent_more sends more (as_sent u) all) k.waiting;
}

pub body_more : (sends more : List SentUpdate) (body : Body) → More sends more → BodyKeeps sends body → BodyKeeps more body
body_more sends more (bodies.Update u) all k = sent_more sends more u all k
body_more sends more (bodies.Promise number report decision) all k = tt
body_more sends more (bodies.Decision d) all k = tt
body_more sends more (bodies.NoDecision number group turn skip reports best) all k = tt
body_more sends more (bodies.Election number why) all k = tt
body_more sends more (bodies.Ask want) all k = tt
body_more sends more (bodies.State group position total offset bytes) all k = tt
body_more sends more (bodies.Sync ready) all k = tt

-- ---- one send of each id

-- an id is its member and its number
pub one_id : (a b : UpdateId) → a.who ≡ b.who → a.incarnation ≡ b.incarnation → a.seq ≡ b.seq → a ≡ b
one_id a b who incarnation seq =
    ap (λ (w : ℕ). record { who = w; incarnation = a.incarnation; seq = a.seq }) who
    ∙ ap (λ (i : ℕ). record { who = b.who; incarnation = i; seq = a.seq }) incarnation
    ∙ ap (λ (n : ℕ). record { who = b.who; incarnation = b.incarnation; seq = n }) seq

-- a passed test of two ids makes them one
pub same_id_of : (a b : UpdateId) → is_same_id a b ≡ true → a ≡ b
same_id_of a b e = one_id a b (grind (arith, nat_tests)) (grind (arith, nat_tests)) (grind (arith, nat_tests))

-- two sends of one id are one send
pub one_send : (sends : List SentUpdate) (z o : SentUpdate) → AllSentOnce sends → In z sends → In o sends → id_of z ≡ id_of o → z ≡ o
one_send [] z o once i j same = absurd i
one_send (x ∷ older) z o once (inl e) (inl f) same = e ∙ sym f
one_send (x ∷ older) z o once (inl e) (inr j) same = absurd (of_each (λ (v : SentUpdate). id_of v ≢ id_of x) older o once.0 j (sym same ∙ ap id_of e))
one_send (x ∷ older) z o once (inr i) (inl f) same = absurd (of_each (λ (v : SentUpdate). id_of v ≢ id_of x) older z once.0 i (same ∙ ap id_of f))
one_send (x ∷ older) z o once (inr i) (inr j) same = one_send older z o once.1 i j same

-- an update with the entry that another one of its id has
joined_keeps : (sends : List SentUpdate) (e : Entry) (k : Kept) → AllSentOnce sends → EntryIsOfSend sends e → IsOfSend sends k → k.entry.id ≡ e.id → IsOfSend sends (record k { entry = e })
joined_keeps sends e k once of_entry of_kept same =
    let z = of_entry.0 in
    let o = of_kept.0 in
    let ids : id_of o ≡ id_of z = ap (λ (u : Kept). u.entry.id) of_kept.2 ∙ same ∙ sym (ap (λ (f : Entry). f.id) of_entry.2) in
    let one : o ≡ z = one_send sends o z once of_kept.1 of_entry.1 ids in
    let entry : record (k.entry) { late = false } ≡ record e { late = false } = sym (ap (λ (u : Kept). u.entry) of_kept.2) ∙ ap (λ (v : SentUpdate). v.sending.update.entry) one ∙ of_entry.2 in
    (o, of_kept.1, of_kept.2 ∙ ap (λ (f : Entry). record k { entry = f; early = false }) entry)

-- ---- a decision is entered

-- A process that enters a decision whose window keeps what its sends gave keeps it too: an entry gets the payload of its own send.
pub entered_keeps : (sends : List SentUpdate) (d : Decision) (p : Process) → AllSentOnce sends → AllByRecursion (EntryIsOfSend sends) d.window.items → ProcessKeeps sends p → ProcessKeeps sends (entered d p)
entered_keeps sends d p once window k = record {
  list = all_joined (IsOfSend sends) p.log.entries (filter_map (entry_joined (payloads_of p.waiting)) (needed p.log d)) k.list
      (all_entered (IsOfSend sends) (payloads_of p.waiting) (needed p.log d) k.waiting
      (λ e u i of_kept same. joined_keeps sends e u once (of_each (EntryIsOfSend sends) d.window.items e window (in_drop _ d.window.items e i)) of_kept (same_id_of u.entry.id e.id same)));
  waiting = all_settled (IsOfSend sends) d p.waiting k.waiting;
}

-- ---- makes

-- the list of a decision that was made
pub list_keeps : (sends : List SentUpdate) (makes : List Make) (o : Option Decision) → AllByRecursion (MakeKeeps sends) makes → AllByRecursion (IsOfSend sends) (list_of makes o)
list_keeps sends makes o all = list_holds (AllByRecursion (IsOfSend sends)) tt makes (each_weaker (MakeKeeps sends) (λ (m : Make). AllByRecursion (IsOfSend sends) m.log) makes (λ m k. k.list) all) o

-- its window
pub window_keeps : (sends : List SentUpdate) (makes : List Make) (d : Decision) → AllByRecursion (MakeKeeps sends) makes → WasMade makes d → AllByRecursion (EntryIsOfSend sends) d.window.items
window_keeps sends makes d all was = subst (λ (z : Decision). AllByRecursion (EntryIsOfSend sends) z.window.items) was.2 (of_each (MakeKeeps sends) makes was.0 all was.1).window

-- and that of one that may be missing
pub any_window_keeps : (sends : List SentUpdate) (makes : List Make) (o : Option Decision) → AllByRecursion (MakeKeeps sends) makes → WasMadeIfAny makes o → AllByRecursion (EntryIsOfSend sends) (or_none o).window.items
any_window_keeps sends makes None all was = tt
any_window_keeps sends makes (Some d) all was = window_keeps sends makes d all was

-- and the end of a window
pub cut_keeps : (sends : List SentUpdate) (n : ℕ) (es : List Entry) → AllByRecursion (EntryIsOfSend sends) es → AllByRecursion (EntryIsOfSend sends) (drop n es)
cut_keeps sends n es all = each_from (EntryIsOfSend sends) (drop n es) (λ e i. of_each (EntryIsOfSend sends) es e all (in_drop n es e i))

-- ---- what is added

-- to stand in a list means the same there
-- an update that is added is, as it was sent, a pending one
pub added_keep : (sends : List SentUpdate) (pending updates : List Kept) → AllByRecursion (IsOfSend sends) pending → AllByRecursion (IsAddedFrom pending) updates → AllByRecursion (IsOfSend sends) updates
added_keep sends pending updates all come = each_weaker (IsAddedFrom pending) (IsOfSend sends) updates
    (λ u from. subst (WasSent sends) (sym from.same) (of_each (IsOfSend sends) pending from.update all from.waits)) come

-- and so are their entries
pub entries_keep : (sends : List SentUpdate) (updates : List Kept) → AllByRecursion (IsOfSend sends) updates → AllByRecursion (EntryIsOfSend sends) (map (λ (k : Kept). k.entry) updates)
entries_keep sends updates all = all_mapped (EntryIsOfSend sends) (λ (k : Kept). k.entry) updates
    (each_weaker (IsOfSend sends) (λ (k : Kept). EntryIsOfSend sends k.entry) updates (λ u k. (k.0, k.1, ap (λ (v : Kept). v.entry) k.2)) all)
