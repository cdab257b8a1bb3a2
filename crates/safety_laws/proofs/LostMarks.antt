-- What a process delivers early is marked where it stands then, and what was marked stays so.
use Rattle.std.proofs.Common.{◌≡◌, refl, sym, ap, subst, ◌∙◌, inl, inr, ◌⊎◌, ℕ, zero, suc, ◌-◌, Bool, true, false, cond, List, [], ◌∷◌, ◌++◌, Option, Some, None}
use Rattle.std.specs.Prelude.{slice_get, slice_set}
use Rattle.std.specs.List.{AllByRecursion}
use Rattle.tw_machine.specs.Types.{Team, Decision, Kept, UpdateId}
use Rattle.tw_types.specs.Beliefs.{Log}
use Rattle.tw_types.specs.Deliveries.{run_passed, as_early, early_positions, marked_each, earlies_marked, weaks_marked, log_delivered}
use Rattle.tw_types.specs.Items.{In}
use Rattle.tw_types.specs.Logs.{log_at, marked_at}
use Rattle.tw_types.specs.Updates.{may_be_early}
use Rattle.tw_machine.specs.Delivering.{all_told}
use Rattle.tw_machine.specs.Run.{Delivered}
use Rattle.safety_laws.specs.Early.{is_early}
use Rattle.safety_laws.proofs.Lists.{in_first, in_last, of_append}
use Rattle.safety_laws.proofs.LostLists.{HasMark}
use Rattle.safety_laws.proofs.Marked.{log_alike, listed_at, one_marked, same_id}
use Rattle.safety_laws.proofs.PassedLists.{each_told}

-- ---- marks that stay

-- each mark of a list is in another one
abbrev pub MarksStay : List Kept → List Kept → Type 0
MarksStay old new = (k : Kept) → In k old → k.early ≡ true → HasMark k.entry.id new

-- the same list keeps them
pub marks_same : (list : List Kept) → MarksStay list list
marks_same list k i early = (k, i, refl, early)

-- and so does one after the other
marks_along : (a b c : List Kept) → MarksStay a b → MarksStay b c → MarksStay a c
marks_along a b c first next k i early =
    let m = first k i early in
    let n = next m.0 m.1 m.3 in
    (n.0, n.1, n.2 ∙ m.2, n.3)

-- a mark is one of what holds it
pub mark_stays : (old new : List Kept) → MarksStay old new → (id : UpdateId) → HasMark id old → HasMark id new
mark_stays old new stay id m = let n = stay m.0 m.1 m.3 in (n.0, n.1, n.2 ∙ m.2, n.3)

-- of two lists each
pub marks_joined : (a b c d : List Kept) → MarksStay a c → MarksStay b d → MarksStay (a ++ b) (c ++ d)
marks_joined a b c d first next k i early = go (of_append k a b i)
  where
    go : In k a ⊎ In k b → HasMark k.entry.id (c ++ d)
    go (inl i) = let m = first k i early in (m.0, in_first m.0 c d m.1, m.2, m.3)
    go (inr i) = let m = next k i early in (m.0, in_last m.0 c d m.1, m.2, m.3)

-- ---- one position of a list

-- where one is marked the marks stay,
set_keeps : (entries : List Kept) (i : ℕ) (k : Kept) → slice_get entries i ≡ Some k → MarksStay entries (slice_set entries i (as_early k))
set_keeps [] i k is z j early = absurd j
set_keeps (x ∷ entries) zero k is z (inl e) early = let same : x ≡ k = cc in (as_early k, inl refl, ap (λ (u : Kept). u.entry.id) (sym same ∙ sym e), refl)
set_keeps (x ∷ entries) zero k is z (inr j) early = (z, inr j, refl, early)
set_keeps (x ∷ entries) (suc i) k is z (inl e) early = (z, inl e, refl, early)
set_keeps (x ∷ entries) (suc i) k is z (inr j) early = let m = set_keeps entries i k is z j early in (m.0, inr m.1, m.2, m.3)

-- and it is there
set_in : (entries : List Kept) (i : ℕ) (k : Kept) → slice_get entries i ≡ Some k → In (as_early k) (slice_set entries i (as_early k))
set_in [] i k is = absurd (cc)
set_in (x ∷ entries) zero k is = inl refl
set_in (x ∷ entries) (suc i) k is = inr (set_in entries i k is)

-- ---- positions of a log

-- what one mark does to a log
record MarksOne (i : ℕ) (log new : Log) : Type 0 where
  keeps : MarksStay log.entries new.entries
  marked : (k : Kept) → log_at i log ≡ Some k → HasMark k.entry.id new.entries

marks_one : (i : ℕ) (log : Log) → MarksOne i log (marked_at i log)
marks_one i log = go (log_at i log) refl
  where
    go : (found : Option Kept) → log_at i log ≡ found → MarksOne i log (marked_at i log)
    go None is = rw is (record { keeps = marks_same log.entries; marked = λ k e. absurd (cc) })
    go (Some k) is =
        let there = listed_at i log k is in
        rw is (record {
          keeps = set_keeps log.entries (i - log.base) k there;
          marked = λ z e. let same : k ≡ z = cc in (as_early k, set_in log.entries (i - log.base) k there, ap (λ (u : Kept). u.entry.id) same, refl);
        })

-- marks at many positions keep those that are there,
each_keeps : (positions : List ℕ) (log : Log) → MarksStay log.entries (marked_each positions log).entries
each_keeps [] log = marks_same log.entries
each_keeps (i ∷ positions) log = marks_along log.entries (marked_at i log).entries (marked_each positions (marked_at i log)).entries (marks_one i log).keeps (each_keeps positions (marked_at i log))

-- and are there
each_marked : (positions : List ℕ) (log : Log) (i : ℕ) (k : Kept) → In i positions → log_at i log ≡ Some k → HasMark k.entry.id (marked_each positions log).entries
each_marked [] log i k j is = absurd j
each_marked (n ∷ positions) log i k (inl e) is =
    mark_stays (marked_at n log).entries (marked_each positions (marked_at n log)).entries (each_keeps positions (marked_at n log)) k.entry.id ((marks_one n log).marked k (subst (λ m. log_at m log ≡ Some k) e is))
each_marked (n ∷ positions) log i k (inr j) is =
    let marks = one_marked n log in
    let there = log_alike log (marked_at n log) marks.base marks.entries i k is in
    let m = each_marked positions (marked_at n log) i there.0 j there.1 in
    (m.0, m.1, m.2 ∙ same_id k there.0 there.2, m.3)

-- ---- what is delivered

-- a log keeps its marks where it is delivered of it
pub log_marks : (team : Team) (d : Decision) (log : Log) → MarksStay log.entries (log_delivered team d log).entries
unfolding earlies_marked run_passed
log_marks team d log = each_keeps (early_positions team d (run_passed team d log).passed (run_passed team d log)) (run_passed team d log)

-- what is pending keeps its marks,
pub pending_marks : (pending : List Kept) → MarksStay pending (weaks_marked pending)
pending_marks [] k i early = absurd i
pending_marks (x ∷ pending) k (inl e) early = go (may_be_early x)
  where
    go : (b : Bool) → HasMark k.entry.id (cond b (as_early x) x ∷ weaks_marked pending)
    go true = (as_early x, inl refl, ap (λ (z : Kept). z.entry.id) (sym e), refl)
    go false = (x, inl refl, ap (λ (z : Kept). z.entry.id) (sym e), ap (λ (z : Kept). z.early) (sym e) ∙ early)
pending_marks (x ∷ pending) k (inr i) early = let m = pending_marks pending k i early in (m.0, inr m.1, m.2, m.3)

-- and what is delivered of it gets one
weak_marked : (pending : List Kept) (k : Kept) → In k pending → may_be_early k ≡ true → In (as_early k) (weaks_marked pending)
weak_marked [] k i e = absurd i
weak_marked (x ∷ pending) k (inl same) e = inl (ap (λ (b : Bool). cond b (as_early k) k) (sym e) ∙ ap (λ (z : Kept). cond (may_be_early z) (as_early z) z) same)
weak_marked (x ∷ pending) k (inr i) e = inr (weak_marked pending k i e)

-- whether an early delivery is marked then, in the list or where it waits
abbrev pub IsMarkedIn : List Kept → Delivered → Type 0
IsMarkedIn list z = is_early z.place ≡ true → HasMark z.update.entry.id list

-- Whatever is delivered early is marked in the list or where it waits.
pub early_are_marked : (team : Team) (d : Decision) (log : Log) (pending : List Kept) → AllByRecursion (IsMarkedIn ((log_delivered team d log).entries ++ weaks_marked pending)) (all_told team d log pending)
unfolding earlies_marked run_passed
early_are_marked team d log pending = each_told (IsMarkedIn (entries ++ weaks_marked pending)) team d log pending
    (λ i k at may below early. absurd (cc))
    (λ i k j at e early. let m = each_marked (early_positions team d (run_passed team d log).passed (run_passed team d log)) (run_passed team d log) i k j at in (m.0, in_first m.0 entries (weaks_marked pending) m.1, m.2, m.3))
    (λ k i e early. (as_early k, in_last (as_early k) entries (weaks_marked pending) (weak_marked pending k i e), refl, refl))
  where
    entries : List Kept
    entries = (log_delivered team d log).entries
