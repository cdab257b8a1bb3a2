-- What deliveries leave of the list and of what waits: all but the cursor and the marks.
use Rattle.std.proofs.Common.{◌≡◌, refl, sym, subst, ◌∙◌, ap, ℕ, ◌-◌, nat_le, Bool, true, false, cond, if◌then◌else◌, List, [], ◌∷◌, map, length, drop, Option, Some, None}
use Rattle.std.specs.Prelude.{slice_get}
use Rattle.std.specs.List.{AllByRecursion}
use Rattle.std.proofs.Math.Seq.{map-set_same}
use Rattle.std.proofs.lemmas.Option.{get_or_from_slice_get}
use Rattle.std.proofs.lemmas.List.{drop-map, length-map}
use Rattle.tw_machine.specs.Types.{Team, Kept, Decision}
use Rattle.tw_types.specs.Beliefs.{Log}
use Rattle.tw_types.specs.Decisions.{or_none}
use Rattle.tw_types.specs.Updates.{may_be_early, stays_pending}
use Rattle.tw_types.specs.Logs.{log_at, marked_at}
use Rattle.tw_types.specs.Waiting.{Waiting}
use Rattle.tw_types.specs.Deliveries.{as_early, early_positions, marked_each, run_passed, earlies_marked, waiting_delivered, log_delivered}
use Rattle.tw_machine.proofs.Tables.{all_mapped}
use Rattle.oal.specs.Recent.{Recent, newest}
use Rattle.oal.specs.StandsFor.{StandsFor}
use Rattle.update_store.specs.Stock.{Stock}
use Rattle.node_core.specs.declared.state.Hold.{Hold}
use Rattle.node_core.specs.InRange.{KeptFits, ListedFits, WaitingFits, UpdatesFit}
use Rattle.node_core.proofs.Listing.{all_weaker}

-- ---- the list

found : (i : ℕ) (log : Log) (k : Kept) → log_at i log ≡ Some k → slice_get log.entries (i - log.base) ≡ Some k
found i log k is = go (nat_le log.base i) is
  where
    go : (b : Bool) → cond b (slice_get log.entries (i - log.base)) None ≡ Some k → slice_get log.entries (i - log.base) ≡ Some k
    go true is = is
    go false is = absurd (cc)

-- a log with a mark is as it was but for that
one_mark : (i : ℕ) (log : Log) → map as_early (marked_at i log).entries ≡ map as_early log.entries
one_mark i log = go (log_at i log) refl
  where
    go : (o : Option Kept) → log_at i log ≡ o → map as_early (marked_at i log).entries ≡ map as_early log.entries
    go None is = rw is refl
    go (Some k) is = rw is (map-set_same as_early log.entries (i - log.base) (as_early k) k (ap as_early (sym (get_or_from_slice_get log.entries (i - log.base) k k (found i log k is)))))

each_mark : (positions : List ℕ) (log : Log) → map as_early (marked_each positions log).entries ≡ map as_early log.entries
each_mark [] log = refl
each_mark (i ∷ positions) log = each_mark positions (marked_at i log) ∙ one_mark i log

marks_alone : (team : Team) (d : Decision) (log : Log) → map as_early (log_delivered team d log).entries ≡ map as_early log.entries
unfolding run_passed earlies_marked
marks_alone team d log = each_mark (early_positions team d (run_passed team d log).passed (run_passed team d log)) (run_passed team d log)

-- and so are its last entries
newest_alike : (new old : List Kept) → map as_early new ≡ map as_early old → map as_early (newest new) ≡ map as_early (newest old)
newest_alike new old alike =
    let count : length new ≡ length old = sym (length-map new as_early) ∙ ap length alike ∙ length-map old as_early in
    sym (drop-map as_early (length new - 64) new)
    ∙ ap (λ ks. drop (length new - 64) ks) alike
    ∙ ap (λ n. drop (n - 64) (map as_early old)) count
    ∙ drop-map as_early (length old - 64) old

all_unmapped : {X Y : Type 0} (P : Y → Type 0) (f : X → Y) (xs : List X) → AllByRecursion P (map f xs) → AllByRecursion (λ x. P (f x)) xs
all_unmapped P f [] all = tt
all_unmapped P f (x ∷ xs) all = (all.0, all_unmapped P f xs all.1)

-- marks say nothing of ranges
alike_fit : (n : ℕ) (new old : List Kept) → map as_early new ≡ map as_early old → AllByRecursion (ListedFits n) old → AllByRecursion (ListedFits n) new
alike_fit n new old alike all =
    let of_old : AllByRecursion (ListedFits n) (map as_early old) = all_mapped (ListedFits n) as_early old
    (all_weaker (ListedFits n) (λ k. ListedFits n (as_early k)) (λ k h. record { id = h.id; stamp = h.stamp; payload = h.payload }) old all) in
    let of_new : AllByRecursion (ListedFits n) (map as_early new) = subst (AllByRecursion (ListedFits n)) (sym alike) of_old in
    all_weaker (λ k. ListedFits n (as_early k)) (ListedFits n) (λ k h. record { id = h.id; stamp = h.stamp; payload = h.payload }) new (all_unmapped (ListedFits n) as_early new of_new)

listed_fit : (n : ℕ) (team : Team) (d : Decision) (o new : Recent) (log : Log) → StandsFor o log → StandsFor new (log_delivered team d log) → AllByRecursion (ListedFits n) o.kept → AllByRecursion (ListedFits n) new.kept
listed_fit n team d o new log before after all =
    alike_fit n new.kept o.kept (ap (map as_early) after.kept ∙ newest_alike (log_delivered team d log).entries log.entries (marks_alone team d log) ∙ ap (map as_early) (sym before.kept)) all

-- ---- what waits

abbrev if_early : Kept → Kept
if_early k = if may_be_early k then as_early k else k

waits_fit : (n : ℕ) (k : Kept) → KeptFits n k → KeptFits n (if_early k)
waits_fit n k h = go (may_be_early k)
  where
    go : (b : Bool) → KeptFits n (cond b (as_early k) k)
    go true = record { entry = h.entry; payload = h.payload }
    go false = h

waits_on : (d : Decision) (k : Kept) → stays_pending d k ≡ true → stays_pending d (if_early k) ≡ true
waits_on d k h = go (may_be_early k)
  where
    go : (b : Bool) → stays_pending d (cond b (as_early k) k) ≡ true
    go true = h
    go false = h

pub delivered_fits : (n : ℕ) (w : Waiting) → WaitingFits n w → WaitingFits n (waiting_delivered w)
delivered_fits n w fits = record {
  pending = all_mapped (KeptFits n) if_early w.pending (all_weaker (KeptFits n) (λ k. KeptFits n (if_early k)) (waits_fit n) w.pending fits.pending);
  held = fits.held;
}

pub delivered_update : (n : ℕ) (team : Team) (d : Decision) (view : Option Decision) (log : Log) (o new : Recent) (k after : Stock) (hold : Option Hold) (seq : ℕ) → StandsFor o log → StandsFor new (log_delivered team d log)
    → after ≡ record k { waiting = waiting_delivered k.waiting } → UpdatesFit n view o k hold seq → UpdatesFit n view new after hold seq
delivered_update n team d view log o new k after hold seq before stands is updates = rw is (record {
  listed = listed_fit n team d o new log before stands updates.listed;
  settled = all_mapped (λ (k : Kept). stays_pending (or_none view) k ≡ true) if_early k.waiting.pending
      (all_weaker (λ (k : Kept). stays_pending (or_none view) k ≡ true) (λ (k : Kept). stays_pending (or_none view) (if_early k) ≡ true) (waits_on (or_none view)) k.waiting.pending updates.settled);
  held_for = updates.held_for;
  size = updates.size;
  numbered = updates.numbered;
})
