-- What is pending stays settled.
use Rattle.std.proofs.Common.{◌≡◌, refl, sym, ap, ◌∙◌, ℕ, ◌+◌, Bool, true, false, not, cond, ◌||◌, List, [], ◌∷◌, ◌++◌, filter, Option, Some, None, arith}
use Rattle.std.specs.Prelude.{nat_le, nat_lt}
use Rattle.std.specs.List.{AllByRecursion}
use Rattle.std.specs.Option.{option_map_or}
use Rattle.std.proofs.lemmas.Bool.Decides.{nat_tests}
use Rattle.tw_machine.specs.Types.{Team, UpdateId, Kept, Seat, Decision, Mode}
use Rattle.tw_types.specs.declared.outputs.Mode.TheVariants as modes
use Rattle.tw_types.specs.Beliefs.{view_decision}
use Rattle.tw_types.specs.Decisions.{or_none, is_seat_of}
use Rattle.tw_types.specs.Process.{Process, started}
use Rattle.tw_types.specs.Updates.{is_same_id, sender, is_named, has_update, waits_before, with_pending, pending_room, is_awaited, seat_of_sender, stays_pending, settled}
use Rattle.tw_types.specs.Waiting.{Waiting, Filled, Stored, Known, OutOfRange, is_hole, put_by_seat, putting, settled_by}
use Rattle.tw_machine.specs.Deciding.{supporting}
use Rattle.tw_machine.specs.Entering.{is_overtaken, let_go_below, entered}
use Rattle.group_maker.proofs.Ranges.{all_kept, all_pass}
use Rattle.safety_laws.specs.Beginnings.{unmarked}
use Rattle.safety_laws.specs.Effects.{State, Here, Waits, Stays, Puts, Fills, Goes, ForTaking, ForGroup, Change}
use Rattle.safety_laws.specs.Pending.{IsAwaited, NoneTwice, IsSettled, pending}
use Rattle.safety_laws.proofs.Delivers.{pending_delivers}
use Rattle.safety_laws.proofs.FirstDecisions.{same_member_of}
use Rattle.safety_laws.proofs.Lists.{each_weaker, each_both, found_in}
use Rattle.safety_laws.proofs.Marked.{each_alike, same_id, once_alike}
use Rattle.safety_laws.proofs.Stack.{LawRules}

-- ---- lists in which no id comes twice

-- another update has another id
abbrev Differs : Kept → Kept → Type 0
Differs a b = is_same_id a.entry.id b.entry.id ≡ false

differs_back : (a b : UpdateId) → is_same_id a b ≡ false → is_same_id b a ≡ false
differs_back a b e = grind (arith, nat_tests)

-- what holds of each of two lists holds of each of both
each_joined : {X : Type 0} (P : X → Type 0) (xs ys : List X) → AllByRecursion P xs → AllByRecursion P ys → AllByRecursion P (xs ++ ys)
each_joined P [] ys a b = b
each_joined P (x ∷ xs) ys a b = (a.0, each_joined P xs ys a.1 b)

-- a part of such a list is one
once_kept : (test : Kept → Bool) (ks : List Kept) → NoneTwice ks → NoneTwice (filter test ks)
once_kept test [] once = tt
once_kept test (k ∷ ks) once = go (test k) (once_kept test ks once.1)
  where
    go : (b : Bool) → NoneTwice (filter test ks) → NoneTwice (cond b (k ∷ filter test ks) (filter test ks))
    go true rest = (all_kept (Differs k) test ks once.0, rest)
    go false rest = rest

-- each of one list has another id than each of the other
abbrev AreApart : List Kept → List Kept → Type 0
AreApart xs ys = AllByRecursion (λ (a : Kept). AllByRecursion (Differs a) ys) xs

-- two such lists with no id in common are one
once_joined : (xs ys : List Kept) → NoneTwice xs → NoneTwice ys → AreApart xs ys → NoneTwice (xs ++ ys)
once_joined [] ys a b apart = b
once_joined (k ∷ xs) ys a b apart = (each_joined (Differs k) xs ys a.0 apart.0, once_joined xs ys a.1 b apart.1)

-- what passes a test, and what doesn't
parts_apart : (test : Kept → Bool) (ks : List Kept) → NoneTwice ks → AreApart (filter test ks) (filter (λ (k : Kept). not (test k)) ks)
parts_apart test [] once = tt
parts_apart test (k ∷ ks) once = go (test k) (parts_apart test ks once.1)
  where
    others : Kept → Bool
    others x = not (test x)

    go : (b : Bool) → AreApart (filter test ks) (filter others ks) → AreApart (cond b (k ∷ filter test ks) (filter test ks)) (cond (not b) (k ∷ filter others ks) (filter others ks))
    go true rest = (all_kept (Differs k) others ks once.0, rest)
    go false rest = each_both (Differs k) (λ (a : Kept). AllByRecursion (Differs a) (filter others ks)) (λ (a : Kept). AllByRecursion (Differs a) (k ∷ filter others ks)) (filter test ks)
        (λ a differs all. (differs_back k.entry.id a.entry.id differs, all)) (all_kept (Differs k) test ks once.0) rest

-- ---- an update that is put there

-- where none has this id
all_differ : (id : UpdateId) (ks : List Kept) → has_update id ks ≡ false → AllByRecursion (λ (other : Kept). is_named id other ≡ false) ks
all_differ id [] none = tt
all_differ id (k ∷ ks) none = go (is_named id k) refl none (all_differ id ks)
  where
    go : (b : Bool) → is_named id k ≡ b → (b || has_update id ks) ≡ false
        → (has_update id ks ≡ false → AllByRecursion (λ (other : Kept). is_named id other ≡ false) ks) → (is_named id k ≡ false) × AllByRecursion (λ (other : Kept). is_named id other ≡ false) ks
    go true e none rest = absurd (cc)
    go false e none rest = (e, rest none)

-- no id comes twice with one more
once_with : (k : Kept) (ks : List Kept) → NoneTwice ks → has_update k.entry.id ks ≡ false → NoneTwice (with_pending k ks)
once_with k ks once new =
    once_joined (filter before ks) (k ∷ filter behind ks) (once_kept before ks once) (all_kept (Differs k) behind ks from, once_kept behind ks once)
    (each_both (λ (a : Kept). Differs a k) (λ (a : Kept). AllByRecursion (Differs a) (filter behind ks)) (λ (a : Kept). AllByRecursion (Differs a) (k ∷ filter behind ks)) (filter before ks)
    (λ a differs all. (differs, all)) (all_kept (λ (a : Kept). Differs a k) before ks to) (parts_apart before ks once))
  where
    before : Kept → Bool
    before other = waits_before other k

    behind : Kept → Bool
    behind other = not (waits_before other k)

    to : AllByRecursion (λ (a : Kept). Differs a k) ks
    to = all_differ k.entry.id ks new

    from : AllByRecursion (Differs k) ks
    from = each_weaker (λ (a : Kept). Differs a k) (Differs k) ks (λ a differs. differs_back a.entry.id k.entry.id differs) to

-- what holds of each holds with one more
each_with : (P : Kept → Type 0) (k : Kept) (ks : List Kept) → AllByRecursion P ks → P k → AllByRecursion P (with_pending k ks)
each_with P k ks all new = each_joined P (filter (λ (other : Kept). waits_before other k) ks) (k ∷ filter (λ (other : Kept). not (waits_before other k)) ks)
    (all_kept P (λ (other : Kept). waits_before other k) ks all) (new, all_kept P (λ (other : Kept). not (waits_before other k)) ks all)

-- what a decision keeps pending has its seat there
awaited_by : (d : Decision) (k : Kept) → stays_pending d k ≡ true → IsAwaited d k
awaited_by d k stays = go (seat_of_sender k.entry.id d) refl stays
  where
    go : (o : Option Seat) → seat_of_sender k.entry.id d ≡ o → option_map_or (λ (s : Seat). is_awaited s.next k.entry.id.seq) o false ≡ true → IsAwaited d k
    go None is e = absurd (cc)
    go (Some s) is e = let found = found_in (is_seat_of (sender k.entry.id)) d.seats.items s is in record {
      seat = s;
      there = found.0;
      sender_is = same_member_of s.member (sender k.entry.id) found.1;
      low = grind (arith, nat_tests);
      high = grind (arith, nat_tests);
    }

-- an update that becomes pending: its seat awaits it, and no pending one has its id
record MayWait (d : Decision) (k : Kept) (ks : List Kept) : Type 0 where
  stays : stays_pending d k ≡ true
  new : has_update k.entry.id ks ≡ false

may_wait : (view : Option Decision) (k : Kept) (w : Waiting) → putting view k w ≡ Stored → MayWait (or_none view) k w.pending
may_wait view k w put = by_hole (is_hole k.entry.id w.held) put
  where
    at_seat : (s : Seat) → seat_of_sender k.entry.id (or_none view) ≡ Some s → (early : Bool) → nat_lt k.entry.id.seq s.next ≡ early → (known : Bool) → has_update k.entry.id w.pending ≡ known
        → (far : Bool) → nat_le (s.next + pending_room) k.entry.id.seq ≡ far → cond (early || known) Known (cond far OutOfRange Stored) ≡ Stored → MayWait (or_none view) k w.pending
    at_seat s is true early known has far late e = absurd (cc)
    at_seat s is false early true has far late e = absurd (cc)
    at_seat s is false early false has true late e = absurd (cc)
    at_seat s is false early false has false late e =
        let awaited : is_awaited s.next k.entry.id.seq ≡ true = grind (arith, nat_tests) in
        record { stays = rw is awaited; new = has }

    by_seat : (o : Option Seat) → seat_of_sender k.entry.id (or_none view) ≡ o → put_by_seat o w.pending k ≡ Stored → MayWait (or_none view) k w.pending
    by_seat None is e = absurd (cc)
    by_seat (Some s) is e = at_seat s is (nat_lt k.entry.id.seq s.next) refl (has_update k.entry.id w.pending) refl (nat_le (s.next + pending_room) k.entry.id.seq) refl e

    by_hole : (hole : Bool) → cond hole Filled (put_by_seat (seat_of_sender k.entry.id (or_none view)) w.pending k) ≡ Stored → MayWait (or_none view) k w.pending
    by_hole true e = absurd (cc)
    by_hole false e = by_seat (seat_of_sender k.entry.id (or_none view)) refl e

-- ---- each effect

same_pending : (p q : Process) → q.belief ≡ p.belief → q.waiting.pending ≡ p.waiting.pending → IsSettled p → IsSettled q
same_pending p q belief same k = record {
  awaited = rw (same, belief) k.awaited;
  once = rw same k.once;
}

-- an update more is pending
more_pending : (p q : Process) (u : Kept) → q.belief ≡ p.belief → q.waiting.pending ≡ with_pending u p.waiting.pending → putting (view_decision p.belief) u p.waiting ≡ Stored → IsSettled p → IsSettled q
more_pending p q u belief same put k =
    let may = may_wait (view_decision p.belief) u p.waiting put in
    record {
      awaited = rw (same, belief) (each_with (IsAwaited (or_none (view_decision p.belief))) u p.waiting.pending k.awaited (awaited_by (or_none (view_decision p.belief)) u may.stays));
      once = rw same (once_with u p.waiting.pending k.once may.new);
    }

-- whether or not a held decision is let go, the same is pending
pub pending_after : (d : Decision) (w : Waiting) → (let_go_below d (settled_by d w)).pending ≡ settled d w.pending
pending_after d w = go (is_overtaken d w.held)
  where
    go : (b : Bool) → (cond b (record (settled_by d w) { held = None }) (settled_by d w)).pending ≡ settled d w.pending
    go true = refl
    go false = refl

-- the process took this decision
last_settles : (p q : Process) (d : Decision) → view_decision q.belief ≡ Some d → q.waiting ≡ let_go_below d (settled_by d p.waiting) → IsSettled p → IsSettled q
last_settles p q d view is k =
    let same : q.waiting.pending ≡ settled d p.waiting.pending = ap (λ (w : Waiting). w.pending) is ∙ pending_after d p.waiting in
    record {
      awaited = rw (same, view) (each_weaker (λ (x : Kept). stays_pending d x ≡ true) (IsAwaited d) (settled d p.waiting.pending) (awaited_by d) (all_pass (stays_pending d) p.waiting.pending));
      once = rw same (once_kept (stays_pending d) p.waiting.pending k.once);
    }

-- an update is awaited with its mark or without
still_awaited : (d : Decision) (a b : Kept) → unmarked b ≡ unmarked a → IsAwaited d a → IsAwaited d b
still_awaited d a b same k =
    let id : b.entry.id ≡ a.entry.id = same_id a b same in
    record { seat = k.seat; there = k.there; sender_is = k.sender_is ∙ ap sender (sym id); low = rw id k.low; high = rw id k.high }

changes : (here : Here) (x y : State) → Change here x y → IsSettled x.process → IsSettled y.process
changes here x y (Change.Keep c) k = go c.waits
  where
    stays_as : y.process.waiting.pending ≡ x.process.waiting.pending → IsSettled y.process
    stays_as same = same_pending x.process y.process c.belief same k

    go : Waits here x y → IsSettled y.process
    go (Stays is hold) = stays_as (ap (λ (w : Waiting). w.pending) is)
    go (Puts u origin put is hold) = more_pending x.process y.process u c.belief (ap (λ (w : Waiting). w.pending) is) put k
    go (Fills u origin put is hold) = stays_as (ap (λ (w : Waiting). w.pending) is)
    go (Goes is hold) = stays_as (ap (λ (w : Waiting). w.pending) is)
    go (ForTaking d from source is hold) = stays_as (ap (λ (w : Waiting). w.pending) is)
    go (ForGroup ballot best from there told number is hold) = stays_as (ap (λ (w : Waiting). w.pending) is)
changes here x y (Change.Give c) k = same_pending x.process y.process (ap (λ (p : Process). p.belief) c.process) (ap (λ (p : Process). p.waiting.pending) c.process) k
changes here x y (Change.Hold c) k = same_pending x.process y.process (ap (λ (p : Process). p.belief) c.process) (ap (λ (p : Process). p.waiting.pending) c.process) k
changes here x y (Change.Deliver c) k = record {
  awaited = rw (ap (λ (p : Process). p.belief) c.process) (each_alike (IsAwaited (or_none (view_decision x.process.belief))) (still_awaited (or_none (view_decision x.process.belief))) x.process.waiting.pending y.process.waiting.pending (pending_delivers here x y c) k.awaited);
  once = once_alike x.process.waiting.pending y.process.waiting.pending (pending_delivers here x y c) k.once;
}
changes here x y (Change.Raise c) k = rw c.process k
changes here x y (Change.Take c) k = rw c.process (last_settles x.process (entered c.taken_decision x.process) c.taken_decision refl refl k)
changes here x y (Change.Make c) k = rw c.process (last_settles x.process (record (entered c.making.decision (supporting c.t x.process)) { ballot = y.process.ballot }) c.making.decision refl refl k)

begins : (who h : ℕ) (mode : Mode) → IsSettled (started who mode h)
begins who h modes.First = record { awaited = tt; once = tt }
begins who h modes.Again = record { awaited = tt; once = tt }

pub pending_rules : (team : Team) → LawRules team pending
pending_rules team = record {
  nothing = tt;
  waits = λ past s w sound ok before k. tt;
  remains = λ past s w who p sound ok same before h own k. k;
  begins = λ past s w mode sound ok act more before k. begins s.who s.h mode;
  changes = λ past s here x y at mailed change before after k. record { history = tt; own = changes here x y change k.own; others = k.others };
}
