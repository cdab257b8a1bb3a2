-- The clocks of a schedule hold team time, each datagram tells what held when it was sent, and its echo is of a real round trip.
use Rattle.std.proofs.Common.{◌≡◌, ◌≢◌, refl, sym, subst, ◌∙◌, ℕ, ◌+◌, ◌-◌, ◌≤◌, inr, ◌^◌, Bool, true, false, cond, nat_eq, nat_lt, List, [], ◌∷◌, Option, Some, None, Ok, Err, IfSome, arith}
use Rattle.std.specs.List.{AllByRecursion}
use Rattle.std.specs.Option.{option_map, option_and_then}
use Rattle.std.proofs.lemmas.Option.{same_Some}
use Rattle.tw_machine.specs.Types.{Team, Datagram, Head, Body, Echo, Reason, Step}
use Rattle.tw_types.specs.Trips.{trip, trip_of}
use Rattle.tw_types.specs.Process.{Identity, Timing, Process}
use Rattle.tw_num.specs.declared.interval.Interval.{Interval}
use Rattle.tw_num.specs.declared.moment.Moment.{Moment}
use Rattle.tw_num.specs.Elapsed.{MayElapse}
use Rattle.tw_num.specs.Interval.{Holds, aged}
use Rattle.tw_num.specs.Clock.{Clock, Given, fresh, aged_at, shared_at, interval_at, reading_at, moment_at, or_before, after_read, refusal, after_given}
use Rattle.tw_num.specs.Rate.{RoundTrip, echo_bound, IsRoundTrip}
use Rattle.tw_num.proofs.Delays.{echo_bounds, delayed_holds}
use Rattle.tw_machine.specs.Event.{Event}
use Rattle.tw_types.specs.declared.datagram.WireFault.TheVariants.{Kind}
use Rattle.tw_machine.specs.Packet.{is_taken, is_stranger, admitted}
use Rattle.tw_machine.specs.Hearing.{newer, noted, trip_bound, both, told, given, is_refused, read, Learnt, unless_dropped, learn_packet, learn}
use Rattle.tw_machine.specs.Sending.{sendable, datagram_to}
use Rattle.tw_machine.specs.Dispatches.{Dispatch, sent_at}
use Rattle.tw_machine.specs.World.{world}
use Rattle.safety_laws.specs.Clocks.{MayRead, Covers}
use Rattle.tw_machine.specs.ClockLaw.{IsNear}
use Rattle.tw_machine.proofs.Tables.{equal_numbers, at_number}
use Rattle.safety_laws.proofs.Intervals.{aged_holds, now_holds, shared_holds, no_clash, reading_near}
use Rattle.safety_laws.proofs.Readings.{has_just_read, not_later, read_before, since}
use Rattle.safety_laws.specs.Readings.{HasRead}
use Rattle.safety_laws.proofs.Induction.{Brings}

-- The invariant of a running process: nothing was refused, each given interval holds team time whenever the process may
-- read, and its greatest reading isn't ahead of team time by more than eps.
pub record ClockInvariant (team : Team) (who : ℕ) (past : List Step) (c : Clock) : Type 0 where
  pub none_refused : c.disjoint ≡ None
  pub held : (t h : ℕ) → MayRead team.ppm who past t h → AllByRecursion (λ (g : Given). Holds (aged_at team.ppm h g) t) c.given
  pub read : (t h : ℕ) → MayRead team.ppm who past t h → IfSome c.greatest (λ T. T ≤ t + team.eps)

pub clock_holds : (team : Team) (who : ℕ) (past : List Step) (c : Clock) (t h : ℕ) → ClockInvariant team who past c → MayRead team.ppm who past t h → IfSome (interval_at team.ppm h c) (λ i. Holds i t)
clock_holds team who past c t h k may = rw (k.none_refused) (shared_holds team.ppm h t c.given (k.held t h may))

pub clock_near : (team : Team) (who : ℕ) (past : List Step) (c : Clock) (t h : ℕ) → ClockInvariant team who past c → MayRead team.ppm who past t h → IfSome (reading_at team.ppm team.eps h c) (λ T. IsNear team.eps t T)
clock_near team who past c t h k may = reading_near team.eps t c.greatest (interval_at team.ppm h c) (k.read t h may) (clock_holds team who past c t h k may)

nothing_refused : (team : Team) (who : ℕ) (past : List Step) (c : Clock) (t h : ℕ) (i : Interval) → team.ppm ≤ 1000 → ClockInvariant team who past c → MayRead team.ppm who past t h → Holds i t → refusal team.ppm h i c ≡ None
nothing_refused team who past c t h i small k may holds = rw (k.none_refused) (no_clash t (shared_at team.ppm h c.given) (aged i 0 team.ppm) (shared_holds team.ppm h t c.given (k.held t h may)) (now_holds i team.ppm t small holds))

-- the invariant after one more step

pub fresh_clock : (team : Team) (who : ℕ) (past : List Step) → ClockInvariant team who past fresh
fresh_clock team who past = record { none_refused = refl; held = λ t h may. tt; read = λ t h may. tt }

waited : (team : Team) (who : ℕ) (past : List Step) (s : Step) (c : Clock) → ClockInvariant team who past c → ClockInvariant team who (s ∷ past) c
waited team who past s c k = record {
  none_refused = k.none_refused;
  held = λ t h may. k.held t h (read_before team.ppm who past s t h may);
  read = λ t h may. k.read t h (read_before team.ppm who past s t h may);
}

given_clock : (team : Team) (past : List Step) (s : Step) (i : Interval) (c : Clock) → team.ppm ≤ 1000 → MayRead team.ppm s.who past s.t s.h → Holds i s.t → ClockInvariant team s.who past c → ClockInvariant team s.who (s ∷ past) (after_given team.ppm s.h i c)
given_clock team past s i c small may holds k =
    rw (nothing_refused team s.who past c s.t s.h i small k may holds) (record {
      none_refused = k.none_refused;
      held = λ t h after. (still t h after, k.held t h (read_before team.ppm s.who past s t h after));
      read = λ t h after. k.read t h (read_before team.ppm s.who past s t h after);
    })
  where
    still : (t h : ℕ) → MayRead team.ppm s.who (s ∷ past) t h → Holds (aged i (h - s.h) team.ppm) t
    still t h after =
        let from = since team.ppm s.who (s ∷ past) t h s.t s.h after (has_just_read past s) in
        aged_holds i (h - s.h) team.ppm s.t t small holds from.not_before from.ticks

read_clock : (team : Team) (past : List Step) (s : Step) (c : Clock) → MayRead team.ppm s.who (s ∷ past) s.t s.h → ClockInvariant team s.who (s ∷ past) c → ClockInvariant team s.who (s ∷ past) (after_read team.ppm team.eps s.h c)
read_clock team past s c may k = record {
  none_refused = k.none_refused;
  held = k.held;
  read = λ t h after. greater t (reading_at team.ppm team.eps s.h c) (clock_near team s.who (s ∷ past) c s.t s.h k may) (not_later (s ∷ past) s.who t s.t s.h after.time (has_just_read past s)) (k.read t h after);
}
  where
    greater : (t : ℕ) (o : Option ℕ) → IfSome o (λ T. IsNear team.eps s.t T) → s.t ≤ t → IfSome c.greatest (λ T. T ≤ t + team.eps) → IfSome (or_before o c.greatest) (λ T. T ≤ t + team.eps)
    greater t None near le before = before
    greater t (Some T) near le before = omega arith

-- What was heard of process q: it read the one stamp, and the process itself the other, no earlier.
pub record IsNoted (past : List Step) (who q : ℕ) (e : Echo) : Type 0 where
  pub asked : ℕ
  pub noted : ℕ
  pub theirs : HasRead past q asked e.a
  pub own : HasRead past who noted e.b
  pub after : asked ≤ noted

-- the invariant of what a process knows of time
pub record TimingInvariant (team : Team) (past : List Step) (who : ℕ) (t : Timing) : Type 0 where
  pub reads : ClockInvariant team who past t.clock
  pub noted : (q : ℕ) (e : Echo) → t.heard q ≡ Some e → IsNoted past who q e

-- the part about a running process
pub record IsTimed (team : Team) (past : List Step) (who : ℕ) (p : Process) : Type 0 where
  pub is : p.identity.who ≡ who
  pub timing : TimingInvariant team past who p.timing

-- The echo of a datagram is of a round trip: its receiver read the one stamp, and its sender the other, no earlier, and waited.
pub record IsAnswer (ppm : ℕ) (past : List Step) (d : Dispatch) (e : Echo) : Type 0 where
  pub asked : ℕ
  pub noted : ℕ
  pub theirs : HasRead past d.to asked e.a
  pub after : asked ≤ noted
  pub before : noted ≤ d.at
  pub waited : MayElapse ppm (d.datagram.head.sent - e.b) (d.at - noted)

-- the part about a datagram that was sent
pub record WasSent (ppm : ℕ) (past : List Step) (d : Dispatch) : Type 0 where
  pub stamped : HasRead past d.datagram.head.from d.at d.datagram.head.sent
  pub told : IfSome d.datagram.head.interval (λ i. Holds i d.at)
  pub echoed : IfSome d.datagram.head.echo (IsAnswer ppm past d)

abbrev pub AllSent : Team → List Step → Type 0
AllSent team past = AllByRecursion (WasSent team.ppm past) (world team past).sent

-- a later step keeps all that

noted_still : (past : List Step) (s : Step) (who q : ℕ) (e : Echo) → IsNoted past who q e → IsNoted (s ∷ past) who q e
noted_still past s who q e k = record { asked = k.asked; noted = k.noted; theirs = inr k.theirs; own = inr k.own; after = k.after }

pub timed_still : (team : Team) (past : List Step) (s : Step) (who : ℕ) (t : Timing) → TimingInvariant team past who t → TimingInvariant team (s ∷ past) who t
timed_still team past s who t k = record { reads = waited team who past s t.clock k.reads; noted = λ q e found. noted_still past s who q e (k.noted q e found) }

answer_still : (ppm : ℕ) (past : List Step) (s : Step) (d : Dispatch) (o : Option Echo) → IfSome o (IsAnswer ppm past d) → IfSome o (IsAnswer ppm (s ∷ past) d)
answer_still ppm past s d None k = tt
answer_still ppm past s d (Some e) k = record { asked = k.asked; noted = k.noted; theirs = inr k.theirs; after = k.after; before = k.before; waited = k.waited }

pub all_still : (ppm : ℕ) (past : List Step) (s : Step) (ds : List Dispatch) → AllByRecursion (WasSent ppm past) ds → AllByRecursion (WasSent ppm (s ∷ past)) ds
all_still ppm past s [] all = tt
all_still ppm past s (d ∷ ds) all = (record { stamped = inr all.0.stamped; told = all.0.told; echoed = answer_still ppm past s d d.datagram.head.echo all.0.echoed }, all_still ppm past s ds all.1)

-- a datagram that arrives

-- its echo and its readings are of a real round trip
pub is_round_trip : (ppm : ℕ) (past : List Step) (s : Step) (d : Dispatch) → MayRead ppm s.who past s.t s.h → d.to ≡ s.who → WasSent ppm past d → IfSome (trip_of d.datagram.head s.h) (IsRoundTrip ppm d.at s.t)
is_round_trip ppm past s d may to was = go d.datagram.head.echo was.echoed
  where
    go : (o : Option Echo) → IfSome o (IsAnswer ppm past d) → IfSome (option_map (λ (e : Echo). trip e d.datagram.head.sent s.h) o) (IsRoundTrip ppm d.at s.t)
    go None k = tt
    go (Some e) k =
        let read : HasRead past s.who k.asked e.a = subst (λ who. HasRead past who k.asked e.a) to k.theirs in
        record { asked = k.asked; noted = k.noted; after = k.after; before = k.before; whole = (since ppm s.who past s.t s.h k.asked e.a may read).ticks; waited = k.waited }

-- so no bound by it is below the time that it took
pub trip_covers : (ppm : ℕ) (past : List Step) (s : Step) (d : Dispatch) → ppm ≤ 1000 → MayRead ppm s.who past s.t s.h → d.to ≡ s.who → WasSent ppm past d → IfSome (trip_bound ppm s.h d.datagram.head) (Covers s d)
trip_covers ppm past s d small may to was = go (trip_of d.datagram.head s.h) (is_round_trip ppm past s d may to was)
  where
    go : (o : Option RoundTrip) → IfSome o (IsRoundTrip ppm d.at s.t) → IfSome (option_and_then (echo_bound ppm) o) (Covers s d)
    go None k = tt
    go (Some r) k = echo_bounds ppm d.at s.t r small k

-- what it tells of team time holds
pub told_holds : (ppm : ℕ) (past : List Step) (s : Step) (d : Dispatch) → ppm ≤ 1000 → MayRead ppm s.who past s.t s.h → d.to ≡ s.who → WasSent ppm past d → IfSome (told ppm s.h d.datagram.head) (λ i. Holds i s.t)
told_holds ppm past s d small may to was =
    go d.datagram.head.interval (trip_bound ppm s.h d.datagram.head) was.told (trip_covers ppm past s d small may to was) (not_later past d.datagram.head.from s.t d.at d.datagram.head.sent may.time was.stamped)
  where
    go : (i : Option Interval) (bound : Option ℕ) → IfSome i (λ i. Holds i d.at) → IfSome bound (Covers s d) → d.at ≤ s.t → IfSome (both i bound) (λ i. Holds i s.t)
    go None bound i covers before = tt
    go (Some i) None holds covers before = tt
    go (Some i) (Some bound) holds covers before = delayed_holds d.at s.t bound i before covers holds

-- what is heard keeps the invariant

given_still : (team : Team) (past : List Step) (s : Step) (o : Option Interval) (t : Timing) → team.ppm ≤ 1000 → MayRead team.ppm s.who past s.t s.h → IfSome o (λ i. Holds i s.t) → ClockInvariant team s.who past t.clock → ClockInvariant team s.who (s ∷ past) (given team.ppm s.h o t).clock
given_still team past s None t small may holds k = waited team s.who past s t.clock k
given_still team past s (Some i) t small may holds k = given_clock team past s i t.clock small may holds k

none_refused : (team : Team) (past : List Step) (s : Step) (o : Option Interval) (t : Timing) → team.ppm ≤ 1000 → MayRead team.ppm s.who past s.t s.h → IfSome o (λ i. Holds i s.t) → ClockInvariant team s.who past t.clock → is_refused team.ppm s.h o t ≡ None
none_refused team past s None t small may holds k = refl
none_refused team past s (Some i) t small may holds k = rw (nothing_refused team s.who past t.clock s.t s.h i small k may holds) refl

given_heard : (ppm h : ℕ) (o : Option Interval) (t : Timing) (q : ℕ) → (given ppm h o t).heard q ≡ t.heard q
given_heard ppm h None t q = refl
given_heard ppm h (Some i) t q = refl

newer_noted : (past : List Step) (who q : ℕ) (o : Option Echo) (e x : Echo) → IsNoted past who q e → IfSome o (IsNoted past who q) → newer o e ≡ x → IsNoted past who q x
newer_noted past who q None e x new old is = subst (IsNoted past who q) is new
newer_noted past who q (Some y) e x new old is = go (nat_lt e.a y.a) is
  where
    go : (b : Bool) → cond b y e ≡ x → IsNoted past who q x
    go true is = subst (IsNoted past who q) is old
    go false is = subst (IsNoted past who q) is new

all_noted : (past : List Step) (who q : ℕ) (o : Option Echo) → ((e : Echo) → o ≡ Some e → IsNoted past who q e) → IfSome o (IsNoted past who q)
all_noted past who q None k = tt
all_noted past who q (Some e) k = k e refl

noted_stamp : (past : List Step) (who from : ℕ) (e : Echo) (t : Timing) → IsNoted past who from e → ((q : ℕ) (x : Echo) → t.heard q ≡ Some x → IsNoted past who q x) → (q : ℕ) (x : Echo) → (noted from e t).heard q ≡ Some x → IsNoted past who q x
noted_stamp past who from e t new old q x = go (nat_eq from q) refl
  where
    go : (b : Bool) → nat_eq from q ≡ b → cond b (Some (newer (t.heard q) e)) (t.heard q) ≡ Some x → IsNoted past who q x
    go false test is = old q x is
    go true test is =
        let same : from ≡ q = equal_numbers from q test in
        newer_noted past who q (t.heard q) e x (subst (λ i. IsNoted past who i e) same new) (all_noted past who q (t.heard q) (old q)) (same_Some (newer (t.heard q) e) x is)

-- what a process knows once an event told what it knows, and that nothing is refused as contradicting that
pub record LearntWell (team : Team) (past : List Step) (s : Step) (k : Learnt) : Type 0 where
  pub timing : TimingInvariant team (s ∷ past) s.who k.timing
  pub not_disjoint : k.packet ≢ Err Reason.Disjoint

taken_well : (team : Team) (past : List Step) (s : Step) (d : Dispatch) (t : Timing) → team.ppm ≤ 1000 → MayRead team.ppm s.who past s.t s.h → d.to ≡ s.who → WasSent team.ppm past d → TimingInvariant team past s.who t → LearntWell team past s (learn_packet team s.h (Ok d.datagram) t)
taken_well team past s d t small may to was k = record {
  timing = record {
    reads = given_still team past s (told team.ppm s.h head) u small may holds k.reads;
    noted = λ q e found. noted_stamp (s ∷ past) s.who head.from (record { a = head.sent; b = s.h }) t stamp (λ q e found. noted_still past s s.who q e (k.noted q e found)) q e (sym (given_heard team.ppm s.h (told team.ppm s.h head) u q) ∙ found);
  };
  not_disjoint = rw (none_refused team past s (told team.ppm s.h head) u small may holds k.reads) (λ e. cc);
}
  where
    head : Head
    head = d.datagram.head

    u : Timing
    u = noted head.from (record { a = head.sent; b = s.h }) t

    holds : IfSome (told team.ppm s.h head) (λ i. Holds i s.t)
    holds = told_holds team.ppm past s d small may to was

    stamp : IsNoted (s ∷ past) s.who head.from (record { a = head.sent; b = s.h })
    stamp = record { asked = d.at; noted = s.t; theirs = inr was.stamped; own = has_just_read past s; after = not_later past head.from s.t d.at head.sent may.time was.stamped }

-- of what isn't admitted nothing is heard
turned_away : (team : Team) (past : List Step) (s : Step) (reason : Reason) (t : Timing) → TimingInvariant team past s.who t → reason ≢ Reason.Disjoint → LearntWell team past s (learn_packet team s.h (Err reason) t)
turned_away team past s reason t k other = record { timing = timed_still team past s s.who t k; not_disjoint = λ e. other (cc) }

packet_well : (team : Team) (past : List Step) (s : Step) (d : Dispatch) (t : Timing) → team.ppm ≤ 1000 → MayRead team.ppm s.who past s.t s.h → d.to ≡ s.who → WasSent team.ppm past d → TimingInvariant team past s.who t → LearntWell team past s (learn_packet team s.h (admitted team.n s.who (Ok d.datagram)) t)
packet_well team past s d t small may to was k = go (is_taken d.datagram.body) (is_stranger team.n s.who d.datagram.head)
  where
    go : (taken stranger : Bool) → LearntWell team past s (learn_packet team s.h (cond taken (cond stranger (Err Reason.Stranger) (Ok d.datagram)) (Err (Reason.Wire Kind))) t)
    go true true = turned_away team past s Reason.Stranger t k (λ e. cc)
    go true false = taken_well team past s d t small may to was k
    go false stranger = turned_away team past s (Reason.Wire Kind) t k (λ e. cc)

reference_well : (team : Team) (past : List Step) (s : Step) (i : Interval) (t : Timing) → team.ppm ≤ 1000 → MayRead team.ppm s.who past s.t s.h → Holds i s.t → TimingInvariant team past s.who t → LearntWell team past s (record { timing = given team.ppm s.h (Some i) t; packet = unless_dropped (is_refused team.ppm s.h (Some i) t) None })
reference_well team past s i t small may holds k = record {
  timing = record { reads = given_clock team past s i t.clock small may holds k.reads; noted = λ q e found. noted_still past s s.who q e (k.noted q e found) };
  not_disjoint = rw (none_refused team past s (Some i) t small may holds k.reads) (λ e. cc);
}

-- whatever event a step brings
pub learnt_well : (team : Team) (past : List Step) (s : Step) (e : Event) (t : Timing) → team.ppm ≤ 1000 → MayRead team.ppm s.who past s.t s.h → AllSent team past → Brings team past s e → TimingInvariant team past s.who t → LearntWell team past s (learn team s.who s.h e t)
learnt_well team past s Event.Tick t small may sent brings k = record { timing = timed_still team past s s.who t k; not_disjoint = λ e. cc }
learnt_well team past s (Event.Packet (Err fault)) t small may sent brings k = absurd brings
learnt_well team past s (Event.Packet (Ok d)) t small may sent brings k =
    let was : WasSent team.ppm past brings.dispatch = at_number (WasSent team.ppm past) (world team past).sent brings.receipt.number brings.dispatch sent brings.receipt.sent in
    subst (λ (x : Datagram). LearntWell team past s (learn_packet team s.h (admitted team.n s.who (Ok x)) t)) (sym brings.is) (packet_well team past s brings.dispatch t small may brings.to was k)
learnt_well team past s (Event.Reference lo hi) t small may sent brings k = reference_well team past s (record { lo = lo; hi = hi }) t small may brings.1 k
learnt_well team past s (Event.Send order atom payload) t small may sent brings k = record { timing = timed_still team past s s.who t k; not_disjoint = λ e. cc }

-- a reading keeps the invariant
pub read_still : (team : Team) (past : List Step) (s : Step) (t : Timing) → MayRead team.ppm s.who (s ∷ past) s.t s.h → TimingInvariant team (s ∷ past) s.who t → TimingInvariant team (s ∷ past) s.who (read team s.h t)
read_still team past s t may k = record { reads = read_clock team past s t.clock may k.reads; noted = k.noted }

-- whatever is sent with a head of the process's own tells what holds, and its echo is of a round trip

sendable_holds : (t : ℕ) (o : Option Interval) → IfSome o (λ i. Holds i t) → IfSome (sendable o) (λ i. Holds i t)
sendable_holds t None k = tt
sendable_holds t (Some i) k = go (nat_lt i.hi (2 ^ 61))
  where
    go : (b : Bool) → IfSome (cond b (Some i) None) (λ i. Holds i t)
    go true = k
    go false = tt

answers : (team : Team) (past : List Step) (s : Step) (me : Identity) (t : Timing) (to : ℕ) (body : Body) (now : Moment) (o : Option Echo) → t.heard to ≡ o → now.h ≡ s.h → MayRead team.ppm s.who (s ∷ past) s.t s.h → TimingInvariant team (s ∷ past) s.who t →
    IfSome o (IsAnswer team.ppm (s ∷ past) (sent_at s.t (datagram_to now me t body to)))
answers team past s me t to body now None found at may k = tt
answers team past s me t to body now (Some e) found at may k =
    let known = k.noted to e found in
    let from = since team.ppm s.who (s ∷ past) s.t s.h known.noted e.b may known.own in
    record { asked = known.asked; noted = known.noted; theirs = known.theirs; after = known.after; before = from.not_before; waited = rw at from.ticks }

-- what a process's clock tells at its step
pub record TellsWell (s : Step) (now : Moment) : Type 0 where
  pub reads : now.h ≡ s.h
  pub holds : IfSome now.interval (λ i. Holds i s.t)

pub moment_well : (team : Team) (past : List Step) (s : Step) (c : Clock) → MayRead team.ppm s.who (s ∷ past) s.t s.h → ClockInvariant team s.who (s ∷ past) c → TellsWell s (moment_at team.ppm team.eps s.h c)
moment_well team past s c may k = record { reads = refl; holds = clock_holds team s.who (s ∷ past) c s.t s.h k may }

pub sent_well : (team : Team) (past : List Step) (s : Step) (me : Identity) (t : Timing) (now : Moment) (to : ℕ) (body : Body) → me.who ≡ s.who → TellsWell s now → MayRead team.ppm s.who (s ∷ past) s.t s.h → TimingInvariant team (s ∷ past) s.who t →
    WasSent team.ppm (s ∷ past) (sent_at s.t (datagram_to now me t body to))
sent_well team past s me t now to body is tells may k = record {
  stamped = rw (is, tells.reads) (has_just_read past s);
  told = sendable_holds s.t now.interval tells.holds;
  echoed = answers team past s me t to body now (t.heard to) refl tells.reads may k;
}
