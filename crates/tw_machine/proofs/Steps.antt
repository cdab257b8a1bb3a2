-- What an event leaves of a process, by its parts.
use Rattle.std.proofs.Common.{◌≡◌, refl, sym, ap, subst, ◌∙◌, ℕ, ◌≤◌, Bool, true, false, cond, if◌then◌else◌, [], ◌++◌, append-nil, Option, Some, None, Result, Ok, Err}
use Rattle.std.specs.List.{AllByRecursion}
use Rattle.tw_num.specs.declared.interval.Interval.{Interval}
use Rattle.tw_num.specs.Clock.{IsNotBefore, reading_at}
use Rattle.tw_num.specs.declared.moment.Moment.{Moment}
use Rattle.tw_machine.specs.Types.{Team, Decision, Body, Datagram, Reason}
use Rattle.tw_types.specs.Beliefs.{log_length}
use Rattle.tw_types.specs.Decisions.{or_none}
use Rattle.tw_types.specs.Deliveries.{Deliveries, delivered_by, deliveries}
use Rattle.tw_types.specs.Flag.{is_up}
use Rattle.tw_types.specs.Process.{Process, Timing}
use Rattle.tw_machine.specs.Event.{Event}
use Rattle.tw_machine.specs.Packet.{admitted}
use Rattle.tw_machine.specs.Hearing.{given, read, learn_packet, learn}
use Rattle.tw_machine.specs.Sending.{datagram_to}
use Rattle.tw_machine.specs.Run.{Run}
use Rattle.tw_machine.specs.Standing.{last_decision}
use Rattle.tw_machine.specs.Delivering.{all_delivered, deliver}
use Rattle.tw_machine.specs.Beating.{give_beat}
use Rattle.tw_machine.specs.Duties.{timed_duties, duties_if_timed, duties}
use Rattle.tw_machine.specs.Step.{learnt_by, moment_of, read_by, ruled_by, has_duties, ended_by, step, looked, view_of}
use Rattle.tw_machine.specs.Applied.{payloads_in, payloads_applied}
use Rattle.tw_machine.proofs.Applied.{updates_of, deliver_applies, deliver_within}
use Rattle.tw_machine.proofs.Clocks.{not_before_given, read_again, reading_again}
use Rattle.tw_machine.proofs.Parts.{IsQuiet, before_delivery, before_on, beat_on, ruled_on, ended_on}

-- what a process knows of time once its clock was read
abbrev pub timing_after : Team → ℕ → Event → Process → Timing
timing_after team h e p = read team h (learnt_by team h e p).timing

pub step_identity : (team : Team) (h : ℕ) (e : Event) (p : Process) → (step team h e p).process.identity ≡ p.identity
unfolding step
step_identity team h e p = (ended_on team h e p).identity

pub step_timing : (team : Team) (h : ℕ) (e : Event) (p : Process) → (step team h e p).process.timing ≡ timing_after team h e p
unfolding step
step_timing team h e p = (ended_on team h e p).timing

pub step_answer : (team : Team) (h : ℕ) (e : Event) (p : Process) → (step team h e p).answer ≡ (ruled_by team h e p).answer
unfolding step
step_answer team h e p = refl

-- whatever is sent is told by the process's own head
pub step_sends : (team : Team) (h : ℕ) (e : Event) (p : Process) (P : ℕ × Datagram → Type 0) → ((to : ℕ) (body : Body) → P (datagram_to (moment_of team h e p) p.identity (timing_after team h e p) body to)) → AllByRecursion P (step team h e p).out.sends
unfolding step
step_sends team h e p P own = (ended_on team h e p).sends P own tt

-- ---- what is delivered

-- these are, from a run to a later one of the same event
record Gives (a b : Run) (given : Deliveries) : Type 0 where
  passes : b.out.passes ≡ a.out.passes ++ given.passes
  earlies : b.out.earlies ≡ a.out.earlies ++ given.earlies ++ given.weaks
  applied : a.process.log.passed ≤ log_length a.process.log → payloads_applied b.process.log ≡ payloads_applied a.process.log ++ payloads_in (updates_of given.passes)
  within : a.process.log.passed ≤ log_length a.process.log → b.process.log.passed ≤ log_length b.process.log

abbrev pub none_delivered : Deliveries
none_delivered = record { passes = []; earlies = []; weaks = [] }

gives_none : (r : Run) → Gives r r none_delivered
gives_none r = record {
  passes = sym (append-nil r.out.passes);
  earlies = sym (append-nil (r.out.earlies ++ []) ∙ append-nil r.out.earlies);
  applied = λ h. sym (append-nil (payloads_applied r.process.log));
  within = λ h. h;
}

quiet_then : (now : Moment) (a b c : Run) (given : Deliveries) → IsQuiet now a b → Gives b c given → Gives a c given
quiet_then now a b c given quiet gives = record {
  passes = gives.passes ∙ ap (λ ps. ps ++ given.passes) quiet.passes;
  earlies = gives.earlies ∙ ap (λ ks. ks ++ given.earlies ++ given.weaks) quiet.earlies;
  applied = λ h. gives.applied (quiet.grows.within h) ∙ ap (λ ps. ps ++ payloads_in (updates_of given.passes)) (quiet.grows.same h);
  within = λ h. gives.within (quiet.grows.within h);
}

then_quiet : (now : Moment) (a b c : Run) (given : Deliveries) → Gives a b given → IsQuiet now b c → Gives a c given
then_quiet now a b c given gives quiet = record {
  passes = quiet.passes ∙ gives.passes;
  earlies = quiet.earlies ∙ gives.earlies;
  applied = λ h. quiet.grows.same (gives.within h) ∙ gives.applied h;
  within = λ h. quiet.grows.within (gives.within h);
}

deliver_gives : (team : Team) (t : ℕ) (r : Run) → Gives r (deliver team t r) (deliveries team (Some t) r.process)
deliver_gives team t r = record { passes = (given (is_up team r.process.vote r.process.belief (Some t))).0; earlies = (given (is_up team r.process.vote r.process.belief (Some t))).1; applied = λ h. deliver_applies team t r; within = deliver_within team t r }
  where
    last : Decision
    last = or_none (last_decision r.process)

    by : Bool → Deliveries
    by up = cond up (delivered_by team last r.process.log r.process.waiting.pending) none_delivered

    given : (up : Bool) → ((cond up (all_delivered team last r) r).out.passes ≡ r.out.passes ++ (by up).passes) × ((cond up (all_delivered team last r) r).out.earlies ≡ r.out.earlies ++ (by up).earlies ++ (by up).weaks)
    given true = (refl, refl)
    given false = let none = gives_none r in (none.passes, none.earlies)

-- what the duties after a rule deliver at a reading, if there is one: what the process does as it is before the duty that delivers
abbrev pub delivered_after : Team → Moment → Run → Option ℕ → Deliveries
delivered_after team now r None = none_delivered
delivered_after team now r (Some t) = deliveries team (Some t) (before_delivery team now t r).process

timed_gives : (team : Team) (now : Moment) (reading : Option ℕ) (r : Run) → Gives r (duties_if_timed team now reading r) (delivered_after team now r reading)
unfolding timed_duties
timed_gives team now None r = gives_none r
timed_gives team now (Some t) r =
    let before : Run = before_delivery team now t r in
    quiet_then now r before (deliver team t before) (deliveries team (Some t) before.process) (before_on team now t r) (deliver_gives team t before)

duties_give : (team : Team) (now : Moment) (r : Run) → Gives r (duties team now r) (delivered_after team now r now.reading)
unfolding duties
duties_give team now r =
    let timed : Run = duties_if_timed team now now.reading r in
    then_quiet now r timed (give_beat team now timed) (delivered_after team now r now.reading) (timed_gives team now now.reading r) (beat_on team now timed)

-- what a step delivers
abbrev pub delivered_in : Team → ℕ → Event → Process → Deliveries
delivered_in team h e p = if has_duties e then delivered_after team (moment_of team h e p) (ruled_by team h e p).run (moment_of team h e p).reading else none_delivered

ended_gives : (team : Team) (h : ℕ) (e : Event) (p : Process) → Gives (read_by team h e p) (ended_by team h e p) (delivered_in team h e p)
ended_gives team h e p = quiet_then now (read_by team h e p) ruled (ended_by team h e p) (delivered_in team h e p) (ruled_on team h e p) (go (has_duties e))
  where
    now : Moment
    now = moment_of team h e p

    ruled : Run
    ruled = (ruled_by team h e p).run

    go : (b : Bool) → Gives ruled (cond b (duties team now ruled) ruled) (cond b (delivered_after team now ruled now.reading) none_delivered)
    go true = duties_give team now ruled
    go false = gives_none ruled

pub step_passes : (team : Team) (h : ℕ) (e : Event) (p : Process) → (step team h e p).out.passes ≡ (delivered_in team h e p).passes
unfolding step
step_passes team h e p = (ended_gives team h e p).passes

pub step_earlies : (team : Team) (h : ℕ) (e : Event) (p : Process) → (step team h e p).out.earlies ≡ (delivered_in team h e p).earlies ++ (delivered_in team h e p).weaks
unfolding step
step_earlies team h e p = (ended_gives team h e p).earlies

-- What a step applies are the updates that it passes, in order, and nothing else.
pub step_applies : (team : Team) (h : ℕ) (e : Event) (p : Process) → p.log.passed ≤ log_length p.log
    → payloads_applied (step team h e p).process.log ≡ payloads_applied p.log ++ payloads_in (updates_of (step team h e p).out.passes)
unfolding step
step_applies team h e p within = let gives = ended_gives team h e p in gives.applied within ∙ ap (λ ps. payloads_applied p.log ++ payloads_in (updates_of ps)) (sym gives.passes)

-- the process of a step at its reading t, as it is before the duty that delivers
abbrev pub process_before : Team → ℕ → Event → ℕ → Process → Process
process_before team h e t p = (before_delivery team (moment_of team h e p) t (ruled_by team h e p).run).process

-- A step without duties delivers nothing, nor does one without a reading, or of a process that isn't up there.
pub without_duties : (team : Team) (h : ℕ) (e : Event) (p : Process) → has_duties e ≡ false → delivered_in team h e p ≡ none_delivered
without_duties team h e p undone = rw undone refl

pub without_reading : (team : Team) (h : ℕ) (e : Event) (p : Process) → (moment_of team h e p).reading ≡ None → delivered_in team h e p ≡ none_delivered
without_reading team h e p unread = go (has_duties e)
  where
    go : (b : Bool) → cond b (delivered_after team (moment_of team h e p) (ruled_by team h e p).run (moment_of team h e p).reading) none_delivered ≡ none_delivered
    go true = ap (delivered_after team (moment_of team h e p) (ruled_by team h e p).run) unread
    go false = refl

pub where_not_up : (team : Team) (h : ℕ) (e : Event) (t : ℕ) (p : Process) → (moment_of team h e p).reading ≡ Some t
    → is_up team (process_before team h e t p).vote (process_before team h e t p).belief (Some t) ≡ false → delivered_in team h e p ≡ none_delivered
where_not_up team h e t p is low = go (has_duties e)
  where
    none : deliveries team (Some t) (process_before team h e t p) ≡ none_delivered
    none = rw low refl

    go : (b : Bool) → cond b (delivered_after team (moment_of team h e p) (ruled_by team h e p).run (moment_of team h e p).reading) none_delivered ≡ none_delivered
    go true = ap (delivered_after team (moment_of team h e p) (ruled_by team h e p).run) is ∙ none
    go false = refl

-- Any other step delivers by the last decision and the list that its process has then.
pub where_up : (team : Team) (h : ℕ) (e : Event) (t : ℕ) (p : Process) → has_duties e ≡ true → (moment_of team h e p).reading ≡ Some t
    → is_up team (process_before team h e t p).vote (process_before team h e t p).belief (Some t) ≡ true
    → delivered_in team h e p ≡ delivered_by team (or_none (last_decision (process_before team h e t p))) (process_before team h e t p).log (process_before team h e t p).waiting.pending
where_up team h e t p has is up = rw has (ap (delivered_after team (moment_of team h e p) (ruled_by team h e p).run) is ∙ rw up refl)

-- ---- looks

-- a second look at the same reading changes nothing
pub looked_again : (team : Team) (h : ℕ) (p : Process) → looked team h (looked team h p) ≡ looked team h p
looked_again team h p = ap (λ c. record p { timing = record p.timing { clock = c } }) (read_again team.ppm team.eps h p.timing.clock)

-- nor does a look at the reading of a step
pub looked_after : (team : Team) (h : ℕ) (e : Event) (p : Process) → looked team h (step team h e p).process ≡ (step team h e p).process
looked_after team h e p = go (step team h e p).process (step_timing team h e p)
  where
    go : (q : Process) → q.timing ≡ timing_after team h e p → looked team h q ≡ q
    go q is =
        let same : read team h q.timing ≡ q.timing = rw is (ap (λ c. record (learnt_by team h e p).timing { clock = c }) (read_again team.ppm team.eps h (learnt_by team h e p).timing.clock)) in
        ap (λ t. record q { timing = t }) same

-- which tells the reading that the step took
pub viewed_after : (team : Team) (h : ℕ) (e : Event) (p : Process) → (view_of team h (step team h e p).process).reading ≡ (moment_of team h e p).reading
viewed_after team h e p = ap (λ (t : Timing). reading_at team.ppm team.eps h t.clock) (step_timing team h e p) ∙ reading_again team.ppm team.eps h (learnt_by team h e p).timing.clock

-- ---- nothing is given at a reading above that of the event

given_not_before : (ppm h : ℕ) (i : Option Interval) (t : Timing) → IsNotBefore h t.clock → IsNotBefore h (given ppm h i t).clock
given_not_before ppm h None t known = known
given_not_before ppm h (Some i) t known = not_before_given ppm h i t.clock known

packet_not_before : (team : Team) (h : ℕ) (r : Result Datagram Reason) (t : Timing) → IsNotBefore h t.clock → IsNotBefore h (learn_packet team h r t).timing.clock
packet_not_before team h (Err reason) t known = known
packet_not_before team h (Ok d) t known = given_not_before team.ppm h _ _ known

pub learnt_not_before : (team : Team) (me h : ℕ) (e : Event) (t : Timing) → IsNotBefore h t.clock → IsNotBefore h (learn team me h e t).timing.clock
learnt_not_before team me h Event.Tick t known = known
learnt_not_before team me h (Event.Packet r) t known = packet_not_before team h (admitted team.n me r) t known
learnt_not_before team me h (Event.Reference lo hi) t known = given_not_before team.ppm h (Some (record { lo = lo; hi = hi })) t known
learnt_not_before team me h (Event.Send order atom payload) t known = known

pub step_not_before : (team : Team) (h : ℕ) (e : Event) (p : Process) → IsNotBefore h p.timing.clock → IsNotBefore h (step team h e p).process.timing.clock
step_not_before team h e p known = subst (λ (t : Timing). IsNotBefore h t.clock) (sym (step_timing team h e p)) (learnt_not_before team p.identity.who h e p.timing known)
