-- The clocks of a schedule hold team time, and so do the intervals that datagrams tell: the induction over its steps.
use Rattle.std.proofs.Common.{◌≡◌, ◌≢◌, refl, sym, ap, subst, ◌∙◌, ℕ, ◌≤◌, List, [], ◌∷◌, ◌++◌, map, reverse, Option, Some, None, IfSome}
use Rattle.std.specs.List.{AllByRecursion}
use Rattle.std.proofs.lemmas.Grind.{reverse_onto}
use Rattle.tw_machine.specs.Types.{Team, Reason, Step, RowAnswer, Mode}
use Rattle.tw_types.specs.Team.{IsSound}
use Rattle.tw_types.specs.Process.{Identity, Process, started}
use Rattle.tw_types.specs.Row.{Row}
use Rattle.tw_machine.specs.Applied.{Meaning}
use Rattle.tw_machine.specs.Event.{Event}
use Rattle.tw_machine.specs.Hearing.{learn}
use Rattle.tw_machine.specs.Step.{learnt_by, moment_of, read_by, step, looked}
use Rattle.tw_machine.specs.World.{Deed, silent, happen, deed_in, world, Admissible}
use Rattle.tw_machine.specs.Rows.{columns, row_of, rows_of}
use Rattle.tw_machine.specs.Dispatches.{Dispatch, sent_at}
use Rattle.safety_laws.specs.Clocks.{MayRead, ClockHolds, SentWell, EachReadsNear}
use Rattle.tw_machine.specs.ClockLaw.{IsNear, ReadsNear, ReadsWell}
use Rattle.tw_machine.proofs.Tables.{all_push, all_mapped, same_number}
use Rattle.safety_laws.proofs.Readings.{may_read_still}
use Rattle.safety_laws.proofs.Sent.{all_sent}
use Rattle.safety_laws.proofs.Induction.{earlier, follows, meets, Brings, Turn, turn, Invariant, Rules, holds, by_turn}
use Rattle.tw_machine.proofs.Parts.{event_agrees}
use Rattle.tw_machine.proofs.Steps.{timing_after, step_identity, step_timing, step_answer, step_sends}
use Rattle.safety_laws.proofs.Timings.{TimingInvariant, IsTimed, WasSent, AllSent, LearntWell, clock_holds, clock_near, fresh_clock, timed_still, all_still, learnt_well, read_still, moment_well, sent_well}

-- what a step reads keeps the drift from all before it
pub may_read : (team : Team) (past : List Step) (s : Step) → Admissible team (s ∷ past) → MayRead team.ppm s.who past s.t s.h
may_read team past s ok = let met = meets team past s (follows team past s ok) in record { time = met.time; drift = met.drift }

pub may_read_now : (team : Team) (past : List Step) (s : Step) → Admissible team (s ∷ past) → MayRead team.ppm s.who (s ∷ past) s.t s.h
may_read_now team past s ok = may_read_still team.ppm past s (may_read team past s ok)

-- a step that sends nothing
none_sent : (team : Team) (past : List Step) (s : Step) (o : Option Process) (answer : RowAnswer) → deed_in team (world team past) s ≡ silent o answer → AllSent team past → AllSent team (s ∷ past)
none_sent team past s o answer comes sent = all_sent (WasSent team.ppm (s ∷ past)) team past s (silent o answer) comes (all_still team.ppm past s (world team past).sent sent) tt

fresh_process : (team : Team) (past : List Step) (s : Step) (mode : Mode) → IsTimed team (s ∷ past) s.who (started s.who mode s.h)
fresh_process team past s mode = record { is = refl; timing = record { reads = fresh_clock team s.who (s ∷ past); noted = λ q e found. absurd (cc) } }

looked_process : (team : Team) (past : List Step) (s : Step) (p : Process) → Admissible team (s ∷ past) → IsTimed team past s.who p → IsTimed team (s ∷ past) s.who (looked team s.h p)
looked_process team past s p ok k = record { is = k.is; timing = read_still team past s p.timing (may_read_now team past s ok) (timed_still team past s s.who p.timing k.timing) }

-- an event

pub hears : (team : Team) (past : List Step) (s : Step) (e : Event) (p : Process) → team.ppm ≤ 1000 → Admissible team (s ∷ past) → AllSent team past → Brings team past s e → IsTimed team past s.who p → LearntWell team past s (learnt_by team s.h e p)
hears team past s e p small ok sent brings k =
    subst (λ who. LearntWell team past s (learn team who s.h e p.timing)) (sym k.is) (learnt_well team past s e p.timing small (may_read team past s ok) sent brings k.timing)

-- whatever a step sends
sends_well : (team : Team) (past : List Step) (s : Step) (e : Event) (p : Process) → Admissible team (s ∷ past) → p.identity.who ≡ s.who → TimingInvariant team (s ∷ past) s.who (learnt_by team s.h e p).timing → AllByRecursion (WasSent team.ppm (s ∷ past)) (map (sent_at s.t) (step team s.h e p).out.sends)
sends_well team past s e p ok is k =
    let may = may_read_now team past s ok in
    let tells = moment_well team past s (learnt_by team s.h e p).timing.clock may k.reads in
    all_mapped (WasSent team.ppm (s ∷ past)) (sent_at s.t) (step team s.h e p).out.sends
    (step_sends team s.h e p (λ d. WasSent team.ppm (s ∷ past) (sent_at s.t d)) (λ to body. sent_well team past s p.identity (timing_after team s.h e p) (moment_of team s.h e p) to body is tells may (read_still team past s (learnt_by team s.h e p).timing may k)))

happens_well : (team : Team) (past : List Step) (s : Step) (e : Event) (p : Process) → team.ppm ≤ 1000 → Admissible team (s ∷ past) → AllSent team past → Brings team past s e → deed_in team (world team past) s ≡ happen team s.h e p → IsTimed team past s.who p → AllSent team (s ∷ past) × IsTimed team (s ∷ past) s.who (step team s.h e p).process
happens_well team past s e p small ok sent brings comes k = (
  all_sent (WasSent team.ppm (s ∷ past)) team past s (happen team s.h e p) comes (all_still team.ppm past s (world team past).sent sent) (sends_well team past s e p ok k.is well.timing),
  record {
    is = ap (λ (i : Identity). i.who) (step_identity team s.h e p) ∙ k.is;
    timing = subst (TimingInvariant team (s ∷ past) s.who) (sym (step_timing team s.h e p)) after;
  },
)
  where
    well : LearntWell team past s (learnt_by team s.h e p)
    well = hears team past s e p small ok sent brings k

    after : TimingInvariant team (s ∷ past) s.who (timing_after team s.h e p)
    after = read_still team past s (learnt_by team s.h e p).timing (may_read_now team past s ok) well.timing

clock_rules : (team : Team) → team.ppm ≤ 1000 → Rules team (AllSent team) (IsTimed team)
clock_rules team small = record {
  nothing = tt;
  starts = λ past s mode ok before act comes. (none_sent team past s (Some (started s.who mode s.h)) RowAnswer.Start comes before.history, fresh_process team past s mode);
  stops = λ past s ok before act comes. none_sent team past s None RowAnswer.Crash comes before.history;
  looks = λ past s p ok before runs act comes. (none_sent team past s (Some (looked team s.h p)) RowAnswer.Look comes before.history, looked_process team past s p ok (before.running s.who p runs));
  happens = λ past s e p ok before runs brings comes. happens_well team past s e p small ok before.history brings comes (before.running s.who p runs);
  others = λ past s ok before sent who p other runs. other_well team past s who p (before.running who p runs);
}
  where
    other_well : (team : Team) (past : List Step) (s : Step) (who : ℕ) (p : Process) → IsTimed team past who p → IsTimed team (s ∷ past) who p
    other_well team past s who p k = record { is = k.is; timing = timed_still team past s who p.timing k.timing }

-- in every admissible schedule
pub timed : (team : Team) (past : List Step) → IsSound team → Admissible team past → Invariant team (AllSent team) (IsTimed team) past
timed team past sound ok = holds team (AllSent team) (IsTimed team) (clock_rules team sound.drift) past ok

-- what follows for a process, and for the rows

pub each_running : {P : Process → Type 0} (o : Option Process) → ((p : Process) → o ≡ Some p → P p) → IfSome o P
each_running None k = tt
each_running (Some p) k = k p refl

pub holds_later : (team : Team) (past : List Step) (who t h : ℕ) → IsSound team → Admissible team past → MayRead team.ppm who past t h → IfSome ((world team past).process_of who) (ClockHolds team.ppm t h)
holds_later team past who t h sound ok may = each_running ((world team past).process_of who) (λ p runs. clock_holds team who past p.timing.clock t h ((timed team past sound ok).running who p runs).timing.reads may)

pub holds_at_step : (team : Team) (past : List Step) (s : Step) → IsSound team → Admissible team (s ∷ past) → IfSome ((world team (s ∷ past)).process_of s.who) (ClockHolds team.ppm s.t s.h)
holds_at_step team past s sound ok = holds_later team (s ∷ past) s.who s.t s.h sound ok (may_read_now team past s ok)

pub none_disjoint : (team : Team) (past : List Step) (who : ℕ) → IsSound team → Admissible team past → IfSome ((world team past).process_of who) (λ (p : Process). p.timing.clock.disjoint ≡ None)
none_disjoint team past who sound ok = each_running ((world team past).process_of who) (λ p runs. ((timed team past sound ok).running who p runs).timing.reads.none_refused)

sent_well_of : (team : Team) (past : List Step) (ds : List Dispatch) → AllByRecursion (WasSent team.ppm past) ds → AllByRecursion SentWell ds
sent_well_of team past [] all = tt
sent_well_of team past (d ∷ ds) all = (all.0.told, sent_well_of team past ds all.1)

-- each interval that was sent held team time at its sending
pub intervals_sent : (team : Team) (past : List Step) → IsSound team → Admissible team past → AllByRecursion SentWell (world team past).sent
intervals_sent team past sound ok = sent_well_of team past (world team past).sent (timed team past sound ok).history

pub own_after : (team : Team) (past : List Step) (s : Step) → (world team (s ∷ past)).process_of s.who ≡ (deed_in team (world team past) s).process
own_after team past s = rw (same_number s.who) refl

-- the row of a step reads near its team time
row_near : {Content : Type 0} (meaning : Meaning Content) (team : Team) (past : List Step) (s : Step) → IsSound team → Admissible team (s ∷ past) → ReadsNear team.eps s (row_of meaning team past s)
row_near meaning team past s sound ok = go (deed_in team (world team past) s).process refl
  where
    go : (o : Option Process) → (deed_in team (world team past) s).process ≡ o → IfSome (columns team s.h ((world team past).process_of s.who) o).reading (λ T. IsNear team.eps s.t T)
    go None e = tt
    go (Some p) e =
        let k = (timed team (s ∷ past) sound ok).running s.who p (own_after team past s ∙ e) in
        clock_near team s.who (s ∷ past) p.timing.clock s.t s.h k.timing.reads (may_read_now team past s ok)

pub reads_well : {Content : Type 0} (meaning : Meaning Content) (team : Team) (past : List Step) → IsSound team → Admissible team past → ReadsWell meaning team past
reads_well meaning team [] sound ok = tt
reads_well meaning team (s ∷ past) sound ok = (reads_well meaning team past sound (earlier team past s ok), row_near meaning team past s sound ok)

-- one more step and its row, at the end of both lists
one_more : (eps : ℕ) (ss : List Step) (rs : List Row) (s : Step) (r : Row) → EachReadsNear eps ss rs → ReadsNear eps s r → EachReadsNear eps (ss ++ s ∷ []) (rs ++ r ∷ [])
one_more eps [] [] s r each near = (near, tt)
one_more eps (s' ∷ ss) (r' ∷ rs) s r each near = (each.0, one_more eps ss rs s r each.1 near)
one_more eps [] (r' ∷ rs) s r each near = absurd each
one_more eps (s' ∷ ss) [] s r each near = absurd each

pub rows_read_well : {Content : Type 0} (meaning : Meaning Content) (team : Team) (past : List Step) → ReadsWell meaning team past → EachReadsNear team.eps (reverse past) (rows_of meaning team past)
rows_read_well meaning team [] well = tt
rows_read_well meaning team (s ∷ past) well = rw (reverse_onto past s []) (one_more team.eps (reverse past) (rows_of meaning team past) s (row_of meaning team past s) (rows_read_well meaning team past well.0) well.1)

answer_well : (team : Team) (past : List Step) (s : Step) → team.ppm ≤ 1000 → Admissible team (s ∷ past) → Invariant team (AllSent team) (IsTimed team) past → Turn team past s (deed_in team (world team past) s) → (deed_in team (world team past) s).answer ≢ RowAnswer.Dropped Reason.Disjoint
answer_well team past s small ok before t = by_turn team past s (λ (d : Deed). d.answer ≢ RowAnswer.Dropped Reason.Disjoint) (deed_in team (world team past) s) t
    (λ answer mute. mute.1 Reason.Disjoint) (λ p answer mute. mute.1 Reason.Disjoint)
    (λ event p runs brings e.
    let well = hears team past s event p small ok before.history brings (before.running s.who p runs) in
    event_agrees team (moment_of team s.h event p) event (learnt_by team s.h event p).packet (read_by team s.h event p) well.not_disjoint (sym (step_answer team s.h event p) ∙ e))

-- no step is answered as contradicting what its process knows
pub none_dropped : {Content : Type 0} (meaning : Meaning Content) (team : Team) (past : List Step) → IsSound team → Admissible team past
    → AllByRecursion (λ (r : Row). r.answer ≢ RowAnswer.Dropped Reason.Disjoint) (rows_of meaning team past)
none_dropped meaning team [] sound ok = tt
none_dropped meaning team (s ∷ past) sound ok =
    all_push (λ (r : Row). r.answer ≢ RowAnswer.Dropped Reason.Disjoint) (rows_of meaning team past) (row_of meaning team past s) (none_dropped meaning team past sound (earlier team past s ok))
    (answer_well team past s sound.drift ok (timed team past sound (earlier team past s ok)) (turn team past s ok))
