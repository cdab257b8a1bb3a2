-- What is kept of a schedule tells which step may follow it.
use Rattle.std.proofs.Common.{subst, ◌≡◌, ◌≢◌, ◌≤◌, refl, sym, ap, ◌∙◌, ℕ, Bool, true, false, cond, not, ◌&&◌, ◌||◌, nat_eq, List, [], ◌∷◌, Option, Some, None, Ok, arith}
use Rattle.std.specs.Prelude.{is_some, nat_le, nat_lt}
use Rattle.std.specs.List.{list_all, AllByRecursion}
use Rattle.std.proofs.lemmas.Bool.Decides.{nat_tests}
use Rattle.tw_num.specs.Clock.{Given, IsNotBefore}
use Rattle.tw_machine.specs.Types.{Team, Cause, Act, Step}
use Rattle.tw_types.specs.Numbered.{numbered}
use Rattle.tw_types.specs.declared.step.Cause.TheVariants as causes
use Rattle.tw_types.specs.declared.step.Act.TheVariants.{First, Again, Crash, Tick, Recv, Send, Reference, Look}
use Rattle.tw_types.specs.Process.{Process}
use Rattle.tw_machine.specs.Admissible.{cause_of, each_own, is_running, runs_after, is_start, keeps_drift, may_receive, may_start, holds_time}
use Rattle.tw_machine.specs.Dispatches.{Dispatch}
use Rattle.tw_machine.specs.Event.{Tick as TickEvent, Packet, Send as SendEvent, Reference as ReferenceEvent}
use Rattle.tw_machine.specs.World.{world, receive, deed, deed_in, Admissible}
use Rattle.tw_machine.proofs.Tables.{same_number, equal_numbers, other_number}
use Rattle.tw_machine.proofs.Steps.{step_not_before}
use Rattle.world.specs.declared.node.Node.{Node}
use Rattle.world.specs.Deeds.{RunsAs, NotBefore}
use Rattle.world.specs.NodeConditions.{kept_cause}
use Rattle.world.specs.Bounds.{AreBoundsOf, admits}
use Rattle.world.specs.Readings.{Reading, readings_of, latest_of}
use Rattle.world.specs.Tables.{Running}
use Rattle.world.specs.StandsFor.{IsKnown, NodeStandsFor}
use Rattle.world.proofs.Drift.{drift_by_bounds, above_by_bounds}
use Rattle.std.proofs.lemmas.Bool.{and_parts}

both : (a b : Bool) → a ≡ true → b ≡ true → (a && b) ≡ true
both a b p q = rw (p, q) refl

or_comm : (a b : Bool) → (a || b) ≡ (b || a)
or_comm true true = refl
or_comm true false = refl
or_comm false true = refl
or_comm false false = refl

-- ---- conditions

readings_step : (test : ℕ → ℕ → Bool) (own : Bool) (t h : ℕ) (before : Bool) (readings : List Reading) → before ≡ list_all (λ (r : Reading). test r.t r.h) readings
    → ((not own || test t h) && before) ≡ list_all (λ (r : Reading). test r.t r.h) (cond own (record { t = t; h = h } ∷ readings) readings)
readings_step test true t h before readings e = ap (λ b. test t h && b) e
readings_step test false t h before readings e = e

-- the tests of a process's steps are those of its readings
own_readings : (test : ℕ → ℕ → Bool) (who : ℕ) (past : List Step) → each_own (λ e. test e.t e.h) who past ≡ list_all (λ (r : Reading). test r.t r.h) (readings_of who past)
own_readings test who [] = refl
own_readings test who (s ∷ past) = readings_step test (nat_eq s.who who) s.t s.h _ (readings_of who past) (own_readings test who past)

-- none of the readings of a process comes after the last step
readings_before : (who t : ℕ) (past : List Step) → list_all (λ (e : Step). nat_le e.t t) past ≡ true → AllByRecursion (λ (r : Reading). r.t ≤ t) (readings_of who past)
readings_before who t [] all = tt
readings_before who t (e ∷ past) all = go (nat_eq e.who who) (readings_before who t past (and_parts (nat_le e.t t) _ all).1) (and_parts (nat_le e.t t) _ all).0
  where
    go : (own : Bool) → AllByRecursion (λ (r : Reading). r.t ≤ t) (readings_of who past) → nat_le e.t t ≡ true
        → AllByRecursion (λ (r : Reading). r.t ≤ t) (cond own (record { t = e.t; h = e.h } ∷ readings_of who past) (readings_of who past))
    go true rest first = (grind (arith, nat_tests), rest)
    go false rest first = rest

-- none of them is above a number where no step of the process is
readings_below : (who h : ℕ) (past : List Step) → each_own (λ e. nat_le e.h h) who past ≡ true → AllByRecursion (λ (r : Reading). r.h ≤ h) (readings_of who past)
readings_below who h [] all = tt
readings_below who h (e ∷ past) all = go (nat_eq e.who who) (readings_below who h past (and_parts (not (nat_eq e.who who) || nat_le e.h h) _ all).1) (and_parts (not (nat_eq e.who who) || nat_le e.h h) _ all).0
  where
    go : (own : Bool) → AllByRecursion (λ (r : Reading). r.h ≤ h) (readings_of who past) → (not own || nat_le e.h h) ≡ true
        → AllByRecursion (λ (r : Reading). r.h ≤ h) (cond own (record { t = e.t; h = e.h } ∷ readings_of who past) (readings_of who past))
    go true rest first = (grind (arith, nat_tests), rest)
    go false rest first = rest

met_first : (met : Bool) (c : Cause) (rest : Option Cause) → cond met rest (Some c) ≡ None → met ≡ true
met_first true c rest e = refl
met_first false c rest e = absurd (cc)

met_rest : (met : Bool) (c : Cause) (rest : Option Cause) → cond met rest (Some c) ≡ None → rest ≡ None
met_rest true c rest e = e
met_rest false c rest e = absurd (cc)

-- team time has not fallen before a step that may follow
times_before : (team : Team) (sent : List Dispatch) (past : List Step) (s : Step) → cause_of team sent past s ≡ None → list_all (λ e. nat_le e.t s.t) past ≡ true
times_before team sent past s none = met_first _ _ _ none

all_up_to : (past : List Step) (t u : ℕ) → t ≤ u → list_all (λ (e : Step). nat_le e.t t) past ≡ true → list_all (λ (e : Step). nat_le e.t u) past ≡ true
all_up_to [] t u low all = refl
all_up_to (e ∷ past) t u low all =
    both (nat_le e.t u) _ (later e.t (and_parts (nat_le e.t t) _ all).0) (all_up_to past t u low (and_parts (nat_le e.t t) _ all).1)
  where
    later : (x : ℕ) → nat_le x t ≡ true → nat_le x u ≡ true
    later x h = grind (arith, nat_tests)

-- of an admissible schedule the last step has the greatest time
latest_is : (team : Team) (past : List Step) → Admissible team past → (t : ℕ) → list_all (λ (e : Step). nat_le e.t t) past ≡ nat_le (latest_of past) t
latest_is team [] ok t = grind (arith, nat_tests)
latest_is team (s ∷ past) ok t = go (nat_le s.t t) refl
  where
    go : (b : Bool) → nat_le s.t t ≡ b → (b && list_all (λ (e : Step). nat_le e.t t) past) ≡ b
    go false e = refl
    go true e = all_up_to past s.t t (grind (arith, nat_tests)) (times_before team (world team past).sent past s ok.1)

received_runs : (team : Team) (h : ℕ) (p : Process) (o : Option Dispatch) → is_some (receive team h o p).process ≡ true
received_runs team h p None = refl
received_runs team h p (Some d) = refl

runs_step : (team : Team) (who h : ℕ) (sent : List Dispatch) (act : Act) (running : Bool) (p : Option Process) → running ≡ is_some p → runs_after act running ≡ is_some (deed team who h sent act p).process
runs_step team who h sent First running p e = refl
runs_step team who h sent Again running p e = refl
runs_step team who h sent Crash running p e = refl
runs_step team who h sent Tick running None e = e
runs_step team who h sent Tick running (Some q) e = e
runs_step team who h sent (Recv d) running None e = e
runs_step team who h sent (Recv d) running (Some q) e = e ∙ sym (received_runs team h q (numbered d sent))
runs_step team who h sent (Send order atom payload) running None e = e
runs_step team who h sent (Send order atom payload) running (Some q) e = e
runs_step team who h sent (Reference lo hi) running None e = e
runs_step team who h sent (Reference lo hi) running (Some q) e = e
runs_step team who h sent Look running None e = e
runs_step team who h sent Look running (Some q) e = e

-- the processes that run are those of the world
running_is : (team : Team) (past : List Step) (who : ℕ) → is_running who past ≡ is_some ((world team past).process_of who)
running_is team [] who = refl
running_is team (s ∷ past) who = go (nat_eq s.who who) refl (running_is team past who)
  where
    go : (own : Bool) → nat_eq s.who who ≡ own → is_running who past ≡ is_some ((world team past).process_of who)
        → cond own (runs_after s.act (is_running who past)) (is_running who past)
        ≡ is_some (cond own (deed_in team (world team past) s).process ((world team past).process_of who))
    go false e before = before
    go true e before = let same : s.who ≡ who = equal_numbers s.who who e in rw same (runs_step team who s.h (world team past).sent s.act _ _ before)

started_running : (team : Team) (p : Option Process) (r : Option Running) → RunsAs team r p → is_some r ≡ is_some p
started_running team None None runs = refl
started_running team (Some q) (Some r) runs = refl
started_running team (Some q) None runs = absurd runs
started_running team None (Some r) runs = absurd runs

-- the second of two conditions has to be the same only where the first is met
first_two : (a b p q : Bool) (x y : Cause) (rest : Option Cause) → a ≡ b → (a ≡ true → p ≡ q) → cond a (cond p rest (Some y)) (Some x) ≡ cond b (cond q rest (Some y)) (Some x)
first_two true b p q x y rest e same = rw (← e, same refl) refl
first_two false b p q x y rest e same = rw (← e) refl

-- the cause is told by what is kept
pub cause_kept : (team : Team) (past : List Step) (p : Node) (s : Step) (received : Bool) → Admissible team past → NodeStandsFor team past s.who p → received ≡ may_receive (world team past).sent s s.act
    → cause_of team (world team past).sent past s ≡ kept_cause team.ppm (latest_of past) received p s
cause_kept team past p s received ok stands there =
    rw (
      own_readings (λ t h. nat_lt h s.h) s.who past,
      above_by_bounds team.ppm s.h p.bounds (readings_of s.who past) stands.bounds,
      running_is team past s.who,
      ← started_running team _ p.core stands.running,
      ← stands.started,
      there,
    ) (first_two _ _ _ _ causes.Time causes.Drift _ (latest_is team past ok s.t) drift)
  where
    drift : list_all (λ (e : Step). nat_le e.t s.t) past ≡ true → each_own (λ e. keeps_drift team.ppm e.t e.h s.t s.h) s.who past ≡ admits team.ppm p.bounds s.t s.h
    drift before = own_readings (λ t h. keeps_drift team.ppm t h s.t s.h) s.who past
        ∙ drift_by_bounds team.ppm s.t s.h p.bounds (readings_of s.who past) stands.bounds (readings_before s.who s.t past before)

-- ---- what a step that may follow finds

-- the fourth and the fifth of six conditions, where all are met
fourth : (a b c d e : Bool) (t x y z u : Cause) (rest : Option Cause) → cond a (cond b (cond c (cond d (cond e rest (Some u)) (Some z)) (Some y)) (Some x)) (Some t) ≡ None → d ≡ true
fourth a b c d e t x y z u rest none = met_first d z (cond e rest (Some u)) (met_rest c y _ (met_rest b x _ (met_rest a t _ none)))

fifth : (a b c d e : Bool) (t x y z u : Cause) (rest : Option Cause) → cond a (cond b (cond c (cond d (cond e rest (Some u)) (Some z)) (Some y)) (Some x)) (Some t) ≡ None → e ≡ true
fifth a b c d e t x y z u rest none = met_first e u rest (met_rest d z _ (met_rest c y _ (met_rest b x _ (met_rest a t _ none))))

-- a start, or a step of a process that runs
pub runs_before : (team : Team) (past : List Step) (p : Node) (s : Step) → NodeStandsFor team past s.who p → cause_of team (world team past).sent past s ≡ None → (is_start s.act || is_some p.core) ≡ true
runs_before team past p s stands none =
    ap (λ b. is_start s.act || b) (started_running team ((world team past).process_of s.who) p.core stands.running ∙ sym (running_is team past s.who))
    ∙ fourth (list_all (λ (e : Step). nat_le e.t s.t) past) (each_own (λ e. keeps_drift team.ppm e.t e.h s.t s.h) s.who past) (not (is_start s.act) || may_start past s) (is_start s.act || is_running s.who past)
    (may_receive (world team past).sent s s.act) causes.Time causes.Drift causes.Start causes.NotRunning causes.NoDatagram (cond (holds_time s s.act) None (Some causes.Reference)) none

pub received_before : (team : Team) (sent : List Dispatch) (past : List Step) (s : Step) → cause_of team sent past s ≡ None → may_receive sent s s.act ≡ true
received_before team sent past s none =
    fifth (list_all (λ (e : Step). nat_le e.t s.t) past) (each_own (λ e. keeps_drift team.ppm e.t e.h s.t s.h) s.who past) (not (is_start s.act) || may_start past s) (is_start s.act || is_running s.who past)
    (may_receive sent s s.act) causes.Time causes.Drift causes.Start causes.NotRunning causes.NoDatagram (cond (holds_time s s.act) None (Some causes.Reference)) none

-- a process's readings do not come after one that keeps the drift
not_after : (ppm : ℕ) (who : ℕ) (t h : ℕ) (past : List Step) → each_own (λ e. keeps_drift ppm e.t e.h t h) who past ≡ true → each_own (λ e. nat_le e.h h) who past ≡ true
not_after ppm who t h [] all = refl
not_after ppm who t h (e ∷ past) all =
    both _ _ (own (not (nat_eq e.who who)) (and_parts _ _ all).0) (not_after ppm who t h past (and_parts _ _ all).1)
  where
    own : (other : Bool) → (other || keeps_drift ppm e.t e.h t h) ≡ true → (other || nat_le e.h h) ≡ true
    own true k = refl
    own false k = (and_parts (nat_le e.h h) _ (and_parts _ _ k).0).0

keeps_the_drift : (team : Team) (sent : List Dispatch) (past : List Step) (s : Step) → cause_of team sent past s ≡ None → each_own (λ e. keeps_drift team.ppm e.t e.h s.t s.h) s.who past ≡ true
keeps_the_drift team sent past s none = met_first _ _ _ (met_rest (list_all (λ e. nat_le e.t s.t) past) _ _ none)

-- no earlier reading of a process is above that of a step that may follow
pub readings_not_above : (team : Team) (past : List Step) (s : Step) → cause_of team (world team past).sent past s ≡ None → AllByRecursion (λ (r : Reading). r.h ≤ s.h) (readings_of s.who past)
readings_not_above team past s none = readings_below s.who s.h past (not_after team.ppm s.who s.t s.h past (keeps_the_drift team (world team past).sent past s none))

-- what is known was given before
pub given_before : (team : Team) (past : List Step) (s : Step) (p : Option Process) → cause_of team (world team past).sent past s ≡ None → IsKnown s.who past p → NotBefore s.h p
given_before team past s p none known = known s.h (not_after team.ppm s.who s.t s.h past (keeps_the_drift team (world team past).sent past s none))

-- ---- what is kept after one more step

all_later : (h k : ℕ) (gs : List Given) → h ≤ k → AllByRecursion (λ (g : Given). g.h ≤ h) gs → AllByRecursion (λ (g : Given). g.h ≤ k) gs
all_later h k [] low all = tt
all_later h k (g ∷ gs) low all = (let first : g.h ≤ h = all.0 in omega arith, all_later h k gs low all.1)

later_not_before : (h k : ℕ) (q : Option Process) → h ≤ k → NotBefore h q → NotBefore k q
later_not_before h k None low known = tt
later_not_before h k (Some q) low known = all_later h k q.timing.clock.given low known

received_not_before : (team : Team) (h : ℕ) (p : Process) (o : Option Dispatch) → IsNotBefore h p.timing.clock → NotBefore h (receive team h o p).process
received_not_before team h p None known = known
received_not_before team h p (Some d) known = step_not_before team h (Packet (Ok d.datagram)) p known

deed_not_before : (team : Team) (who h : ℕ) (sent : List Dispatch) (act : Act) (p : Option Process) → NotBefore h p → NotBefore h (deed team who h sent act p).process
deed_not_before team who h sent First p known = tt
deed_not_before team who h sent Again p known = tt
deed_not_before team who h sent Crash p known = tt
deed_not_before team who h sent Tick None known = tt
deed_not_before team who h sent Tick (Some q) known = step_not_before team h TickEvent q known
deed_not_before team who h sent (Recv d) None known = tt
deed_not_before team who h sent (Recv d) (Some q) known = received_not_before team h q (numbered d sent) known
deed_not_before team who h sent (Send order atom payload) None known = tt
deed_not_before team who h sent (Send order atom payload) (Some q) known = step_not_before team h (SendEvent order atom payload.items) q known
deed_not_before team who h sent (Reference lo hi) None known = tt
deed_not_before team who h sent (Reference lo hi) (Some q) known = step_not_before team h (ReferenceEvent lo hi) q known
deed_not_before team who h sent Look None known = tt
deed_not_before team who h sent Look (Some q) known = known

known_later : (team : Team) (past : List Step) (s : Step) → NotBefore s.h ((world team past).process_of s.who) → IsKnown s.who (s ∷ past) (deed_in team (world team past) s).process
known_later team past s known = λ k all. later_not_before s.h k _ (below k all) (deed_not_before team s.who s.h (world team past).sent s.act ((world team past).process_of s.who) known)
  where
    below : (k : ℕ) → each_own (λ e. nat_le e.h k) s.who (s ∷ past) ≡ true → s.h ≤ k
    below k all = go (rw (same_number s.who) at (and_parts (not (nat_eq s.who s.who) || nat_le s.h k) _ all).0)
      where
        go : nat_le s.h k ≡ true → s.h ≤ k
        go e = grind (arith, nat_tests)

-- what is kept of the process that took the step
pub next_own : (team : Team) (past : List Step) (s : Step) (p q : Node) → NodeStandsFor team past s.who p → NotBefore s.h ((world team past).process_of s.who)
    → AreBoundsOf team.ppm q.bounds (record { t = s.t; h = s.h } ∷ readings_of s.who past) → q.started ≡ (p.started || is_start s.act) → RunsAs team q.core (deed_in team (world team past) s).process
    → NodeStandsFor team (s ∷ past) s.who q
next_own team past s p q stands known bounds started running = record {
  bounds = rw same bounds;
  started = rw same (started ∙ or_comm p.started (is_start s.act) ∙ ap (λ b. is_start s.act || b) stands.started);
  running = rw same running;
  known = λ k all. subst (λ (b : Bool). NotBefore k (cond b (deed_in team (world team past) s).process ((world team past).process_of s.who))) (sym same) (known_later team past s known k all);
}
  where
    same : nat_eq s.who s.who ≡ true
    same = same_number s.who

-- what is kept of another process
pub next_other : (team : Team) (past : List Step) (s : Step) (i : ℕ) (p : Node) → s.who ≢ i → NodeStandsFor team past i p → NodeStandsFor team (s ∷ past) i p
next_other team past s i p other stands = record {
  bounds = rw differs stands.bounds;
  started = rw differs stands.started;
  running = rw differs stands.running;
  known = rw differs (λ k all. stands.known k (and_parts (not false || nat_le s.h k) _ all).1);
}
  where
    differs : nat_eq s.who i ≡ false
    differs = other_number s.who i other
