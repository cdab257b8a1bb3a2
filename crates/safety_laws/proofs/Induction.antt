-- The induction over the steps of a schedule, for any invariant.
use Rattle.std.proofs.Common.{◌≡◌, ◌≢◌, refl, sym, ap, subst, ◌∙◌, ℕ, Bool, true, false, not, ◌||◌, cond, nat_eq, is_some, List, [], ◌∷◌, Option, Some, None, Ok, Err, arith}
use Rattle.std.specs.Prelude.{nat_le}
use Rattle.std.specs.List.{list_all, AllByRecursion}
use Rattle.std.proofs.lemmas.Bool.Decides.{nat_tests}
use Rattle.std.proofs.lemmas.Option.{same_Some}
use Rattle.tw_types.specs.Numbered.{numbered}
use Rattle.tw_machine.specs.Types.{Team, Datagram, Cause, Act, Step, RowAnswer, Mode, Reason}
use Rattle.tw_types.specs.declared.step.Act.TheVariants.{First, Again, Crash, Tick, Recv, Send, Reference, Look}
use Rattle.tw_types.specs.declared.outputs.Mode.TheVariants as modes
use Rattle.tw_num.specs.Interval.{Holds}
use Rattle.tw_types.specs.Process.{Process, started}
use Rattle.tw_machine.specs.Admissible.{Condition, conditions, first_unmet, cause_of, keeps_drift, is_start, is_running, runs_after, may_start, was_sent_to, may_receive, holds_time, each_own}
use Rattle.tw_machine.specs.Event.{Event}
use Rattle.tw_machine.specs.Step.{step, looked}
use Rattle.tw_machine.specs.Dispatches.{Dispatch}
use Rattle.tw_machine.specs.World.{Deed, silent, happen, receive, deed, deed_in, world, Admissible}
use Rattle.safety_laws.specs.Clocks.{IsReceipt}
use Rattle.tw_machine.proofs.Tables.{equal_numbers, same_number}

-- an admissible schedule without its last step, and that step
pub earlier : (team : Team) (past : List Step) (s : Step) → Admissible team (s ∷ past) → Admissible team past
earlier team past s ok = ok.0

pub follows : (team : Team) (past : List Step) (s : Step) → Admissible team (s ∷ past) → cause_of team (world team past).sent past s ≡ None
follows team past s ok = ok.1

-- what a step that may follow meets

first_met : (c : Condition) (rest : Option Cause) → cond c.met rest (Some c.cause) ≡ None → (c.met ≡ true) × (rest ≡ None)
first_met c rest none = go c.met none
  where
    go : (b : Bool) → cond b rest (Some c.cause) ≡ None → (b ≡ true) × (rest ≡ None)
    go true e = (refl, e)
    go false e = absurd (cc)

all_met : (cs : List Condition) → first_unmet cs ≡ None → AllByRecursion (λ (c : Condition). c.met ≡ true) cs
all_met [] none = tt
all_met (c ∷ cs) none = let first = first_met c (first_unmet cs) none in (first.0, all_met cs first.1)

-- the conditions, by name
pub record Meets (team : Team) (past : List Step) (s : Step) : Type 0 where
  pub time : list_all (λ (e : Step). nat_le e.t s.t) past ≡ true
  pub drift : each_own (λ e. keeps_drift team.ppm e.t e.h s.t s.h) s.who past ≡ true
  pub start : (not (is_start s.act) || may_start past s) ≡ true
  pub runs : (is_start s.act || is_running s.who past) ≡ true
  pub datagram : may_receive (world team past).sent s s.act ≡ true
  pub reference : holds_time s s.act ≡ true

pub meets : (team : Team) (past : List Step) (s : Step) → cause_of team (world team past).sent past s ≡ None → Meets team past s
meets team past s none =
    let met = all_met (conditions team (world team past).sent past s) none in
    record { time = met.0; drift = met.1.0; start = met.1.1.0; runs = met.1.1.1.0; datagram = met.1.1.1.1.0; reference = met.1.1.1.1.1.0 }

-- a process runs in the world exactly where it was started and didn't crash since

receive_runs : (team : Team) (h : ℕ) (d : Option Dispatch) (p : Process) → is_some (receive team h d p).process ≡ true
receive_runs team h None p = refl
receive_runs team h (Some d) p = refl

deed_runs : (team : Team) (who h : ℕ) (sent : List Dispatch) (act : Act) (o : Option Process) → is_some (deed team who h sent act o).process ≡ runs_after act (is_some o)
deed_runs team who h sent First o = refl
deed_runs team who h sent Again o = refl
deed_runs team who h sent Crash o = refl
deed_runs team who h sent Tick None = refl
deed_runs team who h sent Tick (Some p) = refl
deed_runs team who h sent (Recv d) None = refl
deed_runs team who h sent (Recv d) (Some p) = receive_runs team h (numbered d sent) p
deed_runs team who h sent (Send order atom payload) None = refl
deed_runs team who h sent (Send order atom payload) (Some p) = refl
deed_runs team who h sent (Reference lo hi) None = refl
deed_runs team who h sent (Reference lo hi) (Some p) = refl
deed_runs team who h sent Look None = refl
deed_runs team who h sent Look (Some p) = refl

runs_in_world : (team : Team) (past : List Step) (who : ℕ) → is_some ((world team past).process_of who) ≡ is_running who past
runs_in_world team [] who = refl
runs_in_world team (s ∷ past) who = go (nat_eq s.who who) refl (runs_in_world team past s.who) (runs_in_world team past who)
  where
    go : (b : Bool) → nat_eq s.who who ≡ b → is_some ((world team past).process_of s.who) ≡ is_running s.who past → is_some ((world team past).process_of who) ≡ is_running who past →
        is_some (cond b (deed_in team (world team past) s).process ((world team past).process_of who)) ≡ cond b (runs_after s.act (is_running who past)) (is_running who past)
    go true e own other =
        let same : s.who ≡ who = equal_numbers s.who who e in
        deed_runs team s.who s.h (world team past).sent s.act ((world team past).process_of s.who) ∙ ap (runs_after s.act) (own ∙ ap (λ i. is_running i past) same)
    go false e own other = other

-- what a step comes to

abbrev pub start_by : Mode → Act
start_by modes.First = First
start_by modes.Again = Again

-- a datagram that reaches the process of a step
pub record Receives (team : Team) (past : List Step) (s : Step) (d : Datagram) : Type 0 where
  pub dispatch : Dispatch
  pub receipt : IsReceipt team past s dispatch
  pub to : dispatch.to ≡ s.who
  pub is : d ≡ dispatch.datagram

-- the step brings its process this event
abbrev pub Brings : Team → List Step → Step → Event → Type 0
Brings team past s Event.Tick = s.act ≡ Tick
Brings team past s (Event.Packet (Err fault)) = ⊥
Brings team past s (Event.Packet (Ok d)) = Receives team past s d
Brings team past s (Event.Reference lo hi) = (s.act ≡ Reference lo hi) × Holds (record { lo = lo; hi = hi }) s.t
Brings team past s (Event.Send order atom payload) = s.act ≡ Send order atom (record { items = payload })

-- A process starts, stops, is looked at, or an event happens to it.
pub data Turn (team : Team) (past : List Step) (s : Step) (d : Deed) : Type 0 where
  Starts : (mode : Mode) → s.act ≡ start_by mode → d ≡ silent (Some (started s.who mode s.h)) RowAnswer.Start → Turn team past s d
  Stops : s.act ≡ Crash → d ≡ silent None RowAnswer.Crash → Turn team past s d
  Looks : (p : Process) → (world team past).process_of s.who ≡ Some p → s.act ≡ Look → d ≡ silent (Some (looked team s.h p)) RowAnswer.Look → Turn team past s d
  Happens : (e : Event) (p : Process) → (world team past).process_of s.who ≡ Some p → Brings team past s e → d ≡ happen team s.h e p → Turn team past s d

-- an answer that tells neither of a send nor of what was refused
abbrev IsMute : RowAnswer → Type 0
IsMute answer = ((seq : ℕ) → answer ≢ RowAnswer.Sent seq) × ((why : Reason) → answer ≢ RowAnswer.Dropped why)

-- What holds of each event, and wherever a step only starts, stops or looks at a process, holds of each turn.
pub by_turn : (team : Team) (past : List Step) (s : Step) (P : Deed → Type 0) (d : Deed) → Turn team past s d
    → ((answer : RowAnswer) → IsMute answer → P (silent None answer)) → ((p : Process) (answer : RowAnswer) → IsMute answer → P (silent (Some p) answer))
    → ((e : Event) (p : Process) → (world team past).process_of s.who ≡ Some p → Brings team past s e → P (happen team s.h e p)) → P d
by_turn team past s P d (Turn.Starts mode act comes) none some happens = subst P (sym comes) (some (started s.who mode s.h) RowAnswer.Start ((λ seq e. absurd (cc)), (λ why e. absurd (cc))))
by_turn team past s P d (Turn.Stops act comes) none some happens = subst P (sym comes) (none RowAnswer.Crash ((λ seq e. absurd (cc)), (λ why e. absurd (cc))))
by_turn team past s P d (Turn.Looks p runs act comes) none some happens = subst P (sym comes) (some (looked team s.h p) RowAnswer.Look ((λ seq e. absurd (cc)), (λ why e. absurd (cc))))
by_turn team past s P d (Turn.Happens e p runs brings comes) none some happens = subst P (sym comes) (happens e p runs brings)

sent_to : (who : ℕ) (o : Option Dispatch) (d : Dispatch) → was_sent_to who o ≡ true → o ≡ Some d → d.to ≡ who
sent_to who None d test e = absurd (cc)
sent_to who (Some x) d test e = let same : x ≡ d = same_Some x d e in let is : x.to ≡ who = equal_numbers x.to who test in cc

-- what a step receives was sent to its process
pub receipt_to : (team : Team) (past : List Step) (s : Step) (d : Dispatch) → Meets team past s → IsReceipt team past s d → d.to ≡ s.who
receipt_to team past s d met got =
    let test : may_receive (world team past).sent s (Recv got.number) ≡ true = ap (may_receive (world team past).sent s) (sym got.received) ∙ met.datagram in
    sent_to s.who (numbered got.number (world team past).sent) d test got.sent

found : (team : Team) (past : List Step) (s : Step) (number : ℕ) (o : Option Dispatch) → s.act ≡ Recv number → numbered number (world team past).sent ≡ o → was_sent_to s.who o ≡ true → (d : Dispatch) × IsReceipt team past s d × (d.to ≡ s.who)
found team past s number None act e test = absurd (cc)
found team past s number (Some d) act e test = (d, record { number = number; received = act; sent = e }, equal_numbers d.to s.who test)

-- and each step that receives has a datagram that was sent
pub received : (team : Team) (past : List Step) (s : Step) (number : ℕ) → Meets team past s → s.act ≡ Recv number → (d : Dispatch) × IsReceipt team past s d × (d.to ≡ s.who)
received team past s number met act = found team past s number (numbered number (world team past).sent) act refl (ap (may_receive (world team past).sent s) (sym act) ∙ met.datagram)

-- the datagram that a step receives is the event that it brings
receipt : (team : Team) (past : List Step) (s : Step) (number : ℕ) (p : Process) (o : Option Dispatch) → (world team past).process_of s.who ≡ Some p → s.act ≡ Recv number → numbered number (world team past).sent ≡ o → was_sent_to s.who o ≡ true → Turn team past s (receive team s.h o p)
receipt team past s number p None runs act e test = absurd (cc)
receipt team past s number p (Some d) runs act e test =
    Turn.Happens (Event.Packet (Ok d.datagram)) p runs (record { dispatch = d; receipt = record { number = number; received = act; sent = e }; to = equal_numbers d.to s.who test; is = refl }) refl

turn_of : (team : Team) (past : List Step) (s : Step) (act : Act) (o : Option Process) → s.act ≡ act → (world team past).process_of s.who ≡ o → (is_start act || is_some o) ≡ true → may_receive (world team past).sent s act ≡ true → holds_time s act ≡ true → Turn team past s (deed team s.who s.h (world team past).sent act o)
turn_of team past s First o same own runs got holds = Turn.Starts modes.First same refl
turn_of team past s Again o same own runs got holds = Turn.Starts modes.Again same refl
turn_of team past s Crash o same own runs got holds = Turn.Stops same refl
turn_of team past s Tick None same own runs got holds = absurd (cc)
turn_of team past s Tick (Some p) same own runs got holds = Turn.Happens Event.Tick p own same refl
turn_of team past s (Recv d) None same own runs got holds = absurd (cc)
turn_of team past s (Recv d) (Some p) same own runs got holds = receipt team past s d p (numbered d (world team past).sent) own same refl got
turn_of team past s (Send order atom payload) None same own runs got holds = absurd (cc)
turn_of team past s (Send order atom payload) (Some p) same own runs got holds = Turn.Happens (Event.Send order atom payload.items) p own same refl
turn_of team past s (Reference lo hi) None same own runs got holds = absurd (cc)
turn_of team past s (Reference lo hi) (Some p) same own runs got holds =
    Turn.Happens (Event.Reference lo hi) p own (same, record { from = grind (arith, nat_tests); to = grind (arith, nat_tests) }) refl
turn_of team past s Look None same own runs got holds = absurd (cc)
turn_of team past s Look (Some p) same own runs got holds = Turn.Looks p own same refl

pub turn : (team : Team) (past : List Step) (s : Step) → Admissible team (s ∷ past) → Turn team past s (deed_in team (world team past) s)
turn team past s ok =
    let met = meets team past s (follows team past s ok) in
    let runs : (is_start s.act || is_some ((world team past).process_of s.who)) ≡ true = ap (λ b. is_start s.act || b) (runs_in_world team past s.who) ∙ met.runs in
    turn_of team past s s.act ((world team past).process_of s.who) refl refl runs met.datagram met.reference

-- An invariant has a part about what happened, and one about each process that runs.
pub record Invariant (team : Team) (H : List Step → Type 0) (Q : List Step → ℕ → Process → Type 0) (past : List Step) : Type 0 where
  pub history : H past
  pub running : (who : ℕ) (p : Process) → (world team past).process_of who ≡ Some p → Q past who p

-- What a law has to show of its parts: both hold at the start, each turn of a process keeps the history's part and its own, and
-- the others keep theirs. At each step the laws that were shown before may be cited for the past, and for the past with the step.
pub record Rules (team : Team) (H : List Step → Type 0) (Q : List Step → ℕ → Process → Type 0) : Type 0 where
  pub nothing : H []
  pub starts : (past : List Step) (s : Step) (mode : Mode) → Admissible team (s ∷ past) → Invariant team H Q past → s.act ≡ start_by mode →
      deed_in team (world team past) s ≡ silent (Some (started s.who mode s.h)) RowAnswer.Start → H (s ∷ past) × Q (s ∷ past) s.who (started s.who mode s.h)
  pub stops : (past : List Step) (s : Step) → Admissible team (s ∷ past) → Invariant team H Q past → s.act ≡ Crash →
      deed_in team (world team past) s ≡ silent None RowAnswer.Crash → H (s ∷ past)
  pub looks : (past : List Step) (s : Step) (p : Process) → Admissible team (s ∷ past) → Invariant team H Q past → (world team past).process_of s.who ≡ Some p → s.act ≡ Look →
      deed_in team (world team past) s ≡ silent (Some (looked team s.h p)) RowAnswer.Look → H (s ∷ past) × Q (s ∷ past) s.who (looked team s.h p)
  pub happens : (past : List Step) (s : Step) (e : Event) (p : Process) → Admissible team (s ∷ past) → Invariant team H Q past → (world team past).process_of s.who ≡ Some p → Brings team past s e →
      deed_in team (world team past) s ≡ happen team s.h e p → H (s ∷ past) × Q (s ∷ past) s.who (step team s.h e p).process
  pub others : (past : List Step) (s : Step) → Admissible team (s ∷ past) → Invariant team H Q past → H (s ∷ past) →
      (who : ℕ) (p : Process) → s.who ≢ who → (world team past).process_of who ≡ Some p → Q (s ∷ past) who p

-- both parts after a turn, for the process of the step alone
record Acted (H : List Step → Type 0) (Q : List Step → ℕ → Process → Type 0) (past : List Step) (s : Step) (d : Deed) : Type 0 where
  history : H (s ∷ past)
  own : (p : Process) → d.process ≡ Some p → Q (s ∷ past) s.who p

only : (P : Process → Type 0) (o : Option Process) (p q : Process) → P p → o ≡ Some p → o ≡ Some q → P q
only P o p q holds e f = subst P (same_Some p q (sym e ∙ f)) holds

acted : (team : Team) (H : List Step → Type 0) (Q : List Step → ℕ → Process → Type 0) (past : List Step) (s : Step) → Rules team H Q → Admissible team (s ∷ past) → Invariant team H Q past → Turn team past s (deed_in team (world team past) s) → Acted H Q past s (deed_in team (world team past) s)
acted team H Q past s rules ok before (Turn.Starts mode act comes) =
    let both = rules.starts past s mode ok before act comes in
    record { history = both.0; own = λ q e. only (Q (s ∷ past) s.who) (deed_in team (world team past) s).process (started s.who mode s.h) q both.1 (ap (λ (d : Deed). d.process) comes) e }
acted team H Q past s rules ok before (Turn.Stops act comes) =
    record { history = rules.stops past s ok before act comes; own = λ q e. let none : None ≡ Some q = sym (ap (λ (d : Deed). d.process) comes) ∙ e in absurd (cc) }
acted team H Q past s rules ok before (Turn.Looks p runs act comes) =
    let both = rules.looks past s p ok before runs act comes in
    record { history = both.0; own = λ q e. only (Q (s ∷ past) s.who) (deed_in team (world team past) s).process (looked team s.h p) q both.1 (ap (λ (d : Deed). d.process) comes) e }
acted team H Q past s rules ok before (Turn.Happens event p runs brings comes) =
    let both = rules.happens past s event p ok before runs brings comes in
    record { history = both.0; own = λ q e. only (Q (s ∷ past) s.who) (deed_in team (world team past) s).process (step team s.h event p).process q both.1 (ap (λ (d : Deed). d.process) comes) e }

advanced : (team : Team) (H : List Step → Type 0) (Q : List Step → ℕ → Process → Type 0) (past : List Step) (s : Step) → Rules team H Q → Admissible team (s ∷ past) → Invariant team H Q past → Invariant team H Q (s ∷ past)
advanced team H Q past s rules ok before = record { history = own.history; running = λ who p. go who p (nat_eq s.who who) refl }
  where
    own : Acted H Q past s (deed_in team (world team past) s)
    own = acted team H Q past s rules ok before (turn team past s ok)

    go : (who : ℕ) (p : Process) (b : Bool) → nat_eq s.who who ≡ b → cond b (deed_in team (world team past) s).process ((world team past).process_of who) ≡ Some p → Q (s ∷ past) who p
    go who p true e runs = subst (λ i. Q (s ∷ past) i p) (equal_numbers s.who who e) (own.own p runs)
    go who p false e runs = rules.others past s ok before own.history who p (λ same. let t : nat_eq s.who who ≡ true = rw same (same_number who) in cc) runs

-- A law's parts hold of every admissible schedule.
pub holds : (team : Team) (H : List Step → Type 0) (Q : List Step → ℕ → Process → Type 0) → Rules team H Q → (past : List Step) → Admissible team past → Invariant team H Q past
holds team H Q rules [] ok = record { history = rules.nothing; running = λ who p e. absurd (cc) }
holds team H Q rules (s ∷ past) ok = advanced team H Q past s rules ok (holds team H Q rules past (earlier team past s ok))
