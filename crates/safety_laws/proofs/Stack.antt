-- The induction of a law on groups: over the steps of a schedule, and inside a step over its effects. A law may cite an earlier
-- one before and after each effect; with it, it is a law again.
use Rattle.std.proofs.Common.{◌≡◌, ◌≢◌, ◌<◌, refl, sym, ap, subst, ◌∙◌, inl, inr, ℕ, zero, suc, Bool, true, false, cond, nat_eq, List, [], ◌∷◌, ◌++◌, map, Option, Some, None, Ok, Err, IfSome, length, ◌+◌}
use Rattle.std.proofs.lemmas.List.{append-nil}
use Rattle.tw_num.specs.Clock.{moment_at}
use Rattle.tw_num.specs.declared.moment.Moment.{Moment}
use Rattle.tw_machine.specs.Types.{Team, Datagram, Decision, Step, RowAnswer, Mode}
use Rattle.tw_types.specs.Team.{IsSound}
use Rattle.tw_types.specs.declared.step.Act.TheVariants.{Look}
use Rattle.tw_types.specs.declared.outputs.Mode.TheVariants as modes
use Rattle.tw_types.specs.Flag.{is_up}
use Rattle.tw_types.specs.Numbered.{numbered}
use Rattle.tw_types.specs.Process.{Process, started}
use Rattle.tw_machine.specs.Admissible.{is_start}
use Rattle.tw_machine.specs.ClockLaw.{IsNear}
use Rattle.tw_machine.specs.Dispatches.{Dispatch, sent_at}
use Rattle.tw_machine.specs.Event.{Event}
use Rattle.tw_machine.specs.History.{Up, life, up_on, up_by}
use Rattle.tw_machine.specs.Run.{Run, run_of}
use Rattle.tw_machine.specs.Standing.{last_decision}
use Rattle.tw_machine.specs.Step.{learnt_by, moment_of, ended_by, step, looked, view_of}
use Rattle.tw_machine.specs.World.{World, Deed, silent, happen, deed_in, world, Admissible}
use Rattle.tw_machine.proofs.Clocks.{reading_again}
use Rattle.tw_machine.proofs.Steps.{viewed_after}
use Rattle.tw_machine.proofs.Tables.{equal_numbers, same_number, other_number}
use Rattle.safety_laws.specs.Effects.{Written, State, Here, written, written_after, state_of, flagged, Change, Changes}
use Rattle.safety_laws.specs.Laws.{Law, Holds, no_law, Both}
use Rattle.tw_types.specs.Items.{In}
use Rattle.safety_laws.proofs.Induction.{Receives, earlier, start_by, Brings, Turn, turn}
use Rattle.safety_laws.proofs.ClockLaw.{timed, hears, may_read_now}
use Rattle.safety_laws.proofs.Timings.{ClockInvariant, clock_near, timed_still}
use Rattle.safety_laws.proofs.Lists.{in_first}
use Rattle.safety_laws.proofs.Effects.{IsRead, join}
use Rattle.safety_laws.proofs.Events.{mail_of, mail_is, event_row, look_row, read_is_greatest}

-- nothing was written down before the first step
abbrev nothing_written : Written
nothing_written = record { promises = []; makes = []; sends = []; lines = []; ups = []; sent = [] }

-- what is known of a step beside its effects: its process, its life, its clock, and that it received what was sent to it
pub record Stepping (team : Team) (past : List Step) (s : Step) (here : Here) : Type 0 where
  pub sound : IsSound team
  pub ok : Admissible team (s ∷ past)
  pub same_team : here.team ≡ team
  pub same_step : here.step ≡ s
  pub same_life : here.life ≡ life s.who (s ∷ past)
  pub same_row : here.row ≡ length past + 1
  pub hardware : here.now.h ≡ s.h
  pub near : IfSome here.now.reading (λ t. IsNear team.eps s.t t)

-- what is received stands among what was sent, to this process by one of the team
abbrev pub IsMailed : Here → Written → Type 0
IsMailed here w = (d : Datagram) → here.mail ≡ Some d → (k : Dispatch) × In k w.sent × (k.datagram ≡ d) × (k.to ≡ here.step.who) × (d.head.from < here.team.n)

-- What a law has to show that rests on an earlier one.
pub record RulesOver (team : Team) (earlier law : Law) : Type 1 where
  pub nothing : law.History [] nothing_written
  -- a step more, of which nothing is written down yet
  pub waits : (past : List Step) (s : Step) (w : Written) → IsSound team → Admissible team (s ∷ past) → earlier.History past w → law.History past w → law.History (s ∷ past) w
  pub remains : (past : List Step) (s : Step) (w : Written) (who : ℕ) (p : Process) → IsSound team → Admissible team (s ∷ past) → life who (s ∷ past) ≡ life who past
      → earlier.History past w → law.History past w → earlier.Running past w who p → law.Running past w who p → law.Running (s ∷ past) w who p
  -- a start
  pub begins : (past : List Step) (s : Step) (w : Written) (mode : Mode) → IsSound team → Admissible team (s ∷ past) → s.act ≡ start_by mode → life s.who (s ∷ past) ≡ suc (life s.who past)
      → earlier.History past w → law.History past w → law.Running (s ∷ past) w s.who (started s.who mode s.h)
  -- an effect
  pub changes : (past : List Step) (s : Step) (here : Here) (x y : State) → Stepping team past s here → IsMailed here x.written → Change here x y
      → Holds earlier (s ∷ past) (world team past) s.who x → Holds earlier (s ∷ past) (world team past) s.who y
      → Holds law (s ∷ past) (world team past) s.who x → Holds law (s ∷ past) (world team past) s.who y

-- a law that rests on none
abbrev pub LawRules : Team → Law → Type 1
LawRules team law = RulesOver team no_law law

-- ---- stacking

nothing_holds : (steps : List Step) (before : World) (who : ℕ) (x : State) → Holds no_law steps before who x
nothing_holds steps before who x = record { history = tt; own = tt; others = λ q p other runs. tt }

pub first_of : (a b : Law) (steps : List Step) (before : World) (who : ℕ) (x : State) → Holds (Both a b) steps before who x → Holds a steps before who x
first_of a b steps before who x k = record { history = k.history.0; own = k.own.0; others = λ q p other runs. (k.others q p other runs).0 }

pub second_of : (a b : Law) (steps : List Step) (before : World) (who : ℕ) (x : State) → Holds (Both a b) steps before who x → Holds b steps before who x
second_of a b steps before who x k = record { history = k.history.1; own = k.own.1; others = λ q p other runs. (k.others q p other runs).1 }

both_of : (a b : Law) (steps : List Step) (before : World) (who : ℕ) (x : State) → Holds a steps before who x → Holds b steps before who x → Holds (Both a b) steps before who x
both_of a b steps before who x j k = record { history = (j.history, k.history); own = (j.own, k.own); others = λ q p other runs. (j.others q p other runs, k.others q p other runs) }

-- A law whose effects may cite an earlier law before and after the effect is, joined with that law, a law.
pub stack : (team : Team) (earlier law : Law) → LawRules team earlier → RulesOver team earlier law → LawRules team (Both earlier law)
stack team earlier law first next = record {
  nothing = (first.nothing, next.nothing);
  waits = λ past s w sound ok none k. (first.waits past s w sound ok tt k.0, next.waits past s w sound ok k.0 k.1);
  remains = λ past s w who p sound ok same none h nobody k. (first.remains past s w who p sound ok same tt h.0 tt k.0, next.remains past s w who p sound ok same h.0 h.1 k.0 k.1);
  begins = λ past s w mode sound ok act more none k. (first.begins past s w mode sound ok act more tt k.0, next.begins past s w mode sound ok act more k.0 k.1);
  changes = λ past s here x y at mailed change none nobody k.
      let a = first.changes past s here x y at mailed change (nothing_holds (s ∷ past) (world team past) s.who x) (nothing_holds (s ∷ past) (world team past) s.who y) (first_of earlier law (s ∷ past) (world team past) s.who x k) in
      both_of earlier law (s ∷ past) (world team past) s.who y a
      (next.changes past s here x y at mailed change (first_of earlier law (s ∷ past) (world team past) s.who x k) a (second_of earlier law (s ∷ past) (world team past) s.who x k));
}

-- ---- inside a step

-- what is received stays among what was sent
sent_stays : (here : Here) (x y : State) → Change here x y → (k : Dispatch) → In k x.written.sent → In k y.written.sent
sent_stays here x y (Change.Keep c) k i = subst (In k) (sym c.sent) (in_first k x.written.sent (map (sent_at here.step.t) c.new) i)
sent_stays here x y (Change.Give c) k i = rw c.written i
sent_stays here x y (Change.Hold c) k i = rw c.written i
sent_stays here x y (Change.Take c) k i = rw c.written i
sent_stays here x y (Change.Make c) k i = rw c.written i
sent_stays here x y (Change.Deliver c) k i = rw c.written i
sent_stays here x y (Change.Raise c) k i = rw c.written i

mailed_still : (here : Here) (x y : State) → Change here x y → IsMailed here x.written → IsMailed here y.written
mailed_still here x y c mailed d is = let k = mailed d is in (k.0, sent_stays here x y c k.0 k.1, k.2, k.3, k.4)

record Reached (law : Law) (past : List Step) (s : Step) (before : World) (here : Here) (x : State) : Type 0 where
  mailed : IsMailed here x.written
  holds : Holds law (s ∷ past) before s.who x

along : (team : Team) (law : Law) (past : List Step) (s : Step) (here : Here) (x y : State) → LawRules team law → Stepping team past s here → Changes here x y → Reached law past s (world team past) here x → Reached law past s (world team past) here y
along team law past s here x y rules at Changes.Done k = k
along team law past s here x y rules at (Changes.Then {y = m} rest last) k =
    let before = along team law past s here x m rules at rest k in
    record {
      mailed = mailed_still here m y last before.mailed;
      holds = rules.changes past s here m y at before.mailed last (nothing_holds (s ∷ past) (world team past) s.who m) (nothing_holds (s ∷ past) (world team past) s.who y) before.holds;
    }

-- who is up has a reading, and a last decision
flag_row : (here : Here) (before : Written) (r : Run) → here.now.reading ≡ (view_of here.team here.step.h r.process).reading → IsRead here before r → Changes here (state_of here before r) (flagged here before r)
flag_row here before r same read = go (view_of here.team here.step.h r.process).up (view_of here.team here.step.h r.process).reading (last_decision r.process) refl refl refl
  where
    go : (up : Bool) (reading : Option ℕ) (last : Option Decision) → (view_of here.team here.step.h r.process).up ≡ up → (view_of here.team here.step.h r.process).reading ≡ reading → last_decision r.process ≡ last
        → Changes here (state_of here before r) (record { process = r.process; written = record (state_of here before r).written { ups = up_on here.life here.step r.process up reading last before.ups } })
    go true (Some t) (Some last) up reading is =
        let now : here.now.reading ≡ Some t = same ∙ reading in
        Changes.Then Changes.Done (Change.Raise (record {
          t = t;
          last = last;
          reading = now;
          read = read t now;
          last_is = is;
          up = subst (λ o. is_up here.team r.process.vote r.process.belief o ≡ true) reading up;
          process = refl;
          written = refl;
        }))
    go true (Some t) None up reading is = Changes.Done
    go true None last up reading is = Changes.Done
    go false reading last up is none = Changes.Done

-- ---- over the steps

-- a law's parts after all steps of a schedule
pub record Kept (team : Team) (law : Law) (past : List Step) : Type 0 where
  pub history : law.History past (written team past)
  pub running : (who : ℕ) (p : Process) → (world team past).process_of who ≡ Some p → law.Running past (written team past) who p

-- after a step: both parts, of the step's process and of the others
record After (team : Team) (law : Law) (past : List Step) (s : Step) (w : Written) (o : Option Process) : Type 0 where
  history : law.History (s ∷ past) w
  own : (p : Process) → o ≡ Some p → law.Running (s ∷ past) w s.who p
  others : (q : ℕ) (p : Process) → s.who ≢ q → (world team past).process_of q ≡ Some p → law.Running (s ∷ past) w q p

life_of_other : (past : List Step) (s : Step) (q : ℕ) → s.who ≢ q → life q (s ∷ past) ≡ life q past
life_of_other past s q other = rw (other_number s.who q other) refl

life_stays : (past : List Step) (s : Step) → is_start s.act ≡ false → life s.who (s ∷ past) ≡ life s.who past
life_stays past s none = rw (same_number s.who, none) refl

life_begins : (past : List Step) (s : Step) → is_start s.act ≡ true → life s.who (s ∷ past) ≡ suc (life s.who past)
life_begins past s starts = rw (same_number s.who, starts) refl

-- who just started isn't up
fresh_flag : (team : Team) (life : ℕ) (s : Step) (mode : Mode) (older : List Up) → up_by team life s (Some (started s.who mode s.h)) older ≡ older
unfolding is_up
fresh_flag team life s modes.First older = refl
fresh_flag team life s modes.Again older = refl

in_number : {X : Type 0} (xs : List X) (number : ℕ) (x : X) → numbered number xs ≡ Some x → In x xs
in_number xs zero x e = absurd (cc)
in_number [] (suc i) x e = absurd (cc)
in_number (y ∷ xs) (suc zero) x e = inl (cc)
in_number (y ∷ xs) (suc (suc i)) x e = inr (in_number xs (suc i) x e)

module _ (team : Team) (law : Law) (rules : LawRules team law) (past : List Step) (s : Step) (sound : IsSound team) (ok : Admissible team (s ∷ past)) (k : Kept team law past) where
  waited : law.History (s ∷ past) (written team past)
  waited = rules.waits past s (written team past) sound ok tt k.history

  other_waits : (q : ℕ) (p : Process) → s.who ≢ q → (world team past).process_of q ≡ Some p → law.Running (s ∷ past) (written team past) q p
  other_waits q p other runs = rules.remains past s (written team past) q p sound ok (life_of_other past s q other) tt k.history tt (k.running q p runs)

  -- where nothing was written down, and nobody runs or the process just started
  quiet : (v : Written) (o : Option Process) → v ≡ written team past → ((p : Process) → o ≡ Some p → law.Running (s ∷ past) (written team past) s.who p) → After team law past s v o
  quiet v o same own = rw same (record { history = waited; own = own; others = other_waits })

  -- where the process goes on from p to q by a row of effects
  goes_on : (here : Here) (p q : Process) (v : Written) → Stepping team past s here → (world team past).process_of s.who ≡ Some p → is_start s.act ≡ false
      → IsMailed here (state_of here (written team past) (run_of p)).written
      → Changes here (state_of here (written team past) (run_of p)) (record { process = q; written = v })
      → After team law past s v (Some q)
  goes_on here p q v at runs none mailed row =
      let start : (state_of here (written team past) (run_of p)).written ≡ written team past = ap (λ ds. record (written team past) { sent = ds }) (append-nil (written team past).sent) in
      let holds : Holds law (s ∷ past) (world team past) s.who (state_of here (written team past) (run_of p)) = record {
        history = rw start waited;
        own = rw start (rules.remains past s (written team past) s.who p sound ok (life_stays past s none) tt k.history tt (k.running s.who p runs));
        others = λ q r other runs. rw start (other_waits q r other runs);
      } in
      let end = along team law past s here (state_of here (written team past) (run_of p)) (record { process = q; written = v }) rules at row (record { mailed = mailed; holds = holds }) in
      record {
        history = end.holds.history;
        own = λ r e. let same_process : q ≡ r = cc in subst (law.Running (s ∷ past) v s.who) same_process end.holds.own;
        others = end.holds.others;
      }

  by_deed : (d : Deed) → deed_in team (world team past) s ≡ d → written team (s ∷ past) ≡ written_after team (length past + 1) (life s.who (s ∷ past)) s d (written team past)
  by_deed d comes = ap (λ (d : Deed). written_after team (length past + 1) (life s.who (s ∷ past)) s d (written team past)) comes

  nothing_sent : record (written team past) { sent = (written team past).sent ++ [] } ≡ written team past
  nothing_sent = ap (λ ds. record (written team past) { sent = ds }) (append-nil (written team past).sent)

  -- a start
  begun : (mode : Mode) → s.act ≡ start_by mode → deed_in team (world team past) s ≡ silent (Some (started s.who mode s.h)) RowAnswer.Start → After team law past s (written team (s ∷ past)) (Some (started s.who mode s.h))
  begun mode act comes =
      quiet (written team (s ∷ past)) (Some (started s.who mode s.h))
      (by_deed (silent (Some (started s.who mode s.h)) RowAnswer.Start) comes
      ∙ ap (λ us. record (written team past) { ups = us; sent = (written team past).sent ++ [] }) (fresh_flag team (life s.who (s ∷ past)) s mode (written team past).ups) ∙ nothing_sent)
      (λ p e. let same : started s.who mode s.h ≡ p = cc in
      subst (law.Running (s ∷ past) (written team past) s.who) same
      (rules.begins past s (written team past) mode sound ok act (life_begins past s (starts mode act)) tt k.history))
    where
      starts : (mode : Mode) → s.act ≡ start_by mode → is_start s.act ≡ true
      starts modes.First e = rw e refl
      starts modes.Again e = rw e refl

  -- a crash
  stopped : deed_in team (world team past) s ≡ silent None RowAnswer.Crash → After team law past s (written team (s ∷ past)) None
  stopped comes = quiet (written team (s ∷ past)) None (by_deed (silent None RowAnswer.Crash) comes ∙ nothing_sent) (λ p e. absurd (cc))

  -- the step of a process whose clock tells this, and that receives this
  here_with : Moment → Option Datagram → Here
  here_with now mail = record { team = team; step = s; life = life s.who (s ∷ past); row = length past + 1; now = now; mail = mail }

  -- a look
  seen : (p : Process) → (world team past).process_of s.who ≡ Some p → s.act ≡ Look → deed_in team (world team past) s ≡ silent (Some (looked team s.h p)) RowAnswer.Look → After team law past s (written team (s ∷ past)) (Some (looked team s.h p))
  unfolding here_with
  seen p runs act comes =
      let q : Process = looked team s.h p in
      let here : Here = here_with (moment_at team.ppm team.eps s.h p.timing.clock) None in
      let read : IsRead here (written team past) (run_of q) = λ t is. read_is_greatest team.ppm team.eps s.h t p.timing.clock is in
      let row = look_row here (written team past) p in
      let flag = flag_row here (written team past) (run_of q) (sym (reading_again team.ppm team.eps s.h p.timing.clock)) read in
      let end = join here (written team past) _ _ _ row flag in
      let at : Stepping team past s here = record {
        sound = sound;
        ok = ok;
        same_team = refl;
        same_step = refl;
        same_life = refl;
        same_row = refl;
        hardware = refl;
        near = clock_near team s.who (s ∷ past) p.timing.clock s.t s.h (waited_clock p runs) (may_read_now team past s ok);
      } in
      rw (by_deed (silent (Some q) RowAnswer.Look) comes) (goes_on here p q (written_after team (length past + 1) (life s.who (s ∷ past)) s (silent (Some q) RowAnswer.Look) (written team past)) at runs (rw act refl) (λ d e. absurd (cc)) end)
    where
      waited_clock : (p : Process) → (world team past).process_of s.who ≡ Some p → ClockInvariant team s.who (s ∷ past) p.timing.clock
      waited_clock p runs = (timed_still team past s s.who p.timing ((timed team past sound (earlier team past s ok)).running s.who p runs).timing).reads

  -- an event
  happened : (e : Event) (p : Process) → (world team past).process_of s.who ≡ Some p → Brings team past s e → deed_in team (world team past) s ≡ happen team s.h e p → After team law past s (written team (s ∷ past)) (Some (step team s.h e p).process)
  unfolding here_with step
  happened e p runs brings comes =
      let r : Run = ended_by team s.h e p in
      let here : Here = here_with (moment_of team s.h e p) (mail_of team s.h e p) in
      let row = event_row here (written team past) e p refl refl in
      let flag = flag_row here (written team past) r (sym (viewed_after team s.h e p)) row.read in
      let end = join here (written team past) _ _ _ row.changes flag in
      let before = timed team past sound (earlier team past s ok) in
      let well = hears team past s e p sound.drift ok before.history brings (before.running s.who p runs) in
      let at : Stepping team past s here = record {
        sound = sound;
        ok = ok;
        same_team = refl;
        same_step = refl;
        same_life = refl;
        same_row = refl;
        hardware = refl;
        near = clock_near team s.who (s ∷ past) (learnt_by team s.h e p).timing.clock s.t s.h well.timing.reads (may_read_now team past s ok);
      } in
      rw (by_deed (happen team s.h e p) comes) (goes_on here p r.process (written_after team (length past + 1) (life s.who (s ∷ past)) s (happen team s.h e p) (written team past)) at runs (no_start e brings) mailed end)
    where
      no_start : (e : Event) → Brings team past s e → is_start s.act ≡ false
      no_start Event.Tick act = rw act refl
      no_start (Event.Packet (Err fault)) none = absurd none
      no_start (Event.Packet (Ok d)) got = let act = got.receipt.received in rw act refl
      no_start (Event.Reference lo hi) got = let act = got.0 in rw act refl
      no_start (Event.Send order atom payload) act = rw act refl

      mailed : IsMailed (here_with (moment_of team s.h e p) (mail_of team s.h e p)) (state_of (here_with (moment_of team s.h e p) (mail_of team s.h e p)) (written team past) (run_of p)).written
      mailed d is =
          let k = mail_is team s.h e p d is in
          let got : Receives team past s d = subst (Brings team past s) k.packet brings in
          (got.dispatch, in_first got.dispatch (written team past).sent [] (in_number (written team past).sent got.receipt.number got.dispatch got.receipt.sent), sym got.is, got.to, k.from)

  after_turn : Turn team past s (deed_in team (world team past) s) → After team law past s (written team (s ∷ past)) (deed_in team (world team past) s).process
  after_turn (Turn.Starts mode act comes) = subst (λ o. After team law past s (written team (s ∷ past)) o) (ap (λ (d : Deed). d.process) (sym comes)) (begun mode act comes)
  after_turn (Turn.Stops act comes) = subst (λ o. After team law past s (written team (s ∷ past)) o) (ap (λ (d : Deed). d.process) (sym comes)) (stopped comes)
  after_turn (Turn.Looks p runs act comes) = subst (λ o. After team law past s (written team (s ∷ past)) o) (ap (λ (d : Deed). d.process) (sym comes)) (seen p runs act comes)
  after_turn (Turn.Happens e p runs brings comes) = subst (λ o. After team law past s (written team (s ∷ past)) o) (ap (λ (d : Deed). d.process) (sym comes)) (happened e p runs brings comes)

  advanced : Kept team law (s ∷ past)
  advanced = record { history = end.history; running = λ who p. go who p (nat_eq s.who who) refl }
    where
      end : After team law past s (written team (s ∷ past)) (deed_in team (world team past) s).process
      end = after_turn (turn team past s ok)

      go : (who : ℕ) (p : Process) (b : Bool) → nat_eq s.who who ≡ b → cond b (deed_in team (world team past) s).process ((world team past).process_of who) ≡ Some p → law.Running (s ∷ past) (written team (s ∷ past)) who p
      go who p true e runs = subst (λ i. law.Running (s ∷ past) (written team (s ∷ past)) i p) (equal_numbers s.who who e) (end.own p runs)
      go who p false e runs = end.others who p (λ same. let t : nat_eq s.who who ≡ true = rw same (same_number who) in cc) runs

-- A law on groups holds of every admissible schedule.
pub law_holds : (team : Team) (law : Law) → LawRules team law → (past : List Step) → IsSound team → Admissible team past → Kept team law past
law_holds team law rules [] sound ok = record { history = rules.nothing; running = λ who p e. absurd (cc) }
law_holds team law rules (s ∷ past) sound ok = advanced team law rules past s sound ok (law_holds team law rules past sound (earlier team past s ok))

-- an earlier law that another one has in it
pub record IsPartOf (part whole : Law) : Type 0 where
  pub history : (steps : List Step) (w : Written) → whole.History steps w → part.History steps w
  pub running : (steps : List Step) (w : Written) (who : ℕ) (p : Process) → whole.Running steps w who p → part.Running steps w who p

pub part_holds : (part whole : Law) (steps : List Step) (before : World) (who : ℕ) (x : State) → IsPartOf part whole → Holds whole steps before who x → Holds part steps before who x
part_holds part whole steps before who x is k = record {
  history = is.history steps x.written k.history;
  own = is.running steps x.written who x.process k.own;
  others = λ q p other runs. is.running steps x.written q p (k.others q p other runs);
}

-- A law that rests on a part of what it may rest on.
pub rests_on : (team : Team) (part whole law : Law) → IsPartOf part whole → RulesOver team part law → RulesOver team whole law
rests_on team part whole law is rules = record {
  nothing = rules.nothing;
  waits = λ past s w sound ok before k. rules.waits past s w sound ok (is.history past w before) k;
  remains = λ past s w who p sound ok same before h own k. rules.remains past s w who p sound ok same (is.history past w before) h (is.running past w who p own) k;
  begins = λ past s w mode sound ok act more before k. rules.begins past s w mode sound ok act more (is.history past w before) k;
  changes = λ past s here x y at mailed change before after k.
      rules.changes past s here x y at mailed change (part_holds part whole (s ∷ past) (world team past) s.who x is before) (part_holds part whole (s ∷ past) (world team past) s.who y is after) k;
}

-- A law that rests on none may rest on any.
pub over_any : (team : Team) (earlier law : Law) → LawRules team law → RulesOver team earlier law
over_any team earlier law rules = rests_on team no_law earlier law (record { history = λ steps w k. tt; running = λ steps w who p k. tt }) rules

-- a law on what was written down alone
abbrev pub OfHistory : (Written → Type 0) → Law
OfHistory H = record { History = λ steps w. H w; Running = λ steps w who p. Unit {0} }

pub history_rules : (team : Team) (earlier : Law) (H : Written → Type 0) → H nothing_written
    → ((past : List Step) (s : Step) (here : Here) (x y : State) → Stepping team past s here → Change here x y → Holds earlier (s ∷ past) (world team past) s.who x → Holds earlier (s ∷ past) (world team past) s.who y → H x.written → H y.written)
    → RulesOver team earlier (OfHistory H)
history_rules team earlier H none changes = record {
  nothing = none;
  waits = λ past s w sound ok before k. k;
  remains = λ past s w who p sound ok same before h own k. tt;
  begins = λ past s w mode sound ok act more before k. tt;
  changes = λ past s here x y at mailed change before after k. record { history = changes past s here x y at change before after k.history; own = tt; others = λ q p other runs. tt };
}

-- the same law with its parts under other names
pub record IsSameLaw (a b : Law) : Type 0 where
  pub history : (steps : List Step) (w : Written) → a.History steps w → b.History steps w
  pub history_back : (steps : List Step) (w : Written) → b.History steps w → a.History steps w
  pub running : (steps : List Step) (w : Written) (who : ℕ) (p : Process) → a.Running steps w who p → b.Running steps w who p
  pub running_back : (steps : List Step) (w : Written) (who : ℕ) (p : Process) → b.Running steps w who p → a.Running steps w who p

renamed_holds : (a b : Law) (steps : List Step) (before : World) (who : ℕ) (x : State) → IsSameLaw a b → Holds a steps before who x → Holds b steps before who x
renamed_holds a b steps before who x same k = record {
  history = same.history steps x.written k.history;
  own = same.running steps x.written who x.process k.own;
  others = λ q p other runs. same.running steps x.written q p (k.others q p other runs);
}

renamed_back : (a b : Law) → IsSameLaw a b → IsSameLaw b a
renamed_back a b same = record { history = same.history_back; history_back = same.history; running = same.running_back; running_back = same.running }

pub renamed : (team : Team) (a b : Law) → IsSameLaw a b → LawRules team a → LawRules team b
renamed team a b same rules = record {
  nothing = same.history [] nothing_written rules.nothing;
  waits = λ past s w sound ok none k. same.history (s ∷ past) w (rules.waits past s w sound ok tt (same.history_back past w k));
  remains = λ past s w who p sound ok same_life none h nobody k. same.running (s ∷ past) w who p (rules.remains past s w who p sound ok same_life tt (same.history_back past w h) tt (same.running_back past w who p k));
  begins = λ past s w mode sound ok act more none k. same.running (s ∷ past) w s.who (started s.who mode s.h) (rules.begins past s w mode sound ok act more tt (same.history_back past w k));
  changes = λ past s here x y at mailed change none nobody k.
      renamed_holds a b (s ∷ past) (world team past) s.who y same
      (rules.changes past s here x y at mailed change none nobody (renamed_holds b a (s ∷ past) (world team past) s.who x (renamed_back a b same) k));
}
