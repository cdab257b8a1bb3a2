-- What an act makes of a process, and what is seen of it then.
use Rattle.std.proofs.Common.{◌≡◌, refl, sym, ap, subst, ◌∙◌, ℕ, true, false, List, [], Option, Some, None, IsSome, Ok}
use Rattle.std.specs.Option.{option_map, option_map_or}
use Rattle.tw_num.specs.Clock.{IsNotBefore}
use Rattle.tw_machine.specs.Types.{Team, Datagram, View, Outputs, RowAnswer, Act}
use Rattle.tw_types.specs.declared.outputs.Mode.TheVariants as modes
use Rattle.tw_types.specs.declared.step.Act.TheVariants.{First, Again, Crash, Tick, Recv, Send, Reference, Look}
use Rattle.tw_types.specs.Outputs.{nothing}
use Rattle.tw_types.specs.Process.{Process, started}
use Rattle.tw_types.specs.Ranges.{DatagramFits}
use Rattle.tw_types.specs.Spelling.{spelling}
use Rattle.tw_types.specs.Numbered.{numbered}
use Rattle.tw_machine.specs.Dispatches.{Dispatch}
use Rattle.tw_machine.specs.Admissible.{runs_after, was_sent_to}
use Rattle.tw_machine.specs.Event.{Event, Packet}
use Rattle.tw_types.specs.Beliefs.{log_length}
use Rattle.tw_types.specs.Decisions.{or_none}
use Rattle.tw_types.specs.Flag.{is_up}
use Rattle.tw_machine.specs.Standing.{last_decision}
use Rattle.tw_machine.specs.Step.{step, looked, view_of}
use Rattle.app_table.specs.Table.{Entry}
use Rattle.tw_machine.specs.Applied.{table_of}
use Rattle.tw_machine.specs.Rows.{gone, entries_by}
use Rattle.tw_machine.specs.World.{Deed, happen, receive, deed}
use Rattle.tw_machine.proofs.Clocks.{reading_again}
use Rattle.tw_machine.proofs.Tables.{at_number}
use Rattle.tw_machine.proofs.Steps.{step_not_before, looked_after}
use Rattle.world.specs.declared.sent.Sent.{Sent}
use Rattle.world.specs.Datagrams.{datagrams, kept_as, WasSendable, SentStandsFor}
use Rattle.world.specs.Deeds.{is_look, RunsAs, NotBefore, IsReady, HasTaken, IsDone, IsDeed}
use Rattle.world.specs.Tables.{Running, Stands, entries_of}
use Rattle.world.proofs.Bytes.{numbered-map}

-- ---- acts

taken_done : (team : Team) (h : ℕ) (e : Event) (new : Running) (a : RowAnswer) (out : Outputs) (p : Process) → IsNotBefore h p.timing.clock → new.state.team ≡ team → HasTaken team h e new a out p
    → IsDone team h new a out (happen team h e p)
taken_done team h e new a out p known same taken = record {
  process = (step team h e p).process;
  running = (same, taken.process);
  known = step_not_before team h e p known;
  looked = ap Some (sym (looked_after team h e p));
  answer = taken.answer;
  out = taken.out;
}

-- a core that takes an event, for each process that it stands for
abbrev pub Takes : Running → ℕ → Event → Running → RowAnswer → Outputs → Type 0
Takes c h e new a out = (p : Process) → Stands c p → IsNotBefore h p.timing.clock → HasTaken c.state.team h e new a out p

-- an act that is this event of a running process
pub event_done : (team : Team) (who h : ℕ) (act : Act) (sent : List Dispatch) (c new : Running) (a : RowAnswer) (out : Outputs) (before : Option Process) (e : Event) → ((p : Process) → deed team who h sent act (Some p) ≡ happen team h e p)
    → RunsAs team (Some c) before × NotBefore h before × IsSome before → new.state.team ≡ c.state.team → Takes c h e new a out → IsDone team h new a out (deed team who h sent act before)
event_done team who h act sent c new a out None e is ready same takes = absurd (let r = ready.2 in cc)
event_done team who h act sent c new a out (Some p) e is ready same takes =
    subst (λ (d : Deed). IsDone team h new a out d) (sym (is p))
    (taken_done team h e new a out p ready.1 (same ∙ ready.0.0) (subst (λ (t : Team). HasTaken t h e new a out p) ready.0.0 (takes p ready.0.1 ready.1)))

-- the kept bytes of a datagram that was sent
kept_bytes : (team : Team) (kept : Sent) (sent : List Dispatch) (k : ℕ) (d : Dispatch) → SentStandsFor team kept sent → numbered k sent ≡ Some d → numbered k (datagrams kept) ≡ Some (kept_as team.line d)
kept_bytes team kept sent k d stands e = ap (numbered k) stands.spelled ∙ numbered-map (kept_as team.line) k sent ∙ ap (option_map (kept_as team.line)) e

-- a core that takes the bytes of a datagram
abbrev pub Receives : Team → Running → ℕ → List ℕ → Running → RowAnswer → Outputs → Type 0
Receives team c h bytes new a out = (d : Datagram) (p : Process) → DatagramFits team.n d → bytes ≡ spelling team.line d → c.state.team ≡ team → Stands c p → IsNotBefore h p.timing.clock
    → HasTaken team h (Packet (Ok d)) new a out p

pub receive_done : (team : Team) (who h k : ℕ) (act : Act) (kept : Sent) (sent : List Dispatch) (bytes : List ℕ) (c new : Running) (a : RowAnswer) (out : Outputs) (before : Option Process) → act ≡ Recv k
    → SentStandsFor team kept sent → was_sent_to who (numbered k sent) ≡ true → ((d : ℕ × List ℕ) → numbered k (datagrams kept) ≡ Some d → bytes ≡ d.1)
    → IsReady team who h act (Some c) before → new.state.team ≡ c.state.team → Receives team c h bytes new a out → IsDone team h new a out (deed team who h sent act before)
receive_done team who h k act kept sent bytes c new a out None is stands there found ready same takes = absurd (let r = rw is at ready in cc)
receive_done team who h k act kept sent bytes c new a out (Some p) is stands there found ready same takes = rw is (go (numbered k sent) refl there)
  where
    runs : RunsAs team (Some c) (Some p) × IsNotBefore h p.timing.clock
    runs = let r = rw is at ready in (r.0, r.1)

    go : (o : Option Dispatch) → numbered k sent ≡ o → was_sent_to who o ≡ true → IsDone team h new a out (receive team h o p)
    go None e w = absurd (cc)
    go (Some d) e w = taken_done team h (Packet (Ok d.datagram)) new a out p runs.1 (same ∙ runs.0.0)
        (takes d.datagram p (at_number (WasSendable team.n) sent k d stands.fits e).fits (found (kept_as team.line d) (kept_bytes team kept sent k d stands e)) runs.0.0 runs.0.1 runs.1)

pub start_done : (team : Team) (who h : ℕ) (act : Act) (sent : List Dispatch) (c : Running) (out : Outputs) (before : Option Process) → act ≡ First → IsReady team who h act (Some c) before → out ≡ nothing
    → IsDone team h c RowAnswer.Start out (deed team who h sent act before)
start_done team who h act sent c out before is ready gives = let r = rw is at ready in rw is (record {
  process = started who modes.First h;
  running = r;
  known = tt;
  looked = refl;
  answer = refl;
  out = gives;
})

pub look_done : (team : Team) (who h : ℕ) (act : Act) (sent : List Dispatch) (c : Running) (out : Outputs) (before : Option Process) → act ≡ Look → IsReady team who h act (Some c) before → out ≡ nothing
    → IsDone team h c RowAnswer.Look out (deed team who h sent act before)
look_done team who h act sent c out None is ready gives = absurd (let r = rw is at ready in cc)
look_done team who h act sent c out (Some p) is ready gives = let r = rw is at ready in rw is (record {
  process = p;
  running = r.0;
  known = r.1;
  looked = refl;
  answer = refl;
  out = gives;
})

-- of a process that crashes nothing runs, and the incarnation that is lost is seen
pub crash_done : (team : Team) (who h : ℕ) (act : Act) (sent : List Dispatch) (c : Running) (lost v : View) (a : RowAnswer) (out : Outputs) (before : Option Process) → runs_after act true ≡ false
    → IsReady team who h act (Some c) before → ((p : Process) → Stands c p → IsNotBefore h p.timing.clock → lost ≡ view_of c.state.team h p) → v ≡ gone lost.incarnation → a ≡ RowAnswer.Crash → out ≡ nothing
    → IsDeed team h None a v out before (deed team who h sent act before)
crash_done team who h First sent c lost v a out before ends ready view is crashed gives = absurd (cc)
crash_done team who h Again sent c lost v a out before ends ready view is crashed gives = absurd (cc)
crash_done team who h Tick sent c lost v a out before ends ready view is crashed gives = absurd (cc)
crash_done team who h (Recv d) sent c lost v a out before ends ready view is crashed gives = absurd (cc)
crash_done team who h (Send order atom payload) sent c lost v a out before ends ready view is crashed gives = absurd (cc)
crash_done team who h (Reference lo hi) sent c lost v a out before ends ready view is crashed gives = absurd (cc)
crash_done team who h Look sent c lost v a out before ends ready view is crashed gives = absurd (cc)
crash_done team who h Crash sent c lost v a out None ends ready view is crashed gives = absurd (let r = ready.2 in cc)
crash_done team who h Crash sent c lost v a out (Some p) ends ready view is crashed gives = record {
  running = tt;
  answer = crashed;
  view = is ∙ ap (λ (l : View). gone l.incarnation) (view p ready.0.1 ready.1);
  out = gives;
}

-- ---- the look that ends each step

pub seen : (team : Team) (h : ℕ) (c new : Running) (a : RowAnswer) (v : View) (out : Outputs) (before : Option Process) (d : Deed) → IsDone team h c a out d → new.state.team ≡ c.state.team
    → ((p : Process) → Stands c p → IsNotBefore h p.timing.clock → Stands new (looked c.state.team h p)) → ((p : Process) → Stands c p → IsNotBefore h p.timing.clock → v ≡ view_of c.state.team h p)
    → IsDeed team h (Some new) a v out before d
seen team h c new a v out before d done same stands view = record {
  running = rw done.looked (same ∙ done.running.0, subst (λ (t : Team). Stands new (looked t h done.process)) done.running.0 (stands done.process done.running.1 done.known));
  answer = done.answer;
  view = rw done.looked (subst (λ (t : Team). v ≡ view_of t h done.process) done.running.0 (view done.process done.running.1 done.known)
      ∙ ap (λ (r : Option ℕ). record { incarnation = done.process.identity.incarnation; reading = r; up = is_up team done.process.vote done.process.belief r; group = (or_none (last_decision done.process)).group; turn = (or_none (last_decision done.process)).turn; length = log_length done.process.log; passed = done.process.log.passed }) (sym (reading_again team.ppm team.eps h done.process.timing.clock)));
  out = done.out;
}

-- ---- what a row shows of the table

-- after another act nothing is shown
pub none_after_others : (act : Act) (q : Option Process) → is_look act ≡ false → entries_by entries_of act q ≡ []
none_after_others First q e = refl
none_after_others Again q e = refl
none_after_others Crash q e = refl
none_after_others Tick q e = refl
none_after_others (Recv d) q e = refl
none_after_others (Send order atom payload) q e = refl
none_after_others (Reference lo hi) q e = refl
none_after_others Look q e = absurd (cc)

-- where no process runs nothing is shown
pub none_without_process : (team : Team) (act : Act) (q : Option Process) → RunsAs team None q → entries_by entries_of act q ≡ []
none_without_process team act (Some p) runs = absurd runs
none_without_process team First None runs = refl
none_without_process team Again None runs = refl
none_without_process team Crash None runs = refl
none_without_process team Tick None runs = refl
none_without_process team (Recv d) None runs = refl
none_without_process team (Send order atom payload) None runs = refl
none_without_process team (Reference lo hi) None runs = refl
none_without_process team Look None runs = refl

-- after a look the entries of the table are shown, where there is one
pub entries_after_a_look : (team : Team) (act : Act) (c : Running) (q : Option Process) (entries : List Entry) → is_look act ≡ true → RunsAs team (Some c) q
    → ((p : Process) → Stands c p → entries ≡ option_map_or (λ (e : List Entry). e) (table_of entries_of p) []) → entries ≡ entries_by entries_of act q
entries_after_a_look team First c q entries e runs is = absurd (cc)
entries_after_a_look team Again c q entries e runs is = absurd (cc)
entries_after_a_look team Crash c q entries e runs is = absurd (cc)
entries_after_a_look team Tick c q entries e runs is = absurd (cc)
entries_after_a_look team (Recv d) c q entries e runs is = absurd (cc)
entries_after_a_look team (Send order atom payload) c q entries e runs is = absurd (cc)
entries_after_a_look team (Reference lo hi) c q entries e runs is = absurd (cc)
entries_after_a_look team Look c None entries e runs is = absurd runs
entries_after_a_look team Look c (Some p) entries e runs is = is p runs.1
