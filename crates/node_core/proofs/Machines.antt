-- What a step applies of what it passes.
use Rattle.std.proofs.Common.{◌≡◌, ap, sym, ◌∙◌, ℕ, ◌≤◌, List, ◌++◌, map}
use Rattle.app_table.specs.Machine.{content_after}
use Rattle.app_table.proofs.Contents.{some_more}
use Rattle.tw_machine.specs.Types.{Team, Outputs, Pass}
use Rattle.tw_types.specs.Beliefs.{log_length}
use Rattle.tw_types.specs.Process.{Process}
use Rattle.tw_machine.specs.Applied.{payloads_in, payloads_applied}
use Rattle.tw_machine.specs.Event.{Event}
use Rattle.tw_machine.specs.Step.{step}
use Rattle.tw_machine.proofs.Steps.{step_applies}
use Rattle.node_core.specs.declared.state.State.{State}
use Rattle.node_core.specs.StandsFor.{StandsFor}
use Rattle.node_core.specs.WithMachine.{WithMachine, StandsWith}

-- what the payloads of a step's passes make of the machine's content is what the step's process has
pub machine_follows : {A : Type 0} (empty : A) (after : A → List ℕ → A) (c : WithMachine A) (team : Team) (h : ℕ) (e : Event) (p : Process) (state : State) (machine : A) (out : Outputs)
    → StandsWith empty after c p → c.state.oal.passed ≤ c.state.oal.length → StandsFor state (step team h e p).process → out ≡ (step team h e p).out
    → machine ≡ content_after after c.machine (payloads_in (map (λ (q : Pass). q.kept) out.passes))
    → StandsWith empty after (record { state = state; machine = machine }) (step team h e p).process
machine_follows empty after c team h e p state machine out stands within stepped given applied =
    let less : p.log.passed ≤ log_length p.log = rw (← stands.state.log.passed, ← stands.state.log.length) within in
    record {
      state = stepped;
      content =
          applied
          ∙ ap (λ content. content_after after content (payloads_in (map (λ (q : Pass). q.kept) out.passes))) stands.content
          ∙ sym (some_more after empty (payloads_applied p.log) (payloads_in (map (λ (q : Pass). q.kept) out.passes)))
          ∙ ap (λ (o : Outputs). content_after after empty (payloads_applied p.log ++ payloads_in (map (λ (q : Pass). q.kept) o.passes))) given
          ∙ sym (ap (content_after after empty) (step_applies team h e p less));
    }
