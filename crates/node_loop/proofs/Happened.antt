-- What an input makes of a process, step by step.
use Rattle.std.proofs.Common.{◌≡◌, refl, sym, ap, ◌∙◌, ℕ, List, ◌∷◌}
use Rattle.tw_num.specs.Clock.{IsNotBefore, reading_at}
use Rattle.tw_machine.specs.Types.{Team, Mode, RowAnswer, Outputs}
use Rattle.tw_types.specs.Outputs.{nothing}
use Rattle.tw_types.specs.Process.{Process}
use Rattle.tw_types.specs.Flag.{is_up}
use Rattle.tw_machine.specs.Event.{Event}
use Rattle.tw_machine.specs.Lives.{Happening, At, LookedAt, after_all}
use Rattle.tw_machine.specs.Step.{step, looked, view_of}
use Rattle.tw_machine.proofs.Clocks.{reading_again}
use Rattle.tw_machine.proofs.Steps.{step_not_before, looked_after}
use Rattle.node_core.specs.WithMachine.{WithMachine, StandsWith}
use Rattle.node_loop.specs.Happened.{after_one, HasHappened}

-- an event that was taken
pub taken : {A : Type 0} (empty : A) (after : A → List ℕ → A) (team : Team) (h : ℕ) (e : Event) (c : WithMachine A) (a : RowAnswer) (o : Outputs) (p : Process)
    → IsNotBefore h p.timing.clock → StandsWith empty after c (step team h e p).process → a ≡ (step team h e p).answer → o ≡ (step team h e p).out
    → HasHappened empty after team h (At h e) c a o p
taken empty after team h e c a o p known stands answer out = record {
  process = (step team h e p).process;
  stands = stands;
  known = step_not_before team h e p known;
  looked = looked_after team h e p;
  answer = answer;
  out = out;
}

-- a look, which is still to come
pub to_look : {A : Type 0} (empty : A) (after : A → List ℕ → A) (team : Team) (h : ℕ) (c : WithMachine A) (o : Outputs) (p : Process)
    → IsNotBefore h p.timing.clock → StandsWith empty after c p → o ≡ nothing → HasHappened empty after team h (LookedAt h) c RowAnswer.Look o p
to_look empty after team h c o p known stands out = record { process = p; stands = stands; known = known; looked = refl; answer = refl; out = out }

-- a process that was looked at says the same again
pub view_again : (team : Team) (h : ℕ) (p : Process) → view_of team h (looked team h p) ≡ view_of team h p
view_again team h p = rw (reading_again team.ppm team.eps h p.timing.clock) refl

-- the newest happening comes last
pub one_more : (team : Team) (who : ℕ) (mode : Mode) (began : ℕ) (x : Happening) (earlier : List Happening)
    → after_all team who mode began (x ∷ earlier) ≡ after_one team x (after_all team who mode began earlier)
one_more team who mode began (At h e) earlier = refl
one_more team who mode began (LookedAt h) earlier = refl
