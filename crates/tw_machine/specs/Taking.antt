-- The rule of a decision that is received in time.
use Rattle.std.specs.Prelude.{not, List, [], ◌∷◌, ◌++◌, Option, Some, None}
use Rattle.tw_num.specs.declared.moment.Moment.{Moment}
use Rattle.tw_machine.specs.Types.{Decision, Reason}
use Rattle.tw_types.specs.declared.answer.Reason.TheVariants.{NotMember}
use Rattle.tw_types.specs.Refusals.{Refusal, first_refusal}
use Rattle.tw_types.specs.Beliefs.{is_informed, view_decision}
use Rattle.tw_types.specs.Taking.{taking_tests}
use Rattle.tw_types.specs.Process.{Process}
use Rattle.tw_machine.specs.Run.{Run, Ruled, dropped}
use Rattle.tw_machine.specs.Standing.{member_of}
use Rattle.tw_machine.specs.Entering.{enter_decision}

-- Why a process doesn't want a decision, whatever its list. A blank one follows nothing yet.
abbrev pub decision_tests : Process → Decision → List Refusal
decision_tests p d =
    taking_tests (view_decision p.belief) (is_informed p.belief) (member_of p.identity) p.vote.promised d
    ++ record { reason = NotMember; present = not (is_informed p.belief) }
    ∷ []

abbrev pub take_decision : Moment → Decision → Run → Ruled
take_decision now d r = by (first_refusal (decision_tests r.process d))
  where
    by : Option Reason → Ruled
    by None = enter_decision now d r
    by (Some reason) = dropped reason r
