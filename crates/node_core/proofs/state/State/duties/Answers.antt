use Rattle.std.proofs.Common.{ℕ, ◌≡◌, ◌≤◌, ◌+◌, refl, sym, subst, Bool, true, false, cond, length, Option, Some, arith}
use Rattle.std.specs.List.{AllByRecursion}
use Rattle.tw_types.specs.declared.team.Team.{Team}
use Rattle.tw_machine.specs.Duties.{duties, duties_if_timed}
use Rattle.node_core.specs.Outcomes.{says_again, said_again}
use Rattle.node_core.specs.Sends.{IsSendable}
use Rattle.node_core.specs.StandsFor.{RunStandsFor}
use Rattle.node_core.proofs.state.State.duties.Goals as goal
use Rattle.node_core.proofs.state.State.duties.Goals.{in-Some, in_default}

-- where the last decision is said again, the duties before sent one datagram at most
sent_with : (again : Bool) (before after : ℕ) → (again ≡ true → after ≤ before + 1) → after ≤ before + 28 → after + 15 + cond again 14 0 ≤ before + 43
sent_with true before after one few = let h : after ≤ before + 1 = one refl in omega (arith, h)
sent_with false before after one few = omega (arith, few)

sent_here : (c : goal.After-give_beat-arg-2-1) → length c.match-now.out.sends + 15 + said_again c.match-now.self c.args.now.now.reading ≤ length c.args.out.now.sends + 43
sent_here c = elim c.match-now.branch [
  | in-Some w ↦ rw (w.self-is, w.out-is) (subst (λ (o : Option ℕ). length w.timed_duties.new.out.sends + 15 + said_again w.timed_duties.new.self o ≤ length c.args.out.now.sends + 43) (sym w.in-Some.is)
      (sent_with (says_again w.timed_duties.new.self (Some w.in-Some.t)) _ _ w.timed_duties.ensures.again w.timed_duties.ensures.gives.few))
  | in_default w ↦ rw (w.self-is, w.out-is) (subst (λ (o : Option ℕ). length c.args.out.now.sends + 15 + said_again c.args.self.now o ≤ length c.args.out.now.sends + 43) (sym w.in_default.is) (omega arith))
]

pub give_beat-requires-clause-room : goal.give_beat-requires-clause-room
give_beat-requires-clause-room c = let few = sent_here c in omega (arith, few, c.requires.room)

pub returns-clause-stands : goal.returns-clause-stands
unfolding duties
returns-clause-stands c = λ team r s. c.give_beat.ensures.stands team (duties_if_timed team c.args.now.now c.args.now.now.reading r) (elim c.match-now.branch [
  | in-Some w ↦ rw (w.self-is, w.out-is) (subst (λ (o : Option ℕ). RunStandsFor team w.timed_duties.new.self w.timed_duties.new.out (duties_if_timed team c.args.now.now o r)) (sym w.in-Some.is) (w.timed_duties.ensures.stands team r s))
  | in_default w ↦ rw (w.self-is, w.out-is) (subst (λ (o : Option ℕ). RunStandsFor team c.args.self.now c.args.out.now (duties_if_timed team c.args.now.now o r)) (sym w.in_default.is) s)
])

pub returns-clause-gives : goal.returns-clause-gives
returns-clause-gives c =
    let same : c.match-now.self.team ≡ c.args.self.now.team = elim c.match-now.branch [ in-Some w ↦ rw w.self-is w.timed_duties.ensures.team | in_default w ↦ rw w.self-is refl ] in
    let few = sent_here c.before in
    record {
      fits = λ all. subst (λ (x : Team). AllByRecursion (IsSendable x.n) c.give_beat.new.out.sends) same (c.give_beat.ensures.gives.fits (subst (λ (x : Team). AllByRecursion (IsSendable x.n) c.match-now.out.sends) (sym same)
          (elim c.match-now.branch [ in-Some w ↦ rw w.out-is (w.timed_duties.ensures.gives.fits all) | in_default w ↦ rw w.out-is all ])));
      few = omega (arith, few, c.give_beat.ensures.gives.few);
    }
