use Rattle.std.proofs.Common.{◌≡◌, ◌≤◌, ◌∙◌, refl, sym, ap, subst, ℕ, true, false, Option, Some, None, IfSome, is_some}
use Rattle.std.specs.Option.{option_map}
use Rattle.tw_machine.specs.Types.{UpdateId, Decision}
use Rattle.tw_types.specs.Process.{Process, Hold}
use Rattle.tw_types.specs.Ranges.{DecisionFits}
use Rattle.tw_types.specs.Waiting.{Held, Waiting, first_hole}
use Rattle.node_core.specs.declared.state.Hold as code_hold
use Rattle.node_core.specs.declared.state.Purpose.TheVariants.{ToTake}
use Rattle.node_core.specs.declared.state.State.{State}
use Rattle.node_core.specs.InRange.{HeldFits, IsHeldFor}
use Rattle.node_core.specs.Outcomes.{whole_of, whole_seen, whole_held}
use Rattle.node_core.specs.StandsFor.{StandsFor, hold_seen}
use Rattle.node_core.proofs.state.State.whole_held.Goals as goal

-- what the state holds is what the process holds
here : (c : State) (p : Process) → StandsFor c p → whole_of (first_hole c.store.waiting.held) c.store.waiting.held (option_map hold_seen c.hold) ≡ whole_held p
here c p s = sym (ap (λ (w : Waiting). whole_of (first_hole w.held) w.held p.hold) s.waiting ∙ ap (λ (h : Option Hold). whole_of (first_hole c.store.waiting.held) c.store.waiting.held h) s.hold)

-- it is not whole where a payload is missing, no decision is held, or for nothing
with_hole : (hole : Option (UpdateId × ℕ)) (held : Option Held) (hold : Option Hold) → is_some hole ≡ true → None ≡ whole_of hole held hold
with_hole None held hold e = absurd (cc)
with_hole (Some hole) held hold e = refl

without_held : (hole : Option (UpdateId × ℕ)) (held : Option Held) (hold : Option Hold) → option_map (λ (h : Held). h.decision) held ≡ None → None ≡ whole_of hole held hold
without_held None None hold e = refl
without_held None (Some h) hold e = absurd (cc)
without_held (Some hole) held hold e = refl

without_hold : (hole : Option (UpdateId × ℕ)) (held : Option Held) (hold : Option Hold) → hold ≡ None → None ≡ whole_of hole held hold
without_hold None None hold e = refl
without_hold None (Some h) None e = refl
without_hold None (Some h) (Some hold) e = absurd (cc)
without_hold (Some hole) held hold e = refl

-- else it is
whole : (hole : Option (UpdateId × ℕ)) (held : Option Held) (hold : Option Hold) (d : Decision) (h : Hold) → is_some hole ≡ false → option_map (λ (h : Held). h.decision) held ≡ Some d → hold ≡ Some h → Some (d, h) ≡ whole_of hole held hold
whole None None hold d h free is e = absurd (cc)
whole None (Some x) None d h free is e = absurd (cc)
whole None (Some x) (Some y) d h free is e = let a : d ≡ x.decision = cc in let b : h ≡ y = cc in rw (a, b) refl
whole (Some hole) held hold d h free is e = absurd (cc)

held_fits : (n : ℕ) (held : Option Held) (d : Decision) → IfSome held (HeldFits n) → option_map (λ (h : Held). h.decision) held ≡ Some d → DecisionFits n d
held_fits n None d fits is = absurd (cc)
held_fits n (Some h) d fits is = let same : h.decision ≡ d = cc in subst (DecisionFits n) same fits.decision

held_group : (held : Option Held) (hold : code_hold.Hold) (d : Decision) → IsHeldFor held hold → option_map (λ (h : Held). h.decision) held ≡ Some d → hold.purpose ≡ ToTake → d.group ≤ hold.promised
held_group None hold d fits is e = absurd (cc)
held_group (Some h) hold d fits is e = let same : h.decision ≡ d = cc in subst (λ (d : Decision). d.group ≤ hold.promised) same (fits e)

-- the decision that the code finds
found : (c : goal.After-copy) → option_map (λ (h : Held). h.decision) c.args.self.now.store.waiting.held ≡ Some c.copy.result
found c = sym c.held.ensures ∙ rw c.in_ok-held.was (ap (λ (d : Decision). Some d) (sym c.copy.ensures))

pub returns-then-is_some-clause-exact : goal.returns-then-is_some-clause-exact
returns-then-is_some-clause-exact c = λ p s. with_hole _ c.args.self.now.store.waiting.held (option_map hold_seen c.args.self.now.hold) (ap is_some (sym c.hole.ensures) ∙ sym c.is_some.ensures ∙ c.if-is_some.true) ∙ here c.args.self.now p s

pub returns-in_err-held-clause-exact : goal.returns-in_err-held-clause-exact
returns-in_err-held-clause-exact c = λ p s. ap (option_map whole_seen) c.from_residual.ensures
    ∙ without_held (first_hole c.args.self.now.store.waiting.held) c.args.self.now.store.waiting.held (option_map hold_seen c.args.self.now.hold) (sym c.held.ensures ∙ rw c.in_err-held.was refl) ∙ here c.args.self.now p s

pub returns-in_err-hold-clause-exact : goal.returns-in_err-hold-clause-exact
returns-in_err-hold-clause-exact c = λ p s. ap (option_map whole_seen) c.from_residual-in_err-hold.ensures
    ∙ without_hold (first_hole c.args.self.now.store.waiting.held) c.args.self.now.store.waiting.held (option_map hold_seen c.args.self.now.hold) (rw c.in_err-hold.was refl) ∙ here c.args.self.now p s

pub returns-clause-exact : goal.returns-clause-exact
returns-clause-exact c = λ p s. whole (first_hole c.args.self.now.store.waiting.held) c.args.self.now.store.waiting.held (option_map hold_seen c.args.self.now.hold) c.copy.result (hold_seen c.in_ok-hold.hold)
    (ap is_some (sym c.hole.ensures) ∙ sym c.is_some.ensures ∙ c.if-is_some.false) (found c) (rw c.in_ok-hold.was refl) ∙ here c.args.self.now p s

pub returns-clause-fits : goal.returns-clause-fits
returns-clause-fits c = held_fits c.args.self.now.team.n c.args.self.now.store.waiting.held c.copy.result c.requires.fits.waiting.held (found c)

pub returns-clause-group : goal.returns-clause-group
returns-clause-group c = held_group c.args.self.now.store.waiting.held c.in_ok-hold.hold c.copy.result
    (subst (λ (o : Option code_hold.Hold). IfSome o (IsHeldFor c.args.self.now.store.waiting.held)) c.in_ok-hold.was c.requires.fits.updates.held_for) (found c)
