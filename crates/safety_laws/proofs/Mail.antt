-- Packets hold promises.
use Rattle.std.proofs.Common.{◌≡◌, refl, sym, ap, ◌∙◌, inl, inr, ℕ, List, ◌∷◌, map}
use Rattle.std.specs.List.{AllByRecursion}
use Rattle.tw_machine.specs.Types.{Team, Body, Datagram, Step}
use Rattle.tw_types.specs.declared.datagram.Body.TheVariants as bodies
use Rattle.tw_machine.specs.Dispatches.{Dispatch, sent_at}
use Rattle.tw_machine.specs.History.{Promised, promise_item}
use Rattle.tw_machine.proofs.Tables.{all_mapped}
use Rattle.tw_types.proofs.Lists.{all_joined}
use Rattle.safety_laws.specs.Effects.{State, Here, Says, IsToldBy, Change}
use Rattle.safety_laws.specs.Mail.{TellsGiven, mail}
use Rattle.safety_laws.specs.Names.{names}
use Rattle.safety_laws.proofs.Lists.{each_weaker}
use Rattle.safety_laws.proofs.Stack.{RulesOver, history_rules}

given_still : (new : Promised) (promises : List Promised) (from : ℕ) (body : Body) → TellsGiven promises from body → TellsGiven (new ∷ promises) from body
given_still new promises from (bodies.Promise number report decision) k = (k.0, inr k.1, k.2, k.3)
given_still new promises from (bodies.Decision d) k = tt
given_still new promises from (bodies.Update kept) k = tt
given_still new promises from (bodies.NoDecision number group turn skip reports best) k = tt
given_still new promises from (bodies.Election number why) k = tt
given_still new promises from (bodies.Ask want) k = tt
given_still new promises from (bodies.State group position total offset bytes) k = tt
given_still new promises from (bodies.Sync ready) k = tt

-- what a process tells as its newest promise
told_given : (here : Here) (y : State) (from : ℕ) (body : Body) → from ≡ here.step.who → Says here y body → TellsGiven y.written.promises from body
told_given here y from (bodies.Promise number report decision) mine says = let new = promise_item here.life here.step (record { number = number; report = report; decision = decision }) in (new, rw says.1 (inl refl), sym mine, refl)
told_given here y from (bodies.Decision d) mine says = tt
told_given here y from (bodies.Update kept) mine says = tt
told_given here y from (bodies.NoDecision number group turn skip reports best) mine says = tt
told_given here y from (bodies.Election number why) mine says = tt
told_given here y from (bodies.Ask want) mine says = tt
told_given here y from (bodies.State group position total offset bytes) mine says = tt
told_given here y from (bodies.Sync ready) mine says = tt

changes : (here : Here) (x y : State) → y.process.identity.who ≡ here.step.who → Change here x y → AllByRecursion (λ (k : Dispatch). TellsGiven x.written.promises k.datagram.head.from k.datagram.body) x.written.sent
    → AllByRecursion (λ (k : Dispatch). TellsGiven y.written.promises k.datagram.head.from k.datagram.body) y.written.sent
changes here x y me (Change.Keep c) k =
    rw c.sent (all_joined (λ (k : Dispatch). TellsGiven y.written.promises k.datagram.head.from k.datagram.body) x.written.sent (map (sent_at here.step.t) c.new) (rw c.promises k)
    (all_mapped (λ (k : Dispatch). TellsGiven y.written.promises k.datagram.head.from k.datagram.body) (sent_at here.step.t) c.new
    (each_weaker (IsToldBy here y) (λ (d : ℕ × Datagram). TellsGiven y.written.promises d.1.head.from d.1.body) c.new (λ d told. told_given here y d.1.head.from d.1.body (told.from ∙ me) told.says) c.told)))
changes here x y me (Change.Give c) k =
    rw c.written (each_weaker (λ (k : Dispatch). TellsGiven x.written.promises k.datagram.head.from k.datagram.body) (λ (k : Dispatch). TellsGiven (promise_item here.life here.step c.given ∷ x.written.promises) k.datagram.head.from k.datagram.body) x.written.sent
    (λ k told. given_still (promise_item here.life here.step c.given) x.written.promises k.datagram.head.from k.datagram.body told) k)
changes here x y me (Change.Hold c) k = rw c.written k
changes here x y me (Change.Take c) k = rw c.written k
changes here x y me (Change.Make c) k = rw c.written k
changes here x y me (Change.Deliver c) k = rw c.written k
changes here x y me (Change.Raise c) k = rw c.written k

pub mail_rules : (team : Team) → RulesOver team names mail
mail_rules team = history_rules team names (λ w. AllByRecursion (λ (k : Dispatch). TellsGiven w.promises k.datagram.head.from k.datagram.body) w.sent) tt
    (λ past s here x y at change before after k. changes here x y (after.own.is ∙ sym (ap (λ (e : Step). e.who) at.same_step)) change k)
