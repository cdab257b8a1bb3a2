-- The duty that delivers is an effect, where its process is up. It leaves a list and what waits as they were, but for marks, and for what
-- of the list is passed.
use Rattle.std.proofs.Common.{◌≡◌, refl, sym, ap, subst, ◌∙◌, ℕ, true, List, [], ◌∷◌, ◌++◌, map, Option, Some}
use Rattle.std.proofs.lemmas.List.{append_assoc}
use Rattle.tw_machine.specs.Types.{Team, Member, Pass, Step, Decision}
use Rattle.tw_types.specs.Beliefs.{last_of}
use Rattle.tw_types.specs.Decisions.{or_none}
use Rattle.tw_types.specs.Deliveries.{passes, run_passed, weaks, log_delivered, waiting_delivered}
use Rattle.tw_types.specs.Flag.{is_up}
use Rattle.tw_types.specs.Process.{Process}
use Rattle.tw_types.specs.Waiting.{Waiting, payloads_of}
use Rattle.tw_types.proofs.Up.{backing}
use Rattle.tw_machine.specs.Delivering.{delivered_at, earlies_told, all_told, all_delivered}
use Rattle.tw_machine.specs.History.{Line, line_item, lines_on}
use Rattle.tw_machine.specs.Run.{Run, AtPass, AtWait, Delivered}
use Rattle.tw_machine.specs.Standing.{member_of, last_decision}
use Rattle.safety_laws.specs.Effects.{Written, State, Here, state_of, Delivers}
use Rattle.safety_laws.proofs.Marked.{Alike, OnlyDelivers, only_delivers, weaks_alike, payloads_alike}

-- what is told in two parts is put before what is older one after the other
lines_joined : (row : ℕ) (member : Member) (life : ℕ) (s : Step) (xs ys : List Delivered) (older : List Line) → lines_on row member life s (xs ++ ys) older ≡ lines_on row member life s ys (lines_on row member life s xs older)
lines_joined row member life s [] ys older = refl
lines_joined row member life s (x ∷ xs) ys older = lines_joined row member life s xs ys (line_item row member life s x ∷ older)

-- what is told part by part is all that is told
told_in_parts : (team : Team) (d : Decision) (r : Run) → (all_delivered team d r).delivered ≡ r.delivered ++ all_told team d r.process.log r.process.waiting.pending
told_in_parts team d r =
    let passed = map (λ (p : Pass). delivered_at d (AtPass p.position p.how) p.kept) (passes team d r.process.log) in
    let early = earlies_told team d (run_passed team d r.process.log).passed (run_passed team d r.process.log) in
    let waiting = map (delivered_at d AtWait) (weaks r.process.waiting.pending) in
    ap (λ ds. ds ++ waiting) (append_assoc r.delivered passed early) ∙ append_assoc r.delivered (passed ++ early) waiting

-- who is up has a last decision, and delivers by it
pub delivers : (here : Here) (before : Written) (t : ℕ) (r : Run) → here.now.reading ≡ Some t → r.process.timing.clock.greatest ≡ Some t → is_up here.team r.process.vote r.process.belief (Some t) ≡ true
    → Delivers here (state_of here before r) (state_of here before (all_delivered here.team (or_none (last_decision r.process)) r))
delivers here before t r reading read up =
    let by = backing here.team r.process.vote r.process.belief (Some t) up in
    let last_is : last_decision r.process ≡ Some by.last = ap last_of by.is_last in
    record {
      t = t;
      last = by.last;
      reading = reading;
      read = read;
      last_is = last_is;
      up = up;
      process = ap (λ (o : Option Decision). record (r.process) { log = log_delivered here.team (or_none o) r.process.log; waiting = waiting_delivered r.process.waiting }) last_is;
      written = ap (λ (ls : List Line). record (state_of here before r).written { lines = ls })
          (ap (λ (ds : List Delivered). lines_on here.row (member_of r.process.identity) here.life here.step ds before.lines) (told_in_parts here.team (or_none (last_decision r.process)) r)
          ∙ lines_joined here.row (member_of r.process.identity) here.life here.step r.delivered (all_told here.team (or_none (last_decision r.process)) r.process.log r.process.waiting.pending) before.lines
          ∙ ap (λ (o : Option Decision). lines_on here.row (member_of r.process.identity) here.life here.step (all_told here.team (or_none o) r.process.log r.process.waiting.pending) (lines_on here.row (member_of r.process.identity) here.life here.step r.delivered before.lines)) last_is);
    }

-- the list after it
pub log_delivers : (here : Here) (x y : State) → Delivers here x y → OnlyDelivers x.process.log y.process.log
log_delivers here x y c = subst (OnlyDelivers x.process.log) (sym (ap (λ (p : Process). p.log) c.process)) (only_delivers here.team c.last x.process.log)

-- what is pending then
pub pending_delivers : (here : Here) (x y : State) → Delivers here x y → Alike x.process.waiting.pending y.process.waiting.pending
pending_delivers here x y c = subst (Alike x.process.waiting.pending) (sym (ap (λ (p : Process). p.waiting.pending) c.process)) (weaks_alike x.process.waiting.pending)

-- and all payloads that are there
pub payloads_deliver : (here : Here) (x y : State) → Delivers here x y → Alike (payloads_of x.process.waiting) (payloads_of y.process.waiting)
payloads_deliver here x y c = subst (λ (w : Waiting). Alike (payloads_of x.process.waiting) (payloads_of w)) (sym (ap (λ (p : Process). p.waiting) c.process)) (payloads_alike x.process.waiting)
