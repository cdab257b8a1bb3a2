-- What a process keeps once a decision is taken or held.
use Rattle.std.proofs.Common.{◌≡◌, refl, ap, ◌∙◌, ℕ, ◌≤◌, Bool, cond, Option, Some, None, IfSome, arith}
use Rattle.tw_num.specs.declared.moment.Moment.{Moment}
use Rattle.tw_machine.specs.Types.{Team, UpdateId, Report, Decision, Ballot}
use Rattle.tw_types.specs.declared.datagram.Body.TheVariants as bodies
use Rattle.tw_types.specs.Waiting.{Waiting, first_hole, released}
use Rattle.tw_types.specs.Process.{Process, Hold, ToGroup}
use Rattle.tw_machine.specs.Run.{Run}
use Rattle.tw_machine.specs.Entering.{is_overtaken, asked, decision_held}
use Rattle.tw_machine.specs.Sending.{sent_to_others}
use Rattle.tw_machine.specs.Standing.{last_decision}
use Rattle.tw_machine.specs.Beating.{is_repeated, repeat_decision, ask_again}
use Rattle.tw_machine.specs.Grouping.{best_held}
use Rattle.node_core.specs.InRange.{ReportsWithin}
use Rattle.node_core.specs.Outcomes.{let_go, best_of}
use Rattle.node_core.proofs.Listing.{all_weaker}

-- what waits once this decision is taken, and for what a decision is held
pub left_waiting : (d : Decision) (p : Process) (w : Waiting) (b : Bool) → is_overtaken d w.held ≡ b → p.waiting ≡ w → (let_go d p).waiting ≡ cond b (released w) w
left_waiting d p w b over same = rw (same, over) refl

pub left_hold : (d : Decision) (p : Process) (w : Waiting) (h : Option Hold) (b : Bool) → is_overtaken d w.held ≡ b → p.waiting ≡ w → p.hold ≡ h → (let_go d p).hold ≡ cond b None h
left_hold d p w h b over same held = rw (same, over, held) refl

-- what was reported of a list is within a longer one
pub within_longer : (o : Option Ballot) (who a b : ℕ) → IfSome o (ReportsWithin who a) → a ≤ b → IfSome o (ReportsWithin who b)
within_longer None who a b all less = tt
within_longer (Some ballot) who a b all less = all_weaker (λ (r : Report). r.member.who ≡ who → r.length ≤ a) (λ (r : Report). r.member.who ≡ who → r.length ≤ b) (λ r f same. (let short = f same in omega (arith, short, less))) ballot.reports.items all

-- a process that lacks an update asks again for it
pub asks_is : (now : Moment) (r : Run) (hole : UpdateId × ℕ) → first_hole r.process.waiting.held ≡ Some hole → ask_again now r ≡ asked now hole.0 hole.1 r
asks_is now r hole e = ap (λ (o : Option (UpdateId × ℕ)). elim o as (λ o. Run) [ None ↦ r | Some hole ↦ asked now hole.0 hole.1 r ]) e

pub asks_nothing : (now : Moment) (r : Run) → first_hole r.process.waiting.held ≡ None → ask_again now r ≡ r
asks_nothing now r e = ap (λ (o : Option (UpdateId × ℕ)). elim o as (λ o. Run) [ None ↦ r | Some hole ↦ asked now hole.0 hole.1 r ]) e

-- the best decision of a ballot is held
abbrev by_best : Moment → UpdateId → Run → Option (Decision × ℕ) → Run
by_best now id r o = elim o as (λ o. Run) [ None ↦ r | Some best ↦ decision_held now ToGroup best.0 best.1 id r ]

pub best_is : (now : Moment) (ballot : Ballot) (id : UpdateId) (r : Run) (o : Option (Decision × ℕ)) → best_of ballot ≡ o → best_held now ballot id r ≡ by_best now id r o
best_is now ballot id r o e = go ballot.best ∙ ap (by_best now id r) e
  where
    go : (best : Option Decision) → (elim best as (λ o. Run) [ None ↦ r | Some best ↦ decision_held now ToGroup best ballot.best_from id r ])
        ≡ by_best now id r (elim best as (λ o. Option (Decision × ℕ)) [ None ↦ None | Some d ↦ Some (d, ballot.best_from) ])
    go None = refl
    go (Some d) = refl

-- the last decision is said again
abbrev by_last : Team → Moment → Run → Option Decision → Run
by_last team now r o = elim o as (λ o. Run) [ None ↦ r | Some last ↦ cond (is_repeated team r.process last now.reading) (sent_to_others team.n now (bodies.Decision last) r) r ]

pub said_by : (team : Team) (now : Moment) (r : Run) (last : Decision) (b : Bool) → last_decision r.process ≡ Some last → is_repeated team r.process last now.reading ≡ b → repeat_decision team now r ≡ cond b (sent_to_others team.n now (bodies.Decision last) r) r
said_by team now r last b is again = ap (by_last team now r) is ∙ ap (λ (b : Bool). cond b (sent_to_others team.n now (bodies.Decision last) r) r) again

pub says_nothing : (team : Team) (now : Moment) (r : Run) → last_decision r.process ≡ None → repeat_decision team now r ≡ r
says_nothing team now r is = ap (by_last team now r) is
