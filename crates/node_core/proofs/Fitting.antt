-- Which decisions fit a list, and what the tests of one tell.
use Rattle.std.proofs.Common.{◌≡◌, refl, sym, ap, subst, ◌∙◌, ℕ, ◌+◌, ◌≤◌, Bool, true, false, cond, List, [], ◌∷◌, length, map, Option, Some, None, IfSome, Result, Ok, Err, find, arith}
use Rattle.std.specs.Prelude.{not, nat_lt, ◌||◌}
use Rattle.std.specs.List.{AllByRecursion}
use Rattle.std.specs.Option.{option_map}
use Rattle.std.specs.Result.{MatchResult}
use Rattle.std.proofs.lemmas.Bool.Decides.{nat_tests}
use Rattle.tw_num.specs.declared.moment.Moment.{Moment}
use Rattle.tw_machine.specs.Types.{Reason, UpdateId, Entry, Kept, Decision}
use Rattle.tw_types.specs.declared.answer.Reason.TheVariants.{Gap, Behind, Missing}
use Rattle.tw_types.specs.Refusals.{first_refusal}
use Rattle.tw_types.specs.Ranges.{IdFits, EntryFits}
use Rattle.tw_types.specs.Beliefs.{Log, log_length}
use Rattle.tw_types.specs.Decisions.{decision_length}
use Rattle.tw_types.specs.Updates.{has_update}
use Rattle.tw_types.specs.Waiting.{payloads_of, entries_from}
use Rattle.tw_types.specs.Logs.{log_room, needed, payload_test, fit_tests_at, fit_tests}
use Rattle.tw_types.specs.Process.{ToTake}
use Rattle.tw_machine.specs.Run.{Run, Ruled, done, dropped}
use Rattle.tw_machine.specs.Entering.{decision_entered, decision_held, dropped_missing, enter_decision}
use Rattle.oal.specs.declared.list.ExtendFault.{ExtendFault}
use Rattle.oal.specs.Faults.{extend_reason}
use Rattle.oal.specs.Recent.{Recent}
use Rattle.oal.specs.StandsFor as list
use Rattle.node_core.specs.Outcomes.{list_reason}
use Rattle.node_core.proofs.Waits.{entries_fit}

abbrev gap : (length : ℕ) → Decision → Bool
gap length d = nat_lt length d.low || nat_lt (decision_length d) length

abbrev behind : (passed : ℕ) → Decision → Bool
behind passed d = nat_lt (passed + log_room) (decision_length d)

-- what the tests of a list's ends and of payloads come to
abbrev by_tests : (gap behind : Bool) → Option Reason → Option Reason
by_tests gap behind rest = cond gap (Some Gap) (cond behind (Some Behind) rest)

abbrev missing_id : List Kept → List Entry → Option UpdateId
missing_id payloads es = option_map (λ (e : Entry). e.id) (find (λ (e : Entry). not (has_update e.id payloads)) es)

-- the test of payloads tells the first one that is missing
first_told : (payloads : List Kept) (es : List Entry) → first_refusal (map (payload_test payloads) es) ≡ option_map (λ (id : UpdateId). Missing id) (missing_id payloads es)
first_told payloads [] = refl
first_told payloads (e ∷ es) = go (has_update e.id payloads) (first_told payloads es)
  where
    go : (b : Bool) → first_refusal (map (payload_test payloads) es) ≡ option_map (λ (id : UpdateId). Missing id) (missing_id payloads es)
        → cond (not b) (Some (Missing e.id)) (first_refusal (map (payload_test payloads) es))
        ≡ option_map (λ (id : UpdateId). Missing id) (option_map (λ (e : Entry). e.id) (cond (not b) (Some e) (find (λ (e : Entry). not (has_update e.id payloads)) es)))
    go true h = h
    go false h = refl

-- ---- what fits

pub record Fits (length passed : ℕ) (payloads : List Kept) (d : Decision) : Type 0 where
  pub reached : d.low ≤ length
  pub longer : length ≤ decision_length d
  pub near : decision_length d ≤ passed + 64

pub fits_is : (length passed : ℕ) (payloads : List Kept) (d : Decision) → first_refusal (fit_tests_at length passed payloads d) ≡ None → Fits length passed payloads d
fits_is length passed payloads d e = go (gap length d) (behind passed d) refl refl e
  where
    go : (a b : Bool) → gap length d ≡ a → behind passed d ≡ b → by_tests a b (first_refusal (map (payload_test payloads) (entries_from length d))) ≡ None → Fits length passed payloads d
    go true b p q e = absurd (cc)
    go false true p q e = absurd (cc)
    go false false p q e = record { reached = search (arith, nat_tests); longer = search (arith, nat_tests); near = search (arith, nat_tests) }

all_there : (payloads : List Kept) (es : List Entry) → AllByRecursion (λ (e : Entry). has_update e.id payloads ≡ true) es → first_refusal (map (payload_test payloads) es) ≡ None
all_there payloads [] all = refl
all_there payloads (e ∷ es) all = let there : has_update e.id payloads ≡ true = all.0 in rw there (all_there payloads es all.1)

pub fitting : (length passed : ℕ) (payloads : List Kept) (d : Decision) → d.low ≤ length → length ≤ decision_length d → decision_length d ≤ passed + 64
    → AllByRecursion (λ (e : Entry). has_update e.id payloads ≡ true) (entries_from length d) → first_refusal (fit_tests_at length passed payloads d) ≡ None
fitting length passed payloads d low longer near all =
    let no_gap : gap length d ≡ false = search (arith, nat_tests) in
    let not_behind : behind passed d ≡ false = search (arith, nat_tests) in
    ap (λ (b : Bool). by_tests b (behind passed d) (first_refusal (map (payload_test payloads) (entries_from length d)))) no_gap
    ∙ ap (λ (b : Bool). by_tests false b (first_refusal (map (payload_test payloads) (entries_from length d)))) not_behind
    ∙ all_there payloads (entries_from length d) all

-- ---- what is missing

missing_one : (n : ℕ) (payloads : List Kept) (es : List Entry) → AllByRecursion (EntryFits n) es → IfSome (missing_id payloads es) (IdFits n)
missing_one n payloads [] all = tt
missing_one n payloads (e ∷ es) all = let rest = missing_one n payloads es all.1 in
    elim (has_update e.id payloads) as (λ b. IfSome (option_map (λ (e : Entry). e.id) (cond (not b) (Some e) (find (λ (e : Entry). not (has_update e.id payloads)) es))) (IdFits n)) [ true ↦ rest | false ↦ all.0.id ]

-- the id of a payload that is missing is in range
pub missing_fits : (n length passed : ℕ) (payloads : List Kept) (d : Decision) (id : UpdateId) → AllByRecursion (EntryFits n) d.window.items → first_refusal (fit_tests_at length passed payloads d) ≡ Some (Missing id) → IdFits n id
missing_fits n length passed payloads d id all e =
    go (gap length d) (behind passed d) (missing_id payloads (entries_from length d)) (missing_one n payloads (entries_from length d) (entries_fit n length d all))
    (ap (by_tests (gap length d) (behind passed d)) (sym (first_told payloads (entries_from length d))) ∙ e)
  where
    go : (a b : Bool) (o : Option UpdateId) → IfSome o (IdFits n) → by_tests a b (option_map (λ (id : UpdateId). Missing id) o) ≡ Some (Missing id) → IdFits n id
    go true b o fit e = absurd (cc)
    go false true o fit e = absurd (cc)
    go false false None fit e = absurd (cc)
    go false false (Some x) fit e = let same : x ≡ id = cc in subst (IdFits n) same fit

-- ---- what comes of a decision by the tests of its process

abbrev pub answered : Moment → Decision → Run → Option Reason → Ruled
answered now d r None = done (decision_entered d r)
answered now d r (Some (Missing id)) = dropped_missing id (decision_held now ToTake d d.maker id r)
answered now d r (Some reason) = dropped reason r

abbrev by_parts : Moment → Decision → Run → Option Reason → Option UpdateId → Ruled
by_parts now d r tested missing = elim tested as (λ o. Ruled) [
  | None ↦ elim missing as (λ o. Ruled) [ None ↦ done (decision_entered d r) | Some id ↦ dropped_missing id (decision_held now ToTake d d.maker id r) ]
  | Some reason ↦ dropped reason r
]

pub entering : (now : Moment) (d : Decision) (r : Run) → enter_decision now d r ≡ answered now d r (first_refusal (fit_tests r.process.log (payloads_of r.process.waiting) d))
entering now d r =
    let log : Log = r.process.log in
    let payloads : List Kept = payloads_of r.process.waiting in
    go (gap (log_length log) d) (behind log.passed d) (missing_id payloads (needed log d))
    ∙ ap (λ (o : Option Reason). answered now d r (by_tests (gap (log_length log) d) (behind log.passed d) o)) (sym (first_told payloads (needed log d)))
  where
    go : (a b : Bool) (o : Option UpdateId) → by_parts now d r (by_tests a b None) o ≡ answered now d r (by_tests a b (option_map (λ (id : UpdateId). Missing id) o))
    go true b o = refl
    go false true o = refl
    go false false None = refl
    go false false (Some id) = refl

-- the first test that refuses is what the list's answer tells
pub tells : (r : Result (Unit {0}) ExtendFault) (o : Option Reason) → MatchResult r (λ _. o ≡ None) (λ fault. o ≡ Some (extend_reason fault)) → o ≡ list_reason r
tells (Ok u) o e = e
tells (Err fault) o e = e

pub fault_is : (r : Result (Unit {0}) ExtendFault) (a b : ExtendFault) → r ≡ Err a → a ≡ b → r ≡ Err b
fault_is r a b e same = e ∙ ap (λ (fault : ExtendFault). Err fault) same

-- what comes of a decision, by the answer of the list that is kept
pub by_answer : (now : Moment) (d : Decision) (r : Run) (o : Recent) (payloads : List Kept) (result answer : Result (Unit {0}) ExtendFault) → list.StandsFor o r.process.log → payloads_of r.process.waiting ≡ payloads
    → first_refusal (fit_tests_at o.length o.passed payloads d) ≡ list_reason result → result ≡ answer → enter_decision now d r ≡ answered now d r (list_reason answer)
by_answer now d r o payloads result answer stands same tested is =
    entering now d r
    ∙ ap (λ (ps : List Kept). answered now d r (first_refusal (fit_tests r.process.log ps d))) same
    ∙ ap (λ (x : ℕ). answered now d r (first_refusal (fit_tests_at x r.process.log.passed payloads d))) (sym stands.length)
    ∙ ap (λ (x : ℕ). answered now d r (first_refusal (fit_tests_at o.length x payloads d))) (sym stands.passed)
    ∙ ap (answered now d r) tested
    ∙ ap (λ (x : Result (Unit {0}) ExtendFault). answered now d r (list_reason x)) is
