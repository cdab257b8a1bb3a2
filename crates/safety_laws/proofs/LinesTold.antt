-- In one step, the lines that are told as delivered are what is printed as passed and as gone early, one after the other.
use Rattle.std.proofs.Common.{◌≡◌, refl, sym, ap, ◌∙◌, ℕ, List, [], ◌∷◌, ◌++◌, map, filter_map, Option, Some, None}
use Rattle.std.proofs.lemmas.List.{map-append, append_assoc}
use Rattle.std.specs.List.{AllByRecursion, cons_option}
use Rattle.std.specs.Option.{option_map}
use Rattle.tw_machine.specs.Types.{Decision, Kept, Outputs, Team}
use Rattle.tw_types.specs.declared.outputs.Pass as code_pass
use Rattle.tw_types.specs.Beliefs.{Log}
use Rattle.tw_types.specs.Decisions.{or_none}
use Rattle.tw_types.specs.Deliveries.{delivered_by, as_early, passes, run_passed, earlies, early_positions, weaks}
use Rattle.tw_types.specs.Logs.{log_at}
use Rattle.tw_types.specs.Printed.{pass_printed, update_printed}
use Rattle.tw_types.specs.Process.{Process}
use Rattle.tw_machine.specs.Delivering.{delivered_at, earlies_told, all_told}
use Rattle.tw_machine.specs.Event.{Event}
use Rattle.tw_machine.specs.Run.{AtPass, AtEarly, AtWait, Delivered}
use Rattle.tw_machine.specs.Standing.{last_decision}
use Rattle.tw_machine.specs.Step.{step}
use Rattle.tw_machine.proofs.Told.{Tells, Nothing, Whole, step_tells}
use Rattle.safety_laws.specs.Seen.{Delivery, Passed, Early, delivery_at}
use Rattle.safety_laws.proofs.PassedLists.{each_told}

-- how a row prints what was told
abbrev pub delivery_told : Delivered → Delivery
delivery_told x = delivery_at x.place x.update

-- the deliveries that are printed of a step
abbrev deliveries_printed : Outputs → List Delivery
deliveries_printed out = map Passed (map pass_printed out.passes) ++ map Early (map update_printed out.earlies)

-- told by this decision
abbrev IsBy : Decision → Delivered → Type 0
IsBy d x = (x.group ≡ d.group) × (x.turn ≡ d.turn)

pub record AgreesOnTold (d : Decision) (out : Outputs) (told : List Delivered) : Type 0 where
  pub each : AllByRecursion (IsBy d) told
  pub whole : map delivery_told told ≡ deliveries_printed out

-- what is passed

abbrev pass_told : Decision → code_pass.Pass → Delivered
pass_told d p = delivered_at d (AtPass p.position p.how) p.kept

passes_printed : (d : Decision) (ps : List code_pass.Pass) → map delivery_told (map (pass_told d) ps) ≡ map Passed (map pass_printed ps)
passes_printed d [] = refl
passes_printed d (p ∷ ps) = ap (λ rest. Passed (pass_printed p) ∷ rest) (passes_printed d ps)

-- what waited

waits_printed : (d : Decision) (ks : List Kept) → map delivery_told (map (delivered_at d AtWait) ks) ≡ map Early (map update_printed ks)
waits_printed d [] = refl
waits_printed d (k ∷ ks) = ap (λ rest. Early (update_printed k) ∷ rest) (waits_printed d ks)

-- what goes early of a list, at these positions

abbrev earlies_at : Decision → Log → List ℕ → List Delivered
earlies_at d log is = filter_map (λ (i : ℕ). option_map (λ (k : Kept). delivered_at d (AtEarly i) (as_early k)) (log_at i log)) is

-- the updates there
abbrev early_ones : Log → List ℕ → List Kept
early_ones log is = filter_map (λ (i : ℕ). option_map as_early (log_at i log)) is

earlies_printed : (d : Decision) (log : Log) (is : List ℕ) → map delivery_told (earlies_at d log is) ≡ map Early (map update_printed (early_ones log is))
earlies_printed d log [] = refl
earlies_printed d log (i ∷ is) = go (log_at i log) (earlies_printed d log is)
  where
    go : (o : Option Kept) → map delivery_told (earlies_at d log is) ≡ map Early (map update_printed (early_ones log is)) →
        map delivery_told (cons_option (option_map (λ (k : Kept). delivered_at d (AtEarly i) (as_early k)) o) (earlies_at d log is)) ≡ map Early (map update_printed (cons_option (option_map as_early o) (early_ones log is)))
    go None rest = rest
    go (Some k) rest = ap (λ rest. Early (update_printed k) ∷ rest) rest

-- and all that

-- early ones and those that waited are printed one after the other
early_joined : (xs ys : List Kept) → map Early (map update_printed (xs ++ ys)) ≡ map Early (map update_printed xs) ++ map Early (map update_printed ys)
early_joined xs ys = ap (λ ks. map Early ks) (map-append update_printed xs ys) ∙ map-append Early (map update_printed xs) (map update_printed ys)

all_printed : (team : Team) (d : Decision) (log : Log) (pending : List Kept) → map delivery_told (all_told team d log pending)
    ≡ map Passed (map pass_printed (passes team d log)) ++ map Early (map update_printed (earlies team d (run_passed team d log).passed (run_passed team d log) ++ weaks pending))
unfolding earlies
all_printed team d log pending =
    let after : Log = run_passed team d log in
    let ps : List Delivered = map (pass_told d) (passes team d log) in
    let es : List Delivered = earlies_told team d after.passed after in
    let ws : List Delivered = map (delivered_at d AtWait) (weaks pending) in
    let shown_passes = map Passed (map pass_printed (passes team d log)) in
    let shown_earlies = map Early (map update_printed (early_ones after (early_positions team d after.passed after))) in
    let shown_waits = map Early (map update_printed (weaks pending)) in
    map-append delivery_told (ps ++ es) ws ∙ ap (λ xs. xs ++ map delivery_told ws) (map-append delivery_told ps es)
    ∙ ap (λ xs. xs ++ map delivery_told es ++ map delivery_told ws) (passes_printed d (passes team d log))
    ∙ ap (λ xs. shown_passes ++ xs ++ map delivery_told ws) (earlies_printed d after (early_positions team d after.passed after))
    ∙ ap (λ xs. shown_passes ++ shown_earlies ++ xs) (waits_printed d (weaks pending))
    ∙ append_assoc shown_passes shown_earlies shown_waits
    ∙ ap (λ xs. shown_passes ++ xs) (sym (early_joined (early_ones after (early_positions team d after.passed after)) (weaks pending)))

told_agrees : (team : Team) (last : Option Decision) (out : Outputs) (told : List Delivered) → Tells team last out told → AgreesOnTold (or_none last) out told
told_agrees team last out told (Nothing passes earlies none) = record { each = rw none tt; whole = rw (none, passes, earlies) refl }
told_agrees team last out told (Whole log pending passes earlies is) = record {
  each = rw is (each_told (IsBy (or_none last)) team (or_none last) log pending (λ i k at may below. (refl, refl)) (λ i k j at early. (refl, refl)) (λ k j early. (refl, refl)));
  whole = ap (λ ds. map delivery_told ds) is ∙ all_printed team (or_none last) log pending
      ∙ ap (λ ps. map Passed (map pass_printed ps) ++ map Early (map update_printed (earlies_of log pending))) (sym passes)
      ∙ ap (λ ks. map Passed (map pass_printed out.passes) ++ map Early (map update_printed ks)) (sym earlies);
}
  where
    earlies_of : Log → List Kept → List Kept
    earlies_of log pending = (delivered_by team (or_none last) log pending).earlies ++ (delivered_by team (or_none last) log pending).weaks

-- A step prints just what it tells as delivered, in the same order, by the last decision that its process has then.
pub step_agrees_on_told : (team : Team) (h : ℕ) (e : Event) (p : Process) → AgreesOnTold (or_none (last_decision (step team h e p).process)) (step team h e p).out (step team h e p).delivered
step_agrees_on_told team h e p = told_agrees team (last_decision (step team h e p).process) (step team h e p).out (step team h e p).delivered (step_tells team h e p)
