-- What is marked in the log is marked where it is kept.
use Rattle.std.proofs.Common.{◌≡◌, sym, ◌∙◌, ap, subst, List, get_or, set, true, Some}
use Rattle.tw_types.specs.declared.message.Kept.{Kept}
use Rattle.tw_types.specs.Logs.{marked_at}
use Rattle.oal.specs.Recent.{Recent, place_of}
use Rattle.oal.specs.StandsFor.{StandsFor}
use Rattle.oal.proofs.Marking.{marked_inside, marked_outside}
use Rattle.oal.proofs.list.Oal.mark_early.Goals as goal

pub returns-in-Some-clause-log : goal.returns-in-Some-clause-log
returns-in-Some-clause-log c = λ log s.
    let o : Recent = c.args.self.now in
    let k : Kept = c.copy-kept.result in
    let place : place_of c.args.position o ≡ Some c.in-Some.place = sym c.in-Some.ensures.place in
    let items : c.as_slice.result.now ≡ o.kept = c.as_slice.ensures.items ∙ ap (λ (o : Recent). o.kept) c.self.view_is in
    let read : k ≡ get_or c.as_slice.result.now c.in-Some.place k = subst (λ (k : Kept). k ≡ get_or c.as_slice.result.now c.in-Some.place k) (sym c.copy-kept.ensures) c.index-as_slice-place.is in
    let there : k ≡ get_or o.kept c.in-Some.place k = read ∙ ap (λ ks. get_or ks c.in-Some.place k) items in
    let marked : Recent → Recent = λ (o : Recent). record o { kept = set o.kept c.in-Some.place (record k { early = true }) } in
    let same : record { length = c.self.inside.end; passed = c.self.inside.passed; kept = c.set.new.self } ≡ marked o =
    ap (λ (ks : List Kept). record { length = c.self.inside.end; passed = c.self.inside.passed; kept = ks }) c.set.ensures ∙ ap marked c.self.view_is in
    subst (λ (o : Recent). StandsFor o (marked_at c.args.position log)) (sym same) (marked_inside c.args.position c.in-Some.place o log k s place there)

pub returns-in_default-clause-log : goal.returns-in_default-clause-log
returns-in_default-clause-log c = λ log s. marked_outside c.args.position c.args.self.now log s (sym c.place.ensures.place ∙ c.in_default.is)
