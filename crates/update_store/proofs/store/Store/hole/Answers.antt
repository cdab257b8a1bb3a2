use Rattle.std.proofs.Common.{◌≡◌, arith}
use Rattle.std.specs.Prelude.{not, find}
use Rattle.std.specs.Option.{option_map}
use Rattle.std.proofs.lemmas.Grind.{common_steps}
use Rattle.tw_types.specs.declared.message.UpdateId.{UpdateId}
use Rattle.tw_types.specs.Updates.{has_update}
use Rattle.tw_types.specs.Waiting.{Held, ids_from, first_hole}
use Rattle.update_store.specs.Inside.{with_payloads}
use Rattle.update_store.proofs.Ids.{hole_told}
use Rattle.update_store.proofs.store.Store.hole.Goals as goal

pub returns-in-Some : goal.returns-in-Some
returns-in-Some c =
    let h : Held = with_payloads c.self.inside.payloads c.in-Some.held in
    let found : c.first_hole.result ≡ find (λ (i : UpdateId). not (has_update i h.payloads)) (ids_from h.first h.decision) =
    rw (c.entries_from-entries.ensures.exact, c.as_slice.ensures.items) at c.first_hole.ensures in
    let told : first_hole c.args.self.now.waiting.held ≡ option_map (λ (id : UpdateId). (id, h.source)) c.first_hole.result =
    rw (← c.self.view_is, c.in-Some.is, found) (hole_told h) in
    rw told (grind (arith, common_steps))
