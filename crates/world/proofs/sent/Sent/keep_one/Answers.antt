use Rattle.std.proofs.Common.{◌≡◌, ◌≤◌, ◌∙◌, ap, refl, List, ℕ, [], ◌∷◌, ◌++◌, take, length, arith, length-append, map}
use Rattle.std.proofs.lemmas.List.{length-take}
use Rattle.world.specs.Datagrams.{at_place}
use Rattle.world.specs.declared.sent.Place.{Place}
use Rattle.world.proofs.Bytes.{appended, within_push, is_place, kept_push, written_first}
use Rattle.world.proofs.sent.Sent.keep_one.Goals as goal

-- the bytes that were added
abbrev added : goal.After-push → List ℕ
added c = take c.write-length.result c.write-length.new.out

bytes_grow : (c : goal.After-push) → c.extend_from_slice.new.self.items ≡ c.args.self.now.bytes.items ++ added c
bytes_grow c = appended c.extend_from_slice.result _ (added c) _ (c.extend_from_slice.ensures.succeeds (omega (arith, length-take c.write-length.result c.write-length.new.out))) c.extend_from_slice.ensures.items

abbrev place : goal.After-push → Place
place c = record { to = c.args.to; start = c.len-start.result; end = c.len-end.result }

places_grow : (c : goal.After-push) → c.push.new.self.items ≡ c.args.self.now.places.items ++ place c ∷ []
places_grow c = appended c.push.result _ (place c ∷ []) _ (c.push.ensures.succeeds (omega arith)) c.push.ensures.items

starts : (c : goal.After-push) → c.len-start.result ≡ length c.args.self.now.bytes.items
starts c = omega (arith, c.args.self.now.bytes.ok)

ends : (c : goal.After-push) → c.len-end.result ≡ length c.extend_from_slice.new.self.items
ends c = omega (arith, c.extend_from_slice.new.self.ok)

pub invariant_of-self : goal.invariant_of-self
invariant_of-self c =
    let longer : length c.args.self.now.bytes.items ≤ length c.extend_from_slice.new.self.items = rw (bytes_grow c) (omega (arith, length-append c.args.self.now.bytes.items (added c))) in
    record {
      within = rw (places_grow c) (within_push _ _ c.args.self.now.places.items (place c) longer c.args.self.now.within
          (is_place c.len-start.result c.len-end.result _ (place c) refl refl (omega (arith, starts c, ends c)) (omega (arith, ends c))));
    }

pub returns-clause-kept : goal.returns-clause-kept
returns-clause-kept c =
    let more = take c.write-length.result c.write-length.new.out in
    let p : Place = record { to = c.args.to; start = c.len-start.result; end = c.len-end.result } in
    let bytes : c.extend_from_slice.new.self.items ≡ c.args.self.now.bytes.items ++ more =
    appended c.extend_from_slice.result _ more _ (c.extend_from_slice.ensures.succeeds (omega (arith, length-take c.write-length.result c.write-length.new.out))) c.extend_from_slice.ensures.items in
    let places : c.push.new.self.items ≡ c.args.self.now.places.items ++ p ∷ [] = appended c.push.result _ (p ∷ []) _ (c.push.ensures.succeeds (omega arith)) c.push.ensures.items in
    let start : c.len-start.result ≡ length c.args.self.now.bytes.items = omega (arith, c.args.self.now.bytes.ok) in
    let end : c.len-end.result ≡ length (c.args.self.now.bytes.items ++ more) = omega (arith, c.extend_from_slice.new.self.ok, ap length bytes) in
    rw (bytes, places) (kept_push c.args.self.now.bytes.items more c.args.self.now.places.items p c.args.self.now.within start end ∙ ap (λ (xs : List ℕ). map (at_place c.args.self.now.bytes.items) c.args.self.now.places.items ++ (c.args.to, xs) ∷ []) (written_first c.write-length.new.out _ _ c.write-length.result c.write-length.ensures.bytes c.write-length.ensures.length))
