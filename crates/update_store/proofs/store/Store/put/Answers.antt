-- There is room for an update that fills a hole or is stored, and what is true of a store stays so.
use Rattle.std.proofs.Common.{◌≡◌, ◌<◌, length, arith, sym, refl, true}
use Rattle.std.specs.Option.{option_copied}
use Rattle.tw_types.specs.Waiting.{Filled, Stored, MayPut, is_hole, putting}
use Rattle.update_store.specs.Inside.{stock_of}
use Rattle.update_store.proofs.Facts.{filled_room, filled_inside, filled_is_hole, stored_room, stored_inside}
use Rattle.update_store.proofs.store.Store.put.Goals as goal

pub push-requires : goal.push-requires
push-requires c =
    let s = c.self.inside in
    let answer : putting (option_copied c.args.view) c.args.kept.now (stock_of s).waiting ≡ Filled = rw (← c.self.view_is) at (sym c.in-Filled.ensures.answer) in
    let hole : is_hole c.args.kept.now.entry.id (stock_of s).waiting.held ≡ true = filled_is_hole (option_copied c.args.view) c.args.kept.now (stock_of s).waiting answer in
    let room : length s.payloads < 32 = filled_room s.n s.pending s.held s.payloads s.spare c.args.kept.now c.self.invariant hole in
    (omega arith, room)

pub invariant_of-self : goal.invariant_of-self
invariant_of-self c =
    let s = c.self.inside in
    let answer : putting (option_copied c.args.view) c.args.kept.now (stock_of s).waiting ≡ Filled = rw (← c.self.view_is) at (sym c.in-Filled.ensures.answer) in
    let hole : is_hole c.args.kept.now.entry.id (stock_of s).waiting.held ≡ true = filled_is_hole (option_copied c.args.view) c.args.kept.now (stock_of s).waiting answer in
    rw (c.push.ensures, c.copy.ensures) (filled_inside s.n s.pending s.held s.payloads s.spare c.args.kept.now c.self.invariant hole)

pub insert-requires-clause-room : goal.insert-requires-clause-room
insert-requires-clause-room c =
    let s = c.self.inside in
    let may : MayPut s.n (option_copied c.args.view) c.args.kept.now s.pending = rw (← c.self.view_is) at c.requires in
    let answer : putting (option_copied c.args.view) c.args.kept.now (stock_of s).waiting ≡ Stored = rw (← c.self.view_is) at (sym c.in-Stored.ensures.answer) in
    stored_room (option_copied c.args.view) c.args.kept.now s s.n may c.self.invariant (c.in-Stored.ensures.few refl) answer

pub invariant_of-self-in-Stored : goal.invariant_of-self-in-Stored
invariant_of-self-in-Stored c =
    let s = c.self.inside in
    let may : MayPut s.n (option_copied c.args.view) c.args.kept.now s.pending = rw (← c.self.view_is) at c.requires in
    let answer : putting (option_copied c.args.view) c.args.kept.now (stock_of s).waiting ≡ Stored = rw (← c.self.view_is) at (sym c.in-Stored.ensures.answer) in
    rw (c.insert.ensures, c.copy-in-Stored.ensures) (stored_inside (option_copied c.args.view) c.args.kept.now s s.n may c.self.invariant (c.in-Stored.ensures.few refl) answer)
