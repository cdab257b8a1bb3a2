-- The items behind the one that was read decide, and none is left at the end.
use Rattle.std.proofs.Common.{◌+◌, ◌∙◌, ap, arith}
use Rattle.std.proofs.lemmas.List.{length_push}
use Rattle.std.proofs.lemmas.Result.{err_from_is_err_and}
use Rattle.wire_body.proofs.Rows.{items_on, items_all, items_fault, items_first, none_read, is_room}
use Rattle.wire_body.proofs.items.fill_items.Goals as goal

pub loop-i-preserved : goal.loop-i-preserved
loop-i-preserved g c =
    let read = rw (c.as_slice.ensures.value, c.SIZE.ensures) at c.read.ensures in
    record {
      left = rw c.push.ensures.items (items_on g.T.Item.SIZE (g.T.Item.item_at c.args.rules.now) c.args.bytes.now c.loop-i.items.items c.args.count c.loop-i.i c.args.place c.in_ok-item.item (omega arith) read c.in_ok-item.was c.loop-i.invariant.left);
      read = rw c.push.ensures.items (length_push c.loop-i.items.items c.in_ok-item.item ∙ ap (λ n. n + 1) c.loop-i.invariant.read);
    }

pub returns : goal.returns
returns g c = record { exact = items_all g.T.Item.SIZE (g.T.Item.item_at c.args.rules.now) c.args.bytes.now c.loop-i.items.items c.args.count c.loop-i.i _ (omega arith) c.loop-i.invariant.left }

pub loop-i-init : goal.loop-i-init
loop-i-init g c = record {
  left = items_first g.T.Item.SIZE (g.T.Item.item_at c.args.rules.now) c.args.bytes.now _ c.args.count c.args.place (cc);
  read = none_read _ (cc);
}

pub overflow_mul-SIZE : goal.overflow_mul-SIZE
overflow_mul-SIZE g c =
    let room = is_room g.T.Item.SIZE c.loop-i.i c.args.count c.args.place g.met.T.Item.small (rw c.from-i-end.ensures at c.loop-i-test.true) c.requires.place in
    rw c.SIZE.ensures (omega (arith, room))

pub overflow_add-place : goal.overflow_add-place
overflow_add-place g c =
    let room = is_room g.T.Item.SIZE c.loop-i.i c.args.count c.args.place g.met.T.Item.small (rw c.from-i-end.ensures at c.loop-i-test.true) c.requires.place in
    rw c.SIZE.ensures (omega (arith, room))

pub read-requires : goal.read-requires
read-requires g c = rw c.SIZE.ensures (is_room g.T.Item.SIZE c.loop-i.i c.args.count c.args.place g.met.T.Item.small (rw c.from-i-end.ensures at c.loop-i-test.true) c.requires.place)

pub returns-in_err-item : goal.returns-in_err-item
returns-in_err-item g c =
    let read = rw (c.as_slice.ensures.value, c.SIZE.ensures) at c.read.ensures in
    let all = items_fault g.T.Item.SIZE (g.T.Item.item_at c.args.rules.now) c.args.bytes.now c.loop-i.items.items c.args.count c.loop-i.i c.args.place c.in_err-item.field-0.0 (omega arith) read c.in_err-item.was c.loop-i.invariant.left in
    let fault = err_from_is_err_and c.from_residual.result c.from_residual.ensures.1 in
    record { exact = rw (fault.1, fault.2) all }
