use Rattle.std.proofs.Common.{◌≡◌, ◌+◌, ◌*◌, take}
use Rattle.std.specs.List.{flat_map}
use Rattle.wire_head.specs.Writing.{Writes}
use Rattle.wire_body.proofs.items.put_items.Given as goal

-- the items written so far
abbrev pub invariant-loop-item : goal.invariant-loop-item
invariant-loop-item g l = record {
  end_is : l.end ≡ l.place + g.T.Item.SIZE * l.item-index;
  text : Writes l.fn.out l.place (flat_map g.T.Item.item_bytes (take l.item-index l.items)) l.out l.end;
}
