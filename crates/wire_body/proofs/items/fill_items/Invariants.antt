use Rattle.std.proofs.Common.{◌≡◌, ◌+◌, ◌*◌, ◌-◌, length}
use Rattle.wire_body.specs.Lists.{items_at, list_at}
use Rattle.wire_body.proofs.items.fill_items.Given as goal

-- what is left to read decides
abbrev pub invariant-loop-i : goal.invariant-loop-i
invariant-loop-i g l = record {
  left : items_at g.T.Item.SIZE (g.T.Item.item_at l.rules) (l.count - l.i) l.items.items l.bytes (l.place + g.T.Item.SIZE * l.i) ≡ list_at g.T.Item.SIZE (g.T.Item.item_at l.rules) l.count l.bytes l.place;
  read : length l.items.items ≡ l.i;
}
