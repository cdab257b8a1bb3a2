use Rattle.std.proofs.Common.{◌∙◌, arith}
use Rattle.wire_body.proofs.Rows.{written_item}
use Rattle.wire_body.proofs.items.put_items.Goals as goal

pub loop-item-preserved : goal.loop-item-preserved
loop-item-preserved g c = record {
  end_is = c.put-end.ensures.end ∙ grind (arith, c.loop-item.invariant.end_is);
  text = written_item _ _ _ _ _ _ _ _ _ _ c.loop-item-test.true c.item-item.is c.loop-item.invariant.text c.put-end.ensures.text;
}
