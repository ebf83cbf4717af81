use Rattle.std.proofs.Common.{arith}
use Rattle.report_json.proofs.Keys.{one_more}
use Rattle.report_json.proofs.key_items.key_objects.Goals as goal

pub loop-key-preserved : goal.loop-key-preserved
loop-key-preserved c =
    one_more c.loop-key.values.items c.push.new.self.items c.in_ok-key_object.field-0 c.args.keys.now c.loop-key.key-index c.key-item.result (omega arith) c.key-item.is
    c.in_ok-key_object.ensures c.in_ok-push.ensures.items c.loop-key.invariant
