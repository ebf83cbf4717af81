use Rattle.std.specs.Prelude.{◌/◌}
use Rattle.end_store.specs.Pooled.{ends_view}
use Rattle.kme_keys.proofs.GroupsMade.{one_group}
use Rattle.kme_keys.proofs.group_fill.new_groups.Goals as goal

pub loop-turn-preserved : goal.loop-turn-preserved
loop-turn-preserved c =
    let p = c.args.pool.now in
    record {
      keys = one_group (ends_view c.args.store.now) p.master c.args.routes.now (p.bits / 8) c.args.random.now c.loop-turn.left.now c.first_octets-bytes.result.now c.octets_behind-left.result.now
          c.loop-turn.more c.in_ok-more.more c.args.count c.loop-turn._turn c.in_ok-key.key c.loop-turn.batch c.push_parts.new.batch
          c.loop-turn.invariant.keys c.loop-turn-test.true c.in_ok-key.ensures.name c.first_octets-bytes.ensures c.in_ok-more.ensures.parts c.octets_behind-left.ensures c.in_ok-more.ensures.next;
      bound = c.in_ok-more.ensures.bound;
    }
