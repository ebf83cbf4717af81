use Rattle.end_store.specs.Pooled.{ends_view}
use Rattle.kme_keys.proofs.Searched.{no_candidate}
use Rattle.std.proofs.Common.{sym, true, ◌∙◌}
use Rattle.kme_keys.proofs.group_ready.ready_groups.Goals as goal

pub returns-in-None : goal.returns-in-None
returns-in-None c =
    let p = c.args.pool.now in
    c.new.ensures.items ∙ sym (no_candidate (ends_view c.args.store.now) p.master p.slaves.now p.bits true c.args.number c.requires c.in-None.ensures)
