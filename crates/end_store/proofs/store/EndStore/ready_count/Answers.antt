use Rattle.std.proofs.Common.{List, length, length-take, take, ◌∙◌, sym, ap}
use Rattle.qkd_base.specs.Name.{Name}
use Rattle.end_store.specs.Pooled.{ends_view, ready_names}
use Rattle.end_store.proofs.Gathered.{ready_pool, no_pool, take_none}
use Rattle.end_store.proofs.store.EndStore.ready_count.Goals as goal

pub returns-in-None : goal.returns-in-None
returns-in-None c = sym (ap (λ (ns : List Name). length (take c.args.number ns)) (no_pool (ends_view c.args.self.now) c.args.pool.now c.in-None.ensures) ∙ ap (λ (ns : List Name). length ns) (take_none c.args.number))

pub returns-in-Some : goal.returns-in-Some
returns-in-Some c =
    c.ready.ensures ∙ sym (length-take c.args.number (ready_names c.args.self.now.known.me c.args.self.now.known.facts c.args.self.now.handed c.in-Some.keys))
    ∙ ap (λ (ns : List Name). length (take c.args.number ns)) (ready_pool (ends_view c.args.self.now) c.args.pool.now c.in-Some.keys c.in-Some.ensures)
