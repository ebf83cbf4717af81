use Rattle.std.proofs.Common.{◌≡◌, List, take, ◌∙◌, sym, ap, subst}
use Rattle.std.specs.Prelude.{IfOk}
use Rattle.qkd_base.specs.Name.{Name}
use Rattle.end_store.specs.Pooled.{ends_view}
use Rattle.end_store.proofs.Gathered.{ready_pool, no_pool, take_none}
use Rattle.end_store.proofs.store.EndStore.ready_keys.Goals as goal

pub returns-in-None : goal.returns-in-None
returns-in-None c = c.new.ensures.items ∙ sym (ap (λ (ns : List Name). take c.args.number ns) (no_pool (ends_view c.args.self.now) c.args.pool.now c.in-None.ensures) ∙ take_none c.args.number)

pub returns-in-Some : goal.returns-in-Some
returns-in-Some c =
    subst (λ (ns : List Name). IfOk c.first_ready.result (λ names. names.items ≡ take c.args.number ns)) (ready_pool (ends_view c.args.self.now) c.args.pool.now c.in-Some.keys c.in-Some.ensures) c.first_ready.ensures
