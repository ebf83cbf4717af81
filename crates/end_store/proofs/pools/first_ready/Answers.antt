use Rattle.std.proofs.Common.{[], ◌∷◌, ◌++◌, arith, sym, ◌∙◌, ap, subst}
use Rattle.qkd_base.specs.Name.{Name}
use Rattle.relay_core.specs.Knowledge.{Knowledge}
use Rattle.end_store.proofs.Lines.{keys_bound}
use Rattle.end_store.proofs.Gathered.{HasFirst, found_all, found_enough, found_one, named_as}
use Rattle.end_store.proofs.pools.first_ready.Goals as goal

pub returns-in-None : goal.returns-in-None
returns-in-None c = found_all c.args.store.now.known.me c.args.store.now.known.facts c.args.store.now.handed c.args.pool.now c.args.number c.names.after c.names.names.items c.names.invariant c.in-None.ensures.last

pub names-preserved-in-Continue-1 : goal.names-preserved-in-Continue-1
names-preserved-in-Continue-1 c =
    let named = named_as c.args.store.now.known.me c.me-me.result c.in-Some.count c.in-Some-new.name (c.me-me.ensures ∙ ap (λ (k : Knowledge). k.me) c.known.ensures) c.in-Some-new.ensures in
    subst (HasFirst c.args.store.now.known.me c.args.store.now.known.facts c.args.store.now.handed c.args.pool.now c.args.number c.in-Some.count)
    (ap (λ (n : Name). c.names.names.items ++ n ∷ []) (sym named) ∙ sym c.in_ok-push-in-Some.ensures.items)
    (found_one c.args.store.now.known.me c.args.store.now.known.facts c.args.store.now.handed c.args.pool.now c.args.number c.names.after c.in-Some.count c.names.names.items c.names.invariant c.in-Some.ensures.next (omega arith))

pub returns : goal.returns
returns c = found_enough c.args.store.now.known.me c.args.store.now.known.facts c.args.store.now.handed c.args.pool.now c.args.number c.names.after c.names.names.items c.names.invariant (omega arith)

pub names-smaller-in-Continue-1 : goal.names-smaller-in-Continue-1
names-smaller-in-Continue-1 c =
    let w = keys_bound c.args.store.now.known.me c.args.store.now.known.facts c.args.store.now.handed c.args.pool.now c.in-Some.count c.in-Some.ensures.next.waits in
    let b = c.in-Some.ensures.next.behind in
    omega arith
