use Rattle.std.proofs.Common.{min, ◌∙◌, ap, arith}
use Rattle.std.specs.Prelude.{◌/◌}
use Rattle.kme_keys.proofs.Made.{filled_full, filled_memory, filled_makes, unhanded_seen, keys_seen, fresh_seen}
use Rattle.kme_keys.proofs.fresh_keys.filled.Goals as goal

pub returns-then-unhanded_count-count-gt4096 : goal.returns-then-unhanded_count-count-gt4096
returns-then-unhanded_count-count-gt4096 c v seen =
    let p = c.args.pool.now in
    let counted = c.unhanded_count.ensures ∙ ap (min 4097) (unhanded_seen v c.args.store.now seen p.master p.slave p.bits) in
    filled_full v p.master p.slave p.bits c.args.count c.args.random.now c.args.route c.unhanded_count.result counted (omega arith)

pub returns-in_default : goal.returns-in_default
returns-in_default c v seen =
    let p = c.args.pool.now in
    let counted = c.unhanded_count.ensures ∙ ap (min 4097) (unhanded_seen v c.args.store.now seen p.master p.slave p.bits) in
    filled_memory v p.master p.slave p.bits c.args.count c.args.random.now c.args.route c.unhanded_count.result counted (omega arith)

pub returns-in-Err : goal.returns-in-Err
returns-in-Err c v seen =
    let p = c.args.pool.now in
    let counted = c.unhanded_count.ensures ∙ ap (min 4097) (unhanded_seen v c.args.store.now seen p.master p.slave p.bits) in
    filled_memory v p.master p.slave p.bits c.args.count c.args.random.now c.args.route c.unhanded_count.result counted (omega arith)

pub returns-in-Ok-new_keys : goal.returns-in-Ok-new_keys
returns-in-Ok-new_keys c v seen =
    let p = c.args.pool.now in
    let counted = c.unhanded_count.ensures ∙ ap (min 4097) (unhanded_seen v c.args.store.now seen p.master p.slave p.bits) in
    filled_makes v p.master p.slave p.bits c.args.count c.args.random.now c.args.route c.unhanded_count.result counted (omega arith) c.in-Ok-new_keys.batch c.in-Ok.first
    (c.in-Ok-new_keys.ensures ∙ keys_seen v c.args.store.now seen p.master p.slave c.args.route (p.bits / 8) c.args.random.now 0 c.args.count)
    (c.in-Ok.ensures.name ∙ fresh_seen v c.args.store.now seen 0)
