use Rattle.std.proofs.Common.{◌≤◌, arith}
use Rattle.tag_bound.specs.Differences.{count_giving, most_blocks}
use Rattle.tag_bound.proofs.Texts.{octets_from}
use Rattle.tag_bound.proofs.Bound.{count_bounded, elements_from, most_within}
use Rattle.tag_bound.proofs.roots.count.Goals as goal

pub overflow_cast-result : goal.overflow_cast-result
overflow_cast-result c =
    let few : count_giving c.args.a.now c.args.b.now c.args.difference c.args.keys.now ≤ most_blocks c.args.a.now c.args.b.now =
    count_bounded c.args.a.now c.args.b.now c.args.difference c.args.keys.now
    (octets_from c.args.a.now (λ i. let fits = c.type_inv.a i in omega arith)) (octets_from c.args.b.now (λ i. let fits = c.type_inv.b i in omega arith)) c.requires.texts
    (elements_from c.args.keys.now (λ i. let fits = c.type_inv.keys i in omega arith)) c.requires.keys in
    omega (arith, c.giving.ensures, few, most_within c.args.a.now c.args.b.now c.requires.texts)

pub returns-clause-few : goal.returns-clause-few
returns-clause-few c =
    let few : count_giving c.args.a.now c.args.b.now c.args.difference c.args.keys.now ≤ most_blocks c.args.a.now c.args.b.now =
    count_bounded c.args.a.now c.args.b.now c.args.difference c.args.keys.now
    (octets_from c.args.a.now (λ i. let fits = c.type_inv.a i in omega arith)) (octets_from c.args.b.now (λ i. let fits = c.type_inv.b i in omega arith)) c.requires.texts
    (elements_from c.args.keys.now (λ i. let fits = c.type_inv.keys i in omega arith)) c.requires.keys in
    omega (arith, c.giving.ensures, c.max.ensures, c.block_count.ensures, c.block_count-2.ensures, few)
