use Rattle.std.proofs.Common.{arith}
use Rattle.kme_keys.proofs.Passing.{key_first, part_first}
use Rattle.kme_keys.proofs.holder.slave_place.Goals as goal

pub returns-in-Some-part_place-clause-first : goal.returns-in-Some-part_place-clause-first
returns-in-Some-part_place-clause-first c =
    part_first c.args.of c.args.to c.args.name c.args.known.now.facts c.in-Some-part_place.part c.in-Some-part_place.ensures.first (λ p x lt g. c.in-None.ensures.none.none p x (omega arith) g)

pub returns-in-None-part_place-2-clause-first : goal.returns-in-None-part_place-2-clause-first
returns-in-None-part_place-2-clause-first c =
    key_first c.args.of c.args.to c.args.name c.args.known.now.facts c.in-Some.key c.in-Some.ensures.first (λ p x lt g. c.in-None-part_place-2.ensures.none.none p x (omega arith) g)

pub returns-then-key-part-clause-first : goal.returns-then-key-part-clause-first
returns-then-key-part-clause-first c =
    let lt' = c.if-key-part.true in
    key_first c.args.of c.args.to c.args.name c.args.known.now.facts c.in-Some.key c.in-Some.ensures.first (λ p x lt g. c.in-Some-part_place-2.ensures.first.before p x (omega arith) (omega arith) g)

pub returns-else-key-part-clause-first : goal.returns-else-key-part-clause-first
returns-else-key-part-clause-first c =
    let le = c.if-key-part.false in
    part_first c.args.of c.args.to c.args.name c.args.known.now.facts c.in-Some-part_place-2.part c.in-Some-part_place-2.ensures.first (λ p x lt g. c.in-Some.ensures.first.before p x (omega arith) (omega arith) g)
