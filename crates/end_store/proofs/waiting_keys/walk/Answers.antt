use Rattle.std.proofs.Common.{arith}
use Rattle.end_store.proofs.Lines.{none_before}
use Rattle.end_store.proofs.waiting_keys.walk.Goals as goal

pub returns-clause-last : goal.returns-clause-last
returns-clause-last c =
    none_before c.args.known.now.me c.args.known.now.facts c.args.handed.now.pairs c.args.line.now c.args.from c.args.end c.requires
    (λ d low lt. c.loop-count.invariant d low (let t = c.loop-count-test.false in omega arith))
