use Rattle.std.proofs.Common.{List, ℕ, subst, sym, ◌∙◌, arith}
use Rattle.ordered_set.specs.Entries.{IsNext, IsLast}
use Rattle.end_store.proofs.Lines.{none_before, passed, passed_one, skipped, gone, next_behind}
use Rattle.end_store.proofs.waiting_keys.next_listed.Goals as goal

pub returns-in-None-clause-last : goal.returns-in-None-clause-last
returns-in-None-clause-last c =
    let last = subst (λ (e : List ℕ). IsLast c.args.index.now e) c.entry.ensures c.in-None.ensures.last in
    none_before c.args.known.now.me c.args.known.now.facts c.args.handed.now.pairs c.args.line.now c.args.from c.args.end c.requires.end
    (passed c.args.known.now.me c.args.known.now.facts c.args.handed.now.pairs c.args.line.now c.args.from c.loop-start.start c.args.end c.loop-start.invariant.none
    (gone c.args.known.now.me c.args.known.now.facts c.args.handed.now.pairs c.args.index.now c.args.line.now c.loop-start.start c.args.end c.requires.waiting c.ranges.end.fits last))

pub returns-then-end-count-clause-last : goal.returns-then-end-count-clause-last
returns-then-end-count-clause-last c =
    let next = subst (λ (e : List ℕ). IsNext c.args.index.now e c.in-Some.count) c.entry.ensures c.in-Some.ensures.next in
    none_before c.args.known.now.me c.args.known.now.facts c.args.handed.now.pairs c.args.line.now c.args.from c.args.end c.requires.end
    (λ d low lt. passed c.args.known.now.me c.args.known.now.facts c.args.handed.now.pairs c.args.line.now c.args.from c.loop-start.start c.in-Some.count c.loop-start.invariant.none
    (skipped c.args.known.now.me c.args.known.now.facts c.args.handed.now.pairs c.args.index.now c.args.line.now c.loop-start.start c.in-Some.count c.requires.waiting next)
    d low (let t = c.if-end-count.true in omega arith))

pub returns-then-is_waiting-clause-next : goal.returns-then-is_waiting-clause-next
returns-then-is_waiting-clause-next c =
    let next = subst (λ (e : List ℕ). IsNext c.args.index.now e c.in-Some.count) c.entry.ensures c.in-Some.ensures.next in
    record {
      behind = let le = next_behind c.args.line.now c.args.index.now c.loop-start.start c.in-Some.count next in let a = c.loop-start.invariant.after in omega arith;
      waits = sym c.is_waiting.ensures ∙ c.if-is_waiting.true;
      first = passed c.args.known.now.me c.args.known.now.facts c.args.handed.now.pairs c.args.line.now c.args.from c.loop-start.start c.in-Some.count c.loop-start.invariant.none
          (skipped c.args.known.now.me c.args.known.now.facts c.args.handed.now.pairs c.args.index.now c.args.line.now c.loop-start.start c.in-Some.count c.requires.waiting next);
    }

pub loop-start-smaller : goal.loop-start-smaller
loop-start-smaller c =
    let next = subst (λ (e : List ℕ). IsNext c.args.index.now e c.in-Some.count) c.entry.ensures c.in-Some.ensures.next in
    let le = next_behind c.args.line.now c.args.index.now c.loop-start.start c.in-Some.count next in
    omega arith

pub loop-start-preserved : goal.loop-start-preserved
loop-start-preserved c =
    let next = subst (λ (e : List ℕ). IsNext c.args.index.now e c.in-Some.count) c.entry.ensures c.in-Some.ensures.next in
    record {
      after = let le = next_behind c.args.line.now c.args.index.now c.loop-start.start c.in-Some.count next in let a = c.loop-start.invariant.after in omega arith;
      none = passed_one c.args.known.now.me c.args.known.now.facts c.args.handed.now.pairs c.args.line.now c.args.from c.in-Some.count
          (passed c.args.known.now.me c.args.known.now.facts c.args.handed.now.pairs c.args.line.now c.args.from c.loop-start.start c.in-Some.count c.loop-start.invariant.none
          (skipped c.args.known.now.me c.args.known.now.facts c.args.handed.now.pairs c.args.index.now c.args.line.now c.loop-start.start c.in-Some.count c.requires.waiting next))
          (sym c.is_waiting.ensures ∙ c.if-is_waiting.false);
    }
