use Rattle.std.proofs.Common.{ℕ, List, [], ◌∷◌, map, get_or, refl, arith}
use Rattle.std.specs.Ordering.{nat_cmp}
use Rattle.std.specs.BTreeMap.{get}
use Rattle.run_audit.specs.declared.line_kind.LineKind.{LineKind}
use Rattle.run_audit.specs.declared.line_kind.LineKind.TheVariants.{Node}
use Rattle.run_audit.specs.Kept.{found_or}
use Rattle.run_audit.proofs.Lining.{one_more, all_done}
use Rattle.run_audit.proofs.kinds.add_nodes.Goals as goal

pub loop-number-preserved : goal.loop-number-preserved
loop-number-preserved c =
    one_more (λ (numbers : List ℕ). map {B = ℕ × LineKind} (λ n. (n, Node)) numbers) ((get_or c.args.numbers.now c.loop-number.number-index 0, Node) ∷ [])
    (λ number behind. found_or (get nat_cmp c.add.new.kinds number) number behind)
    (λ number behind. found_or (get nat_cmp c.loop-number.kinds number) number behind)
    (λ number behind. found_or (get nat_cmp c.args.kinds.now number) number behind)
    c.args.numbers.now c.loop-number.number-index (get_or c.args.numbers.now c.loop-number.number-index 0) 0 (omega arith) refl (λ ys. refl)
    (c.in_ok-add.ensures {u = tt}) c.loop-number.invariant

pub returns : goal.returns
returns c =
    all_done (λ (numbers : List ℕ). map {B = ℕ × LineKind} (λ n. (n, Node)) numbers)
    (λ number behind. found_or (get nat_cmp c.loop-number.kinds number) number behind)
    (λ number behind. found_or (get nat_cmp c.args.kinds.now number) number behind)
    c.args.numbers.now c.loop-number.number-index (omega arith) refl c.loop-number.invariant
