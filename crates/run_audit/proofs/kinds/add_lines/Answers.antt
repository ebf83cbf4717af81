use Rattle.std.proofs.Common.{List, [], ◌∷◌, map, refl, arith}
use Rattle.std.specs.Ordering.{nat_cmp}
use Rattle.std.specs.BTreeMap.{get}
use Rattle.run_types.specs.declared.line.Line.{Line}
use Rattle.run_audit.specs.Kinds.{kind_of_line}
use Rattle.run_audit.specs.Kept.{found_or}
use Rattle.run_audit.proofs.Lining.{one_more, all_done}
use Rattle.run_audit.proofs.kinds.add_lines.Goals as goal

pub loop-line-preserved : goal.loop-line-preserved
loop-line-preserved c =
    one_more (λ (lines : List Line). map kind_of_line lines) (kind_of_line c.line-item.result ∷ [])
    (λ number behind. found_or (get nat_cmp c.add_line.new.kinds number) number behind)
    (λ number behind. found_or (get nat_cmp c.loop-line.kinds number) number behind)
    (λ number behind. found_or (get nat_cmp c.args.kinds.now number) number behind)
    c.args.lines.now c.loop-line.line-index c.line-item.result c.line-item.result (omega arith) c.line-item.is (λ ys. refl)
    (c.in_ok-add_line.ensures {u = tt}) c.loop-line.invariant

pub returns : goal.returns
returns c =
    all_done (λ (lines : List Line). map kind_of_line lines)
    (λ number behind. found_or (get nat_cmp c.loop-line.kinds number) number behind)
    (λ number behind. found_or (get nat_cmp c.args.kinds.now number) number behind)
    c.args.lines.now c.loop-line.line-index (omega arith) refl c.loop-line.invariant
