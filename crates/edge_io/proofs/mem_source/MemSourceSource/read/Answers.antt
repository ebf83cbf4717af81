use Rattle.std.proofs.Common.{rules, ap, ◌∙◌, length}
use Rattle.edge_io.specs.Forms.{SourceForm}
use Rattle.edge_io.proofs.Fronts.{moved}
use Rattle.edge_io.proofs.mem_source.MemSourceSource.read.Goals as goal

pub returns-clause-bytes : goal.returns-clause-bytes
returns-clause-bytes c =
    let left = ap (λ (s : SourceForm). s.left) c.self.view_is in
    moved c.self.inside.bytes.items c.args.self.now.left c.left.result.now c.fill-count.new.into c.self.inside.at c.fill-count.result (length c.args.into.now) left (c.left.ensures ∙ left) c.fill-count.ensures.count (search rules) c.fill-count.ensures.front
