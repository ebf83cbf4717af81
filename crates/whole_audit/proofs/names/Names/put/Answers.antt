use Rattle.whole_audit.specs.declared.names.Names.{Names}
use Rattle.whole_audit.proofs.Numbering.{names_put}
use Rattle.whole_audit.proofs.names.Names.put.Goals as goal

pub returns : goal.returns
returns c =
    let new : Names = record { nodes = c.insert.new.self } in
    names_put c.args.self.now new c.args.node c.args.count c.in_ok-insert.ensures.updates
