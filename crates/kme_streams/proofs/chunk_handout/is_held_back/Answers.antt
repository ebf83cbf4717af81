use Rattle.std.proofs.Common.{Bool, ◌&&◌, not, ◌∙◌, ap, sym}
use Rattle.net_model.specs.Table.{name_of}
use Rattle.net_model.specs.Decision.{is_confirmed}
use Rattle.kme_streams.proofs.chunk_handout.is_held_back.Goals as goal

pub returns-then-at_source : goal.returns-then-at_source
returns-then-at_source c v seen =
    ap not (c.is_confirmed-is_unconfirmed.ensures v seen) ∙ sym (ap (λ (b : Bool). b && not (is_confirmed v (name_of c.args.fact.now))) c.if-at_source.true)
