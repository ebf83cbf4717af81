use Rattle.std.proofs.Common.{Bool, ◌&&◌, not, ◌∙◌, ap, sym}
use Rattle.net_model.specs.Streams.{has_joined}
use Rattle.kme_streams.proofs.chunk_handout.is_early.Goals as goal

pub returns-then-eq : goal.returns-then-eq
returns-then-eq c v seen =
    ap not (c.has_joined-is_unjoined.ensures v seen) ∙ sym (ap (λ (b : Bool). b && not (has_joined v c.args.opened.now.stream)) (sym c.eq.ensures ∙ c.if-eq.true))
