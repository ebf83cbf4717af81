use Rattle.std.proofs.Common.{Bool, ◌&&◌, ◌∙◌, ap, sym}
use Rattle.net_model.specs.Streams.{has_joined}
use Rattle.kme_streams.proofs.stream_open.is_joined_peer.Goals as goal

pub returns-then-eq : goal.returns-then-eq
returns-then-eq c v seen =
    c.has_joined-has_joined.ensures v seen ∙ sym (ap (λ (b : Bool). b && has_joined v c.args.opened.now.stream) (sym c.eq.ensures ∙ c.if-eq.true))
