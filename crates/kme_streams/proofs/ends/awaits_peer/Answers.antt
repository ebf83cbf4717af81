use Rattle.std.proofs.Common.{Bool, ◌&&◌, not, ◌∙◌, ap, sym}
use Rattle.net_model.specs.Streams.{has_joined}
use Rattle.kme_streams.proofs.ends.awaits_peer.Goals as goal

pub returns-then-is_home : goal.returns-then-is_home
returns-then-is_home c v seen =
    ap not (c.has_joined-is_unjoined.ensures v seen) ∙ sym (ap (λ (b : Bool). b && not (has_joined v c.args.opened.now.stream)) (sym (c.is_home.ensures v seen) ∙ c.if-is_home.true))
