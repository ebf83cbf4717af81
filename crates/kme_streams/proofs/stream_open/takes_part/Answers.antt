use Rattle.std.proofs.Common.{Bool, ◌||◌, ◌∙◌, ap, sym}
use Rattle.kme_streams.specs.Calls.{is_joined_peer}
use Rattle.kme_streams.proofs.stream_open.takes_part.Goals as goal

pub returns-else-eq : goal.returns-else-eq
returns-else-eq c v seen =
    c.is_joined_peer.ensures v seen ∙ sym (ap (λ (b : Bool). b || is_joined_peer v c.args.caller c.args.opened.now) (sym c.eq.ensures ∙ c.if-eq.false))
