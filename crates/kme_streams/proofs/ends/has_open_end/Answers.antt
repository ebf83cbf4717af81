use Rattle.std.proofs.Common.{Bool, ◌||◌, ◌∙◌, ap, sym}
use Rattle.net_model.specs.Streams.{has_end}
use Rattle.declared_site.specs.SiteOf.{site_of}
use Rattle.kme_streams.proofs.ends.has_open_end.Goals as goal

pub returns-then-source : goal.returns-then-source
returns-then-source c v seen =
    c.if-source.true
    ∙ sym (ap (λ (b : Bool). b || has_end (site_of c.args.site.now) v c.args.opened.now.stream c.args.opened.now.peer)
    (sym (c.has_end-source.ensures (site_of c.args.site.now) v seen c.home.ensures) ∙ c.if-source.true))

pub returns-else-source : goal.returns-else-source
returns-else-source c v seen =
    c.has_end-peer.ensures (site_of c.args.site.now) v seen c.home-2.ensures
    ∙ sym (ap (λ (b : Bool). b || has_end (site_of c.args.site.now) v c.args.opened.now.stream c.args.opened.now.peer)
    (sym (c.has_end-source.ensures (site_of c.args.site.now) v seen c.home.ensures) ∙ c.if-source.false))
