use Rattle.std.proofs.Common.{ℕ, ◌∙◌, ap, sym}
use Rattle.std.specs.Prelude.{◌==◌}
use Rattle.declared_site.specs.SiteOf.{site_of}
use Rattle.kme_streams.proofs.ends.is_home.Goals as goal

pub returns : goal.returns
returns c v seen =
    c.eq.ensures ∙ ap (λ (x : ℕ). x == c.me.result) c.home.ensures ∙ ap (λ (x : ℕ). (site_of c.args.site.now).home c.args.sae == x) (sym (c.me.ensures v seen))
