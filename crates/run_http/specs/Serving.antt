-- The interface to the managers of a site.
use Rattle.std.specs.Prelude.{◌≡◌}
use Rattle.declared_site.specs.declared.site.Site.{Site}
use Rattle.qkd014_api.specs.declared.api.Api.{Api}

-- The interface has the site's names of nodes and its entitlements.
pub record IsApiOf (api : Api) (d : Site) : Type 0 where
  pub nodes : api.nodes ≡ d.nodes
  pub entitlements : api.entitlements ≡ d.entitlements
