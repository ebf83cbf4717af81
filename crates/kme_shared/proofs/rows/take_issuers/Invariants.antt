use Rattle.std.proofs.Common.{◌≡◌, ◌+◌, map, take, length}
use Rattle.std.specs.Prelude.{◌==◌}
use Rattle.declared_site.specs.SiteOf.{site_of}
use Rattle.net_model.specs.Site.{sender}
use Rattle.kme_shared.specs.Rows.{mix}
use Rattle.kme_shared.proofs.rows.take_issuers.Given as goal

abbrev pub invariant-loop-place : goal.invariant-loop-place
invariant-loop-place g l = record {
  issuers : l.issuers ≡ mix (map (λ side. sender (site_of l.site) side.lane == l.node) (take l.place l.lanes)) l.fn.issuers l.fn.row;
  row : l.row ≡ mix (map (λ side. sender (site_of l.site) side.lane == l.node) (take l.place l.lanes)) l.fn.row l.fn.issuers;
}
