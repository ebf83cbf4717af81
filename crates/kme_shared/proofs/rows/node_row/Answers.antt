use Rattle.std.proofs.Common.{◌≡◌, List, length, map, take, drop, ◌++◌, sym, ap, subst, ◌∙◌, arith}
use Rattle.std.specs.Prelude.{◌==◌}
use Rattle.std.specs.List.{AllZip}
use Rattle.declared_site.specs.SiteOf.{site_of}
use Rattle.net_model.specs.Site.{sender}
use Rattle.lane_shares.specs.Names.{Fits}
use Rattle.par_lanes.specs.Grants.{IsShareOf}
use Rattle.shared_objects.proofs.Lasts.{written_back}
use Rattle.shared_objects.proofs.Zips.{zip_same, zip_weaker}
use Rattle.kme_shared.specs.Rows.{mix, IsRowOf}
use Rattle.kme_shared.proofs.Leaving.{issuers_fit, other_grant, node_row}
use Rattle.kme_shared.proofs.rows.node_row.Goals as goal

pub take_issuers-requires-clause-issuers : goal.take_issuers-requires-clause-issuers
take_issuers-requires-clause-issuers g c = zip_same Fits c.args.shares.now c.bare_row.new.issuers c.in_ok-row.ensures.fits ∙ c.requires.sides

pub take_issuers-requires-clause-row : goal.take_issuers-requires-clause-row
take_issuers-requires-clause-row g c =
    c.as_mut_slice.ensures.len ∙ c.in_ok-row.row.ok.0 ∙ zip_same (λ d s. IsShareOf d 0 s) c.args.shares.now c.in_ok-row.row.items c.in_ok-row.ensures.bare ∙ c.requires.sides

pub returns-clause-fits : goal.returns-clause-fits
returns-clause-fits g c =
    let given = c.as_mut_slice.ensures.value in
    let marks = map (λ side. sender (site_of c.args.site.now) side.lane == c.args.node) c.args.lanes.now in
    issuers_fit (site_of c.args.site.now) c.args.node c.args.lanes.now c.args.shares.now c.args.issuers.now c.bare_row.new.issuers c.take_issuers.new.issuers c.in_ok-row.row.items c.take_issuers.new.row c.in_ok-row.ensures.same
    c.in_ok-row.ensures.fits c.in_ok-row.ensures.bare (c.take_issuers.ensures.issuers ∙ ap (mix marks c.bare_row.new.issuers) given) (c.take_issuers.ensures.row ∙ ap (λ xs. mix marks xs c.bare_row.new.issuers) given)

pub returns-clause-others : goal.returns-clause-others
returns-clause-others g c =
    let given = c.as_mut_slice.ensures.value in
    let marks = map (λ side. sender (site_of c.args.site.now) side.lane == c.args.node) c.args.lanes.now in
    λ i side at apart.
    other_grant (site_of c.args.site.now) c.args.node c.args.lanes.now c.args.shares.now c.args.issuers.now c.bare_row.new.issuers c.take_issuers.new.issuers c.in_ok-row.row.items c.take_issuers.new.row c.in_ok-row.ensures.same
    c.in_ok-row.ensures.fits c.in_ok-row.ensures.bare (c.take_issuers.ensures.issuers ∙ ap (mix marks c.bare_row.new.issuers) given) (c.take_issuers.ensures.row ∙ ap (λ xs. mix marks xs c.bare_row.new.issuers) given)
    i side at apart

pub returns-clause-row : goal.returns-clause-row
returns-clause-row g c =
    let given = c.as_mut_slice.ensures.value in
    let marks = map (λ side. sender (site_of c.args.site.now) side.lane == c.args.node) c.args.lanes.now in
    let row = node_row (site_of c.args.site.now) c.args.node c.args.lanes.now c.args.shares.now c.args.issuers.now c.bare_row.new.issuers c.take_issuers.new.issuers c.in_ok-row.row.items c.take_issuers.new.row c.in_ok-row.ensures.same
    c.in_ok-row.ensures.fits c.in_ok-row.ensures.bare (c.take_issuers.ensures.issuers ∙ ap (mix marks c.bare_row.new.issuers) given) (c.take_issuers.ensures.row ∙ ap (λ xs. mix marks xs c.bare_row.new.issuers) given)
    c.requires.sides in
    let long : length c.take_issuers.new.row ≡ c.in_ok-row.row.len = c.take_issuers.auto.row ∙ c.as_mut_slice.ensures.len in
    let back = written_back c.in_ok-row.row.len c.take_issuers.new.row c.in_ok-row.row.items long in
    subst (λ xs. IsRowOf (site_of c.args.site.now) c.args.node c.args.lanes.now c.args.shares.now c.args.issuers.now xs) (sym back) row
