use Rattle.std.proofs.Common.{◌≡◌, true, false, sym, ap, ◌∙◌}
use Rattle.std.specs.Prelude.{◌==◌}
use Rattle.std.proofs.Math.ListN.{set}
use Rattle.declared_site.specs.SiteOf.{site_of}
use Rattle.net_model.specs.Site.{sender}
use Rattle.kme_shared.proofs.Mixing.{mixed_in, mixed_out}
use Rattle.kme_shared.proofs.rows.take_issuers.Goals.{then-leaves, else-leaves}
use Rattle.kme_shared.proofs.rows.take_issuers.Goals as goal

pub loop-place-preserved : goal.loop-place-preserved
loop-place-preserved g c =
    let i = c.loop-place.place in
    let lanes = c.args.lanes.now in
    let issuers = c.args.issuers.now in
    let row = c.args.row.now in
    let inv = c.loop-place.invariant in
    let s = site_of c.args.site.now in
    let n = c.args.node in
    let side = c.index-lanes-place in
    let told = sym (c.leaves.ensures ∙ ap (λ l. sender s l == n) c.lane.ensures) in
    elim c.if-leaves.branch [
      | then-leaves w ↦
          record {
            issuers = mixed_in (λ side. sender s side.lane == n) lanes i side.result c.loop-place-test.true side.is issuers row c.loop-place.issuers c.if-leaves.issuers c.loop-place.row w.index-row-place.result
                c.requires.issuers c.requires.row (told ∙ w.if-leaves.true) inv.issuers inv.row w.index-row-place.is (w.issuers-is ∙ ap (λ x. set c.loop-place.issuers i x) (w.swap.ensures.y_after ∙ sym w.index-row-place.is));
            row = mixed_in (λ side. sender s side.lane == n) lanes i side.result c.loop-place-test.true side.is row issuers c.loop-place.row c.if-leaves.row c.loop-place.issuers w.index-issuers-place.result
                c.requires.row c.requires.issuers (told ∙ w.if-leaves.true) inv.row inv.issuers w.index-issuers-place.is (w.row-is ∙ ap (λ x. set c.loop-place.row i x) (w.swap.ensures.x_after ∙ sym w.index-issuers-place.is));
          }
      | else-leaves w ↦
          record {
            issuers = mixed_out (λ side. sender s side.lane == n) lanes i side.result c.loop-place-test.true side.is issuers row c.loop-place.issuers c.if-leaves.issuers (told ∙ w.if-leaves.false) inv.issuers w.issuers-is;
            row = mixed_out (λ side. sender s side.lane == n) lanes i side.result c.loop-place-test.true side.is row issuers c.loop-place.row c.if-leaves.row (told ∙ w.if-leaves.false) inv.row w.row-is;
          }
    ]
