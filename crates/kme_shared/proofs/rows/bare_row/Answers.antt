use Rattle.std.proofs.Common.{◌≡◌, ◌<◌, ◌+◌, Option, Some, length, take, refl, sym, ap, subst, ◌∙◌, arith}
use Rattle.std.specs.List.{AllZip}
use Rattle.std.proofs.lemmas.Option.{slice_get_read}
use Rattle.lane_shares.specs.Names.{knows, Fits}
use Rattle.par_lanes.specs.Grants.{IsShareOf}
use Rattle.shared_objects.proofs.Zips.{zip_at, zip_same, zip_set}
use Rattle.kme_shared.proofs.Leaving.{zip_more, same_set}
use Rattle.kme_shared.proofs.rows.bare_row.Goals as goal

pub bounds-issuers-place : goal.bounds-issuers-place
bounds-issuers-place c = let long = zip_same Fits c.args.shares.now c.loop-place.issuers c.loop-place.invariant.fits in omega (arith, long, c.loop-place-test.true)

pub bare-requires : goal.bare-requires
bare-requires c =
    let i = c.loop-place.place in
    let shares = c.args.shares.now in
    let issuers = c.loop-place.issuers in
    let one = c.index-shares-place in
    let issuer = c.index-issuers-place in
    let long = zip_same Fits shares issuers c.loop-place.invariant.fits in
    subst (Fits one.result) issuer.is
    (zip_at Fits shares issuers i one.result issuer.result c.loop-place.invariant.fits (slice_get_read shares (length shares) i one.result refl c.loop-place-test.true one.is)
    (slice_get_read issuers (length issuers) i issuer.result refl (omega (arith, long, c.loop-place-test.true)) issuer.is))

some_is : {A : Type 0} {a b : A} → ◌≡◌ {A = Option A} (Some a) (Some b) → a ≡ b
some_is h = cc

pub loop-place-preserved : goal.loop-place-preserved
loop-place-preserved c =
    let inv = c.loop-place.invariant in
    let i = c.loop-place.place in
    let shares = c.args.shares.now in
    let issuers = c.loop-place.issuers in
    let one = c.index-shares-place in
    let issuer = c.index-issuers-place in
    let bare = c.bare in
    let push = c.push_reserved.ensures in
    let long = zip_same Fits shares issuers inv.fits in
    let there = slice_get_read shares (length shares) i one.result refl c.loop-place-test.true one.is in
    record {
      fits = zip_set Fits shares issuers i bare.new.issuer inv.fits (λ d at. subst (λ e. Fits e bare.new.issuer) (some_is (sym there ∙ at)) bare.ensures.fits);
      same = same_set knows issuers i issuer.result bare.new.issuer issuer.is (omega (arith, long, c.loop-place-test.true)) (bare.ensures.same ∙ ap knows (sym issuer.is)) ∙ inv.same;
      bare = subst (λ xs. AllZip (λ d s. IsShareOf d 0 s) (take (i + 1) shares) xs) (sym push.items)
          (zip_more (λ d s. IsShareOf d 0 s) shares i one.result c.loop-place.row.items bare.result c.loop-place-test.true one.is inv.bare bare.ensures.bare);
      taken = push.len ∙ ap (λ n. n + 1) inv.taken;
      room = omega (arith, push.capacity, inv.room);
    }
