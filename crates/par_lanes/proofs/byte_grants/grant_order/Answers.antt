use Rattle.std.proofs.Common.{arith, ◌≡◌, ◌+◌, ◌-◌, ℕ, set, slice_get, get_or, ap, subst, ◌∙◌}
use Rattle.lane_shares.specs.declared.shares.Shares.{Shares}
use Rattle.lane_shares.specs.Names.{knows, Fits}
use Rattle.lane_shares.specs.Views.{with_amount}
use Rattle.lane_sender.specs.Lane.{frame_need}
use Rattle.shared_objects.proofs.Zips.{same_item}
use Rattle.par_lanes.specs.Granting.{raised, lease_at}
use Rattle.par_lanes.proofs.Issuing.{in_leases, in_issuers, in_granted, shares_at, issuer_at, granted_at, cap_holds, grant_fits, issuer_fits, issuers_fit, grants_fit, issuer_issues, issuer_reaches, granted_one, may_grant_on}
use Rattle.par_lanes.proofs.byte_grants.grant_order.Goals as goal

pub bounds-issuers-at : goal.bounds-issuers-at
bounds-issuers-at c = in_issuers c.requires.may.1 c.place_of-at.result c.place_of-at.ensures.place

pub bounds-leases-at : goal.bounds-leases-at
bounds-leases-at c = in_leases c.requires.may.1 c.place_of-at.result c.place_of-at.ensures.place

pub bounds-granted-at : goal.bounds-granted-at
bounds-granted-at c = in_granted c.requires.may.1 c.place_of-at.result c.place_of-at.ensures.place

pub grant-part-requires-clause-fits : goal.grant-part-requires-clause-fits
grant-part-requires-clause-fits c =
    let k = c.place_of-at.result in
    let home = c.place_of-at.ensures.place in
    let may = c.requires.may.1 in
    issuer_fits may k home c.index-shares-at.result (shares_at may k home c.index-shares-at.result c.index-shares-at.is) (get_or c.args.issuers.now k c.index-issuers-at.result) (issuer_at may k home c.index-issuers-at.result)

pub grant-part-requires-clause-issues : goal.grant-part-requires-clause-issues
grant-part-requires-clause-issues c =
    let k = c.place_of-at.result in
    let home = c.place_of-at.ensures.place in
    let may = c.requires.may.1 in
    issuer_issues may k home (get_or c.args.issuers.now k c.index-issuers-at.result) (issuer_at may k home c.index-issuers-at.result)

pub grant-part-requires-clause-capped : goal.grant-part-requires-clause-capped
grant-part-requires-clause-capped c =
    let k = c.place_of-at.result in
    let home = c.place_of-at.ensures.place in
    let may = c.requires.may.1 in
    cap_holds may k home c.index-shares-at.result (shares_at may k home c.index-shares-at.result c.index-shares-at.is)

pub grant-part-requires-clause-reach : goal.grant-part-requires-clause-reach
grant-part-requires-clause-reach c =
    let k = c.place_of-at.result in
    let home = c.place_of-at.ensures.place in
    let may = c.requires.may.1 in
    let octets = c.from-need.ensures in
    let spelled = c.spelled_len.ensures.length in
    let enough = issuer_reaches may k home (get_or c.args.issuers.now k c.index-issuers-at.result) (issuer_at may k home c.index-issuers-at.result) in
    omega (arith, octets, spelled, enough)

pub join-requires-clause-fits : goal.join-requires-clause-fits
join-requires-clause-fits c =
    let k = c.place_of-at.result in
    let home = c.place_of-at.ensures.place in
    let may = c.requires.may.1 in
    let one = shares_at may k home c.index-shares-at.result c.index-shares-at.is in
    let two = shares_at may k home c.index-shares-at-2.result c.index-shares-at-2.is in (
      grant_fits may k home c.index-shares-at-2.result two (get_or c.args.granted.now k c.index-granted-at.result) (granted_at may k home c.index-granted-at.result),
      subst (λ (d : Shares). Fits d c.grant-part.result) (same_item (slice_get c.args.shares.now k) c.index-shares-at.result c.index-shares-at-2.result one two) c.grant-part.ensures.grant.fits,
    )

pub returns-clause-granted : goal.returns-clause-granted
returns-clause-granted c =
    let k = c.place_of-at.result in
    let home = c.place_of-at.ensures.place in
    let may = c.requires.may.1 in
    let payload = c.args.order.now.payload in
    let octets = c.from-need.ensures in
    let spelled = c.spelled_len.ensures.length in
    let many : c.from-need.result + 8 ≡ frame_need payload = omega (arith, octets, spelled) in
    let issuer = get_or c.args.issuers.now k c.index-issuers-at.result in
    let grant = get_or c.args.granted.now k c.index-granted-at.result in
    let more = raised (lease_at k c.args.leases.now) (knows issuer) in
    granted_one c.args.order.now k home c.args.leases.now c.args.issuers.now c.args.granted.now issuer c.grant-part.new.issuer grant c.join.new.share (issuer_at may k home c.index-issuers-at.result) (granted_at may k home c.index-granted-at.result)
    (c.grant-part.ensures.issuer ∙ ap (λ (n : ℕ). with_amount more (more.amount - n)) many)
    (c.join.ensures.joined ∙ ap (λ (n : ℕ). with_amount (knows grant) ((knows grant).amount + n)) (c.grant-part.ensures.grant.has ∙ many))

pub returns-clause-rest : goal.returns-clause-rest
returns-clause-rest c = λ os may.
    let k = c.place_of-at.result in
    let home = c.place_of-at.ensures.place in
    let payload = c.args.order.now.payload in
    let octets = c.from-need.ensures in
    let spelled = c.spelled_len.ensures.length in
    let many : c.from-need.result + 8 ≡ frame_need payload = omega (arith, octets, spelled) in
    let issuer = get_or c.args.issuers.now k c.index-issuers-at.result in
    let grant = get_or c.args.granted.now k c.index-granted-at.result in
    let more = raised (lease_at k c.args.leases.now) (knows issuer) in
    let one = shares_at may k home c.index-shares-at.result c.index-shares-at.is in
    let two = shares_at may k home c.index-shares-at-2.result c.index-shares-at-2.is in
    may_grant_on c.args.shares.now c.args.leases.now c.args.order.now os c.args.issuers.now (set c.args.issuers.now k c.grant-part.new.issuer) c.args.granted.now (set c.args.granted.now k c.join.new.share)
    (issuers_fit may k home c.index-shares-at.result one c.grant-part.new.issuer c.grant-part.ensures.fits) (grants_fit may k home c.index-shares-at-2.result two c.join.new.share c.join.ensures.fits)
    (granted_one c.args.order.now k home c.args.leases.now c.args.issuers.now c.args.granted.now issuer c.grant-part.new.issuer grant c.join.new.share (issuer_at may k home c.index-issuers-at.result) (granted_at may k home c.index-granted-at.result)
    (c.grant-part.ensures.issuer ∙ ap (λ (n : ℕ). with_amount more (more.amount - n)) many)
    (c.join.ensures.joined ∙ ap (λ (n : ℕ). with_amount (knows grant) ((knows grant).amount + n)) (c.grant-part.ensures.grant.has ∙ many))) may
