-- Each manager gets the issuers of the lanes that leave its node.
use Rattle.std.proofs.Common.{◌≡◌, ℕ, zero, suc, ◌+◌, ◌-◌, ◌≤◌, Bool, true, List, [], ◌∷◌, ◌++◌, length, map, sym, ap, subst, ◌∙◌, arith, Option, Some}
use Rattle.std.specs.Prelude.{slice_get, if◌then◌else◌}
use Rattle.std.specs.List.{AllZip}
use Rattle.std.proofs.lemmas.Option.{slice_get_within}
use Rattle.qkd_base.specs.Lane.{lane_place}
use Rattle.qkd_base.specs.declared.lane.Lane.{Lane}
use Rattle.net_model.specs.Site.{Site, sender}
use Rattle.net_model.specs.World.{Network, World}
use Rattle.net_model.specs.Events.{is_lane}
use Rattle.declared_site.specs.SiteOf.{site_of}
use Rattle.world_state.specs.Passed.{Post}
use Rattle.lane_shares.specs.declared.share.Share.{Share}
use Rattle.lane_shares.specs.declared.shares.Shares.{Shares}
use Rattle.lane_shares.specs.Names.{knows, Fits}
use Rattle.lane_shares.specs.Views.{issuer, with_amount}
use Rattle.lane_sender.specs.Lane.{LaneForm}
use Rattle.run_ops.specs.Acting.{IsReady}
use Rattle.par_managers.specs.Leases.{lease_at}
use Rattle.par_lanes.specs.Emitting.{grant_at}
use Rattle.par_managers.specs.Opening.{IsOpened, AllOpened, issued_by, issued_from, issued_in}
use Rattle.par_managers.proofs.Grants.{shares_of}
use Rattle.par_managers.proofs.Openings.{opened_at, opened_long}
use Rattle.par_managers.proofs.Places.{same_place}
use Rattle.shared_objects.proofs.Zips.{zip_of, item_at}
use Rattle.world_state.specs.declared.state.State.{State}
use Rattle.world_state.specs.Stands.{Stands}
use Rattle.kme_shared.specs.Seats.{AreUsed}
use Rattle.kme_shared.specs.Sheets.{IsDealt}
use Rattle.world_state.specs.Outside.{Outside}

some_is : {A : Type 0} {a b : A} → ◌≡◌ {A = Option A} (Some a) (Some b) → a ≡ b
some_is h = cc

granted : (xs : List Share) (i : ℕ) (x : Share) → slice_get xs i ≡ Some x → grant_at i xs ≡ knows x
granted [] i x at = cc
granted (y ∷ xs) zero x at = ap knows (some_is at)
granted (y ∷ xs) (suc i) x at = granted xs i x at

-- a property of all items of a list, to which one item is added
pub each_more : {A : Type 0} (P : ℕ → A → Type 0) (xs : List A) (x : A) → ((i : ℕ) (y : A) → slice_get xs i ≡ Some y → P i y) → P (length xs) x → (i : ℕ) (y : A) → slice_get (xs ++ x ∷ []) i ≡ Some y → P i y
each_more P [] x h one zero y at = subst (P 0) (some_is at) one
each_more P [] x h one (suc i) y at = cc
each_more P (z ∷ xs) x h one zero y at = h 0 y at
each_more P (z ∷ xs) x h one (suc i) y at = each_more (λ n. P (suc n)) xs x (λ n. h (suc n)) one i y at

-- the number of managers is in range
pub few_nodes : {K Q E X : Type 0} (outside : Outside K Q E X) (opening : State K Q E X) (net : Network) (w : World) → IsReady (Stands outside) opening net w → length opening.posts.items ≤ 16
few_nodes outside opening net w ready = let a = ready.stands.nodes in let b = ready.stands.running.network.site.nodes in omega (arith, a, b)

-- issuers with the same bytes as opened ones are opened too
pub opened_as : {K Q E X : Type 0} (s : State K Q E X) (sides : List (LaneForm X)) (ds : List Shares) (rs us rs' : List Share) → AllOpened s sides ds rs us → AllZip Fits ds rs' → map knows rs' ≡ map knows rs → AllOpened s sides ds rs' us
opened_as s [] [] [] [] [] h fits same = tt
opened_as s [] [] [] [] (r' ∷ rs') h fits same = absurd fits
opened_as s (x ∷ sides) (d ∷ ds) (r ∷ rs) (u ∷ us) [] h fits same = absurd fits
opened_as s (x ∷ sides) (d ∷ ds) (r ∷ rs) (u ∷ us) (r' ∷ rs') h fits same =
    (record { cap = h.0.cap; fits = fits.0; issuer' = first same ∙ h.0.issuer'; used' = h.0.used' }, opened_as s sides ds rs us rs' h.1 fits.1 (later same))
  where
    first : {A : Type 0} {a b : A} {xs ys : List A} → a ∷ xs ≡ b ∷ ys → a ≡ b
    first h = cc

    later : {A : Type 0} {a b : A} {xs ys : List A} → a ∷ xs ≡ b ∷ ys → xs ≡ ys
    later h = cc
opened_as s [] [] [] (u ∷ us) rs' h fits same = absurd h
opened_as s [] [] (r ∷ rs) us rs' h fits same = absurd h
opened_as s [] (d ∷ ds) rs us rs' h fits same = absurd h
opened_as s (x ∷ sides) [] rs us rs' h fits same = absurd h
opened_as s (x ∷ sides) (d ∷ ds) [] us rs' h fits same = absurd h
opened_as s (x ∷ sides) (d ∷ ds) (r ∷ rs) [] rs' h fits same = absurd h

module _ {K Q E X : Type 0} (opening : State K Q E X) (shares : List Shares) (issuers used : List Share) (opened : AllOpened opening opening.lanes.items shares issuers used) where
  pub opened_fit : AllZip Fits shares issuers
  opened_fit =
      let long = opened_long opening opening.lanes.items shares issuers used opened in
      zip_of Fits shares issuers (long.1 ∙ sym long.0)
      (λ i d r at there.
      let within = slice_get_within shares i d at in
      let side = item_at opening.lanes.items i (let a = long.0 in omega (arith, within, a)) in
      let u = item_at used i (let a = long.0 in let b = long.2 in omega (arith, within, a, b)) in
      (opened_at opening opening.lanes.items shares issuers used opened i side.0 d r u.0 side.1 at there u.1).fits)

  -- the shares of the used bytes
  pub used_of : AreUsed opening.lanes.items shares used
  used_of i side d share at there here =
      let long = opened_long opening opening.lanes.items shares issuers used opened in
      let within = slice_get_within shares i d there in
      let r = item_at issuers i (let a = long.0 in let b = long.1 in omega (arith, within, a, b)) in
      let one = opened_at opening opening.lanes.items shares issuers used opened i side d r.0 share at there r.1 here in
      record { owned = one.used'; cap = one.cap }

  module _ (outside : Outside K Q E X)
      (net : Network) (w : World) (ready : IsReady (Stands outside) opening net w) (v : ℕ) (row : List Share) (fits : AllZip Fits shares row)
      (own : (i : ℕ) (side : LaneForm X) → slice_get opening.lanes.items i ≡ Some side → sender (site_of opening.site) side.lane ≡ v → grant_at i row ≡ grant_at i issuers) where
    lane_opened : (post : Post K E) → slice_get opening.posts.items v ≡ Some post → (l : Lane) (side : LaneForm X) (d : Shares) → is_lane (site_of opening.site) l ≡ true → sender (site_of opening.site) l ≡ v →
        slice_get opening.lanes.items (lane_place l) ≡ Some side → slice_get shares (lane_place l) ≡ Some d → IsOpened post side d (grant_at (lane_place l) row)
    lane_opened post here l side d at from there shared =
        let i = lane_place l in
        let long = opened_long opening opening.lanes.items shares issuers used opened in
        let within = slice_get_within opening.lanes.items i side there in
        let r = item_at issuers i (let a = long.1 in omega (arith, within, a)) in
        let u = item_at used i (let a = long.2 in omega (arith, within, a)) in
        let one = opened_at opening opening.lanes.items shares issuers used opened i side d r.0 u.0 there shared r.1 u.1 in
        let lane : side.lane ≡ l = (ready.stands.lanes l side (subst (λ (s : Site). is_lane s l ≡ true) (sym ready.stands.sited) at) (ap (slice_get opening.lanes.items) (same_place l) ∙ there)).lane in
        let from' : sender (site_of opening.site) side.lane ≡ v = ap (sender (site_of opening.site)) lane ∙ from in
        let grant : grant_at i row ≡ knows r.0 = own i side there from' ∙ granted issuers i r.0 r.1 in
        let issued : issued_in opening side ≡ issued_by post side = ap (λ (o : Option (Post K E)). issued_from o side) (ap (slice_get opening.posts.items) from' ∙ here) in
        record {
          cap = one.cap;
          issued = λ on.
              let lease : issued_in opening side ≡ lease_at post side.lane = issued ∙ ap (λ (t : Bool). if t then lease_at post side.lane else side.ledger.used) on in
              grant ∙ one.issuer' ∙ ap (λ (n : ℕ). with_amount (issuer n n side.ledger.received) (n - side.ledger.used)) lease;
        }

    pub row_dealt : (kept : State K Q E X) → kept ≡ opening → IsDealt opening shares v row kept
    row_dealt kept same = record { kept' = same; shared = shares_of shares row fits; opened = lane_opened }
