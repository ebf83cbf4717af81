-- The turn of a manager at its desk, and the bytes that are granted after it.
use Rattle.std.proofs.Common.{◌≡◌, ℕ, ◌+◌, ◌*◌, ◌≤◌, List, ◌++◌, length, take, drop, replicate, refl, sym, ap, subst, ◌∙◌, Option}
use Rattle.std.specs.List.{AllZip}
use Rattle.net_model.specs.declared.order.Order.{Order}
use Rattle.net_model.specs.declared.reply.Reply.{Reply}
use Rattle.net_model.specs.Site.{Site}
use Rattle.net_model.specs.World.{Network, World}
use Rattle.net_model.specs.Action.{Replies}
use Rattle.run_model.specs.Works.{wanted_put}
use Rattle.run_ops.specs.declared.job.Job.{Job}
use Rattle.declared_site.specs.SiteOf.{site_of}
use Rattle.declared_site.specs.declared.site.Site.{Site as Declared}
use Rattle.world_state.specs.Passed.{Post}
use Rattle.lane_shares.specs.declared.share.Share.{Share}
use Rattle.lane_shares.specs.declared.shares.Shares.{Shares}
use Rattle.lane_shares.specs.Names.{Fits}
use Rattle.lane_shares.specs.Views.{with_amount}
use Rattle.shared_objects.proofs.Zips.{zip_same}
use Rattle.par_lanes.specs.Emitting.{grant_at}
use Rattle.par_lanes.specs.Granting.{MayGrant, HasGranted}
use Rattle.par_lanes.specs.Wants.{bytes_at}
use Rattle.par_managers.specs.Going.{IsOnItsWay}
use Rattle.par_managers.specs.Leases.{WroteAt}
use Rattle.par_managers.specs.Taking.{MayCome, MayTurnAt, HappensAt}
use Rattle.par_managers.proofs.Going.{few_links}
use Rattle.world_state.specs.declared.state.State.{State}
use Rattle.par_managers.specs.Turning.{planner}
use Rattle.par_managers.specs.Issuing.{AreShares, HasIssuers}
use Rattle.par_managers.specs.Wanted.{orders_replied}
use Rattle.par_managers.proofs.Grants.{shares_of, written_back, leases_long, may_grant, issued_on, granted_on}
use Rattle.par_managers.proofs.Lanes.{lanes_there}
use Rattle.par_managers.proofs.Told.{Told, told_at}
use Rattle.world_state.specs.Outside.{Outside}

module _ {K Q E X : Type 0} (outside : Outside K Q E X)
    (opening : State K Q E X) (v : ℕ) (old new : Post K E) (up place : ℕ) (job : Job) (octets : Option (List ℕ)) (reply : Reply)
    (way : ∥ IsOnItsWay outside opening v old up ∥₁) (come : MayCome outside opening v place job octets)
    (took : (net : Network) (w : World) (u place : ℕ) → MayTurnAt outside.disk outside.entropy net w u place old job octets up → HappensAt outside.disk outside.entropy net w u old new job reply) where
  abbrev site : Site
  site = site_of opening.site

  pub tells : Told site v old new job reply
  tells = told_at outside opening v old new up place job octets way come reply took

  links : site.links ≤ 32
  links = few_links outside opening v old up way

  module _ (declared : Declared) (sited : declared ≡ opening.site) (shares : List Shares) (issuers : List Share) (many : length shares ≡ length opening.lanes.items) (shared : AreShares shares issuers)
      (issued : HasIssuers site v old shares issuers) (granted : List Share) (fits : AllZip Fits shares granted)
      (ends : List ℕ) (wrote : WroteAt (site_of declared) v (planner job reply) new (replicate 64 0) ends) where
    abbrev leases : List ℕ
    leases = take (length shares) ends

    lanes : length shares ≡ 2 * site.links
    lanes = many ∙ lanes_there outside opening v old up way

    written : WroteAt site v (planner job reply) new (replicate 64 0) ends
    written = subst (λ (d : Declared). WroteAt (site_of d) v (planner job reply) new (replicate 64 0) ends) sited wrote

    pub whole_end : length shares ≡ length leases
    whole_end = sym (leases_long site v old new job reply tells shares issuers shared issued lanes links ends leases written refl)

    module _ (i g : List Share) (os : List Order) (same_i : i ≡ issuers) (same_g : g ≡ granted) (same_o : os ≡ orders_replied reply) where
      pub may : (xs : List Order) × MayGrant shares leases i g (os ++ xs)
      may =
          subst (λ (ys : List Order). (xs : List Order) × MayGrant shares leases i g (ys ++ xs)) (sym same_o)
          (subst (λ (h : List Share). (xs : List Order) × MayGrant shares leases i h (orders_replied reply ++ xs)) (sym same_g)
          (subst (λ (h : List Share). (xs : List Order) × MayGrant shares leases h granted (orders_replied reply ++ xs)) (sym same_i)
          (may_grant site v old new job reply tells shares issuers shared issued lanes links ends leases written refl granted fits)))

      module _ (i' g' : List Share) (did : HasGranted leases os i g i' g') (rest : (xs : List Order) → MayGrant shares leases i g (os ++ xs) → MayGrant shares leases i' g' xs) where
        after : MayGrant shares leases i' g' may.0
        after = rest may.0 may.1

        did_it : HasGranted leases (orders_replied reply) issuers granted i' g'
        did_it =
            subst (λ (ys : List Order). HasGranted leases ys issuers granted i' g') same_o
            (subst (λ (h : List Share). HasGranted leases os issuers h i' g') same_g (subst (λ (h : List Share). HasGranted leases os h g i' g') same_i did))

        module _ (n : ℕ) (size : n ≡ length issuers) where
          issuers_back : take n (i' ++ drop (length i') issuers) ≡ i'
          issuers_back = written_back n i' issuers (zip_same Fits shares i' after.issuing ∙ sym shared.sides ∙ sym size)

          pub shared_after : AreShares shares (take n (i' ++ drop (length i') issuers))
          shared_after = subst (AreShares shares) (sym issuers_back) (shares_of shares i' after.issuing)

          pub issued_after : HasIssuers site v new shares (take n (i' ++ drop (length i') issuers))
          issued_after =
              subst (HasIssuers site v new shares) (sym issuers_back)
              (issued_on site v old new job reply tells shares issuers shared issued lanes links ends leases written refl granted fits i' g' did_it)

        module _ (n : ℕ) (size : n ≡ length granted) where
          granted_back : take n (g' ++ drop (length g') granted) ≡ g'
          granted_back = written_back n g' granted (zip_same Fits shares g' after.fits ∙ sym (zip_same Fits shares granted fits) ∙ sym size)

          pub fits_after : AllZip Fits shares (take n (g' ++ drop (length g') granted))
          fits_after = subst (AllZip Fits shares) (sym granted_back) after.fits

          pub granted_after : (k : ℕ) → grant_at k (take n (g' ++ drop (length g') granted)) ≡ with_amount (grant_at k granted) ((grant_at k granted).amount + bytes_at k (wanted_put (Replies reply)))
          granted_after k =
              ap (grant_at k) granted_back ∙ granted_on site v old new job reply tells shares issuers shared issued lanes links ends leases written refl granted fits i' g' did_it k
