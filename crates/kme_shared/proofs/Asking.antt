-- A worker may ask the manager of an entry, and the lanes are at their desks.
use Rattle.std.proofs.Common.{◌≡◌, ℕ, true, List, sym, ap, subst, Option}
use Rattle.std.specs.List.{AllZip}
use Rattle.net_model.specs.Site.{Site}
use Rattle.net_model.specs.Events.{is_lane}
use Rattle.declared_site.specs.SiteOf.{site_of}
use Rattle.run_ops.specs.declared.job.Job.{Job}
use Rattle.lane_shares.specs.declared.share.Share.{Share}
use Rattle.lane_shares.specs.declared.shares.Shares.{Shares}
use Rattle.lane_shares.specs.Names.{Fits}
use Rattle.lane_sender.specs.Lane.{LaneForm}
use Rattle.shared_objects.specs.declared.either.Either.{Either}
use Rattle.shared_objects.specs.Calling.{IsLeft}
use Rattle.shared_objects.specs.declared.call.Call.{Call}
use Rattle.world_state.specs.declared.state.State.{State}
use Rattle.par_managers.specs.Taking.{MayCome}
use Rattle.par_managers.specs.PlanTaking.{MayCall}
use Rattle.par_managers.specs.declared.turn.Turn.{Turn}
use Rattle.kme_shared.specs.Working.{AreSeated, MayAsk}
use Rattle.kme_shared.specs.Granting.{AreHome}
use Rattle.world_state.specs.Outside.{Outside}

module _ {K Q E X : Type 0} {outside : Outside K Q E X} where
  -- if a turn may come, the manager's desk may take it
  may_call : {opening o : State K Q E X} {v u : ℕ} {shares ss : List Shares} {place : ℕ} {job : Job} {octets : Option (List ℕ)} {granted : List Share} → o ≡ opening → u ≡ v → ss ≡ shares →
      MayCome outside opening v place job octets → AllZip Fits shares granted → MayCall outside o u ss place job octets granted
  may_call {opening = opening} {u = u} {place = place} {job = job} {octets = octets} {granted = granted} opens node shared come fits = record {
    come = subst (λ (s : State K Q E X). MayCome outside s u place job octets) (sym opens)
        (subst (λ (n : ℕ). MayCome outside opening n place job octets) (sym node) come);
    fits = subst (λ (s : List Shares). AllZip Fits s granted) (sym shared) fits;
  }

module _ {K Q E X M N : Type 0} {opening_of : M → State K Q E X} {node_of : M → ℕ} {shares_in : M → List Shares} {side : N → LaneForm X} {shares_of : N → Shares}
    {opening : State K Q E X} {first : ℕ} {shares : List Shares} {machines : List (Either M N)} (seated : AreSeated opening_of node_of shares_in side shares_of opening first shares machines) where
  are_home : (s : Site) → s ≡ site_of opening.site → AreHome machines side shares_of first shares s
  are_home s is = record {
    few = seated.few;
    lanes = λ l here. let home = seated.lanes l (subst (λ (t : Site). is_lane t l ≡ true) is here) in (home.desk, home.there, home.lane);
    shared = seated.shared;
  }

  -- the entry's manager takes the turn, and what leaves its node can go out
  pub manager : {outside : Outside K Q E X} (call : Call Turn) → MayAsk outside opening first call → (granted : List Share) → AllZip Fits shares granted →
      (m : M) × IsLeft machines call.machine m
      × MayCall outside (opening_of m) (node_of m) (shares_in m) call.request.place call.request.job.now call.request.octets granted
      × (shares_in m ≡ shares) × AreHome machines side shares_of first shares (site_of (opening_of m).site)
  manager call may granted fits =
      let h = seated.managers call.machine may.node in
      (h.desk, h.there, may_call h.opens h.node h.shared may.come fits, h.shared, are_home (site_of (opening_of h.desk).site) (ap (λ (o : State K Q E X). site_of o.site) h.opens))
