-- The call for a frame on its wire may come.
use Rattle.std.proofs.Common.{◌≡◌, ℕ, ◌<◌, true, List, [], ◌∷◌, length, sym, ap, subst, ◌∙◌, Option, Some, None}
use Rattle.std.specs.Prelude.{◌==◌, slice_get, MatchOption}
use Rattle.std.proofs.lemmas.Option.{slice_get-get_or}
use Rattle.qkd_base.specs.declared.lane.Lane.{Lane}
use Rattle.declared_site.specs.SiteOf.{site_of}
use Rattle.net_model.specs.Site.{Site, receiver}
use Rattle.net_model.specs.World.{Network, World}
use Rattle.net_model.specs.Events.{is_lane}
use Rattle.net_model.specs.Action.{Deliver, Ok}
use Rattle.run_model.specs.Works.{Work}
use Rattle.run_ops.specs.Acting.{IsReady}
use Rattle.run_ops.specs.declared.job.Job.{Job}
use Rattle.run_ops.specs.declared.job.Job.TheVariants.{Pass}
use Rattle.run_ops.specs.Jobs.{is_job, IsThere}
use Rattle.law_base.proofs.Base.{when_true, eq_same}
use Rattle.shared_objects.specs.declared.call.Call.{Call}
use Rattle.par_managers.specs.declared.turn.Turn.{Turn}
use Rattle.par_managers.specs.Taking.{IsTurnAt}
use Rattle.world_state.specs.Frames.{IsOnWire}
use Rattle.world_state.specs.Stands.{Stands}
use Rattle.world_state.specs.declared.state.State.{State}
use Rattle.world_state.proofs.Receivers.{post_below, same_receiver}
use Rattle.par_managers.specs.Order.{HasOctets}
use Rattle.par_managers.specs.Calls.{IsComing}
use Rattle.world_state.specs.Outside.{Outside}

-- The frame's octets are there.
octets_there : (net : Network) (w : World) (l : Lane) (number : ℕ) (octets : Option (List ℕ)) → MatchOption octets (slice_get (w.wire l) number ≡ None) (IsOnWire net w l number) →
    number < length (w.wire l) → HasOctets net w (Pass l number) octets
octets_there net w l number None found there = let is = slice_get-get_or (w.wire l) number 0 there in absurd (sym found ∙ is)
  where
    absurd : {n : ℕ} → None ≡ Some n → ⊥
    absurd e = cc
octets_there net w l number (Some octets) found there = found

-- The turn is the receiver's.
its_turn : (s : Site) (l : Lane) (number v place : ℕ) → v ≡ receiver s l → IsTurnAt s v place (Pass l number)
its_turn s l number v place is =
    let x : Work = record { place = place; action = Deliver l number Ok } in
    when_true (receiver s l == v) (x ∷ []) [] (ap (λ (n : ℕ). receiver s l == n) is ∙ eq_same (receiver s l))

module _ {K Q E X : Type 0} (outside : Outside K Q E X) (old : State K Q E X) (l : Lane) (number : ℕ) (call : Call Turn) where
  pub comes : is_lane (site_of old.site) l ≡ true → ((net : Network) × (w : World) × IsReady (Stands outside) old net w) →
      call.machine ≡ receiver (site_of old.site) l → call.request.job.now ≡ Pass l number →
      ((net : Network) (w : World) → Stands outside old net w → MatchOption call.request.octets (slice_get (w.wire l) number ≡ None) (IsOnWire net w l number)) →
      ((net : Network) (w : World) → IsReady (Stands outside) old net w → IsThere w (Pass l number)) →
      IsComing outside old call
  comes fit ready at is found there =
      let below = post_below outside old ready.0 ready.1 l ready.2 fit in
      let same = same_receiver outside old ready.0 ready.1 l ready.2 fit in
      record {
        node = subst (λ (n : ℕ). n < length old.posts.items) (sym (at ∙ same)) below;
        may = record {
          fit = ap (is_job (site_of old.site)) is ∙ fit;
          mine = subst (λ (j : Job). IsTurnAt (site_of old.site) call.machine call.request.place j) (sym is) (its_turn (site_of old.site) l number call.machine call.request.place at);
          has = λ net w so. subst (λ (j : Job). HasOctets net w j call.request.octets) (sym is) (octets_there net w l number call.request.octets (found net w so.stands) (there net w so));
        };
      }
