-- After all frames were sent, the manager is told of them, and the network is quiet.
use Rattle.std.proofs.Common.{◌≡◌, ℕ, true, ◌&&◌, List, [], ◌∷◌, refl, ap}
use Rattle.std.specs.Prelude.{if◌then◌else◌}
use Rattle.std.specs.List.{list_all}
use Rattle.qkd_base.specs.declared.lane.Lane.{Lane}
use Rattle.net_model.specs.declared.placing.Placing.{Placing}
use Rattle.net_model.specs.declared.event.Event.TheVariants.{Note}
use Rattle.net_model.specs.Journal.{is_nil}
use Rattle.net_model.specs.Site.{outgoing_lanes}
use Rattle.net_model.specs.World.{Network, World}
use Rattle.net_model.specs.Action.{Complete, Outcome, Ok as Fine}
use Rattle.net_model.specs.Decide.{decide, random_need}
use Rattle.net_model.specs.Handle.{commit, stopped, handle}
use Rattle.net_model.specs.Step.{step, is_node, is_sent, is_enabled}
use Rattle.law_base.proofs.Base.{and_both, by_number, by_test}
use Rattle.law_base.proofs.Walks.{perform_walk}
use Rattle.law_locality.specs.Quiet.{IsQuiet}
use Rattle.law_locality.specs.Sending.{Sends}

module _ (net : Network) (w : World) (v : ℕ) (s : Sends net w v []) where
  none_left : (ls : List Lane) → list_all (λ l. is_nil (w.unclaimed l) && is_nil (w.outgoing l)) ls ≡ true
  none_left [] = refl
  none_left (l ∷ ls) =
      and_both (is_nil (w.unclaimed l) && is_nil (w.outgoing l)) (list_all (λ l. is_nil (w.unclaimed l) && is_nil (w.outgoing l)) ls)
      (and_both (is_nil (w.unclaimed l)) (is_nil (w.outgoing l)) (ap is_nil (s.unclaimed l)) (ap is_nil (s.outgoing l))) (none_left ls)

  pub may_complete : is_enabled net w (Complete v) ≡ true
  unfolding is_enabled
  may_complete = and_both (is_node net v) (is_sent net w v) s.node (none_left (outgoing_lanes net.site v))

  -- No order and no frame waits on any lane.
  record IsEmpty (x : World) : Type 0 where
    unclaimed : (l : Lane) → x.unclaimed l ≡ []
    outgoing : (l : Lane) → x.outgoing l ≡ []

  nothing : IsEmpty w
  nothing = record { unclaimed = s.unclaimed; outgoing = s.outgoing }

  noted_silent : (placings : List Placing) → IsEmpty (handle net w v (Note placings) Fine).0
  unfolding handle decide random_need commit stopped
  noted_silent placings =
      by_test (λ (r : World × Outcome). IsEmpty r.0) (w.up v) _ _
      (λ up. perform_walk net w IsEmpty nothing v 0 Fine _
      (λ numbered fits. record { unclaimed = s.unclaimed; outgoing = s.outgoing })
      (λ numbered fits. record { unclaimed = s.unclaimed; outgoing = s.outgoing }))
      (λ down. nothing)

  pub completes : IsQuiet (step net w (Complete v)).0
  unfolding step
  completes =
      let n = noted_silent (w.placings v) in
      record {
        claimed = n.unclaimed;
        put = n.outgoing;
        noted = by_number (λ u b. (if b then [] else w.placings u) ≡ []) v refl s.others;
      }
