-- The world after a block's lanes did their work.
use Rattle.std.proofs.Common.{◌≡◌, ℕ, ◌<◌, ◌≤◌, arith, List, [], ◌∷◌, ◌++◌, length, map, refl, sym, ◌∙◌, ap, subst}
use Rattle.std.specs.Prelude.{◌==◌, nat_lt, true, false, count_by}
use Rattle.std.specs.List.{list_all, flat_map, AllByRecursion}
use Rattle.std.proofs.lemmas.Bool.Decides.{nat_tests}
use Rattle.qkd_base.specs.declared.lane.Lane.{Lane}
use Rattle.net_model.specs.declared.order.Order.{Order}
use Rattle.net_model.specs.declared.placing.Placing.{Placing}
use Rattle.net_model.specs.Site.{sender}
use Rattle.net_model.specs.World.{Network, World, Transmission}
use Rattle.net_model.specs.Premises.{IsNetwork}
use Rattle.net_model.specs.Invariant.{Conserved}
use Rattle.net_model.specs.Window.{transmission_eq}
use Rattle.net_model.specs.Action.{Action}
use Rattle.net_model.specs.BlockOrder.{is_claim, completions, claimed_on, block_actions}
use Rattle.net_model.specs.Step.{run, IsRun}
use Rattle.run_model.specs.Lines.{all_lanes}
use Rattle.run_model.specs.Works.{Work, actions_in, flat, block_run}
use Rattle.run_ops.specs.Quiet.{IsQuiet}
use Rattle.run_ops.specs.declared.job.Job.{Job}
use Rattle.law_locality.proofs.Chains.{kept}
use Rattle.law_locality.proofs.Claims.{claims_run as claims_are_run, all_claimed}
use Rattle.law_locality.proofs.Completions.{IsDone, completions_run}
use Rattle.law_locality.proofs.Puts.{all_put}
use Rattle.law_locality.proofs.Runs.{run-append, runs-append}
use Rattle.law_base.proofs.Lists.{all_both}
use Rattle.law_locality.specs.Touched.{touches_node}
use Rattle.law_parallel.proofs.Claims.{claim}
use Rattle.law_parallel.proofs.Quiet.{sender_node, turns_away, quiet_after, none_far}
use Rattle.law_parallel.proofs.Runs.{flat_actions}
use Rattle.law_parallel.specs.Logs.{Deed, claims_in}
use Rattle.law_parallel.specs.Puts.{claimed_from, owners, own_after, frames_after, wire_after, numbers_taken}
use Rattle.law_parallel.specs.LaneWorks.{AreLaneWorks, claims_of, puts_of, works_of}
use Rattle.law_parallel.proofs.Lanes.{on_lane}
use Rattle.law_parallel.proofs.Counted.{lane_claimed}
use Rattle.law_parallel.proofs.AllClaims.{orders_of, all_claims, all_orders, claims_are, each_claim, claims_counted}
use Rattle.law_parallel.proofs.AllPuts.{LanePut, IsPut, works_in, puts_are, works_put, each_put}
use Rattle.law_parallel.proofs.ClaimedWorld.{are_claimed}
use Rattle.law_parallel.proofs.LaneBlock.{start, wanted, are_turns, conserved, remains, wanted_here, claims_mine, after, frames_counted}
use Rattle.law_parallel.proofs.LanePutFor.{puts_made, frames_after as frames_claimed}
use Rattle.law_parallel.proofs.Reported.{after_puts, puts_at, wire_is}
use Rattle.law_parallel.proofs.Reports.{puts_go, puts_lane, wire_before}
use Rattle.law_parallel.proofs.Rest.{with_puts, claims_alone, puts_alone}

-- A node's number differs from each number that no node has.
no_such : (v u n : ℕ) → v < n → nat_lt u n ≡ false → (v == u) ≡ false
no_such v u n h k = grind (arith, nat_tests)

module _ (net : Network) (network : IsNetwork net) (workers : ℕ) (some : 1 ≤ workers) (w : World) (c : Conserved net w) (quiet : IsQuiet w) (jobs : List Job) (histories : List (List Work))
    (logs : Lane → List Deed) (h : AreLaneWorks net workers w jobs histories logs) where
  abbrev pub begun : World
  begun = start net network workers w c quiet jobs histories logs h

  abbrev pub then' : World
  then' = after net network workers w c quiet jobs histories logs h

  abbrev pub made : List LanePut
  made = puts_made net network workers some w c quiet jobs histories logs h

  abbrev pub all : List Action
  all = actions_in (flat histories)

  abbrev pub claims : List Action
  claims = map claim (all_orders net.site logs)

  abbrev pub frames : List Action
  frames = actions_in (works_in made)

  -- The world after the claims and the puts.
  abbrev pub last : World
  last = after_puts net then' made

  -- Lemmas on the whole run of the block.

  pub is_run : block_run net (works_of net w histories logs) ≡ all ++ claims ++ frames ++ completions net
  unfolding block_run block_actions
  is_run =
      ap (λ (xs : List Action). xs ++ flat_map (λ l. claims_of (logs l)) (all_lanes net.site) ++ actions_in (flat_map (λ l. puts_of begun l (logs l)) (all_lanes net.site)) ++ completions net) (flat_actions histories)
      ∙ ap (λ (xs : List Action). all ++ xs ++ actions_in (flat_map (λ l. puts_of begun l (logs l)) (all_lanes net.site)) ++ completions net) (claims_are net.site logs)
      ∙ ap (λ (xs : List Work). all ++ claims ++ actions_in xs ++ completions net) (puts_are net.site begun logs)

  pub leads_to : run net w (block_run net (works_of net w histories logs)) ≡ run net last (completions net)
  leads_to =
      ap (run net w) is_run ∙ run-append net (all ++ claims ++ frames) (completions net) w
      ∙ ap (λ (x : World). run net x (completions net)) (run-append net (all ++ claims) frames w ∙ ap (λ (x : World). run net x frames) (run-append net all claims w))

  -- No order and no frame waits any more.

  each : list_all (is_claim net.site) claims ≡ true
  each = each_claim net.site logs (claims_mine net network workers w c quiet jobs histories logs h) h.undeclared

  as_wanted : (l : Lane) (t : Transmission) → count_by (transmission_eq t) (claimed_on l claims) ≡ count_by (transmission_eq t) (begun.unclaimed l)
  as_wanted l t =
      claims_counted net.site logs (claims_mine net network workers w c quiet jobs histories logs h) h.undeclared (wanted net network workers w c quiet jobs histories logs h) l
      (wanted_here net network workers w c quiet jobs histories logs h l) t
      ∙ ap (count_by (transmission_eq t)) (sym ((remains net network workers w c quiet jobs histories logs h).unclaimed l))

  pub claims_go : IsRun net begun claims
  claims_go = claims_are_run net claims begun each as_wanted

  none_unclaimed : (l : Lane) → then'.unclaimed l ≡ []
  none_unclaimed l = all_claimed net claims begun each as_wanted l

  none_outgoing : (l : Lane) → last.outgoing l ≡ []
  none_outgoing l =
      all_put net frames then' (works_put net.site made (each_put net.site begun logs h.undeclared h.answered)) (frames_counted net network workers w c quiet jobs histories logs h) l

  -- Lemmas on what each lane has.

  own_is : (l : Lane) → then'.durable.own l ≡ own_after begun l (logs l)
  own_is l =
      (are_claimed net (all_claims net.site logs) begun l).own
      ∙ ap (λ xs. begun.durable.own l ++ flat_map (owners begun.durable.facts) (claimed_from begun.durable.facts (length (begun.frames l)) (length (begun.durable.own l)) xs))
      (on_lane lane_claimed (λ k. claims_in (logs k)) (claims_mine net network workers w c quiet jobs histories logs h) net.site (λ k e. ap claims_in (h.undeclared k e)) l)

  wire_is_after : (l : Lane) → last.wire l ≡ wire_after begun l (logs l)
  wire_is_after l =
      wire_is net made then' (puts_go net network workers some w c quiet jobs histories logs h) l
      ∙ ap (λ (f : Lane → List ℕ). f l ++ numbers_taken (puts_at l made)) (wire_before net network workers some w c quiet jobs histories logs h)
      ∙ ap (λ ps. begun.wire l ++ numbers_taken ps) (puts_lane net network workers some w c quiet jobs histories logs h l)

  abbrev pub left_with : (ℕ → List Placing) → World
  left_with placings =
      record begun {
        durable = record (begun.durable) { own = λ l. own_after begun l (logs l) };
        frames = λ l. frames_after begun l (logs l);
        wire = λ l. wire_after begun l (logs l);
        unclaimed = λ l. [];
        outgoing = λ l. [];
        placings = placings;
      }

  pub last_is : last ≡ left_with last.placings
  last_is =
      puts_alone net made then' (puts_go net network workers some w c quiet jobs histories logs h) ∙ ap (λ (x : World). with_puts x last) (claims_alone net (all_claims net.site logs) begun)
      ∙ λ i. record begun {
        durable = record (begun.durable) { own = λ l. own_is l i };
        frames = λ l. frames_claimed net network workers some w c quiet jobs histories logs h l i;
        wire = λ l. wire_is_after l i;
        unclaimed = λ l. none_unclaimed l i;
        outgoing = λ l. none_outgoing l i;
        placings = last.placings;
      }

  -- The network is quiet after the notes.

  ready : IsDone net last
  ready = subst (IsDone net) (sym last_is) (record { orders = λ l. refl; puts = λ l. refl })

  pub last_conserved : Conserved net last
  last_conserved =
      kept net network frames then' (kept net network claims begun (conserved net network workers w c quiet jobs histories logs h) claims_go) (puts_go net network workers some w c quiet jobs histories logs h)

  abbrev IsAway : ℕ → Action → Type 0
  IsAway u a = touches_node net.site a u ≡ false

  claims_away : (u : ℕ) (xs : List (ℕ × Order)) → AllByRecursion (IsAway u) (map claim (orders_of xs))
  claims_away u [] = tt
  claims_away u (x ∷ xs) = (refl, claims_away u xs)

  puts_away : (u : ℕ) → nat_lt u net.site.nodes ≡ false → (ps : List LanePut) → AllByRecursion (IsPut net.site) ps → AllByRecursion (IsAway u) (actions_in (works_in ps))
  puts_away u far [] e = tt
  puts_away u far (p ∷ ps) e = (no_such (sender net.site p.0) u net.site.nodes (sender_node net network p.0 e.0.0) far, puts_away u far ps e.1)

  far : (u : ℕ) → nat_lt u net.site.nodes ≡ false → last.placings u ≡ []
  far u e =
      ap (λ (x : World). x.placings u) (sym (run-append net (all ++ claims) frames w ∙ ap (λ (x : World). run net x frames) (run-append net all claims w)))
      ∙ none_far net network (all ++ claims ++ frames) w c
      (runs-append net (all ++ claims) frames w (runs-append net all claims w h.turns claims_go)
      (subst (λ (x : World). IsRun net x frames) (sym (run-append net all claims w)) (puts_go net network workers some w c quiet jobs histories logs h)))
      quiet u
      (all_both (IsAway u) (all ++ claims) frames
      (all_both (IsAway u) all claims (turns_away net network u e (flat histories) (are_turns net network workers w c quiet jobs histories logs h)) (claims_away u (all_claims net.site logs)))
      (puts_away u e made (each_put net.site begun logs h.undeclared h.answered)))

  pub is_quiet : IsQuiet (run net w (block_run net (works_of net w histories logs)))
  is_quiet = subst IsQuiet (sym leads_to) (quiet_after net network last last_conserved ready (completions_run net last ready) far)
