-- What is done in sequence is a block of the network.
use Rattle.std.proofs.Common.{◌≡◌, ℕ, true, List, [], ◌∷◌, ◌++◌, length, map, refl, sym, ◌∙◌, ap, subst, arith}
use Rattle.std.specs.Prelude.{◌==◌, filter, count_by}
use Rattle.std.specs.List.{list_all}
use Rattle.std.proofs.lemmas.List.{length-map}
use Rattle.qkd_base.specs.Lane.{lane_eq}
use Rattle.qkd_base.specs.declared.lane.Lane.{Lane}
use Rattle.net_model.specs.declared.order.Order.{Order}
use Rattle.net_model.specs.declared.repeat.Repeat.{Repeat}
use Rattle.net_model.specs.World.{Network, World, Transmission, Outgoing}
use Rattle.net_model.specs.Premises.{IsNetwork}
use Rattle.net_model.specs.Invariant.{Conserved}
use Rattle.net_model.specs.Window.{transmission_eq}
use Rattle.net_model.specs.Tick.{Emission}
use Rattle.net_model.specs.Action.{Action}
use Rattle.net_model.specs.BlockOrder.{is_claim, is_by_lane, claim_lanes, are_by_lane, Parts, all_histories, claimed_on, put_on, IsBlock}
use Rattle.net_model.specs.Step.{run}
use Rattle.run_model.specs.Works.{Work, Works, actions_in, parts, flat}
use Rattle.run_ops.specs.Quiet.{IsQuiet}
use Rattle.run_ops.specs.declared.job.Job.{Job}
use Rattle.law_locality.proofs.Chains.{kept}
use Rattle.law_locality.proofs.Runs.{run-append}
use Rattle.law_locality.proofs.Views.{same_for}
use Rattle.law_locality.specs.Quiet.{IsQuiet as IsQuietNetwork}
use Rattle.law_locality.specs.Sending.{orders_in, repeats_in, repeated}
use Rattle.law_parallel.specs.Putting.{Putting, lane_of, is_wanted, claims_of, ClaimsComeFirst}
use Rattle.law_parallel.specs.Remaining.{Remains, AreTurns}
use Rattle.law_parallel.proofs.First.{claims_come_first}
use Rattle.law_parallel.proofs.Turns.{turns_leave}
use Rattle.law_parallel.specs.InOrder.{turns_over, IsInOrder, works_of}
use Rattle.law_parallel.proofs.Asked.{are_asked, of_nodes, all_turns}
use Rattle.law_parallel.proofs.Claims.{emissions, claims_are, claims_on_lane, claims_lanes, claims_each, claims_by_lane, AreOnLanes}
use Rattle.law_parallel.proofs.Claimed.{fresh, no_more, claims_claimed}
use Rattle.law_parallel.proofs.Counting.{count-append}
use Rattle.law_parallel.proofs.Histories.{AreOfNodes, AreAlone, histories_alone}
use Rattle.law_parallel.proofs.Puts.{puts, puts_lanes, puts_each, numbers_are, counted}
use Rattle.law_parallel.proofs.WorkRepeats.{on_lanes, all_there}
use Rattle.law_parallel.proofs.Runs.{flat_actions}

what_wanted : (ps : List Putting) → map (λ (x : ℕ × Emission). x.1) (map is_wanted ps) ≡ emissions ps
what_wanted [] = refl
what_wanted (p ∷ ps) = ap (λ (es : List Emission). p.emission ∷ es) (what_wanted ps)

lanes_wanted : (ps : List Putting) → map (λ (p : Putting). lane_of p.emission) ps ≡ map lane_of (emissions ps)
lanes_wanted [] = refl
lanes_wanted (p ∷ ps) = ap (λ (ls : List Lane). lane_of p.emission ∷ ls) (lanes_wanted ps)

module _ (net : Network) (network : IsNetwork net) (workers : ℕ) (w : World) (c : Conserved net w) (quiet : IsQuiet w) (jobs : List Job) (histories : List (List Work)) (ps : List Putting)
    (h : IsInOrder net workers w jobs histories ps) where
  abbrev pub turned : World
  turned = turns_over net w histories

  abbrev pub turns : List Action
  turns = actions_in (flat histories)

  abbrev pub es : List Emission
  es = emissions ps

  abbrev pub works : Works
  works = works_of net w histories ps

  abbrev pub p : Parts
  p = parts works

  of : AreOfNodes net 0 histories
  of = of_nodes net workers jobs histories 0 (are_asked net workers jobs histories h.merged)

  pub are_turns : AreTurns net (flat histories)
  are_turns = let size = h.nodes in all_turns net histories 0 (omega (arith, size)) of

  pub alone : AreAlone net network w w 0 histories
  alone = histories_alone net network w c histories 0 w c (λ k more. same_for net k w) of h.turns

  pub conserved : Conserved net turned
  conserved = kept net network turns w c h.turns

  quiet_network : IsQuietNetwork w
  quiet_network = record { claimed = quiet.claimed; put = quiet.put; noted = quiet.noted }

  pub remains : Remains net turned es
  remains = subst (Remains net turned) (what_wanted ps) (turns_leave net w (flat histories) (map is_wanted ps) network c quiet_network are_turns h.turns h.wanted)

  pub first : ClaimsComeFirst net turned ps
  first = claims_come_first net turned ps network conserved remains h.puts

  pub on_declared : AreOnLanes net.site es
  on_declared = on_lanes net turned es remains.each

  pub after_turns : run net w (all_histories p) ≡ turned
  after_turns = ap (run net w) (flat_actions histories)

  pub after_claims : run net w (all_histories p ++ p.claims) ≡ run net turned (claims_of ps)
  after_claims = run-append net (all_histories p) p.claims w ∙ ap (λ (x : World). run net x (claims_of ps)) after_turns

  pub each_claim : list_all (is_claim net.site) (claims_of ps) ≡ true
  each_claim = ap (list_all (is_claim net.site)) (claims_are ps) ∙ claims_each net.site es on_declared

  pub all_orders : (l : Lane) (t : Transmission) → count_by (transmission_eq t) (claimed_on l (claims_of ps)) ≡ count_by (transmission_eq t) (turned.unclaimed l)
  all_orders l t =
      ap (λ (xs : List Action). count_by (transmission_eq t) (claimed_on l xs)) (claims_are ps)
      ∙ ap (count_by (transmission_eq t)) (claims_on_lane l (orders_in es) ∙ sym (remains.unclaimed l))

  by_lane : is_by_lane (map lane_of es) ≡ true
  by_lane = ap is_by_lane (sym (lanes_wanted ps)) ∙ h.by_lane

  -- The frames that wait for a lane's wire after all claims.
  pub outgoing_after : (l : Lane) → (run net turned (claims_of ps)).outgoing l ≡
      map (repeated (turned.frames l)) (filter (λ (r : Repeat). lane_eq r.lane l) (repeats_in es)) ++ fresh (length (turned.frames l)) (filter (λ (o : Order). lane_eq o.lane l) (orders_in es))
  outgoing_after l =
      ap (λ (xs : List Action). (run net turned xs).outgoing l) (claims_are ps) ∙ (claims_claimed net (orders_in es) turned l).outgoing
      ∙ ap (λ (os : List Outgoing). os ++ fresh (length (turned.frames l)) (filter (λ (o : Order). lane_eq o.lane l) (orders_in es))) (remains.outgoing l)

  pub all_frames : (l : Lane) (j : ℕ) → count_by (λ i. i == j) (put_on l (puts net turned ps)) ≡
      count_by (λ (o : Outgoing). o.frame == j) ((run net turned (claims_of ps)).outgoing l)
  all_frames l j =
      ap (count_by (λ i. i == j)) (numbers_are net l (turned.frames l) ps turned (no_more (turned.frames l)) (all_there net turned l es remains.each))
      ∙ counted net l (turned.frames l) j (length (turned.frames l)) es
      ∙ sym (count-append (λ (o : Outgoing). o.frame == j) (map (repeated (turned.frames l)) (filter (λ (r : Repeat). lane_eq r.lane l) (repeats_in es)))
      (fresh (length (turned.frames l)) (filter (λ (o : Order). lane_eq o.lane l) (orders_in es))))
      ∙ ap (count_by (λ (o : Outgoing). o.frame == j)) (sym (outgoing_after l))

  pub is_block : IsBlock net w p
  is_block = record {
    nodes = length-map histories actions_in ∙ h.nodes;
    chains = alone.chains;
    claims = each_claim;
    claim_order = ap (λ (xs : List Action). are_by_lane (claim_lanes xs)) (claims_are ps) ∙ ap are_by_lane (claims_lanes (orders_in es)) ∙ claims_by_lane es by_lane;
    claimed = λ l t. all_orders l t ∙ ap (λ (x : World). count_by (transmission_eq t) (x.unclaimed l)) (sym after_turns);
    puts = puts_each net ps turned on_declared h.answered;
    put_order = ap are_by_lane (puts_lanes net ps turned) ∙ by_lane;
    put = λ l j. all_frames l j ∙ ap (λ (x : World). count_by (λ (o : Outgoing). o.frame == j) (x.outgoing l)) (sym after_claims);
  }
