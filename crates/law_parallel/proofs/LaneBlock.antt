-- What lanes do in any order is a block of the network.
use Rattle.std.proofs.Common.{◌≡◌, ℕ, Bool, true, false, List, [], ◌∷◌, ◌++◌, length, map, refl, sym, ◌∙◌, ap, subst, arith}
use Rattle.std.specs.Prelude.{◌==◌, filter, count_by, if◌then◌else◌}
use Rattle.std.specs.List.{list_all}
use Rattle.std.proofs.lemmas.List.{length-map}
use Rattle.qkd_base.specs.Lane.{lane_eq}
use Rattle.qkd_base.specs.declared.lane.Lane.{Lane}
use Rattle.net_model.specs.declared.order.Order.{Order}
use Rattle.net_model.specs.declared.repeat.Repeat.{Repeat}
use Rattle.net_model.specs.Site.{count_up}
use Rattle.net_model.specs.World.{Network, World, Allocation, Outgoing}
use Rattle.net_model.specs.Premises.{IsNetwork}
use Rattle.net_model.specs.Invariant.{Conserved}
use Rattle.net_model.specs.Window.{transmission_eq}
use Rattle.net_model.specs.Events.{is_lane}
use Rattle.net_model.specs.Tick.{Emission}
use Rattle.net_model.specs.Handle.{frame_at}
use Rattle.net_model.specs.Action.{Action}
use Rattle.net_model.specs.BlockOrder.{is_claim, is_put, claim_lanes, put_lanes, are_by_lane, Parts, all_histories, claimed_on, put_on, IsBlock}
use Rattle.net_model.specs.Step.{run}
use Rattle.run_model.specs.Works.{Work, Works, actions_in, parts, flat, done_from}
use Rattle.run_ops.specs.Quiet.{IsQuiet}
use Rattle.run_ops.specs.declared.job.Job.{Job}
use Rattle.law_base.proofs.Base.{lane_eq_from, not_both}
use Rattle.law_locality.proofs.Chains.{kept}
use Rattle.law_locality.proofs.Runs.{run-append}
use Rattle.law_locality.proofs.Views.{same_for}
use Rattle.law_locality.specs.Quiet.{IsQuiet as IsQuietNetwork}
use Rattle.law_locality.specs.Sending.{repeats_in, repeated}
use Rattle.law_locality.proofs.Lists.{map_kept}
use Rattle.law_parallel.specs.Putting.{lane_of, wanted_by}
use Rattle.law_parallel.specs.Remaining.{Remains, AreTurns}
use Rattle.law_parallel.proofs.Lists.{repeats_on_lane}
use Rattle.law_parallel.proofs.Turns.{turns_leave}
use Rattle.law_parallel.specs.InOrder.{turns_over}
use Rattle.law_parallel.proofs.Asked.{are_asked, of_nodes, all_turns}
use Rattle.law_parallel.proofs.Claims.{AreOnLanes, claim}
use Rattle.law_parallel.proofs.Claimed.{fresh, claims_claimed}
use Rattle.law_parallel.proofs.Counting.{count-append, count-map}
use Rattle.law_parallel.proofs.Histories.{AreOfNodes, AreAlone, histories_alone}
use Rattle.law_parallel.proofs.WorkRepeats.{on_lanes}
use Rattle.law_parallel.proofs.Runs.{flat_actions}
use Rattle.law_parallel.specs.Logs.{Deed, claims_in, claims_put, done_for_plans, HaveTheSame, wanted_on}
use Rattle.law_parallel.specs.Puts.{LaneFrame, frames_put}
use Rattle.law_parallel.specs.LaneWorks.{AreLaneWorks, works_of}
use Rattle.law_parallel.proofs.Lanes.{AreOn, are_on}
use Rattle.law_parallel.proofs.Counted.{all_alike, is_on, lane_wanted, lane_claimed, all_kept_on, claims_on, if_again, repeats_wanted, again_frame, puts_counted}
use Rattle.law_parallel.proofs.AllClaims.{orders_of, all_orders, claims_are, orders_here, each_claim, claims_in_order, claims_counted, fresh_counted}
use Rattle.law_parallel.proofs.AllPuts.{number_put, works_in, on_that, works_on, works_put, all_puts, puts_are, puts_in_order, puts_on_lane, each_put}

abbrev pub what : List (ℕ × Emission) → List Emission
what xs = map (λ (x : ℕ × Emission). x.1) xs

-- Counting the repeats of a frame gives the same number as counting the frames that wait for them.
repeats_counted : (j : ℕ) (older : List Allocation) (rs : List Repeat) →
    count_by (λ (r : Repeat). frame_at older r.offset == j) rs ≡ count_by (λ (o : Outgoing). o.frame == j) (map (repeated older) rs)
repeats_counted j older rs = sym (count-map (λ (o : Outgoing). o.frame == j) (repeated older) rs)

module _ (net : Network) (network : IsNetwork net) (workers : ℕ) (w : World) (c : Conserved net w) (quiet : IsQuiet w) (jobs : List Job) (histories : List (List Work)) (logs : Lane → List Deed)
    (h : AreLaneWorks net workers w jobs histories logs) where
  abbrev pub start : World
  start = turns_over net w histories

  abbrev pub turns : List Action
  turns = actions_in (flat histories)

  abbrev pub wanted : List (ℕ × Emission)
  wanted = wanted_by (done_from net w (flat histories))

  abbrev pub works : Works
  works = works_of net w histories logs

  abbrev pub p : Parts
  p = parts works

  -- Lemmas on the turns.

  of : AreOfNodes net 0 histories
  of = of_nodes net workers jobs histories 0 (are_asked net workers jobs histories h.merged)

  pub are_turns : AreTurns net (flat histories)
  are_turns = let size = h.nodes in all_turns net histories 0 (omega (arith, size)) of

  pub alone : AreAlone net network w w 0 histories
  alone = histories_alone net network w c histories 0 w c (λ k more. same_for net k w) of h.turns

  pub conserved : Conserved net start
  conserved = kept net network turns w c h.turns

  quiet_network : IsQuietNetwork w
  quiet_network = record { claimed = quiet.claimed; put = quiet.put; noted = quiet.noted }

  pub remains : Remains net start (what wanted)
  remains = turns_leave net w (flat histories) wanted network c quiet_network are_turns h.turns (λ l. refl)

  -- Lemmas on what is ordered on each lane, declared or not.

  emissions_declared : AreOnLanes net.site (what wanted)
  emissions_declared = on_lanes net start (what wanted) remains.each

  none_wanted : (l : Lane) → is_lane net.site l ≡ false → (xs : List (ℕ × Emission)) → AreOnLanes net.site (what xs) → wanted_on l xs ≡ []
  none_wanted l away [] d = refl
  none_wanted l away (x ∷ xs) d =
      elim (lane_eq (lane_of x.1) l) as (λ t. lane_eq (lane_of x.1) l ≡ t → (if t then x ∷ wanted_on l xs else wanted_on l xs) ≡ []) [
        | true ↦ λ e. absurd (not_both (is_lane net.site l) (ap (is_lane net.site) (sym (lane_eq_from (lane_of x.1) l e)) ∙ d.0) away)
        | false ↦ λ e. none_wanted l away xs d.1
      ] refl

  pub wanted_undeclared : (l : Lane) → is_lane net.site l ≡ false → wanted_on l wanted ≡ []
  wanted_undeclared l e = none_wanted l e wanted emissions_declared

  by_declared : (P : Lane → Type 0) → ((l : Lane) → is_lane net.site l ≡ true → P l) → ((l : Lane) → is_lane net.site l ≡ false → P l) → (l : Lane) → P l
  by_declared P there not_there l = elim (is_lane net.site l) as (λ t. is_lane net.site l ≡ t → P l) [
    | true ↦ there l
    | false ↦ not_there l
  ] refl

  pub wanted_here : (l : Lane) → HaveTheSame (done_for_plans (logs l)) (wanted_on l wanted)
  wanted_here =
      by_declared (λ l. HaveTheSame (done_for_plans (logs l)) (wanted_on l wanted)) h.wanted
      (λ l e kind. ap (λ (log : List Deed). count_by kind (done_for_plans log)) (h.undeclared l e) ∙ ap (count_by kind) (sym (none_wanted l e wanted emissions_declared)))

  pub put_here : (l : Lane) → HaveTheSame (claims_put (logs l)) (count_up (length (claims_in (logs l))))
  put_here =
      by_declared (λ l. HaveTheSame (claims_put (logs l)) (count_up (length (claims_in (logs l))))) h.put
      (λ l e. subst (λ (log : List Deed). HaveTheSame (claims_put log) (count_up (length (claims_in log)))) (sym (h.undeclared l e)) (λ kind. refl))

  all_on : (l : Lane) → list_all (is_on l) (done_for_plans (logs l)) ≡ true
  all_on l = all_alike (is_on l) (done_for_plans (logs l)) (wanted_on l wanted) (wanted_here l) (all_kept_on l (wanted_on l wanted) (are_on lane_wanted l wanted))

  pub claims_mine : (l : Lane) → AreOn lane_claimed l (claims_in (logs l))
  claims_mine l = claims_on l (logs l) (all_on l)

  -- The worlds between the parts of the block.

  abbrev pub after : World
  after = run net start (map claim (all_orders net.site logs))

  pub after_turns : run net w (all_histories p) ≡ start
  after_turns = ap (run net w) (flat_actions histories)

  pub after_claims : run net w (all_histories p ++ p.claims) ≡ after
  after_claims =
      run-append net (all_histories p) p.claims w ∙ ap (λ (x : World). run net x p.claims) after_turns
      ∙ ap (run net start) (claims_are net.site logs)

  -- Lemmas on the frames that wait after the claims.

  pub outgoing_after : (l : Lane) → after.outgoing l ≡
      map (repeated (start.frames l)) (filter (λ (r : Repeat). lane_eq r.lane l) (repeats_in (what wanted))) ++ fresh (length (start.frames l)) (orders_of (claims_in (logs l)))
  outgoing_after l =
      (claims_claimed net (all_orders net.site logs) start l).outgoing
      ∙ ap (λ (os : List Order). start.outgoing l ++ fresh (length (start.frames l)) os) (orders_here net.site logs claims_mine h.undeclared l)
      ∙ ap (λ (os : List Outgoing). os ++ fresh (length (start.frames l)) (orders_of (claims_in (logs l)))) (remains.outgoing l)

  -- Each frame waits as often as it is put.
  pub frames_counted : (l : Lane) (j : ℕ) → count_by (λ i. i == j) (put_on l (actions_in (works_in (all_puts net.site start logs)))) ≡ count_by (λ (o : Outgoing). o.frame == j) (after.outgoing l)
  frames_counted l j =
      let is_it : LaneFrame → Bool = λ (f : LaneFrame). f.number == j in
      let older : List Allocation = start.frames l in
      let log : List Deed = logs l in
      let of_frame : Repeat → Bool = λ (r : Repeat). frame_at older r.offset == j in
      let numbers : count_by (λ i. i == j) (put_on l (actions_in (works_in (all_puts net.site start logs)))) ≡ count_by (λ x. is_it (x.0)) (frames_put start l log) =
      ap (count_by (λ i. i == j)) (works_on l (all_puts net.site start logs) ∙ ap (map number_put) (puts_on_lane net.site start logs h.undeclared l))
      ∙ count-map (λ i. i == j) number_put (on_that l (frames_put start l log)) ∙ count-map (λ x. number_put x == j) (λ q. (l, q)) (frames_put start l log) in
      let counted = puts_counted start l log (put_here l) is_it in
      let new = fresh_counted j start.durable.facts (length older) (length (start.durable.own l)) (claims_in log) in
      let again : count_by (if_again (λ x. is_it (again_frame older x))) (done_for_plans log) ≡
      count_by (λ (o : Outgoing). o.frame == j) (map (repeated older) (filter (λ (r : Repeat). lane_eq r.lane l) (repeats_in (what wanted)))) =
      wanted_here l (if_again (λ x. is_it (again_frame older x))) ∙ repeats_wanted of_frame (wanted_on l wanted)
      ∙ ap (λ (es : List Emission). count_by of_frame (repeats_in es)) (sym (map_kept (λ (e : Emission). lane_eq (lane_of e) l) (λ (x : ℕ × Emission). x.1) wanted))
      ∙ ap (count_by of_frame) (sym (repeats_on_lane l (what wanted))) ∙ repeats_counted j older (filter (λ (r : Repeat). lane_eq r.lane l) (repeats_in (what wanted))) in
      let all = ap (count_by (λ (o : Outgoing). o.frame == j)) (outgoing_after l) in
      let both = count-append (λ (o : Outgoing). o.frame == j) (map (repeated older) (filter (λ (r : Repeat). lane_eq r.lane l) (repeats_in (what wanted)))) (fresh (length older) (orders_of (claims_in log))) in
      omega (arith, numbers, counted, new, again, all, both)

  abbrev frames : List Action
  frames = actions_in (works_in (all_puts net.site start logs))

  pub puts_as : p.puts ≡ frames
  puts_as = ap actions_in (puts_are net.site start logs)

  pub is_block : IsBlock net w p
  is_block = record {
    nodes = length-map histories actions_in ∙ h.nodes;
    chains = alone.chains;
    claims = ap (list_all (is_claim net.site)) (claims_are net.site logs) ∙ each_claim net.site logs claims_mine h.undeclared;
    claim_order = ap (λ (xs : List Action). are_by_lane (claim_lanes xs)) (claims_are net.site logs) ∙ claims_in_order net.site logs claims_mine h.undeclared;
    claimed = λ l t. ap (λ (xs : List Action). count_by (transmission_eq t) (claimed_on l xs)) (claims_are net.site logs)
        ∙ claims_counted net.site logs claims_mine h.undeclared wanted l (wanted_here l) t
        ∙ ap (count_by (transmission_eq t)) (sym (remains.unclaimed l))
        ∙ ap (λ (x : World). count_by (transmission_eq t) (x.unclaimed l)) (sym after_turns);
    puts = ap (list_all (is_put net.site)) puts_as ∙ works_put net.site (all_puts net.site start logs) (each_put net.site start logs h.undeclared h.answered);
    put_order = ap (λ (xs : List Action). are_by_lane (put_lanes xs)) puts_as ∙ puts_in_order net.site start logs;
    put = λ l j. ap (λ (xs : List Action). count_by (λ i. i == j) (put_on l xs)) puts_as ∙ frames_counted l j
        ∙ ap (λ (x : World). count_by (λ (o : Outgoing). o.frame == j) (x.outgoing l)) (sym after_claims);
  }
