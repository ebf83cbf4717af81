-- Each round of a settle passes what it puts. So if no pass was refused, all frames count as passed after it.
use Rattle.std.proofs.Common.{◌≡◌, ℕ, zero, suc, ◌+◌, ◌-◌, ◌<◌, ◌≤◌, Bool, true, false, ◌||◌, List, [], ◌∷◌, length, refl, sym, ◌∙◌, ap, subst, arith, Some}
use Rattle.std.specs.Prelude.{◌==◌, nat_lt, slice_get, if◌then◌else◌}
use Rattle.std.specs.List.{list_any, list_all, flat_map}
use Rattle.std.proofs.lemmas.Bool.{ltb-true}
use Rattle.std.proofs.lemmas.List.Folds.{list_any-append}
use Rattle.qkd_base.specs.Lane.{lane_eq}
use Rattle.qkd_base.specs.declared.lane.Lane.{Lane}
use Rattle.qkd_base.specs.declared.lane.Way.{Way}
use Rattle.qkd_base.specs.declared.lane.Way.TheVariants.{Up, Down}
use Rattle.net_model.specs.declared.reply.Reply.TheVariants.{Planned}
use Rattle.net_model.specs.Premises.{IsNetwork}
use Rattle.net_model.specs.Events.{is_lane}
use Rattle.net_model.specs.Site.{lane_of, count_up, outgoing_lanes}
use Rattle.net_model.specs.World.{Network, World}
use Rattle.net_model.specs.Tick.{Emission, Again, New, tick_order}
use Rattle.net_model.specs.Action.{Environment, Ok, Action, Deliver, Outcome, Replies}
use Rattle.net_model.specs.Step.{step, IsStep}
use Rattle.run_types.specs.declared.item.Item.TheVariants.{Passed}
use Rattle.run_model.specs.Script.{Script, Ends}
use Rattle.run_model.specs.Outcomes.{frame_items}
use Rattle.run_model.specs.Lines.{emitted, after_plan, ticked, ticks, all_lanes, passes, all_passes, on_wires, settle}
use Rattle.run_model.specs.Play.{plain}
use Rattle.law_base.proofs.Base.{by_test, by_other_lane, or_left, or_right, eq_from, lane_same}
use Rattle.law_base.proofs.Lists.{any_at}
use Rattle.law_quiet.specs.Passes.{is_start}
use Rattle.law_quiet.specs.Rested.{is_taken}
use Rattle.law_quiet.proofs.Coverage.{plain_start, Covers, wires, less_covers, step_covers, one_more, pass_covers, AllCovered}
use Rattle.law_quiet.proofs.Leading.{Leads, leads_then}
use Rattle.law_quiet.proofs.PassAnswers.{pass_heard}
use Rattle.law_quiet.proofs.LeavingLanes.{counted}
use Rattle.law_quiet.proofs.Wires.{same_wires}

asked_pass : (a : Action) (m : Lane) (number : ℕ) → plain a ≡ Deliver m number Ok → (environment : Environment) × (a ≡ Deliver m number environment)
asked_pass (Deliver k i environment) m number h = (environment, cc)
asked_pass _ m number h = cc

-- Each lane of the site is among all lanes.

any_flat : {A B : Type 0} (q : B → Bool) (f : A → List B) (xs : List A) (i : ℕ) (x : A) → slice_get xs i ≡ Some x → list_any q (f x) ≡ true → list_any q (flat_map f xs) ≡ true
any_flat q f [] i x at h = cc
any_flat q f (y ∷ xs) zero x at h =
    let is : y ≡ x = cc in
    list_any-append q (f y) (flat_map f xs) ∙ or_left (list_any q (f y)) _ (ap (λ (z : _). list_any q (f z)) is ∙ h)
any_flat q f (y ∷ xs) (suc i) x at h = list_any-append q (f y) (flat_map f xs) ∙ or_right (list_any q (f y)) _ (any_flat q f xs i x at h)

both_ways : (w : Way) (k : ℕ) → list_any (lane_eq (lane_of k w)) (lane_of k Up ∷ lane_of k Down ∷ []) ≡ true
both_ways Up k = or_left (lane_eq (lane_of k Up) (lane_of k Up)) _ (lane_same (lane_of k Up))
both_ways Down k = or_right (lane_eq (lane_of k Down) (lane_of k Up)) _ (or_left (lane_eq (lane_of k Down) (lane_of k Down)) false (lane_same (lane_of k Down)))

among : (w : Way) (k n : ℕ) → k < n → list_any (lane_eq (lane_of k w)) (flat_map (λ link. lane_of link Up ∷ lane_of link Down ∷ []) (count_up n)) ≡ true
among w k n less =
    let found = any_at (λ y. y == k) (count_up n) (counted n k less) in
    let is : found.1 ≡ k = eq_from found.1 k found.3 in
    any_flat (lane_eq (lane_of k w)) (λ link. lane_of link Up ∷ lane_of link Down ∷ []) (count_up n) found.0 k (found.2 ∙ ap Some is) (both_ways w k)

module _ (net : Network) (network : IsNetwork net) (l : Lane) where
  abbrev Goes : (World → Type 0) → World → Script → Type 0
  Goes Q w s = Leads net is_taken Q w s

  -- The ticks of a round start no manager.
  module _ (upto : Lane → ℕ) where
    abbrev Q : World → Type 0
    Q w = Covers net network l upto w

    keeps : (w : World) → Q w → (a action : Action) → plain a ≡ action → IsStep net w a → is_start action ≡ false → Q (step net w a).0
    keeps w h a action asked may other = step_covers net network l upto w h a (plain_start a ∙ ap is_start asked ∙ other) may

    emits : (v : ℕ) (es : List Emission) (w : World) → Q w → Goes Q w (emitted v es)
    unfolding emitted
    emits v [] w h = λ a asked may. keeps w h a _ asked may refl
    emits v (Again r ∷ es) w h = λ a asked may told. emits v es (step net w a).0 (keeps w h a _ asked may refl)
    emits v (New o ∷ es) w h = λ a asked may b put may' told.
        emits v es (step net (step net w a).0 b).0 (keeps (step net w a).0 (keeps w h a _ asked may refl) b _ put may' refl)

    planned : (v : ℕ) (out : Outcome) (w : World) → Q w → Goes Q w (after_plan net.site v out)
    planned v (Replies (Planned orders repeats shorts)) w h = emits v (tick_order (outgoing_lanes net.site v) repeats orders) w h
    planned v _ w h = h

    tick : (v : ℕ) (w : World) → Q w → Goes Q w (ticked net.site true v)
    unfolding ticked
    tick v w h = λ a asked may told. planned v (step net w a).1 (step net w a).0 (keeps w h a _ asked may refl)

    all_tick : (vs : List ℕ) (w : World) → Q w → Goes Q w (ticks net.site vs)
    all_tick [] w h = h
    all_tick (v ∷ vs) w h = leads_then net is_taken Q Q (if w.up v then ticked net.site true v else Ends) (ticks net.site vs) (all_tick vs) w (turn (w.up v))
      where
        turn : (b : Bool) → Goes Q w (if b then ticked net.site true v else Ends)
        turn true = tick v w h
        turn false = h

  -- The passes of a round, whose wires stay as they are.
  module _ (now : World) where
    abbrev At : (Lane → ℕ) → World → Type 0
    At upto w = Covers net network l upto w × (w.wire ≡ now.wire)

    pass : (upto : Lane → ℕ) (m : Lane) (number : ℕ) → number ≤ upto m → (w : World) → At upto w → (a : Action) → plain a ≡ Deliver m number Ok → IsStep net w a →
        list_all is_taken (frame_items (Passed m number) (step net w a).1) ≡ true → At (one_more net network l upto m (number + 1)) (step net w a).0
    pass upto m number below w h a asked may told =
        let is = asked_pass a m number asked in
        let environment : Environment = is.0 in
        subst (λ (x : Action). IsStep net w x → list_all is_taken (frame_items (Passed m number) (step net w x).1) ≡ true → At (one_more net network l upto m (number + 1)) (step net w x).0) (sym is.1)
        (λ may' told'. (
          pass_covers net network l upto m number environment below w h.0 may' (pass_heard net w h.0.0 m number environment told'),
          same_wires net w (Deliver m number environment) refl refl ∙ h.1,
        )) may told

    -- What is reached after the passes of one lane.
    pass_lane : (m : Lane) (number count : ℕ) (upto end : Lane → ℕ) → number ≤ upto m → ((x : Lane) → end x ≤ one_more net network l upto m (number + count) x) → (w : World) → At upto w →
        Goes (At end) w (passes m number count)
    pass_lane m number zero upto end below reached w h = (
      less_covers net network l upto end (λ x site. by_other_lane (λ y b. end y ≤ (if b then number + 0 else upto y) → end y ≤ upto y) m (λ le. omega (arith, le, below)) (λ y apart le. le) x (reached x)) w h.0,
      h.1,
    )
    pass_lane m number (suc more) upto end below reached w h = λ a asked may told.
        let next : Lane → ℕ = one_more net network l upto m (number + 1) in
        let here : next m ≡ number + 1 = ap (λ (b : Bool). if b then number + 1 else upto m) (lane_same m) in
        pass_lane m (number + 1) more next end (omega (arith, here))
        (λ x. by_other_lane (λ y b. end y ≤ (if b then number + suc more else upto y) → end y ≤ (if b then (number + 1) + more else (if b then number + 1 else upto y))) m
        (λ le. omega (arith, le)) (λ y apart le. le) x (reached x))
        (step net w a).0 (pass upto m number below w h a asked may told)

    -- What is reached after the passes of all these lanes.
    pass_lanes : (before : World) (ls : List Lane) (upto end : Lane → ℕ) → ((m : Lane) → length (before.wire m) ≤ upto m) →
        ((x : Lane) → end x ≤ (if list_any (lane_eq x) ls then length (now.wire x) else upto x)) → (w : World) → At upto w → Goes (At end) w (all_passes before now ls)
    pass_lanes before [] upto end below reached w h = (less_covers net network l upto end (λ x site. reached x) w h.0, h.1)
    pass_lanes before (m ∷ ls) upto end below reached w h =
        let number : ℕ = length (before.wire m) in
        let count : ℕ = length (now.wire m) - length (before.wire m) in
        let next : Lane → ℕ = one_more net network l upto m (number + count) in
        leads_then net is_taken (At next) (At end) (passes m number count) (all_passes before now ls)
        (pass_lanes before ls next end
        (λ x. by_other_lane (λ y b. length (before.wire y) ≤ upto y → length (before.wire y) ≤ (if b then number + count else upto y)) m (λ le. omega arith) (λ y apart le. le) x (below x))
        (λ x. by_other_lane (λ y b. end y ≤ (if b || list_any (lane_eq y) ls then length (now.wire y) else upto y) → end y ≤ (if list_any (lane_eq y) ls then length (now.wire y) else (if b then number + count else upto y))) m
        (λ le. by_test (λ (k : ℕ). end m ≤ k) (list_any (lane_eq m) ls) _ _ (λ t. le) (λ t. omega (arith, le))) (λ y apart le. le) x (reached x)))
        w (pass_lane m number count upto next (below m) (λ x. omega arith) w h)

  all_among : (m : Lane) → is_lane net.site m ≡ true → list_any (lane_eq m) (all_lanes net.site) ≡ true
  all_among m site = among m.way m.link net.site.links (ltb-true m.link net.site.links site)

  -- A settle.
  pub settles : (rounds : ℕ) (w : World) → AllCovered net network l w → Goes (AllCovered net network l) w (settle net.site rounds)
  unfolding settle
  settles zero w h = h
  settles (suc rounds) w h =
      let from : Lane → ℕ = wires net network l w in
      leads_then net is_taken (Covers net network l from) (AllCovered net network l) (ticks net.site (count_up net.site.nodes)) _ (λ x q.
      let end : Lane → ℕ = λ m. if list_any (lane_eq m) (all_lanes net.site) then length (x.wire m) else from m in
      leads_then net is_taken (At x end) (AllCovered net network l) (all_passes w x (all_lanes net.site)) _ (λ y r. next (settles rounds) (nat_lt (on_wires net.site w) (on_wires net.site x)) y (reached x y r)) x
      (pass_lanes x w (all_lanes net.site) from end (λ m. omega arith) (λ m. omega arith) x (q, refl))) w (all_tick from (count_up net.site.nodes) w h)
    where
      next : ((y : World) → AllCovered net network l y → Goes (AllCovered net network l) y (settle net.site rounds)) → (b : Bool) (y : World) → AllCovered net network l y →
          Goes (AllCovered net network l) y (if b then settle net.site rounds else Ends)
      next more true y r = more y r
      next more false y r = r

      reached : (x y : World) → At x (λ m. if list_any (lane_eq m) (all_lanes net.site) then length (x.wire m) else wires net network l w m) y → AllCovered net network l y
      reached x y r =
          less_covers net network l (λ m. if list_any (lane_eq m) (all_lanes net.site) then length (x.wire m) else wires net network l w m) (wires net network l y)
          (λ m site.
          let same : length (y.wire m) ≡ length (x.wire m) = ap (λ (f : Lane → List ℕ). length (f m)) r.1 in
          let full : (if list_any (lane_eq m) (all_lanes net.site) then length (x.wire m) else wires net network l w m) ≡ length (x.wire m) =
          ap (λ (b : Bool). if b then length (x.wire m) else wires net network l w m) (all_among m site) in
          omega (arith, same, full)) y r.0
