-- A run changes nothing of a node or link that isn't declared, and none of their parts fails.
use Rattle.std.proofs.Common.{◌≡◌, ℕ, ◌+◌, ◌<◌, ◌≤◌, Bool, true, false, ◌&&◌, List, [], ◌∷◌, refl, ap, subst, ◌∙◌, arith, Option, Some, None}
use Rattle.std.specs.Prelude.{◌==◌, count_by, cond, fold, if◌then◌else◌}
use Rattle.std.specs.List.{filter_map, cons_option}
use Rattle.std.proofs.lemmas.Bool.{ltb-true}
use Rattle.qkd_base.specs.Lane.{lane_eq}
use Rattle.qkd_base.specs.declared.lane.Way.{Way}
use Rattle.qkd_base.specs.declared.lane.Way.TheVariants.{Up, Down}
use Rattle.qkd_base.specs.declared.lane.Lane.{Lane}
use Rattle.net_model.specs.Site.{Site, of_way, sender, receiver, outgoing_lane, is_incident}
use Rattle.net_model.specs.World.{Network, World, first}
use Rattle.net_model.specs.Premises.{IsNetwork, IsSite}
use Rattle.net_model.specs.Invariant.{Conserved}
use Rattle.net_model.specs.Events.{is_lane, is_valid_event}
use Rattle.net_model.specs.Action.{Action, Start, Crash, Arm, SetLink, TakeBlock, Ask, Allocate, Transmit, Complete, Deliver, Flip, Forge, is_shown, environment_of, is_io_fault, is_entropy_fault, is_device_fault}
use Rattle.net_model.specs.Start.{may_recover, is_plain}
use Rattle.net_model.specs.Faults.{is_interrupted, is_disk_fault, is_random_fault, is_block_fault, is_wire_fault, disk_faults, entropy_faults, device_faults, wire_faults, fault_armed, armings}
use Rattle.net_model.specs.Step.{step, is_enabled, is_step, is_node, is_link, is_quiet, is_sent, is_asked, run, is_run, IsRun}
use Rattle.law_base.proofs.Base.{and_left, and_right, eq_from, lane_eq_from, not_false, not_both}
use Rattle.law_invariant.specs.May.{is_plan}
use Rattle.law_invariant.proofs.Steps.{first_keeps, step_keeps}
use Rattle.law_locality.specs.Touched.{touches_node, touches_lane, Wire, changes_part}
use Rattle.law_locality.proofs.ManagerSteps.{step_unseen}
use Rattle.law_locality.proofs.LaneParts.{step_part}

first_of : (a b c : Bool) → (a && b && c) ≡ true → a ≡ true
first_of true b c h = refl
first_of false b c h = cc

second_of : (a b c : Bool) → (a && b && c) ≡ true → b ≡ true
second_of true true c h = refl
second_of true false c h = cc
second_of false b c h = cc

first_of_four : (a b c d : Bool) → (a && b && c && d) ≡ true → a ≡ true
first_of_four true b c d h = refl
first_of_four false b c d h = cc

-- a declared number differs from one that isn't

apart : (n u v : ℕ) → u < n → n ≤ v → (u == v) ≡ false
apart n u v below past = not_false (u == v) (λ e. let same = eq_from u v e in omega (arith, same, below, past))

no_and : (a b : Bool) → a ≡ false → (a && b) ≡ false
no_and a b h = ap (λ (t : Bool). t && b) h

no_part : (b : Bool) → (b && false) ≡ false
no_part true = refl
no_part false = refl

lane_ends : (s : Site) → IsSite s → (l : Lane) → is_lane s l ≡ true → (sender s l < s.nodes) × (receiver s l < s.nodes)
lane_ends s is l at = ends l.way
  where
    both : (s.low l.link < s.nodes) × (s.high l.link < s.nodes)
    both = let link = is.ends l.link (ltb-true l.link s.links at) in (omega (arith, link.order, link.within), link.within)

    ends : (way : Way) → (of_way way (s.low l.link) (s.high l.link) < s.nodes) × (of_way way (s.high l.link) (s.low l.link) < s.nodes)
    ends Up = (both.0, both.1)
    ends Down = (both.1, both.0)

other_lane : (s : Site) (k l : Lane) → is_lane s k ≡ true → is_lane s l ≡ false → lane_eq k l ≡ false
other_lane s k l at none = not_false (lane_eq k l) (λ e. not_both (is_lane s l) (subst (λ (m : Lane). is_lane s m ≡ true) (lane_eq_from k l e) at) none)

module _ (net : Network) (w : World) (network : IsNetwork net) where
  enabled_node : (u : ℕ) → is_node net u ≡ true → u < net.site.nodes
  enabled_node u h = ltb-true u net.site.nodes h

  -- a node that isn't declared
  module _ (v : ℕ) (past : net.site.nodes ≤ v) where
    node_off : (u : ℕ) → is_node net u ≡ true → (u == v) ≡ false
    node_off u h = apart net.site.nodes u v (enabled_node u h) past

    sender_off : (l : Lane) → is_lane net.site l ≡ true → (sender net.site l == v) ≡ false
    sender_off l at = apart net.site.nodes (sender net.site l) v (lane_ends net.site network.site l at).0 past

    receiver_off : (l : Lane) → is_lane net.site l ≡ true → (receiver net.site l == v) ≡ false
    receiver_off l at = apart net.site.nodes (receiver net.site l) v (lane_ends net.site network.site l at).1 past

    pub untouched : (a : Action) → is_enabled net w a ≡ true → touches_node net.site a v ≡ false
    unfolding is_enabled
    untouched (Start u recovery) may = node_off u (and_left (is_node net u) (if w.up u then is_plain recovery else is_quiet net w u && may_recover net w u recovery) may)
    untouched (Crash u) may = node_off u (and_left (is_node net u) (is_quiet net w u) may)
    untouched (Arm u fault) may = refl
    untouched (SetLink link up) may = refl
    untouched (TakeBlock u link environment) may = node_off u (first_of (is_node net u) (is_link net link) (is_incident net.site u link) may)
    untouched (Ask u event environment) may = node_off u (first_of (is_node net u) (is_asked event) (is_valid_event net.site u event) may)
    untouched (Allocate t) may = refl
    untouched (Transmit l j environment) may = sender_off l (and_left (is_lane net.site l) _ may)
    untouched (Complete u) may = node_off u (and_left (is_node net u) (is_sent net w u) may)
    untouched (Deliver l number environment) may = receiver_off l may
    untouched (Flip l number bit environment) may = receiver_off l may
    untouched (Forge l octets environment) may = receiver_off l (first_of_four (is_lane net.site l) _ _ _ may)

    no_disk_fault : (a : Action) → is_enabled net w a ≡ true → is_disk_fault net.site v a ≡ false
    no_disk_fault (Start u recovery) may = no_and (u == v) (is_interrupted recovery) (untouched (Start u recovery) may)
    no_disk_fault (TakeBlock u link environment) may = no_and (u == v) (is_io_fault environment) (untouched (TakeBlock u link environment) may)
    no_disk_fault (Ask u event environment) may = no_and (u == v) (is_io_fault environment) (untouched (Ask u event environment) may)
    no_disk_fault (Deliver l number environment) may = no_and (receiver net.site l == v) (is_io_fault environment) (untouched (Deliver l number environment) may)
    no_disk_fault (Flip l number bit environment) may = no_and (receiver net.site l == v) (is_io_fault environment) (untouched (Flip l number bit environment) may)
    no_disk_fault (Forge l octets environment) may = no_and (receiver net.site l == v) (is_io_fault environment) (untouched (Forge l octets environment) may)
    no_disk_fault _ may = refl

    no_random_fault : (a : Action) → is_enabled net w a ≡ true → is_random_fault v a ≡ false
    no_random_fault (Ask u event environment) may = no_and (u == v) (is_entropy_fault environment) (untouched (Ask u event environment) may)
    no_random_fault _ may = refl

    not_armed : (a : Action) → is_enabled net w a ≡ true → fault_armed v a ≡ None
    unfolding is_enabled
    not_armed (Arm u fault) may = ap (λ (t : Bool). if t then Some fault else None) (node_off u may)
    not_armed _ may = refl

  -- a lane that isn't declared
  module _ (l : Lane) (none : is_lane net.site l ≡ false) where
    lane_off : (k : Lane) → is_lane net.site k ≡ true → lane_eq l k ≡ false
    lane_off k at = not_false (lane_eq l k) (λ e. not_both (is_lane net.site k) at (subst (λ (m : Lane). is_lane net.site m ≡ false) (lane_eq_from l k e) none))

    unwired : (a : Action) → is_enabled net w a ≡ true → (touches_lane net.site a l && changes_part Wire a) ≡ false
    unfolding is_enabled
    unwired (Transmit k j environment) may = no_and (lane_eq l k) true (lane_off k (and_left (is_lane net.site k) _ may))
    unwired (Start u recovery) may = no_part (sender net.site l == u)
    unwired (TakeBlock u link environment) may = no_part (lane_eq l (outgoing_lane net.site u link))
    unwired (Ask u event environment) may = no_part (is_plan event && (sender net.site l == u))
    unwired (Allocate t) may = no_part (lane_eq l t.lane)
    unwired _ may = refl

    no_wire_fault : (a : Action) → is_enabled net w a ≡ true → is_wire_fault l a ≡ false
    unfolding is_enabled
    no_wire_fault (Transmit k j environment) may = no_and (lane_eq k l) (is_io_fault environment) (other_lane net.site k l (and_left (is_lane net.site k) _ may) none)
    no_wire_fault _ may = refl

  no_block_fault : (link : ℕ) → net.site.links ≤ link → (a : Action) → is_enabled net w a ≡ true → is_block_fault link a ≡ false
  unfolding is_enabled
  no_block_fault link past (TakeBlock u k environment) may =
      no_and (k == link) (is_device_fault environment) (apart net.site.links k link (ltb-true k net.site.links (second_of (is_node net u) (is_link net k) (is_incident net.site u k) may)) past)
  no_block_fault link past _ may = refl

-- what holds of each action holds over a whole run

module _ (net : Network) where
  one_of : (w : World) (a : Action) (actions : List Action) → IsRun net w (a ∷ actions) → is_step net w a ≡ true
  unfolding is_run
  one_of w a actions r = and_left (is_step net w a) (is_run net (step net w a).0 actions) r

  rest_of : (w : World) (a : Action) (actions : List Action) → IsRun net w (a ∷ actions) → IsRun net (step net w a).0 actions
  unfolding is_run
  rest_of w a actions r = and_right (is_step net w a) (is_run net (step net w a).0 actions) r

  enabled_first : (w : World) (a : Action) (actions : List Action) → IsRun net w (a ∷ actions) → is_enabled net w a ≡ true
  enabled_first w a actions r = and_left (is_enabled net w a) (is_shown (environment_of a) (step net w a).1) (one_of w a actions r)

  none_counted : (p : Action → Bool) → ((w : World) (a : Action) → is_enabled net w a ≡ true → p a ≡ false) → (actions : List Action) (w : World) → IsRun net w actions → count_by p actions ≡ 0
  none_counted p none [] w r = refl
  none_counted p none (a ∷ actions) w r =
      ap (λ (t : Bool). fold (λ (n : ℕ) (x : Action). n + cond (p x) 1 0) (0 + cond t 1 0) actions) (none w a (enabled_first w a actions r))
      ∙ none_counted p none actions (step net w a).0 (rest_of w a actions r)

  none_found : {B : Type 0} (f : Action → Option B) → ((w : World) (a : Action) → is_enabled net w a ≡ true → f a ≡ None) → (actions : List Action) (w : World) → IsRun net w actions → filter_map f actions ≡ []
  none_found f none [] w r = refl
  none_found f none (a ∷ actions) w r =
      ap (λ o. cons_option o (filter_map f actions)) (none w a (enabled_first w a actions r)) ∙ none_found f none actions (step net w a).0 (rest_of w a actions r)

  module _ (network : IsNetwork net) where
    -- what each action leaves unchanged, a run leaves unchanged
    stays : {A : Type 0} (part : World → A) → ((w : World) (a : Action) → Conserved net w → is_enabled net w a ≡ true → part (step net w a).0 ≡ part w) → (actions : List Action) (w : World) → Conserved net w → IsRun net w actions →
        part (run net w actions) ≡ part w
    unfolding run
    stays part same [] w c r = refl
    stays part same (a ∷ actions) w c r =
        stays part same actions (step net w a).0 (step_keeps net w a network (one_of w a actions r) c) (rest_of w a actions r) ∙ same w a c (enabled_first w a actions r)

    pub none_drawn : (v : ℕ) → net.site.nodes ≤ v → (actions : List Action) → IsRun net first actions → (run net first actions).drawn v ≡ 0
    unfolding first
    none_drawn v past actions r =
        stays (λ (w : World). w.drawn v) (λ w a c may. (step_unseen net w network c v a may (untouched net w network v past a may)).manager.drawn) actions first (first_keeps net) r

    pub nothing_wired : (l : Lane) → is_lane net.site l ≡ false → (actions : List Action) → IsRun net first actions → (run net first actions).wire l ≡ []
    unfolding first
    nothing_wired l none actions r =
        stays (λ (w : World). w.wire l) (λ w a c may. step_part net w l network c Wire a may (unwired net w network l none a may)) actions first (first_keeps net) r

    module _ (v : ℕ) (past : net.site.nodes ≤ v) (actions : List Action) (r : IsRun net first actions) where
      pub no_disk_faults : disk_faults net.site v actions ≡ 0
      unfolding disk_faults
      no_disk_faults = none_counted (is_disk_fault net.site v) (λ w a may. no_disk_fault net w network v past a may) actions first r

      pub no_entropy_faults : entropy_faults v actions ≡ 0
      unfolding entropy_faults
      no_entropy_faults = none_counted (is_random_fault v) (λ w a may. no_random_fault net w network v past a may) actions first r

      pub no_armings : armings v actions ≡ []
      unfolding armings
      no_armings = none_found (fault_armed v) (λ w a may. not_armed net w network v past a may) actions first r

    pub no_device_faults : (link : ℕ) → net.site.links ≤ link → (actions : List Action) → IsRun net first actions → device_faults link actions ≡ 0
    unfolding device_faults
    no_device_faults link past actions r = none_counted (is_block_fault link) (λ w a may. no_block_fault net w network link past a may) actions first r

    pub no_wire_faults : (l : Lane) → is_lane net.site l ≡ false → (actions : List Action) → IsRun net first actions → wire_faults l actions ≡ 0
    unfolding wire_faults
    no_wire_faults l none actions r = none_counted (is_wire_fault l) (λ w a may. no_wire_fault net w network l none a may) actions first r
