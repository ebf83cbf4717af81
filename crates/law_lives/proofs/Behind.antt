-- Nothing is ever known at numbers that no node has.
use Rattle.std.proofs.Common.{◌≡◌, ℕ, ◌<◌, ◌≤◌, Bool, true, false, ◌&&◌, List, [], ◌∷◌, map, refl, ◌∙◌, ap, arith, None}
use Rattle.std.specs.Prelude.{◌==◌}
use Rattle.std.proofs.lemmas.Bool.Decides.{nat_tests}
use Rattle.qkd_base.specs.Name.{Name, name_eq, has}
use Rattle.qkd_base.specs.declared.lane.Way.TheVariants.{Up, Down}
use Rattle.qkd_base.specs.declared.lane.Lane.{Lane}
use Rattle.net_model.specs.declared.fact.Fact.{Fact}
use Rattle.net_model.specs.Table.{fact_at, facts_of}
use Rattle.net_model.specs.Premises.{IsNetwork}
use Rattle.net_model.specs.Site.{of_way, sender, receiver}
use Rattle.net_model.specs.World.{Network, World, Journal, first}
use Rattle.net_model.specs.View.{View}
use Rattle.net_model.specs.Needed.{masked_fact, view_of}
use Rattle.net_model.specs.Events.{is_lane}
use Rattle.net_model.specs.Invariant.{Conserved}
use Rattle.net_model.specs.Action.{Action, Start, Crash, Arm, SetLink, TakeBlock, Ask, Allocate, Transmit, Complete, Deliver, Flip, Forge, is_shown, environment_of}
use Rattle.net_model.specs.Step.{step, is_enabled, is_step, is_node, is_link, IsStep, run, is_run, IsRun}
use Rattle.law_base.proofs.Base.{and_left, and_right, name_eq_same, or_left}
use Rattle.law_base.proofs.Seen.{seen_there, bare_view, view_sees, view_me}
use Rattle.law_invariant.proofs.Steps.{step_keeps}
use Rattle.law_locality.specs.Touched.{touches_node}
use Rattle.law_locality.proofs.ManagerSteps.{step_unseen}
use Rattle.law_recovery.specs.Saved.{DoubtsFit}
use Rattle.law_lives.specs.AtRest.{at_rest}
use Rattle.law_lives.specs.Belongs.{NothingBehind}
use Rattle.law_lives.proofs.Doubts.{all_settled}

pub first_behind : (net : Network) → NothingBehind net first
unfolding first
first_behind net v past = refl

no_name : (ns : List Name) → ((n : Name) → has ns n ≡ true → ⊥) → ns ≡ []
no_name [] h = refl
no_name (n ∷ ns) h = absurd (h n (or_left (name_eq n n) (has ns n) (name_eq_same n)))

-- A node that sees no fact knows no name.
nothing_known : (net : Network) (w : World) → Conserved net w → (v : ℕ) → (view_of net w v).facts ≡ [] → w.durable.known v ≡ []
nothing_known net w c v none = no_name (w.durable.known v) (λ n h.
    let k = c.now.knowledge.each v n h in
    let seen = seen_there net.site w.durable (view_of net w v) (bare_view net w v) (view_sees net w v) n k.fact k.there (ap (λ (u : ℕ). has (w.durable.known u) n) (view_me net w v) ∙ h) in
    let nowhere : fact_at (view_of net w v).facts n ≡ None = ap (λ (fs : List Fact). fact_at fs n) none in cc)

nothing_seen : (net : Network) (w : World) (v : ℕ) → w.durable.known v ≡ [] → (view_of net w v).facts ≡ []
nothing_seen net w v none =
    (view_sees net w v).facts ∙ ap (λ (u : ℕ). map (masked_fact (bare_view net w v)) (facts_of w.durable.facts (w.durable.known u))) (view_me net w v) ∙
    ap (λ (ns : List Name). map (masked_fact (bare_view net w v)) (facts_of w.durable.facts ns)) none

other : (k u nodes : ℕ) → k < nodes → nodes ≤ u → (k == u) ≡ false
other k u nodes less past = grind (arith, nat_tests)

module _ (net : Network) (network : IsNetwork net) (u : ℕ) (past : net.site.nodes ≤ u) where
  node_is : (k : ℕ) → is_node net k ≡ true → (k == u) ≡ false
  node_is k h = let less : k < net.site.nodes = grind (arith, nat_tests) in other k u net.site.nodes less past

  ends_are : (l : Lane) → is_lane net.site l ≡ true → ((sender net.site l == u) ≡ false) × ((receiver net.site l == u) ≡ false)
  ends_are l h =
      let less : l.link < net.site.links = grind (arith, nat_tests) in
      let ends = network.site.ends l.link less in
      let order = ends.order in
      let within = ends.within in
      let low = other (net.site.low l.link) u net.site.nodes (omega (arith, order, within)) past in
      let high = other (net.site.high l.link) u net.site.nodes within past in
      elim l.way as (λ way. ((of_way way (net.site.low l.link) (net.site.high l.link) == u) ≡ false) × ((of_way way (net.site.high l.link) (net.site.low l.link) == u) ≡ false)) [
        | Up ↦ (low, high)
        | Down ↦ (high, low)
      ]

  untouched_behind : (w : World) (a : Action) → is_enabled net w a ≡ true → touches_node net.site a u ≡ false
  unfolding is_enabled
  untouched_behind w (Start k recovery) h = node_is k (and_left (is_node net k) _ h)
  untouched_behind w (Crash k) h = node_is k (and_left (is_node net k) _ h)
  untouched_behind w (Arm k fault) h = refl
  untouched_behind w (SetLink link up) h = refl
  untouched_behind w (TakeBlock k link environment) h = node_is k (and_left (is_node net k) (is_link net link) (and_left (is_node net k && is_link net link) _ h))
  untouched_behind w (Ask k event environment) h = node_is k (and_left (is_node net k) _ (and_left (is_node net k && _) _ h))
  untouched_behind w (Allocate t) h = refl
  untouched_behind w (Transmit l j environment) h = (ends_are l (and_left (is_lane net.site l) _ h)).0
  untouched_behind w (Complete k) h = node_is k (and_left (is_node net k) _ h)
  untouched_behind w (Deliver l number environment) h = (ends_are l h).1
  untouched_behind w (Flip l number bit environment) h = (ends_are l h).1
  untouched_behind w (Forge l octets environment) h = (ends_are l (and_left (is_lane net.site l) _ (and_left (is_lane net.site l && _) _ (and_left (is_lane net.site l && _ && _) _ h)))).1

module _ (net : Network) (network : IsNetwork net) where
  step_behind : (w : World) (a : Action) → Conserved net w → IsStep net w a → NothingBehind net w → NothingBehind net (step net w a).0
  step_behind w a c may h u past =
      let enabled = and_left (is_enabled net w a) (is_shown (environment_of a) (step net w a).1) may in
      let stays = step_unseen net w network c u a enabled (untouched_behind net network u past w a enabled) in
      nothing_known net (step net w a).0 (step_keeps net w a network may c) u (ap (λ (v : View). v.facts) stays.manager.view ∙ nothing_seen net w u (h u past))

  pub run_behind : (actions : List Action) (w : World) → Conserved net w → IsRun net w actions → NothingBehind net w → NothingBehind net (run net w actions)
  unfolding run is_run
  run_behind [] w c r h = h
  run_behind (a ∷ actions) w c r h =
      let after : World = (step net w a).0 in
      let may = and_left (is_step net w a) (is_run net after actions) r in
      run_behind actions after (step_keeps net w a network may c) (and_right (is_step net w a) (is_run net after actions) r) (step_behind w a c may h)

-- Nor is anything in the world between two lives.
pub rest_behind : (net : Network) (w : World) → Conserved net w → DoubtsFit net w → (made : ℕ → Bool) (journals : ℕ → Journal) → NothingBehind net w →
    NothingBehind net (at_rest net.site made journals w)
unfolding at_rest
rest_behind net w c fits made journals h u past = ((all_settled net w c fits made net.site.nodes).waits u past).extends.here ∙ h u past
