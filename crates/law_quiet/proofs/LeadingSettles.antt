-- What each tick and each pass of a settle keeps, the settle keeps.
use Rattle.std.proofs.Common.{◌≡◌, ℕ, zero, suc, ◌+◌, ◌-◌, Bool, true, false, List, [], ◌∷◌, length}
use Rattle.std.specs.Prelude.{nat_lt, if◌then◌else◌}
use Rattle.std.specs.List.{list_all}
use Rattle.qkd_base.specs.declared.lane.Lane.{Lane}
use Rattle.net_model.specs.Site.{count_up}
use Rattle.net_model.specs.World.{Network, World}
use Rattle.net_model.specs.Action.{Ok, Action, Deliver}
use Rattle.net_model.specs.Step.{step, IsStep}
use Rattle.run_types.specs.declared.item.Item.{Item}
use Rattle.run_types.specs.declared.item.Item.TheVariants.{Passed}
use Rattle.run_model.specs.Script.{Ends}
use Rattle.run_model.specs.Outcomes.{frame_items}
use Rattle.run_model.specs.Lines.{ticked, ticks, all_lanes, passes, all_passes, on_wires, settle}
use Rattle.run_model.specs.Play.{plain}
use Rattle.law_quiet.proofs.Leading.{Leads, leads_then}

module _ (net : Network) (good : Item → Bool) (Q : World → Type 0) (tick : (v : ℕ) (w : World) → Q w → Leads net good Q w (ticked net.site true v))
    (pass : (l : Lane) (number : ℕ) (w : World) (a : Action) → Q w → plain a ≡ Deliver l number Ok → IsStep net w a →
    list_all good (frame_items (Passed l number) (step net w a).1) ≡ true → Q (step net w a).0) where
  all_tick : (vs : List ℕ) (w : World) → Q w → Leads net good Q w (ticks net.site vs)
  all_tick [] w h = h
  all_tick (v ∷ vs) w h = leads_then net good Q Q (if w.up v then ticked net.site true v else Ends) (ticks net.site vs) (all_tick vs) w (turn (w.up v))
    where
      turn : (b : Bool) → Leads net good Q w (if b then ticked net.site true v else Ends)
      turn true = tick v w h
      turn false = h

  all_pass : (l : Lane) (number count : ℕ) (w : World) → Q w → Leads net good Q w (passes l number count)
  all_pass l number zero w h = h
  all_pass l number (suc more) w h = λ a asked may told. all_pass l (number + 1) more (step net w a).0 (pass l number w a h asked may told)

  each_pass : (before now : World) (ls : List Lane) (w : World) → Q w → Leads net good Q w (all_passes before now ls)
  each_pass before now [] w h = h
  each_pass before now (l ∷ ls) w h =
      leads_then net good Q Q (passes l (length (before.wire l)) (length (now.wire l) - length (before.wire l))) (all_passes before now ls) (each_pass before now ls) w
      (all_pass l (length (before.wire l)) (length (now.wire l) - length (before.wire l)) w h)

  pub leads_settle : (rounds : ℕ) (w : World) → Q w → Leads net good Q w (settle net.site rounds)
  unfolding settle
  leads_settle zero w h = h
  leads_settle (suc rounds) w h =
      leads_then net good Q Q (ticks net.site (count_up net.site.nodes)) _ (λ x q.
      leads_then net good Q Q (all_passes w x (all_lanes net.site)) _ (λ y r. next (leads_settle rounds) (nat_lt (on_wires net.site w) (on_wires net.site x)) y r) x
      (each_pass w x (all_lanes net.site) x q)) w (all_tick (count_up net.site.nodes) w h)
    where
      next : ((y : World) → Q y → Leads net good Q y (settle net.site rounds)) → (b : Bool) (y : World) → Q y → Leads net good Q y (if b then settle net.site rounds else Ends)
      next more true y r = more y r
      next more false y r = r
