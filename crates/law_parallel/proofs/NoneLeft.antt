-- When no frame is left to be sent, no lane has a waiting order or frame.
use Rattle.std.proofs.Common.{◌≡◌, ℕ, true, ◌&&◌, List, [], ◌∷◌, refl, ap}
use Rattle.std.specs.List.{list_all}
use Rattle.qkd_base.specs.declared.lane.Lane.{Lane}
use Rattle.net_model.specs.Journal.{is_nil}
use Rattle.net_model.specs.Site.{outgoing_lanes}
use Rattle.net_model.specs.World.{Network, World}
use Rattle.net_model.specs.Action.{Complete}
use Rattle.net_model.specs.Step.{is_node, is_sent, is_enabled}
use Rattle.law_base.proofs.Base.{and_both}
use Rattle.law_parallel.specs.Remaining.{Remains}

module _ (net : Network) (w : World) (s : Remains net w []) where
  none_left : (ls : List Lane) → list_all (λ l. is_nil (w.unclaimed l) && is_nil (w.outgoing l)) ls ≡ true
  none_left [] = refl
  none_left (l ∷ ls) =
      and_both (is_nil (w.unclaimed l) && is_nil (w.outgoing l)) (list_all (λ l. is_nil (w.unclaimed l) && is_nil (w.outgoing l)) ls)
      (and_both (is_nil (w.unclaimed l)) (is_nil (w.outgoing l)) (ap is_nil (s.unclaimed l)) (ap is_nil (s.outgoing l))) (none_left ls)

  pub may_note : (v : ℕ) → is_node net v ≡ true → is_enabled net w (Complete v) ≡ true
  unfolding is_enabled
  may_note v node = and_both (is_node net v) (is_sent net w v) node (none_left (outgoing_lanes net.site v))
