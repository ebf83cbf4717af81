-- Facts that are in flight.
use Rattle.std.specs.Prelude.{◌≡◌, ℕ, false, List}
use Rattle.std.specs.List.{AllByRecursion}
use Rattle.qkd_base.specs.Name.{Name}
use Rattle.net_model.specs.World.{World, Entry}
use Rattle.net_model.specs.Window.{is_acked_item}

-- If the entry is of a fact, this isn't among those that were acknowledged.
abbrev pub IsUnanswered : List Name → Entry → Type 0
IsUnanswered acked e = is_acked_item acked e.transmission.item ≡ false

-- It is so of each window and its node.
pub record AreUnanswered (w : World) : Type 0 where
  pub flying : (v : ℕ) → AllByRecursion (IsUnanswered (w.durable.acked v)) (w.volatile v).window
