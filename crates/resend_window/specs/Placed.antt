-- The window after a placing, by what was placed.
use Rattle.std.specs.Prelude.{◌&&◌, not, Bool, [], ◌∷◌, ◌++◌, map, filter, if◌then◌else◌}
use Rattle.std.specs.List.{list_any}
use Rattle.net_model.specs.declared.placing.Placing.{Placing}
use Rattle.net_model.specs.World.{Volatile}
use Rattle.net_model.specs.Window.{transmission_of, transmission_eq, stands_at, entry_of, is_pending_of, record_retransmission}

-- the placing of an order that was awaited
abbrev pub placed : Bool → Volatile → Placing → Volatile
placed is_acked vol p =
    let t = transmission_of p in
    record {
      window = if is_acked then vol.window else vol.window ++ entry_of p ∷ [];
      pending_acks = filter (λ a. not (is_pending_of t a)) vol.pending_acks;
      awaiting = filter (λ x. not (transmission_eq t x)) vol.awaiting;
    }

-- the placing of any order
abbrev pub order_placed : Bool → Volatile → Placing → Volatile
order_placed is_acked vol p =
    if list_any (transmission_eq (transmission_of p)) vol.awaiting && not (list_any (stands_at p) vol.window) then placed is_acked vol p else vol

-- the placing of a repeat
abbrev pub repeat_placed : Volatile → Placing → Volatile
repeat_placed vol p = record vol { window = map (record_retransmission p) vol.window }
