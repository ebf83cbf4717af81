-- What a plan adds for one end of a link, and for several ends.
use Rattle.std.specs.Prelude.{◌≡◌, ◌++◌, List, map}
use Rattle.std.specs.List.{flat_map}
use Rattle.net_model.specs.Site.{Site}
use Rattle.net_model.specs.View.{View, Port, received_of}
use Rattle.net_model.specs.Plan.{wanted_on, orders_on, spelled_orders, short_on, end_on, leases_on}
use Rattle.net_model.specs.Window.{age, repeats_on, repeat_of}
use Rattle.kme_relay.specs.declared.draft.Draft.{Draft}
use Rattle.kme_relay.specs.declared.parts.Parts.{Parts}

-- the orders of an end, as far as its bytes suffice
pub record AddsOrders (site : Site) (v : View) (p : Port) (old new : Draft) : Type 0 where
  pub orders : new.orders ≡ old.orders ++ spelled_orders v.facts p.planned (orders_on site v p)
  pub shorts : new.shorts ≡ old.shorts ++ short_on v.facts p.lane (received_of p) p.planned (wanted_on site v p.lane)
  pub used : new.used ≡ end_on site v p

-- the whole plan of one end
pub record AddsEnd (site : Site) (v : View) (p : Port) (old new : Parts) : Type 0 where
  pub batch : new.batch ≡ old.batch ++ leases_on site v p
  pub repeats : new.repeats ≡ old.repeats ++ map repeat_of (repeats_on (map age v.volatile.window) p.lane)
  pub orders : new.draft.orders ≡ old.draft.orders ++ spelled_orders v.facts p.planned (orders_on site v p)
  pub shorts : new.draft.shorts ≡ old.draft.shorts ++ short_on v.facts p.lane (received_of p) p.planned (wanted_on site v p.lane)

-- the plans of these ends, in order
pub record AddsEnds (site : Site) (v : View) (ps : List Port) (old new : Parts) : Type 0 where
  pub batch : new.batch ≡ old.batch ++ flat_map (leases_on site v) ps
  pub repeats : new.repeats ≡ old.repeats ++ flat_map (λ (p : Port). map repeat_of (repeats_on (map age v.volatile.window) p.lane)) ps
  pub orders : new.draft.orders ≡ old.draft.orders ++ flat_map (λ (p : Port). spelled_orders v.facts p.planned (orders_on site v p)) ps
  pub shorts : new.draft.shorts ≡ old.draft.shorts ++ flat_map (λ (p : Port). short_on v.facts p.lane (received_of p) p.planned (wanted_on site v p.lane)) ps
