use Rattle.std.proofs.Common.{ℕ, Bool, take}
use Rattle.std.specs.Prelude.{filter}
use Rattle.net_model.specs.View.{View, Port}
use Rattle.kme_base.specs.Up.{AreUp}
use Rattle.declared_site.specs.SiteOf.{site_of}
use Rattle.kme_base.specs.Places.{ports_in}
use Rattle.kme_relay.specs.Keeps.{Knows}
use Rattle.kme_relay.specs.Adds.{AddsEnds}
use Rattle.kme_relay.proofs.parts.add_ends.Given as goal

abbrev pub invariant-loop-end : goal.invariant-loop-end
invariant-loop-end l =
    (v : View) (is_up : ℕ → Bool) → Knows v l.known l.window → AreUp l.up is_up → AddsEnds (site_of l.site) v (filter (λ (p : Port). is_up p.lane.link) (ports_in (take l.end-index l.ends))) l.fn.parts l.parts
