-- Views that agree with a manager's facts and ends of links.
use Rattle.std.specs.Prelude.{◌≡◌}
use Rattle.net_model.specs.View.{View}
use Rattle.relay_core.specs.Knowledge.{Knowledge}
use Rattle.kme_base.specs.Places.{LinkEnds}

-- the view has these facts and acknowledgements
pub record Knows (v : View) (k : Knowledge) : Type 0 where
  pub me : v.me ≡ k.me
  pub facts : v.facts ≡ k.facts
  pub acked : v.acked ≡ k.acked

-- the view has these ends of links
pub record HasPorts (v : View) (ends : LinkEnds) : Type 0 where
  pub ports : v.ports ≡ ends.ports
