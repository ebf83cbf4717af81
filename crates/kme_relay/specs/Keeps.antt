-- Views that agree with the state of a manager.
use Rattle.std.specs.Prelude.{◌≡◌}
use Rattle.net_model.specs.View.{View}
use Rattle.relay_core.specs.Knowledge.{Knowledge}
use Rattle.kme_base.specs.Places.{LinkEnds}
use Rattle.resend_window.specs.Kept.{Kept}

-- the view has these facts, acknowledgements, and this window
pub record Knows (v : View) (k : Knowledge) (w : Kept) : Type 0 where
  pub me : v.me ≡ k.me
  pub facts : v.facts ≡ k.facts
  pub acked : v.acked ≡ k.acked
  pub volatile : v.volatile ≡ w.volatile

-- the view also has these ends of links
pub record Keeps (v : View) (k : Knowledge) (ends : LinkEnds) (w : Kept) : Type 0 where
  pub knows : Knows v k w
  pub ports : v.ports ≡ ends.ports
