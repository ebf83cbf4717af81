-- A frame that its lane's sender is to send stays one when the world grows.
use Rattle.std.proofs.Common.{◌≡◌, ℕ, List, [], ◌∷◌, refl, sym, ◌∙◌, ap, subst}
use Rattle.std.specs.List.{AllByRecursion}
use Rattle.net_model.specs.declared.repeat.Repeat.{Repeat}
use Rattle.net_model.specs.Site.{sender}
use Rattle.net_model.specs.World.{Network, World}
use Rattle.net_model.specs.Premises.{IsNetwork}
use Rattle.net_model.specs.Invariant.{Conserved}
use Rattle.net_model.specs.Tick.{Emission, Again, New}
use Rattle.law_base.proofs.Growth.{Outgrows}
use Rattle.law_locality.specs.Sending.{IsAgain, IsEmission}
use Rattle.law_locality.proofs.TickPuts.{emission_stays}
use Rattle.law_parallel.specs.Putting.{lane_of}

-- The frame is one that its lane's sender is to send.
abbrev pub IsOfSender : Network → World → Emission → Type 0
IsOfSender net w e = IsEmission net w (sender net.site (lane_of e)) e

pub from_sender : (net : Network) (w : World) (v : ℕ) (r : Repeat) → IsAgain net w v r → sender net.site r.lane ≡ v
from_sender net w v r h = ap (λ (x : Repeat). sender net.site x.lane) h.is ∙ h.sent.lane

-- A frame that a node is to send is on a lane of which the node is the sender.
of_sender : (net : Network) (w : World) (v : ℕ) (e : Emission) → IsEmission net w v e → IsOfSender net w e
of_sender net w v (Again r) h = subst (λ (u : ℕ). IsAgain net w u r) (sym (from_sender net w v r h)) h
of_sender net w v (New o) h = record { site = h.site; lane = refl; spelled = h.spelled }

pub all_of_sender : (net : Network) (w : World) (v : ℕ) (es : List Emission) → AllByRecursion (IsEmission net w v) es → AllByRecursion (IsOfSender net w) es
all_of_sender net w v [] h = tt
all_of_sender net w v (e ∷ es) h = (of_sender net w v e h.0, all_of_sender net w v es h.1)

module _ (net : Network) (w : World) (network : IsNetwork net) (c : Conserved net w) (new : World) (more : Outgrows w new) where
  pub all_stay : (es : List Emission) → AllByRecursion (IsOfSender net w) es → AllByRecursion (IsOfSender net new) es
  all_stay [] h = tt
  all_stay (e ∷ es) h = (emission_stays net w network c (sender net.site (lane_of e)) new more e h.0, all_stay es h.1)
