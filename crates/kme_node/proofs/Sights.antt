-- The parts of a manager agree with its view.
use Rattle.std.proofs.Common.{◌≡◌, refl, sym, subst}
use Rattle.relay_core.specs.Knowledge.{Knowledge}
use Rattle.kme_base.specs.Places.{LinkEnds}
use Rattle.resend_window.specs.Kept.{Kept as Window}
use Rattle.end_store.specs.Pooled.{Sees as SeesEnds}
use Rattle.stream_core.specs.Kept.{Sees}
use Rattle.kme_relay.specs.Keeps.{Keeps}
use Rattle.kme_relay.specs.Knows.{Knows, HasPorts}
use Rattle.kme_node.specs.Holdings.{Holdings, view}

pub sees_ends : (h : Holdings) → SeesEnds (view h) h.kept.ends
sees_ends h = record { me = refl; facts = refl; acked = refl; handed = refl }

pub sees : (h : Holdings) → Sees (view h) h.kept
sees h = record { ends = sees_ends h; closed = refl }

pub keeps : (h : Holdings) → Keeps (view h) h.kept.ends.known h.ends h.window
keeps h = record { knows = record { me = refl; facts = refl; acked = refl; volatile = refl }; ports = refl }

pub knows : (h : Holdings) → Knows (view h) h.kept.ends.known
knows h = record { me = refl; facts = refl; acked = refl }

pub has_ports : (h : Holdings) → HasPorts (view h) h.ends
has_ports h = record { ports = refl }

pub keeps_of : (h : Holdings) (k : Knowledge) (ends : LinkEnds) (w : Window) → k ≡ h.kept.ends.known → ends ≡ h.ends → w ≡ h.window → Keeps (view h) k ends w
keeps_of h k ends w a b c =
    subst (λ (x : Knowledge). Keeps (view h) x ends w) (sym a) (subst (λ (x : LinkEnds). Keeps (view h) h.kept.ends.known x w) (sym b) (subst (λ (x : Window). Keeps (view h) h.kept.ends.known h.ends x) (sym c) (keeps h)))
