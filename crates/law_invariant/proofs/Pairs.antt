-- The laws of pairs' keys, stated for a world.
use Rattle.std.proofs.Common.{◌≡◌, ℕ, ◌*◌, ◌/◌, ◌<◌, true, List, sym, subst, arith}
use Rattle.qkd_base.specs.Name.{Name}
use Rattle.net_model.specs.World.{Network, World}
use Rattle.net_model.specs.Invariant.{Conserved}
use Rattle.net_model.specs.Premises.{IsNetwork}
use Rattle.net_model.specs.OctetSequence.{octets_from}
use Rattle.net_model.specs.Needed.{view_of}
use Rattle.net_model.specs.Pools.{fill, enc, dec}
use Rattle.net_model.specs.Streams.{is_size}
use Rattle.law_base.proofs.Seen.{bare_view, view_sees, view_me}
use Rattle.law_invariant.specs.Only.{Only}
use Rattle.law_invariant.proofs.Supply.{supply}
use Rattle.law_invariant.proofs.Fills.{fill_may}
use Rattle.law_invariant.proofs.Hands.{enc_may, dec_may}

pub enc_only : (net : Network) (w : World) (v m t n bits : ℕ) → Only net.site w.durable (view_of net w v) (enc net.site (view_of net w v) m t n bits)
enc_only net w v m t n bits = enc_may net.site w.durable (view_of net w v) (bare_view net w v) (view_sees net w v) m t n bits

pub dec_only : (net : Network) (w : World) (v t m : ℕ) (ns : List Name) → Only net.site w.durable (view_of net w v) (dec net.site (view_of net w v) t m ns)
dec_only net w v t m ns = dec_may net.site w.durable (view_of net w v) (bare_view net w v) (view_sees net w v) t m ns

pub fill_only : (net : Network) (w : World) (v m t bits count : ℕ) → IsNetwork net → Conserved net w → v < net.site.nodes → is_size bits ≡ true →
    Only net.site w.durable (view_of net w v) (fill net.site w.link_up (view_of net w v) m t bits count (octets_from (net.entropy v).octet (w.drawn v) ((bits / 8) * count)))
fill_only net w v m t bits count good c here big =
    fill_may net.site w.durable w.frames w.unclaimed c.now (view_of net w v) (bare_view net w v) (view_sees net w v) good.site
    (subst (λ (u : ℕ). u < net.site.nodes) (sym (view_me net w v)) here) w.link_up (net.entropy v).octet (w.drawn v) m t bits count _ big (good.entropies v)
    (supply (net.entropy v).octet (w.drawn v) (bits / 8) count ((bits / 8) * count) (omega arith))
