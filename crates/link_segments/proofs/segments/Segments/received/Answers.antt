use Rattle.std.proofs.Common.{◌∙◌, ◌+◌, ◌-◌, ◌*◌, ◌/◌, ap, List, ℕ, length}
use Rattle.qkd_base.specs.LaneBytes.{lane_octets}
use Rattle.link_segments.specs.Lanes.{Held}
use Rattle.link_segments.proofs.LaneLemmas.{received_len}
use Rattle.link_segments.proofs.segments.Segments.received.Goals as goal

pub returns-clause-length : goal.returns-clause-length
returns-clause-length c =
    let held : List (List ℕ) = c.self.inside.blocks.items in
    ap (λ (n : ℕ). 1024 * ((n + 1 - c.first_place.result) / 2)) (c.len.ensures ∙ c.self.inside.blocks.ok.0)
    ∙ received_len c.args.way held c.first_place.result c.self.invariant c.first_place.ensures
    ∙ ap (λ (h : Held). length (lane_octets c.args.way h.blocks)) c.self.view_is
