use Rattle.std.proofs.Common.{◌≡◌, List, [], ℕ, ap, subst, ◌∙◌, refl}
use Rattle.std.specs.Prelude.{◌==◌, find}
use Rattle.qkd_base.specs.LaneBytes.{lane_octets}
use Rattle.qkd_base.specs.declared.lane.Way.{Way}
use Rattle.qkd_base.specs.declared.lane.Way.TheVariants as ways
use Rattle.net_model.specs.View.{Port, incoming_octets}
use Rattle.link_segments.specs.Lanes.{Held}
use Rattle.kme_base.specs.Places.{LinkEnds}
use Rattle.hop_frames.specs.Opening.{Opens, open_of}
use Rattle.kme_journal.proofs.frame.open_at.Goals as goal

no_octets : (way : Way) → lane_octets way [] ≡ []
unfolding lane_octets
no_octets ways.Up = refl
no_octets ways.Down = refl

pub returns-in-None-clause-opened : goal.returns-in-None-clause-opened
returns-in-None-clause-opened c =
    let lane = c.args.lane.now in
    subst (λ (bytes : List ℕ). Opens c.open_frame-in-None.result (open_of lane bytes c.args.frame.now))
    (ap (λ (s : Held). lane_octets lane.way s.blocks) c.new.ensures ∙ no_octets lane.way
    ∙ ap (incoming_octets lane) c.in-None.ensures ∙ ap (λ (ends : LinkEnds). incoming_octets lane (find (λ (p : Port). p.lane.link == lane.link) ends.ports)) c.ports.ensures)
    c.open_frame-in-None.ensures.opened

pub returns-in-Some-clause-opened : goal.returns-in-Some-clause-opened
returns-in-Some-clause-opened c =
    let lane = c.args.lane.now in
    subst (λ (bytes : List ℕ). Opens c.open_frame-in-Some.result (open_of lane bytes c.args.frame.now))
    (ap (lane_octets lane.way) c.segments.ensures
    ∙ ap (incoming_octets lane) c.in-Some.ensures ∙ ap (λ (ends : LinkEnds). incoming_octets lane (find (λ (p : Port). p.lane.link == lane.link) ends.ports)) c.ports.ensures)
    c.open_frame-in-Some.ensures.opened
