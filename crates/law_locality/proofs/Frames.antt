-- A frame keeps its place and its octets in every action.
use Rattle.std.proofs.Common.{◌≡◌, ℕ, true, sym, ◌∙◌, ap, Some}
use Rattle.std.specs.Prelude.{slice_get}
use Rattle.qkd_base.specs.declared.lane.Lane.{Lane}
use Rattle.net_model.specs.Premises.{IsNetwork}
use Rattle.net_model.specs.Events.{is_lane}
use Rattle.net_model.specs.World.{Network, World, Allocation}
use Rattle.net_model.specs.Invariant.{Conserved}
use Rattle.net_model.specs.Action.{Action}
use Rattle.net_model.specs.Frames.{frame_octets}
use Rattle.net_model.specs.Step.{step}
use Rattle.law_base.proofs.Growth.{octets_stay}
use Rattle.law_base.proofs.Lasting.{step_more}

pub frame_stays : (net : Network) (w : World) (act : Action) (l : Lane) (j : ℕ) (a : Allocation) → IsNetwork net → Conserved net w → is_lane net.site l ≡ true →
    slice_get (w.frames l) j ≡ Some a →
    frame_octets net (step net w act).0 l (slice_get ((step net w act).0.frames l) j) ≡ frame_octets net w l (slice_get (w.frames l) j)
frame_stays net w act l j a network c at there =
    let more = step_more net w act in
    ap (frame_octets net (step net w act).0 l) (more.frames l j a there) ∙ octets_stay net w network c (step net w act).0 more l j a at there ∙
    sym (ap (frame_octets net w l) there)
