use Rattle.std.proofs.Common.{arith, ap, ◌∙◌, ◌<◌, ◌++◌, ◌∷◌, [], List, ℕ, length, slice_index_or}
use Rattle.source_devices.specs.Forms.{WireForm, frames_at}
use Rattle.source_devices.proofs.Spans.{inside_again, frames_again, length_frames}
use Rattle.source_devices.proofs.mem_wire.MemWire.add_again.Goals as goal

pub invariant_of-self-2 : goal.invariant_of-self-2
invariant_of-self-2 c =
    let frames = ap (λ (w : WireForm). length w.frames) c.self.view_is in
    let lt : c.args.number < length c.self.inside.spans.items = omega (arith, frames, c.requires.there, length_frames c.self.inside.octets.items c.self.inside.spans.items) in
    inside_again c.self.inside.octets.items c.self.inside.spans.items c.reserve.new.self.items c.push_reserved.new.self.items c.args.number c.index-span.result.now c.self.invariant c.in_ok-reserve.ensures.items lt c.index-span.ensures c.push_reserved.ensures.items

pub returns-clause-added : goal.returns-clause-added
returns-clause-added c =
    let frames = ap (λ (w : WireForm). length w.frames) c.self.view_is in
    let lt : c.args.number < length c.self.inside.spans.items = omega (arith, frames, c.requires.there, length_frames c.self.inside.octets.items c.self.inside.spans.items) in
    let more = frames_again c.self.inside.octets.items c.self.inside.spans.items c.reserve.new.self.items c.push_reserved.new.self.items c.args.number c.index-span.result.now c.in_ok-reserve.ensures.items lt c.index-span.ensures c.push_reserved.ensures.items in
    let with_frames : List (List ℕ) → WireForm = λ fs. record { frames = fs; fails = c.self.inside.fails.items; calls = c.self.inside.calls; faults = c.self.inside.faults } in
    let again : WireForm → WireForm = λ w. record w { frames = w.frames ++ slice_index_or w.frames c.args.number [] ∷ [] } in
    ap with_frames more ∙ ap again c.self.view_is
