use Rattle.std.proofs.Common.{arith, ap, ◌∙◌, ◌<◌, ◌≤◌, List, ℕ, length, slice_get, sym}
use Rattle.source_devices.specs.Forms.{WireForm, frames_at, cut_out}
use Rattle.source_devices.proofs.Spans.{inside_get, frame_get, length_frames}
use Rattle.source_devices.proofs.mem_wire.MemWireWire.frame.Goals as goal

pub copy_out-requires : goal.copy_out-requires
copy_out-requires c =
    let there = inside_get c.self.inside.octets.items c.self.inside.spans.items c.deref.result.now c.args.number c.in-Some.field-0.now c.self.invariant c.deref.ensures.value c.in-Some.ensures.lookup.3.0 c.in-Some.ensures.lookup.1 in
    record { inside = omega (arith, there.0, ap length c.deref-in-Some.ensures.value); short = there.1 }

pub returns-in-Some : goal.returns-in-Some
returns-in-Some c =
    let octets = c.self.inside.octets.items in
    let spans = c.self.inside.spans.items in
    let lt = c.in-Some.ensures.lookup.3.0 in
    let at = c.in-Some.ensures.lookup.1 in
    let there = inside_get octets spans c.deref.result.now c.args.number c.in-Some.field-0.now c.self.invariant c.deref.ensures.value lt at in
    let given = c.copy_out.ensures.given ∙ ap (λ (xs : List ℕ). cut_out xs c.in-Some.field-0.now) c.deref-in-Some.ensures.value in
    let frame = frame_get octets c.copy_out.new.into.octets spans c.deref.result.now c.args.number c.in-Some.field-0.now c.deref.ensures.value lt at given in
    let long = ap (λ (w : WireForm). length w.frames) c.self.view_is in
    record {
      frame = (
        omega (arith, lt, long, length_frames octets spans, ap length c.deref.ensures.value),
        there.1,
        sym (ap (λ (w : WireForm). slice_get w.frames c.args.number) c.self.view_is) ∙ frame,
        c.copy_out.ensures.after,
      );
    }
