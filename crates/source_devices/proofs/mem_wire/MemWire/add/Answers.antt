use Rattle.std.proofs.Common.{rules, ap, ◌∙◌, ◌++◌, ◌∷◌, [], List, ℕ, length}
use Rattle.source_devices.proofs.Spans.{inside_new}
use Rattle.source_devices.proofs.mem_wire.MemWire.add.Goals as goal

pub invariant_of-self-2 : goal.invariant_of-self-2
invariant_of-self-2 c =
    let whole = (rw c.unwrap.ensures at c.extend_from_slice.ensures.items) ∙ ap (λ (o : List ℕ). o ++ c.args.bytes.now) c.in_ok-reserve-2.ensures.items in
    let one = c.push_reserved.ensures.items ∙ ap (λ (ss : List (ℕ × ℕ)). ss ++ (c.len-start.result, length c.args.bytes.now) ∷ []) c.in_ok-reserve.ensures.items in
    inside_new c.self.inside.octets.items c.args.bytes.now c.extend_from_slice.new.self.items c.self.inside.spans.items c.push_reserved.new.self.items c.len-start.result c.self.invariant whole one (search rules) c.requires.short
