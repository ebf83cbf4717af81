use Rattle.std.proofs.Common.{arith, length, ap, ◌≤◌, List, ℕ, ◌∙◌, take, drop, length-drop}
use Rattle.source_devices.specs.Forms.{EntropyForm}
use Rattle.source_devices.proofs.Octets.{draw_given}
use Rattle.source_devices.proofs.mem_entropy.MemEntropyEntropy.draw.Goals as goal

pub returns-clause-drawn : goal.returns-clause-drawn
returns-clause-drawn c =
    let left = ap (λ (s : EntropyForm). s.left) c.self.view_is in
    let le : length c.args.into.now ≤ length c.args.self.now.left = omega (arith, ap length left, length-drop c.self.inside.at c.self.inside.octets.items) in
    let given = c.take.ensures.given ∙ ap (take (length c.args.into.now)) left in
    let rest = ap (λ (s : EntropyForm). s.left) c.take.ensures.left ∙ ap (drop (length c.args.into.now)) left in
    draw_given c.args.self.now.left c.take.new.self.left c.take.new.into (length c.args.into.now) le given rest
