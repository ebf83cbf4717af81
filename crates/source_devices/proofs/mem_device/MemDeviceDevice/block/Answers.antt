use Rattle.std.proofs.Common.{arith, rules, ◌≡◌, length, ap, ap₂, ◌≤◌, ◌+◌, ◌*◌, List, ℕ, ◌∙◌, take, drop}
use Rattle.source_devices.specs.Forms.{DeviceForm}
use Rattle.source_devices.proofs.Octets.{block_given}
use Rattle.source_devices.proofs.mem_device.MemDeviceDevice.block.Goals as goal

pub returns-clause-block : goal.returns-clause-block
returns-clause-block c =
    let octets = ap (λ (s : DeviceForm). s.octets) c.self.view_is in
    let le : 1024 + 1024 * c.args.number ≤ length c.args.self.now.octets = omega (arith, ap length octets) in
    let size : length c.args.into.now ≡ 1024 = search rules in
    let same = ap₂ (λ (n : ℕ) (xs : List ℕ). take n (drop (1024 * c.args.number) xs)) size (c.deref-2.ensures.value ∙ octets) in
    block_given c.args.self.now.octets c.copy_part.new.into c.args.number le (c.copy_part.ensures ∙ same)
