use Rattle.std.proofs.Common.{◌+◌, length, ap, ◌∙◌}
use Rattle.std.proofs.lemmas.List.{length_push}
use Rattle.source_devices.specs.Forms.{DeviceForm}
use Rattle.network_tests.specs.Fresh.{AreOctets}
use Rattle.network_tests.proofs.Parts.{one_more}
use Rattle.network_tests.proofs.bench.devices.Goals as goal

pub loop-number-preserved : goal.loop-number-preserved
loop-number-preserved c =
    let old = c.loop-number.devices.items in
    let next = c.device-next.result in
    record {
      count = ap length c.in_ok-push-2.ensures.items ∙ (length_push old next ∙ ap (λ n. n + 1) c.loop-number.invariant.count);
      octets = one_more (λ (q : DeviceForm). AreOctets q.octets) old c.push-in-loop-number.new.self.items next c.loop-number.invariant.octets c.device-next.ensures c.in_ok-push-2.ensures.items;
    }
