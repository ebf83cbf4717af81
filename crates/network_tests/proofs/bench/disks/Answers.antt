use Rattle.std.proofs.Common.{◌+◌, length, ap, ◌∙◌}
use Rattle.std.proofs.lemmas.List.{length_push}
use Rattle.network_tests.specs.Fresh.{IsBlank}
use Rattle.network_tests.proofs.Parts.{one_more}
use Rattle.network_tests.proofs.bench.disks.Goals as goal

pub loop-preserved : goal.loop-preserved
loop-preserved c =
    let old = c.loop.disks.items in
    let disk = c.in_ok-disk.disk in
    record {
      count = ap length c.in_ok-push.ensures.items ∙ (length_push old disk ∙ ap (λ n. n + 1) c.loop.invariant.count);
      blank = one_more IsBlank old c.push.new.self.items disk c.loop.invariant.blank c.in_ok-disk.ensures c.in_ok-push.ensures.items;
    }
