use Rattle.std.proofs.Common.{◌≡◌, ℕ, arith, refl, ap, ◌∙◌}
use Rattle.std.proofs.lemmas.Grind.{common_steps}
use Rattle.std.specs.Prelude.{Some}
use Rattle.source_devices.specs.KeyStream.{StreamForm, entropy_told, told_from}
use Rattle.qkd_network.proofs.Numbered.{one_more}
use Rattle.qkd_network.proofs.own_bench.entropies.Goals as goal

pub loop-number-preserved : goal.loop-number-preserved
loop-number-preserved c =
    let node : c.unwrap-node.result ≡ c.loop-number.number = grind (arith, common_steps, c.new.ensures, c.unwrap-node.ensures) in
    record {
      made = one_more (λ (s : StreamForm). Some (told_from s)) entropy_told c.loop-number.number c.loop-number.entropies.items c.push.new.self.items c.new-in-loop-number.result c.in_ok-push.ensures.items c.loop-number.invariant.made
          (refl, λ i. c.new-in-loop-number.ensures.told i ∙ ap (λ (k : ℕ). (entropy_told k).octet i) node);
    }
