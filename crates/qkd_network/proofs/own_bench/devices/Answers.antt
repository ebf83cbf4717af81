use Rattle.std.proofs.Common.{◌≡◌, ℕ, arith, refl, sym, subst, ◌∙◌}
use Rattle.std.proofs.lemmas.Grind.{common_steps}
use Rattle.std.specs.Prelude.{Some}
use Rattle.source_devices.specs.KeyStream.{device_told}
use Rattle.qkd_network.specs.Fresh.{Tells}
use Rattle.qkd_network.proofs.Numbered.{one_more}
use Rattle.qkd_network.proofs.own_bench.devices.Goals as goal

pub loop-number-preserved : goal.loop-number-preserved
loop-number-preserved c =
    let link : c.new-in-loop-number.result ≡ c.loop-number.number =
    let is : c.unwrap-link.result ≡ c.loop-number.number = grind (arith, common_steps, c.new.ensures, c.unwrap-link.ensures) in c.new-in-loop-number.ensures ∙ is in
    record {
      made = one_more (λ (s : ℕ). Some (device_told s)) device_told c.loop-number.number c.loop-number.devices.items c.push.new.self.items c.new-in-loop-number.result c.in_ok-push.ensures.items c.loop-number.invariant.made
          (subst (λ (k : ℕ). Tells (device_told c.loop-number.number) (Some (device_told k))) (sym link) (refl, λ i. refl));
    }
