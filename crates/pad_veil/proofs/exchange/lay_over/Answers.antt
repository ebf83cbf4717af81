use Rattle.std.proofs.Common.{ℕ, ◌<◌, List, length, get_or, set, sym, ap, ◌∙◌, refl, add-one, arith}
use Rattle.std.specs.Prelude.{bit_xor}
use Rattle.pad_veil.proofs.Veils.{masked_none, masked_more}
use Rattle.pad_veil.proofs.exchange.lay_over.Goals as goal

pub loop-i-init : goal.loop-i-init
loop-i-init c = sym (masked_none c.args.bytes.now)

pub loop-i-preserved : goal.loop-i-preserved
loop-i-preserved c =
    let i : ℕ = c.loop-i.i in
    let octets : List ℕ = c.args.octets.now in
    let lt : i < length octets = omega arith in
    let le : i < length c.args.bytes.now = omega arith in
    ap (λ (l : List ℕ). set l i (bit_xor (get_or l i 0) (get_or octets i 0))) c.loop-i.invariant ∙ masked_more c.args.bytes.now octets i lt le ∙ rw add-one refl
