use Rattle.std.proofs.Common.{◌≡◌, ◌<◌, ◌++◌, ℕ, List, length, take, drop, set, get_or, refl, sym, ◌∙◌, ap, subst, arith, add-one}
use Rattle.std.specs.Prelude.{bit_xor}
use Rattle.hop_frames.specs.Frame.{masked}
use Rattle.hop_frames.proofs.Masks.{mask_more}
use Rattle.hop_frames.proofs.mask.mask_all.Goals as goal

pub loop-i-preserved : goal.loop-i-preserved
loop-i-preserved c =
    let more = mask_more c.args.octets.now c.args.pads.now c.loop-i.i c.loop-i-test.true (omega (arith, c.loop-i-test.true, c.requires)) in
    let is = c.loop-i.invariant in
    rw is (more ∙ rw add-one refl)
