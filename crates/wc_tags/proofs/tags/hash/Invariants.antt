use Rattle.std.proofs.Common.{◌≡◌}
use Rattle.wc_tags.specs.Tag.{hash}
use Rattle.wc_tags.proofs.Horner.{horner}
use Rattle.wc_tags.proofs.Blocks.{rest_of}
use Rattle.wc_tags.proofs.tags.hash.Given as goal

abbrev pub invariant-loop-i : goal.invariant-loop-i
invariant-loop-i l = horner l.key l.sum (rest_of l.i l.text) ≡ hash l.key l.text
