use Rattle.std.proofs.Common.{◌≡◌, ◌∙◌, ap, true, Option}
use Rattle.std.specs.Prelude.{slice_get}
use Rattle.net_model.specs.Ownership.{covers}
use Rattle.net_model.specs.World.{Allocation}
use Rattle.law_base.proofs.Owners.{one_byte}
use Rattle.law_safety.proofs.Covers.{in_range}
use Rattle.law_safety.proofs.conserved_laws.law_no_byte_masks_two.Goals as goal

pub returns : goal.returns
returns c = λ net w k l m n i j x a b wi wj fi fj lo hi lo2 hi2.
    let first : covers w.durable.facts (slice_get (w.frames l) i) x ≡ true = ap (λ (o : Option Allocation). covers w.durable.facts o x) fi ∙ in_range w.durable.facts a x lo hi in
    let second : covers w.durable.facts (slice_get (w.frames l) j) x ≡ true = ap (λ (o : Option Allocation). covers w.durable.facts o x) fj ∙ in_range w.durable.facts b x lo2 hi2 in
    one_byte w.durable.facts (w.durable.own l) (w.frames l) _ (k.now.owned l) i j x first second
