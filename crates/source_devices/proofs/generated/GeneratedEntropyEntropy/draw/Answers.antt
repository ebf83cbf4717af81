use Rattle.std.proofs.Common.{◌≡◌, true, refl, sym, subst, ◌∙◌, Some, length}
use Rattle.net_model.specs.OctetSequence.{OctetSequence, octets_from}
use Rattle.source_devices.specs.KeyStream.{StreamForm, told_from, stream_octet}
use Rattle.source_devices.specs.Telling.{IsRest}
use Rattle.source_devices.proofs.Streams.{shifted_here, rest_there}
use Rattle.source_devices.proofs.generated.GeneratedEntropyEntropy.draw.Goals as goal

pub returns-clause-drawn : goal.returns-clause-drawn
returns-clause-drawn c =
    let at = c.self.inside.stream in
    let n = length c.args.into.now in
    let after = told_from c.read.new.self in
    let given : c.read.new.into ≡ octets_from (told_from at).octet 0 n = c.read.ensures.octets ∙ shifted_here (stream_octet at.letter at.number) at.place n in
    let Rests : StreamForm → Type 0 = λ s. IsRest (told_from at) n (told_from s) in
    let rest : IsRest (told_from at) n after = subst Rests (sym c.read.ensures.place) (rest_there at n) in
    let Drawn : StreamForm → Type 0 = λ s.
    (true ≡ true) × (c.read.new.into ≡ octets_from (told_from s).octet 0 n) × ((x : OctetSequence) × (Some after ≡ Some x) × IsRest (told_from s) n x) in
    subst Drawn c.self.view_is (refl, given, (after, refl, rest))
