use Rattle.std.proofs.Common.{ap, ◌∙◌, arith}
use Rattle.source_devices.specs.KeyStream.{next_octets}
use Rattle.source_devices.proofs.Words.{read_on}
use Rattle.source_devices.proofs.key_stream.KeyStream.read.Goals as goal

pub returns-clause-octets : goal.returns-clause-octets
returns-clause-octets c =
    let parts = c.split_at_mut-first.ensures in
    read_on _ _ _ _ _ _ c.read_octets-2.ensures.place c.read_octets-2.ensures.octets c.read_from_word.ensures.octets ∙ ap (next_octets c.args.self.now) (omega (arith, parts.front_len, parts.back_len))
