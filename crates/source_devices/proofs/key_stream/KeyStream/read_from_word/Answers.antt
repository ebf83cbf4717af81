use Rattle.std.proofs.Common.{ap, ◌∙◌, arith}
use Rattle.source_devices.specs.KeyStream.{next_octets}
use Rattle.source_devices.proofs.Words.{read_on}
use Rattle.source_devices.proofs.key_stream.KeyStream.read_from_word.Goals as goal

pub returns-clause-octets : goal.returns-clause-octets
returns-clause-octets c =
    let parts = c.split_at_mut-words.ensures in
    read_on _ _ _ _ _ _ c.read_words.ensures.place c.read_words.ensures.octets c.read_octets.ensures.octets ∙ ap (next_octets c.args.self.now) (omega (arith, parts.front_len, parts.back_len))
