use Rattle.std.proofs.Common.{◌≡◌, ◌%◌, ◌/◌, ◌+◌, ◌^◌, ap, ◌∙◌, arith, length, ℕ}
use Rattle.source_devices.proofs.Words.{words_read, at_word}
use Rattle.source_devices.proofs.key_stream.KeyStream.read_words.Goals as goal

pub invariant_of-self : goal.invariant_of-self
invariant_of-self c =
    let s = c.self.inside in
    let is = words_read _ _ _ _ _ _ c.self.view_is c.self.invariant.0 c.requires.begun c.requires.whole c.self.invariant.1 c.fill_bytes_via_u32.ensures in
    let long : length c.args.into.now ≡ length c.fill_bytes_via_u32.new.dst = omega (arith, c.fill_bytes_via_u32.auto.dst) in
    let stands = is.stands ∙ ap (λ (n : ℕ). at_word s.letter s.number (((s.place + n) % 2 ^ 70 + 3) / 4 % 2 ^ 68)) long in
    (omega arith, stands, λ begun. omega (arith, is.whole, long, begun))

pub returns-clause-octets : goal.returns-clause-octets
returns-clause-octets c = (words_read _ _ _ _ _ _ c.self.view_is c.self.invariant.0 c.requires.begun c.requires.whole c.self.invariant.1 c.fill_bytes_via_u32.ensures).octets
