use Rattle.std.proofs.Common.{◌≡◌, ◌+◌, ◌≤◌, ◌++◌, ap, ◌∙◌, ℕ, List, take, length, arith}
use Rattle.std.proofs.lemmas.List.{take-append-le, take-take, length-take-le}
use Rattle.frame_codec.specs.Payload.{payload_octets}
use Rattle.frame_codec.proofs.Writes.{payload_length}
use Rattle.frame_codec.proofs.payload_printer.spell.Goals as goal

pub returns-clause-whole : goal.returns-clause-whole
returns-clause-whole c = payload_length c.args.payload.now

pub returns-clause-octets : goal.returns-clause-octets
returns-clause-octets c =
    let ends : c.args.at + c.from-size.result ≡ c.put_payload.result = omega (arith, payload_length c.args.payload.now, c.spelled_len.ensures.length, c.from-size.ensures, c.put_payload.ensures.octets.end_is) in
    take-append-le (c.args.at + c.from-size.result) c.put_payload.new.into _ (omega (arith, c.put_payload.auto.into))
    ∙ ap (λ (n : ℕ). take n c.put_payload.new.into) ends
    ∙ c.put_payload.ensures.octets.prefix
    ∙ ap (λ (l : List ℕ). l ++ payload_octets c.args.payload.now) (take-take c.args.at (c.args.at + c.from-size.result) c.args.into.now.octets (omega arith))
