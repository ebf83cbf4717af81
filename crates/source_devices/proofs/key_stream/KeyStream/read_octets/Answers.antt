use Rattle.std.proofs.Common.{arith, ap, ◌∙◌, ◌<◌, ◌≢◌, length, get_or-set_other, get_or-set_same, below_more}
use Rattle.source_devices.specs.KeyStream.{StreamForm, stream_octet}
use Rattle.net_model.specs.OctetSequence.{octets_from}
use Rattle.source_devices.proofs.Octets.{octets_are}
use Rattle.source_devices.proofs.Streams.{octet_there, next_place}
use Rattle.source_devices.proofs.key_stream.KeyStream.read_octets.Goals as goal

pub loop-octet-preserved : goal.loop-octet-preserved
loop-octet-preserved c =
    let form = c.next.ensures.place in
    let before = c.loop-octet.invariant in
    let value = octet_there c.loop-octet.self c.args.self.now.letter c.args.self.now.number c.args.self.now.place c.loop-octet.octet-index c.next.result before.letter before.number before.place c.next.ensures.octet in
    record {
      letter = ap (λ (s : StreamForm). s.letter) form ∙ before.letter;
      number = ap (λ (s : StreamForm). s.number) form ∙ before.number;
      place = ap (λ (s : StreamForm). s.place) form ∙ next_place c.loop-octet.self.place c.args.self.now.place c.loop-octet.octet-index before.place;
      given = below_more _ _
          (λ k h. let ne : k ≢ c.loop-octet.octet-index = omega arith in rw get_or-set_other (before.given k h))
          (let lt : c.loop-octet.octet-index < length c.loop-octet.into = omega arith in rw get_or-set_same value);
    }

pub returns-clause-octets : goal.returns-clause-octets
returns-clause-octets c =
    let octet = stream_octet c.args.self.now.letter c.args.self.now.number in
    let place = c.args.self.now.place in
    octets_are octet place c.loop-octet.into (λ k lt. c.loop-octet.invariant.given k (omega arith)) ∙ ap (octets_from octet place) c.loop-octet.auto.into
