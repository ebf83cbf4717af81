use Rattle.std.proofs.Common.{ap, subst, ◌∙◌, arith}
use Rattle.frame_codec.specs.Reading.{Reads, payload_of}
use Rattle.frame_codec.proofs.Reader.{is_found}
use Rattle.frame_codec.proofs.KindLaws.{payload_again}
use Rattle.frame_codec.proofs.payload_parser.read.Goals as goal

pub returns-clause-found : goal.returns-clause-found
returns-clause-found c = is_found c.args.octets.now c.payload_at.result (λ i. omega (arith, c.type_inv.octets i)) c.payload_at.ensures

pub returns-clause-only : goal.returns-clause-only
returns-clause-only c = λ payload fits e. subst (λ r. Reads c.payload_at.result r) (ap payload_of e ∙ payload_again payload fits) c.payload_at.ensures
