use Rattle.frame_codec.proofs.KindLaws.{payload_takes}
use Rattle.frame_codec.proofs.laws.read_is_spelled.Goals as goal

pub returns : goal.returns
returns c = payload_takes
