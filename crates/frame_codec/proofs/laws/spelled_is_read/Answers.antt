use Rattle.frame_codec.proofs.KindLaws.{payload_again}
use Rattle.frame_codec.proofs.Writes.{payload_length, payload_range, is_formed}
use Rattle.frame_codec.proofs.laws.spelled_is_read.Goals as goal

pub returns-clause-read : goal.returns-clause-read
returns-clause-read c = payload_again

pub returns-clause-len : goal.returns-clause-len
returns-clause-len c = payload_length

pub returns-clause-range : goal.returns-clause-range
returns-clause-range c = payload_range

pub returns-clause-formed : goal.returns-clause-formed
returns-clause-formed c = is_formed
