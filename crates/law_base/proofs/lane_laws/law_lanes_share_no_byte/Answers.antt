use Rattle.law_base.proofs.Bytes.{byte_of, places_within, places_differ}
use Rattle.law_base.proofs.lane_laws.law_lanes_share_no_byte.Goals as goal

pub returns-clause-byte : goal.returns-clause-byte
returns-clause-byte c = λ t way n offset h. byte_of t way n offset h

pub returns-clause-within : goal.returns-clause-within
returns-clause-within c = λ way n offset h. places_within way n offset h

pub returns-clause-apart : goal.returns-clause-apart
returns-clause-apart c = λ a b i j h. places_differ a b i j h
