use Rattle.hop_frames.proofs.Masks.{spell_prefix}
use Rattle.hop_frames.proofs.laws.prefix_of_a_lane.Goals as goal

pub returns : goal.returns
returns c = spell_prefix
