use Rattle.par_lanes.proofs.Saying.{called_for, others_unsaid, counted_all}
use Rattle.par_lanes.proofs.called.law_desks_are_called_for_their_frames.Goals as goal

pub returns-clause-lanes : goal.returns-clause-lanes
returns-clause-lanes g c = λ machines side first place desk outs said h there. called_for machines side first place desk there outs said h

pub returns-clause-others : goal.returns-clause-others
returns-clause-others g c = λ machines side first other outs said h below. others_unsaid machines side first other below outs said h

pub returns-clause-turns : goal.returns-clause-turns
returns-clause-turns g c = λ machines side first place outs said h. counted_all machines side first place outs said h
