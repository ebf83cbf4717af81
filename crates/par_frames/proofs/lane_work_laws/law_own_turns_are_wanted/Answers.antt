use Rattle.std.proofs.Common.{sym, ◌∙◌, ap}
use Rattle.law_parallel.specs.Logs.{wanted_on}
use Rattle.par_frames.proofs.OnALane.{wanted_emitted}
use Rattle.par_frames.proofs.Owning.{own_wanted}
use Rattle.par_frames.proofs.lane_work_laws.law_own_turns_are_wanted.Goals as goal

pub returns : goal.returns
returns c = λ net workers w histories own network h l declared k turns at outs is. wanted_emitted l outs ∙ ap (wanted_on l) is ∙ sym (own_wanted net l workers k network w histories own h declared turns at)
