use Rattle.std.specs.Prelude.{◌++◌}
use Rattle.net_model.specs.World.{World}
use Rattle.law_quiet.specs.Settled.{world_before, world_after}
use Rattle.law_quiet.proofs.Giving.{all_arrive, all_return}
use Rattle.law_quiet.proofs.RaisedTasks.{all_up}
use Rattle.law_quiet.proofs.Settles.{rest_of}
use Rattle.law_quiet.proofs.settled_laws.law_raised_and_settled_is_delivered.Goals as goal

pub returns : goal.returns
returns c = λ http net workers earlier raising settles done more rest n f network requests raised silent there.
    let r = rest_of http net workers network 4 (earlier ++ raising) settles requests (done ++ more) rest silent in
    let up = all_up http net workers earlier raising done more raised in
    let w : World = world_before http net (earlier ++ raising) (done ++ more) in
    let after : World = world_after http net (earlier ++ raising) settles (done ++ more) rest in
    (all_arrive http net workers network w after r up n f there, λ secret. all_return http net workers network w after r up n f there secret)
