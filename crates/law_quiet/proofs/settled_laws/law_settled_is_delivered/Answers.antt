use Rattle.net_model.specs.World.{World}
use Rattle.law_quiet.specs.Settled.{world_before, world_after}
use Rattle.law_quiet.proofs.Giving.{all_arrive, all_return}
use Rattle.law_quiet.proofs.Quieting.{arrives, returns}
use Rattle.law_quiet.proofs.Settles.{rest_of}
use Rattle.law_quiet.proofs.settled_laws.law_settled_is_delivered.Goals as goal

pub returns-clause-arrives : goal.returns-clause-arrives
returns-clause-arrives c = λ http net workers earlier settles done rest n f network requests silent there way.
    let r = rest_of http net workers network 4 earlier settles requests done rest silent in
    let w : World = world_before http net earlier done in
    let after : World = world_after http net earlier settles done rest in
    arrives net network w after r.start.conserved r.start.quiet r.start.awaits r.rounds n f there way

pub returns-clause-returns : goal.returns-clause-returns
returns-clause-returns c = λ http net workers earlier settles done rest n f network requests silent there secret way.
    let r = rest_of http net workers network 4 earlier settles requests done rest silent in
    let w : World = world_before http net earlier done in
    let after : World = world_after http net earlier settles done rest in
    returns net network w after r.start.conserved r.start.quiet r.start.awaits r.rounds r.start.noted.table n f there secret way

pub returns-clause-every : goal.returns-clause-every
returns-clause-every c = λ http net workers earlier settles done rest n f network requests silent up there.
    let r = rest_of http net workers network 4 earlier settles requests done rest silent in
    let w : World = world_before http net earlier done in
    let after : World = world_after http net earlier settles done rest in
    (all_arrive http net workers network w after r up n f there, λ secret. all_return http net workers network w after r up n f there secret)
