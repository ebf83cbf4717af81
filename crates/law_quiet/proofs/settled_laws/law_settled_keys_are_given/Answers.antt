use Rattle.law_quiet.specs.Settled.{world_before, world_after}
use Rattle.law_quiet.proofs.Giving.{pool_full, gives, hands, groups_are_full, gives_groups}
use Rattle.law_quiet.proofs.Settles.{rest_of}
use Rattle.law_quiet.proofs.settled_laws.law_settled_keys_are_given.Goals as goal

pub returns-clause-enc : goal.returns-clause-enc
returns-clause-enc c = λ http net workers earlier settles done rest m t n bits network requests silent up allowed.
    let r = rest_of http net workers network 4 earlier settles requests done rest silent in (
      pool_full http net workers network (world_before http net earlier done) (world_after http net earlier settles done rest) r up m t allowed bits,
      λ few room. gives http net workers network (world_before http net earlier done) (world_after http net earlier settles done rest) r up m t allowed n bits few room,
    )

pub returns-clause-dec : goal.returns-clause-dec
returns-clause-dec c = λ http net workers earlier settles done rest m t names network requests silent up allowed differ keys free room.
    let r = rest_of http net workers network 4 earlier settles requests done rest silent in
    hands http net workers network (world_before http net earlier done) (world_after http net earlier settles done rest) r up m t allowed names differ keys free room

pub returns-clause-group : goal.returns-clause-group
returns-clause-group c = λ http net workers earlier settles done rest m slaves n bits network requests silent up allowed some.
    let r = rest_of http net workers network 4 earlier settles requests done rest silent in (
      groups_are_full http net workers network (world_before http net earlier done) (world_after http net earlier settles done rest) r up m slaves bits,
      λ few room. gives_groups http net workers network (world_before http net earlier done) (world_after http net earlier settles done rest) r up m slaves bits n allowed some few room,
    )
