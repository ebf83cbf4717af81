use Rattle.world_nodes.proofs.Handles.{valid_there}
use Rattle.world_nodes.proofs.event_handler.handle.Goals as goal

pub ask_if_up-requires : goal.ask_if_up-requires
ask_if_up-requires g c =
    let a = c.requires.asked in
    record { valid = λ m on up. valid_there g.K.Disk g.E.Entropy a.0 a.1 a.2 m up c.args.post.now on a.3.stands c.args.event.now a.3.valid }
