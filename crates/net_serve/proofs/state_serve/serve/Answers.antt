use Rattle.net_serve.proofs.state_serve.serve.Goals as goal

pub returns-clause-served : goal.returns-clause-served
returns-clause-served g c = c.serve_in_room.ensures.served
