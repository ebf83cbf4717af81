use Rattle.world_nodes.proofs.tampered_octets.heard.Goals as goal

pub handle-requires : goal.handle-requires
handle-requires g c = let a = c.requires.asked in record { asked = (a.0, a.1, _, a.2) }

pub returns : goal.returns
returns g c net w m = c.handle.ensures net w _ m
