use Rattle.world_nodes.proofs.Tampered.{has_flipped}
use Rattle.world_nodes.proofs.tampered_octets.flip.Goals as goal

pub tamper-requires : goal.tamper-requires
tamper-requires g c = let a = c.requires.asked in record { asked = (a.0, a.1, a.4.tampers) }

pub returns : goal.returns
returns g c net w number bit m =
    has_flipped g.K.Disk g.E.Entropy net w c.args.lane c.args.post.now c.tamper.new.post c.args.octets c.args.forged c.args.up c.tamper.result
    (c.tamper.ensures net w m.tampers) number bit m
