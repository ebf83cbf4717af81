use Rattle.world_nodes.proofs.Tampered.{has_forged}
use Rattle.world_nodes.proofs.tampered_octets.forge.Goals as goal

pub tamper-requires : goal.tamper-requires
tamper-requires g c = let a = c.requires.asked in record { asked = (a.0, a.1, a.2.tampers) }

pub returns : goal.returns
returns g c net w m =
    has_forged g.K.Disk g.E.Entropy net w c.args.lane c.args.post.now c.tamper.new.post c.args.octets c.args.forged c.args.up c.tamper.result
    (c.tamper.ensures net w m.tampers) m
