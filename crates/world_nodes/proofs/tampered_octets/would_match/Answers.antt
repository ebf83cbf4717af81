use Rattle.world_nodes.proofs.Tampered.{would_match_here}
use Rattle.world_nodes.proofs.tampered_octets.would_match.Goals as goal

pub returns-in-On : goal.returns-in-On
returns-in-On g c net w m =
    would_match_here g.K.Disk g.E.Entropy net w c.args.lane c.args.post.now m c.args.octets.now c.would_match.result c.in-On.manager c.in-On.is c.would_match.ensures
