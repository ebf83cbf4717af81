use Rattle.std.proofs.Common.{◌∙◌}
use Rattle.world_nodes.proofs.Tampered.{may_handle, says_down, says_match, says_heard}
use Rattle.world_nodes.proofs.tampered_octets.tamper.Goals as goal

pub heard-requires : goal.heard-requires
heard-requires g c =
    let a = c.requires.asked in
    let up = c.is_up.ensures a.0 a.1 c.args.lane a.2.there ∙ c.if-not-is_up.false in
    record {
      asked = (
        a.0,
        a.1,
        may_handle g.K.Disk g.E.Entropy a.0 a.1 c.args.lane c.args.post.now c.args.octets c.args.forged c.args.up a.2 up c.if-forged.false,
      );
    }

pub returns-then-not-is_up : goal.returns-then-not-is_up
returns-then-not-is_up g c net w m =
    says_down g.K.Disk g.E.Entropy net w c.args.lane c.args.post.now c.args.octets c.args.forged c.args.up m
    (c.is_up.ensures net w c.args.lane m.there ∙ c.if-not-is_up.true)

pub returns-then-forged : goal.returns-then-forged
returns-then-forged g c net w m =
    says_match g.K.Disk g.E.Entropy net w c.args.lane c.args.post.now c.args.octets c.args.forged c.args.up m
    c.if-forged.true

pub returns : goal.returns
returns g c net w m =
    let up = c.is_up.ensures net w c.args.lane m.there ∙ c.if-not-is_up.false in
    says_heard g.K.Disk g.E.Entropy net w c.args.lane c.args.post.now c.args.octets c.args.forged c.args.up m up c.if-forged.false
    c.heard.new.post c.heard.result
    (c.heard.ensures net w
    (may_handle g.K.Disk g.E.Entropy net w c.args.lane c.args.post.now c.args.octets c.args.forged c.args.up m up c.if-forged.false))
