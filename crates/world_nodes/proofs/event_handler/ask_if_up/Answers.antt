use Rattle.std.proofs.Common.{sym, ◌∙◌}
use Rattle.world_nodes.proofs.Handles.{handled_up, handled_on_down, handled_off}
use Rattle.world_nodes.proofs.event_handler.ask_if_up.Goals as goal

pub act-requires : goal.act-requires
act-requires g c = c.requires.valid c.in-On.manager c.in-On.is (sym c.is_up.ensures ∙ c.if-is_up.true)

pub returns-then-is_up : goal.returns-then-is_up
returns-then-is_up g c net w v m =
    handled_up g.K.Disk g.E.Entropy net w v c.args.event.now c.args.up c.args.post.now c.in-On.manager c.act.new.self
    c.act.result c.in-On.is m (c.act.ensures.acts w.link_up m.links) c.act.ensures.site c.act.ensures.same c.act.ensures.later c.act.ensures.drawn_later

pub returns-else-is_up : goal.returns-else-is_up
returns-else-is_up g c net w v m =
    handled_on_down g.K.Disk g.E.Entropy net w v c.args.event.now c.args.up c.args.post.now c.in-On.manager
    c.in-On.is (sym c.is_up.ensures ∙ c.if-is_up.false) m

pub returns-in-Off : goal.returns-in-Off
returns-in-Off g c net w v m =
    handled_off g.K.Disk g.E.Entropy net w v c.args.event.now c.args.up c.args.post.now c.in-Off.field-0 c.in-Off.field-1
    c.in-Off.is m
