use Rattle.std.proofs.Common.{sym, ◌∙◌}
use Rattle.world_nodes.proofs.Notes.{may_handle, counts, has_noted, has_stayed}
use Rattle.world_nodes.proofs.node_notes.note.Goals as goal

pub handle-reply-requires : goal.handle-reply-requires
handle-reply-requires g c =
    let a = c.requires.asked in
    record { asked = (a.0, a.1, a.2, may_handle g.K.Disk g.E.Entropy a.0 a.1 a.2 c.args.post.now c.args.placings c.args.up a.3) }

pub returns-then-is_memory-clause-err : goal.returns-then-is_memory-clause-err
returns-then-is_memory-clause-err g c net w v m =
    let h = c.handle-reply.ensures net w v (may_handle g.K.Disk g.E.Entropy net w v c.args.post.now c.args.placings c.args.up m) in
    has_stayed g.K.Disk g.E.Entropy net w v c.args.post.now c.args.placings c.args.up m c.handle-reply.new.post c.handle-reply.result h
    (sym c.is_memory.ensures ∙ c.if-is_memory.true)

pub returns-then-is_memory-clause-counts : goal.returns-then-is_memory-clause-counts
returns-then-is_memory-clause-counts g c net w v m =
    let h = c.handle-reply.ensures net w v (may_handle g.K.Disk g.E.Entropy net w v c.args.post.now c.args.placings c.args.up m) in
    counts g.K.Disk g.E.Entropy net w v c.args.post.now c.args.placings c.args.up m c.handle-reply.new.post c.handle-reply.result h

pub returns-clause-ok : goal.returns-clause-ok
returns-clause-ok g c net w v m =
    let h = c.handle-reply.ensures net w v (may_handle g.K.Disk g.E.Entropy net w v c.args.post.now c.args.placings c.args.up m) in
    has_noted g.K.Disk g.E.Entropy net w v c.args.post.now c.args.placings c.args.up m c.handle-reply.new.post c.handle-reply.result h
    (sym c.is_memory.ensures ∙ c.if-is_memory.false)
