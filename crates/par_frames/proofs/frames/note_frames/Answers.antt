use Rattle.std.proofs.Common.{◌≡◌, arith}
use Rattle.world_state.proofs.Endings.{on_err}
use Rattle.par_frames.proofs.Whole.{site_lanes, site_recorded, may_note_all, frames_noted, frames_left}
use Rattle.par_frames.proofs.frames.note_frames.Goals as goal
use Rattle.world_state.specs.Outside.{outside}

pub record_frames-requires : goal.record_frames-requires
record_frames-requires g c =
    let a = c.requires.may in
    record { lanes = site_lanes (outside g.K.Disk g.Q.Device g.E.Entropy g.X.Wire) c.args.state.now a.0 a.1 c.args.frames.now a.2; order = a.2.order }

pub returns-then-not-is_whole-clause-err : goal.returns-then-not-is_whole-clause-err
returns-then-not-is_whole-clause-err g c net w h = frames_left (outside g.K.Disk g.Q.Device g.E.Entropy g.X.Wire) c.args.state.now net w c.args.frames.now h

pub note_all-requires : goal.note_all-requires
note_all-requires g c =
    let a = c.requires.may in
    let long = c.args.state.now.posts.ok.0 in
    let nodes = a.2.stands.nodes in
    let many : c.len.result ≡ a.0.site.nodes = omega (arith, c.len.ensures, long, nodes) in
    let recorded = site_recorded (outside g.K.Disk g.Q.Device g.E.Entropy g.X.Wire) c.args.state.now a.0 a.1 c.args.frames.now a.2 c.len.result c.new-log.result c.record_frames.new.log many c.new-log.ensures c.record_frames.ensures.whole c.record_frames.ensures.recorded c.if-not-is_whole.false in
    record { asked = (a.0, a.1, may_note_all (outside g.K.Disk g.Q.Device g.E.Entropy g.X.Wire) c.args.state.now a.0 a.1 c.args.frames.now a.2 c.record_frames.new.log recorded) }

pub returns-in_err-note_all-clause-err : goal.returns-in_err-note_all-clause-err
returns-in_err-note_all-clause-err g c =
    on_err c.from_residual.result (λ net w h.
    let long = c.args.state.now.posts.ok.0 in
    let nodes = h.stands.nodes in
    let many : c.len.result ≡ net.site.nodes = omega (arith, c.len.ensures, long, nodes) in
    let recorded = site_recorded (outside g.K.Disk g.Q.Device g.E.Entropy g.X.Wire) c.args.state.now net w c.args.frames.now h c.len.result c.new-log.result c.record_frames.new.log many c.new-log.ensures c.record_frames.ensures.whole c.record_frames.ensures.recorded c.if-not-is_whole.false in
    c.in_err-note_all.ensures.err net w (may_note_all (outside g.K.Disk g.Q.Device g.E.Entropy g.X.Wire) c.args.state.now net w c.args.frames.now h c.record_frames.new.log recorded))

pub returns-clause-ok : goal.returns-clause-ok
returns-clause-ok g c net w h =
    let long = c.args.state.now.posts.ok.0 in
    let nodes = h.stands.nodes in
    let many : c.len.result ≡ net.site.nodes = omega (arith, c.len.ensures, long, nodes) in
    let recorded = site_recorded (outside g.K.Disk g.Q.Device g.E.Entropy g.X.Wire) c.args.state.now net w c.args.frames.now h c.len.result c.new-log.result c.record_frames.new.log many c.new-log.ensures c.record_frames.ensures.whole c.record_frames.ensures.recorded c.if-not-is_whole.false in
    frames_noted (outside g.K.Disk g.Q.Device g.E.Entropy g.X.Wire) c.args.state.now net w c.args.frames.now h c.note_all.new.state c.record_frames.new.log recorded
    (c.in_ok-note_all.ensures.ok net w (may_note_all (outside g.K.Disk g.Q.Device g.E.Entropy g.X.Wire) c.args.state.now net w c.args.frames.now h c.record_frames.new.log recorded))
