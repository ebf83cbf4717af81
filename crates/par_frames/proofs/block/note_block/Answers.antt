use Rattle.world_state.proofs.Endings.{on_err}
use Rattle.par_frames.proofs.Whole.{behind, may_note, block_done, block_ends, block_left}
use Rattle.par_frames.proofs.block.note_block.Goals as goal
use Rattle.world_state.specs.Outside.{outside}

pub returns-then-not-is_whole-clause-left : goal.returns-then-not-is_whole-clause-left
returns-then-not-is_whole-clause-left g c opening net w workers jobs came = block_left (outside g.K.Disk g.Q.Device g.E.Entropy g.X.Wire) opening c.args.state.now net w workers jobs c.args.worked came

pub note_frames-requires : goal.note_frames-requires
note_frames-requires g c =
    let a = c.requires.came in
    record {
      may = (
        a.1,
        behind (outside g.K.Disk g.Q.Device g.E.Entropy g.X.Wire) a.0 c.args.state.now a.1 a.2 a.3 a.4 c.args.worked a.5,
        may_note (outside g.K.Disk g.Q.Device g.E.Entropy g.X.Wire) a.0 c.args.state.now a.1 a.2 a.3 a.4 c.args.worked a.5 c.if-not-is_whole.false c.deref.result.now c.deref.ensures.value,
      );
    }

pub returns-in_err-frames-clause-left : goal.returns-in_err-frames-clause-left
returns-in_err-frames-clause-left g c =
    on_err c.from_residual.result (λ opening net w workers jobs came.
    block_ends (outside g.K.Disk g.Q.Device g.E.Entropy g.X.Wire) opening c.args.state.now net w workers jobs c.args.worked came c.note_frames.new.state
    (c.in_err-frames.ensures.err net (behind (outside g.K.Disk g.Q.Device g.E.Entropy g.X.Wire) opening c.args.state.now net w workers jobs c.args.worked came)
    (may_note (outside g.K.Disk g.Q.Device g.E.Entropy g.X.Wire) opening c.args.state.now net w workers jobs c.args.worked came c.if-not-is_whole.false c.deref.result.now c.deref.ensures.value)))

pub returns-clause-done : goal.returns-clause-done
returns-clause-done g c opening net w workers jobs came =
    block_done (outside g.K.Disk g.Q.Device g.E.Entropy g.X.Wire) opening c.args.state.now net w workers jobs c.args.worked came c.if-not-is_whole.false c.deref.result.now c.deref.ensures.value c.note_frames.new.state c.in_ok-frames.frames
    (c.in_ok-frames.ensures.ok net (behind (outside g.K.Disk g.Q.Device g.E.Entropy g.X.Wire) opening c.args.state.now net w workers jobs c.args.worked came)
    (may_note (outside g.K.Disk g.Q.Device g.E.Entropy g.X.Wire) opening c.args.state.now net w workers jobs c.args.worked came c.if-not-is_whole.false c.deref.result.now c.deref.ensures.value))
