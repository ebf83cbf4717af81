use Rattle.std.proofs.Common.{refl}
use Rattle.world_state.specs.declared.state.State.{State}
use Rattle.net_world.proofs.LaidAgain.{all_empty, sized_laid, laid_again}
use Rattle.net_world.proofs.Rooms.{whole_again}
use Rattle.net_world.proofs.kept_lanes.lay_out_again.Goals as goal

pub go_on_all-requires-clause-empty : goal.go_on_all-requires-clause-empty
go_on_all-requires-clause-empty g c = all_empty c.args.bench.now c.lay_out.new.bench c.args.site c.in_ok-state.state c.in_ok-state.ensures.laid

pub returns-in-Ok-clause-laid : goal.returns-in-Ok-clause-laid
returns-in-Ok-clause-laid g c =
    laid_again c.args.bench.now c.lay_out.new.bench c.args.site c.in_ok-state.state c.in_ok-state.ensures.laid c.args.kept.now
    (record { site = c.in_ok-state.state.site; posts = c.in_ok-state.state.posts; lanes = c.go_on_all.new.lanes; devices = c.in_ok-state.state.devices; up = c.in_ok-state.state.up })
    refl refl refl refl c.go_on_all.ensures.sides c.in-Ok.ensures.ok

pub returns-in-Err-clause-err : goal.returns-in-Err-clause-err
returns-in-Err-clause-err g c =
    let State-here = State g.row.K.Denot g.row.Q.Denot g.row.E.Denot g.row.X.Denot in
    let end : State-here =
    record { site = c.in_ok-state.state.site; posts = c.in_ok-state.state.posts; lanes = c.go_on_all.new.lanes; devices = c.in_ok-state.state.devices; up = c.in_ok-state.state.up } in
    let laid = c.in_ok-state.ensures.laid in
    let sized = sized_laid c.args.bench.now c.lay_out.new.bench c.args.site c.in_ok-state.state laid c.requires.declared c.requires.whole end refl refl refl c.go_on_all.ensures.sides in
    whole_again g.K.Disk c.args.bench.now c.lay_out.new.bench c.put_back.new.bench c.args.site c.in_ok-state.state end
    c.requires.declared c.requires.whole laid sized laid.sited c.put_back.ensures
