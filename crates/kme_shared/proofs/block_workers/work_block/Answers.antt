use Rattle.std.proofs.Common.{List, length, sym, ap, subst, ◌∙◌, arith}
use Rattle.std.specs.List.{AllZip, AllByRecursion}
use Rattle.std.proofs.lemmas.Result.{IfOk-weaker}
use Rattle.lane_shares.specs.declared.share.Share.{Share}
use Rattle.lane_shares.specs.declared.shares.Shares.{Shares}
use Rattle.lane_shares.specs.Names.{Fits}
use Rattle.par_managers.proofs.Openings.{opened_long}
use Rattle.kme_shared.specs.Seats.{AreUsed}
use Rattle.kme_shared.proofs.Dealt.{opened_fit, used_of}
use Rattle.kme_shared.specs.Keeping.{IsFresh}
use Rattle.kme_shared.proofs.Opened.{same_long, still_opened, shifts_at, dealt_at, worked_from}
use Rattle.kme_shared.proofs.block_workers.work_block.Goals as goal
use Rattle.world_state.specs.Outside.{outside}

pub keeps-requires : goal.keeps-requires
keeps-requires g c =
    subst (λ (ds : List Shares). AllZip Fits ds c.deref_mut.result.now) (sym c.deref.ensures.value)
    (subst (λ (rs : List Share). AllZip Fits c.in_ok-shares.field-0.shares.items rs) (sym c.deref_mut.ensures.value) (opened_fit c.args.state.now c.in_ok-shares.field-0.shares.items c.in_ok-shares.field-0.issuers.items c.in_ok-shares.field-0.used.items c.in_ok-shares.ensures))

pub sheets-requires-clause-opened : goal.sheets-requires-clause-opened
sheets-requires-clause-opened g c = (
  c.in_ok-shares.field-0.used.items,
  still_opened c.args.state.now c.args.state.now.lanes.items c.in_ok-shares.field-0.shares.items c.in_ok-shares.field-0.issuers.items c.in_ok-shares.field-0.used.items c.in_ok-shares.ensures c.deref.result.now c.deref-2.result.now c.deref_mut.result.now c.keeps.new.issuers c.deref_mut-2.result.now
      c.in_ok-shares.field-0.issuers.len c.deref.ensures.value c.deref-2.ensures.value c.deref_mut.ensures.value c.in_ok-shares.field-0.issuers.ok.0 c.keeps.ensures.fits c.keeps.ensures.same c.deref_mut-2.ensures.value,
)

pub work_on_stage-requires-clause-some : goal.work_on_stage-requires-clause-some
work_on_stage-requires-clause-some g c κs within =
    let many = same_long (λ keep. keep.shift.items) (λ shift. shift.items) c.in_ok-keeps.keeps.items c.in_ok-shifts.shifts.items c.in_ok-keeps.ensures.shifts in
    omega (arith, many, c.in_ok-shifts.ensures.many, c.requires.may.some)

pub work_on_stage-requires-clause-few : goal.work_on_stage-requires-clause-few
work_on_stage-requires-clause-few g c κs within =
    let many = same_long (λ keep. keep.shift.items) (λ shift. shift.items) c.in_ok-keeps.keeps.items c.in_ok-shifts.shifts.items c.in_ok-keeps.ensures.shifts in
    omega (arith, many, c.in_ok-shifts.ensures.many, c.requires.may.few)

pub work_on_stage-requires-clause-shifts : goal.work_on_stage-requires-clause-shifts
work_on_stage-requires-clause-shifts g c κs within =
    let many = same_long (λ keep. keep.shift.items) (λ shift. shift.items) c.in_ok-keeps.keeps.items c.in_ok-shifts.shifts.items c.in_ok-keeps.ensures.shifts in
    shifts_at (outside g.K.Disk g.Q.Device g.E.Entropy g.X.Wire) c.args.state.now c.of-opening.result.value c.of-opening.ensures (length c.in_ok-keeps.keeps.items) c.args.workers c.args.jobs.now _ _ (many ∙ c.in_ok-shifts.ensures.many) c.in_ok-keeps.ensures.shifts c.in_ok-shifts.ensures.shifts

pub work_on_stage-requires-clause-fresh : goal.work_on_stage-requires-clause-fresh
work_on_stage-requires-clause-fresh g c κs within =
    subst (λ (ds : List Shares). AllByRecursion (IsFresh ds) c.in_ok-keeps.keeps.items) (c.deref.ensures.value ∙ sym c.deref-3.ensures.value) c.in_ok-keeps.ensures.fresh

pub work_on_stage-requires-clause-shares : goal.work_on_stage-requires-clause-shares
work_on_stage-requires-clause-shares g c κs within =
    ap (λ (ds : List Shares). length ds) c.deref-3.ensures.value ∙ (opened_long c.args.state.now c.args.state.now.lanes.items c.in_ok-shares.field-0.shares.items c.in_ok-shares.field-0.issuers.items c.in_ok-shares.field-0.used.items c.in_ok-shares.ensures).0

pub work_on_stage-requires-clause-sheets : goal.work_on_stage-requires-clause-sheets
work_on_stage-requires-clause-sheets g c κs within = c.in_ok-sheets.sheets.ok.0 ∙ c.in_ok-sheets.ensures.nodes ∙ sym c.args.state.now.posts.ok.0

pub work_on_stage-requires-clause-dealt : goal.work_on_stage-requires-clause-dealt
work_on_stage-requires-clause-dealt g c κs within v sheet at =
    dealt_at (outside g.K.Disk g.Q.Device g.E.Entropy g.X.Wire) c.args.state.now c.of-opening.result.value c.of-opening.ensures c.deref-2.result.now c.deref-3.result.now v sheet.issuers.items sheet.opening.value (c.deref-3.ensures.value ∙ sym c.deref-2.ensures.value) (c.in_ok-sheets.ensures.dealt v sheet at)

pub work_on_stage-requires-clause-count : goal.work_on_stage-requires-clause-count
work_on_stage-requires-clause-count g c κs within =
    c.in_ok-shares.field-0.used.ok.0 ∙ (opened_long c.args.state.now c.args.state.now.lanes.items c.in_ok-shares.field-0.shares.items c.in_ok-shares.field-0.issuers.items c.in_ok-shares.field-0.used.items c.in_ok-shares.ensures).2 ∙ sym c.args.state.now.lanes.ok.0

pub work_on_stage-requires-clause-used : goal.work_on_stage-requires-clause-used
work_on_stage-requires-clause-used g c κs within =
    subst (λ (ds : List Shares). AreUsed c.args.state.now.lanes.items ds c.in_ok-shares.field-0.used.items) (sym c.deref-3.ensures.value) (used_of c.args.state.now c.in_ok-shares.field-0.shares.items c.in_ok-shares.field-0.issuers.items c.in_ok-shares.field-0.used.items c.in_ok-shares.ensures)

pub returns-clause-worked : goal.returns-clause-worked
returns-clause-worked g c =
    let many = same_long (λ keep. keep.shift.items) (λ shift. shift.items) c.in_ok-keeps.keeps.items c.in_ok-shifts.shifts.items c.in_ok-keeps.ensures.shifts in
    IfOk-weaker c.work_on_stage.result _ _
    (λ worked h. worked_from (outside g.K.Disk g.Q.Device g.E.Entropy g.X.Wire) c.args.state.now c.of-opening.result.value c.of-opening.ensures
    c.work_on_stage.new.posts c.work_on_stage.new.lanes (length c.in_ok-keeps.keeps.items) c.args.workers c.args.jobs.now worked (many ∙ c.in_ok-shifts.ensures.many) h)
    c.work_on_stage.ensures.worked
