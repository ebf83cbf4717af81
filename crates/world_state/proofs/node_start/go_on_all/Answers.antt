use Rattle.std.proofs.Common.{refl, sym, ap, ◌∙◌, arith, ◌<◌, length}
use Rattle.std.specs.Prelude.{◌==◌}
use Rattle.declared_site.specs.SiteOf.{site_of}
use Rattle.net_model.specs.Site.{sender}
use Rattle.world_state.proofs.AllGoOn.{went_all, may_next, went_on, went_past, wires_broken, wires_kept}
use Rattle.world_state.proofs.OneSide.{read_at}
use Rattle.world_state.proofs.node_start.go_on_all.Goals as goal
use Rattle.world_state.proofs.node_start.go_on_all.Goals.{then-eq+in_ok-go_on, else-eq}

pub go_on-requires : goal.go_on-requires
go_on-requires g c =
    let s = site_of c.args.site.now in
    let below : c.loop-place.place < length c.loop-place.lanes.items = omega (arith, c.loop-place-test.true, c.len-place-end.ensures, c.loop-place.invariant.sides) in
    let at = read_at c.loop-place.lanes.items c.loop-place.place c.loop-place.place c.index_mut-side.result.now refl below c.index_mut-side.ensures.value in
    let mine = sym (c.eq.ensures ∙ ap (λ n. n == c.args.node) (c.sender.ensures ∙ ap (sender s) c.lane.ensures)) ∙ c.if-eq.true in
    record { may = may_next s c.args.node c.args.manager.now.view c.args.lanes.now.items c.loop-place.place c.loop-place.lanes.items c.loop-place.invariant c.index_mut-side.result.now at c.requires.may mine }

pub returns-in_err-go_on-clause-wires : goal.returns-in_err-go_on-clause-wires
returns-in_err-go_on-clause-wires g c =
    let s = site_of c.args.site.now in
    let below : c.loop-place.place < length c.loop-place.lanes.items = omega (arith, c.loop-place-test.true, c.len-place-end.ensures, c.loop-place.invariant.sides) in
    let at = read_at c.loop-place.lanes.items c.loop-place.place c.loop-place.place c.index_mut-side.result.now refl below c.index_mut-side.ensures.value in
    wires_broken s c.args.node c.args.manager.now.view c.args.lanes.now.items c.loop-place.place c.loop-place.lanes.items c.loop-place.invariant c.index_mut-side.result.now at
    c.go_on.new.side _ c.go_on.ensures.wire refl

pub loop-place-preserved : goal.loop-place-preserved
loop-place-preserved g c =
    let s = site_of c.args.site.now in
    let below : c.loop-place.place < length c.loop-place.lanes.items = omega (arith, c.loop-place-test.true, c.len-place-end.ensures, c.loop-place.invariant.sides) in
    let at = read_at c.loop-place.lanes.items c.loop-place.place c.loop-place.place c.index_mut-side.result.now refl below c.index_mut-side.ensures.value in
    let is = sym (c.eq.ensures ∙ ap (λ n. n == c.args.node) (c.sender.ensures ∙ ap (sender s) c.lane.ensures)) in
    elim c.if-eq.branch [
      | then-eq+in_ok-go_on b ↦
          went_on s c.args.node c.args.manager.now.view c.args.lanes.now.items c.loop-place.place c.loop-place.lanes.items c.loop-place.invariant c.index_mut-side.result.now at
          b.go_on.new.side c.if-eq.lanes.items (is ∙ b.if-eq.true) b.in_ok-go_on.ensures.ok (ap (λ xs. xs.items) b.lanes-is)
      | else-eq b ↦
          went_past s c.args.node c.args.manager.now.view c.args.lanes.now.items c.loop-place.place c.loop-place.lanes.items c.loop-place.invariant c.index_mut-side.result.now at
          c.if-eq.lanes.items (is ∙ b.if-eq.false) (ap (λ xs. xs.items) b.lanes-is)
    ]

pub returns-clause-ok : goal.returns-clause-ok
returns-clause-ok g c =
    went_all (site_of c.args.site.now) c.args.node c.args.manager.now.view c.args.lanes.now.items c.loop-place.place c.loop-place.lanes.items c.loop-place.invariant
    (omega (arith, c.loop-place-test.false, c.len-place-end.ensures))

pub returns-clause-wires : goal.returns-clause-wires
returns-clause-wires g c =
    wires_kept (site_of c.args.site.now) c.args.node c.args.manager.now.view c.args.lanes.now.items c.loop-place.place c.loop-place.lanes.items c.loop-place.invariant
