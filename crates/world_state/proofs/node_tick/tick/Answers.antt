use Rattle.std.proofs.Common.{◌≡◌, List, ◌++◌, sym, ap, subst, ◌∙◌}
use Rattle.declared_site.specs.SiteOf.{site_of}
use Rattle.net_model.specs.declared.event.Event.TheVariants.{Plan}
use Rattle.net_model.specs.declared.reply.Reply.{Reply}
use Rattle.net_model.specs.declared.reply.Reply.TheVariants.{Planned}
use Rattle.net_model.specs.Action.{Ask, Replies}
use Rattle.net_model.specs.Step.{step}
use Rattle.run_types.specs.declared.item.Item.{Item}
use Rattle.run_model.specs.Lines.{ticked}
use Rattle.run_model.specs.Outcomes.{plan_items}
use Rattle.run_ops.specs.Acting.{Plays}
use Rattle.world_state.specs.Stands.{Stands}
use Rattle.world_state.specs.Tallied.{Tallied}
use Rattle.world_state.specs.Ticking.{HasPlanned}
use Rattle.world_state.proofs.Endings.{on_err, if_ok, err_so}
use Rattle.world_state.proofs.Ticks.{other_of, first_breaks, nothing_planned, planned_sending, tick_played, tick_breaks}
use Rattle.world_state.proofs.node_tick.tick.Goals as goal
use Rattle.world_state.specs.Outside.{outside}

pub returns-in_err-items-clause-left : goal.returns-in_err-items-clause-left
returns-in_err-items-clause-left g c =
    on_err c.from_residual.result (λ net w ready. first_breaks (outside g.K.Disk g.Q.Device g.E.Entropy g.X.Wire) c.args.state.now c.plan-reply.new.state net w c.args.node c.plan-reply.result (c.plan-reply.ensures.planned net w ready) net.site c.args.quiet)

pub send-requires-clause-next : goal.send-requires-clause-next
send-requires-clause-next g c =
    let a = c.requires.ready in
    let is : c.plan-reply.result ≡ Planned c.as_slice.result.now c.as_slice-in-Planned.result.now c.in-Planned.shorts = c.in-Planned.is ∙ λ i. Planned (sym c.as_slice.ensures i) (sym c.as_slice-in-Planned.ensures i) c.in-Planned.shorts in
    let h = subst (λ (reply : Reply). HasPlanned (outside g.K.Disk g.Q.Device g.E.Entropy g.X.Wire) c.args.state.now c.plan-reply.new.state a.0 a.1 c.args.node reply) is (c.plan-reply.ensures.planned a.0 a.1 a.2) in
    let sending = planned_sending (outside g.K.Disk g.Q.Device g.E.Entropy g.X.Wire) c.args.state.now c.plan-reply.new.state a.0 a.1 c.args.node c.as_slice.result.now c.as_slice-in-Planned.result.now c.in-Planned.shorts h a.2 (site_of c.plan-reply.new.state.site) h.stands.sited in
    (a.0, (step a.0 a.1 (Ask c.args.node Plan h.environment)).0, sending)

pub returns-in-Planned-clause-done : goal.returns-in-Planned-clause-done
returns-in-Planned-clause-done g c =
    if_ok c.send.result (λ all k net w ready.
    let is : c.plan-reply.result ≡ Planned c.as_slice.result.now c.as_slice-in-Planned.result.now c.in-Planned.shorts = c.in-Planned.is ∙ λ i. Planned (sym c.as_slice.ensures i) (sym c.as_slice-in-Planned.ensures i) c.in-Planned.shorts in
    let h = subst (λ (reply : Reply). HasPlanned (outside g.K.Disk g.Q.Device g.E.Entropy g.X.Wire) c.args.state.now c.plan-reply.new.state net w c.args.node reply) is (c.plan-reply.ensures.planned net w ready) in
    let sending = planned_sending (outside g.K.Disk g.Q.Device g.E.Entropy g.X.Wire) c.args.state.now c.plan-reply.new.state net w c.args.node c.as_slice.result.now c.as_slice-in-Planned.result.now c.in-Planned.shorts h ready (site_of c.plan-reply.new.state.site) h.stands.sited in
    let m = k net ((step net w (Ask c.args.node Plan h.environment)).0) sending in
    let items = m.1 ∙ ap (λ (xs : List Item). xs ++ m.0) (c.in_ok-items.ensures ∙ ap (λ (reply : Reply). plan_items c.args.quiet c.args.node (Replies reply)) is) in
    subst (λ (xs : List Item). Plays (Stands (outside g.K.Disk g.Q.Device g.E.Entropy g.X.Wire)) (Tallied (outside g.K.Disk g.Q.Device g.E.Entropy g.X.Wire)) c.args.state.now c.send.new.state net w (ticked net.site c.args.quiet c.args.node) xs) (sym items)
    (tick_played (outside g.K.Disk g.Q.Device g.E.Entropy g.X.Wire)
    c.args.state.now c.plan-reply.new.state net w c.args.node c.as_slice.result.now c.as_slice-in-Planned.result.now c.in-Planned.shorts h c.send.new.state c.args.quiet m.0 (site_of c.plan-reply.new.state.site) h.stands.sited m.2))
    c.send.ensures.ok

pub returns-in-Planned-clause-left : goal.returns-in-Planned-clause-left
returns-in-Planned-clause-left g c =
    err_so c.send.result (λ k net w ready.
    let is : c.plan-reply.result ≡ Planned c.as_slice.result.now c.as_slice-in-Planned.result.now c.in-Planned.shorts = c.in-Planned.is ∙ λ i. Planned (sym c.as_slice.ensures i) (sym c.as_slice-in-Planned.ensures i) c.in-Planned.shorts in
    let h = subst (λ (reply : Reply). HasPlanned (outside g.K.Disk g.Q.Device g.E.Entropy g.X.Wire) c.args.state.now c.plan-reply.new.state net w c.args.node reply) is (c.plan-reply.ensures.planned net w ready) in
    let sending = planned_sending (outside g.K.Disk g.Q.Device g.E.Entropy g.X.Wire) c.args.state.now c.plan-reply.new.state net w c.args.node c.as_slice.result.now c.as_slice-in-Planned.result.now c.in-Planned.shorts h ready (site_of c.plan-reply.new.state.site) h.stands.sited in
    tick_breaks (outside g.K.Disk g.Q.Device g.E.Entropy g.X.Wire)
    c.args.state.now c.plan-reply.new.state net w c.args.node c.as_slice.result.now c.as_slice-in-Planned.result.now c.in-Planned.shorts h c.send.new.state c.args.quiet (site_of c.plan-reply.new.state.site) h.stands.sited (k net ((step net w (Ask c.args.node Plan h.environment)).0) sending))
    c.send.ensures.err

pub returns : goal.returns
returns g c = record {
  site = c.plan-reply.ensures.site;
  armed = c.plan-reply.ensures.armed;
  done = λ net w ready.
      subst (λ (xs : List Item). Plays (Stands (outside g.K.Disk g.Q.Device g.E.Entropy g.X.Wire))
      (Tallied (outside g.K.Disk g.Q.Device g.E.Entropy g.X.Wire)) c.args.state.now c.plan-reply.new.state net w (ticked net.site c.args.quiet c.args.node) xs)
      (sym c.in_ok-items.ensures)
      (nothing_planned (outside g.K.Disk g.Q.Device g.E.Entropy g.X.Wire)
      c.args.state.now c.plan-reply.new.state net w c.args.node c.plan-reply.result (c.plan-reply.ensures.planned net w ready) c.args.quiet ready (other_of c.plan-reply.result c.in_default.not-Planned));
  left = tt;
}
