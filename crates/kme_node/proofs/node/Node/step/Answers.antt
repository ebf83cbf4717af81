use Rattle.std.proofs.Common.{◌≡◌, ◌≤◌, ℕ, true, [], List, Ok, length, subst, sym}
use Rattle.qkd_base.specs.Name.{Name}
use Rattle.net_model.specs.declared.event.Event.{Event}
use Rattle.net_model.specs.declared.event.Event.TheVariants as events
use Rattle.net_model.specs.Decide.{decide}
use Rattle.net_model.specs.Events.{is_valid_event}
use Rattle.declared_site.specs.SiteOf.{site_of}
use Rattle.kme_base.specs.Steps.{IsStep, placings_of}
use Rattle.kme_node.specs.Holdings.{view}
use Rattle.kme_node.proofs.Valid.{dec_few, fill_group_some, enc_group_some}
use Rattle.kme_node.proofs.Fitting.{IsCalm, answer_fits}
use Rattle.kme_node.proofs.node.Node.step.Goals as goal

pub dec-requires : goal.dec-requires
dec-requires c =
    record { few = subst (λ (ns : List Name). length ns ≤ 65535) (sym c.as_slice-in-Dec.ensures) (dec_few (site_of c.args.self.now.site) (view c.args.self.now).me c.in-Dec.slave c.in-Dec.master c.in-Dec.names (subst (λ (e : Event). is_valid_event (site_of c.args.self.now.site) (view c.args.self.now).me e ≡ true) c.in-Dec.is c.requires.valid)) }

pub fill_group-requires : goal.fill_group-requires
fill_group-requires c =
    record { some = subst (λ (ss : List ℕ). 1 ≤ length ss) (sym c.as_slice-in-FillGroup.ensures) (fill_group_some (site_of c.args.self.now.site) (view c.args.self.now).me c.in-FillGroup.master c.in-FillGroup.bits c.in-FillGroup.count c.in-FillGroup.slaves (subst (λ (e : Event). is_valid_event (site_of c.args.self.now.site) (view c.args.self.now).me e ≡ true) c.in-FillGroup.is c.requires.valid)) }

pub enc_group-requires : goal.enc_group-requires
enc_group-requires c =
    record { some = subst (λ (ss : List ℕ). 1 ≤ length ss) (sym c.as_slice-in-EncGroup.ensures) (enc_group_some (site_of c.args.self.now.site) (view c.args.self.now).me c.in-EncGroup.master c.in-EncGroup.number c.in-EncGroup.bits c.in-EncGroup.slaves (subst (λ (e : Event). is_valid_event (site_of c.args.self.now.site) (view c.args.self.now).me e ≡ true) c.in-EncGroup.is c.requires.valid)) }

pub returns-in-Block-clause-step : goal.returns-in-Block-clause-step
returns-in-Block-clause-step c = λ frames is_up up.
    subst (λ (e : Event). IsStep (view c.args.self.now) (placings_of e) (decide (site_of c.args.self.now.site) frames is_up (view c.args.self.now) c.args.random.now e) c.block.result) (sym c.in-Block.is)
    (subst (λ (x : List ℕ). IsStep (view c.args.self.now) [] (decide (site_of c.args.self.now.site) frames is_up (view c.args.self.now) c.args.random.now (events.Block c.in-Block.link c.in-Block.number x)) c.block.result) c.as_slice.ensures (c.block.ensures frames is_up c.args.random.now))

pub returns-in-Block-clause-fits : goal.returns-in-Block-clause-fits
returns-in-Block-clause-fits c = answer_fits c.args.self.now c.args.up c.args.random.now c.args.event.now (subst IsCalm (sym c.in-Block.is) tt) c.requires.valid c.block.result (returns-in-Block-clause-step c)

pub returns-in-Fill-clause-step : goal.returns-in-Fill-clause-step
returns-in-Fill-clause-step c = λ frames is_up up.
    subst (λ (e : Event). IsStep (view c.args.self.now) (placings_of e) (decide (site_of c.args.self.now.site) frames is_up (view c.args.self.now) c.args.random.now e) c.fill.result) (sym c.in-Fill.is)
    (c.fill.ensures frames is_up up)

pub returns-in-Fill-clause-fits : goal.returns-in-Fill-clause-fits
returns-in-Fill-clause-fits c = answer_fits c.args.self.now c.args.up c.args.random.now c.args.event.now (subst IsCalm (sym c.in-Fill.is) tt) c.requires.valid c.fill.result (returns-in-Fill-clause-step c)

pub returns-in-Feed-clause-step : goal.returns-in-Feed-clause-step
returns-in-Feed-clause-step c = λ frames is_up up.
    subst (λ (e : Event). IsStep (view c.args.self.now) (placings_of e) (decide (site_of c.args.self.now.site) frames is_up (view c.args.self.now) c.args.random.now e) c.feed.result) (sym c.in-Feed.is)
    (c.feed.ensures frames is_up up)

pub returns-in-Feed-clause-fits : goal.returns-in-Feed-clause-fits
returns-in-Feed-clause-fits c = answer_fits c.args.self.now c.args.up c.args.random.now c.args.event.now (subst IsCalm (sym c.in-Feed.is) tt) c.requires.valid c.feed.result (returns-in-Feed-clause-step c)

pub returns-in-Plan-clause-step : goal.returns-in-Plan-clause-step
returns-in-Plan-clause-step c = λ frames is_up up.
    subst (λ (e : Event). IsStep (view c.args.self.now) (placings_of e) (decide (site_of c.args.self.now.site) frames is_up (view c.args.self.now) c.args.random.now e) c.plan.result) (sym c.in-Plan.is)
    (c.plan.ensures.step frames is_up c.args.random.now up)

pub returns-in-Plan-clause-fits : goal.returns-in-Plan-clause-fits
returns-in-Plan-clause-fits c = c.plan.ensures.fits

pub returns-in-Enc-clause-step : goal.returns-in-Enc-clause-step
returns-in-Enc-clause-step c = λ frames is_up up.
    subst (λ (e : Event). IsStep (view c.args.self.now) (placings_of e) (decide (site_of c.args.self.now.site) frames is_up (view c.args.self.now) c.args.random.now e) c.enc.result) (sym c.in-Enc.is)
    (c.enc.ensures frames is_up c.args.random.now)

pub returns-in-Enc-clause-fits : goal.returns-in-Enc-clause-fits
returns-in-Enc-clause-fits c = answer_fits c.args.self.now c.args.up c.args.random.now c.args.event.now (subst IsCalm (sym c.in-Enc.is) tt) c.requires.valid c.enc.result (returns-in-Enc-clause-step c)

pub returns-in-Dec-clause-step : goal.returns-in-Dec-clause-step
returns-in-Dec-clause-step c = λ frames is_up up.
    subst (λ (e : Event). IsStep (view c.args.self.now) (placings_of e) (decide (site_of c.args.self.now.site) frames is_up (view c.args.self.now) c.args.random.now e) c.dec.result) (sym c.in-Dec.is)
    (subst (λ (x : List Name). IsStep (view c.args.self.now) [] (decide (site_of c.args.self.now.site) frames is_up (view c.args.self.now) c.args.random.now (events.Dec c.in-Dec.slave c.in-Dec.master x)) c.dec.result) c.as_slice-in-Dec.ensures (c.dec.ensures frames is_up c.args.random.now))

pub returns-in-Dec-clause-fits : goal.returns-in-Dec-clause-fits
returns-in-Dec-clause-fits c = answer_fits c.args.self.now c.args.up c.args.random.now c.args.event.now (subst IsCalm (sym c.in-Dec.is) tt) c.requires.valid c.dec.result (returns-in-Dec-clause-step c)

pub returns-in-Status-clause-step : goal.returns-in-Status-clause-step
returns-in-Status-clause-step c = λ frames is_up up.
    subst (λ (e : Event). IsStep (view c.args.self.now) (placings_of e) (decide (site_of c.args.self.now.site) frames is_up (view c.args.self.now) c.args.random.now e) c.status.result) (sym c.in-Status.is)
    (c.status.ensures.step frames is_up c.args.random.now)

pub returns-in-Status-clause-fits : goal.returns-in-Status-clause-fits
returns-in-Status-clause-fits c = answer_fits c.args.self.now c.args.up c.args.random.now c.args.event.now (subst IsCalm (sym c.in-Status.is) tt) c.requires.valid c.status.result (returns-in-Status-clause-step c)

pub returns-in-Open-clause-step : goal.returns-in-Open-clause-step
returns-in-Open-clause-step c = λ frames is_up up.
    subst (λ (e : Event). IsStep (view c.args.self.now) (placings_of e) (decide (site_of c.args.self.now.site) frames is_up (view c.args.self.now) c.args.random.now e) c.open.result) (sym c.in-Open.is)
    (c.open.ensures frames is_up c.args.random.now up)

pub returns-in-Open-clause-fits : goal.returns-in-Open-clause-fits
returns-in-Open-clause-fits c = answer_fits c.args.self.now c.args.up c.args.random.now c.args.event.now (subst IsCalm (sym c.in-Open.is) tt) c.requires.valid c.open.result (returns-in-Open-clause-step c)

pub returns-in-Join-clause-step : goal.returns-in-Join-clause-step
returns-in-Join-clause-step c = λ frames is_up up.
    subst (λ (e : Event). IsStep (view c.args.self.now) (placings_of e) (decide (site_of c.args.self.now.site) frames is_up (view c.args.self.now) c.args.random.now e) c.join.result) (sym c.in-Join.is)
    (c.join.ensures frames is_up c.args.random.now)

pub returns-in-Join-clause-fits : goal.returns-in-Join-clause-fits
returns-in-Join-clause-fits c = answer_fits c.args.self.now c.args.up c.args.random.now c.args.event.now (subst IsCalm (sym c.in-Join.is) tt) c.requires.valid c.join.result (returns-in-Join-clause-step c)

pub returns-in-Get-clause-step : goal.returns-in-Get-clause-step
returns-in-Get-clause-step c = λ frames is_up up.
    subst (λ (e : Event). IsStep (view c.args.self.now) (placings_of e) (decide (site_of c.args.self.now.site) frames is_up (view c.args.self.now) c.args.random.now e) c.get.result) (sym c.in-Get.is)
    (c.get.ensures frames is_up c.args.random.now)

pub returns-in-Get-clause-fits : goal.returns-in-Get-clause-fits
returns-in-Get-clause-fits c = answer_fits c.args.self.now c.args.up c.args.random.now c.args.event.now (subst IsCalm (sym c.in-Get.is) tt) c.requires.valid c.get.result (returns-in-Get-clause-step c)

pub returns-in-Close-clause-step : goal.returns-in-Close-clause-step
returns-in-Close-clause-step c = λ frames is_up up.
    subst (λ (e : Event). IsStep (view c.args.self.now) (placings_of e) (decide (site_of c.args.self.now.site) frames is_up (view c.args.self.now) c.args.random.now e) c.close.result) (sym c.in-Close.is)
    (c.close.ensures frames is_up c.args.random.now)

pub returns-in-Close-clause-fits : goal.returns-in-Close-clause-fits
returns-in-Close-clause-fits c = answer_fits c.args.self.now c.args.up c.args.random.now c.args.event.now (subst IsCalm (sym c.in-Close.is) tt) c.requires.valid c.close.result (returns-in-Close-clause-step c)

pub returns-in-Show-clause-step : goal.returns-in-Show-clause-step
returns-in-Show-clause-step c = λ frames is_up up.
    subst (λ (e : Event). IsStep (view c.args.self.now) (placings_of e) (decide (site_of c.args.self.now.site) frames is_up (view c.args.self.now) c.args.random.now e) c.show.result) (sym c.in-Show.is)
    (c.show.ensures frames is_up c.args.random.now)

pub returns-in-Show-clause-fits : goal.returns-in-Show-clause-fits
returns-in-Show-clause-fits c = answer_fits c.args.self.now c.args.up c.args.random.now c.args.event.now (subst IsCalm (sym c.in-Show.is) tt) c.requires.valid c.show.result (returns-in-Show-clause-step c)

pub returns-in-Ledger-clause-step : goal.returns-in-Ledger-clause-step
returns-in-Ledger-clause-step c = λ frames is_up up.
    subst (λ (e : Event). IsStep (view c.args.self.now) (placings_of e) (decide (site_of c.args.self.now.site) frames is_up (view c.args.self.now) c.args.random.now e) (Ok c.ledger.result)) (sym c.in-Ledger.is)
    (c.ledger.ensures frames is_up c.args.random.now)

pub returns-in-Ledger-clause-fits : goal.returns-in-Ledger-clause-fits
returns-in-Ledger-clause-fits c = answer_fits c.args.self.now c.args.up c.args.random.now c.args.event.now (subst IsCalm (sym c.in-Ledger.is) tt) c.requires.valid (Ok c.ledger.result) (returns-in-Ledger-clause-step c)

pub returns-in-FillGroup-clause-step : goal.returns-in-FillGroup-clause-step
returns-in-FillGroup-clause-step c = λ frames is_up up.
    subst (λ (e : Event). IsStep (view c.args.self.now) (placings_of e) (decide (site_of c.args.self.now.site) frames is_up (view c.args.self.now) c.args.random.now e) c.fill_group.result) (sym c.in-FillGroup.is)
    (subst (λ (x : List ℕ). IsStep (view c.args.self.now) [] (decide (site_of c.args.self.now.site) frames is_up (view c.args.self.now) c.args.random.now (events.FillGroup c.in-FillGroup.master x c.in-FillGroup.bits c.in-FillGroup.count)) c.fill_group.result) c.as_slice-in-FillGroup.ensures (c.fill_group.ensures frames is_up up))

pub returns-in-FillGroup-clause-fits : goal.returns-in-FillGroup-clause-fits
returns-in-FillGroup-clause-fits c = answer_fits c.args.self.now c.args.up c.args.random.now c.args.event.now (subst IsCalm (sym c.in-FillGroup.is) tt) c.requires.valid c.fill_group.result (returns-in-FillGroup-clause-step c)

pub returns-in-EncGroup-clause-step : goal.returns-in-EncGroup-clause-step
returns-in-EncGroup-clause-step c = λ frames is_up up.
    subst (λ (e : Event). IsStep (view c.args.self.now) (placings_of e) (decide (site_of c.args.self.now.site) frames is_up (view c.args.self.now) c.args.random.now e) c.enc_group.result) (sym c.in-EncGroup.is)
    (subst (λ (x : List ℕ). IsStep (view c.args.self.now) [] (decide (site_of c.args.self.now.site) frames is_up (view c.args.self.now) c.args.random.now (events.EncGroup c.in-EncGroup.master x c.in-EncGroup.number c.in-EncGroup.bits)) c.enc_group.result) c.as_slice-in-EncGroup.ensures (c.enc_group.ensures frames is_up c.args.random.now))

pub returns-in-EncGroup-clause-fits : goal.returns-in-EncGroup-clause-fits
returns-in-EncGroup-clause-fits c = answer_fits c.args.self.now c.args.up c.args.random.now c.args.event.now (subst IsCalm (sym c.in-EncGroup.is) tt) c.requires.valid c.enc_group.result (returns-in-EncGroup-clause-step c)

pub returns-in-Note-clause-fits : goal.returns-in-Note-clause-fits
returns-in-Note-clause-fits c =
    answer_fits c.args.self.now c.args.up c.args.random.now c.args.event.now (subst IsCalm (sym c.in-Note.is) tt) c.requires.valid (Ok c.note.result) (λ frames is_up up.
    subst (λ (e : Event). IsStep (view c.args.self.now) (placings_of e) (decide (site_of c.args.self.now.site) frames is_up (view c.args.self.now) c.args.random.now e) (Ok c.note.result)) (sym c.in-Note.is)
    (c.note.ensures (site_of c.args.self.now.site) frames is_up (view c.args.self.now) c.args.random.now c.in-Note.placings))
