use Rattle.std.proofs.Common.{sym, ◌∙◌}
use Rattle.turnstile.specs.Names.{knows}
use Rattle.net_serve.proofs.Calls.{its_node, found_at, last_call, still_seated, places_rise}
use Rattle.net_serve.proofs.managers.ServedManagersManagers.ask.Goals as goal

pub returns-clause-fits : goal.returns-clause-fits
returns-clause-fits g c =
    let same = c.from-at.ensures ∙ c.get.ensures.number ∙ sym (its_node c.args.pass.now.node c.args.node (knows c.args.pass.now.seat).budget c.requires.budget) in
    let there = found_at _ _ _ _ _ c.requires.fits c.from-at.result c.index-self-at.result same in
    let h = c.call-place.ensures in
    still_seated _ _ _ _ _ c.requires.fits _ there c.args.event c.call-place.result.0 c.call-place.result.1 c.call-place.new.seat
    (record { fits = h.fits; before = h.history.0; begins = h.history.1; long = h.history.2; own = h.own; stands = h.stands; budget = h.budget })

pub returns-clause-event : goal.returns-clause-event
returns-clause-event g c = let h = last_call _ _ _ _ _ c.call-place.ensures.legal c.call-place.ensures.history.3 in h.2.1.event_is

pub returns-clause-place : goal.returns-clause-place
returns-clause-place g c =
    let same = c.from-at.ensures ∙ c.get.ensures.number ∙ sym (its_node c.args.pass.now.node c.args.node (knows c.args.pass.now.seat).budget c.requires.budget) in
    let there = found_at _ _ _ _ _ c.requires.fits c.from-at.result c.index-self-at.result same in
    let h = c.call-place.ensures in
    places_rise _ _ _ _ _ c.requires.fits _ there c.args.event c.call-place.result.0 c.call-place.result.1 c.call-place.new.seat
    (record { fits = h.fits; before = h.history.0; begins = h.history.1; long = h.history.2; own = h.own; stands = h.stands; budget = h.budget })
