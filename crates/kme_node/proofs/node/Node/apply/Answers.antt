use Rattle.std.proofs.Common.{◌≡◌, List, refl, sym, ap, ◌∙◌, subst}
use Rattle.net_model.specs.declared.record.Record.{Record}
use Rattle.net_model.specs.Fold.{view_after}
use Rattle.relay_core.specs.Knowledge.{Knowledge}
use Rattle.kme_base.specs.Steps.{IsEffect, placings_of, changed}
use Rattle.kme_node.specs.Holdings.{Holdings, Fits, view}
use Rattle.kme_node.specs.Ports.{ports_after}
use Rattle.kme_node.proofs.Applied.{held_still, known_is, sees_bare}
use Rattle.kme_node.proofs.After.{HasTaken, taken_view, taken_me, taken_lanes}
use Rattle.declared_site.specs.SiteOf.{site_of}
use Rattle.kme_relay.specs.UnderWay.{AreFronts, AreFrontsBut}
use Rattle.kme_node.proofs.Fronted.{left_after}
use Rattle.kme_node.proofs.Split.{bare}
use Rattle.kme_node.proofs.node.Node.apply.Goals as goal

pub invariant_of-self : goal.invariant_of-self
invariant_of-self c =
    let taken : HasTaken (record { site = c.self.inside.site; kept = c.self.inside.kept; ends = c.self.inside.ports; window = c.self.inside.window }) (record { site = c.self.inside.site; kept = c.apply.new.self; ends = c.plan_reply.new.ports; window = c.change_window.new.window }) (placings_of c.args.event.now) c.args.step = (record {
      fits = (subst (λ (h : Holdings). Fits h c.args.step) (sym c.self.view_is) c.requires.fits).orders;
      kept = c.apply.ensures.seen (bare (view (record { site = c.self.inside.site; kept = c.self.inside.kept; ends = c.self.inside.ports; window = c.self.inside.window }))) (sees_bare (record { site = c.self.inside.site; kept = c.self.inside.kept; ends = c.self.inside.ports; window = c.self.inside.window }));
      taken = c.take_batch.new.ports;
      batch = c.take_batch.ensures ∙ ap (λ (rs : List Record). ports_after rs c.self.inside.ports.ports) c.as_slice.ensures;
      planned = λ h is fits. c.plan_reply.ensures h is fits;
      life = c.change_window.ensures ∙ ap (λ (k : Knowledge). changed k.acked (placings_of c.args.event.now) c.args.step.reply c.args.step.change c.self.inside.window.volatile) (known_is (record { site = c.self.inside.site; kept = c.self.inside.kept; ends = c.self.inside.ports; window = c.self.inside.window }) c.streams.result.now c.ends.result.now c.known-known.result.now c.streams.ensures.streams c.ends.ensures c.known-known.ensures);
    }) in
    record {
      held = held_still (record { site = c.self.inside.site; kept = c.self.inside.kept; ends = c.self.inside.ports; window = c.self.inside.window }) (record { site = c.self.inside.site; kept = c.apply.new.self; ends = c.plan_reply.new.ports; window = c.change_window.new.window }) refl (taken_me _ _ _ _ taken) (taken_lanes _ _ _ _ taken) c.self.invariant.held;
      ahead = subst (λ (k : Knowledge). AreFronts (site_of c.self.inside.site) k.me k.acked k.facts c.change_window.new.window.volatile c.follow.new.self)
          (known_is (record { site = c.self.inside.site; kept = c.apply.new.self; ends = c.plan_reply.new.ports; window = c.change_window.new.window }) c.streams-2.result.now c.ends-2.result.now c.known-known-2.result.now c.streams-2.ensures.streams c.ends-2.ensures c.known-known-2.ensures) c.follow.ensures;
    }

pub returns-clause-view : goal.returns-clause-view
returns-clause-view c e is =
    let taken : HasTaken (record { site = c.self.inside.site; kept = c.self.inside.kept; ends = c.self.inside.ports; window = c.self.inside.window }) (record { site = c.self.inside.site; kept = c.apply.new.self; ends = c.plan_reply.new.ports; window = c.change_window.new.window }) (placings_of c.args.event.now) c.args.step = (record {
      fits = (subst (λ (h : Holdings). Fits h c.args.step) (sym c.self.view_is) c.requires.fits).orders;
      kept = c.apply.ensures.seen (bare (view (record { site = c.self.inside.site; kept = c.self.inside.kept; ends = c.self.inside.ports; window = c.self.inside.window }))) (sees_bare (record { site = c.self.inside.site; kept = c.self.inside.kept; ends = c.self.inside.ports; window = c.self.inside.window }));
      taken = c.take_batch.new.ports;
      batch = c.take_batch.ensures ∙ ap (λ (rs : List Record). ports_after rs c.self.inside.ports.ports) c.as_slice.ensures;
      planned = λ h is fits. c.plan_reply.ensures h is fits;
      life = c.change_window.ensures ∙ ap (λ (k : Knowledge). changed k.acked (placings_of c.args.event.now) c.args.step.reply c.args.step.change c.self.inside.window.volatile) (known_is (record { site = c.self.inside.site; kept = c.self.inside.kept; ends = c.self.inside.ports; window = c.self.inside.window }) c.streams.result.now c.ends.result.now c.known-known.result.now c.streams.ensures.streams c.ends.ensures c.known-known.ensures);
    }) in
    subst (λ (h : Holdings). IsEffect (view h) (placings_of c.args.event.now) e c.args.step → view (record { site = c.self.inside.site; kept = c.apply.new.self; ends = c.plan_reply.new.ports; window = c.change_window.new.window }) ≡ view_after (view h) e) c.self.view_is (taken_view _ _ _ _ taken e) is

pub follow-requires : goal.follow-requires
follow-requires c =
    subst (λ (k : Knowledge). AreFrontsBut c.args.step.change (site_of c.self.inside.site) k.me k.acked k.facts c.change_window.new.window.volatile c.self.inside.fronts)
    (sym (known_is (record { site = c.self.inside.site; kept = c.apply.new.self; ends = c.plan_reply.new.ports; window = c.change_window.new.window }) c.streams-2.result.now c.ends-2.result.now c.known-known-2.result.now c.streams-2.ensures.streams c.ends-2.ensures c.known-known-2.ensures))
    (left_after (record { site = c.self.inside.site; kept = c.self.inside.kept; ends = c.self.inside.ports; window = c.self.inside.window }) (placings_of c.args.event.now) c.args.step c.apply.new.self c.change_window.new.window.volatile c.self.inside.fronts
    (c.apply.ensures.seen (bare (view (record { site = c.self.inside.site; kept = c.self.inside.kept; ends = c.self.inside.ports; window = c.self.inside.window }))) (sees_bare (record { site = c.self.inside.site; kept = c.self.inside.kept; ends = c.self.inside.ports; window = c.self.inside.window })))
    (c.change_window.ensures ∙ ap (λ (k : Knowledge). changed k.acked (placings_of c.args.event.now) c.args.step.reply c.args.step.change c.self.inside.window.volatile)
    (known_is (record { site = c.self.inside.site; kept = c.self.inside.kept; ends = c.self.inside.ports; window = c.self.inside.window }) c.streams.result.now c.ends.result.now c.known-known.result.now c.streams.ensures.streams c.ends.ensures c.known-known.ensures))
    c.self.invariant.ahead)
