use Rattle.std.proofs.Common.{◌∙◌, sym, ap, refl}
use Rattle.std.specs.Prelude.{Result, Ok, Err, OnOk}
use Rattle.declared_site.specs.declared.site.Site.{Site as SiteValue}
use Rattle.run_model.specs.Outcomes.{http_items}
use Rattle.run_lines.specs.Answering.{asked_for}
use Rattle.run_lines.proofs.Going.{Ways, stops_here, unasked_told, asked_stops, one_asked}
use Rattle.run_lines.proofs.http_lines.http.Goals as goal

pub returns-clause-runs : goal.returns-clause-runs
returns-clause-runs g c = λ http speaks net w ready.
    let ways : Ways g.S.Acts.stands g.S.Acts.rests g.S.Acts.tallied = record { rest = g.met.S.Acts.comes_to_rest; none = g.met.S.Acts.none_tallied; more = g.met.S.Acts.more_tallied } in
    stops_here _ _ _ ways _ c.args.number net _ _ w _ ready

pub returns-in-Ok-AtOnce-clause-runs : goal.returns-in-Ok-AtOnce-clause-runs
returns-in-Ok-AtOnce-clause-runs g c = λ http speaks net w ready.
    let ways : Ways g.S.Acts.stands g.S.Acts.rests g.S.Acts.tallied = record { rest = g.met.S.Acts.comes_to_rest; none = g.met.S.Acts.none_tallied; more = g.met.S.Acts.more_tallied } in
    let asks = sym (c.in-Ok-AtOnce.ensures.asked http speaks) ∙ ap asked_for c.in-Ok-AtOnce.field-0-is in
    let wrote = c.write_item.ensures.wrote in
    rw asks
    (unasked_told _ _ _ ways _ c.args.number net _ _ _ w _ _ c.write_item.result ready (ap (λ (s : SiteValue). s.nodes) c.declared.ensures) (rw c.http_item-item.ensures.item at wrote))

pub returns-in-Ok-clause-runs : goal.returns-in-Ok-clause-runs
returns-in-Ok-clause-runs g c = λ http speaks net w ready.
    let ways : Ways g.S.Acts.stands g.S.Acts.rests g.S.Acts.tallied = record { rest = g.met.S.Acts.comes_to_rest; none = g.met.S.Acts.none_tallied; more = g.met.S.Acts.more_tallied } in
    let asks = sym (c.in-Ok-Event.ensures.asked http speaks) ∙ ap asked_for c.in-Ok-Event.field-0-is in
    let done = c.ask-reply.ensures.done net w ready in
    let response = http.response c.in-Ok-Event.event in
    rw asks
    (one_asked _ _ _ ways _ c.args.number net _ _ _ _ w _ _ (http_items c.args.node response) _ _ c.write_item-in-Ok.result done refl
    (c.http_item-item-in-Ok.ensures.replied response c.ask-reply.result (sym (c.in-Ok.ensures http speaks))) (ap (λ (s : SiteValue). s.nodes) (c.declared-in-Ok.ensures ∙ c.ask-reply.ensures.site))
    c.write_item-in-Ok.ensures.wrote)

pub returns-in-Ok-Event-clause-runs : goal.returns-in-Ok-Event-clause-runs
returns-in-Ok-Event-clause-runs g c = λ http speaks net w ready.
    let ways : Ways g.S.Acts.stands g.S.Acts.rests g.S.Acts.tallied = record { rest = g.met.S.Acts.comes_to_rest; none = g.met.S.Acts.none_tallied; more = g.met.S.Acts.more_tallied } in
    let asks = sym (c.in-Ok-Event.ensures.asked http speaks) ∙ ap asked_for c.in-Ok-Event.field-0-is in
    let done = c.ask-reply.ensures.done net w ready in
    rw asks (asked_stops _ _ _ ways _ c.args.number net _ _ _ w _ _ _ done refl)

pub returns-in-Ok-clause-ready : goal.returns-in-Ok-clause-ready
returns-in-Ok-clause-ready g c =
    let q = c.requires.ready in
    let done = c.ask-reply.ensures.done q.0 q.1 q.2 in
    anyhow c.write_item-in-Ok.result (q.0, _, done.ready)
  where
    anyhow : {T E P : Type 0} (result : Result T E) → P → OnOk result P
    anyhow (Ok answer) is = is
    anyhow (Err stop) is = tt
