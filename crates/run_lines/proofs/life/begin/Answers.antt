use Rattle.std.proofs.Common.{◌∙◌, List, refl, sym, ap}
use Rattle.declared_site.specs.declared.site.Site.{Site as SiteValue}
use Rattle.run_types.specs.declared.item.Item.{Item}
use Rattle.run_model.specs.Script.{Reports, Ends}
use Rattle.run_model.specs.Lines.{begun}
use Rattle.run_lines.proofs.Going.{Ways, begun as begun_short, asked_ends, asked_stops, asked_told}
use Rattle.run_lines.proofs.life.begin.Goals as goal

pub returns-in-Err-clause-runs : goal.returns-in-Err-clause-runs
returns-in-Err-clause-runs g c = λ net w ready.
    let ways : Ways g.S.Acts.stands g.S.Acts.rests g.S.Acts.tallied = record { rest = g.met.S.Acts.comes_to_rest; none = g.met.S.Acts.none_tallied; more = g.met.S.Acts.more_tallied } in
    begun_short _ _ _ ways _ c.args.number net _ _ _ w _ _ (c.in-Err.ensures.left net w ready)

pub returns-in-Ok-Started-clause-runs : goal.returns-in-Ok-Started-clause-runs
returns-in-Ok-Started-clause-runs g c = λ net w ready.
    let ways : Ways g.S.Acts.stands g.S.Acts.rests g.S.Acts.tallied = record { rest = g.met.S.Acts.comes_to_rest; none = g.met.S.Acts.none_tallied; more = g.met.S.Acts.more_tallied } in
    let done = c.in-Ok-Started.ensures.done net w ready in
    asked_ends _ _ _ ways _ c.args.number net _ _ _ w _ _ begun (rw c.in-Ok-Started.field-0-is at done) refl refl

pub returns-in-Ok-WasUp-clause-runs : goal.returns-in-Ok-WasUp-clause-runs
returns-in-Ok-WasUp-clause-runs g c = λ net w ready.
    let ways : Ways g.S.Acts.stands g.S.Acts.rests g.S.Acts.tallied = record { rest = g.met.S.Acts.comes_to_rest; none = g.met.S.Acts.none_tallied; more = g.met.S.Acts.more_tallied } in
    let done = c.in-Ok-WasUp.ensures.done net w ready in
    asked_ends _ _ _ ways _ c.args.number net _ _ _ w _ _ begun (rw c.in-Ok-WasUp.field-0-is at done) refl refl

pub returns-in-Ok-Memory-clause-runs : goal.returns-in-Ok-Memory-clause-runs
returns-in-Ok-Memory-clause-runs g c = λ net w ready.
    let ways : Ways g.S.Acts.stands g.S.Acts.rests g.S.Acts.tallied = record { rest = g.met.S.Acts.comes_to_rest; none = g.met.S.Acts.none_tallied; more = g.met.S.Acts.more_tallied } in
    let done = c.in-Ok-Memory.ensures.done net w ready in
    asked_stops _ _ _ ways _ c.args.number net _ _ _ w _ _ begun (rw c.in-Ok-Memory.field-0-is at done) refl

pub returns-in-Ok-Stopped-clause-runs : goal.returns-in-Ok-Stopped-clause-runs
returns-in-Ok-Stopped-clause-runs g c = λ net w ready.
    let ways : Ways g.S.Acts.stands g.S.Acts.rests g.S.Acts.tallied = record { rest = g.met.S.Acts.comes_to_rest; none = g.met.S.Acts.none_tallied; more = g.met.S.Acts.more_tallied } in
    let done = c.in-Ok-Stopped.ensures.done net w ready in
    asked_told _ _ _ ways _ c.args.number net _ _ _ _ w _ _ begun _ _ _ (rw c.in-Ok-Stopped.field-0-is at done) refl
    (ap (λ (xs : List Item). Reports xs Ends) (sym c.start_item-item.ensures))
    (ap (λ (s : SiteValue). s.nodes) (c.declared.ensures ∙ c.in-Ok-Stopped.ensures.site)) c.write_item.ensures.wrote

pub returns-in-Ok-Foreign-clause-runs : goal.returns-in-Ok-Foreign-clause-runs
returns-in-Ok-Foreign-clause-runs g c = λ net w ready.
    let ways : Ways g.S.Acts.stands g.S.Acts.rests g.S.Acts.tallied = record { rest = g.met.S.Acts.comes_to_rest; none = g.met.S.Acts.none_tallied; more = g.met.S.Acts.more_tallied } in
    let done = c.in-Ok-Foreign.ensures.done net w ready in
    asked_told _ _ _ ways _ c.args.number net _ _ _ _ w _ _ begun _ _ _ (rw c.in-Ok-Foreign.field-0-is at done) refl
    (ap (λ (xs : List Item). Reports xs Ends) (sym c.start_item-item-in-Ok-Foreign.ensures))
    (ap (λ (s : SiteValue). s.nodes) (c.declared-in-Ok-Foreign.ensures ∙ c.in-Ok-Foreign.ensures.site)) c.write_item-in-Ok-Foreign.ensures.wrote
