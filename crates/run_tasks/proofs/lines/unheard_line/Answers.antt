use Rattle.std.proofs.Common.{◌≡◌, true, refl, rules, arith}
use Rattle.std.specs.Prelude.{Ok}
use Rattle.std.proofs.lemmas.Grind.{common_steps}
use Rattle.declared_site.specs.SiteOf.{site_of}
use Rattle.net_model.specs.Action.{Replies}
use Rattle.run_model.specs.Headline.{unknown}
use Rattle.run_ops.specs.Reported.{reported}
use Rattle.run_lines.specs.Commands.{acts_once}
use Rattle.run_lines.proofs.Going.{Ways, one_asked}
use Rattle.run_lines.proofs.Turning.{turn_fits, asked_fits, asked_script}
use Rattle.run_tasks.proofs.Telling.{unheard_took}
use Rattle.run_tasks.proofs.lines.unheard_line.Goals as goal

pub ask_for_keys-requires-clause-fit : goal.ask_for_keys-requires-clause-fit
ask_for_keys-requires-clause-fit g c =
    let once : acts_once c.args.command ≡ true = first_of (search rules, grind (arith, common_steps)) in
    let turn = c.in-Ok.ensures.turn in
    asked_fits (g.S.Acts.site c.args.net.now) c.args.command c.in-Ok.asked.node c.in-Ok.asked.event (reported c.in-Ok.asked.reporting)
    (turn_fits (g.S.Acts.site c.args.net.now) c.args.command once c.requires.fit) (rw c.declared.ensures at turn)

pub returns-in-Ok-clause-runs : goal.returns-in-Ok-clause-runs
returns-in-Ok-clause-runs g c = λ http net w ready.
    let ways : Ways g.S.Acts.stands g.S.Acts.rests g.S.Acts.tallied = record { rest = g.met.S.Acts.comes_to_rest; none = g.met.S.Acts.none_tallied; more = g.met.S.Acts.more_tallied } in
    let once : acts_once c.args.command ≡ true = first_of (search rules, grind (arith, common_steps)) in
    let turn = c.in-Ok.ensures.turn in
    let turn_here = rw c.declared.ensures at turn in
    let items = reported c.in-Ok.asked.reporting in
    let done = c.ask_for_keys.ensures.done net w ready in
    rw (asked_script http (site_of (g.S.Acts.site c.args.net.now)) c.args.command c.in-Ok.asked.node c.in-Ok.asked.event items once turn_here)
    (one_asked _ _ _ ways _ c.args.number net _ _ unknown unknown w _ (Replies done.0) items (items (Replies done.0)) _ (Ok (tt {0})) done.2 refl refl refl (unheard_took _))
