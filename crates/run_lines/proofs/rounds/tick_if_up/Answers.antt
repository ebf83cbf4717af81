use Rattle.std.proofs.Common.{◌∙◌, sym}
use Rattle.run_lines.proofs.Going.{Ways}
use Rattle.run_lines.proofs.Turns.{up_ticked, down_unticked}
use Rattle.run_lines.proofs.rounds.tick_if_up.Goals as goal

pub returns-then-is_up-clause-runs : goal.returns-then-is_up-clause-runs
returns-then-is_up-clause-runs g c = λ net w ready.
    let ways : Ways g.S.Acts.stands g.S.Acts.rests g.S.Acts.tallied = record { rest = g.met.S.Acts.comes_to_rest; none = g.met.S.Acts.none_tallied; more = g.met.S.Acts.more_tallied } in
    up_ticked _ _ _ ways _ c.args.number net w _ _ _ _ _ _ _ (sym (c.is_up.ensures net w ready.stands) ∙ c.if-is_up.true) (c.tick.ensures.runs net w ready)

pub returns-else-is_up-clause-runs : goal.returns-else-is_up-clause-runs
returns-else-is_up-clause-runs g c = λ net w ready.
    let ways : Ways g.S.Acts.stands g.S.Acts.rests g.S.Acts.tallied = record { rest = g.met.S.Acts.comes_to_rest; none = g.met.S.Acts.none_tallied; more = g.met.S.Acts.more_tallied } in
    down_unticked _ _ _ ways _ c.args.number net w _ _ _ _ (sym (c.is_up.ensures net w ready.stands) ∙ c.if-is_up.false) ready
