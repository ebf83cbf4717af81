use Rattle.std.proofs.Common.{◌≡◌}
use Rattle.net_model.specs.Table.{learned}
use Rattle.kme_facts.proofs.Taken.{told_ok, learned_view}
use Rattle.kme_facts.proofs.record_effects.learn.Goals as goal

pub returns-clause-view : goal.returns-clause-view
returns-clause-view c =
    let e = c.learn-new.ensures in
    let ok = e.room c.requires.room.facts in
    learned_view c.args.streams.now c.learn-new.new.self c.args.fact
    (told_ok c.learn-new.result (c.learn-new.new.self.ends.known.facts ≡ learned c.args.streams.now.ends.known.facts c.args.fact) e.facts ok) e.known.0 e.known.1 e.marks.0 e.marks.2
