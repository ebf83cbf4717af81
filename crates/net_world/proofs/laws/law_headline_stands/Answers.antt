use Rattle.net_world.specs.Reading.{batches_on}
use Rattle.net_world.specs.Shown.{shown_by}
use Rattle.net_world.proofs.laws.law_headline_stands.Goals as goal
use Rattle.world_state.specs.Outside.{outside}

pub returns-clause-whatever : goal.returns-clause-whatever
returns-clause-whatever g c old new words scenario before after stop h =
    let texts = c.law_texts_exist.ensures scenario.site.nodes scenario.site.entitlements in
    let course = h texts.0 texts.1 in
    (texts.0, texts.1, course.0, course.1)

pub returns-clause-honest : goal.returns-clause-honest
returns-clause-honest g c old new words scenario before after stop h honest =
    let texts = c.law_texts_exist.ensures scenario.site.nodes scenario.site.entitlements in
    let course = h texts.0 texts.1 in (
      texts.0,
      texts.1,
      course.0,
      course.1.begin,
      course.1.holds batches_on
          (shown_by (outside g.K.Disk g.Q.Device g.E.Entropy g.X.Wire) old new)
          c.law_disks_are_read.ensures (c.law_bench_is_shown.ensures old new honest),
    )
