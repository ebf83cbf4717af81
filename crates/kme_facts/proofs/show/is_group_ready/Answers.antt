use Rattle.net_model.specs.Table.{is_part_of}
use Rattle.std.specs.Prelude.{◌&&◌}
use Rattle.end_store.specs.Pooled.{ends_view}
use Rattle.kme_facts.specs.declared.part_test.PartTest.TheVariants.{Unconfirmed}
use Rattle.kme_facts.specs.Parts.{passes}
use Rattle.kme_facts.proofs.Parted.{found_any, group_ready}
use Rattle.kme_facts.proofs.show.is_group_ready.Goals as goal

pub returns : goal.returns
returns c =
    group_ready (ends_view c.args.ends.now) c.args.key c.is_none.result
    (found_any (λ f. is_part_of c.args.key f && passes (ends_view c.args.ends.now) Unconfirmed f) c.args.ends.now.known.facts c.first_part.result c.is_none.result c.first_part.ensures.first
    c.first_part.ensures.none c.is_none.ensures)
