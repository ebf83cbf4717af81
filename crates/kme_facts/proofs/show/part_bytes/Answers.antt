use Rattle.std.proofs.Common.{◌∙◌, sym, ap}
use Rattle.std.specs.Prelude.{◌&&◌, slice_get}
use Rattle.std.specs.Option.{option_copied}
use Rattle.net_model.specs.Table.{is_part_of, bytes_of}
use Rattle.relay_core.specs.Knowledge.{Knowledge}
use Rattle.end_store.specs.Pooled.{ends_view}
use Rattle.kme_facts.specs.declared.part_test.PartTest.TheVariants.{NeededHere}
use Rattle.kme_facts.specs.Parts.{passes}
use Rattle.kme_facts.proofs.Parted.{no_bytes, some_bytes, ok_same}
use Rattle.kme_facts.proofs.show.part_bytes.Goals as goal

pub returns-in-None : goal.returns-in-None
returns-in-None c = no_bytes (ends_view c.args.ends.now) (λ f. is_part_of c.args.key f && passes (ends_view c.args.ends.now) NeededHere f) c.new.result c.in-None.ensures.none c.new.ensures

pub returns-in-Some-at : goal.returns-in-Some-at
returns-in-Some-at c =
    let there = sym (ap (λ (k : Knowledge). slice_get k.facts c.in-Some.place) c.known.ensures) ∙ sym c.at.ensures ∙ ap option_copied c.in-Some-at.is in
    ok_same c.octets.result (bytes_of c.in-Some-at.fact.now) _ c.octets.ensures
    (some_bytes (ends_view c.args.ends.now) (λ f. is_part_of c.args.key f && passes (ends_view c.args.ends.now) NeededHere f) c.in-Some.place c.in-Some-at.fact.now c.in-Some.ensures.first there)
