use Rattle.std.proofs.Common.{List, refl, arith}
use Rattle.std.specs.List.{flat_map}
use Rattle.std.specs.Ordering.{nat_cmp}
use Rattle.std.specs.BTreeMap.{get}
use Rattle.std.specs.Prelude.{length}
use Rattle.std.proofs.lemmas.Option.{slice_get_read}
use Rattle.run_types.specs.declared.entry.Entry.{Entry}
use Rattle.whole_audit.specs.Lines.{lines_in}
use Rattle.whole_audit.specs.Kept.{found_or}
use Rattle.whole_audit.proofs.Lining.{one_more}
use Rattle.whole_audit.proofs.lines.add_entries.Goals as goal

pub loop-place-preserved : goal.loop-place-preserved
loop-place-preserved c =
    one_more (λ (entries : List Entry). flat_map lines_in entries) (lines_in c.index-entries-place.result)
    (λ number behind. found_or c.args.entries.now (get nat_cmp c.add_entry.new.spots number) number behind)
    (λ number behind. found_or c.args.entries.now (get nat_cmp c.loop-place.spots number) number behind)
    (λ number behind. found_or c.args.entries.now (get nat_cmp c.args.spots.now number) number behind)
    c.args.entries.now c.loop-place.place c.index-entries-place.result c.index-entries-place.result (omega arith) c.index-entries-place.is (λ ys. refl)
    (c.in_ok-add_entry.ensures {u = tt} c.args.entries.now (slice_get_read c.args.entries.now (length c.args.entries.now) c.loop-place.place c.index-entries-place.result refl (omega arith) c.index-entries-place.is))
    c.loop-place.invariant
