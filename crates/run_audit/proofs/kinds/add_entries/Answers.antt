use Rattle.std.proofs.Common.{List, refl, arith}
use Rattle.std.specs.List.{flat_map}
use Rattle.std.specs.Ordering.{nat_cmp}
use Rattle.std.specs.BTreeMap.{get}
use Rattle.run_types.specs.declared.entry.Entry.{Entry}
use Rattle.run_audit.specs.Kinds.{kinds_of}
use Rattle.run_audit.specs.Kept.{found_or}
use Rattle.run_audit.proofs.Lining.{one_more, all_done}
use Rattle.run_audit.proofs.kinds.add_entries.Goals as goal

pub loop-entry-preserved : goal.loop-entry-preserved
loop-entry-preserved c =
    one_more (λ (entries : List Entry). flat_map kinds_of entries) (kinds_of c.entry-item.result)
    (λ number behind. found_or (get nat_cmp c.add_entry.new.kinds number) number behind)
    (λ number behind. found_or (get nat_cmp c.loop-entry.kinds number) number behind)
    (λ number behind. found_or (get nat_cmp c.args.kinds.now number) number behind)
    c.args.entries.now c.loop-entry.entry-index c.entry-item.result c.entry-item.result (omega arith) c.entry-item.is (λ ys. refl)
    (c.in_ok-add_entry.ensures {u = tt}) c.loop-entry.invariant

pub returns : goal.returns
returns c =
    all_done (λ (entries : List Entry). flat_map kinds_of entries)
    (λ number behind. found_or (get nat_cmp c.loop-entry.kinds number) number behind)
    (λ number behind. found_or (get nat_cmp c.args.kinds.now number) number behind)
    c.args.entries.now c.loop-entry.entry-index (omega arith) refl c.loop-entry.invariant
