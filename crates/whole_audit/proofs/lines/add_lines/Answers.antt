use Rattle.std.proofs.Common.{List, [], ◌∷◌, refl, ap, ◌∙◌, arith}
use Rattle.std.specs.Ordering.{nat_cmp}
use Rattle.std.specs.BTreeMap.{get}
use Rattle.std.proofs.lemmas.Option.{slice_get_read}
use Rattle.std.specs.Prelude.{Option, length}
use Rattle.run_types.specs.declared.line.Line.{Line}
use Rattle.run_types.specs.declared.entry.Entry.{Entry}
use Rattle.whole_audit.specs.Kept.{line_in_any, found_or}
use Rattle.whole_audit.proofs.Lining.{one_more}
use Rattle.whole_audit.proofs.lines.add_lines.Goals as goal

pub loop-place-preserved : goal.loop-place-preserved
loop-place-preserved c es block =
    one_more (λ (lines : List Line). lines) (c.index-lines-place.result ∷ [])
    (λ number behind. found_or es (get nat_cmp c.add.new.spots number) number behind)
    (λ number behind. found_or es (get nat_cmp c.loop-place.spots number) number behind)
    (λ number behind. found_or es (get nat_cmp c.args.spots.now number) number behind)
    c.args.lines.now c.loop-place.place c.index-lines-place.result c.index-lines-place.result (omega arith) c.index-lines-place.is (λ ys. refl)
    (c.in_ok-add.ensures {u = tt} es (ap (λ (e : Option Entry). line_in_any e c.loop-place.place) block ∙ slice_get_read c.args.lines.now (length c.args.lines.now) c.loop-place.place c.index-lines-place.result refl (omega arith) c.index-lines-place.is))
    (c.loop-place.invariant es block)
