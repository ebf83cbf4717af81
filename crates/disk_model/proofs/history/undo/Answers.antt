use Rattle.std.proofs.Common.{List, take, drop, get_or, ℕ, length, ap, ◌-◌, ◌∙◌, sym, arith}
use Rattle.std.proofs.lemmas.List.{length-drop, take_all}
use Rattle.disk_model.specs.History.{octets_of, undone, laid_back}
use Rattle.disk_model.specs.declared.arm.Image.TheVariants.{Lost}
use Rattle.disk_model.specs.declared.history.Range.{Range}
use Rattle.disk_model.proofs.Histories.{octets_here, undone_here, end_here, octets_take}
use Rattle.disk_model.proofs.history.undo.Goals as goal

abbrev none : Range
none = record { at = 0; len = 0; inside = 0; before = 0; state = Lost }

pub back-init : goal.back-init
back-init c =
    let all = take_all (length c.args.writes.now) c.args.writes.now (omega arith) in
    record {
      content = ap (λ w. undone w c.args.saved.now c.args.content.now.items) all;
      place = omega arith;
      end = c.requires.saved ∙ ap octets_of (sym all);
      room = omega arith;
    }

pub overflow_sub-end : goal.overflow_sub-end
overflow_sub-end c =
    let i = c.back.invariant in
    omega (arith, octets_here c.args.writes.now c.back.place none i.place c.back-test.true, i.end)

pub slice_bounds-lay_back-count : goal.slice_bounds-lay_back-count
slice_bounds-lay_back-count c =
    let i = c.back.invariant in
    omega (arith, octets_take c.back.place c.args.writes.now, i.end, c.requires.saved)

pub slice_bounds-lay_back-start : goal.slice_bounds-lay_back-start
slice_bounds-lay_back-start c =
    let i = c.back.invariant in
    omega (arith, octets_take c.back.place c.args.writes.now, i.end, c.requires.saved)

pub lay_back-requires-clause-end : goal.lay_back-requires-clause-end
lay_back-requires-clause-end c =
    let i = c.back.invariant in
    omega (arith, end_here c.args.writes.now c.back.place none i.place c.back-test.true _ c.requires.ends, i.room)

pub lay_back-requires-clause-saved : goal.lay_back-requires-clause-saved
lay_back-requires-clause-saved c =
    let i = c.back.invariant in
    let here = octets_here c.args.writes.now c.back.place none i.place c.back-test.true in
    omega (arith, here, octets_take c.back.place c.args.writes.now, i.end, c.requires.saved, length-drop (c.back.end - (get_or c.args.writes.now (c.back.place - 1) none).len) c.args.saved.now)

pub back-preserved : goal.back-preserved
back-preserved c =
    let i = c.back.invariant in
    let e = c.lay_back.ensures in
    let range = get_or c.args.writes.now (c.back.place - 1) none in
    let start = c.back.end - range.len in
    record {
      content =
          ap (λ x. undone (take (c.back.place - 1) c.args.writes.now) c.args.saved.now x) e.content
          ∙ ap (λ (l : List ℕ). undone (take (c.back.place - 1) c.args.writes.now) c.args.saved.now (laid_back range l c.back.content.items)) (take_all (length c.args.saved.now - start) (drop start c.args.saved.now) (omega (arith, length-drop start c.args.saved.now)))
          ∙ undone_here c.args.writes.now c.back.place none i.place c.back-test.true c.back.end c.args.saved.now c.back.content.items i.end
          ∙ i.content;
      place = omega (arith, i.place);
      end = omega (arith, octets_here c.args.writes.now c.back.place none i.place c.back-test.true, i.end);
      room = omega (arith, i.room, e.room);
    }
