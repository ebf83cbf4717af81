use Rattle.std.proofs.Common.{◌≡◌, ◌<◌, ◌+◌, ◌-◌, ◌++◌, ℕ, List, take, drop, subst, get_or, set, length, ap, ◌∙◌, sym, vec_capacity, arith, rules}
use Rattle.std.proofs.lemmas.List.{length-drop, take_all}
use Rattle.disk_model.specs.History.{octets_of, EndWithin, kept_of}
use Rattle.disk_model.specs.declared.arm.Image.TheVariants.{Lost}
use Rattle.disk_model.specs.declared.history.Range.{Range}
use Rattle.disk_model.proofs.Histories.{ends_more}
use Rattle.disk_model.proofs.Redoing.{placed, redone_none, redone_more, fits_here, rest_long, bytes_whole, size_here, end_of, inside_of, ends_placed}
use Rattle.disk_model.proofs.history.redo.Goals as goal

abbrev none : Range
none = record { at = 0; len = 0; inside = 0; before = 0; state = Lost }

pub again-init : goal.again-init
again-init c = record {
  redone = redone_none c.args.content.now.items c.args.log.now c.args.writes.now c.args.saved.now.items c.requires.saved.0;
  size = c.requires.saved.1;
  ends = c.requires.ends;
  room = omega arith;
  saved_room = omega arith;
}

pub save-requires : goal.save-requires
save-requires c =
    let i = c.again.invariant in
    let fits = fits_here c.args.content.now.items c.args.log.now c.args.writes.now c.again.write-index c.again.writes c.again.saved.items c.again.content.items c.again.rest.now none i.redone c.again-test.true in
    record { room = omega (arith, fits, i.size, i.saved_room, c.requires.room) }

pub slice_bounds-hold-end : goal.slice_bounds-hold-end
slice_bounds-hold-end c =
    let i = c.again.invariant in
    sym (bytes_whole c.args.content.now.items c.args.log.now c.args.writes.now c.again.write-index c.again.writes c.again.saved.items c.again.content.items c.again.rest.now none i.redone c.again-test.true c.requires.log)

pub hold-requires-clause-end : goal.hold-requires-clause-end
hold-requires-clause-end c =
    let i = c.again.invariant in
    let whole = bytes_whole c.args.content.now.items c.args.log.now c.args.writes.now c.again.write-index c.again.writes c.again.saved.items c.again.content.items c.again.rest.now none i.redone c.again-test.true c.requires.log in
    let below : c.again.write-index < length c.again.writes = omega (arith, c.again-test.true, i.redone.long) in
    omega (arith, whole, end_of (vec_capacity c.again.content) c.again.writes c.again.write-index none below i.ends)

pub hold-requires-clause-inside : goal.hold-requires-clause-inside
hold-requires-clause-inside c =
    let i = c.again.invariant in
    let whole = bytes_whole c.args.content.now.items c.args.log.now c.args.writes.now c.again.write-index c.again.writes c.again.saved.items c.again.content.items c.again.rest.now none i.redone c.again-test.true c.requires.log in
    let below : c.again.write-index < length c.again.writes = omega (arith, c.again-test.true, i.redone.long) in
    omega (arith, whole, inside_of (vec_capacity c.again.content) c.again.writes c.again.write-index none below i.ends)

pub slice_bounds-rest-count : goal.slice_bounds-rest-count
slice_bounds-rest-count c =
    let i = c.again.invariant in
    omega (arith, rest_long c.args.content.now.items c.args.log.now c.args.writes.now c.again.write-index c.again.writes c.again.saved.items c.again.content.items c.again.rest.now none i.redone c.again-test.true c.requires.log)

pub slice_bounds-rest-start : goal.slice_bounds-rest-start
slice_bounds-rest-start c =
    let i = c.again.invariant in
    omega (arith, rest_long c.args.content.now.items c.args.log.now c.args.writes.now c.again.write-index c.again.writes c.again.saved.items c.again.content.items c.again.rest.now none i.redone c.again-test.true c.requires.log)

pub again-preserved : goal.again-preserved
again-preserved c =
    let i = c.again.invariant in
    let whole = bytes_whole c.args.content.now.items c.args.log.now c.args.writes.now c.again.write-index c.again.writes c.again.saved.items c.again.content.items c.again.rest.now none i.redone c.again-test.true c.requires.log in
    let below : c.again.write-index < length c.again.writes = omega (arith, c.again-test.true, i.redone.long) in
    let long = rest_long c.args.content.now.items c.args.log.now c.args.writes.now c.again.write-index c.again.writes c.again.saved.items c.again.content.items c.again.rest.now none i.redone c.again-test.true c.requires.log in
    let range = placed (get_or c.again.writes c.again.write-index none) (length c.again.content.items) in
    let size : c.len.result ≡ length c.again.content.items = search rules in
    let put = ap (λ (n : ℕ). set c.again.writes c.again.write-index (placed (get_or c.again.writes c.again.write-index none) n)) size in
    record {
      redone =
          redone_more c.args.content.now.items c.args.log.now c.args.writes.now c.again.write-index c.again.writes c.again.saved.items c.again.content.items c.again.rest.now none i.redone c.again-test.true _ _ _ _ whole put
          (c.save.ensures.kept ∙ ap (λ (l : List ℕ). c.again.saved.items ++ kept_of range.at range.len l) c.deref.ensures.value)
          c.hold.ensures.content
          (take_all (length c.again.rest.now - range.len) (drop range.len c.again.rest.now) (omega (arith, length-drop range.len c.again.rest.now)));
      size =
          c.save.ensures.len ∙ ap (λ n. n + range.len) i.size ∙ sym (size_here c.args.content.now.items c.args.log.now c.args.writes.now c.again.write-index c.again.writes c.again.saved.items c.again.content.items c.again.rest.now none i.redone c.again-test.true)
          ∙ ap (λ (l : List Range). octets_of (take (c.again.write-index + 1) l)) (sym put);
      ends = subst (λ (l : List Range). EndWithin (vec_capacity c.hold.new.content) l) (sym put)
          (ends_placed (vec_capacity c.hold.new.content) c.again.writes c.again.write-index none (length c.again.content.items) below
          (ends_more (vec_capacity c.again.content) (vec_capacity c.hold.new.content) c.again.writes c.hold.ensures.room i.ends));
      room = omega (arith, i.room, c.hold.ensures.room);
      saved_room = omega (arith, i.saved_room, c.save.ensures.room);
    }
