use Rattle.std.proofs.Common.{ap, sym, subst, ◌∙◌, List, Option, None, ◌≡◌}
use Rattle.std.specs.Prelude.{map, slice_set}
use Rattle.relay_core.proofs.Firsts.{get_within}
use Rattle.resend_window.specs.declared.arrival.Arrival.{Arrival}
use Rattle.resend_window.specs.Slots.{passes, removed}
use Rattle.resend_window.specs.Lists.{is_from}
use Rattle.resend_window.proofs.Lists.{map_set, turn_done, all_done}
use Rattle.resend_window.proofs.Edits.{removed_again, removed_kept, removed_hit}
use Rattle.resend_window.proofs.arrival.remove_all.Goals as goal

pub remove_at-requires-clause-within : goal.remove_at-requires-clause-within
remove_at-requires-clause-within c = get_within c.loop-place.pending c.in-Some.place c.in-Some.ensures.first.item c.in-Some.ensures.first.there

pub loop-place-preserved : goal.loop-place-preserved
loop-place-preserved c =
    let first = c.in-Some.ensures.first in
    let f = removed (is_from c.args.wanted.now) in
    let e = c.remove_at.ensures.slots ∙ ap (slice_set c.loop-place.pending c.in-Some.place) (sym (removed_hit (is_from c.args.wanted.now) first.item first.passes)) in
    record {
      same = ap (map f) e ∙ map_set f c.loop-place.pending c.in-Some.place first.item first.there (removed_again (is_from c.args.wanted.now) first.item) ∙ c.loop-place.invariant.same;
      done = turn_done f (passes (is_from c.args.wanted.now)) c.loop-place.pending c.remove_at.new.pending c.loop-place.from c.in-Some.place (removed_again (is_from c.args.wanted.now))
          (removed_kept (is_from c.args.wanted.now)) c.loop-place.invariant.done first e;
      index = c.remove_at.ensures.index;
    }

pub returns-clause-slots : goal.returns-clause-slots
returns-clause-slots c =
    sym (all_done (removed (is_from c.args.wanted.now)) (passes (is_from c.args.wanted.now)) c.loop-place.pending c.loop-place.from (removed_kept (is_from c.args.wanted.now)) c.loop-place.invariant.done c.in_default.ensures.none)
    ∙ c.loop-place.invariant.same
