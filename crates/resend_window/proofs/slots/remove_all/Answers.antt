use Rattle.std.proofs.Common.{ap, sym, subst, ◌∙◌, List, Option, None, ◌≡◌}
use Rattle.std.specs.Prelude.{map, slice_set}
use Rattle.relay_core.proofs.Firsts.{get_within}
use Rattle.resend_window.specs.declared.held.Held.{Held}
use Rattle.resend_window.specs.Slots.{passes, is_asked, removed}
use Rattle.resend_window.proofs.Lists.{map_set, turn_done, all_done}
use Rattle.resend_window.proofs.Edits.{removed_again, removed_kept, removed_hit}
use Rattle.resend_window.proofs.slots.remove_all.Goals as goal

pub next_slot-requires : goal.next_slot-requires
next_slot-requires c = c.loop-place.invariant.listed.grouped

pub remove_at-requires-clause-within : goal.remove_at-requires-clause-within
remove_at-requires-clause-within c = get_within c.loop-place.slots c.in-Some.place c.in-Some.ensures.first.item c.in-Some.ensures.first.there

pub loop-place-preserved : goal.loop-place-preserved
loop-place-preserved c =
    let first = c.in-Some.ensures.first in
    let f = removed (is_asked c.args.query.now) in
    let e = c.remove_at.ensures.slots ∙ ap (slice_set c.loop-place.slots c.in-Some.place) (sym (removed_hit (is_asked c.args.query.now) first.item first.passes)) in
    record {
      same = ap (map f) e ∙ map_set f c.loop-place.slots c.in-Some.place first.item first.there (removed_again (is_asked c.args.query.now) first.item) ∙ c.loop-place.invariant.same;
      done = turn_done f (passes (is_asked c.args.query.now)) c.loop-place.slots c.remove_at.new.slots c.loop-place.from c.in-Some.place (removed_again (is_asked c.args.query.now))
          (removed_kept (is_asked c.args.query.now)) c.loop-place.invariant.done first e;
      listed = c.remove_at.ensures.listed;
    }

pub returns-clause-slots : goal.returns-clause-slots
returns-clause-slots c =
    sym (all_done (removed (is_asked c.args.query.now)) (passes (is_asked c.args.query.now)) c.loop-place.slots c.loop-place.from (removed_kept (is_asked c.args.query.now)) c.loop-place.invariant.done c.in_default.ensures.none)
    ∙ c.loop-place.invariant.same
