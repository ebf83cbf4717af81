use Rattle.std.proofs.Common.{ap, sym, ◌∙◌, List, Option}
use Rattle.std.specs.Prelude.{map}
use Rattle.relay_core.proofs.Firsts.{get_within}
use Rattle.resend_window.specs.declared.held.Held.{Held}
use Rattle.resend_window.specs.Slots.{passes, is_asked, edited}
use Rattle.resend_window.proofs.Lists.{map_set, turn_done, all_done}
use Rattle.resend_window.proofs.Edits.{edited_again, edited_kept}
use Rattle.resend_window.proofs.slots.change_all.Goals as goal

pub next_slot-requires : goal.next_slot-requires
next_slot-requires c = c.loop-place.invariant.listed.grouped

pub change_at-requires-clause-within : goal.change_at-requires-clause-within
change_at-requires-clause-within c = get_within c.loop-place.slots c.in-Some.place c.in-Some.ensures.first.item c.in-Some.ensures.first.there

pub loop-place-preserved : goal.loop-place-preserved
loop-place-preserved c =
    let first = c.in-Some.ensures.first in
    let f = edited c.args.query.now c.args.change.now in
    let e = c.change_at.ensures.slots first.item first.there in
    record {
      same = ap (λ (xs : List (Option Held)). map f xs) e ∙ map_set f c.loop-place.slots c.in-Some.place first.item first.there (edited_again c.args.query.now c.args.change.now first.item) ∙ c.loop-place.invariant.same;
      listed = c.change_at.ensures.listed;
      done = turn_done f (passes (is_asked c.args.query.now)) c.loop-place.slots c.change_at.new.slots c.loop-place.from c.in-Some.place
          (edited_again c.args.query.now c.args.change.now) (edited_kept c.args.query.now c.args.change.now) c.loop-place.invariant.done first e;
    }

pub returns-clause-slots : goal.returns-clause-slots
returns-clause-slots c =
    sym (all_done (edited c.args.query.now c.args.change.now) (passes (is_asked c.args.query.now)) c.loop-place.slots c.loop-place.from (edited_kept c.args.query.now c.args.change.now) c.loop-place.invariant.done
    c.in_default.ensures.none)
    ∙ c.loop-place.invariant.same
