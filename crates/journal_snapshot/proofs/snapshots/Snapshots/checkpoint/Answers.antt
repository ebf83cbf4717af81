use Rattle.std.proofs.Common.{◌≡◌, ◌⊎◌, inl, ℕ, List, [], Bool, IsTrue, sym, ◌∙◌, ap, subst}
use Rattle.disk_model.specs.Images.{AtEachMoment}
use Rattle.net_model.specs.Journal.{checkpoint_place}
use Rattle.journal_snapshot.specs.Standing.{Holds}
use Rattle.journal_snapshot.specs.Snapshots.{SnapshotForm, journal_of, moved_to, need_of}
use Rattle.journal_snapshot.specs.Refused.{disk_after, IsFinished}
use Rattle.journal_snapshot.specs.Checkpoint.{IsReady, IsStage}
use Rattle.journal_snapshot.proofs.Checkpoints.{ready}
use Rattle.journal_snapshot.proofs.Finishing.{begins_before, room_now, results_now, place_whole, journal_after, still_only, first_moments, all_moments}
use Rattle.journal_snapshot.proofs.snapshots.Snapshots.checkpoint.Goals as goal

pub prepared-requires-clause-before : goal.prepared-requires-clause-before
prepared-requires-clause-before g c =
    begins_before (journal_of c.args.self) c.need-need.result c.place-place.result c.length.result c.begins-at.result c.place-place.ensures c.begins-at.ensures

pub finish-requires-clause-ready : goal.finish-requires-clause-ready
finish-requires-clause-ready g c =
    let d = g.K.Disk in
    let in_it = c.self.inside in
    let old = in_it.journal.disk in
    let mid = c.prepared.new.journal.disk in
    let e = c.prepared.ensures in
    let o = c.in-Ok.ensures in
    λ later.
    let h = subst (λ (b : Bool). IsTrue b) e.honest later in
    let kept = c.self.invariant.kept h in
    let r = results_now (journal_of c.args.self) c.args.batches.now c.need-need.result c.place-place.result c.requires c.need-need.ensures c.place-place.ensures
    in_it.live in_it.journal.batches c.in-Ok.draft.batches.items (d.content old) (d.image old (d.moment old)) in_it.older c.begins-at.result c.length.result c.in-Ok.draft.block.items
    (sym (ap journal_of c.self.view_is)) c.length.ensures c.begins-at.ensures o.batches o.block kept (c.self.invariant.mark h) in
    let was = ready (d.content old) in_it.live in_it.journal.batches c.in-Ok.draft.batches.items (d.image mid (d.moment mid)) in_it.older c.begins-at.result c.place-place.result c.in-Ok.draft.block.items
    (λ i im. still_only d.is_honest d.content d.moment d.image old mid e.time e.content kept.settled.only i im ∙ e.content) r in
    subst (λ (s : List ℕ). IsReady in_it.live in_it.older c.begins-at.result c.in-Ok.draft.block.items c.place-place.result c.in-Ok.draft.batches.items s (d.image mid (d.moment mid))) (sym e.content) was

pub finish-requires-clause-room : goal.finish-requires-clause-room
finish-requires-clause-room g c =
    let d = g.K.Disk in
    let in_it = c.self.inside in
    let o = c.in-Ok.ensures in
    room_now (journal_of c.args.self) c.args.batches.now c.need-need.result c.place-place.result c.requires c.need-need.ensures c.place-place.ensures
    in_it.live in_it.journal.batches c.in-Ok.draft.batches.items (d.content in_it.journal.disk) (d.image in_it.journal.disk (d.moment in_it.journal.disk)) in_it.older c.begins-at.result c.length.result c.in-Ok.draft.block.items
    (sym (ap journal_of c.self.view_is)) c.length.ensures c.begins-at.ensures o.batches o.block (d.allowance c.prepared.new.journal.disk) (d.allowance in_it.journal.disk) o.room

pub returns-in-Err-clause-moments : goal.returns-in-Err-clause-moments
returns-in-Err-clause-moments g c =
    let d = g.K.Disk in
    let in_it = c.self.inside in
    let old = in_it.journal.disk in
    let more = c.args.batches.now in
    let place = checkpoint_place (journal_of c.args.self) (need_of more) in
    let P : List ℕ → Type 0 = λ i. Holds in_it.live in_it.journal.batches [] i ⊎ Holds (moved_to in_it.live place) more [] i in
    let run = first_moments d.is_honest d.content d.moment d.image old c.prepared.new.journal.disk c.prepared.ensures.time P (λ h. (c.self.invariant.kept h).settled.only) (λ h. inl (c.self.invariant.kept h).holds) in
    subst (λ (w : SnapshotForm _). AtEachMoment d.moment d.image w.disk c.prepared.new.journal.disk (λ i. IsTrue (d.is_honest w.disk) → Holds w.live w.batches [] i ⊎ Holds (moved_to w.live place) more [] i)) c.self.view_is run

pub returns-in-Ok-clause-moments : goal.returns-in-Ok-clause-moments
returns-in-Ok-clause-moments g c =
    let d = g.K.Disk in
    let in_it = c.self.inside in
    let old = in_it.journal.disk in
    let mid = c.prepared.new.journal.disk in
    let new = disk_after c.finish.result in
    let e = c.prepared.ensures in
    let o = c.in-Ok.ensures in
    let more = c.args.batches.now in
    let place = checkpoint_place (journal_of c.args.self) (need_of more) in
    let place_is : c.place-place.result ≡ place = place_whole (journal_of c.args.self) more c.need-need.result c.place-place.result c.requires c.need-need.ensures c.place-place.ensures in
    let P : List ℕ → Type 0 = λ i. Holds in_it.live in_it.journal.batches [] i ⊎ Holds (moved_to in_it.live place) more [] i in
    let Q : List ℕ → Type 0 = λ i. IsStage in_it.live in_it.older c.begins-at.result c.in-Ok.draft.block.items c.place-place.result (d.content mid) i in
    let implies : (i : List ℕ) → IsTrue (d.is_honest old) → Q i → P i = λ i h q.
    let r = results_now (journal_of c.args.self) more c.need-need.result c.place-place.result c.requires c.need-need.ensures c.place-place.ensures
    in_it.live in_it.journal.batches c.in-Ok.draft.batches.items (d.content old) (d.image old (d.moment old)) in_it.older c.begins-at.result c.length.result c.in-Ok.draft.block.items
    (sym (ap journal_of c.self.view_is)) c.length.ensures c.begins-at.ensures o.batches o.block (c.self.invariant.kept h) (c.self.invariant.mark h) in
    let there = r.stages i (subst (λ (s : List ℕ). IsStage in_it.live in_it.older c.begins-at.result c.in-Ok.draft.block.items c.place-place.result s i) e.content q) in
    let placed = subst (λ (n : ℕ). Holds in_it.live in_it.journal.batches [] i ⊎ Holds (moved_to in_it.live n) c.in-Ok.draft.batches.items [] i) place_is there in
    subst (λ (l : List (List ℕ)). Holds in_it.live in_it.journal.batches [] i ⊎ Holds (moved_to in_it.live place) l [] i) o.batches placed in
    let run = all_moments d.is_honest d.content d.moment d.image old mid e.time P (λ h. (c.self.invariant.kept h).settled.only) (λ h. inl (c.self.invariant.kept h).holds) new Q e.honest implies c.finish.ensures.moments in
    subst (λ (w : SnapshotForm _). AtEachMoment d.moment d.image w.disk new (λ i. IsTrue (d.is_honest w.disk) → Holds w.live w.batches [] i ⊎ Holds (moved_to w.live place) more [] i)) c.self.view_is run

pub returns-in-Ok-clause-journal : goal.returns-in-Ok-clause-journal
returns-in-Ok-clause-journal g c =
    let in_it = c.self.inside in
    let more = c.args.batches.now in
    let place_is = place_whole (journal_of c.args.self) more c.need-need.result c.place-place.result c.requires c.need-need.ensures c.place-place.ensures in
    journal_after c.finish.result (journal_of c.args.self) in_it.live in_it.journal.batches more c.place-place.result (sym (ap journal_of c.self.view_is)) place_is
    (subst (λ (l : List (List ℕ)). IsFinished in_it.live l c.place-place.result c.finish.result) c.in-Ok.ensures.batches c.finish.ensures.answer)
