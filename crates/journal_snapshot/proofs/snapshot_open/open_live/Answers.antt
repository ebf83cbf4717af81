use Rattle.std.proofs.Common.{inl, ℕ, List, Bool, IsTrue, sym, ◌∙◌, subst}
use Rattle.disk_model.specs.Images.{AtEachMoment}
use Rattle.disk_model.proofs.Moments.{started, weaker}
use Rattle.range_journal.specs.Batches.{IsSettled}
use Rattle.journal_snapshot.specs.Opening.{IsOpening, IsOpened}
use Rattle.journal_snapshot.specs.Snapshots.{SnapshotForm}
use Rattle.journal_snapshot.proofs.Openings.{opened_there, kept_there, mark_there, field_there, closing_there, stopped_there}
use Rattle.journal_snapshot.proofs.snapshot_open.open_live.Goals as goal

pub over-requires-clause-kept : goal.over-requires-clause-kept
over-requires-clause-kept g c =
    let d = g.K.Disk in
    let r = c.requires in
    let e = c.in-Ok.ensures in
    let j = c.in-Ok.journal in
    λ later.
    let h = subst (λ (b : Bool). IsTrue b) e.honest later in
    kept_there (d.content c.args.disk) c.args.head.now c.read-live.result c.args.size (r.head h) c.read-live.ensures (r.may.long h) (d.content j.disk) (d.image j.disk (d.moment j.disk)) j.batches
    (r.plain h) (r.named h) c.in-None.ensures (e.batches h) (e.front later) (e.long later) (subst (λ (s : ℕ). IsSettled (d.content j.disk) (d.image j.disk (d.moment j.disk)) s j.batches) e.opened.0 (e.settled later))

pub over-requires-clause-mark : goal.over-requires-clause-mark
over-requires-clause-mark g c =
    let d = g.K.Disk in
    let r = c.requires in
    let e = c.in-Ok.ensures in
    let j = c.in-Ok.journal in
    λ later.
    let h = subst (λ (b : Bool). IsTrue b) e.honest later in
    mark_there (d.content c.args.disk) c.args.head.now c.read-live.result c.args.size (r.head h) c.read-live.ensures (r.may.long h) (d.content j.disk) j.batches
    (r.named h) c.in-None.ensures (e.batches h) (e.front later) ∙ sym c.has_open_mark.ensures

pub returns-in-Some-clause-cause : goal.returns-in-Some-clause-cause
returns-in-Some-clause-cause g c =
    let r = c.requires in
    λ h. field_there (g.K.Disk.content c.args.disk) c.args.head.now c.read-live.result c.args.size (r.head h) c.read-live.ensures (r.may.long h) c.in-Some.place (r.plain h) (r.named h) c.in-Some.ensures.0 c.in-Some.ensures.1

pub returns-in-Some-clause-moments : goal.returns-in-Some-clause-moments
returns-in-Some-clause-moments g c =
    let d = g.K.Disk in
    let old = c.args.disk in
    started d.moment d.image old (λ i. IsTrue (d.is_honest old) → IsOpening (d.content old) i) (λ i now h. inl (c.requires.may.durable h i now))

pub returns-in-Err-clause-cause : goal.returns-in-Err-clause-cause
returns-in-Err-clause-cause g c =
    let d = g.K.Disk in
    let old = c.args.disk in
    let r = c.requires in
    let why = c.in-Err.why in
    stopped_there (d.is_honest old) (d.content old) c.args.head.now c.read-live.result c.args.size r.head c.read-live.ensures r.may.long (d.faults old) (d.faults why.1) why.0 (λ h. (r.plain h, r.named h)) c.in-None.ensures c.in-Err.ensures.cause

pub returns-in-Err-clause-moments : goal.returns-in-Err-clause-moments
returns-in-Err-clause-moments g c =
    let d = g.K.Disk in
    let old = c.args.disk in
    let r = c.requires in
    let P : List ℕ → Type 0 = λ i. IsTrue (d.is_honest old) → IsOpening (d.content old) i in
    weaker d.moment d.image old c.in-Err.why.1 _ P c.in-Err.ensures.moments
    (λ i o h. closing_there (d.content old) c.args.head.now c.read-live.result c.args.size (r.head h) c.read-live.ensures (r.may.long h) i (r.plain h) (r.named h) c.in-None.ensures (o h))

pub returns-in-Ok-clause-batches : goal.returns-in-Ok-clause-batches
returns-in-Ok-clause-batches g c =
    let d = g.K.Disk in
    let r = c.requires in
    let e = c.in-Ok.ensures in
    λ h.
    let there = opened_there (d.content c.args.disk) c.args.head.now c.read-live.result c.args.size (r.head h) c.read-live.ensures (r.may.long h) c.in-Ok.journal.batches (r.plain h) (r.named h) c.in-None.ensures (e.batches h) in
    subst (λ (s : SnapshotForm _). IsOpened (d.content c.args.disk) s.live s.batches) (sym c.over.ensures) there

pub returns-in-Ok-clause-moments : goal.returns-in-Ok-clause-moments
returns-in-Ok-clause-moments g c =
    let d = g.K.Disk in
    let old = c.args.disk in
    let r = c.requires in
    let P : List ℕ → Type 0 = λ i. IsTrue (d.is_honest old) → IsOpening (d.content old) i in
    let run = weaker d.moment d.image old c.in-Ok.journal.disk _ P c.in-Ok.ensures.moments
    (λ i o h. closing_there (d.content old) c.args.head.now c.read-live.result c.args.size (r.head h) c.read-live.ensures (r.may.long h) i (r.plain h) (r.named h) c.in-None.ensures (o h)) in
    subst (λ (s : SnapshotForm _). AtEachMoment d.moment d.image old s.disk P) (sym c.over.ensures) run
