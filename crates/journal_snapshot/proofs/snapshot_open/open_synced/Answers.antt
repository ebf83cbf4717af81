use Rattle.std.proofs.Common.{inl, ℕ, List, Bool, IsTrue, sym, ◌∙◌, ap, subst}
use Rattle.disk_model.proofs.Moments.{started, stands}
use Rattle.range_journal.specs.Header.{is_blank}
use Rattle.range_journal.proofs.Heads.{if_ok}
use Rattle.journal_snapshot.specs.Opening.{IsOpening, IsOpened}
use Rattle.journal_snapshot.specs.Snapshots.{SnapshotForm}
use Rattle.journal_snapshot.proofs.Openings.{looks, other_head}
use Rattle.journal_snapshot.proofs.snapshot_open.open_synced.Goals as goal

pub open_new-requires-clause-blank : goal.open_new-requires-clause-blank
open_new-requires-clause-blank g c =
    let content = g.K.Disk.content c.args.disk in
    let e = c.in-Ok.ensures in
    let r = c.read_head.ensures.reads in
    λ later.
    let h = subst (λ (b : Bool). IsTrue b) r.honest later in
    ap is_blank r.same ∙ sym (looks content c.in-Ok.head c.args.size c.min-count.result e.long (c.requires.long h) (e.head h) c.min-count.ensures) ∙ sym c.looks_blank.ensures ∙ c.if-looks_blank.true

pub returns-then-looks_blank-clause-batches : goal.returns-then-looks_blank-clause-batches
returns-then-looks_blank-clause-batches g c =
    let d = g.K.Disk in
    let r = c.read_head.ensures.reads in
    if_ok c.open_new.result _ (λ (s : SnapshotForm _). IsTrue (d.is_honest c.args.disk) → IsOpened (d.content c.args.disk) s.live s.batches)
    (λ s there h. subst (λ (o : List ℕ). IsOpened o s.live s.batches) r.same (there (subst (λ (b : Bool). IsTrue b) (sym r.honest) h))) c.open_new.ensures.batches

pub open_live-requires-clause-plain : goal.open_live-requires-clause-plain
open_live-requires-clause-plain g c =
    let content = g.K.Disk.content c.args.disk in
    let e = c.in-Ok.ensures in
    let r = c.read_head.ensures.reads in
    λ later.
    let h = subst (λ (b : Bool). IsTrue b) r.honest later in
    ap is_blank r.same ∙ sym (looks content c.in-Ok.head c.args.size c.min-count.result e.long (c.requires.long h) (e.head h) c.min-count.ensures) ∙ sym c.looks_blank.ensures ∙ c.if-looks_blank.false

pub returns-in-Err-clause-moments : goal.returns-in-Err-clause-moments
returns-in-Err-clause-moments g c =
    let d = g.K.Disk in
    let old = c.args.disk in
    let P : List ℕ → Type 0 = λ i. IsTrue (d.is_honest old) → IsOpening (d.content old) i in
    stands d.moment d.image old old c.read_head.new.disk P (started d.moment d.image old P (λ i now h. inl (c.requires.durable h i now))) c.read_head.ensures.reads.time

pub returns-in-Some-clause-moments : goal.returns-in-Some-clause-moments
returns-in-Some-clause-moments g c =
    let d = g.K.Disk in
    let old = c.args.disk in
    let P : List ℕ → Type 0 = λ i. IsTrue (d.is_honest old) → IsOpening (d.content old) i in
    stands d.moment d.image old old c.read_head.new.disk P (started d.moment d.image old P (λ i now h. inl (c.requires.durable h i now))) c.read_head.ensures.reads.time

pub returns-in-Some-clause-cause : goal.returns-in-Some-clause-cause
returns-in-Some-clause-cause g c =
    let content = g.K.Disk.content c.args.disk in
    let e = c.in-Ok.ensures in
    λ h. (
      sym (looks content c.in-Ok.head c.args.size c.min-count.result e.long (c.requires.long h) (e.head h) c.min-count.ensures) ∙ sym c.looks_blank.ensures ∙ c.if-looks_blank.false,
      inl (other_head content c.in-Ok.head c.in-Some.place (e.head h) c.in-Some.ensures),
    )

pub returns-in-None-clause-batches : goal.returns-in-None-clause-batches
returns-in-None-clause-batches g c =
    let d = g.K.Disk in
    let r = c.read_head.ensures.reads in
    if_ok c.open_live.result _ (λ (s : SnapshotForm _). IsTrue (d.is_honest c.args.disk) → IsOpened (d.content c.args.disk) s.live s.batches)
    (λ s there h. subst (λ (o : List ℕ). IsOpened o s.live s.batches) r.same (there (subst (λ (b : Bool). IsTrue b) (sym r.honest) h))) c.open_live.ensures.batches
