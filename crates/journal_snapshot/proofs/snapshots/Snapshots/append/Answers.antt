use Rattle.std.proofs.Common.{◌≡◌, ℕ, List, Bool, false, IsTrue, ◌∙◌, subst}
use Rattle.disk_model.specs.Images.{AtEachMoment}
use Rattle.disk_model.proofs.Moments.{weaker}
use Rattle.range_journal.specs.Header.{is_blank}
use Rattle.journal_snapshot.specs.Standing.{HoldsOldOrOneMore}
use Rattle.journal_snapshot.specs.Snapshots.{SnapshotForm}
use Rattle.journal_snapshot.proofs.Appends.{append_images, append_kept, append_mark}
use Rattle.journal_snapshot.proofs.snapshots.Snapshots.append.Goals as goal

pub invariant_of-result : goal.invariant_of-result
invariant_of-result g c =
    let d = g.K.Disk in
    let j = c.self.inside.journal in
    let s = c.self.invariant in
    let new = c.in-Ok.journal in
    let e = c.in-Ok.ensures in
    record {
      at = e.answer.start ∙ s.at;
      kept = λ later.
          let h = subst (λ (b : Bool). IsTrue b) e.honest later in
          append_kept c.self.inside.live j.start j.batches c.args.batch.now (d.content j.disk) (d.image j.disk (d.moment j.disk)) s.at (s.kept h) (d.content new.disk) (d.image new.disk (d.moment new.disk)) new.batches new.start
          e.answer.start e.answer.batches (e.front later) e.full (e.settled later);
      mark = λ later.
          let h = subst (λ (b : Bool). IsTrue b) e.honest later in
          append_mark c.self.inside.live j.start j.batches c.args.batch.now (d.content j.disk) (d.image j.disk (d.moment j.disk)) s.at (s.kept h) (d.content new.disk) (d.image new.disk (d.moment new.disk)) new.batches new.start
          e.answer.start e.answer.batches (e.front later) c.self.inside.older (s.mark h);
    }

pub returns-in-Ok-clause-kept : goal.returns-in-Ok-clause-kept
returns-in-Ok-clause-kept g c =
    let d = g.K.Disk in
    let j = c.self.inside.journal in
    let s = c.self.invariant in
    let new = c.in-Ok.journal in
    let e = c.in-Ok.ensures in
    λ later.
    let h = subst (λ (b : Bool). IsTrue b) e.honest later in
    append_kept c.self.inside.live j.start j.batches c.args.batch.now (d.content j.disk) (d.image j.disk (d.moment j.disk)) s.at (s.kept h) (d.content new.disk) (d.image new.disk (d.moment new.disk)) new.batches new.start
    e.answer.start e.answer.batches (e.front later) e.full (e.settled later)

pub returns-in-Ok-clause-moments : goal.returns-in-Ok-clause-moments
returns-in-Ok-clause-moments g c =
    let d = g.K.Disk in
    let j = c.self.inside.journal in
    let s = c.self.invariant in
    let new = c.in-Ok.journal.disk in
    let P : List ℕ → Type 0 = λ i. IsTrue (d.is_honest j.disk) → (is_blank i ≡ false) × HoldsOldOrOneMore c.self.inside.live j.batches c.args.batch.now i in
    let run = weaker d.moment d.image j.disk new _ P c.in-Ok.ensures.moments (λ i o h.
    append_images c.self.inside.live j.start j.batches c.args.batch.now (d.content j.disk) (d.image j.disk (d.moment j.disk)) s.at (s.kept h) i (o h)) in
    subst (λ (w : SnapshotForm _). AtEachMoment d.moment d.image w.disk new (λ i. IsTrue (d.is_honest w.disk) → (is_blank i ≡ false) × HoldsOldOrOneMore w.live w.batches c.args.batch.now i)) c.self.view_is run

pub returns-in-Err-Spent-clause-moments : goal.returns-in-Err-Spent-clause-moments
returns-in-Err-Spent-clause-moments g c =
    let d = g.K.Disk in
    let j = c.self.inside.journal in
    let s = c.self.invariant in
    let new = c.in-Err-Spent.disk in
    let P : List ℕ → Type 0 = λ i. IsTrue (d.is_honest j.disk) → (is_blank i ≡ false) × HoldsOldOrOneMore c.self.inside.live j.batches c.args.batch.now i in
    let ran = rw c.in-Err-Spent.field-0-is at c.in-Err-Spent.ensures.moments in
    let run = weaker d.moment d.image j.disk new _ P ran (λ i o h.
    append_images c.self.inside.live j.start j.batches c.args.batch.now (d.content j.disk) (d.image j.disk (d.moment j.disk)) s.at (s.kept h) i (o h)) in
    subst (λ (w : SnapshotForm _). AtEachMoment d.moment d.image w.disk new (λ i. IsTrue (d.is_honest w.disk) → (is_blank i ≡ false) × HoldsOldOrOneMore w.live w.batches c.args.batch.now i)) c.self.view_is run

pub returns-in-Err-Kept-clause-moments : goal.returns-in-Err-Kept-clause-moments
returns-in-Err-Kept-clause-moments g c =
    let d = g.K.Disk in
    let j = c.self.inside.journal in
    let s = c.self.invariant in
    let new = c.in-Err-Kept.journal.disk in
    let P : List ℕ → Type 0 = λ i. IsTrue (d.is_honest j.disk) → (is_blank i ≡ false) × HoldsOldOrOneMore c.self.inside.live j.batches c.args.batch.now i in
    let ran = rw c.in-Err-Kept.field-0-is at c.in-Err-Kept.ensures.moments in
    let run = weaker d.moment d.image j.disk new _ P ran (λ i o h.
    append_images c.self.inside.live j.start j.batches c.args.batch.now (d.content j.disk) (d.image j.disk (d.moment j.disk)) s.at (s.kept h) i (o h)) in
    subst (λ (w : SnapshotForm _). AtEachMoment d.moment d.image w.disk new (λ i. IsTrue (d.is_honest w.disk) → (is_blank i ≡ false) × HoldsOldOrOneMore w.live w.batches c.args.batch.now i)) c.self.view_is run
