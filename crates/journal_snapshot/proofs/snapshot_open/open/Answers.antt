use Rattle.std.proofs.Common.{◌≡◌, Bool, IsTrue, sym, ◌∙◌, subst, arith}
use Rattle.range_journal.proofs.Heads.{both_ok, if_err, image_before}
use Rattle.std.specs.Prelude.{IfErr}
use Rattle.journal_snapshot.specs.Opening.{Refuses, IsOpened, LeavesOneKind, disk_in}
use Rattle.journal_snapshot.specs.Snapshots.{SnapshotForm}
use Rattle.journal_snapshot.proofs.Openings.{refuses_on, opening_run, refusal_leaves}
use Rattle.journal_snapshot.proofs.snapshot_open.open.Goals as goal

pub returns-in-Ok-settle-clause-reads : goal.returns-in-Ok-settle-clause-reads
returns-in-Ok-settle-clause-reads g c =
    let d = g.K.Disk in
    let old = c.args.disk in
    let mid = c.room.new.self in
    let new = c.settle.new.disk in
    let read = d.content new in
    let honest : d.is_honest new ≡ d.is_honest old = c.settle.ensures.honest ∙ c.room.ensures.honest in
    let o = c.open_synced.ensures in (
      read,
      record {
        was = λ h. image_before d.is_honest d.moment d.image old mid new new read c.room.ensures.time honest read (c.settle.ensures.image (subst (λ (b : Bool). IsTrue b) (sym c.room.ensures.honest) h));
        opened = both_ok c.open_synced.result _ _ (λ (s : SnapshotForm _). (s.spare ≡ 0) × (IsTrue (d.is_honest old) → IsOpened read s.live s.batches))
            (λ s a b. (a, λ h. b (subst (λ (t : Bool). IsTrue t) (sym honest) h))) o.opened o.batches;
        refused = if_err c.open_synced.result _ (λ x. Refuses (d.is_honest old) read (d.faults old) (d.faults x.1) x.0)
            (λ x stops. refuses_on (d.is_honest old) (d.is_honest new) read (d.faults old) (d.faults new) (d.faults x.1) x.0 honest (omega (arith, c.settle.ensures.later, c.room.ensures.faults)) stops) o.cause;
        moments = opening_run d.is_honest d.moment d.image old mid new (disk_in c.open_synced.result) read c.room.ensures.time honest c.settle.ensures.moments o.moments;
        last = subst (λ (t : Bool). IfErr c.open_synced.result (λ x. IsTrue t → LeavesOneKind (d.image old (d.moment old)) (d.image x.1 (d.moment x.1)) read)) honest
            (refusal_leaves d.moment d.image new c.open_synced.result (d.image old (d.moment old)) read (IsTrue (d.is_honest new)) o.moments);
      },
    )
