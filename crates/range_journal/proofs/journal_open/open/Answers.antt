use Rattle.std.proofs.Common.{◌≡◌, ◌≤◌, ℕ, List, [], Bool, IsTrue, sym, ◌∙◌, subst, arith}
use Rattle.std.specs.Prelude.{IfOk}
use Rattle.range_journal.specs.Header.{StandsFor}
use Rattle.range_journal.specs.Journal.{JournalForm}
use Rattle.range_journal.specs.Opening.{Refuses, disk_in}
use Rattle.range_journal.proofs.Heads.{if_ok, both_ok, if_err, refuses_on, image_before, opening_run}
use Rattle.range_journal.proofs.journal_open.open.Goals as goal

pub returns-in-Ok-settle-clause-reads : goal.returns-in-Ok-settle-clause-reads
returns-in-Ok-settle-clause-reads g c =
    let d = g.K.Disk in
    let old = c.args.disk in
    let mid = c.room.new.self in
    let new = c.settle.new.disk in
    let read = d.content new in
    let honest : d.is_honest new ≡ d.is_honest old = c.settle.ensures.honest ∙ c.room.ensures.honest in
    let o = c.open_synced.ensures in (
      read,
      record {
        was = λ h. image_before d.is_honest d.moment d.image old mid new new read c.room.ensures.time honest read (c.settle.ensures.image (subst (λ (b : Bool). IsTrue b) (sym c.room.ensures.honest) h));
        opened = both_ok c.open_synced.result _ _ (λ (j : JournalForm _). (j.start ≡ 16) × (j.spare ≡ 0) × (IsTrue (d.is_honest old) → StandsFor read j.batches))
            (λ j a b. (a.0, a.1, λ h. b (subst (λ (t : Bool). IsTrue t) (sym honest) h))) o.opened o.batches;
        refused = if_err c.open_synced.result _ (λ x. Refuses (d.is_honest old) read (d.faults old) (d.faults x.1) x.0)
            (λ x stops. refuses_on (d.is_honest old) (d.is_honest new) read (d.faults old) (d.faults new) (d.faults x.1) x.0 honest (omega (arith, c.settle.ensures.later, c.room.ensures.faults)) stops) o.cause;
        moments = opening_run d.is_honest d.moment d.image old mid new (disk_in c.open_synced.result) read c.room.ensures.time honest c.settle.ensures.moments o.moments;
      },
    )
