-- A manager that was recovered from its disk.
use Rattle.std.specs.Prelude.{◌≡◌, ◌⊎◌, ◌≤◌, ℕ, false, IsTrue, List, Result, Ok, Err, IfOk, IfErr}
use Rattle.disk_model.specs.Images.{AtEachMoment}
use Rattle.declared_site.specs.SiteOf.{site_of}
use Rattle.declared_site.specs.declared.site.Site.{Site as Declared}
use Rattle.journal_snapshot.specs.Standing.{IsKept}
use Rattle.kme_node.specs.Holdings.{view as seen_by}
use Rattle.kme_journal.specs.Recovery.{GivesBack, IsAfter, IsRecovered, Leaves, LeavesOneKind, Refuses, disk_in, is_stopped}
use Rattle.kme_journal.specs.declared.manager_recovery.Recovered.{Recovered}
use Rattle.kme_journal.specs.declared.refusal.RecoverRefusal.{RecoverRefusal}
use Rattle.kme_store.specs.Manager.{ManagerForm}
use Rattle.kme_store.specs.declared.manager_state.Standing.TheVariants.{Up}
use Rattle.disk_model.specs.declared.disk.Disk as Disk

-- the recovered manager is up, with its journal and this entropy; or the start is refused, and the disk and the entropy are given back
abbrev pub IsOver : {K E : Type 0} → Result (Recovered K) (RecoverRefusal × K) → E → Result (ManagerForm K E) (RecoverRefusal × K × E) → Type 0
IsOver (Ok back) entropy (Ok m) = m ≡ record { site = back.node.site; view = seen_by back.node; standing = Up back.journal; entropy = entropy }
IsOver (Err refusal) entropy (Err all) = all ≡ (refusal.0, refusal.1, entropy)
IsOver (Ok back) entropy (Err all) = ⊥
IsOver (Err refusal) entropy (Ok m) = ⊥

-- what is recovered from a disk, and what happens to the disk
pub record Recovers {K : Type 0} (disk_says : Disk.Ghosts K) (site : Declared) (me : ℕ) (disk : K) (back : Result (Recovered K) (RecoverRefusal × K)) : Type 0 where
  pub at : IfOk back (λ r. r.node.site ≡ site)
  pub read : List ℕ
  pub was : IsTrue (disk_says.is_honest disk) → disk_says.image disk (disk_says.moment disk) read
  pub recovered : IfOk back (λ r. IsRecovered (disk_says.is_honest disk) read (site_of site) me (seen_by r.node) r.journal)
  pub refused : IfErr back (λ e. Refuses (disk_says.is_honest disk) read (disk_says.faults disk) (disk_says.faults e.1) e.0)
  pub moments : AtEachMoment disk_says.moment disk_says.image disk (disk_in back) (λ i. IsTrue (disk_says.is_honest disk) → disk_says.image disk (disk_says.moment disk) i ⊎ IsAfter (site_of site) me back read i)
  pub leaves : IfErr back (λ e. Leaves (disk_says.is_honest disk) disk_says.moment disk_says.image read disk e.0 e.1)
  pub last : IfErr back (λ e. IsTrue (disk_says.is_honest disk) → LeavesOneKind (disk_says.image disk (disk_says.moment disk)) (disk_says.image e.1 (disk_says.moment e.1)) (site_of site) me back read)
  pub told : IfOk back (λ r. GivesBack (site_of site) me r.journal (seen_by r.node))
  pub kept : IfOk back (λ r. IsTrue (disk_says.is_honest r.journal.disk) → IsKept r.journal.live r.journal.batches (disk_says.content r.journal.disk) (disk_says.image r.journal.disk (disk_says.moment r.journal.disk)))
  pub later : disk_says.faults disk ≤ disk_says.faults (disk_in back)
  pub calm : is_stopped back ≡ false → disk_says.faults (disk_in back) ≡ disk_says.faults disk
  pub honest : disk_says.is_honest (disk_in back) ≡ disk_says.is_honest disk
  pub arms : disk_says.armings (disk_in back) ≡ disk_says.armings disk
  pub used : IfErr back (λ e. (disk_says.allowance e.1).used ≤ 12)
