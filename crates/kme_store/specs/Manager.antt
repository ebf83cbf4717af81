-- A manager as a value, and how an event changes it.
use Rattle.std.specs.Prelude.{◌≡◌, ◌⊎◌, ℕ, zero, suc, Bool, true, false, IsTrue, ◌+◌, ◌<◌, List, [], Option, Some, None}
use Rattle.qkd_base.specs.Faults.{Rose}
use Rattle.net_model.specs.declared.event.Event.{Event}
use Rattle.net_model.specs.declared.placing.Placing.{Placing}
use Rattle.net_model.specs.declared.record.Record.{Record}
use Rattle.net_model.specs.declared.reply.Reply.{Reply}
use Rattle.net_model.specs.declared.reply.Reply.TheVariants as replies
use Rattle.net_model.specs.OctetSequence.{OctetSequence}
use Rattle.net_model.specs.View.{View, Port}
use Rattle.net_model.specs.Decide.{random_need}
use Rattle.net_model.specs.Decision.{Effect}
use Rattle.net_model.specs.Journal.{added_len, extended}
use Rattle.net_model.specs.Fold.{view_after}
use Rattle.net_model.specs.Action.{Environment, EntropyFault, IoFault, Replies, is_shown}
use Rattle.declared_site.specs.SiteOf.{site_of}
use Rattle.declared_site.specs.declared.site.Site.{Site as Declared}
use Rattle.disk_model.specs.Images.{AtEachMoment, StandsStill}
use Rattle.disk_model.specs.declared.arm.Arm.{Arm}
use Rattle.range_journal.specs.Header.{is_blank}
use Rattle.journal_snapshot.specs.Standing.{Holds}
use Rattle.journal_snapshot.specs.Snapshots.{SnapshotForm, journal_of}
use Rattle.source_devices.specs.Telling.{IsRest}
use Rattle.law_recovery.specs.GivesBack.{GivesBack}
use Rattle.kme_base.specs.declared.step.Step.{Step}
use Rattle.kme_base.specs.Steps.{IsEffect}
use Rattle.kme_store.specs.Course.{Course, Stays, Stops, Goes, course}
use Rattle.kme_journal.specs.BatchRecovery.{AreReadAs}
use Rattle.kme_journal.specs.Spelled.{with_batch, batch_in_doubt, IsBody}
use Rattle.kme_store.specs.declared.manager_state.Standing.{Standing}
use Rattle.kme_store.specs.declared.manager_state.Standing.TheVariants.{Up, Down, Between}
use Rattle.disk_model.specs.declared.disk.Disk as Disk
use Rattle.source_devices.specs.declared.entropy.Entropy as Entropy

-- Its site, its view, whether it is up, and its entropy. A manager that is down has the view that it had before its disk failed.
pub record ManagerForm (K E : Type 0) : Type 0 where
  pub site : Declared
  pub view : View
  pub standing : Standing K
  pub entropy : E

-- the manager is up, with a journal that satisfies this
abbrev pub IsUpWith : {K : Type 0} → (SnapshotForm K → Type 0) → Standing K → Type 0
IsUpWith P (Up journal) = P journal
IsUpWith P (Down disk) = ⊥
IsUpWith P Between = ⊥

-- the manager is down, with a disk that satisfies this
abbrev pub IsDownWith : {K : Type 0} → (K → Type 0) → Standing K → Type 0
IsDownWith P (Up journal) = ⊥
IsDownWith P (Down disk) = P disk
IsDownWith P Between = ⊥

-- the disk satisfies this, whether the manager is up or down
abbrev pub HasDisk : {K : Type 0} → (K → Type 0) → Standing K → Type 0
HasDisk P (Up journal) = P journal.disk
HasDisk P (Down disk) = P disk
HasDisk P Between = ⊥

-- if the manager is up, its journal satisfies this; `WhereDown` says the same of the disk of a manager that is down
abbrev pub WhereUp : {K : Type 0} → (SnapshotForm K → Type 0) → Standing K → Type 0
WhereUp P (Up journal) = P journal
WhereUp P (Down disk) = Unit {0}
WhereUp P Between = Unit {0}

abbrev pub WhereDown : {K : Type 0} → (K → Type 0) → Standing K → Type 0
WhereDown P (Up journal) = Unit {0}
WhereDown P (Down disk) = P disk
WhereDown P Between = Unit {0}

-- a step is applied and answered
pub record IsTaken (v : View) (placings : List Placing) (s : Step) (now : View) (reply : Reply) : Type 0 where
  pub answer : reply ≡ s.reply
  pub view : (e : Effect) → IsEffect v placings e s → now ≡ view_after v e

-- the batches of a journal; replaying them gives this view
pub record IsStory {K : Type 0} (site : Declared) (view : View) (journal : SnapshotForm K) (story : List (List Record)) : Type 0 where
  pub read : AreReadAs journal.live.version journal.batches story
  pub back : GivesBack (site_of site) view.me story view

-- Replaying the journal of a manager that is up gives this manager. Only during an event is a manager neither up nor down.
abbrev pub IsToldBy : {K : Type 0} → Declared → View → Standing K → Type 0
IsToldBy site view (Up journal) = (story : List (List Record)) × IsStory site view journal story
IsToldBy site view (Down disk) = Unit {0}
IsToldBy site view Between = ⊥

-- a disk after it was armed once more, which is otherwise the same
pub record IsArmed {K : Type 0} (disk_says : Disk.Ghosts K) (arm : Arm) (old new : K) : Type 0 where
  pub armed : disk_says.armings new ≡ record { count = (disk_says.armings old).count + 1; last = Some arm }
  pub same : disk_says.content new ≡ disk_says.content old
  pub time : StandsStill (disk_says.moment old) (disk_says.moment new) (disk_says.image old) (disk_says.image new)
  pub failed : disk_says.faults new ≡ disk_says.faults old
  pub honest : disk_says.is_honest new ≡ disk_says.is_honest old

-- the manager is up or down as before, with the same batches, and its disk changes like this
abbrev pub StandsOver : {K : Type 0} → (K → K → Type 0) → Standing K → Standing K → Type 0
StandsOver P (Up old) (Up new) = (new.live ≡ old.live) × (new.batches ≡ old.batches) × P old.disk new.disk
StandsOver P (Down old) (Down new) = P old new
StandsOver P (Up old) (Down new) = ⊥
StandsOver P (Down old) (Up new) = ⊥
StandsOver P Between new = ⊥
StandsOver P (Up old) Between = ⊥
StandsOver P (Down old) Between = ⊥

-- what the environment answers

-- these octets come next, if the entropy is known
abbrev pub ComesNext : Option OctetSequence → OctetSequence → Type 0
ComesNext None rest = Unit {0}
ComesNext (Some told) rest = told ≡ rest

-- this many octets were drawn
abbrev pub IsDrawn : Option OctetSequence → ℕ → Option OctetSequence → Type 0
IsDrawn None octets now = Unit {0}
IsDrawn (Some told) zero now = now ≡ Some told
IsDrawn (Some told) (suc n) now = (left : OctetSequence) × (now ≡ Some left) × IsRest told (suc n) left

-- the manager after an event

-- from this journal to that disk, each crash image at each moment has the journal's batches and isn't blank
abbrev pub Keeps : {K : Type 0} → Disk.Ghosts K → SnapshotForm K → K → Type 0
Keeps disk_says journal disk = AtEachMoment disk_says.moment disk_says.image journal.disk disk (λ i. IsTrue (disk_says.is_honest journal.disk) → (is_blank i ≡ false) × Holds journal.live journal.batches [] i)

-- while the new batch is in doubt, a crash image has the journal's batches, or these and the new one
abbrev pub Writes : {K : Type 0} → Disk.Ghosts K → SnapshotForm K → List Record → K → Type 0
Writes disk_says journal batch disk =
    AtEachMoment disk_says.moment disk_says.image journal.disk disk
    (λ i. IsTrue (disk_says.is_honest journal.disk) → (is_blank i ≡ false) × (Holds journal.live journal.batches (batch_in_doubt journal.live.version batch) i ⊎ Holds journal.live (with_batch journal.live.version journal.batches batch) [] i))

-- the batch is well formed in this version, and has octets if it isn't empty
abbrev pub HasBodyIn : ℕ → List Record → Type 0
HasBodyIn version batch = (octets : Option (List ℕ)) × IsBody version batch octets

-- the batch is appended to the journal, unless it is empty
pub record IsAdded {K : Type 0} (old : SnapshotForm K) (batch : List Record) (new : SnapshotForm K) : Type 0 where
  pub live : new.live ≡ old.live
  pub batches : new.batches ≡ with_batch old.live.version old.batches batch
  pub journal : journal_of new ≡ extended (journal_of old) (added_len old.live.version batch)

pub record HasStayed {K E : Type 0} (disk_says : Disk.Ghosts K) (entropy_says : Entropy.Ghosts E) (old : ManagerForm K E) (journal : SnapshotForm K) (refusal : Reply) (new : ManagerForm K E) (reply : Reply) : Type 0 where
  pub answer : reply ≡ refusal
  pub view : new.view ≡ old.view
  pub entropy : IsDrawn (entropy_says.left old.entropy) 0 (entropy_says.left new.entropy)
  pub up : IsUpWith (λ j. (j.live ≡ journal.live) × (j.batches ≡ journal.batches) × Keeps disk_says journal j.disk) new.standing

pub record HasStopped {K E : Type 0} (disk_says : Disk.Ghosts K) (entropy_says : Entropy.Ghosts E) (old : ManagerForm K E) (journal : SnapshotForm K) (octets : ℕ) (effect : Effect) (new : ManagerForm K E) (reply : Reply) : Type 0 where
  pub answer : reply ≡ replies.Stopped
  -- Nothing was taken over before it was durable.
  pub view : new.view ≡ old.view
  pub entropy : IsDrawn (entropy_says.left old.entropy) octets (entropy_says.left new.entropy)
  pub spelled : HasBodyIn journal.live.version effect.batch
  pub down : IsDownWith (Writes disk_says journal effect.batch) new.standing

pub record HasGone {K E : Type 0} (disk_says : Disk.Ghosts K) (entropy_says : Entropy.Ghosts E) (old : ManagerForm K E) (journal : SnapshotForm K) (octets : ℕ) (effect : Effect) (new : ManagerForm K E) (reply : Reply) : Type 0 where
  pub answer : reply ≡ effect.reply
  pub view : new.view ≡ view_after old.view effect
  pub entropy : IsDrawn (entropy_says.left old.entropy) octets (entropy_says.left new.entropy)
  pub spelled : HasBodyIn journal.live.version effect.batch
  pub up : IsUpWith (λ j. IsAdded journal effect.batch j × Writes disk_says journal effect.batch j.disk) new.standing

abbrev pub IsAfter : {K E : Type 0} → Disk.Ghosts K → Entropy.Ghosts E → ManagerForm K E → SnapshotForm K → Course → ManagerForm K E → Reply → Type 0
IsAfter disk_says entropy_says old journal (Stays refusal) new reply = HasStayed disk_says entropy_says old journal refusal new reply
IsAfter disk_says entropy_says old journal (Stops octets effect) new reply = HasStopped disk_says entropy_says old journal octets effect new reply
IsAfter disk_says entropy_says old journal (Goes octets effect) new reply = HasGone disk_says entropy_says old journal octets effect new reply

-- An event is answered. The environment gave these octets and this answer. Each failure comes from a fault, and without one the
-- count of faults is as before.
pub record Answers {K E : Type 0} (disk_says : Disk.Ghosts K) (entropy_says : Entropy.Ghosts E) (is_up : ℕ → Bool) (event : Event) (old : ManagerForm K E) (journal : SnapshotForm K) (new : ManagerForm K E) (reply : Reply) : Type 0 where
  pub rest : OctetSequence
  pub environment : Environment
  pub next : ComesNext (entropy_says.left old.entropy) rest
  pub shown : is_shown environment (Replies reply) ≡ true
  pub entropy_fault : environment ≡ EntropyFault → Rose (entropy_says.faults old.entropy) (entropy_says.faults new.entropy)
  -- The entropy fails only where it is asked.
  pub entropy_asked : environment ≡ EntropyFault → 0 < random_need old.view event
  pub disk_fault : environment ≡ IoFault → HasDisk (λ disk. Rose (disk_says.faults journal.disk) (disk_says.faults disk)) new.standing
  pub entropy_calm : (environment ≡ EntropyFault → ⊥) → entropy_says.faults new.entropy ≡ entropy_says.faults old.entropy
  pub disk_calm : (environment ≡ IoFault → ⊥) → HasDisk (λ disk. disk_says.faults disk ≡ disk_says.faults journal.disk) new.standing
  pub after : IsAfter disk_says entropy_says old journal (course (site_of old.site) is_up old.view (journal_of journal) rest event environment) new reply

-- a manager that is up answers the event, and one that is down stays as it is
abbrev pub Acts : {K E : Type 0} → Disk.Ghosts K → Entropy.Ghosts E → (ℕ → Bool) → Event → ManagerForm K E → Standing K → ManagerForm K E → Reply → Type 0
Acts disk_says entropy_says is_up event old (Up journal) new reply = Answers disk_says entropy_says is_up event old journal new reply
Acts disk_says entropy_says is_up event old (Down disk) new reply = (new ≡ old) × (reply ≡ replies.Down)
Acts disk_says entropy_says is_up event old Between new reply = ⊥

abbrev pub is_up : {K : Type 0} → Standing K → Bool
is_up (Up journal) = true
is_up (Down disk) = false
is_up Between = false

abbrev pub length_in : {K : Type 0} → Standing K → ℕ
length_in (Up journal) = (journal_of journal).length'
length_in (Down disk) = 0
length_in Between = 0

abbrev pub lease_of : Option Port → ℕ
lease_of None = 0
lease_of (Some p) = p.lease
