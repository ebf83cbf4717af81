-- A start, from the opening of its disk on.
use Rattle.std.proofs.Common.{◌≡◌, ◌≢◌, ◌⊎◌, ◌≤◌, ◌<◌, inl, inr, ℕ, ◌+◌, Bool, IsTrue, List, [], ◌∷◌, ◌++◌, length, take, sym, ap, subst, ◌∙◌, arith, true, false, refl, length-append, length-take}
use Rattle.std.specs.List.{All}
use Rattle.std.specs.Prelude.{◌==◌, ◌^◌, ◌-◌, ◌&&◌, ◌||◌, not, nat_le, nat_lt, if◌then◌else◌, Result, Ok, Err, IfOk, IfErr}
use Rattle.std.proofs.lemmas.Bool.{cases_Bool}
use Rattle.std.proofs.lemmas.Bool.Decides.{nat_tests}
use Rattle.disk_model.specs.Images.{AtEachMoment}
use Rattle.disk_model.proofs.Moments.{joined, weaker}
use Rattle.net_model.specs.declared.record.Record.{Record}
use Rattle.net_model.specs.Fold.{recovered_view, view_restarted}
use Rattle.net_model.specs.Site.{Site}
use Rattle.net_model.specs.View.{View}
use Rattle.net_model.specs.World.{Journal}
use Rattle.net_model.specs.Journal.{checkpoint_batches, checkpoint_need, checkpoint_place, checkpointed, is_checkpoint_due, journal_limit, is_blank as is_blank_journal}
use Rattle.range_journal.specs.Batches.{spelled}
use Rattle.range_journal.specs.Header.{is_new, is_blank}
use Rattle.range_journal.specs.Reading.{is_disk}
use Rattle.range_journal.specs.declared.refusal.JournalRefusal.{JournalRefusal}
use Rattle.range_journal.specs.declared.refusal.JournalRefusal.TheVariants as journal
use Rattle.journal_snapshot.specs.Opening.{IsOpened, IsOpening, LeavesOneKind as OpenLeaves, Refuses as OpenRefuses}
use Rattle.journal_snapshot.specs.Snapshots.{SnapshotForm, journal_of, need_of}
use Rattle.journal_snapshot.specs.Standing.{Holds, IsKept}
use Rattle.journal_records.specs.Grammar.{IsBatch}
use Rattle.journal_records.specs.declared.version.Version.TheVariants.{Second}
use Rattle.journal_snapshot.specs.declared.live.Live.{Live}
use Rattle.journal_snapshot.specs.Layout.{live_of}
use Rattle.journal_snapshot.proofs.Fronts.{start_least}
use Rattle.journal_snapshot.proofs.Standings.{batches_of, stands_long}
use Rattle.law_base.proofs.Base.{below_from, and_left, and_right, or_second, not_false, not_both, was_not, eq_from}
use Rattle.law_recovery.proofs.Checkpoint.{checkpoint_given}
use Rattle.law_recovery.proofs.Restarting.{recovered_restarts}
use Rattle.kme_node.specs.Holdings.{view}
use Rattle.kme_journal.specs.BatchRecovery.{AreReadAs}
use Rattle.kme_journal.specs.Putting.{HoldsEither, IsPut, IsStopped, checkpoint_bodies}
use Rattle.kme_journal.specs.declared.manager_recovery.Recovered.{Recovered}
use Rattle.kme_journal.specs.declared.refusal.RecoverRefusal.{RecoverRefusal}
use Rattle.kme_journal.specs.declared.refusal.RecoverRefusal.TheVariants.{Stopped, Foreign, Memory}
use Rattle.kme_journal.specs.Recovery.{GivesBack, IsAfter, IsLeft, IsRecovered, Leaves, LeavesOneKind, MayMove, Refuses, Stands, Stops, disk_in, is_stop, is_stopped, why_of}
use Rattle.kme_journal.proofs.Put.{under, untouched}

long_by : (n : ℕ) (old : Bool) → ((n == 0) || (old && (n == 17))) ≡ false → (nat_le 65536 n || old) ≡ true → 17 ≤ n → 17 < n
long_by n true blank ripe least = let other = or_second (n == 0) (n == 17) blank in below_from 17 n least (eq_swap n other)
  where
    eq_true : (m : ℕ) → 17 ≡ m → (m == 17) ≡ true
    eq_true m is = subst (λ (k : ℕ). (k == 17) ≡ true) is refl

    eq_swap : (m : ℕ) → (m == 17) ≡ false → (17 == m) ≡ false
    eq_swap m e = not_false (17 == m) (λ same. let is = eq_from 17 m same in not_both (m == 17) (eq_true m is) e)
long_by n false blank ripe least = (let much : nat_le 65536 n ≡ true = sym (or_none (nat_le 65536 n)) ∙ ripe in let far : 65536 ≤ n = grind (arith, nat_tests) in omega (arith, far))
  where
    or_none : (b : Bool) → (b || false) ≡ b
    or_none true = refl
    or_none false = refl

-- a journal for which a checkpoint is due is longer than a new one
ripe_long : (j : Journal) (need : ℕ) → is_checkpoint_due j need ≡ true → 17 ≤ j.length' → 17 < j.length'
unfolding is_checkpoint_due
ripe_long j need due least =
    let here = and_left (not (is_blank_journal j) && (nat_le 65536 j.length' || (j.version == 1))) (nat_le (checkpoint_place j need + need) journal_limit)
    (and_left (not (is_blank_journal j) && (nat_le 65536 j.length' || (j.version == 1)) && nat_le (checkpoint_place j need + need) journal_limit) (nat_lt j.generation (2 ^ 64 - 1)) due) in
    long_by j.length' (j.version == 1) (was_not ((j.length' == 0) || ((j.version == 1) && (j.length' == 17))) (and_left (not (is_blank_journal j)) (nat_le 65536 j.length' || (j.version == 1)) here))
    (and_right (not (is_blank_journal j)) (nat_le 65536 j.length' || (j.version == 1)) here) least

module _ {K : Type 0} where
  -- the journal after a checkpoint is that of the model
  pub left_as : (old new : SnapshotForm K) (v : View) → need_of (checkpoint_bodies v) ≡ checkpoint_need v → IsPut (is_checkpoint_due (journal_of old) (checkpoint_need v)) old (checkpoint_bodies v) new → IsLeft old v new
  left_as old new v need put = record {
    put = put;
    journal = put.journal ∙ ap (λ (n : ℕ). if is_checkpoint_due (journal_of old) (checkpoint_need v) then checkpointed (journal_of old) n else journal_of old) need;
  }

  plain_either : (old : SnapshotForm K) (need : ℕ) (i : List ℕ) → (is_checkpoint_due (journal_of old) need ≡ false → is_blank i ≡ false) → Holds old.live old.batches [] i → is_blank i ≡ false
  plain_either old need i unmade h = elim (cases_Bool (is_checkpoint_due (journal_of old) need)) [
    | inl due ↦
        let has = batches_of old.live old.batches [] i h in
        let start : old.live.start < length i = stands_long old.live.start i old.batches has.stands in
        let least : 16 ≤ (live_of i).start = start_least i (length i) h.placed in
        let here = ap (λ (l : Live). l.start) h.says in
        let ripe = ripe_long (journal_of old) need due (omega (arith, least, here)) in
        let long : 17 < length i = omega (
          arith,
          ripe,
          start,
          ap length has.stands.is,
          length-append (take old.live.start i ++ spelled old.batches) (has.stands.gate ∷ has.stands.rest),
          length-append (take old.live.start i) (spelled old.batches),
          length-take old.live.start i,
        ) in
        let many : nat_le (length i) 17 ≡ false = grind (arith, nat_tests) in
        ap (λ (t : Bool). t && not (is_new i)) many
    | inr undue ↦ unmade undue
  ]

  pub stands_as : (site : Site) (me : ℕ) (old : SnapshotForm K) (v : View) (may_move : Type 0) → may_move → GivesBack site me old v → (i : List ℕ) →
      HoldsEither (is_checkpoint_due (journal_of old) (checkpoint_need v)) (All (IsBatch Second) (checkpoint_batches v)) old.live old.batches (checkpoint_place (journal_of old) (checkpoint_need v)) (checkpoint_bodies v) i →
      Stands site me old may_move i
  stands_as site me old v may_move may back i (inl is) = inl (plain_either old (checkpoint_need v) i is.0 is.1, is.1)
  stands_as site me old v may_move may back i (inr is) = inr (may, (v, back, record { due = is.0; spelled = is.1; is = is.2 }))

  pub back_as : (site : Site) (me : ℕ) (old : SnapshotForm K) (v : View) (version : ℕ) (bodies : List (List ℕ)) → version ≡ old.live.version → bodies ≡ old.batches →
      (story : List (List Record)) × AreReadAs version bodies story × (v ≡ recovered_view site me story) → GivesBack site me old v
  back_as site me old v version bodies a b read = record {
    story = read.0;
    spelled = subst (λ (n : ℕ). AreReadAs n old.batches read.0) a (subst (λ (bs : List (List ℕ)). AreReadAs version bs read.0) b read.1);
    view = read.2;
  }

module _ {K : Type 0} (site : Site) (me : ℕ) (old new : SnapshotForm K) (v : View) (back : GivesBack site me old v) where
  given : recovered_view site me back.story ≡ view_restarted v
  given = recovered_restarts site me back.story ∙ ap view_restarted (sym back.view)

  same_told : new.live ≡ old.live → new.batches ≡ old.batches → GivesBack site me new v
  same_told live batches = record {
    story = back.story;
    spelled =
        subst (λ (n : ℕ). AreReadAs n new.batches back.story) (ap (λ (l : Live). l.version) (sym live))
        (subst (λ (bs : List (List ℕ)). AreReadAs old.live.version bs back.story) (sym batches) back.spelled);
    view = back.view;
  }

  moved_told : new.live.version ≡ 2 → new.batches ≡ checkpoint_bodies v → All (IsBatch Second) (checkpoint_batches v) → GivesBack site me new v
  moved_told version batches grammar = record {
    story = checkpoint_batches v;
    spelled =
        let spelled : AreReadAs 2 (checkpoint_bodies v) (checkpoint_batches v) = record { spelled = refl; each = grammar } in
        subst (λ (n : ℕ). AreReadAs n new.batches (checkpoint_batches v)) (sym version) (subst (λ (bs : List (List ℕ)). AreReadAs 2 bs (checkpoint_batches v)) (sym batches) spelled);
    view = back.view ∙ given ∙ sym (checkpoint_given site me back.story v given);
  }

  -- replaying the journal that is left gives the same manager
  told_as : (made : Bool) → IsPut made old (checkpoint_bodies v) new → (made ≡ true → All (IsBatch Second) (checkpoint_batches v)) → GivesBack site me new v
  told_as true put grammar = moved_told (ap (λ (l : Live). l.version) put.live) put.batches (grammar refl)
  told_as false put grammar = same_told put.live put.batches

pub told_after : {K : Type 0} (site : Site) (me : ℕ) (old new : SnapshotForm K) (v : View) (made : Bool) → GivesBack site me old v → IsPut made old (checkpoint_bodies v) new → (made ≡ true → All (IsBatch Second) (checkpoint_batches v)) →
    GivesBack site me new v
told_after site me old new v made back put grammar = told_as site me old new v back made put grammar

-- the crash images after a refusal, and those on the way to it
module _ {K : Type 0} (is_honest : Bool) (moment : K → ℕ) (image : K → ℕ → List ℕ → Type 0) where
  pub stopped_moments : (site : Site) (me : ℕ) (old : SnapshotForm K) (v : View) (content : List ℕ) (rose : Type 0) → GivesBack site me old v → (IsTrue is_honest → IsKept old.live old.batches content (image old.disk (moment old.disk))) →
      (why : RecoverRefusal) (disk : K) → IsStopped old.disk rose why disk →
      AtEachMoment moment image old.disk disk
      (λ i. IsTrue is_honest → HoldsEither (is_checkpoint_due (journal_of old) (checkpoint_need v)) (All (IsBatch Second) (checkpoint_batches v)) old.live old.batches (checkpoint_place (journal_of old) (checkpoint_need v)) (checkpoint_bodies v) i) →
      AtEachMoment moment image old.disk disk (λ i. IsTrue is_honest → Stands site me old (MayMove {K = K} (Err (why, disk))) i)
  stopped_moments site me old v content rose back kept Stopped disk is run = under is_honest moment image old.disk disk _ _ (λ i either. stands_as site me old v (Unit {0}) tt back i either) run
  stopped_moments site me old v content rose back kept (Foreign place) disk is run = absurd is
  stopped_moments site me old v content rose back kept Memory disk is run =
      subst (λ (x : K). AtEachMoment moment image old.disk x (λ i. IsTrue is_honest → Stands site me old ⊥ i)) (sym is)
      (untouched is_honest moment image old.disk content old.live old.batches (Stands site me old ⊥) kept (λ i plain held. inl (plain, held)))

  -- a disk that isn't touched, whatever else must hold
  pub untouched_by : (old : SnapshotForm K) (content : List ℕ) (site : Site) (me : ℕ) → (IsTrue is_honest → IsKept old.live old.batches content (image old.disk (moment old.disk))) → (may_move : Type 0) (disk : K) → disk ≡ old.disk →
      AtEachMoment moment image old.disk disk (λ i. IsTrue is_honest → Stands site me old may_move i)
  untouched_by old content site me kept may_move disk is =
      subst (λ (x : K). AtEachMoment moment image old.disk x (λ i. IsTrue is_honest → Stands site me old may_move i)) (sym is)
      (untouched is_honest moment image old.disk content old.live old.batches (Stands site me old may_move) kept (λ i plain held. inl (plain, held)))

  pub put_moments : (site : Site) (me : ℕ) (old : SnapshotForm K) (v : View) → GivesBack site me old v → (disk : K) →
      AtEachMoment moment image old.disk disk
      (λ i. IsTrue is_honest → HoldsEither (is_checkpoint_due (journal_of old) (checkpoint_need v)) (All (IsBatch Second) (checkpoint_batches v)) old.live old.batches (checkpoint_place (journal_of old) (checkpoint_need v)) (checkpoint_bodies v) i) →
      AtEachMoment moment image old.disk disk (λ i. IsTrue is_honest → Stands site me old (Unit {0}) i)
  put_moments site me old v back disk run = under is_honest moment image old.disk disk _ _ (λ i either. stands_as site me old v (Unit {0}) tt back i either) run

  -- an opening that was refused
  pub opening_moments : (site : Site) (me : ℕ) (disk new : K) (result : Result (Recovered K) (RecoverRefusal × K)) (read : List ℕ) →
      AtEachMoment moment image disk new (λ i. IsTrue is_honest → image disk (moment disk) i ⊎ IsOpening read i) →
      AtEachMoment moment image disk new (λ i. IsTrue is_honest → image disk (moment disk) i ⊎ IsAfter site me result read i)
  opening_moments site me disk new result read run = under is_honest moment image disk new _ _ (λ i is. elim is [ inl old ↦ inl old | inr opening ↦ inr (inl opening) ]) run

  -- an opening, followed by the recovery
  pub all_moments : (site : Site) (me : ℕ) (disk : K) (old : SnapshotForm K) (result : Result (Recovered K) (RecoverRefusal × K)) (read : List ℕ) (still : Bool) → still ≡ is_honest → (IsTrue is_honest → IsOpened read old.live old.batches) →
      AtEachMoment moment image disk old.disk (λ i. IsTrue is_honest → image disk (moment disk) i ⊎ IsOpening read i) →
      AtEachMoment moment image old.disk (disk_in result) (λ i. IsTrue still → Stands site me old (MayMove result) i) →
      AtEachMoment moment image disk (disk_in result) (λ i. IsTrue is_honest → image disk (moment disk) i ⊎ IsAfter site me result read i)
  all_moments site me disk old result read still same opened first second =
      let P : List ℕ → Type 0 = λ i. IsTrue is_honest → image disk (moment disk) i ⊎ IsAfter site me result read i in
      joined moment image disk old.disk (disk_in result) P (opening_moments site me disk old.disk result read first)
      (weaker moment image old.disk (disk_in result) (λ i. IsTrue still → Stands site me old (MayMove result) i) P second
      (λ i stands h. inr (inr (old, opened h, stands (subst (λ (t : Bool). IsTrue t) (sym same) h)))))

-- why a disk wasn't opened
pub refused_as : (is_honest : Bool) (read : List ℕ) (before now : ℕ) (why : JournalRefusal) → OpenRefuses is_honest read before now why → Refuses is_honest read before now (why_of why)
refused_as is_honest read before now journal.Disk is = is
refused_as is_honest read before now journal.Memory is = tt
refused_as is_honest read before now (journal.Foreign place) is = λ h. inl (is h)
refused_as is_honest read before now (journal.JournalFull size need) is = absurd is

module _ {K : Type 0} (is_honest : Bool) (faults : K → ℕ) (read : List ℕ) (site : Site) (me : ℕ) (old : SnapshotForm K) (opened : IsTrue is_honest → IsOpened read old.live old.batches) where
  pub recovered_as : (result : Result (Recovered K) (RecoverRefusal × K)) → IfOk result (λ r. GivesBack site me old (view r.node)) → IfOk result (λ r. IsLeft old (view r.node) r.journal) →
      IfOk result (λ r. IsRecovered is_honest read site me (view r.node) r.journal)
  recovered_as (Ok r) back left = record { old = old; opened = opened; back = back; left = left }
  recovered_as (Err e) back left = tt

  pub refused_on : (before : ℕ) → before ≤ faults old.disk → (result : Result (Recovered K) (RecoverRefusal × K)) → IfErr result (λ e. Stops faults old e.0 e.1) →
      IfErr result (λ e. Refuses is_honest read before (faults e.1) e.0)
  refused_on before later (Ok r) stops = tt
  refused_on before later (Err (Stopped, disk)) stops = omega (arith, later, stops)
  refused_on before later (Err (Foreign place, disk)) stops = λ h. inr (old.live, (old.batches, opened h, stops.1))
  refused_on before later (Err (Memory, disk)) stops = tt

-- unless the disk failed, its count of faults is as before

pub unopened_calm : (why : JournalRefusal) → is_stop (why_of why) ≡ false → is_disk why ≡ false
unopened_calm journal.Disk other = other
unopened_calm journal.Memory other = refl
unopened_calm (journal.Foreign place) other = refl
unopened_calm (journal.JournalFull size need) other = refl

pub calm_on : {K : Type 0} (faults : K → ℕ) (before : ℕ) (old : SnapshotForm K) → faults old.disk ≡ before → (result : Result (Recovered K) (RecoverRefusal × K)) →
    IfOk result (λ r. faults r.journal.disk ≡ faults old.disk) → IfErr result (λ e. Stops faults old e.0 e.1) → is_stopped result ≡ false → faults (disk_in result) ≡ before
calm_on faults before old same (Ok r) calm stops other = calm ∙ same
calm_on faults before old same (Err (Stopped, disk)) calm stops other = absurd (cc other)
calm_on faults before old same (Err (Foreign place, disk)) calm stops other = ap faults stops.0 ∙ same
calm_on faults before old same (Err (Memory, disk)) calm stops other = ap faults stops ∙ same

-- the crash images after a refusal

module _ {K : Type 0} (is_honest : Bool) (moment : K → ℕ) (image : K → ℕ → List ℕ → Type 0) (read : List ℕ) (disk : K) where
  pub left_unopened : (new : K) (before now : ℕ) (why : JournalRefusal) → OpenRefuses is_honest read before now why →
      (why ≢ journal.Disk → (i : List ℕ) → image new (moment new) i → image disk (moment disk) i) → Leaves is_honest moment image read disk (why_of why) new
  left_unopened new before now journal.Disk is leaves = λ other. absurd (other refl)
  left_unopened new before now journal.Memory is leaves = λ other h i there. inl (leaves (λ e. cc) i there)
  left_unopened new before now (journal.Foreign place) is leaves = λ other h i there. inl (leaves (λ e. cc) i there)
  left_unopened new before now (journal.JournalFull size need) is leaves = absurd is

  module _ (faults : K → ℕ) (old : SnapshotForm K) (content : List ℕ) (opened : IsTrue is_honest → IsOpened read old.live old.batches)
      (kept : IsTrue is_honest → IsKept old.live old.batches content (image old.disk (moment old.disk))) where
    as_read : (new : K) (why : RecoverRefusal) → new ≡ old.disk → Leaves is_honest moment image read disk why new
    as_read new why same = λ other h i there.
        let here : image old.disk (moment old.disk) i = subst (λ (d : K). image d (moment d) i) same there in
        let is : i ≡ content = (kept h).settled.only i here in
        inr (old.live, (old.batches, opened h, subst (λ (c : List ℕ). is_blank c ≡ false) (sym is) (kept h).plain, subst (Holds old.live old.batches []) (sym is) (kept h).holds))

    left_read : (new : K) (why : RecoverRefusal) → Stops faults old why new → Leaves is_honest moment image read disk why new
    left_read new Stopped stops = λ other. absurd (other refl)
    left_read new (Foreign place) stops = as_read new (Foreign place) stops.0
    left_read new Memory stops = as_read new Memory stops

    pub left_on : (result : Result (Recovered K) (RecoverRefusal × K)) → IfErr result (λ e. Stops faults old e.0 e.1) → IfErr result (λ e. Leaves is_honest moment image read disk e.0 e.1)
    left_on (Ok r) stops = tt
    left_on (Err e) stops = left_read e.1 e.0 stops

-- the crash images after a refusal are of one kind

pub one_kind_unopened : {K : Type 0} (site : Site) (me : ℕ) (result : Result (Recovered K) (RecoverRefusal × K)) (read : List ℕ) (before left : List ℕ → Type 0) → OpenLeaves before left read → LeavesOneKind {K = K} before left site me result read
one_kind_unopened site me result read before left (inl same) = inl same
one_kind_unopened site me result read before left (inr opening) = inr (λ i there. inl (opening i there))

pub one_kind_after : {K : Type 0} (is_honest still : Bool) (moment : K → ℕ) (image : K → ℕ → List ℕ → Type 0) (site : Site) (me : ℕ) (old : SnapshotForm K) (result : Result (Recovered K) (RecoverRefusal × K)) (read : List ℕ) (before : List ℕ → Type 0) →
    still ≡ is_honest → (IsTrue is_honest → IsOpened read old.live old.batches) →
    AtEachMoment moment image old.disk (disk_in result) (λ i. IsTrue still → Stands site me old (MayMove result) i) →
    IfErr result (λ e. IsTrue is_honest → LeavesOneKind before (image e.1 (moment e.1)) site me result read)
one_kind_after is_honest still moment image site me old (Ok r) read before same opened run = tt
one_kind_after is_honest still moment image site me old (Err e) read before same opened run =
    λ h. inr (λ i there. inr (old, opened h, run.each (moment e.1) i run.later (omega arith) there (subst (λ (t : Bool). IsTrue t) (sym same) h)))
