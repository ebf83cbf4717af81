-- How an event changes a manager that is up, from the parts of its handling.
use Rattle.std.proofs.Common.{◌≡◌, ◌⊎◌, inl, inr, ℕ, ◌+◌, ◌<◌, ◌≤◌, Bool, true, false, IsTrue, List, [], length, refl, sym, ap, subst, ◌∙◌, arith}
use Rattle.std.specs.Prelude.{IsSome, Option, Some, None, Ok, Err}
use Rattle.std.specs.List.{list_all}
use Rattle.qkd_base.specs.Faults.{Rose}
use Rattle.net_model.specs.declared.event.Event.{Event}
use Rattle.net_model.specs.declared.record.Record.{Record}
use Rattle.net_model.specs.declared.reply.Reply.{Reply}
use Rattle.net_model.specs.declared.reply.Reply.TheVariants as replies
use Rattle.net_model.specs.declared.placing.Placing.{Placing}
use Rattle.net_model.specs.OctetSequence.{OctetSequence, has_octets, octets_from}
use Rattle.net_model.specs.World.{Journal}
use Rattle.net_model.specs.View.{View}
use Rattle.net_model.specs.Journal.{added_len, is_nil, journal_limit}
use Rattle.net_model.specs.Decision.{Decision, Refuses, Does, Effect}
use Rattle.net_model.specs.Decide.{decide, random_need}
use Rattle.net_model.specs.Handle.{is_numbered}
use Rattle.declared_site.specs.SiteOf.{site_of}
use Rattle.declared_site.specs.declared.site.Site.{Site as Declared}
use Rattle.source_devices.specs.declared.shortage.Shortage.{Shortage}
use Rattle.source_devices.specs.declared.shortage.Shortage.TheVariants.{Failed}
use Rattle.disk_model.specs.Images.{AtEachMoment}
use Rattle.disk_model.proofs.Moments.{started, stands, joined, weaker}
use Rattle.hop_frames.specs.Sealing.{hop_sealing}
use Rattle.range_journal.specs.Batches.{length_of}
use Rattle.range_journal.specs.Header.{is_blank}
use Rattle.range_journal.proofs.Whole.{length_more}
use Rattle.journal_snapshot.specs.Standing.{Holds, IsKept}
use Rattle.journal_snapshot.specs.declared.live.Live.{Live}
use Rattle.journal_snapshot.specs.Layout.{is_moved}
use Rattle.journal_snapshot.specs.Snapshots.{SnapshotForm, journal_of}
use Rattle.journal_snapshot.proofs.Standings.{holds_any}
use Rattle.kme_base.specs.Steps.{IsStep, IsEffect, placings_of}
use Rattle.kme_base.specs.Random.{with_random}
use Rattle.kme_base.specs.declared.step.Step.{Step}
use Rattle.kme_store.specs.Course.{Course, Stays, Stops, Goes, decided}
use Rattle.kme_journal.specs.Spelled.{with_batch, batch_in_doubt, IsBody, added}
use Rattle.kme_journal.specs.Drafts.{IsHeldBack, IsRoomier, HoldsEither, with_octets, octets_in_doubt}
use Rattle.kme_store.specs.Drawing.{Gives}
use Rattle.kme_store.specs.Manager.{ManagerForm, HasDisk, ComesNext, IsDrawn, Keeps, Writes, IsAdded, HasStayed, IsAfter, Answers, IsTaken}
use Rattle.kme_store.specs.declared.manager_state.Standing.TheVariants.{Up, Down}
use Rattle.kme_journal.proofs.Bodies.{body_numbered, body_added, body_with, body_in_doubt, body_is_written}
use Rattle.kme_journal.proofs.Drawn.{drawn_numbered, drawn_added}
use Rattle.kme_journal.proofs.Decided.{AreOver, step_drawn}
use Rattle.kme_store.proofs.Outcomes.{Comes, HasRoomFor, held_back, without_end, with_fault, stopping, going, from_length, drawn, not_drawn, untouched, some_rest}
use Rattle.disk_model.specs.declared.disk.Disk as Disk
use Rattle.source_devices.specs.declared.entropy.Entropy as Entropy

-- the effect of a step
pub effect_of : (v : View) (placings : List Placing) (d : Decision) (s : Step) → IsStep v placings d (Ok s) → (e : Effect) × (d ≡ Does e) × IsEffect v placings e s
effect_of v placings (Refuses r) s is = absurd is
effect_of v placings (Does e) s is = (e, refl, is)

-- a step that fits in the journal still fits with drawn octets
pub has_place : (journal : Journal) (v : View) (placings : List Placing) (e : Effect) (s : Step) (random : List ℕ) (body : Option (List ℕ)) →
    IsEffect v placings e (record s { batch = with_random random s.batch }) → IsBody journal.version s.batch body → journal.length' + added body ≤ journal_limit → HasRoomFor journal e
has_place journal v placings e s random body is spelled within = record {
  numbered = ap (λ (rs : List Record). list_all is_numbered rs) (sym is.batch) ∙ drawn_numbered random s.batch ∙ body_numbered journal.version s.batch body spelled;
  within =
      let same : added body ≡ added_len journal.version e.batch = body_added journal.version s.batch body spelled ∙ sym (drawn_added journal.version random s.batch) ∙ ap (added_len journal.version) is.batch in
      omega (arith, within, same);
}

-- images of the same area, with the same batches and the same octets in doubt
held_as : (a b : Live) (batches bodies doubt waiting : List (List ℕ)) (i : List ℕ) → a ≡ b → batches ≡ bodies → doubt ≡ waiting → Holds a batches doubt i → Holds b bodies waiting i
held_as a b batches bodies doubt waiting i live same in_it h =
    subst (λ (l : Live). Holds l bodies waiting i) live
    (subst (λ (bs : List (List ℕ)). Holds a bs waiting i) same
    (subst (λ (bs : List (List ℕ)). Holds a batches bs i) in_it h))

module _ {K : Type 0} (disk_says : Disk.Ghosts K) where
  -- the journal gets more reserved memory
  pub roomier_keeps : (old new : SnapshotForm K) → IsRoomier disk_says.is_honest disk_says.content disk_says.moment disk_says.image disk_says.faults disk_says.armings old new →
      (IsTrue (disk_says.is_honest old.disk) → IsKept old.live old.batches (disk_says.content old.disk) (disk_says.image old.disk (disk_says.moment old.disk))) → Keeps disk_says old new.disk
  roomier_keeps old new r kept =
      let Kept : List ℕ → Type 0 = λ i. (is_blank i ≡ false) × Holds old.live old.batches [] i in
      let P : List ℕ → Type 0 = λ i. IsTrue (disk_says.is_honest old.disk) → Kept i in
      stands disk_says.moment disk_says.image old.disk old.disk new.disk P
      (started disk_says.moment disk_says.image old.disk P (λ c is h. subst Kept (sym ((kept h).settled.only c is)) ((kept h).plain, (kept h).holds))) r.time

  pub roomier_kept : (old new : SnapshotForm K) → IsRoomier disk_says.is_honest disk_says.content disk_says.moment disk_says.image disk_says.faults disk_says.armings old new →
      (IsTrue (disk_says.is_honest old.disk) → IsKept old.live old.batches (disk_says.content old.disk) (disk_says.image old.disk (disk_says.moment old.disk))) →
      IsTrue (disk_says.is_honest new.disk) → IsKept new.live new.batches (disk_says.content new.disk) (disk_says.image new.disk (disk_says.moment new.disk))
  roomier_kept old new r kept h =
      let was = kept (subst (λ (b : Bool). IsTrue b) r.honest h) in
      let here = subst (λ (c : List ℕ). IsKept old.live old.batches c (disk_says.image old.disk (disk_says.moment old.disk))) (sym r.same) was in
      let live = subst (λ (l : Live). IsKept l old.batches (disk_says.content new.disk) (disk_says.image old.disk (disk_says.moment old.disk))) (sym r.live) here in
      let now = subst (λ (bs : List (List ℕ)). IsKept new.live bs (disk_says.content new.disk) (disk_says.image old.disk (disk_says.moment old.disk))) (sym r.batches) live in
      record {
        plain = now.plain;
        holds = now.holds;
        settled = record {
          rest = now.settled.rest;
          place = now.settled.place;
          is = now.settled.is;
          only = λ c is. now.settled.only c ((r.time.stays (disk_says.moment old.disk) c (omega arith)).0 (subst (λ (t : ℕ). disk_says.image new.disk t c) r.time.same is));
        };
      }

  -- then the batch is written
  pub writes_after : (old mid : SnapshotForm K) (disk : K) (batch : List Record) (body : Option (List ℕ)) → IsRoomier disk_says.is_honest disk_says.content disk_says.moment disk_says.image disk_says.faults disk_says.armings old mid →
      Keeps disk_says old mid.disk → with_octets mid.batches body ≡ with_batch old.live.version old.batches batch → octets_in_doubt body ≡ batch_in_doubt old.live.version batch →
      AtEachMoment disk_says.moment disk_says.image mid.disk disk (λ i. IsTrue (disk_says.is_honest mid.disk) → HoldsEither mid body i) → Writes disk_says old batch disk
  writes_after old mid disk batch body r first same doubt second =
      let Either : List ℕ → Type 0 =
      λ i. (is_blank i ≡ false) × (Holds old.live old.batches (batch_in_doubt old.live.version batch) i ⊎ Holds old.live (with_batch old.live.version old.batches batch) [] i) in
      let P : List ℕ → Type 0 = λ i. IsTrue (disk_says.is_honest old.disk) → Either i in
      joined disk_says.moment disk_says.image old.disk mid.disk disk P
      (weaker disk_says.moment disk_says.image old.disk mid.disk _ P first (λ c holds h. ((holds h).0, inl (holds_any old.live old.batches (batch_in_doubt old.live.version batch) c (holds h).1))))
      (weaker disk_says.moment disk_says.image mid.disk disk _ P second (λ c holds h.
      let either = holds (subst (λ (b : Bool). IsTrue b) (sym r.honest) h) in
      elim either.1 [
        | inl was ↦ (either.0, inl (held_as mid.live old.live mid.batches old.batches (octets_in_doubt body) (batch_in_doubt old.live.version batch) c r.live r.batches doubt was))
        | inr is ↦ (either.0, inr (held_as mid.live old.live (with_octets mid.batches body) (with_batch old.live.version old.batches batch) [] [] c r.live same refl is))
      ]))

with_length : (start : ℕ) (batches : List (List ℕ)) (body : Option (List ℕ)) → length_of start (with_octets batches body) ≡ length_of start batches + added body
with_length start batches None = omega arith
with_length start batches (Some octets) = length_more start batches octets

-- the journal as a value of the model
abbrev journal_in : Live → List (List ℕ) → Journal
journal_in live batches = record { length' = length_of live.start batches; start = live.start; generation = live.generation; moved = is_moved live.area; version = live.version }

-- the journal after a batch
pub is_added : {K : Type 0} (old new : SnapshotForm K) (batch : List Record) (body : Option (List ℕ)) → IsBody old.live.version batch body → new.live ≡ old.live →
    new.batches ≡ with_octets old.batches body → IsAdded old batch new
is_added old new batch body spelled live batches = record {
  live = live;
  batches = batches ∙ body_with old.live.version old.batches batch body spelled;
  journal =
      ap (λ (l : Live). journal_in l new.batches) live
      ∙ ap (journal_in old.live) batches
      ∙ ap (λ (n : ℕ). record (journal_in old.live old.batches) { length' = n }) (with_length old.live.start old.batches body ∙ ap (λ (n : ℕ). length_of old.live.start old.batches + n) (body_added old.live.version batch body spelled));
}

module _ {K E : Type 0} (disk_says : Disk.Ghosts K) (entropy_says : Entropy.Ghosts E) (is_up : ℕ → Bool) (event : Event) (old : ManagerForm K E) (journal : SnapshotForm K) (new : ManagerForm K E) (reply : Reply) where
  pub answers : (rest : OctetSequence) (c : Course) → ComesNext (entropy_says.left old.entropy) rest →
      Comes (journal_of journal) rest (random_need old.view event) (decided (site_of old.site) is_up old.view rest event) reply c
      (Rose (entropy_says.faults old.entropy) (entropy_says.faults new.entropy)) (HasDisk (λ disk. Rose (disk_says.faults journal.disk) (disk_says.faults disk)) new.standing)
      (entropy_says.faults new.entropy ≡ entropy_says.faults old.entropy) (HasDisk (λ disk. disk_says.faults disk ≡ disk_says.faults journal.disk) new.standing) →
      IsAfter disk_says entropy_says old journal c new reply → Answers disk_says entropy_says is_up event old journal new reply
  answers rest c next comes after = record {
    rest = rest;
    environment = comes.environment;
    next = next;
    shown = comes.shown;
    entropy_fault = comes.entropy_fault;
    entropy_asked = comes.entropy_asked;
    disk_fault = comes.disk_fault;
    entropy_calm = comes.no_entropy_fault;
    disk_calm = comes.no_disk_fault;
    after = subst (λ (x : Course). IsAfter disk_says entropy_says old journal x new reply) (sym comes.course) after;
  }

module _ {K E : Type 0} (disk_says : Disk.Ghosts K) (entropy_says : Entropy.Ghosts E) (is_up : ℕ → Bool) (event : Event) (site : Declared) (v : View) (before : E) (journal : SnapshotForm K) where
  abbrev old : ManagerForm K E
  old = record { site = site; view = v; standing = Up journal; entropy = before }

  abbrev over : List ℕ → Decision
  over random = decide (site_of site) hop_sealing is_up v random event

  abbrev Answered : ManagerForm K E → Reply → Type 0
  Answered new reply = Answers disk_says entropy_says is_up event old journal new reply

  abbrev Rises : E → Type 0
  Rises after = Rose (entropy_says.faults before) (entropy_says.faults after)

  abbrev Fails : ManagerForm K E → Type 0
  Fails new = HasDisk (λ disk. Rose (disk_says.faults journal.disk) (disk_says.faults disk)) new.standing

  abbrev Rests : E → Type 0
  Rests after = entropy_says.faults after ≡ entropy_says.faults before

  abbrev Lasts : ManagerForm K E → Type 0
  Lasts new = HasDisk (λ disk. disk_says.faults disk ≡ disk_says.faults journal.disk) new.standing

  -- the manager stays as it was
  pub stayed : (j : SnapshotForm K) (site' : Declared) (v' : View) (after : E) (reply : Reply) → IsRoomier disk_says.is_honest disk_says.content disk_says.moment disk_says.image disk_says.faults disk_says.armings journal j →
      (IsTrue (disk_says.is_honest journal.disk) → IsKept journal.live journal.batches (disk_says.content journal.disk) (disk_says.image journal.disk (disk_says.moment journal.disk))) →
      v' ≡ v → IsDrawn (entropy_says.left before) 0 (entropy_says.left after) → HasStayed disk_says entropy_says old journal reply (record { site = site'; view = v'; standing = Up j; entropy = after }) reply
  stayed j site' v' after reply r kept same left = record {
    answer = refl;
    view = same;
    entropy = left;
    up = (r.live, r.batches, roomier_keeps disk_says journal j r kept);
  }

  -- the event makes no step
  pub back : (j : SnapshotForm K) (site' : Declared) (v' : View) (reply : Reply) → IsRoomier disk_says.is_honest disk_says.content disk_says.moment disk_says.image disk_says.faults disk_says.armings journal j →
      (IsTrue (disk_says.is_honest journal.disk) → IsKept journal.live journal.batches (disk_says.content journal.disk) (disk_says.image journal.disk (disk_says.moment journal.disk))) → v' ≡ v →
      ((random : List ℕ) → length random ≡ random_need v event → IsHeldBack (journal_of journal) (over random) reply) →
      Answered (record { site = site'; view = v'; standing = Up j; entropy = before }) reply
  back j site' v' reply r kept same held =
      let new : ManagerForm K E = record { site = site'; view = v'; standing = Up j; entropy = before } in
      let rest = some_rest (entropy_says.left before) in
      let random : List ℕ = octets_from rest.0.octet 0 (random_need v event) in
      answers disk_says entropy_says is_up event old journal new reply rest.0 (Stays reply) rest.1
      (held_back (journal_of journal) rest.0 (random_need v event) (Rises before) (Fails new) (Rests before) (Lasts new) (over random) reply (held random (from_length rest.0.octet 0 (random_need v event))) refl r.failed)
      (stayed j site' v' before reply r kept same (untouched (entropy_says.left before)))

  -- what is known of a step that was decided over zeros
  pub record IsMadeOver (zeros : List ℕ) (s : Step) (body : Option (List ℕ)) : Type 0 where
    pub need : length zeros ≡ random_need v event
    pub step : IsStep v (placings_of event) (over zeros) (Ok s)
    pub spelled : IsBody journal.live.version s.batch body
    pub within : (journal_of journal).length' + added body ≤ journal_limit

  -- the effect of this step with the drawn octets
  pub record HasEffect (random : List ℕ) (s : Step) : Type 0 where
    pub effect : Effect
    pub is : over random ≡ Does effect
    pub same : IsEffect v (placings_of event) effect (record s { batch = with_random random s.batch })
    pub place : HasRoomFor (journal_of journal) effect

  pub drawn_effect : AreOver → (zeros random : List ℕ) (s : Step) (body : Option (List ℕ)) → IsMadeOver zeros s body → length random ≡ random_need v event → HasEffect random s
  drawn_effect laws zeros random s body made as_many =
      let step = step_drawn laws (site_of site) hop_sealing is_up v (placings_of event) zeros random event s made.need as_many made.step in
      let found = effect_of v (placings_of event) (over random) (record s { batch = with_random random s.batch }) step in
      record {
        effect = found.0;
        is = found.1;
        same = found.2;
        place = has_place (journal_of journal) v (placings_of event) found.0 s random body found.2 made.spelled made.within;
      }

  -- no octets could be drawn
  pub undrawn : AreOver → (T : Type 0) (zeros into : List ℕ) (s : Step) (body : Option (List ℕ)) (j : SnapshotForm K) (site' : Declared) (v' : View) (after : E) (why : Shortage) → IsMadeOver zeros s body →
      IsRoomier disk_says.is_honest disk_says.content disk_says.moment disk_says.image disk_says.faults disk_says.armings journal j →
      (IsTrue (disk_says.is_honest journal.disk) → IsKept journal.live journal.batches (disk_says.content journal.disk) (disk_says.image journal.disk (disk_says.moment journal.disk))) → v' ≡ v →
      Gives {T = T} (entropy_says.left before) (entropy_says.left after) (Err why) (length zeros) into → (why ≡ Failed → Rises after) → ((why ≡ Failed → ⊥) → Rests after) →
      Answered (record { site = site'; view = v'; standing = Up j; entropy = after }) replies.NoRandom
  undrawn laws T zeros into s body j site' v' after why made r kept same gives cause calm =
      let new : ManagerForm K E = record { site = site'; view = v'; standing = Up j; entropy = after } in
      let given = not_drawn T (entropy_says.left before) (entropy_says.left after) why (random_need v event) into (subst (λ (n : ℕ). Gives {T = T} (entropy_says.left before) (entropy_says.left after) (Err why) n into) made.need gives) in
      let random : List ℕ = octets_from given.rest.octet 0 (random_need v event) in
      let e = drawn_effect laws zeros random s body made (from_length given.rest.octet 0 (random_need v event)) in
      let comes : Comes (journal_of journal) given.rest (random_need v event) (Does e.effect) replies.NoRandom (Stays replies.NoRandom) (Rises after) (Fails new) (Rests after) (Lasts new) =
      elim given.cause [
        | inl none ↦
            let ended : why ≡ Failed → ⊥ = λ is. absurd (cc (sym none.0 ∙ is)) in
            without_end (journal_of journal) given.rest (random_need v event) (Rises after) (Fails new) (Rests after) (Lasts new) e.effect e.place given.wanted none.1 (calm ended) r.failed
        | inr failed ↦ with_fault (journal_of journal) given.rest (random_need v event) (Rises after) (Fails new) (Rests after) (Lasts new) e.effect e.place given.wanted (cause failed) r.failed
      ] in
      answers disk_says entropy_says is_up event old journal new replies.NoRandom given.rest (Stays replies.NoRandom) given.next
      (subst (λ (d : Decision). Comes (journal_of journal) given.rest (random_need v event) d replies.NoRandom (Stays replies.NoRandom) (Rises after) (Fails new) (Rests after) (Lasts new)) (sym e.is) comes)
      (stayed j site' v' after replies.NoRandom r kept same given.left)

  -- the drawn octets are the next ones
  pub record IsNext (random : List ℕ) (after : E) (s : Step) : Type 0 where
    pub rest : OctetSequence
    pub next : ComesNext (entropy_says.left before) rest
    pub there : 0 < random_need v event → has_octets rest (random_need v event) ≡ true
    pub left : IsDrawn (entropy_says.left before) (random_need v event) (entropy_says.left after)
    pub is : (effect : Effect) × (decided (site_of site) is_up v rest event ≡ Does effect) × IsEffect v (placings_of event) effect (record s { batch = with_random random s.batch }) × HasRoomFor (journal_of journal) effect

  is_next : AreOver → {T : Type 0} (zeros random : List ℕ) (s : Step) (body : Option (List ℕ)) (after : E) (done : T) → IsMadeOver zeros s body → length random ≡ length zeros →
      Gives (entropy_says.left before) (entropy_says.left after) (Ok done) (length random) random → IsNext random after s
  is_next laws zeros random s body after done made as_many gives =
      let need : length random ≡ random_need v event = as_many ∙ made.need in
      let given = drawn (entropy_says.left before) (entropy_says.left after) done random gives in
      let e = drawn_effect laws zeros random s body made need in
      let octets : octets_from given.rest.octet 0 (random_need v event) ≡ random = ap (octets_from given.rest.octet 0) (sym need) ∙ given.are in
      record {
        rest = given.rest;
        next = given.next;
        there = λ some. subst (λ (n : ℕ). has_octets given.rest n ≡ true) need (given.there (subst (λ (n : ℕ). 0 < n) (sym need) some));
        left = subst (λ (n : ℕ). IsDrawn (entropy_says.left before) n (entropy_says.left after)) need given.left;
        is = (e.effect, ap over octets ∙ e.is, e.same, e.place);
      }

  -- what is known after the disk was written
  pub record IsWritten (mid : SnapshotForm K) (s : Step) (body : Option (List ℕ)) (disk : K) : Type 0 where
    pub roomier : IsRoomier disk_says.is_honest disk_says.content disk_says.moment disk_says.image disk_says.faults disk_says.armings journal mid
    pub kept : IsTrue (disk_says.is_honest journal.disk) → IsKept journal.live journal.batches (disk_says.content journal.disk) (disk_says.image journal.disk (disk_says.moment journal.disk))
    pub spelled : IsBody journal.live.version s.batch body
    pub moments : AtEachMoment disk_says.moment disk_says.image mid.disk disk (λ i. IsTrue (disk_says.is_honest mid.disk) → HoldsEither mid body i)

  writes : (mid : SnapshotForm K) (s : Step) (body : Option (List ℕ)) (disk : K) (e : Effect) → IsWritten mid s body disk → IsEffect v (placings_of event) e s → Writes disk_says journal e.batch disk
  writes mid s body disk e w is =
      writes_after disk_says journal mid disk e.batch body w.roomier (roomier_keeps disk_says journal mid w.roomier w.kept)
      (ap (λ (bs : List (List ℕ)). with_octets bs body) w.roomier.batches ∙ body_with journal.live.version journal.batches s.batch body w.spelled ∙ ap (with_batch journal.live.version journal.batches) is.batch)
      (body_in_doubt journal.live.version s.batch body w.spelled ∙ ap (batch_in_doubt journal.live.version) is.batch) w.moments

  -- the manager stopped
  pub stopped : AreOver → {T : Type 0} (zeros random : List ℕ) (s : Step) (body body' : Option (List ℕ)) (after : E) (done : T) (mid : SnapshotForm K) (disk : K) (site' : Declared) (v' : View) (reply : Reply) → IsMadeOver zeros s body → length random ≡ length zeros →
      Gives (entropy_says.left before) (entropy_says.left after) (Ok done) (length random) random → IsWritten mid (record s { batch = with_random random s.batch }) body' disk → reply ≡ replies.Stopped → IsSome body' → Rose (disk_says.faults mid.disk) (disk_says.faults disk) → v' ≡ v → Rests after →
      Answered (record { site = site'; view = v'; standing = Down disk; entropy = after }) reply
  stopped laws zeros random s body body' after done mid disk site' v' reply made as_many gives w answer some rose left calm =
      let new : ManagerForm K E = record { site = site'; view = v'; standing = Down disk; entropy = after } in
      let n = is_next laws zeros random s body after done made as_many gives in
      let drawn_step : Step = record s { batch = with_random random s.batch } in
      let written : is_nil n.is.0.batch ≡ false = ap is_nil (sym n.is.2.batch) ∙ body_is_written journal.live.version drawn_step.batch body' w.spelled some in
      let fails : Fails new = subst (λ (m : ℕ). Rose m (disk_says.faults disk)) w.roomier.failed rose in
      let comes = stopping (journal_of journal) n.rest (random_need v event) (Rises after) (Fails new) (Rests after) (Lasts new) n.is.0 n.is.3 n.there written fails calm in
      answers disk_says entropy_says is_up event old journal new reply n.rest (Stops (random_need v event) n.is.0) n.next
      (subst (λ (r : Reply). Comes (journal_of journal) n.rest (random_need v event) (decided (site_of site) is_up v n.rest event) r (Stops (random_need v event) n.is.0) (Rises after) (Fails new) (Rests after) (Lasts new)) (sym answer)
      (subst (λ (d : Decision). Comes (journal_of journal) n.rest (random_need v event) d replies.Stopped (Stops (random_need v event) n.is.0) (Rises after) (Fails new) (Rests after) (Lasts new)) (sym n.is.1) comes))
      (record {
        answer = answer;
        view = left;
        entropy = n.left;
        spelled = (body', subst (λ (rs : List Record). IsBody journal.live.version rs body') n.is.2.batch w.spelled);
        down = writes mid drawn_step body' disk n.is.0 w n.is.2;
      })

  -- the effect took place
  pub gone : AreOver → {T : Type 0} (zeros random : List ℕ) (s : Step) (body body' : Option (List ℕ)) (after : E) (done : T) (mid j : SnapshotForm K) (site' : Declared) (v' : View) (reply : Reply) → IsMadeOver zeros s body → length random ≡ length zeros →
      Gives (entropy_says.left before) (entropy_says.left after) (Ok done) (length random) random → IsWritten mid (record s { batch = with_random random s.batch }) body' j.disk →
      j.live ≡ mid.live → j.batches ≡ with_octets mid.batches body' → IsTaken v (placings_of event) (record s { batch = with_random random s.batch }) v' reply → Rests after → disk_says.faults j.disk ≡ disk_says.faults mid.disk →
      Answered (record { site = site'; view = v'; standing = Up j; entropy = after }) reply
  gone laws zeros random s body body' after done mid j site' v' reply made as_many gives w live batches taken calm still =
      let new : ManagerForm K E = record { site = site'; view = v'; standing = Up j; entropy = after } in
      let n = is_next laws zeros random s body after done made as_many gives in
      let drawn_step : Step = record s { batch = with_random random s.batch } in
      let answer : reply ≡ n.is.0.reply = taken.answer ∙ n.is.2.reply in
      let comes = going (journal_of journal) n.rest (random_need v event) (Rises after) (Fails new) (Rests after) (Lasts new) n.is.0 n.is.3 n.there calm (still ∙ w.roomier.failed) in
      let spelled : IsBody journal.live.version n.is.0.batch body' = subst (λ (rs : List Record). IsBody journal.live.version rs body') n.is.2.batch w.spelled in
      answers disk_says entropy_says is_up event old journal new reply n.rest (Goes (random_need v event) n.is.0) n.next
      (subst (λ (r : Reply). Comes (journal_of journal) n.rest (random_need v event) (decided (site_of site) is_up v n.rest event) r (Goes (random_need v event) n.is.0) (Rises after) (Fails new) (Rests after) (Lasts new)) (sym answer)
      (subst (λ (d : Decision). Comes (journal_of journal) n.rest (random_need v event) d n.is.0.reply (Goes (random_need v event) n.is.0) (Rises after) (Fails new) (Rests after) (Lasts new)) (sym n.is.1) comes))
      (record {
        answer = answer;
        view = taken.view n.is.0 n.is.2;
        entropy = n.left;
        spelled = (body', spelled);
        up = (is_added journal j n.is.0.batch body' spelled (live ∙ w.roomier.live) (batches ∙ ap (λ (bs : List (List ℕ)). with_octets bs body') w.roomier.batches), writes mid drawn_step body' j.disk n.is.0 w n.is.2);
      })
