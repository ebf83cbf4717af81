-- A checkpoint that is due, and one that isn't.
use Rattle.std.proofs.Common.{◌≡◌, ◌⊎◌, inl, inr, ℕ, Bool, true, false, IsTrue, not, ◌&&◌, List, [], sym, ap, subst, ◌∙◌}
use Rattle.std.specs.Prelude.{◌==◌, ◌||◌, ◌^◌, nat_le, nat_lt, ◌+◌, ◌-◌, if◌then◌else◌}
use Rattle.disk_model.specs.Images.{AtEachMoment}
use Rattle.disk_model.proofs.Moments.{started, weaker}
use Rattle.std.proofs.lemmas.Bool.{false≢true}
use Rattle.net_model.specs.World.{Journal}
use Rattle.net_model.specs.Journal.{checkpoint_place, checkpointed, is_checkpoint_due, journal_limit}
use Rattle.range_journal.specs.Header.{is_blank}
use Rattle.journal_snapshot.specs.declared.live.Live.{Live}
use Rattle.journal_snapshot.specs.Refused.{IsReplaced, place_of}
use Rattle.journal_snapshot.specs.Snapshots.{SnapshotForm, journal_of, need_of, fits_in, moved_to}
use Rattle.journal_snapshot.specs.Standing.{Holds, IsKept}
use Rattle.kme_journal.specs.Putting.{HoldsEither, IsPut}

-- the journal is long or old
abbrev pub is_ripe : ℕ → ℕ → Bool
is_ripe long version = not ((long == 0) || ((version == 1) && (long == 17))) && (nat_le 65536 long || (version == 1))

pub ripe_due : (j : Journal) (octets : ℕ) (ripe : Bool) → ripe ≡ is_ripe j.length' j.version → ripe ≡ true → fits_in j octets ≡ is_checkpoint_due j octets
unfolding is_checkpoint_due
ripe_due j octets ripe is ripe_is =
    ap (λ (t : Bool). t && nat_le (checkpoint_place j octets + octets) journal_limit && nat_lt j.generation (2 ^ 64 - 1)) (sym ripe_is ∙ is)

pub unripe_due : (j : Journal) (octets : ℕ) (ripe : Bool) → ripe ≡ is_ripe j.length' j.version → ripe ≡ false → is_checkpoint_due j octets ≡ false
unfolding is_checkpoint_due
unripe_due j octets ripe is ripe_is =
    ap (λ (t : Bool). t && nat_le (checkpoint_place j octets + octets) journal_limit && nat_lt j.generation (2 ^ 64 - 1)) (sym is ∙ ripe_is)

module _ {K : Type 0} where
  pub kept_as : (made : Bool) (old new : SnapshotForm K) (bodies : List (List ℕ)) → made ≡ false → new ≡ old → IsPut made old bodies new
  kept_as made old new bodies unmade same = record {
    live = ap (λ (s : SnapshotForm K). s.live) same ∙ ap (λ (t : Bool). if t then moved_to old.live (place_of old bodies) else old.live) (sym unmade);
    batches = ap (λ (s : SnapshotForm K). s.batches) same ∙ ap (λ (t : Bool). if t then bodies else old.batches) (sym unmade);
    journal = ap journal_of same ∙ ap (λ (t : Bool). if t then checkpointed (journal_of old) (need_of bodies) else journal_of old) (sym unmade);
  }

  pub moved_as : (made : Bool) (old new : SnapshotForm K) (bodies : List (List ℕ)) → made ≡ true → IsReplaced old bodies new → journal_of new ≡ checkpointed (journal_of old) (need_of bodies) → IsPut made old bodies new
  moved_as made old new bodies made_is is journal = record {
    live = is.live ∙ ap (λ (t : Bool). if t then moved_to old.live (place_of old bodies) else old.live) (sym made_is);
    batches = is.now ∙ ap (λ (t : Bool). if t then bodies else old.batches) (sym made_is);
    journal = journal ∙ ap (λ (t : Bool). if t then checkpointed (journal_of old) (need_of bodies) else journal_of old) (sym made_is);
  }

  pub put_as : (made due : Bool) (old new : SnapshotForm K) (bodies more : List (List ℕ)) → made ≡ due → bodies ≡ more → IsPut made old bodies new → IsPut due old more new
  put_as made due old new bodies more a b is = subst (λ (t : Bool). IsPut t old more new) a (subst (λ (bs : List (List ℕ)). IsPut made old bs new) b is)

module _ {D : Type 0} (is_honest : Bool) (moment : D → ℕ) (image : D → ℕ → List ℕ → Type 0) where
  -- the disk isn't touched
  pub untouched : (disk : D) (content : List ℕ) (live : Live) (bodies : List (List ℕ)) (P : List ℕ → Type 0) → (IsTrue is_honest → IsKept live bodies content (image disk (moment disk))) → ((i : List ℕ) → is_blank i ≡ false → Holds live bodies [] i → P i) →
      AtEachMoment moment image disk disk (λ i. IsTrue is_honest → P i)
  untouched disk content live bodies P kept into =
      started moment image disk (λ i. IsTrue is_honest → P i) (λ i there h.
      let same : i ≡ content = (kept h).settled.only i there in
      into i (subst (λ (c : List ℕ). is_blank c ≡ false) (sym same) (kept h).plain) (subst (Holds live bodies []) (sym same) (kept h).holds))

  pub under : (old new : D) (P Q : List ℕ → Type 0) → ((i : List ℕ) → P i → Q i) → AtEachMoment moment image old new (λ i. IsTrue is_honest → P i) → AtEachMoment moment image old new (λ i. IsTrue is_honest → Q i)
  under old new P Q implies run = weaker moment image old new (λ i. IsTrue is_honest → P i) (λ i. IsTrue is_honest → Q i) run (λ i p h. implies i (p h))

pub old_held : (made : Bool) (spelled : Type 0) (live : Live) (old : List (List ℕ)) (place : ℕ) (bodies : List (List ℕ)) (i : List ℕ) → is_blank i ≡ false → Holds live old [] i → HoldsEither made spelled live old place bodies i
old_held made spelled live old place bodies i plain is = inl ((λ unmade. plain), is)

pub either_held : (made : Bool) (live : Live) (old : List (List ℕ)) (place : ℕ) (bodies : List (List ℕ)) → made ≡ true → (i : List ℕ) → Holds live old [] i ⊎ Holds (moved_to live place) bodies [] i → HoldsEither made (Unit {0}) live old place bodies i
either_held made live old place bodies made_is i (inl is) = inl ((λ unmade. absurd (false≢true (sym unmade ∙ made_is))), is)
either_held made live old place bodies made_is i (inr is) = inr (made_is, tt, is)

more_spelled : (made : Bool) (spelled : Type 0) (live : Live) (old : List (List ℕ)) (place : ℕ) (bodies : List (List ℕ)) → spelled → (i : List ℕ) → HoldsEither made (Unit {0}) live old place bodies i → HoldsEither made spelled live old place bodies i
more_spelled made spelled live old place bodies s i (inl is) = inl is
more_spelled made spelled live old place bodies s i (inr is) = inr (is.0, s, is.2)

pub held_as : (made due : Bool) (spelled : Type 0) (live : Live) (old : List (List ℕ)) (place there : ℕ) (bodies more : List (List ℕ)) → made ≡ due → place ≡ there → bodies ≡ more → spelled → (i : List ℕ) →
    HoldsEither made (Unit {0}) live old place bodies i → HoldsEither due spelled live old there more i
held_as made due spelled live old place there bodies more a b c s i is =
    subst (λ (t : Bool). HoldsEither t spelled live old there more i) a
    (subst (λ (n : ℕ). HoldsEither made spelled live old n more i) b (subst (λ (bs : List (List ℕ)). HoldsEither made spelled live old place bs i) c (more_spelled made spelled live old place bodies s i is)))
