-- The counts of a post.
use Rattle.std.proofs.Common.{◌≡◌, ℕ, ◌<◌, ◌≤◌, Bool, true, false, ◌&&◌, List, refl, sym, ap, subst, ◌∙◌, arith}
use Rattle.std.specs.Prelude.{Option, Some}
use Rattle.qkd_base.specs.Faults.{Rose}
use Rattle.qkd_base.specs.declared.lane.Lane.{Lane}
use Rattle.net_model.specs.World.{Network, World}
use Rattle.net_model.specs.View.{View}
use Rattle.net_model.specs.Decide.{random_need}
use Rattle.net_model.specs.declared.event.Event.TheVariants.{Block, Heard}
use Rattle.net_model.specs.Action.{Environment, OutOfMemory, EntropyFault, IoFault, DeviceFault, is_entropy_fault, is_io_fault, Ok as Fine}
use Rattle.declared_site.specs.declared.site.Site.{Site as Declared}
use Rattle.kme_store.specs.Manager.{ManagerForm, HasDisk}
use Rattle.kme_store.specs.declared.manager_state.Standing.{Standing}
use Rattle.kme_store.specs.declared.manager_state.Standing.TheVariants.{Up, Down, Between}
use Rattle.kme_store.specs.declared.post.Post.{Post}
use Rattle.kme_store.specs.declared.post.Post.TheVariants.{On, Off}
use Rattle.world_nodes.specs.Stands.{StandingStands, PostStands}
use Rattle.world_nodes.specs.Counts.{disk_in, disk_of, entropy_of, IsCounted, Counts}
use Rattle.disk_model.specs.declared.disk.Disk as Disk
use Rattle.source_devices.specs.declared.entropy.Entropy as Entropy

some_same : {A : Type 0} {a b : A} → ◌≡◌ {A = Option A} (Some a) (Some b) → a ≡ b
some_same h = cc

-- the disk of a manager

pub disk_there : {K : Type 0} (P : K → Type 0) (s : Standing K) → HasDisk P s → (disk : K) × (disk_in s ≡ Some disk) × P disk
disk_there P (Up journal) h = (journal.disk, refl, h)
disk_there P (Down disk) h = (disk, refl, h)
disk_there P Between h = absurd h

at_disk : {K : Type 0} (P : K → Type 0) (s : Standing K) (disk : K) → disk_in s ≡ Some disk → HasDisk P s → P disk
at_disk P (Up journal) disk is h = subst P (some_same is) h
at_disk P (Down left) disk is h = subst P (some_same is) h
at_disk P Between disk is h = absurd h

pub disk_weaker : {K : Type 0} (P Q : K → Type 0) → ((disk : K) → P disk → Q disk) → (s : Standing K) → HasDisk P s → HasDisk Q s
disk_weaker P Q f (Up journal) h = f journal.disk h
disk_weaker P Q f (Down disk) h = f disk h
disk_weaker P Q f Between h = absurd h

module _ {K : Type 0} (disk_says : Disk.Ghosts K) (net : Network) (w : World) (v : ℕ) where
  standing_disk : (site : Declared) (view : View) (s : Standing K) → StandingStands disk_says net w v site view s → (disk : K) × (disk_in s ≡ Some disk)
  standing_disk site view (Up journal) h = (journal.disk, refl)
  standing_disk site view (Down disk) h = (disk, refl)
  standing_disk site view Between h = absurd h

  pub post_disk : {E : Type 0} (entropy_says : Entropy.Ghosts E) (post : Post K E) → PostStands disk_says entropy_says net w v post → (disk : K) × (disk_of post ≡ Some disk)
  post_disk entropy_says (On m) h = standing_disk m.site m.view m.standing h.standing
  post_disk entropy_says (Off disk entropy) h = (disk, refl)

-- the kinds of answers of the environment

pub fails_disk : (environment : Environment) → is_io_fault environment ≡ true → environment ≡ IoFault
fails_disk Fine h = absurd (cc h)
fails_disk OutOfMemory h = absurd (cc h)
fails_disk EntropyFault h = absurd (cc h)
fails_disk IoFault h = refl
fails_disk DeviceFault h = absurd (cc h)

pub fails_entropy : (environment : Environment) → is_entropy_fault environment ≡ true → environment ≡ EntropyFault
fails_entropy Fine h = absurd (cc h)
fails_entropy OutOfMemory h = absurd (cc h)
fails_entropy EntropyFault h = refl
fails_entropy IoFault h = absurd (cc h)
fails_entropy DeviceFault h = absurd (cc h)

pub no_disk_fault : (environment : Environment) → is_io_fault environment ≡ false → environment ≡ IoFault → ⊥
no_disk_fault environment none is = let bad : true ≡ false = sym (ap is_io_fault is) ∙ none in cc bad

pub no_entropy_fault : (environment : Environment) → is_entropy_fault environment ≡ false → environment ≡ EntropyFault → ⊥
no_entropy_fault environment none is = let bad : true ≡ false = sym (ap is_entropy_fault is) ∙ none in cc bad

pub here_too : (a b : Bool) → a ≡ true → (a && b) ≡ b
here_too true b h = refl
here_too false b h = cc

-- An entropy that wasn't asked didn't fail.

pub not_asked : (environment : Environment) (n : ℕ) → n ≡ 0 → (environment ≡ EntropyFault → 0 < n) → is_entropy_fault environment ≡ false
not_asked Fine n none asked = refl
not_asked OutOfMemory n none asked = refl
not_asked EntropyFault n none asked = let some = asked refl in absurd (omega (arith, none, some))
not_asked IoFault n none asked = refl
not_asked DeviceFault n none asked = refl

pub none_heard : (view : View) (l : Lane) (octets : List ℕ) → random_need view (Heard l octets) ≡ 0
unfolding random_need
none_heard view l octets = refl

pub none_taken : (view : View) (link number : ℕ) (octets : List ℕ) → random_need view (Block link number octets) ≡ 0
unfolding random_need
none_taken view link number octets = refl

pub still : (n : ℕ) → IsCounted false n n
still n = record { later = omega arith; rose = λ other. absurd (cc other); calm = λ none. refl }

module _ {K E : Type 0} (disk_says : Disk.Ghosts K) (entropy_says : Entropy.Ghosts E) where
  -- Nothing changed.
  pub unchanged : (post : Post K E) (disk : K) → disk_of post ≡ Some disk → Counts disk_says entropy_says false false post post
  unchanged post disk is = record { before = disk; now = disk; was = is; is = is; disk = still (disk_says.faults disk); arms = refl; entropy = still (entropy_says.faults (entropy_of post)) }

  -- the same counts, where the entropy can't have failed
  pub spared : (disk_fault entropy_fault other : Bool) (old new : Post K E) → entropy_fault ≡ other → Counts disk_says entropy_says disk_fault entropy_fault old new →
      Counts disk_says entropy_says disk_fault other old new
  spared disk_fault entropy_fault other old new same h = subst (λ (f : Bool). Counts disk_says entropy_says disk_fault f old new) same h

  -- a manager that handles an event
  pub counted : (disk_fault entropy_fault : Bool) (old new : ManagerForm K E) →
      HasDisk (λ before. HasDisk (λ disk. (disk_says.is_honest disk ≡ disk_says.is_honest before) × (disk_says.armings disk ≡ disk_says.armings before)) new.standing) old.standing →
      HasDisk (λ before. HasDisk (λ disk. disk_says.faults before ≤ disk_says.faults disk) new.standing) old.standing → entropy_says.faults old.entropy ≤ entropy_says.faults new.entropy →
      (disk_fault ≡ true → HasDisk (λ before. HasDisk (λ disk. Rose (disk_says.faults before) (disk_says.faults disk)) new.standing) old.standing) →
      (disk_fault ≡ false → HasDisk (λ before. HasDisk (λ disk. disk_says.faults disk ≡ disk_says.faults before) new.standing) old.standing) →
      (entropy_fault ≡ true → Rose (entropy_says.faults old.entropy) (entropy_says.faults new.entropy)) → (entropy_fault ≡ false → entropy_says.faults new.entropy ≡ entropy_says.faults old.entropy) →
      Counts disk_says entropy_says disk_fault entropy_fault (On old) (On new)
  counted disk_fault entropy_fault old new same later drawn fails calm refused spared =
      let p = disk_there (λ before. HasDisk (λ disk. (disk_says.is_honest disk ≡ disk_says.is_honest before) × (disk_says.armings disk ≡ disk_says.armings before)) new.standing) old.standing same in
      let q = disk_there (λ disk. (disk_says.is_honest disk ≡ disk_says.is_honest p.0) × (disk_says.armings disk ≡ disk_says.armings p.0)) new.standing p.2 in
      let at : (R : K → K → Type 0) → HasDisk (λ before. HasDisk (λ disk. R before disk) new.standing) old.standing → R p.0 q.0 =
      λ R h. at_disk (λ disk. R p.0 disk) new.standing q.0 q.1 (at_disk (λ before. HasDisk (λ disk. R before disk) new.standing) old.standing p.0 p.1 h) in
      record {
        before = p.0;
        now = q.0;
        was = p.1;
        is = q.1;
        disk = record {
          later = at (λ before disk. disk_says.faults before ≤ disk_says.faults disk) later;
          rose = λ fault. at (λ before disk. Rose (disk_says.faults before) (disk_says.faults disk)) (fails fault);
          calm = λ none. at (λ before disk. disk_says.faults disk ≡ disk_says.faults before) (calm none);
        };
        arms = q.2.1;
        entropy = record { later = drawn; rose = refused; calm = spared };
      }
