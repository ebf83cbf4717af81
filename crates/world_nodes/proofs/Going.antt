-- If a manager of the network stays as it was, its post goes on.
use Rattle.std.proofs.Common.{ℕ, sym, subst, ◌∙◌}
use Rattle.net_model.specs.World.{Network, World}
use Rattle.net_model.specs.View.{View}
use Rattle.declared_site.specs.declared.site.Site.{Site as Declared}
use Rattle.source_devices.specs.Telling.{IsRest}
use Rattle.law_locality.specs.Touched.{ManagerStays}
use Rattle.kme_store.specs.declared.manager_state.Standing.{Standing}
use Rattle.kme_store.specs.declared.manager_state.Standing.TheVariants.{Up, Down, Between}
use Rattle.kme_store.specs.declared.post.Post.{Post}
use Rattle.kme_store.specs.declared.post.Post.TheVariants.{On, Off}
use Rattle.journal_snapshot.specs.Snapshots.{SnapshotForm}
use Rattle.world_nodes.proofs.Images.{image_on, fits_on}
use Rattle.world_nodes.specs.Stands.{EntropyStands, UpStands, DownStands, StandingStands, PostStands}
use Rattle.disk_model.specs.declared.disk.Disk as Disk
use Rattle.source_devices.specs.declared.entropy.Entropy as Entropy

module _ {K E : Type 0} (disk_says : Disk.Ghosts K) (entropy_says : Entropy.Ghosts E) (net : Network) (w w' : World) (v : ℕ) (s : ManagerStays net v w w') where
  entropy_on : (e : E) → EntropyStands entropy_says net w v e → EntropyStands entropy_says net w' v e
  entropy_on e h = record { rest = h.rest; tells = h.tells; left = subst (λ (n : ℕ). IsRest (net.entropy v) n h.rest) (sym s.drawn) h.left }

  up_on : (site : Declared) (view : View) (journal : SnapshotForm K) → UpStands disk_says net w v site view journal → UpStands disk_says net w' v site view journal
  up_on site view journal h = record {
    up = s.up ∙ h.up;
    sited = h.sited;
    sees = h.sees ∙ sym s.view;
    journaled = h.journaled ∙ sym s.journal;
    honest = h.honest;
    told = h.told;
  }

  down_on : (disk : K) → DownStands disk_says net w v disk → DownStands disk_says net w' v disk
  down_on disk h = record { down = s.up ∙ h.down; honest = h.honest; fits = fits_on net w w' v s.journal s.in_doubt s.view (λ h. s.interrupted ∙ h) h.fits; images = λ i is. image_on net w w' v s.journal s.in_doubt s.view (λ h. s.interrupted ∙ h) i (h.images i is) }

  standing_on : (site : Declared) (view : View) (t : Standing K) → StandingStands disk_says net w v site view t → StandingStands disk_says net w' v site view t
  standing_on site view (Up journal) h = up_on site view journal h
  standing_on site view (Down disk) h = down_on disk h
  standing_on site view Between h = h

  pub post_on : (post : Post K E) → PostStands disk_says entropy_says net w v post → PostStands disk_says entropy_says net w' v post
  post_on (On m) h = record { entropy = entropy_on m.entropy h.entropy; standing = standing_on m.site m.view m.standing h.standing }
  post_on (Off disk entropy) h = (entropy_on entropy h.0, down_on disk h.1)
