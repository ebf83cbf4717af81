-- Giving an event to a post.
use Rattle.std.proofs.Common.{◌≡◌, ℕ, ◌≤◌, true, false, refl, sym, ap, subst, ◌∙◌}
use Rattle.net_model.specs.declared.event.Event.{Event}
use Rattle.net_model.specs.declared.reply.Reply.{Reply}
use Rattle.net_model.specs.declared.reply.Reply.TheVariants as replies
use Rattle.net_model.specs.Site.{Site}
use Rattle.net_model.specs.World.{Network, World}
use Rattle.net_model.specs.View.{View}
use Rattle.net_model.specs.Needed.{view_of, masked}
use Rattle.net_model.specs.Events.{is_valid_event}
use Rattle.net_model.specs.Action.{Outcome, Ok as Fine}
use Rattle.declared_site.specs.SiteOf.{site_of}
use Rattle.declared_site.specs.declared.site.Site.{Site as Declared}
use Rattle.journal_snapshot.specs.Snapshots.{SnapshotForm}
use Rattle.kme_store.specs.Manager.{ManagerForm, HasDisk, Acts, is_up}
use Rattle.kme_store.specs.declared.manager_state.Standing.{Standing}
use Rattle.kme_store.specs.declared.manager_state.Standing.TheVariants.{Up, Down, Between}
use Rattle.kme_store.specs.declared.post.Post.{Post}
use Rattle.kme_store.specs.declared.post.Post.TheVariants.{On, Off}
use Rattle.world_nodes.specs.Stands.{UpStands, StandingStands, PostStands}
use Rattle.world_nodes.specs.Handled.{MayHandle, Handled}
use Rattle.world_nodes.proofs.Counted.{post_disk, unchanged}
use Rattle.world_nodes.proofs.Events.{acted, down_says}
use Rattle.disk_model.specs.declared.disk.Disk as Disk
use Rattle.source_devices.specs.declared.entropy.Entropy as Entropy

-- a post that is up or down

module _ {K : Type 0} (disk_says : Disk.Ghosts K) (net : Network) (w : World) (v : ℕ) (site : Declared) (view : View) where
  pub up_is : (s : Standing K) → is_up s ≡ true → StandingStands disk_says net w v site view s → (journal : SnapshotForm K) × UpStands disk_says net w v site view journal
  up_is (Up journal) up h = (journal, h)
  up_is (Down disk) up h = absurd (cc up)
  up_is Between up h = absurd h

  pub down_is : (s : Standing K) → is_up s ≡ false → StandingStands disk_says net w v site view s → w.up v ≡ false
  down_is (Up journal) down h = absurd (cc down)
  down_is (Down disk) down h = h.down
  down_is Between down h = absurd h

seen_by : (net : Network) (w : World) (v : ℕ) → (view_of net w v).me ≡ v
unfolding view_of masked
seen_by net w v = refl

module _ {K E : Type 0} (disk_says : Disk.Ghosts K) (entropy_says : Entropy.Ghosts E) (net : Network) (w : World) (v : ℕ) (m : ManagerForm K E)
    (up : is_up m.standing ≡ true) where
  -- A valid event of the node may be given to its manager.
  pub valid_there : (post : Post K E) → post ≡ On m → PostStands disk_says entropy_says net w v post → (event : Event) → is_valid_event net.site v event ≡ true → is_valid_event (site_of m.site) m.view.me event ≡ true
  valid_there post is stands event valid =
      let h : PostStands disk_says entropy_says net w v (On m) = subst (λ (p : Post K E). PostStands disk_says entropy_says net w v p) is stands in
      let u : UpStands disk_says net w v m.site m.view _ = (up_is disk_says net w v m.site m.view m.standing up h.standing).1 in
      ap (λ (s : Site). is_valid_event s m.view.me event) u.sited
      ∙ ap (λ (n : ℕ). is_valid_event net.site n event) (ap (λ (a : View). a.me) u.sees ∙ seen_by net w v)
      ∙ valid

module _ {K E : Type 0} (disk_says : Disk.Ghosts K) (entropy_says : Entropy.Ghosts E)
    (net : Network) (w : World) (v : ℕ) (event : Event) (up : ℕ) where
  abbrev May : Post K E → Type 0
  May post = MayHandle disk_says entropy_says net w v post event up

  abbrev IsHandled : Post K E → Post K E → Reply → Type 0
  IsHandled old new reply = Handled disk_says entropy_says net w v event old new reply

  pub handled_up : (post : Post K E) (old new : ManagerForm K E) (reply : Reply) → post ≡ On old → May post → Acts disk_says entropy_says w.link_up event old old.standing new reply →
      new.site ≡ old.site → HasDisk (λ before. HasDisk (λ disk. (disk_says.is_honest disk ≡ disk_says.is_honest before) × (disk_says.armings disk ≡ disk_says.armings before)) new.standing) old.standing →
      HasDisk (λ before. HasDisk (λ disk. disk_says.faults before ≤ disk_says.faults disk) new.standing) old.standing → entropy_says.faults old.entropy ≤ entropy_says.faults new.entropy → IsHandled post (On new) reply
  handled_up post old new reply is m a site same later drawn =
      let here : May (On old) = subst May is m in
      subst (λ (p : Post K E). IsHandled p (On new) reply) (sym is)
      (acted disk_says entropy_says net w v m.running event old new reply old.standing refl a here.stands site same (later, drawn) m.goes m.fits)

  -- The manager is down.
  handled_down : (post : Post K E) → May post → w.up v ≡ false → IsHandled post post replies.Down
  handled_down post m down =
      let says = down_says net w v event Fine down in
      record {
        environment = Fine;
        shown = refl;
        entropy_asked = λ fault. absurd (cc fault);
        said = ap (λ (x : World × Outcome). x.1) says;
        stands = subst (λ (x : World × Outcome). PostStands disk_says entropy_says net x.0 v post) (sym says) m.stands;
        counts = let d = post_disk disk_says net w v entropy_says post m.stands in unchanged disk_says entropy_says post d.0 d.1;
      }

  pub handled_on_down : (post : Post K E) (old : ManagerForm K E) → post ≡ On old → is_up old.standing ≡ false → May post → IsHandled post (On old) replies.Down
  handled_on_down post old is down m =
      let here : May (On old) = subst May is m in
      subst (λ (p : Post K E). IsHandled p (On old) replies.Down) (sym is)
      (handled_down (On old) here (down_is disk_says net w v old.site old.view old.standing down here.stands.standing))

  pub handled_off : (post : Post K E) (disk : K) (entropy : E) → post ≡ Off disk entropy → May post → IsHandled post post replies.Down
  handled_off post disk entropy is m = handled_down post m (let here : May (Off disk entropy) = subst May is m in here.stands.1.down)
