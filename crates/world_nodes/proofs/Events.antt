-- An event does the same to a post as to its node in the network.
use Rattle.std.proofs.Common.{◌≡◌, ◌<◌, ◌≤◌, ℕ, Bool, true, false, refl, sym, ap, subst, ◌∙◌, add-zero}
use Rattle.std.specs.Prelude.{if◌then◌else◌}
use Rattle.net_model.specs.declared.event.Event.{Event}
use Rattle.net_model.specs.declared.reply.Reply.{Reply}
use Rattle.net_model.specs.declared.reply.Reply.TheVariants as replies
use Rattle.net_model.specs.OctetSequence.{octets_from}
use Rattle.net_model.specs.World.{Network, World}
use Rattle.net_model.specs.Needed.{view_of}
use Rattle.net_model.specs.Decide.{decide, random_need}
use Rattle.net_model.specs.Handle.{commit, stopped, resolve, handle}
use Rattle.net_model.specs.View.{View}
use Rattle.net_model.specs.Action.{Environment, EntropyFault, Outcome, Replies, is_shown, is_entropy_fault, is_io_fault, Ok as Fine}
use Rattle.journal_snapshot.specs.Snapshots.{SnapshotForm}
use Rattle.source_devices.specs.Telling.{IsRest}
use Rattle.kme_store.specs.Course.{Course, Stays, Stops, Goes, course, in_world}
use Rattle.kme_store.specs.Manager.{ManagerForm, IsUpWith, IsDownWith, HasDisk, IsAfter, Answers, Acts}
use Rattle.kme_store.specs.declared.manager_state.Standing.{Standing}
use Rattle.kme_store.specs.declared.manager_state.Standing.TheVariants.{Up, Down, Between}
use Rattle.kme_store.specs.declared.post.Post.TheVariants.{On}
use Rattle.kme_store.proofs.Courses.{asks}
use Rattle.world_nodes.specs.LaneStands.{IsRunning}
use Rattle.world_nodes.specs.Stands.{UpStands, DownStands, StandingStands, ManagerStands}
use Rattle.world_nodes.specs.Handled.{BatchFits, ViewGoesOn, Handled}
use Rattle.world_nodes.specs.Counts.{Counts}
use Rattle.world_nodes.proofs.Counted.{disk_weaker, counted, fails_disk, fails_entropy, no_disk_fault, no_entropy_fault}
use Rattle.world_nodes.proofs.Draws.{comes_next, drawn_on}
use Rattle.world_nodes.proofs.Effects.{commit_drawn, stopped_drawn, kept_up, gone_up, stopped_down}
use Rattle.world_nodes.proofs.Takes.{goes_as_decided, stops_as_decided}
use Rattle.disk_model.specs.declared.disk.Disk as Disk
use Rattle.source_devices.specs.declared.entropy.Entropy as Entropy

-- A manager that is down answers `Down`.
pub down_says : (net : Network) (w : World) (v : ℕ) (event : Event) (environment : Environment) → w.up v ≡ false → handle net w v event environment ≡ (w, Replies replies.Down)
unfolding handle
down_says net w v event environment down =
    let n : ℕ = random_need (view_of net w v) event in
    ap (λ (t : Bool). if t then resolve net w v n environment (decide net.site net.sealing w.link_up (view_of net w v) (octets_from (net.entropy v).octet (w.drawn v) n) event) else (w, Replies replies.Down)) down

module _ {K E : Type 0} (disk_says : Disk.Ghosts K) (entropy_says : Entropy.Ghosts E)
    (net : Network) (w : World) (v : ℕ) (r : IsRunning net w) (event : Event) (old new : ManagerForm K E) (reply : Reply) where
  abbrev Stands : World → ManagerForm K E → Type 0
  Stands w' m = ManagerStands disk_says entropy_says net w' v m

  abbrev with_standing : Standing K → ManagerForm K E
  with_standing s = record old { standing = s }

  abbrev IsHandled : Standing K → Type 0
  IsHandled s = Handled disk_says entropy_says net w v event (On (with_standing s)) (On new) reply

  abbrev Counted : Environment → Standing K → Type 0
  Counted environment s = Counts disk_says entropy_says (is_io_fault environment) (is_entropy_fault environment) (On (with_standing s)) (On new)

  abbrev SameDisk : Standing K → Type 0
  SameDisk s = HasDisk (λ before. HasDisk (λ disk. (disk_says.is_honest disk ≡ disk_says.is_honest before) × (disk_says.armings disk ≡ disk_says.armings before)) new.standing) s

  abbrev NoneFalls : Standing K → Type 0
  NoneFalls s = (HasDisk (λ before. HasDisk (λ disk. disk_says.faults before ≤ disk_says.faults disk) new.standing) s) × (entropy_says.faults old.entropy ≤ entropy_says.faults new.entropy)

  -- The network handles the event with this reply, and the post stands for the node and counts its faults.
  handled : (s : Standing K) (environment : Environment) (w' : World) → handle net w v event environment ≡ (w', Replies reply) → is_shown environment (Replies reply) ≡ true →
      (environment ≡ EntropyFault → 0 < random_need (view_of net w v) event) → Stands w' new → Counted environment s → IsHandled s
  handled s environment w' says shown asked stands counts = record {
    environment = environment;
    shown = shown;
    entropy_asked = asked;
    said = ap (λ (x : World × Outcome). x.1) says;
    stands = subst (λ (x : World × Outcome). Stands x.0 new) (sym says) stands;
    counts = counts;
  }

  module _ (journal : SnapshotForm K) (h : Stands w (with_standing (Up journal))) (site : new.site ≡ old.site) (honest : HasDisk (λ disk. disk_says.is_honest disk ≡ disk_says.is_honest journal.disk) new.standing)
      (goes : ViewGoesOn net w v event) (fits : BatchFits net w v event) where
    abbrev u : UpStands disk_says net w v old.site old.view journal
    u = h.standing

    module _ (w' : World) where
      abbrev StandsAs : Standing K → Type 0
      StandsAs s = StandingStands disk_says net w' v new.site new.view s

      up_as : {P : SnapshotForm K → Type 0} → ((j : SnapshotForm K) → P j → disk_says.is_honest j.disk ≡ disk_says.is_honest journal.disk → UpStands disk_says net w' v new.site new.view j) →
          (s : Standing K) → IsUpWith P s → HasDisk (λ disk. disk_says.is_honest disk ≡ disk_says.is_honest journal.disk) s → StandsAs s
      up_as f (Up j) p same = f j p same
      up_as f (Down disk) p same = absurd p
      up_as f Between p same = absurd p

      down_as : {P : K → Type 0} → ((disk : K) → P disk → disk_says.is_honest disk ≡ disk_says.is_honest journal.disk → DownStands disk_says net w' v disk) →
          (s : Standing K) → IsDownWith P s → HasDisk (λ disk. disk_says.is_honest disk ≡ disk_says.is_honest journal.disk) s → StandsAs s
      down_as f (Up j) p same = absurd p
      down_as f (Down disk) p same = f disk p same
      down_as f Between p same = absurd p

    module _ (a : Answers disk_says entropy_says w.link_up event old journal new reply) (counts : Counted a.environment (Up journal)) where
      next : IsRest (net.entropy v) (w.drawn v) a.rest
      next = comes_next entropy_says net w v old.entropy h.entropy a.rest a.next

      asked : a.environment ≡ EntropyFault → 0 < random_need (view_of net w v) event
      asked fault = subst (λ (view : View). 0 < random_need view event) u.sees (a.entropy_asked fault)

      by_course : (c : Course) → course net.site w.link_up (view_of net w v) (w.journal v) a.rest event a.environment ≡ c → IsAfter disk_says entropy_says old journal c new reply →
          handle net w v event a.environment ≡ in_world net w v c → IsHandled (Up journal)
      by_course (Stays refusal) is after says =
          handled (Up journal) a.environment w (says ∙ ap (λ (x : Reply). (w, Replies x)) (sym after.answer)) a.shown asked
          (record {
            entropy = drawn_on entropy_says net w v old.entropy h.entropy w new.entropy 0 after.entropy (sym (add-zero (w.drawn v)));
            standing = up_as w (λ j p same. kept_up disk_says net w v r old.site old.view journal u new.site new.view j site after.view p.0 p.1 same) new.standing after.up honest;
          })
          counts
      by_course (Stops octets e) is after says =
          let w' : World = stopped w v octets e in
          let decides = stops_as_decided net w v event a.rest r.sealing next a.environment octets e is in
          handled (Up journal) a.environment w' (says ∙ ap (λ (x : Reply). (w', Replies x)) (sym after.answer)) a.shown asked
          (record {
            entropy = drawn_on entropy_says net w v old.entropy h.entropy w' new.entropy octets after.entropy (stopped_drawn w v octets e);
            standing = down_as w' (λ disk p same. stopped_down disk_says net w v r old.site old.view journal u octets e disk p after.spelled same (fits e decides)) new.standing after.down honest;
          })
          counts
      by_course (Goes octets e) is after says =
          let w' : World = commit net.site w v octets e in
          let d = goes_as_decided net w v event a.rest r.sealing next a.environment octets e is in
          handled (Up journal) a.environment w' (says ∙ ap (λ (x : Reply). (w', Replies x)) (sym after.answer)) a.shown asked
          (record {
            entropy = drawn_on entropy_says net w v old.entropy h.entropy w' new.entropy octets after.entropy (commit_drawn net w v octets e);
            standing = up_as w' (λ j p same. gone_up disk_says net w v r old.site old.view journal u octets e new.site new.view j site after.view p.0 after.spelled same (goes octets e d.0 d.1)) new.standing after.up honest;
          })
          counts

      pub answered : IsHandled (Up journal)
      answered =
          let c : Course = course net.site w.link_up (view_of net w v) (w.journal v) a.rest event a.environment in
          by_course c refl
          (subst (λ (x : Course). IsAfter disk_says entropy_says old journal x new reply) (λ i. course (u.sited i) w.link_up (u.sees i) (u.journaled i) a.rest event a.environment) a.after)
          (asks net w v event a.environment a.rest r.sealing u.up next)

  -- A manager that is down stays as it is.
  stayed : (disk : K) → Stands w (with_standing (Down disk)) → with_standing (Down disk) ≡ old → (new ≡ old) × (reply ≡ replies.Down) → Counted Fine (Down disk) → IsHandled (Down disk)
  stayed disk h same a counts =
      handled (Down disk) Fine w (down_says net w v event Fine h.standing.down ∙ ap (λ (x : Reply). (w, Replies x)) (sym a.1)) refl (λ fault. absurd (cc fault))
      (subst (λ (m : ManagerForm K E). Stands w m) (same ∙ sym a.0) h)
      counts

  pub acted : (s : Standing K) → with_standing s ≡ old → Acts disk_says entropy_says w.link_up event old s new reply → Stands w (with_standing s) → new.site ≡ old.site →
      SameDisk s → NoneFalls s → ViewGoesOn net w v event → BatchFits net w v event → IsHandled s
  acted (Up journal) same a h site stays falls goes fits =
      answered journal h site (disk_weaker (λ disk. (disk_says.is_honest disk ≡ disk_says.is_honest journal.disk) × (disk_says.armings disk ≡ disk_says.armings journal.disk)) (λ disk. disk_says.is_honest disk ≡ disk_says.is_honest journal.disk) (λ disk is. is.0) new.standing stays) goes fits a
      (counted disk_says entropy_says (is_io_fault a.environment) (is_entropy_fault a.environment) (with_standing (Up journal)) new stays falls.0 falls.1
      (λ fault. a.disk_fault (fails_disk a.environment fault)) (λ none. a.disk_calm (no_disk_fault a.environment none))
      (λ fault. a.entropy_fault (fails_entropy a.environment fault)) (λ none. a.entropy_calm (no_entropy_fault a.environment none)))
  acted (Down disk) same a h site stays falls goes fits =
      stayed disk h same a (counted disk_says entropy_says false false (with_standing (Down disk)) new stays falls.0 falls.1
      (λ other. absurd (cc other)) (λ none. subst (λ (m : ManagerForm K E). HasDisk (λ d. disk_says.faults d ≡ disk_says.faults disk) m.standing) (same ∙ sym a.0) refl)
      (λ other. absurd (cc other)) (λ none. ap (λ (m : ManagerForm K E). entropy_says.faults m.entropy) a.0))
  acted Between same a h site stays falls goes fits = absurd a
