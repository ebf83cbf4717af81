-- The outcome of taking a block, by what the device answers.
use Rattle.std.proofs.Common.{◌≡◌, ℕ, ◌+◌, ◌*◌, Bool, true, false, List, sym, ap, subst, ◌∙◌, arith, eq-eqb}
use Rattle.std.proofs.lemmas.Bool.Decides.{nat_tests}
use Rattle.std.specs.Prelude.{◌==◌, ◌≢◌, Option, Some, None, Result, Ok, Err}
use Rattle.net_model.specs.declared.reply.Reply.TheVariants as replies
use Rattle.net_model.specs.OctetSequence.{OctetSequence, has_octets}
use Rattle.net_model.specs.World.{Network, World}
use Rattle.net_model.specs.View.{View, port_of, blocks_of}
use Rattle.net_model.specs.Handle.{blocks_at}
use Rattle.net_model.specs.Action.{Outcome, Replies, NoBlock, DeviceFailed}
use Rattle.source_devices.specs.Telling.{GivesBlock}
use Rattle.source_devices.specs.declared.shortage.Shortage.{Shortage}
use Rattle.source_devices.specs.declared.shortage.Shortage.TheVariants.{Failed, End}
use Rattle.kme_store.specs.Manager.{ManagerForm, is_up}
use Rattle.kme_store.specs.declared.post.Post.{Post}
use Rattle.kme_store.specs.declared.post.Post.TheVariants.{On, Off}
use Rattle.world_nodes.specs.Stands.{PostStands}
use Rattle.world_nodes.specs.Blocks.{MayTake, IsNext, MayPut, IsTaken}
use Rattle.world_nodes.proofs.Handles.{up_is, down_is}
use Rattle.world_nodes.proofs.Ports.{blocks_there}
use Rattle.world_nodes.proofs.Taken.{says_down, says_full, says_ended, says_failed, incident, below, stays_fine, stays_failed}
use Rattle.disk_model.specs.declared.disk.Disk as Disk
use Rattle.source_devices.specs.declared.entropy.Entropy as Entropy

-- the answers of a device whose list of octets is known
given : {T : Type 0} (told : Option OctetSequence) (t : OctetSequence) (number : ℕ) (into : List ℕ) → told ≡ Some t → (r : Result T Shortage) → GivesBlock told number r into → GivesBlock (Some t) number r into
given told t number into is r h = subst (λ (o : Option OctetSequence). GivesBlock o number r into) is h

module _ {K E : Type 0} (disk_says : Disk.Ghosts K) (entropy_says : Entropy.Ghosts E) (net : Network) (w : World) (v : ℕ) (old : Post K E) (link up : ℕ)
    (m : MayTake disk_says entropy_says net w v old link up) where
  -- the number of the next block

  pub next_up : (manager : ManagerForm K E) → old ≡ On manager → is_up manager.standing ≡ true → (number : ℕ) → number ≡ blocks_of (port_of manager.view link) → (w.up v ≡ true) × (number ≡ blocks_at net w v link)
  next_up manager is at number counted =
      let h = subst (λ (p : Post K E). PostStands disk_says entropy_says net w v p) is m.stands in
      let u = (up_is disk_says net w v manager.site manager.view manager.standing at h.standing).1 in (
        u.up,
        counted ∙ ap (λ (a : View). blocks_of (port_of a link)) u.sees ∙ blocks_there net w v link (incident net w v link m.enabled) (below net w v link m.enabled),
      )

  pub next_down : (manager : ManagerForm K E) → old ≡ On manager → is_up manager.standing ≡ false → w.up v ≡ false
  next_down manager is at =
      let h = subst (λ (p : Post K E). PostStands disk_says entropy_says net w v p) is m.stands in
      down_is disk_says net w v manager.site manager.view manager.standing at h.standing

  pub next_off : (disk : K) (entropy : E) → old ≡ Off disk entropy → w.up v ≡ false
  next_off disk entropy is = let h = subst (λ (p : Post K E). PostStands disk_says entropy_says net w v p) is m.stands in h.1.down

  module _ where
    abbrev Stays : Outcome → Type 0
    Stays outcome = IsTaken disk_says entropy_says net w v link old old outcome

    pub taken_down : (next : Option ℕ) → next ≡ None → IsNext net w v link next → Stays (Replies replies.Down)
    taken_down next none is =
        stays_fine disk_says entropy_says net w v old link up m (Replies replies.Down) (says_down net w v link (subst (IsNext net w v link) none is)) (λ failed. cc failed)

    module _ (next : Option ℕ) (number : ℕ) (some : next ≡ Some number) (is : IsNext net w v link next) where
      known : (w.up v ≡ true) × (number ≡ blocks_at net w v link)
      known = subst (IsNext net w v link) some is

      pub taken_full : number ≡ 1024 → Stays (Replies replies.LinkFull)
      taken_full full =
          stays_fine disk_says entropy_says net w v old link up m (Replies replies.LinkFull) (says_full net w v link known.0 (eq-eqb (blocks_at net w v link) 1024 (sym known.1 ∙ full))) (λ failed. cc failed)

      whole : (t : Bool) → has_octets (net.device link) (1024 + 1024 * number) ≡ t → has_octets (net.device link) (1024 + 1024 * blocks_at net w v link) ≡ t
      whole t h = ap (λ (n : ℕ). has_octets (net.device link) (1024 + 1024 * n)) (sym known.1) ∙ h

      module _ (room : number ≢ 1024) where
        room_here : (number == 1024) ≡ false
        room_here = grind (arith, nat_tests)

        room_there : (blocks_at net w v link == 1024) ≡ false
        room_there = ap (λ (n : ℕ). n == 1024) (sym known.1) ∙ room_here

      module _ (T : Type 0) (room : number ≢ 1024) (device : Option OctetSequence) (tells : device ≡ Some (net.device link)) (into : List ℕ) where
        pub taken_ended : (why : Shortage) → why ≡ End → GivesBlock {T = T} device number (Err why) into → Stays NoBlock
        taken_ended why is' h =
            stays_fine disk_says entropy_says net w v old link up m NoBlock
            (says_ended net w v link known.0 (room_there room) (whole false (given {T = T} device (net.device link) number into tells (Err End) (subst (λ (e : Shortage). GivesBlock {T = T} device number (Err e) into) is' h)))) (λ failed. cc failed)

        pub taken_failed : (why : Shortage) → why ≡ Failed → GivesBlock {T = T} device number (Err why) into → Stays DeviceFailed
        taken_failed why is' h =
            stays_failed disk_says entropy_says net w v old link up m
            (says_failed net w v link known.0 (room_there room) (whole true (given {T = T} device (net.device link) number into tells (Err Failed) (subst (λ (e : Shortage). GivesBlock {T = T} device number (Err e) into) is' h))))

        pub may_put : (done : T) → GivesBlock {T = T} device number (Ok done) into → MayPut disk_says entropy_says net w v old link number into up
        may_put done h =
            let g = given {T = T} device (net.device link) number into tells (Ok done) h in
            record { may = m; is_up = known.0; next = known.1; room = room_here room; there = g.0; bytes = g.1 }
