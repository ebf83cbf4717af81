-- The counts of a plan, of a note, and of a note that failed.
use Rattle.std.proofs.Common.{◌≡◌, ℕ, false, List, [], ◌∷◌, length, refl, sym, ap, subst, ◌∙◌, arith, Some}
use Rattle.std.specs.Prelude.{slice_get}
use Rattle.disk_model.specs.declared.arm.Armings.{Armings}
use Rattle.net_model.specs.declared.event.Event.{Event}
use Rattle.net_model.specs.Site.{Site}
use Rattle.net_model.specs.Action.{Environment, Ask, Complete, is_io_fault}
use Rattle.net_model.specs.Faults.{is_random_fault, disk_faults, entropy_faults, armings}
use Rattle.world_nodes.specs.Passed.{Post}
use Rattle.lane_sender.specs.Lane.{LaneForm}
use Rattle.world_nodes.specs.Counts.{disk_of, entropy_of, Counts}
use Rattle.world_state.specs.Stands.{place_of}
use Rattle.world_state.specs.Tallied.{IsArmedBy, PostTallied, Tallied}
use Rattle.world_state.specs.declared.state.State.{State}
use Rattle.world_state.proofs.AsksOne.{asks_counted, asks_no_other}
use Rattle.world_state.proofs.Changes.{OnePost, posts_same, each_post}
use Rattle.world_state.proofs.OneSide.{some_same}
use Rattle.world_state.proofs.OneTallied.{CountsOne, CountsNoOther, one_post_tallied}
use Rattle.world_state.proofs.Tallies.{none_tallied}
use Rattle.world_state.proofs.Tallying.{same_counted}
use Rattle.world_state.specs.Outside.{Outside}

-- A note adds to no count.

note_one : (s : Site) (v : ℕ) → CountsOne s (Complete v) v false false
note_one s v = record { disk = refl; entropy = refl; armed = λ u. refl; disks = λ u apart. refl; entropies = λ u apart. refl }

note_no_other : (v : ℕ) → CountsNoOther (Complete v)
note_no_other v = record { devices = λ link. refl; wires = λ l. refl }

-- A disk whose armings stayed the same was armed with no fault.
unarmed : (before now : Armings) → now ≡ before → IsArmedBy [] before now
unarmed before now same = subst (λ (n : Armings). IsArmedBy [] before n) (sym same) (record { times = omega arith; last = refl })

module _ {K Q E X : Type 0} (outside : Outside K Q E X) (site : Site) (old new : State K Q E X) (v : ℕ) (p q : Post K E)
    (one : OnePost old new v p q) (disks : (u : ℕ) (x : Post K E) → slice_get old.posts.items u ≡ Some x → (k : K) × (disk_of x ≡ Some k)) where
  pub asked_tallied : (event : Event) (environment : Environment) → Counts outside.disk outside.entropy (is_io_fault environment) (is_random_fault v (Ask v event environment)) p q →
      Tallied outside old new site (Ask v event environment ∷ [])
  asked_tallied event environment c =
      one_post_tallied outside site (Ask v event environment) old new disks v p q (is_io_fault environment) (is_random_fault v (Ask v event environment)) one
      (asks_counted site v event environment) (asks_no_other v event environment) c

  module _ (c : Counts outside.disk outside.entropy false false p q) where
    pub noted_tallied : Tallied outside old new site (Complete v ∷ [])
    noted_tallied = one_post_tallied outside site (Complete v) old new disks v p q false false one (note_one site v) (note_no_other v) c

    mine : PostTallied outside.disk outside.entropy site v [] p q
    unfolding disk_faults entropy_faults armings
    mine = record {
      before = c.before;
      now = c.now;
      was = c.was;
      is = c.is;
      failed = same_counted (outside.disk.faults c.before) (outside.disk.faults c.now) (c.disk.calm refl);
      armed_with = unarmed (outside.disk.armings c.before) (outside.disk.armings c.now) c.arms;
      refused = same_counted (outside.entropy.faults (entropy_of p)) (outside.entropy.faults (entropy_of q)) (c.entropy.calm refl);
    }

    abbrev none : Tallied outside old old site []
    none = none_tallied outside site old disks

    pub stayed_tallied : Tallied outside old new site []
    stayed_tallied = record {
      nodes = posts_same old new v p q one;
      posts = λ u x y was is.
          each_post old new v p q one (λ n z. (t : Post K E) → slice_get old.posts.items n ≡ Some t → PostTallied outside.disk outside.entropy site n [] t z)
          (λ t at. let same : p ≡ t = some_same (sym one.there ∙ at) in subst (λ (s : Post K E). PostTallied outside.disk outside.entropy site v [] s q) same mine)
          (λ n z other at t was. none.posts n t z was at) u y is x was;
      links = ap (λ (xs : List Q). length xs) one.devices;
      devices = λ link x y was is. none.devices link x y was (ap (λ (xs : List Q). slice_get xs link) (sym one.devices) ∙ is);
      sides = ap (λ (xs : List (LaneForm X)). length xs) one.lanes;
      wires = λ l x y was is. none.wires l x y was (ap (λ (xs : List (LaneForm X)). slice_get xs (place_of l)) (sym one.lanes) ∙ is);
    }
