-- A state in which one post changed.
use Rattle.std.proofs.Common.{◌≡◌, ℕ, length, refl, ap, Some}
use Rattle.std.specs.Prelude.{slice_get, slice_set}
use Rattle.std.specs.Vec.{with_item}
use Rattle.world_nodes.specs.Passed.{Post}
use Rattle.world_state.specs.declared.state.State.{State}
use Rattle.world_state.proofs.Others.{each_placed, placed_length}

pub record OnePost {K Q E X : Type 0} (old new : State K Q E X) (v : ℕ) (p q : Post K E) : Type 0 where
  pub site : new.site ≡ old.site
  pub there : slice_get old.posts.items v ≡ Some p
  pub posts : new.posts.items ≡ slice_set old.posts.items v q
  pub lanes : new.lanes.items ≡ old.lanes.items
  pub devices : new.devices.items ≡ old.devices.items
  pub up : new.up ≡ old.up

-- the state with another post at a place
abbrev pub state_with : {K Q E X : Type 0} → State K Q E X → ℕ → Post K E → State K Q E X
state_with s at q = record { site = s.site; posts = with_item s.posts at q; lanes = s.lanes; devices = s.devices; up = s.up }

pub with_post : {K Q E X : Type 0} (s : State K Q E X) (v at : ℕ) (p q : Post K E) → at ≡ v → slice_get s.posts.items v ≡ Some p → OnePost s (state_with s at q) v p q
with_post s v at p q place there = record { site = refl; there = there; posts = ap (λ (n : ℕ). slice_set s.posts.items n q) place; lanes = refl; devices = refl; up = refl }

module _ {K Q E X : Type 0} (old new : State K Q E X) (v : ℕ) (p q : Post K E) (one : OnePost old new v p q) where
  pub posts_same : length new.posts.items ≡ length old.posts.items
  posts_same = placed_length old.posts.items new.posts.items v q one.posts

  -- What holds for the changed post and for each other post holds for all.
  pub each_post : (P : ℕ → Post K E → Type 0) → P v q → ((u : ℕ) (x : Post K E) → (u ≡ v → ⊥) → slice_get old.posts.items u ≡ Some x → P u x) →
      (u : ℕ) (x : Post K E) → slice_get new.posts.items u ≡ Some x → P u x
  each_post P mine others = each_placed old.posts.items new.posts.items v q one.posts P mine others
