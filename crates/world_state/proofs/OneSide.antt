-- A state in which the side of one lane changed.
use Rattle.std.proofs.Common.{◌≡◌, ℕ, zero, suc, ◌+◌, ◌*◌, ◌<◌, true, false, ◌&&◌, List, [], ◌∷◌, length, refl, sym, ap, subst, ◌∙◌, arith, Option, Some}
use Rattle.std.specs.Prelude.{◌==◌, slice_get, slice_set, get_or}
use Rattle.std.specs.Vec.{with_item}
use Rattle.std.proofs.lemmas.Bool.{ltb-true}
use Rattle.qkd_base.specs.Lane.{way_eq, lane_eq}
use Rattle.qkd_base.specs.declared.lane.Way.{Way}
use Rattle.qkd_base.specs.declared.lane.Way.TheVariants.{Up, Down}
use Rattle.qkd_base.specs.declared.lane.Lane.{Lane}
use Rattle.net_model.specs.Site.{Site}
use Rattle.net_model.specs.Events.{is_lane}
use Rattle.law_base.proofs.Base.{and_true, eq_same, lane_eq_from, not_both}
use Rattle.lane_sender.specs.Lane.{LaneForm}
use Rattle.world_state.specs.Stands.{of_way, place_of}
use Rattle.world_state.specs.declared.state.State.{State}

-- lists

get_set_same : {A : Type 0} (xs : List A) (p : ℕ) (x y : A) → slice_get xs p ≡ Some x → slice_get (slice_set xs p y) p ≡ Some y
get_set_same [] p x y h = cc
get_set_same (z ∷ zs) zero x y h = refl
get_set_same (z ∷ zs) (suc p) x y h = get_set_same zs p x y h

get_set_other : {A : Type 0} (xs : List A) (p q : ℕ) (y : A) → (p ≡ q → ⊥) → slice_get (slice_set xs p y) q ≡ slice_get xs q
get_set_other [] p q y h = refl
get_set_other (z ∷ zs) zero zero y h = absurd (h refl)
get_set_other (z ∷ zs) zero (suc q) y h = refl
get_set_other (z ∷ zs) (suc p) zero y h = refl
get_set_other (z ∷ zs) (suc p) (suc q) y h = get_set_other zs p q y (λ e. h (ap suc e))

set_length : {A : Type 0} (xs : List A) (p : ℕ) (y : A) → length (slice_set xs p y) ≡ length xs
set_length [] p y = refl
set_length (z ∷ zs) zero y = refl
set_length (z ∷ zs) (suc p) y = ap suc (set_length zs p y)

pub some_same : {A : Type 0} {a b : A} → ◌≡◌ {A = Option A} (Some a) (Some b) → a ≡ b
some_same h = cc

-- Different lanes have different places.

differ : (a b : ℕ) → (a == b) ≡ false → b ≡ a → ⊥
differ a b h e = not_both (a == b) (subst (λ (n : ℕ). (a == n) ≡ true) (sym e) (eq_same a)) h

places_apart : (a b : ℕ) (x y : Way) → ((a == b) && way_eq x y) ≡ false → 2 * b + of_way y ≡ 2 * a + of_way x → ⊥
places_apart a b Up Up h e = differ a b (and_true (a == b) h) (omega (arith, e))
places_apart a b Down Down h e = differ a b (and_true (a == b) h) (omega (arith, e))
places_apart a b Up Down h e = absurd (omega (arith, e))
places_apart a b Down Up h e = absurd (omega (arith, e))

pub record OneSide {K Q E X : Type 0} (old new : State K Q E X) (l : Lane) (before now : LaneForm X) : Type 0 where
  pub site : new.site ≡ old.site
  pub posts : new.posts.items ≡ old.posts.items
  pub devices : new.devices.items ≡ old.devices.items
  pub up : new.up ≡ old.up
  pub there : slice_get old.lanes.items (place_of l) ≡ Some before
  pub lanes : new.lanes.items ≡ slice_set old.lanes.items (place_of l) now

module _ {K Q E X : Type 0} (old new : State K Q E X) (l : Lane) (before now : LaneForm X) (one : OneSide old new l before now) where
  pub side_is : (side : LaneForm X) → slice_get new.lanes.items (place_of l) ≡ Some side → side ≡ now
  side_is side at =
      some_same (sym at ∙ ap (λ (xs : List (LaneForm X)). slice_get xs (place_of l)) one.lanes ∙ get_set_same old.lanes.items (place_of l) before now one.there)

  pub side_other : (k : Lane) (side : LaneForm X) → lane_eq k l ≡ false → slice_get new.lanes.items (place_of k) ≡ Some side → slice_get old.lanes.items (place_of k) ≡ Some side
  side_other k side apart at =
      sym (ap (λ (xs : List (LaneForm X)). slice_get xs (place_of k)) one.lanes
      ∙ get_set_other old.lanes.items (place_of l) (place_of k) now (places_apart k.link l.link k.way l.way apart)) ∙ at

  pub sides_same : length new.lanes.items ≡ length old.lanes.items
  sides_same = ap length one.lanes ∙ set_length old.lanes.items (place_of l) now

  -- What holds for the changed side and for each other side holds for all.
  pub each_side : (P : Lane → LaneForm X → Type 0) → P l now → ((k : Lane) (side : LaneForm X) → lane_eq k l ≡ false → slice_get old.lanes.items (place_of k) ≡ Some side → P k side) →
      (k : Lane) (side : LaneForm X) → slice_get new.lanes.items (place_of k) ≡ Some side → P k side
  each_side P mine others k side at =
      elim (lane_eq k l) as (λ t. lane_eq k l ≡ t → P k side) [
        | true ↦ λ e.
            let same : k ≡ l = lane_eq_from k l e in
            let is : side ≡ now = side_is side (subst (λ (m : Lane). slice_get new.lanes.items (place_of m) ≡ Some side) same at) in
            subst (λ (m : Lane). P m side) (sym same) (subst (λ (x : LaneForm X). P l x) (sym is) mine)
        | false ↦ λ e. others k side e (side_other k side e at)
      ] refl

-- the item at a place of a list

pub read_at : {A : Type 0} (xs : List A) (p q : ℕ) (x : A) → p ≡ q → q < length xs → x ≡ get_or xs p x → slice_get xs q ≡ Some x
read_at xs p q x same below is = read xs q x below (is ∙ ap (λ (n : ℕ). get_or xs n x) same)
  where
    read : {A : Type 0} (xs : List A) (q : ℕ) (x : A) → q < length xs → x ≡ get_or xs q x → slice_get xs q ≡ Some x
    read [] q x below is = absurd (omega (arith, below))
    read (y ∷ ys) zero x below is = ap Some (sym is)
    read (y ∷ ys) (suc q) x below is = read ys q x (omega (arith, below)) is

within : (links : ℕ) (l : Lane) → l.link < links → place_of l < 2 * links
within links l below = elim l.way as (λ way. 2 * l.link + of_way way < 2 * links) [ Up ↦ omega (arith, below) | Down ↦ omega (arith, below) ]

pub place_within : (s : Site) (l : Lane) (n : ℕ) → is_lane s l ≡ true → n ≡ 2 * s.links → place_of l < n
place_within s l n at size = let below = within s.links l (ltb-true l.link s.links at) in omega (arith, below, size)

-- the state with another side at a place
abbrev pub with_side : {K Q E X : Type 0} → State K Q E X → ℕ → LaneForm X → State K Q E X
with_side s p side = record s { lanes = with_item s.lanes p side }

pub one_with : {K Q E X : Type 0} (s : State K Q E X) (l : Lane) (p : ℕ) (before now : LaneForm X) → p ≡ place_of l → place_of l < length s.lanes.items → before ≡ get_or s.lanes.items p before →
    OneSide s (with_side s p now) l before now
one_with s l p before now at below is = record {
  site = refl;
  posts = refl;
  devices = refl;
  up = refl;
  there = read_at s.lanes.items p (place_of l) before at below is;
  lanes = ap (λ (q : ℕ). slice_set s.lanes.items q now) at;
}
