-- The index groups of a frame's place, added and removed one by one.
use Rattle.std.proofs.Common.{◌≡◌, ℕ, zero, suc, ◌<◌, Bool, false, ◌||◌, List, [], ◌∷◌, ◌++◌, length, refl, sym, ◌∙◌, ap, subst, arith, Option, Some, None}
use Rattle.std.specs.Prelude.{map, slice_set, if◌then◌else◌}
use Rattle.std.specs.List.{list_any}
use Rattle.std.specs.Str.{bytes_eq}
use Rattle.qkd_base.specs.Lane.{lane_place}
use Rattle.qkd_base.specs.Name.{Name}
use Rattle.qkd_base.specs.declared.lane.Lane.{Lane}
use Rattle.relay_core.proofs.Names.{eq_same}
use Rattle.ordered_set.specs.Entries.{has_entry, entry_at}
use Rattle.resend_window.specs.Catalogued.{groups_at, IsCatalogue}
use Rattle.resend_window.specs.Groups.{offset_group, item_group, sent_group}
use Rattle.resend_window.proofs.Catalogues.{groups_put, catalogue_gap, catalogue_join}
use Rattle.resend_window.proofs.Grouped.{behind}

-- a tick's group differs from the other groups of a place
pub sent_apart : (tick : ℕ) (l : Lane) (x : ℕ) (k : Lane) (n : Name) (o : Option ℕ) → list_any (bytes_eq (sent_group tick)) (offset_group 0 l x ∷ item_group k n o ∷ []) ≡ false
sent_apart tick l x k n None = behind 3 0 0 (lane_place l) _ _ _ refl ∙ behind 3 2 0 (lane_place k) _ _ false refl
sent_apart tick l x k n (Some y) = behind 3 0 0 (lane_place l) _ _ _ refl ∙ behind 3 1 0 (lane_place k) _ _ false refl

set_end : (keys : List (List (List ℕ))) (k x : List (List ℕ)) → slice_set (keys ++ k ∷ []) (length keys) x ≡ keys ++ x ∷ []
set_end [] k x = refl
set_end (j ∷ keys) k x = ap (λ ks. j ∷ ks) (set_end keys k x)

groups_last : (keys : List (List (List ℕ))) (k : List (List ℕ)) → groups_at (keys ++ k ∷ []) (length keys) ≡ k
groups_last [] k = refl
groups_last (j ∷ keys) k = groups_last keys k

-- adding one more group of the last place
pub put_last : (keys : List (List (List ℕ))) (gs k : List (List ℕ)) (place : ℕ) → length keys ≡ place → slice_set (keys ++ k ∷ []) place (gs ++ groups_at (keys ++ k ∷ []) place) ≡ keys ++ (gs ++ k) ∷ []
put_last keys gs k place size =
    ap (λ (n : ℕ). slice_set (keys ++ k ∷ []) n (gs ++ groups_at (keys ++ k ∷ []) n)) (sym size)
    ∙ ap (λ (g : List (List ℕ)). slice_set (keys ++ k ∷ []) (length keys) (gs ++ g)) (groups_last keys k) ∙ set_end keys k (gs ++ k)

pub within_last : (keys : List (List (List ℕ))) (k : List (List ℕ)) (place : ℕ) → length keys ≡ place → place < length (keys ++ k ∷ [])
within_last keys k place size = let r = by keys k in omega arith
  where
    by : (keys : List (List (List ℕ))) (k : List (List ℕ)) → length keys < length (keys ++ k ∷ [])
    by [] k = omega arith
    by (j ∷ keys) k = let r = by keys k in omega arith

-- adding the last place to one group
pub catalogue_append : (keys : List (List (List ℕ))) (group : List ℕ) (place : ℕ) (old new : List (List ℕ)) → IsCatalogue keys old → length keys ≡ place →
    ((e : List ℕ) → has_entry new e ≡ (bytes_eq (entry_at group place) e || has_entry old e)) → IsCatalogue (keys ++ (group ∷ []) ∷ []) new
catalogue_append keys group place old new is size one =
    subst (λ (ks : List (List (List ℕ))). IsCatalogue ks new) (put_last keys (group ∷ []) [] place size)
    (catalogue_join (keys ++ [] ∷ []) group place old new (catalogue_gap keys old is) (within_last keys [] place size) one)

pub set_twice : (keys : List (List (List ℕ))) (n : ℕ) (a b : List (List ℕ)) → slice_set (slice_set keys n a) n b ≡ slice_set keys n b
set_twice [] n a b = refl
set_twice (j ∷ keys) zero a b = refl
set_twice (j ∷ keys) (suc n) a b = ap (λ ks. j ∷ ks) (set_twice keys n a b)

pub groups_here : (keys : List (List (List ℕ))) (n : ℕ) (gs : List (List ℕ)) → n < length keys → groups_at (slice_set keys n gs) n ≡ gs
groups_here keys n gs within = groups_put keys n gs n within ∙ ap (λ (b : Bool). if b then gs else groups_at keys n) (eq_same n)

pub length_set : (keys : List (List (List ℕ))) (n : ℕ) (gs : List (List ℕ)) → length (slice_set keys n gs) ≡ length keys
length_set [] n gs = refl
length_set (j ∷ keys) zero gs = refl
length_set (j ∷ keys) (suc n) gs = let r = length_set keys n gs in omega arith

pub keys_put : {A : Type 0} (keys : Option A → List (List ℕ)) (xs : List (Option A)) (p : ℕ) (o : Option A) → map keys (slice_set xs p o) ≡ slice_set (map keys xs) p (keys o)
keys_put keys [] p o = refl
keys_put keys (x ∷ xs) zero o = refl
keys_put keys (x ∷ xs) (suc p) o = ap (λ ks. keys x ∷ ks) (keys_put keys xs p o)
