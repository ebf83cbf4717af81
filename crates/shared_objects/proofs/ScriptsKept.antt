-- The kept seats, after all workers gave their seats back.
use Rattle.std.proofs.Common.{◌≡◌, ℕ, ◌+◌, ◌*◌, ◌<◌, List, [], ◌∷◌, ◌++◌, map, length, refl, sym, ap, subst, ◌∙◌, arith}
use Rattle.std.proofs.lemmas.List.{length-map}
use Rattle.std.specs.List.{AllZip, AllByRecursion, flat_map, sum_by}
use Rattle.std.proofs.lemmas.List.Sums.{sum_by-cons}
use Rattle.net_model.specs.BlockOrder.{IsMerge}
use Rattle.shared_objects.specs.Rising.{placed_from}
use Rattle.turnstile.specs.declared.machine.Machine.{Ghosts}
use Rattle.turnstile.specs.declared.turnstile.Turnstile.{Turnstile}
use Rattle.turnstile.specs.Views.{IsWhole}
use Rattle.shared_objects.specs.declared.pass.Post.{Post}
use Rattle.shared_objects.specs.Seats.{calls_at, budget_at, Belongs, HoldsAll, IsFresh, IsOpened}
use Rattle.shared_objects.specs.Shares.{share_of}
use Rattle.shared_objects.proofs.Zips.{zip_same}
use Rattle.shared_objects.proofs.Opening.{fresh_none, fresh_share, opened_fresh, holds_all}
use Rattle.shared_objects.specs.Said.{Said, said_on}
use Rattle.shared_objects.specs.Working.{HaveTold}
use Rattle.shared_objects.proofs.Telling.{shares_all, merged_all, unmade_all}

pub flat_of : {X Y Z : Type 0} (f : X → Y) (h : Y → List Z) (xs : List X) → flat_map (λ x. h (f x)) xs ≡ flat_map h (map f xs)
flat_of f h [] = refl
flat_of {Z = Z} f h (x ∷ xs) = ap (λ (zs : List Z). h (f x) ++ zs) (flat_of f h xs)

sum_of : {X Y : Type 0} (f : X → Y) (h : Y → ℕ) (xs : List X) → sum_by (λ x. h (f x)) xs ≡ sum_by h (map f xs)
sum_of f h [] = refl
sum_of f h (x ∷ xs) = sum_by-cons (λ x. h (f x)) x xs ∙ ap (λ (n : ℕ). h (f x) + n) (sum_of f h xs) ∙ sym (sum_by-cons h (f x) (map f xs))

pub all_of_map : {X Y : Type 0} (f : X → Y) (P : X → Type 0) (R : Y → Type 0) → ((x : X) → P x → R (f x)) → (xs : List X) → AllByRecursion P xs → AllByRecursion R (map f xs)
all_of_map f P R w [] h = tt
all_of_map f P R w (x ∷ xs) h = (w x h.0, all_of_map f P R w xs h.1)

pub from_map : {X Y : Type 0} (f : X → Y) (R : Y → Type 0) (xs : List X) → AllByRecursion R (map f xs) → AllByRecursion (λ x. R (f x)) xs
from_map f R [] h = tt
from_map f R (x ∷ xs) h = (h.0, from_map f R xs h.1)

pub all_nothing : {X : Type 0} (Y : Type 0) (xs : List X) → AllByRecursion (λ (ys : List Y). ys ≡ []) (map (λ (x : X). []) xs)
all_nothing Y [] = tt
all_nothing Y (x ∷ xs) = (refl, all_nothing Y xs)

module _ {M Q A C : Type 0} {g : Ghosts M Q A C} (ts : List (Turnstile M Q A C)) {P : Type 0} (posts : P → List (Post M Q A C g)) (calls all : ℕ) (ps qs : List P) (first mid last : List (Post M Q A C g))
    (opened : AllZip (IsOpened all) ts first) (fresh : AllByRecursion (λ p. AllZip (IsFresh calls) ts (posts p)) ps)
    (mid_own : (i : ℕ) → calls_at i mid ≡ calls_at i first) (last_own : (i : ℕ) → calls_at i last ≡ calls_at i mid ++ flat_map (λ q. calls_at i (posts q)) qs) (saids : List (List (Said Q A))) (told : HaveTold ts saids (map posts ps) (map posts qs)) where
  none_mid : (i : ℕ) → calls_at i mid ≡ []
  none_mid i = mid_own i ∙ fresh_none all ts i first (opened_fresh all ts first opened)

  -- The calls that the kept seat of a machine knows are the calls of all workers.
  all_calls : (i : ℕ) → calls_at i last ≡ flat_map (calls_at i) (map posts qs)
  all_calls i = last_own i ∙ ap (λ (before : List (ℕ × (Q × A))). before ++ flat_map (λ q. calls_at i (posts q)) qs) (none_mid i) ∙ flat_of posts (calls_at i) qs

  none_fresh : (i : ℕ) → AllByRecursion (λ (p : List (Post M Q A C g)). calls_at i p ≡ []) (map posts ps)
  none_fresh i = all_of_map posts (λ p. AllZip (IsFresh calls) ts (posts p)) (λ p. calls_at i p ≡ []) (λ p h. fresh_none calls ts i (posts p) h) ps fresh

  pub kept_whole : ((i : ℕ) → i < length first → budget_at i mid ≡ 0) → ((i : ℕ) → budget_at i last ≡ budget_at i mid + sum_by (λ q. budget_at i (posts q)) qs) → length ps * calls ≡ all → AllZip Belongs ts last → AllZip HoldsAll ts last
  kept_whole mid_budget budget product belong =
      holds_all all ts first last opened belong (λ i lt.
      let n = zip_same (IsOpened all) ts first opened in
      let a = mid_budget i (omega (arith, lt, n)) in
      let b = budget i ∙ ap (λ (left : ℕ). budget_at i mid + left) (sum_of posts (budget_at i) qs) in
      let shares = all_of_map posts (λ p. AllZip (IsFresh calls) ts (posts p)) (λ p. share_of i p ≡ calls) (λ p h. fresh_share calls ts i (posts p) lt h) ps fresh in
      let s = shares_all ts i calls saids (map posts ps) (map posts qs) told shares ∙ ap (λ (k : ℕ). k * calls) (length-map ps posts) in
      let l = ap length (all_calls i) in
      omega (arith, a, b, s, l, product))

  pub kept_merged : (i : ℕ) (log : List (Q × A)) → IsWhole (calls_at i last) log → IsMerge (map (said_on i) saids) (placed_from 0 log)
  kept_merged i log whole = merged_all ts i saids (map posts ps) (map posts qs) log told (none_fresh i) (subst (λ (made : List (ℕ × (Q × A))). IsWhole made log) (all_calls i) whole)

  pub kept_unmade : AllByRecursion (λ said. said ≡ []) saids → (i : ℕ) (log : List (Q × A)) → IsWhole (calls_at i last) log → log ≡ []
  kept_unmade hush i log whole = unmade_all ts i saids (map posts ps) (map posts qs) log told (none_fresh i) hush (subst (λ (made : List (ℕ × (Q × A))). IsWhole made log) (all_calls i) whole)
