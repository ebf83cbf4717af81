-- The calls of all workers at a node are gathered in the kept seat of that node.
use Rattle.std.proofs.Common.{◌≡◌, ℕ, zero, suc, ◌+◌, ◌%◌, Bool, true, false, List, [], ◌∷◌, ◌++◌, length, map, refl, sym, ap, subst, ◌∙◌, arith, length-append, Option, Some}
use Rattle.std.specs.Prelude.{slice_get, ◌==◌, if◌then◌else◌}
use Rattle.std.specs.List.{flat_map, sum_by}
use Rattle.std.proofs.lemmas.List.{map-append}
use Rattle.std.proofs.lemmas.List.Sums.{sum_by-cons, sum_by_push}
use Rattle.net_serve.specs.Serving.{Call}
use Rattle.net_serve.specs.Served.{calls_of}

some_is : {A : Type 0} {a b : A} → ◌≡◌ {A = Option A} (Some a) (Some b) → a ≡ b
some_is h = cc

-- a property of all items of a list that got one more item at its end
pub each_pushed : {X : Type 0} (P : ℕ → X → Type 0) (xs : List X) (y : X) → ((k : ℕ) (x : X) → slice_get xs k ≡ Some x → P k x) → P (length xs) y →
    (k : ℕ) (x : X) → slice_get (xs ++ y ∷ []) k ≡ Some x → P k x
each_pushed P [] y h p zero x at = subst (P 0) (some_is at) p
each_pushed P [] y h p (suc k) x at = cc
each_pushed P (z ∷ zs) y h p zero x at = subst (P 0) (some_is at) (h 0 z refl)
each_pushed P (z ∷ zs) y h p (suc k) x at = each_pushed (λ k. P (suc k)) zs y (λ k x. h (suc k) x) p k x at

module _ {W R : Type 0} (node : W → ℕ) (raw : W → List R) (left : W → ℕ) where
  abbrev pub raw_at : ℕ → W → List R
  raw_at v w = if node w == v then raw w else []

  abbrev pub left_at : ℕ → W → ℕ
  left_at v w = if node w == v then left w else 0

  -- the workers' nodes are 0, 1, 2 and so on, beginning again after the last node

  abbrev pub AreInTurn : (nodes k : ℕ) → List W → Type 0
  AreInTurn nodes k ws = (i : ℕ) (w : W) → slice_get ws i ≡ Some w → node w ≡ (k + i) % nodes

  none_more : (k : ℕ) → k + 0 ≡ k
  none_more k = omega arith

  next_one : (k i : ℕ) → k + suc i ≡ k + 1 + i
  next_one k i = omega arith

  module _ (f : R → Call) where
    told_at : (v : ℕ) (w : W) → map f (raw_at v w) ≡ (if node w == v then map f (raw w) else [])
    told_at v w = by_test (node w == v)
      where
        by_test : (t : Bool) → map f (if t then raw w else []) ≡ (if t then map f (raw w) else [])
        by_test true = refl
        by_test false = refl

    one_in_front : (t : Bool) (calls more : List Call) → (if t then calls else []) ++ more ≡ (if t then calls ++ more else more)
    one_in_front true calls more = refl
    one_in_front false calls more = refl

    pub gathered : (v nodes k : ℕ) (ws : List W) → AreInTurn nodes k ws → map f (flat_map (raw_at v) ws) ≡ calls_of v nodes k (map (λ w. map f (raw w)) ws)
    gathered v nodes k [] h = refl
    gathered v nodes k (w ∷ ws) h =
        let here : node w ≡ k % nodes = h 0 w refl ∙ ap (λ (n : ℕ). n % nodes) (none_more k) in
        let rest = gathered v nodes (k + 1) ws (λ i x at. h (suc i) x at ∙ ap (λ (n : ℕ). n % nodes) (next_one k i)) in
        let later : List Call = calls_of v nodes (k + 1) (map (λ w. map f (raw w)) ws) in
        map-append f (raw_at v w) (flat_map (raw_at v) ws)
        ∙ ap (λ (cs : List Call). map f (raw_at v w) ++ cs) rest
        ∙ ap (λ (cs : List Call). cs ++ later) (told_at v w)
        ∙ one_in_front (node w == v) (map f (raw w)) later
        ∙ ap (λ (n : ℕ). if n == v then map f (raw w) ++ later else later) here

  -- a worker's calls made plus its calls left are as many as before, and so are those of a node

  pub record Shares (w t : W) : Type 0 where
    pub same : node t ≡ node w
    pub share : left t + length (raw t) ≡ left w + length (raw w)

  one_share : (v : ℕ) (w t : W) → Shares w t → left_at v t + length (raw_at v t) ≡ left_at v w + length (raw_at v w)
  one_share v w t h =
      ap (λ (n : ℕ). (if n == v then left t else 0) + length (if n == v then raw t else [])) h.same ∙ by_test (node w == v)
    where
      by_test : (b : Bool) → (if b then left t else 0) + length (if b then raw t else []) ≡ (if b then left w else 0) + length (if b then raw w else [])
      by_test true = h.share
      by_test false = refl

  pub all_shares : (v : ℕ) (ws ts : List W) → length ts ≡ length ws → ((k : ℕ) (w t : W) → slice_get ws k ≡ Some w → slice_get ts k ≡ Some t → Shares w t) →
      sum_by (left_at v) ts + length (flat_map (raw_at v) ts) ≡ sum_by (left_at v) ws + length (flat_map (raw_at v) ws)
  all_shares v [] [] long each = refl
  all_shares v [] (t ∷ ts) long each = absurd (omega (arith, long))
  all_shares v (w ∷ ws) [] long each = absurd (omega (arith, long))
  all_shares v (w ∷ ws) (t ∷ ts) long each =
      let one = one_share v w t (each 0 w t refl refl) in
      let rest = all_shares v ws ts (omega (arith, long)) (λ k x y was is. each (suc k) x y was is) in
      let a = sum_by-cons (left_at v) t ts in
      let b = sum_by-cons (left_at v) w ws in
      let c = length-append (raw_at v t) (flat_map (raw_at v) ts) in
      let d = length-append (raw_at v w) (flat_map (raw_at v) ws) in
      omega (arith, one, rest, a, b, c, d)

  -- if no worker made a call, the node has none
  pub none_made : (v : ℕ) (ws : List W) → ((k : ℕ) (w : W) → slice_get ws k ≡ Some w → raw w ≡ []) → flat_map (raw_at v) ws ≡ []
  none_made v [] each = refl
  none_made v (w ∷ ws) each =
      let one : raw_at v w ≡ [] = ap (λ (xs : List R). if node w == v then xs else []) (each 0 w refl) ∙ by_test (node w == v) in
      let rest = none_made v ws (λ k x at. each (suc k) x at) in
      λ i. one i ++ rest i
    where
      by_test : (b : Bool) → ◌≡◌ {A = List R} (if b then [] else []) []
      by_test true = refl
      by_test false = refl

pub each_after : {X : Type 0} (P : ℕ → X → Type 0) (xs after : List X) (y : X) → after ≡ xs ++ y ∷ [] → ((k : ℕ) (x : X) → slice_get xs k ≡ Some x → P k x) → P (length xs) y →
    (k : ℕ) (x : X) → slice_get after k ≡ Some x → P k x
each_after {X} P xs after y is h p k x at = each_pushed P xs y h p k x (sym (ap (λ (zs : List X). slice_get zs k) is) ∙ at)

pub sum_after : {X : Type 0} (f : X → ℕ) (xs after : List X) (y : X) → after ≡ xs ++ y ∷ [] → sum_by f after ≡ sum_by f xs + f y
sum_after f xs after y is = ap (sum_by f) is ∙ sum_by_push f xs y
