-- Parts that are laid out one by one.
use Rattle.std.proofs.Common.{◌≡◌, ◌⊎◌, Bool, inl, inr, ℕ, zero, suc, ◌+◌, ◌*◌, ◌<◌, List, [], ◌∷◌, ◌++◌, length, take, drop, refl, sym, ap, subst, ◌∙◌, arith, add-one, Option, Some, None}
use Rattle.std.specs.Prelude.{slice_get, nat_lt, if◌then◌else◌}
use Rattle.std.proofs.lemmas.Bool.{lt-ltb}
use Rattle.std.specs.Option.{option_map}
use Rattle.qkd_base.specs.declared.lane.Way.{Way}
use Rattle.qkd_base.specs.declared.lane.Way.TheVariants.{Up, Down}
use Rattle.qkd_base.specs.declared.lane.Lane.{Lane}
use Rattle.lane_sender.specs.Lane.{LaneForm}
use Rattle.world_state.specs.Passed.{Off}
use Rattle.world_state.specs.Stands.{place_of}
use Rattle.net_world.specs.Laid.{unstarted, without_bytes}
use Rattle.net_world.proofs.Lists.{at_drop, some_is}

-- the posts of one more node

one_more : {K E : Type 0} (n : ℕ) (ks : List K) (es : List E) (k : K) (e : E) (others : List K) (rest : List E) → drop n ks ≡ k ∷ others → drop n es ≡ e ∷ rest →
    unstarted (take (suc n) ks) (take (suc n) es) ≡ unstarted (take n ks) (take n es) ++ Off k e ∷ []
one_more zero [] es k e others rest a b = cc
one_more zero (x ∷ ks) [] k e others rest a b = cc
one_more zero (x ∷ ks) (y ∷ es) k e others rest a b = cc
one_more (suc n) [] es k e others rest a b = cc
one_more (suc n) (x ∷ ks) [] k e others rest a b = cc
one_more (suc n) (x ∷ ks) (y ∷ es) k e others rest a b = ap (λ ps. Off x y ∷ ps) (one_more n ks es k e others rest a b)

pub one_node_more : {K E : Type 0} (n : ℕ) (ks : List K) (es : List E) (k : K) (e : E) (others : List K) (rest : List E) → drop n ks ≡ k ∷ others → drop n es ≡ e ∷ rest →
    unstarted (take (n + 1) ks) (take (n + 1) es) ≡ unstarted (take n ks) (take n es) ++ Off k e ∷ []
one_node_more n ks es k e others rest a b = ap (λ (m : ℕ). unstarted (take m ks) (take m es)) (add-one n) ∙ one_more n ks es k e others rest a b

-- the two lanes of one more link

before : {A : Type 0} (xs : List A) (x y : A) (i : ℕ) → i < length xs → slice_get ((xs ++ x ∷ []) ++ y ∷ []) i ≡ slice_get xs i
before [] x y i below = absurd (omega (arith, below))
before (z ∷ xs) x y zero below = refl
before (z ∷ xs) x y (suc i) below = before xs x y i (omega (arith, below))

first_there : {A : Type 0} (xs : List A) (x y : A) → slice_get ((xs ++ x ∷ []) ++ y ∷ []) (length xs) ≡ Some x
first_there [] x y = refl
first_there (z ∷ xs) x y = first_there xs x y

second_there : {A : Type 0} (xs : List A) (x y : A) → slice_get ((xs ++ x ∷ []) ++ y ∷ []) (suc (length xs)) ≡ Some y
second_there [] x y = refl
second_there (z ∷ xs) x y = second_there xs x y

module _ {X : Type 0} (ls all : List (LaneForm X)) (ws : List X) (n : ℕ) (x y : X) (rest : List X) (even : length ls ≡ 2 * n)
    (is : all ≡ (ls ++ without_bytes (record { link = n; way = Up }) x ∷ []) ++ without_bytes (record { link = n; way = Down }) y ∷ []) (from : drop (2 * n) ws ≡ x ∷ y ∷ rest) where
  abbrev Placed : Lane → Type 0
  Placed k = slice_get all (place_of k) ≡ option_map (without_bytes k) (slice_get ws (place_of k))

  low : Placed (record { link = n; way = Up })
  low =
      ap (λ (ps : List (LaneForm X)). slice_get ps (2 * n + 0)) is
      ∙ ap (λ (i : ℕ). slice_get ((ls ++ without_bytes (record { link = n; way = Up }) x ∷ []) ++ without_bytes (record { link = n; way = Down }) y ∷ []) i) {x = 2 * n + 0} {y = length ls} (omega (arith, even))
      ∙ first_there ls (without_bytes (record { link = n; way = Up }) x) (without_bytes (record { link = n; way = Down }) y)
      ∙ sym (ap (option_map (without_bytes (record { link = n; way = Up }))) (sym (at_drop (2 * n) ws 0) ∙ ap (λ (ps : List X). slice_get ps 0) from))

  high : Placed (record { link = n; way = Down })
  high =
      ap (λ (ps : List (LaneForm X)). slice_get ps (2 * n + 1)) is
      ∙ ap (λ (i : ℕ). slice_get ((ls ++ without_bytes (record { link = n; way = Up }) x ∷ []) ++ without_bytes (record { link = n; way = Down }) y ∷ []) i) {x = 2 * n + 1} {y = suc (length ls)} (omega (arith, even))
      ∙ second_there ls (without_bytes (record { link = n; way = Up }) x) (without_bytes (record { link = n; way = Down }) y)
      ∙ sym (ap (option_map (without_bytes (record { link = n; way = Down }))) (sym (at_drop (2 * n) ws 1) ∙ ap (λ (ps : List X). slice_get ps 1) from))

  here : (way : Way) → Placed (record { link = n; way = way })
  here Up = low
  here Down = high

  place_below : (link : ℕ) (way : Way) → link < n → place_of (record { link = link; way = way }) < length ls
  place_below link Up below = omega (arith, even, below)
  place_below link Down below = omega (arith, even, below)

  pub two_lanes_more : ((k : Lane) → k.link < n → slice_get ls (place_of k) ≡ option_map (without_bytes k) (slice_get ws (place_of k))) → (k : Lane) → k.link < n + 1 → Placed k
  two_lanes_more older k below = by (le_cases k.link n below)
    where
      le_cases : (a b : ℕ) → a < b + 1 → (a < b) ⊎ (b ≡ a)
      le_cases a zero h = inr (omega (arith, h))
      le_cases zero (suc b) h = inl (omega arith)
      le_cases (suc a) (suc b) h = up (le_cases a b (omega (arith, h)))
        where
          up : (a < b) ⊎ (b ≡ a) → (suc a < suc b) ⊎ (suc b ≡ suc a)
          up (inl h) = inl (omega (arith, h))
          up (inr h) = inr (ap suc h)

      by : (k.link < n) ⊎ (n ≡ k.link) → Placed k
      by (inl less) =
          ap (λ (ps : List (LaneForm X)). slice_get ps (place_of k)) is
          ∙ before ls (without_bytes (record { link = n; way = Up }) x) (without_bytes (record { link = n; way = Down }) y) (place_of k) (place_below k.link k.way less)
          ∙ older k less
      by (inr same) = subst (λ (link : ℕ). Placed (record { link = link; way = k.way })) same (here k.way)

counted : {A : Type 0} (xs : List A) (a b : A) → length ((xs ++ a ∷ []) ++ b ∷ []) ≡ suc (suc (length xs))
counted [] a b = refl
counted (x ∷ xs) a b = ap suc (counted xs a b)

pub two_more : {A : Type 0} (xs all : List A) (a b : A) (n : ℕ) → length xs ≡ 2 * n → all ≡ (xs ++ a ∷ []) ++ b ∷ [] → length all ≡ 2 * (n + 1)
two_more xs all a b n even is = let more = ap length is ∙ counted xs a b in omega (arith, even, more)

dropped : {A : Type 0} (n : ℕ) (ws : List A) (x y : A) (rest : List A) → drop n ws ≡ x ∷ y ∷ rest → drop (suc (suc n)) ws ≡ rest
dropped zero [] x y rest is = cc
dropped zero (a ∷ []) x y rest is = cc
dropped zero (a ∷ b ∷ ws) x y rest is = cc
dropped (suc n) [] x y rest is = cc
dropped (suc n) (a ∷ ws) x y rest is = dropped n ws x y rest is

pub two_fewer : {A : Type 0} (n : ℕ) (ws : List A) (x y : A) (rest : List A) → drop (2 * n) ws ≡ x ∷ y ∷ rest → drop (2 * (n + 1)) ws ≡ rest
two_fewer n ws x y rest is = ap (λ (k : ℕ). drop k ws) {x = 2 * (n + 1)} {y = suc (suc (2 * n))} (omega arith) ∙ dropped (2 * n) ws x y rest is

-- the number of a declared link
pub link_is : (number top link : ℕ) (o : Option ℕ) → number < top → o ≡ (if nat_lt number top then Some number else None) → o ≡ Some link → link ≡ number
link_is number top link o below is there =
    some_is (sym there ∙ is ∙ ap (λ (t : Bool). if t then Some number else None) (lt-ltb number top below))

pub two_less : {A : Type 0} (xs ys zs : List A) (x y : A) → xs ≡ x ∷ ys → ys ≡ y ∷ zs → length xs ≡ length zs + 2
two_less xs ys zs x y is next = ap length is ∙ ap (λ (ws : List _). suc (length ws)) next ∙ add-two (length zs)
  where
    add-two : (n : ℕ) → suc (suc n) ≡ n + 2
    add-two n = omega arith
