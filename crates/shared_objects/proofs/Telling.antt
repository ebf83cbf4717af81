-- What the workers said, machine by machine.
use Rattle.std.proofs.Common.{◌≡◌, ℕ, suc, ◌+◌, ◌*◌, slice_get, Some, List, [], ◌∷◌, ◌++◌, map, length, refl, ap, ap₂, subst, ◌∙◌, arith, length-append}
use Rattle.std.specs.List.{AllZip, AllByRecursion, flat_map, sum_by}
use Rattle.std.proofs.lemmas.List.Sums.{sum_by-cons}
use Rattle.net_model.specs.BlockOrder.{IsMerge}
use Rattle.turnstile.specs.declared.machine.Machine.{Ghosts}
use Rattle.turnstile.specs.declared.turnstile.Turnstile.{Turnstile}
use Rattle.turnstile.specs.Views.{IsWhole}
use Rattle.shared_objects.specs.Rising.{Rises, placed_from}
use Rattle.shared_objects.proofs.Placing.{placed_calls_merge}
use Rattle.shared_objects.specs.declared.pass.Post.{Post}
use Rattle.shared_objects.specs.Seats.{calls_at, budget_at, Belongs, Sits}
use Rattle.shared_objects.specs.Shares.{share_of}
use Rattle.shared_objects.proofs.Zips.{zip_weaker}
use Rattle.shared_objects.proofs.Merging.{rising_at, flat_together, none_whole}
use Rattle.shared_objects.specs.Said.{Said, said_on}
use Rattle.shared_objects.specs.Working.{HasTold, HaveTold}

module _ {M Q A C : Type 0} {g : Ghosts M Q A C} (ts : List (Turnstile M Q A C)) where
  -- A property that follows from the calls that a worker made holds of each worker.
  told_each : (P : List (Post M Q A C g) → Type 0) → ((said : List (Said Q A)) (p q : List (Post M Q A C g)) → HasTold ts said p q → P q) → (saids : List (List (Said Q A))) (ps qs : List (List (Post M Q A C g))) → HaveTold ts saids ps qs → AllByRecursion P qs
  told_each P f [] [] [] h = tt
  told_each P f [] [] (q ∷ qs) h = absurd h
  told_each P f [] (p ∷ ps) qs h = absurd h
  told_each P f (s ∷ ss) [] qs h = absurd h
  told_each P f (s ∷ ss) (p ∷ ps) [] h = absurd h
  told_each P f (s ∷ ss) (p ∷ ps) (q ∷ qs) h = (f s p q h.0, told_each P f ss ps qs h.1)

  pub all_belong : (saids : List (List (Said Q A))) (ps qs : List (List (Post M Q A C g))) → HaveTold ts saids ps qs → AllByRecursion (AllZip Belongs ts) qs
  all_belong = told_each (AllZip Belongs ts) (λ said p q h. zip_weaker Sits Belongs (λ t s k. k.fits) ts q h.sits)

  all_rise : (i : ℕ) (saids : List (List (Said Q A))) (ps qs : List (List (Post M Q A C g))) → HaveTold ts saids ps qs → AllByRecursion Rises (map (calls_at i) qs)
  all_rise i [] [] [] h = tt
  all_rise i [] [] (q ∷ qs) h = absurd h
  all_rise i [] (p ∷ ps) qs h = absurd h
  all_rise i (s ∷ ss) [] qs h = absurd h
  all_rise i (s ∷ ss) (p ∷ ps) [] h = absurd h
  all_rise i (s ∷ ss) (p ∷ ps) (q ∷ qs) h = (rising_at ts i q h.0.sits, all_rise i ss ps qs h.1)

  pub told_same : (saids : List (List (Said Q A))) (ps qs : List (List (Post M Q A C g))) → HaveTold ts saids ps qs → length qs ≡ length ps
  told_same [] [] [] h = refl
  told_same [] [] (q ∷ qs) h = absurd h
  told_same [] (p ∷ ps) qs h = absurd h
  told_same (s ∷ ss) [] qs h = absurd h
  told_same (s ∷ ss) (p ∷ ps) [] h = absurd h
  told_same (s ∷ ss) (p ∷ ps) (q ∷ qs) h = ap suc (told_same ss ps qs h.1)

  -- The calls of a machine that a worker has made and those that it has left keep the same sum.
  same_share : (i : ℕ) (said : List (Said Q A)) (p q : List (Post M Q A C g)) → HasTold ts said p q → share_of i q ≡ share_of i p
  same_share i said p q h =
      omega (arith, h.told.budget i, ap length (h.told.calls i), length-append (calls_at i p) (said_on i said))

  -- The calls that the workers made and those that they have left add up to all their budgets.
  pub shares_all : (i n : ℕ) (saids : List (List (Said Q A))) (ps qs : List (List (Post M Q A C g))) → HaveTold ts saids ps qs → AllByRecursion (λ p. share_of i p ≡ n) ps →
      sum_by (budget_at i) qs + length (flat_map (calls_at i) qs) ≡ length ps * n
  shares_all i n [] [] [] h s = omega arith
  shares_all i n [] [] (q ∷ qs) h s = absurd h
  shares_all i n [] (p ∷ ps) qs h s = absurd h
  shares_all i n (w ∷ ws) [] qs h s = absurd h
  shares_all i n (w ∷ ws) (p ∷ ps) [] h s = absurd h
  shares_all i n (w ∷ ws) (p ∷ ps) (q ∷ qs) h s =
      let rest = shares_all i n ws ps qs h.1 s.1 in
      let b = sum_by-cons (budget_at i) q qs in
      let l = length-append (calls_at i q) (flat_map (calls_at i) qs) in
      let w = same_share i w p q h.0 in
      omega (arith, rest, b, l, w, s.0)

  -- If workers had made no calls before, their calls are what they said.
  said_all : (i : ℕ) (saids : List (List (Said Q A))) (ps qs : List (List (Post M Q A C g))) → HaveTold ts saids ps qs → AllByRecursion (λ p. calls_at i p ≡ []) ps → map (calls_at i) qs ≡ map (said_on i) saids
  said_all i [] [] [] h none = refl
  said_all i [] [] (q ∷ qs) h none = absurd h
  said_all i [] (p ∷ ps) qs h none = absurd h
  said_all i (s ∷ ss) [] qs h none = absurd h
  said_all i (s ∷ ss) (p ∷ ps) [] h none = absurd h
  said_all i (s ∷ ss) (p ∷ ps) (q ∷ qs) h none =
      ap₂ (λ (x : List (ℕ × (Q × A))) (xs : List (List (ℕ × (Q × A)))). x ∷ xs)
      (h.0.told.calls i ∙ ap (λ (own : List (ℕ × (Q × A))). own ++ said_on i s) none.0)
      (said_all i ss ps qs h.1 none.1)

  pub merged_all : (i : ℕ) (saids : List (List (Said Q A))) (ps qs : List (List (Post M Q A C g))) (log : List (Q × A)) → HaveTold ts saids ps qs → AllByRecursion (λ p. calls_at i p ≡ []) ps →
      IsWhole (flat_map (calls_at i) qs) log → IsMerge (map (said_on i) saids) (placed_from 0 log)
  merged_all i saids ps qs log h none whole =
      subst (λ (parts : List (List (ℕ × (Q × A)))). IsMerge parts (placed_from 0 log)) (said_all i saids ps qs h none)
      (placed_calls_merge (map (calls_at i) qs) log (all_rise i saids ps qs h) (subst (λ (own : List (ℕ × (Q × A))). IsWhole own log) (flat_together (calls_at i) qs) whole))

  -- If nothing was said, there are no calls.
  none_made : (i : ℕ) (saids : List (List (Said Q A))) (ps qs : List (List (Post M Q A C g))) → HaveTold ts saids ps qs → AllByRecursion (λ p. calls_at i p ≡ []) ps → AllByRecursion (λ said. said ≡ []) saids → flat_map (calls_at i) qs ≡ []
  none_made i [] [] [] h none hush = refl
  none_made i [] [] (q ∷ qs) h none hush = absurd h
  none_made i [] (p ∷ ps) qs h none hush = absurd h
  none_made i (s ∷ ss) [] qs h none hush = absurd h
  none_made i (s ∷ ss) (p ∷ ps) [] h none hush = absurd h
  none_made i (s ∷ ss) (p ∷ ps) (q ∷ qs) h none hush =
      let own : calls_at i q ≡ [] = h.0.told.calls i ∙ ap (λ (own : List (ℕ × (Q × A))). own ++ said_on i s) none.0 ∙ ap (said_on i) hush.0 in
      ap₂ (λ (xs ys : List (ℕ × (Q × A))). xs ++ ys) own (none_made i ss ps qs h.1 none.1 hush.1)

  pub unmade_all : (i : ℕ) (saids : List (List (Said Q A))) (ps qs : List (List (Post M Q A C g))) (log : List (Q × A)) → HaveTold ts saids ps qs → AllByRecursion (λ p. calls_at i p ≡ []) ps → AllByRecursion (λ said. said ≡ []) saids →
      IsWhole (flat_map (calls_at i) qs) log → log ≡ []
  unmade_all i saids ps qs log h none hush whole = none_whole log (subst (λ (own : List (ℕ × (Q × A))). IsWhole own log) (none_made i saids ps qs h none hush) whole)

  -- each worker made its calls, put together from each of them
  pub told_of : (saids : List (List (Said Q A))) (ps qs : List (List (Post M Q A C g))) → length saids ≡ length ps → length qs ≡ length ps →
      ((w : ℕ) (said : List (Said Q A)) (p q : List (Post M Q A C g)) → slice_get saids w ≡ Some said → slice_get ps w ≡ Some p → slice_get qs w ≡ Some q → HasTold ts said p q) → HaveTold ts saids ps qs
  told_of [] [] [] a b h = tt
  told_of [] [] (q ∷ qs) a b h = absurd (omega (arith, b))
  told_of [] (p ∷ ps) qs a b h = absurd (omega (arith, a))
  told_of (s ∷ ss) [] qs a b h = absurd (omega (arith, a))
  told_of (s ∷ ss) (p ∷ ps) [] a b h = absurd (omega (arith, b))
  told_of (s ∷ ss) (p ∷ ps) (q ∷ qs) a b h = (h 0 s p q refl refl refl, told_of ss ps qs (omega (arith, a)) (omega (arith, b)) (λ w t x y u v z. h (suc w) t x y u v z))
