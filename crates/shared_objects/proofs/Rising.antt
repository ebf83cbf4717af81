-- A caller's places in the history rise from call to call.
use Rattle.std.proofs.Common.{◌≡◌, ℕ, ◌<◌, List, [], ◌∷◌, ◌++◌, length, arith}
use Rattle.std.specs.List.{AllByRecursion}
use mathlib.Core.List.{IsPrefix}
use Rattle.turnstile.specs.Views.{places, Stands}
use Rattle.turnstile.proofs.Fronts.{at_length, prefix_length}
use Rattle.shared_objects.specs.Rising.{Rises}
use Rattle.shared_objects.proofs.Alls.{all_map}

module _ {E : Type 0} where
  more_above : (n p : ℕ) (e : E) (calls : List (ℕ × E)) → n < p → AllByRecursion (λ q. n < q) (places calls) → AllByRecursion (λ q. n < q) (places (calls ++ (p, e) ∷ []))
  more_above n p e [] below h = (below, tt)
  more_above n p e (c ∷ cs) below h = (h.0, more_above n p e cs below h.1)

  -- A call whose place is above all earlier places may be added to them.
  pub rises_more : (calls : List (ℕ × E)) (p : ℕ) (e : E) → Rises calls → AllByRecursion (λ q. q < p) (places calls) → Rises (calls ++ (p, e) ∷ [])
  rises_more [] p e h below = (tt, tt)
  rises_more (c ∷ cs) p e h below = (more_above c.0 p e cs below.0 h.0, rises_more cs p e h.1 below.1)

  -- Calls that stand in a history have places below its length.
  pub stands_below : (calls : List (ℕ × E)) (log : List E) → Stands calls log → AllByRecursion (λ q. q < length log) (places calls)
  stands_below [] log h = tt
  stands_below (c ∷ cs) log h = (at_length log c.0 c.1 h.0, stands_below cs log h.1)

  -- Calls that stand in a prefix of a history have places below the place of the next call.
  pub below_next : (calls : List (ℕ × E)) (seen before : List E) (p : ℕ) → Stands calls seen → IsPrefix seen before → length before ≡ p →
      AllByRecursion (λ q. q < p) (places calls)
  below_next calls seen before p h begins long =
      let le = prefix_length seen before begins in
      all_map (λ q. q < length seen) (λ q. q < p) (λ q lt. omega (arith, le, long, lt)) (places calls) (stands_below calls seen h)

  -- So the places still rise when the next call is added.
  pub rises_on : (calls : List (ℕ × E)) (seen before : List E) (p : ℕ) (e : E) → Rises calls → Stands calls seen → IsPrefix seen before → length before ≡ p →
      Rises (calls ++ (p, e) ∷ [])
  rises_on calls seen before p e rises h begins long = rises_more calls p e rises (below_next calls seen before p h begins long)
