-- Routes to several homes, one by one.
use Rattle.std.proofs.Common.{◌≡◌, ℕ, Bool, false, List, [], ◌∷◌, ◌++◌, refl, sym, ◌∙◌, ap, Option, Some, None, append_assoc}
use Rattle.std.specs.Prelude.{is_some}
use Rattle.net_model.specs.Site.{Site}
use Rattle.net_model.specs.Routes.{route}
use Rattle.net_model.specs.Groups.{routes_to, with_route}

-- the routes so far, followed by those to the other homes, if these have routes
abbrev pub with_front : List (ℕ × List ℕ) → Option (List (ℕ × List ℕ)) → Option (List (ℕ × List ℕ))
with_front front None = None
with_front front (Some rest) = Some (front ++ rest)

pub no_front : (o : Option (List (ℕ × List ℕ))) → with_front [] o ≡ o
no_front None = refl
no_front (Some rest) = refl

append_nil : (xs : List (ℕ × List ℕ)) → xs ++ [] ≡ xs
append_nil [] = refl
append_nil (x ∷ xs) = ap (λ (ys : List (ℕ × List ℕ)). x ∷ ys) (append_nil xs)

pub whole_front : (front : List (ℕ × List ℕ)) → with_front front (Some []) ≡ Some front
whole_front front = ap Some (append_nil front)

module _ (site : Site) (up : ℕ → Bool) (me s : ℕ) (ss : List ℕ) where
  pub blocked : None ≡ route site up me (site.home s) → is_some (routes_to site up me (s ∷ ss)) ≡ false
  blocked h = ap (λ (o : Option (List ℕ)). is_some (with_route s o (routes_to site up me ss))) (sym h)

  pub open_route : (routed : List ℕ) → Some routed ≡ route site up me (site.home s) → is_some (routes_to site up me (s ∷ ss)) ≡ is_some (routes_to site up me ss)
  open_route routed h = ap (λ (o : Option (List ℕ)). is_some (with_route s o (routes_to site up me ss))) (sym h) ∙ by (routes_to site up me ss)
    where
      by : (o : Option (List (ℕ × List ℕ))) → is_some (with_route s (Some routed) o) ≡ is_some o
      by None = refl
      by (Some rest) = refl

  pub one_route : (routed : List ℕ) (front : List (ℕ × List ℕ)) → Some routed ≡ route site up me (site.home s) →
      with_front front (routes_to site up me (s ∷ ss)) ≡ with_front (front ++ (s, routed) ∷ []) (routes_to site up me ss)
  one_route routed front h = ap (λ (o : Option (List ℕ)). with_front front (with_route s o (routes_to site up me ss))) (sym h) ∙ by (routes_to site up me ss)
    where
      by : (o : Option (List (ℕ × List ℕ))) → with_front front (with_route s (Some routed) o) ≡ with_front (front ++ (s, routed) ∷ []) o
      by None = refl
      by (Some rest) = ap Some (sym (append_assoc front ((s, routed) ∷ []) rest))
