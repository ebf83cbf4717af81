-- The first number without a link is the number of links.
use Rattle.std.proofs.Common.{◌≡◌, ◌⊎◌, inl, inr, ℕ, zero, suc, ◌+◌, ◌<◌, ◌≤◌, true, [], ◌∷◌, length, refl, sym, ap, ◌∙◌, arith, Some, None}
use Rattle.std.specs.Prelude.{is_some, is_none}
use Rattle.std.specs.List.{position_from}
use Rattle.std.proofs.lemmas.Bool.{ltb-true, lt-ltb}
use Rattle.route_table.specs.Table.{Table, ends_of}
use Rattle.declared_site.specs.SiteOf.{IsDeclared, links_in}
use Rattle.declared_site.specs.declared.site.Site.{Site as Declared}
use Rattle.declared_site.proofs.Sites.{is_site}
use Rattle.net_world.proofs.Lists.{some_is}
use Rattle.net_world.proofs.Back.{below_or_past}

all_before : (t : Table) (i m : ℕ) → position_from is_none i t ≡ Some m → (j : ℕ) → i + j < m → is_some (ends_of t j) ≡ true
all_before [] i m is j below = absurd (cc is)
all_before (None ∷ t) i m is j below = let same : i ≡ m = some_is is in absurd (omega (arith, same, below))
all_before (Some p ∷ t) i m is zero below = refl
all_before (Some p ∷ t) i m is (suc j) below = all_before t (i + 1) m is j (omega (arith, below))

all_there : (t : Table) (i : ℕ) → position_from is_none i t ≡ None → (j : ℕ) → j < length t → is_some (ends_of t j) ≡ true
all_there [] i is j below = absurd (omega (arith, below))
all_there (None ∷ t) i is j below = absurd (cc is)
all_there (Some p ∷ t) i is zero below = refl
all_there (Some p ∷ t) i is (suc j) below = all_there t (i + 1) is j (omega (arith, below))

module _ (d : Declared) (k : IsDeclared d) where
  abbrev links : ℕ
  links = links_in d.routes

  not_last : is_some (ends_of d.routes links) ≡ true → ⊥
  not_last h = let less = ltb-true links links (sym (k.numbers links) ∙ h) in omega (arith, less)

  pub few : links ≤ 32
  few = (is_site d k).links

  pub all_links : position_from is_none 0 d.routes ≡ None → 32 ≡ links
  all_links is = by (below_or_past links 32)
    where
      by : (links < 32) ⊎ (32 ≤ links) → 32 ≡ links
      by (inl less) = absurd (not_last (all_there d.routes 0 is links (omega (arith, less, k.table.places))))
      by (inr past) = let most = few in omega (arith, past, most)

  pub first_free : (link : ℕ) → position_from is_none 0 d.routes ≡ Some link → ends_of d.routes link ≡ None → link ≡ links
  first_free link is free = by (below_or_past links link) (below_or_past link links)
    where
      by : (links < link) ⊎ (link ≤ links) → (link < links) ⊎ (links ≤ link) → link ≡ links
      by (inl less) other = absurd (not_last (all_before d.routes 0 link is links (omega (arith, less))))
      by (inr most) (inl less) = absurd (cc (sym (ap is_some free) ∙ k.numbers link ∙ lt-ltb link links less))
      by (inr most) (inr least) = omega (arith, most, least)
