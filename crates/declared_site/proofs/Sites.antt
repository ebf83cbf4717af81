-- A declared site is a site of a network.
use Rattle.std.proofs.Common.{◌≡◌, ◌∙◌, ℕ, zero, suc, ◌<◌, true, List, [], ◌∷◌, length, Option, Some, None, refl, sym, ap, arith}
use Rattle.std.specs.Prelude.{nat_lt, slice_get, is_some, unwrap_or}
use Rattle.std.proofs.lemmas.Bool.Decides.{nat_tests}
use Rattle.std.proofs.lemmas.List.Sums.{count_by-le-length}
use Rattle.net_model.specs.Premises.{IsSite, IsLink, IsAllowed}
use Rattle.route_table.specs.Table.{ends_of}
use Rattle.sae_entitlements.specs.Grants.{Sae}
use Rattle.declared_site.specs.declared.site.Site.{Site as Declared}
use Rattle.declared_site.specs.SiteOf.{IsDeclared, IsDeclaredPair, site_of, links_in, home_or_none}

-- an option that holds a value
record There {A : Type 0} (o : Option A) : Type 0 where
  one : A
  is : o ≡ Some one

there : {A : Type 0} (o : Option A) → is_some o ≡ true → There o
there None h = cc
there (Some a) h = record { one = a; is = refl }

below : (a b : ℕ) → a < b → nat_lt a b ≡ true
below a b h = grind (arith, nat_tests)

got : {A : Type 0} (xs : List A) (i : ℕ) → i < length xs → There (slice_get xs i)
got [] i h = absurd (omega (arith, h))
got (x ∷ xs) zero h = record { one = x; is = refl }
got (x ∷ xs) (suc i) h = got xs i (omega (arith, h))

module _ (d : Declared) (k : IsDeclared d) where
  ends_at : (link : ℕ) → link < links_in d.routes → There (ends_of d.routes link)
  ends_at link h = there (ends_of d.routes link) (k.numbers link ∙ below link (links_in d.routes) h)

  low_is : (link : ℕ) (p : ℕ × ℕ) → ends_of d.routes link ≡ Some p → (site_of d).low link ≡ p.0
  low_is link p e = ap (λ (o : Option (ℕ × ℕ)). (unwrap_or o (0, 0)).0) e

  high_is : (link : ℕ) (p : ℕ × ℕ) → ends_of d.routes link ≡ Some p → (site_of d).high link ≡ p.1
  high_is link p e = ap (λ (o : Option (ℕ × ℕ)). (unwrap_or o (0, 0)).1) e

  is_link : (link : ℕ) → link < links_in d.routes → IsLink (site_of d) link
  is_link link h =
      let t = ends_at link h in
      let low = low_is link t.one t.is in
      let high = high_is link t.one t.is in
      let order = k.table.lower_first link t.one.0 t.one.1 t.is in
      let within = k.ends link t.one.0 t.one.1 t.is in
      record { order = omega (arith, low, high, order); within = omega (arith, high, within) }

  single : (l m : ℕ) → l < links_in d.routes → m < links_in d.routes → (site_of d).low l ≡ (site_of d).low m → (site_of d).high l ≡ (site_of d).high m → l ≡ m
  single l m h i same_low same_high =
      let a = ends_at l h in
      let b = ends_at m i in
      let low : b.one.0 ≡ a.one.0 = sym (low_is m b.one b.is) ∙ sym same_low ∙ low_is l a.one a.is in
      let high : b.one.1 ≡ a.one.1 = sym (high_is m b.one b.is) ∙ sym same_high ∙ high_is l a.one a.is in
      k.table.one_each l m a.one.0 a.one.1 a.is (b.is ∙ ap (λ (v : ℕ). Some (v, b.one.1)) low ∙ ap (λ (w : ℕ). Some (a.one.0, w)) high)

  home_below : (n : ℕ) → n < length d.entitlements.saes → home_or_none d.entitlements n < length d.nodes
  home_below n h =
      let t = got d.entitlements.saes n h in
      let is : home_or_none d.entitlements n ≡ t.one.home = ap (λ (o : Option Sae). unwrap_or (elim o as (λ o. Option ℕ) [ None ↦ None | Some s ↦ Some s.home ]) 0) t.is in
      let below = k.homes n t.one t.is in
      omega (arith, is, below)

  is_allowed_pair : (master slave : ℕ) → IsDeclaredPair d.entitlements master slave → IsAllowed (site_of d) master slave
  is_allowed_pair master slave p =
      let saes = k.saes in
      let first = p.master_there in
      let last = p.slave_there in
      record {
        first_number = omega (arith, saes, first);
        last_number = omega (arith, saes, last);
        first_home = home_below master p.master_there;
        last_home = home_below slave p.slave_there;
        apart = p.apart;
      }

  pub is_site : IsSite (site_of d)
  is_site =
      let counted = count_by-le-length is_some d.routes in
      let places = k.table.places in
      record {
        nodes = k.nodes;
        links = omega (arith, counted, places);
        ends = is_link;
        single = single;
        pairs = λ master slave h. is_allowed_pair master slave (k.pairs master slave h);
      }
