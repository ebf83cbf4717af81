-- The table and the site agree on which nodes a link that is up joins.
use Rattle.std.proofs.Common.{◌≡◌, ℕ, zero, suc, ◌<◌, ◌==◌, ◌&&◌, ◌||◌, not, Bool, true, false, [], ◌∷◌, length, Option, Some, None, refl, sym, ap, ◌∙◌, inl, inr, arith}
use Rattle.std.proofs.lemmas.Bool.{cases_lt, eqb-true, eq-eqb, ne_eqb, lt-ltb, ltb-true, or_cases, and_parts, and_from, or_left, or_right, false≢true}
use Rattle.std.proofs.lemmas.List.Folds.{list_any-append}
use Rattle.std.specs.Prelude.{IsBitSet, bit_and, ◌^◌, is_some, unwrap_or}
use Rattle.std.specs.List.{list_any}
use Rattle.net_model.specs.Site.{Site, count_up}
use Rattle.net_model.specs.Routes.{joins, are_joined}
use Rattle.declared_site.specs.declared.site.Site.{Site as Declared}
use Rattle.declared_site.specs.SiteOf.{IsDeclared, site_of, links_in}
use Rattle.route_table.specs.Table.{Table, ends_of}
use Rattle.route_table.specs.Walk.{AreJoined}
use Rattle.route_table.specs.Layer.{bit_is_set}
use Rattle.route_table.proofs.Layers.{link_below}
use Rattle.kme_base.specs.Up.{AreUp}

-- If a number below n passes a test, the search among the numbers below n succeeds.
pub any_up : (p : ℕ → Bool) (n i : ℕ) → i < n → p i ≡ true → list_any p (count_up n) ≡ true
any_up p zero i below h = absurd (omega (arith, below))
any_up p (suc n) i below h =
    list_any-append p (count_up n) (n ∷ [])
    ∙ elim (cases_lt i n) [
      | inl before ↦ or_left (list_any p (count_up n)) (p n || false) (any_up p n i before h)
      | inr not_before ↦
          let here : i ≡ n = omega (arith, below, not_before) in
          or_right (list_any p (count_up n)) (p n || false) (or_left (p n) false (ap p (sym here) ∙ h))
    ]

pub record IsUpTo (p : ℕ → Bool) (n : ℕ) : Type 0 where
  pub number : ℕ
  pub below : number < n
  pub passes : p number ≡ true

pub up_to : (p : ℕ → Bool) (n : ℕ) → list_any p (count_up n) ≡ true → IsUpTo p n
up_to p zero h = absurd (false≢true h)
up_to p (suc n) h =
    elim (or_cases (list_any p (count_up n)) (p n || false) (sym (list_any-append p (count_up n) (n ∷ [])) ∙ h)) [
      | inl before ↦ let i = up_to p n before in record { number = i.number; below = omega (arith, i.below); passes = i.passes }
      | inr here ↦ record { number = n; below = omega arith; passes = elim (or_cases (p n) false here) [ inl is ↦ is | inr never ↦ absurd (false≢true never) ] }
    ]

pub set_bit : (up link : ℕ) → bit_is_set up link ≡ true → IsBitSet up link
set_bit up link h e = false≢true (sym (ap not (eq-eqb (bit_and up (2 ^ link)) 0 e)) ∙ h)

pub bit_set : (up link : ℕ) → IsBitSet up link → bit_is_set up link ≡ true
bit_set up link h = ap not (ne_eqb (bit_and up (2 ^ link)) 0 h)

-- the site's links join the same nodes as the table's
pub record AreAlike (s : Site) (is_up : ℕ → Bool) (t : Table) (up : ℕ) : Type 0 where
  pub there : (a b : ℕ) → AreJoined t up a b → are_joined s is_up a b ≡ true
  pub back : (a b : ℕ) → are_joined s is_up a b ≡ true → AreJoined t up a b
  pub below : (a b : ℕ) → AreJoined t up a b → b < s.nodes

some_below : (t : Table) (link : ℕ) → is_some (ends_of t link) ≡ true → link < length t
some_below [] link h = absurd (false≢true h)
some_below (e ∷ rest) zero h = omega arith
some_below (e ∷ rest) (suc link) h = omega (arith, some_below rest link h)

-- The number of a link that the table has is below the number of links.
pub link_counts : (d : Declared) → IsDeclared d → (link : ℕ) (ends : ℕ × ℕ) → ends_of d.routes link ≡ Some ends → link < links_in d.routes
link_counts d h link ends is = ltb-true link (links_in d.routes) (sym (h.numbers link) ∙ ap is_some is)

some_of : (o : Option (ℕ × ℕ)) (a b : ℕ) → is_some o ≡ true → (unwrap_or o (0, 0)).0 ≡ a → (unwrap_or o (0, 0)).1 ≡ b → o ≡ Some (a, b)
some_of None a b there low high = absurd (false≢true there)
some_of (Some (x, y)) a b there low high = ap (λ (v : ℕ). Some (v, y)) low ∙ ap (λ (w : ℕ). Some (a, w)) high

module _ (d : Declared) (h : IsDeclared d) (up : ℕ) (is_up : ℕ → Bool) (same : AreUp up is_up) where
  -- A link with these two ends joins them in the site too.
  joins_both : (link a b x y : ℕ) → ends_of d.routes link ≡ Some (x, y) → IsBitSet up link → (((x == a) && (y == b)) || ((x == b) && (y == a))) ≡ true → are_joined (site_of d) is_up a b ≡ true
  joins_both link a b x y is bit joined =
      let low : (site_of d).low link ≡ x = ap (λ (o : Option (ℕ × ℕ)). (unwrap_or o (0, 0)).0) is in
      let high : (site_of d).high link ≡ y = ap (λ (o : Option (ℕ × ℕ)). (unwrap_or o (0, 0)).1) is in
      let places : link < 32 = omega (arith, link_below d.routes link (x, y) is, h.table.places) in
      any_up (joins (site_of d) is_up a b) (links_in d.routes) link (link_counts d h link (x, y) is)
      (and_from (is_up link) _ (same link places ∙ bit_set up link bit)
      (ap (λ (v : ℕ). ((v == a) && ((site_of d).high link == b)) || ((v == b) && ((site_of d).high link == a))) low
      ∙ ap (λ (w : ℕ). ((x == a) && (w == b)) || ((x == b) && (w == a))) high ∙ joined))

  there : (a b : ℕ) → AreJoined d.routes up a b → are_joined (site_of d) is_up a b ≡ true
  there a b j =
      elim j.joins [
        | inl is ↦ joins_both j.link a b a b is j.is_up (or_left ((a == a) && (b == b)) _ (and_from (a == a) (b == b) (eq-eqb a a refl) (eq-eqb b b refl)))
        | inr is ↦ joins_both j.link a b b a is j.is_up (or_right ((b == a) && (a == b)) _ (and_from (b == b) (a == a) (eq-eqb b b refl) (eq-eqb a a refl)))
      ]

  back : (a b : ℕ) → are_joined (site_of d) is_up a b ≡ true → AreJoined d.routes up a b
  back a b joined =
      let i = up_to (joins (site_of d) is_up a b) (links_in d.routes) joined in
      let low = (site_of d).low i.number in
      let high = (site_of d).high i.number in
      let parts = and_parts (is_up i.number) (((low == a) && (high == b)) || ((low == b) && (high == a))) i.passes in
      let counted : is_some (ends_of d.routes i.number) ≡ true = h.numbers i.number ∙ lt-ltb i.number (links_in d.routes) i.below in
      let places : i.number < 32 = below_places i.number counted in
      record {
        link = i.number;
        is_up = set_bit up i.number (sym (same i.number places) ∙ parts.0);
        joins = elim (or_cases ((low == a) && (high == b)) ((low == b) && (high == a)) parts.1) [
          | inl is ↦ let ends = and_parts (low == a) (high == b) is in inl (some_of (ends_of d.routes i.number) a b counted (eqb-true low a ends.0) (eqb-true high b ends.1))
          | inr is ↦ let ends = and_parts (low == b) (high == a) is in inr (some_of (ends_of d.routes i.number) b a counted (eqb-true low b ends.0) (eqb-true high a ends.1))
        ];
      }
    where
      below_places : (link : ℕ) → is_some (ends_of d.routes link) ≡ true → link < 32
      below_places link is = omega (arith, some_below d.routes link is, h.table.places)

  below : (a b : ℕ) → AreJoined d.routes up a b → b < (site_of d).nodes
  below a b j =
      elim j.joins [
        | inl is ↦ h.ends j.link a b is
        | inr is ↦ omega (arith, h.table.lower_first j.link b a is, h.ends j.link b a is)
      ]

  pub are_alike : AreAlike (site_of d) is_up d.routes up
  are_alike = record { there = there; back = back; below = below }
