-- A site of two nodes with a link is declared within its limits.
use Rattle.std.proofs.Common.{◌≡◌, ℕ, zero, suc, ◌+◌, ◌<◌, ◌==◌, ◌&&◌, nat_lt, false, List, [], ◌∷◌, length, get_or, replicate, Option, Some, None, refl, sym, ap, ◌∙◌, arith}
use Rattle.std.specs.Prelude.{is_some, option_map, slice_get, unwrap_or}
use Rattle.std.proofs.lemmas.Bool.{and_parts, eqb-true}
use Rattle.std.proofs.lemmas.Bool.Decides.{nat_tests}
use Rattle.route_table.specs.Table.{Table, no_links, ends_of, with_link, IsTable}
use Rattle.sae_entitlements.specs.Grants.{Sae, Grants, home_of, is_allowed, HasDistinctIds}
use Rattle.declared_site.specs.declared.site.Site.{Site as Declared}
use Rattle.declared_site.specs.SiteOf.{IsDeclared, IsDeclaredPair, home_or_none}

abbrev pub pair_nodes : List (List ℕ)
pair_nodes = (65 ∷ []) ∷ (66 ∷ []) ∷ []

abbrev pub pair_table : Table
pair_table = with_link no_links 0 0 1

letter : Option (List ℕ) → ℕ
letter None = 0
letter (Some []) = 0
letter (Some (x ∷ xs)) = x

letters : (i : ℕ) (name : List ℕ) → slice_get pair_nodes i ≡ Some name → letter (slice_get pair_nodes i) ≡ 65 + i
unfolding letter
letters zero name is = refl
letters (suc zero) name is = refl
letters (suc (suc i)) name is = cc

names_apart : (i j : ℕ) (name : List ℕ) → slice_get pair_nodes i ≡ Some name → slice_get pair_nodes j ≡ Some name → i ≡ j
names_apart i j name is at =
    let same : letter (slice_get pair_nodes i) ≡ letter (slice_get pair_nodes j) = ap letter (is ∙ sym at) in
    omega (arith, letters i name is, letters j name at, same)

abbrev absent : Option (ℕ × ℕ)
absent = None

past : (n link : ℕ) → get_or (replicate n absent) link absent ≡ absent
past zero link = refl
past (suc n) zero = refl
past (suc n) (suc link) = past n link

pub apart_of_none : (link a b : ℕ) → ends_of no_links link ≡ Some (a, b) → ⊥
apart_of_none link a b is = let none = past 32 link in cc

numbers : (link : ℕ) → is_some (ends_of pair_table link) ≡ nat_lt link 1
numbers zero = refl
numbers (suc link) = ap is_some (past 31 link) ∙ sym (never link)
  where
    never : (link : ℕ) → nat_lt (suc link) 1 ≡ false
    never link = grind (arith, nat_tests)

high : Option (ℕ × ℕ) → ℕ
high None = 0
high (Some ends) = ends.1

highs : (link : ℕ) → high (ends_of pair_table link) < 2
unfolding high
highs zero = omega arith
highs (suc link) = let none = ap high (past 31 link) in omega (arith, none)

high_below : (link a b : ℕ) → ends_of pair_table link ≡ Some (a, b) → b < 2
unfolding high
high_below link a b is = let same : high (ends_of pair_table link) ≡ b = ap high is in omega (arith, highs link, same)

there : (saes : List Sae) (n : ℕ) (sae : Sae) → slice_get saes n ≡ Some sae → n < length saes
there [] n sae is = cc
there (x ∷ xs) zero sae is = omega arith
there (x ∷ xs) (suc n) sae is = omega (arith, there xs n sae is)

some_home : (g : Grants) (n home : ℕ) (sae : Sae) → home_of g n ≡ Some home → slice_get g.saes n ≡ Some sae → sae.home ≡ home
some_home g n home sae known is = ap (λ (p : Option ℕ). unwrap_or p 0) (sym (ap (option_map (λ (x : Sae). x.home)) is) ∙ known)

homes_below : (g : Grants) → length g.saes ≡ 2 → home_of g 0 ≡ Some 0 → home_of g 1 ≡ Some 1 → (n : ℕ) (sae : Sae) → slice_get g.saes n ≡ Some sae → sae.home < 2
homes_below g two first second zero sae is = let home = some_home g 0 0 sae first is in omega (arith, home)
homes_below g two first second (suc zero) sae is = let home = some_home g 1 1 sae second is in omega (arith, home)
homes_below g two first second (suc (suc n)) sae is = let below = there g.saes (suc (suc n)) sae is in absurd (omega (arith, below, two))

pair_declared : (g : Grants) → length g.saes ≡ 2 → home_of g 0 ≡ Some 0 → home_of g 1 ≡ Some 1 → (m s : ℕ) → m ≡ 0 → s ≡ 1 → IsDeclaredPair g m s
pair_declared g two first second m s master slave =
    let at_first : home_or_none g m ≡ 0 = ap (home_or_none g) master ∙ ap (λ (p : Option ℕ). unwrap_or p 0) first in
    let at_last : home_or_none g s ≡ 1 = ap (home_or_none g) slave ∙ ap (λ (p : Option ℕ). unwrap_or p 0) second in
    record {
      master_there = omega (arith, master, two);
      slave_there = omega (arith, slave, two);
      apart = λ e. omega (arith, at_first, at_last, e);
    }

pub site_declared : (d : Declared) → d.nodes ≡ pair_nodes → d.routes ≡ pair_table → IsTable d.routes → length d.entitlements.saes ≡ 2 → home_of d.entitlements 0 ≡ Some 0 → home_of d.entitlements 1 ≡ Some 1
    → HasDistinctIds d.entitlements.saes → ((m s : ℕ) → is_allowed d.entitlements m s ≡ ((m == 0) && (s == 1))) → IsDeclared d
site_declared d nodes routes table two first second distinct pairs = record {
  nodes = omega (arith, ap length nodes);
  names = rw nodes names_apart;
  table = table;
  numbers = rw routes numbers;
  ends = λ link a b is.
      let below = high_below link a b (ap (λ (t : Table). ends_of t link) (sym routes) ∙ is) in
      omega (arith, below, ap length nodes);
  saes = omega (arith, two);
  ids = distinct;
  homes = λ n sae is.
      let below = homes_below d.entitlements two first second n sae is in
      omega (arith, below, ap length nodes);
  pairs = λ m s allowed.
      let parts = and_parts (m == 0) (s == 1) (sym (pairs m s) ∙ allowed) in
      pair_declared d.entitlements two first second m s (eqb-true m 0 parts.0) (eqb-true s 1 parts.1);
}
