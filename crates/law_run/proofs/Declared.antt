-- Each declaration line keeps the site valid.
use Rattle.std.proofs.Common.{◌≡◌, ◌∙◌, inl, inr, ℕ, zero, suc, ◌+◌, ◌<◌, ◌==◌, ◌&&◌, not, true, false, List, [], ◌∷◌, ◌++◌, length, Option, Some, None, refl, sym, ap, subst, arith, length-append, get_or, replicate}
use Rattle.std.specs.Prelude.{nat_lt, slice_get, is_none, is_some, unwrap_or, option_map}
use Rattle.std.specs.List.{position_from}
use Rattle.std.specs.Str.{bytes_eq}
use Rattle.std.proofs.lemmas.Bool.{and_parts, or_cases, eqb-true, eqb-false, ltb-true, le-ltb, not-true, false≢true}
use Rattle.std.proofs.lemmas.Slice.Eq.{bytes_eq-Decides}
use Rattle.route_table.specs.Table.{no_links, ends_of, lower_then_higher}
use Rattle.route_table.proofs.Tables.{table_first}
use Rattle.sae_entitlements.specs.Grants.{Sae, Grants, none, find_sae, home_of, with_sae, with_pair, is_allowed, HasDistinctIds}
use Rattle.sae_entitlements.proofs.Pairs.{allowed_after, nobody_allowed}
use Rattle.declared_site.specs.declared.site.Site.{Site}
use Rattle.declared_site.specs.SiteOf.{IsDeclared, IsDeclaredPair, home_or_none}
use Rattle.scenario_text.specs.Words.{Word, one_of, two_of, is_name}
use Rattle.scenario_text.specs.Fields.{node_of, sae_of}
use Rattle.scenario_text.specs.Declaring.{declared_node, declared_link, declared_sae, declared_pair, is_joined, free_link}
use Rattle.law_run.proofs.FitGiven.{bound, guarded, three_parts}
use Rattle.law_run.proofs.Fields.{node_below, sae_below}
use Rattle.law_run.proofs.Found.{at_push, get_front, unfound, found_front, found_last, free_at}
use Rattle.law_run.proofs.Linked as linked

none_there : {A : Type 0} (o : Option A) → is_none o ≡ true → o ≡ None
none_there None h = refl
none_there (Some x) h = absurd cc

same_bytes : (x y : List ℕ) → x ≡ y → bytes_eq x y ≡ false → ⊥
same_bytes x y e other = false≢true (sym other ∙ (bytes_eq-Decides x y).1 e)

distinct_more : (all : List Sae) (more : Sae) → HasDistinctIds all → find_sae all more.id ≡ None → HasDistinctIds (all ++ more ∷ [])
distinct_more all more distinct unknown n s is =
    elim (at_push all more n s is) [
      | inl before ↦ found_front (λ (x : Sae). bytes_eq x.id s.id) 0 all (more ∷ []) n (distinct n s before)
      | inr last ↦
          found_last (λ (x : Sae). bytes_eq x.id s.id) 0 all more (ap (λ (x : Sae). find_sae all x.id) (sym last.1) ∙ unknown) ((bytes_eq-Decides more.id s.id).1 (ap (λ (x : Sae). x.id) last.1))
          ∙ ap Some (let at = last.0 in omega (arith, at))
    ]

home_kept : (g : Grants) (id : List ℕ) (home n : ℕ) → n < length g.saes → home_or_none (with_sae g id home) n ≡ home_or_none g n
home_kept g id home n below = ap (λ (o : Option Sae). unwrap_or (option_map (λ (s : Sae). s.home) o) 0) (get_front g.saes (record { id = id; home = home } ∷ []) n below)

abbrev nobody : Option (ℕ × ℕ)
nobody = None

none_at : (n link : ℕ) → get_or (replicate n nobody) link nobody ≡ nobody
none_at zero link = refl
none_at (suc n) zero = refl
none_at (suc n) (suc link) = none_at n link

none_ends : (link : ℕ) (e : ℕ × ℕ) → ends_of no_links link ≡ Some e → ⊥
none_ends link e is = let none = none_at 32 link in cc

no_number : (link : ℕ) → is_some (ends_of no_links link) ≡ nat_lt link 0
no_number link = ap is_some (none_at 32 link) ∙ sym (le-ltb link 0 (omega arith))

pub nothing_declared : IsDeclared (record { nodes = []; routes = no_links; entitlements = none })
nothing_declared = record {
  nodes = omega arith;
  names = λ i j name is at. absurd cc;
  table = table_first;
  numbers = no_number;
  ends = λ link low high is. absurd (none_ends link (low, high) is);
  saes = omega arith;
  ids = λ n s is. absurd cc;
  homes = λ n s is. absurd cc;
  pairs = λ master slave is. absurd (false≢true (sym (nobody_allowed master slave) ∙ is));
}

module _ (d : Site) (k : IsDeclared d) where
  names_push : (name : List ℕ) → position_from (λ other. bytes_eq other name) 0 d.nodes ≡ None → (i j : ℕ) (x : List ℕ) →
      slice_get (d.nodes ++ name ∷ []) i ≡ Some x → slice_get (d.nodes ++ name ∷ []) j ≡ Some x → i ≡ j
  names_push name new i j x is at =
      elim (at_push d.nodes name i x is) [
        | inl first ↦
            elim (at_push d.nodes name j x at) [
              | inl second ↦ k.names i j x first second
              | inr last ↦ absurd (same_bytes x name (sym last.1) (unfound (λ other. bytes_eq other name) 0 d.nodes new i x first))
            ]
        | inr end ↦
            elim (at_push d.nodes name j x at) [
              | inl second ↦ absurd (same_bytes x name (sym end.1) (unfound (λ other. bytes_eq other name) 0 d.nodes new j x second))
              | inr last ↦ end.0 ∙ sym last.0
            ]
      ]

  with_node : (name : List ℕ) → position_from (λ other. bytes_eq other name) 0 d.nodes ≡ None → length d.nodes < 16 → IsDeclared (record d { nodes = d.nodes ++ name ∷ [] })
  with_node name new room =
      let long = length-append d.nodes (name ∷ []) in
      record {
        nodes = omega (arith, room, long);
        names = names_push name new;
        table = k.table;
        numbers = k.numbers;
        ends = λ link low high is. let below = k.ends link low high is in omega (arith, below, long);
        saes = k.saes;
        ids = k.ids;
        homes = λ n s is. let below = k.homes n s is in omega (arith, below, long);
        pairs = k.pairs;
      }

  pub node_kept : (ws : List Word) (now : Site) → declared_node d ws ≡ Some now → IsDeclared now × (length now.nodes ≡ length d.nodes + 1)
  unfolding declared_node
  node_kept ws now e =
      let name = bound (one_of ws) _ now e in
      let kept = guarded (is_name 32 name.0 && is_none (position_from (λ other. bytes_eq other name.0) 0 d.nodes) && nat_lt (length d.nodes) 16) _ now name.2 in
      let parts = three_parts (is_name 32 name.0) _ (nat_lt (length d.nodes) 16) kept.0 in (
        subst IsDeclared kept.1 (with_node name.0 (none_there _ parts.1) (ltb-true (length d.nodes) 16 parts.2)),
        ap (λ (s : Site). length s.nodes) (sym kept.1) ∙ length-append d.nodes (name.0 ∷ []),
      )

  pub link_kept : (ws : List Word) (now : Site) → declared_link d ws ≡ Some now → IsDeclared now × (now.nodes ≡ d.nodes)
  unfolding declared_link
  link_kept ws now e =
      let w = bound (two_of ws) _ now e in
      let a = bound (node_of d w.0.0) _ now w.2 in
      let b = bound (node_of d w.0.1) _ now a.2 in
      let link = bound (free_link d.routes) _ now b.2 in
      let kept = guarded (not (a.0 == b.0) && not (is_joined d.routes a.0 b.0)) _ now link.2 in
      let parts = and_parts (not (a.0 == b.0)) (not (is_joined d.routes a.0 b.0)) kept.0 in
      let free = free_at d.routes 0 link.0 link.1 in
      let ordered = linked.in_order (length d.nodes) a.0 b.0 (node_below d w.0.0 a.0 a.1) (node_below d w.0.1 b.0 b.1) (not-true (a.0 == b.0) parts.0) in
      let p : ℕ × ℕ = lower_then_higher a.0 b.0 in (
        subst IsDeclared kept.1 (record {
          nodes = k.nodes;
          names = k.names;
          table = linked.table_after d.routes k.table k.numbers link.0 free p (length d.nodes) k.nodes ordered (not-true (is_joined d.routes a.0 b.0) parts.1);
          numbers = linked.numbers_after d.routes k.table k.numbers link.0 free p;
          ends = linked.ends_within d.routes k.table k.numbers link.0 free p (length d.nodes) ordered k.ends;
          saes = k.saes;
          ids = k.ids;
          homes = k.homes;
          pairs = k.pairs;
        }),
        ap (λ (s : Site). s.nodes) (sym kept.1),
      )

  with_application : (id : List ℕ) (home : ℕ) → home < length d.nodes → find_sae d.entitlements.saes id ≡ None → length d.entitlements.saes < 256 →
      IsDeclared (record d { entitlements = with_sae d.entitlements id home })
  with_application id home below new room =
      let long = length-append d.entitlements.saes (record { id = id; home = home } ∷ []) in
      record {
        nodes = k.nodes;
        names = k.names;
        table = k.table;
        numbers = k.numbers;
        ends = k.ends;
        saes = omega (arith, room, long);
        ids = distinct_more d.entitlements.saes (record { id = id; home = home }) k.ids new;
        homes = λ n s is.
            elim (at_push d.entitlements.saes (record { id = id; home = home }) n s is) [
              | inl before ↦ k.homes n s before
              | inr last ↦ subst (λ (x : Sae). x.home < length d.nodes) last.1 below
            ];
        pairs = λ master slave is.
            let pair = k.pairs master slave is in
            let first = pair.master_there in
            let second = pair.slave_there in
            record {
              master_there = omega (arith, first, long);
              slave_there = omega (arith, second, long);
              apart = λ same. pair.apart (sym (home_kept d.entitlements id home master first) ∙ same ∙ home_kept d.entitlements id home slave second);
            };
      }

  pub sae_kept : (ws : List Word) (now : Site) → declared_sae d ws ≡ Some now → IsDeclared now × (now.nodes ≡ d.nodes)
  unfolding declared_sae
  sae_kept ws now e =
      let w = bound (two_of ws) _ now e in
      let home = bound (node_of d w.0.1) _ now w.2 in
      let kept = guarded (is_name 64 w.0.0 && is_none (find_sae d.entitlements.saes w.0.0) && nat_lt (length d.entitlements.saes) 256) _ now home.2 in
      let parts = three_parts (is_name 64 w.0.0) _ (nat_lt (length d.entitlements.saes) 256) kept.0 in (
        subst IsDeclared kept.1
            (with_application w.0.0 home.0 (node_below d w.0.1 home.0 home.1) (none_there _ parts.1) (ltb-true (length d.entitlements.saes) 256 parts.2)),
        ap (λ (s : Site). s.nodes) (sym kept.1),
      )

  with_two : (master slave : ℕ) → IsDeclaredPair d.entitlements master slave → IsDeclared (record d { entitlements = with_pair d.entitlements master slave })
  with_two master slave pair = record {
    nodes = k.nodes;
    names = k.names;
    table = k.table;
    numbers = k.numbers;
    ends = k.ends;
    saes = k.saes;
    ids = k.ids;
    homes = k.homes;
    pairs = λ m s is.
        elim (or_cases ((m == master) && (s == slave)) (is_allowed d.entitlements m s) (sym (allowed_after d.entitlements master slave m s) ∙ is)) [
          | inl new ↦
              let parts = and_parts (m == master) (s == slave) new in
              let first = eqb-true m master parts.0 in
              let second = eqb-true s slave parts.1 in
              of_pair m s (subst (λ (n : ℕ). IsDeclaredPair d.entitlements m n) (sym second) (subst (λ (n : ℕ). IsDeclaredPair d.entitlements n slave) (sym first) pair))
          | inr old ↦ of_pair m s (k.pairs m s old)
        ];
  }
    where
      of_pair : (m s : ℕ) → IsDeclaredPair d.entitlements m s → IsDeclaredPair (with_pair d.entitlements master slave) m s
      of_pair m s p = record { master_there = p.master_there; slave_there = p.slave_there; apart = p.apart }

  pub pair_kept : (ws : List Word) (now : Site) → declared_pair d ws ≡ Some now → IsDeclared now × (now.nodes ≡ d.nodes)
  unfolding declared_pair
  pair_kept ws now e =
      let w = bound (two_of ws) _ now e in
      let master = bound (sae_of d w.0.0) _ now w.2 in
      let slave = bound (sae_of d w.0.1) _ now master.2 in
      let m = bound (home_of d.entitlements master.0) _ now slave.2 in
      let s = bound (home_of d.entitlements slave.0) _ now m.2 in
      let kept = guarded (not (m.0 == s.0)) _ now s.2 in
      let first : home_or_none d.entitlements master.0 ≡ m.0 = ap (λ (o : Option ℕ). unwrap_or o 0) m.1 in
      let second : home_or_none d.entitlements slave.0 ≡ s.0 = ap (λ (o : Option ℕ). unwrap_or o 0) s.1 in
      let pair : IsDeclaredPair d.entitlements master.0 slave.0 = record {
        master_there = sae_below d w.0.0 master.0 master.1;
        slave_there = sae_below d w.0.1 slave.0 slave.1;
        apart = λ same. eqb-false m.0 s.0 (not-true (m.0 == s.0) kept.0) (sym first ∙ same ∙ second);
      } in
      (subst IsDeclared kept.1 (with_two master.0 slave.0 pair), ap (λ (s : Site). s.nodes) (sym kept.1))
