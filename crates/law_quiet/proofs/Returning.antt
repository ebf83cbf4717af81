-- A fact that its target knows is confirmed at its origin once nobody owes the target's note.
use Rattle.std.proofs.Common.{◌≡◌, ℕ, Bool, true, false, ◌||◌, List, [], ◌∷◌, ◌++◌, refl, sym, ◌∙◌, ap, subst, Some, inl, inr}
use Rattle.std.specs.Prelude.{◌==◌, find, is_some, reverse, if◌then◌else◌}
use Rattle.std.specs.List.{list_any}
use Rattle.std.proofs.lemmas.List.{reverse-append}
use Rattle.std.proofs.lemmas.List.Folds.{list_any-append}
use Rattle.qkd_base.specs.Name.{Name, has}
use Rattle.qkd_base.specs.Route.{is_route}
use Rattle.net_model.specs.declared.fact.Fact.{Fact}
use Rattle.net_model.specs.declared.fact.Fact.TheVariants.{Stored}
use Rattle.net_model.specs.Table.{route_of, origin, target, fact_at, is_secret, is_stored_about}
use Rattle.net_model.specs.World.{Network, World}
use Rattle.net_model.specs.Knowledge.{IsOn}
use Rattle.net_model.specs.Needed.{view_of}
use Rattle.net_model.specs.Decision.{is_confirmed}
use Rattle.net_model.specs.Invariant.{Conserved}
use Rattle.law_base.proofs.Base.{name_eq_same, or_left, or_right, or_cases}
use Rattle.law_base.proofs.Masked.{stored_blind}
use Rattle.law_base.proofs.Seen.{bare_view, view_sees, view_me, seen_some}
use Rattle.law_invariant.proofs.Made.{ranged_route, on_first}
use Rattle.law_quiet.specs.Delivered.{IsDelivered, IsBack}
use Rattle.law_quiet.specs.Noted.{AreNoted}
use Rattle.law_quiet.proofs.Routes.{last_on}

some_any : (p : Fact → Bool) (xs : List Fact) → is_some (find p xs) ≡ true → list_any p xs ≡ true
some_any p [] h = cc
some_any p (x ∷ xs) h = elim (p x) as (λ t. is_some (if t then Some x else find p xs) ≡ true → (t || list_any p xs) ≡ true) [
  | true ↦ λ e. refl
  | false ↦ λ e. some_any p xs e
] h

-- A reversed route has the same nodes.
pub on_reverse : (route : List ℕ) (v : ℕ) → IsOn route v → IsOn (reverse route) v
on_reverse [] v h = cc
on_reverse (a ∷ rest) v h =
    let turned : reverse (a ∷ rest) ≡ reverse rest ++ a ∷ [] = reverse-append (a ∷ []) rest in
    let both : list_any (λ u. u == v) (reverse (a ∷ rest)) ≡ (list_any (λ u. u == v) (reverse rest) || ((a == v) || false)) =
    ap (list_any (λ u. u == v)) turned ∙ list_any-append (λ u. u == v) (reverse rest) (a ∷ []) in
    let some : (list_any (λ u. u == v) (reverse rest) || ((a == v) || false)) ≡ true = elim (or_cases (a == v) (list_any (λ u. u == v) rest) h) [
      | inl is ↦ or_right (list_any (λ u. u == v) (reverse rest)) _ (or_left (a == v) false is)
      | inr later ↦ or_left (list_any (λ u. u == v) (reverse rest)) _ (on_reverse rest v later)
    ] in
    both ∙ some

module _ (net : Network) (w : World) (c : Conserved net w) (noted : AreNoted w.durable.facts w.durable.known) (n : Name) (f : Fact) (there : fact_at w.durable.facts n ≡ Some f) (secret : is_secret f ≡ true) where
  route : is_route (route_of f) ≡ true
  route = (ranged_route f (c.now.table n f there).ranged).0

  -- What the origin knows of the note it sees.
  sees_note : (note : Name) → fact_at w.durable.facts note ≡ Some (Stored note n (reverse (route_of f))) → has (w.durable.known (origin f)) note ≡ true →
      is_confirmed (view_of net w (origin f)) n ≡ true
  sees_note note at knows =
      some_any (is_stored_about n) (view_of net w (origin f)).facts
      (seen_some net.site w.durable (view_of net w (origin f)) (bare_view net w (origin f)) (view_sees net w (origin f)) (is_stored_about n) (stored_blind n)
      (Stored note n (reverse (route_of f))) at (subst (λ (u : ℕ). has (w.durable.known u) note ≡ true) (sym (view_me net w (origin f))) knows) (name_eq_same n))

  -- The note of the target.
  abbrev pub word : Name → Fact
  word note = Stored note n (reverse (route_of f))

  pub back : IsDelivered w n f → ((m : Name) → fact_at w.durable.facts m ≡ Some (word m) → IsDelivered w m (word m)) → IsBack net w n f
  back came returns =
      let x = noted n f there secret (came.known (target f) (last_on (route_of f) route)) in
      let returned = returns x.note x.there in
      record {
        note = x.note;
        there = x.there;
        delivered = returned;
        seen = sees_note x.note x.there (returned.known (origin f) (on_reverse (route_of f) (origin f) (on_first (route_of f) (origin f) route refl)));
      }
