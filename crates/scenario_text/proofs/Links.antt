-- Nodes that no link joins.
use Rattle.std.proofs.Common.{◌≡◌, ℕ, zero, suc, Bool, true, false, ◌&&◌, eqb, [], ◌∷◌, Option, Some, None, refl, ap}
use Rattle.std.specs.Prelude.{◌≢◌, slice_index_or}
use Rattle.std.specs.List.{list_any}
use Rattle.route_table.specs.Table.{Table}
use borrow.Author.Tests.{eqb-true}
use Rattle.scenario_text.specs.Declaring.{is_between}

both : (x u y v : ℕ) (a b : Bool) → eqb x u ≡ a → eqb y v ≡ b → (a && b) ≡ true → ◌≡◌ {A = ℕ × ℕ} (x, y) (u, v)
both x u y v true true first second h = rw (eqb-true x u first, eqb-true y v second) refl
both x u y v true false first second h = absurd cc
both x u y v false b first second h = absurd cc

other : (x u y v : ℕ) (b : Bool) → (eqb x u && eqb y v) ≡ b → (◌≢◌ {A = Option (ℕ × ℕ)} (Some (x, y)) (Some (u, v))) → b ≡ false
other x u y v false e apart = refl
other x u y v true e apart = absurd (apart (ap (λ (p : ℕ × ℕ). Some p) (both x u y v (eqb x u) (eqb y v) refl refl e)))

pub none_joined : (t : Table) (pair : ℕ × ℕ) → ((link : ℕ) → slice_index_or t link None ≢ Some pair) → list_any (is_between pair) t ≡ false
none_joined [] pair apart = refl
none_joined (None ∷ t) pair apart = none_joined t pair (λ link. apart (suc link))
none_joined (Some (x, y) ∷ t) (u, v) apart =
    let differ : (eqb x u && eqb y v) ≡ false = other x u y v (eqb x u && eqb y v) refl (apart zero) in
    rw differ (none_joined t (u, v) (λ link. apart (suc link)))
