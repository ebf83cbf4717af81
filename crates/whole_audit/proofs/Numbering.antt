-- How the counts of the names of nodes change with an item.
use Rattle.std.proofs.Common.{◌≡◌, ℕ, Bool, true, false, cond, eqb, eqb-true, List, [], ◌∷◌, Option, Some, None, refl, sym, ap, ◌∙◌, inl, inr}
use Rattle.std.specs.Prelude.{unwrap_or}
use Rattle.std.specs.Ordering.{nat_cmp}
use Rattle.std.specs.Cmp.Lexicographic.{slice_cmp}
use Rattle.std.specs.BTreeMap.{Updates}
use Rattle.std.proofs.lemmas.Map.Text.{is_eq-slice_cmp}
use Rattle.std.proofs.lemmas.Bool.{cases_Bool}
use Rattle.run_audit.specs.Table.{at}
use Rattle.run_audit.proofs.Keys.{and_true}
use Rattle.run_types.specs.declared.scenario.Scenario.{Scenario}
use Rattle.run_types.specs.declared.item.NumberedItem.{NumberedItem}
use Rattle.whole_audit.specs.declared.blocks.Count.{Count}
use Rattle.item_audit.specs.declared.given.Given.{Given}
use Rattle.whole_audit.specs.declared.names.Names.{Names}
use Rattle.whole_audit.specs.Names.{given, count_behind, names_behind, names_of}
use Rattle.whole_audit.specs.Kept.{no_count, named_at, AreNamed}

-- A table with one more count has it at its node, and the earlier ones elsewhere.
pub names_put : (old new : Names) (v : ℕ) (n : Count) → Updates (slice_cmp nat_cmp) old.nodes new.nodes (v ∷ []) (Some n) → (w : ℕ) → named_at new w ≡ cond (eqb v w) n (named_at old w)
names_put old new v n updates w =
    ap (λ (o : Option Count). unwrap_or o no_count) (updates.0 (w ∷ []) ∙ ap (λ (b : Bool). cond b (Some n) (at old.nodes (w ∷ []))) (is_eq-slice_cmp (v ∷ []) (w ∷ []) ∙ and_true (eqb v w)))
    ∙ inside (eqb v w) (at old.nodes (w ∷ []))
  where
    inside : (b : Bool) (o : Option Count) → unwrap_or (cond b (Some n) o) no_count ≡ cond b n (unwrap_or o no_count)
    inside true o = refl
    inside false o = refl

pub named_none : (s : Scenario) (n : Names) (t : NumberedItem) (before : List NumberedItem) → None ≡ given s t → AreNamed s n before → AreNamed s n (t ∷ before)
named_none s n t before none h v = h v ∙ ap (λ (o : Option Given). names_behind o v (names_of s v before)) none

pub named_some : (s : Scenario) (old new : Names) (g : Given) (t : NumberedItem) (before : List NumberedItem) → Some g ≡ given s t → AreNamed s old before
    → (n : Count) → n ≡ count_behind g.first g.more (names_of s g.node before) → ((v : ℕ) → named_at new v ≡ cond (eqb g.node v) n (named_at old v)) → AreNamed s new (t ∷ before)
named_some s old new g t before some h n is put v = for_node ∙ ap (λ (o : Option Given). names_behind o v (names_of s v before)) some
  where
    for_node : named_at new v ≡ cond (eqb g.node v) (count_behind g.first g.more (names_of s v before)) (names_of s v before)
    for_node = elim (cases_Bool (eqb g.node v)) [
      | inl same ↦
          put v
          ∙ ap (λ (b : Bool). cond b n (named_at old v)) same
          ∙ is
          ∙ ap (λ (w : ℕ). count_behind g.first g.more (names_of s w before)) (eqb-true g.node v same)
          ∙ sym (ap (λ (b : Bool). cond b (count_behind g.first g.more (names_of s v before)) (names_of s v before)) same)
      | inr other ↦
          put v
          ∙ ap (λ (b : Bool). cond b n (named_at old v)) other
          ∙ h v
          ∙ sym (ap (λ (b : Bool). cond b (count_behind g.first g.more (names_of s v before)) (names_of s v before)) other)
    ]
