-- How the set of what nodes took changes with an item.
use Rattle.std.proofs.Common.{◌≡◌, ℕ, Bool, true, false, ◌&&◌, ◌||◌, eqb, List, ◌∷◌, Option, Some, None, refl, sym, ap, ◌∙◌}
use Rattle.std.specs.Str.{bytes_eq}
use Rattle.ordered_set.specs.Entries.{has_entry}
use Rattle.qkd_base.specs.Name.{kind_number}
use Rattle.run_types.specs.declared.scenario.Scenario.{Scenario}
use Rattle.run_types.specs.declared.item.NumberedItem.{NumberedItem}
use Rattle.run_audit.specs.Rows.{same}
use Rattle.whole_audit.specs.declared.knowledge.Heard.{Heard}
use Rattle.whole_audit.specs.Knowledge.{heard_of, heard_eq, is_heard, has_heard}
use Rattle.whole_audit.specs.Kept.{bool_number, heard_entry}

bools : (a b : Bool) → eqb (bool_number a) (bool_number b) ≡ same a b
bools true true = refl
bools true false = refl
bools false true = refl
bools false false = refl

in_order : (c n k v s : Bool) → (c && (n && (k && (v && (s && true))))) ≡ (v && s && (n && k && c))
in_order true true true true true = refl
in_order true true true true false = refl
in_order true true true false true = refl
in_order true true true false false = refl
in_order true true false true true = refl
in_order true true false true false = refl
in_order true true false false true = refl
in_order true true false false false = refl
in_order true false true true true = refl
in_order true false true true false = refl
in_order true false true false true = refl
in_order true false true false false = refl
in_order true false false true true = refl
in_order true false false true false = refl
in_order true false false false true = refl
in_order true false false false false = refl
in_order false true true true true = refl
in_order false true true true false = refl
in_order false true true false true = refl
in_order false true true false false = refl
in_order false true false true true = refl
in_order false true false true false = refl
in_order false true false false true = refl
in_order false true false false false = refl
in_order false false true true true = refl
in_order false false true true false = refl
in_order false false true false true = refl
in_order false false true false false = refl
in_order false false false true true = refl
in_order false false false true false = refl
in_order false false false false true = refl
in_order false false false false false = refl

pub heard_entries : (g h : Heard) → bytes_eq (heard_entry g) (heard_entry h) ≡ heard_eq g h
heard_entries g h =
    ap (λ (b : Bool). eqb g.name.count h.name.count && (eqb g.name.node h.name.node && (eqb (kind_number g.name.kind) (kind_number h.name.kind) && (eqb g.node h.node && (b && true))))) (bools g.is_ack h.is_ack)
    ∙ in_order (eqb g.name.count h.name.count) (eqb g.name.node h.name.node) (eqb (kind_number g.name.kind) (kind_number h.name.kind)) (eqb g.node h.node) (same g.is_ack h.is_ack)

module _ (s : Scenario) (old : List (List ℕ)) (told : NumberedItem) (before : List NumberedItem) (kept : (h : Heard) → has_entry old (heard_entry h) ≡ has_heard s before h) where
  pub none_heard : heard_of s.site told.item ≡ None → (h : Heard) → has_entry old (heard_entry h) ≡ has_heard s (told ∷ before) h
  none_heard none h = kept h ∙ ap (λ (o : Option Heard). is_heard o h || has_heard s before h) (sym none)

  pub some_heard : (new : List (List ℕ)) (g : Heard) → heard_of s.site told.item ≡ Some g → ((e : List ℕ) → has_entry new e ≡ (bytes_eq (heard_entry g) e || has_entry old e)) → (h : Heard) → has_entry new (heard_entry h) ≡ has_heard s (told ∷ before) h
  some_heard new g some put h =
      put (heard_entry h)
      ∙ ap (λ (b : Bool). b || has_entry old (heard_entry h)) (heard_entries g h)
      ∙ ap (λ (b : Bool). heard_eq g h || b) (kept h)
      ∙ ap (λ (o : Option Heard). is_heard o h || has_heard s before h) (sym some)
