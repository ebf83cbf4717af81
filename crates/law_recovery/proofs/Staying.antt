-- A fact that a view doesn't need stays unneeded, whatever the view learns, acknowledges or hands out.
use Rattle.std.proofs.Common.{◌≡◌, ℕ, Bool, true, false, cond, not, ◌&&◌, List, [], ◌∷◌, ◌++◌, refl, ◌∙◌, ap, Option, Some, None}
use Rattle.std.specs.Prelude.{if◌then◌else◌, ◌==◌, is_some}
use Rattle.std.specs.List.{list_any}
use Rattle.std.proofs.lemmas.List.Elements.{filter-append}
use Rattle.std.proofs.lemmas.List.Folds.{list_any-append}
use Rattle.qkd_base.specs.Name.{Name, has}
use Rattle.qkd_base.specs.Route.{next_after}
use Rattle.net_model.specs.declared.fact.Fact.{Fact}
use Rattle.net_model.specs.Table.{PartOf, part_of, parts_of, is_part_of, name_of, route_of, origin, target, was_handed, sae_at}
use Rattle.net_model.specs.View.{View}
use Rattle.net_model.specs.Needed.{is_owed, has_it, end_needs, is_needed}
use Rattle.law_base.proofs.Base.{eq_from, or_first, or_second, or_both, not_true}
use Rattle.law_base.proofs.Grow.{Grows, sae_grows}
use Rattle.law_recovery.proofs.Shapes.{knowing}

module _ (me : ℕ) (facts facts' : List Fact) (acked acked' : List Name) (handed handed' : List (Name × ℕ)) (grows : Grows facts facts')
    (acks : (n : Name) → has acked n ≡ true → has acked' n ≡ true)
    (hands : (n : Name) (sae : ℕ) → was_handed handed n sae ≡ true → was_handed handed' n sae ≡ true) where
  abbrev before : View
  before = knowing me facts acked handed

  abbrev after : View
  after = knowing me facts' acked' handed'

  marked_stays : (a b c : Bool) → (b ≡ true → c ≡ true) → (a && not b) ≡ false → (a && not c) ≡ false
  marked_stays false b c h k = refl
  marked_stays true true c h k = ap not (h refl)
  marked_stays true false c h k = cc

  pub owed_stays : (f : Fact) → is_owed before f ≡ false → is_owed after f ≡ false
  owed_stays f = marked_stays (is_some (next_after (route_of f) me)) (has acked (name_of f)) (has acked' (name_of f)) (acks (name_of f))

  pub owed_all : (fs : List Fact) → list_any (is_owed before) fs ≡ false → list_any (is_owed after) fs ≡ false
  owed_all [] h = refl
  owed_all (f ∷ fs) h =
      or_both (is_owed after f) (list_any (is_owed after) fs) (owed_stays f (or_first (is_owed before f) (list_any (is_owed before) fs) h))
      (owed_all fs (or_second (is_owed before f) (list_any (is_owed before) fs) h))

  has_stays : (n : Name) (o o' : Option ℕ) → ((sae : ℕ) → o ≡ Some sae → o' ≡ Some sae) → not (has_it before n o) ≡ false → not (has_it after n o') ≡ false
  has_stays n None o' h k = cc
  has_stays n (Some sae) o' h k =
      ap (λ (x : Option ℕ). not (has_it after n x)) (h sae refl) ∙ ap not (hands n sae (not_true (was_handed handed n sae) k))

  -- No part that is owed was added to a group key that its master has.
  abbrev pub PartsStay : Fact → Type 0
  PartsStay f = (p : PartOf) → part_of f ≡ Some p → origin f ≡ me → was_handed handed p.key p.master ≡ true →
      list_any (is_owed before) (parts_of facts p.key) ≡ false → list_any (is_owed after) (parts_of facts' p.key) ≡ false

  end_stays : (at_first : Bool) (f : Fact) (o : Option PartOf) → (at_first ≡ true → (p : PartOf) → o ≡ Some p → was_handed handed p.key p.master ≡ true →
      list_any (is_owed before) (parts_of facts p.key) ≡ false → list_any (is_owed after) (parts_of facts' p.key) ≡ false) →
      end_needs before at_first f o ≡ false → end_needs after at_first f o ≡ false
  end_stays at_first f None parts h =
      has_stays (name_of f) (sae_at facts at_first f) (sae_at facts' at_first f) (λ sae e. sae_grows facts facts' (λ u. []) (λ u. []) grows (λ u n k. k) at_first f sae e) h
  end_stays true f (Some p) parts h =
      let has' = not_true (was_handed handed p.key p.master) (or_first (not (was_handed handed p.key p.master)) (list_any (is_owed before) (parts_of facts p.key)) h) in
      let none = or_second (not (was_handed handed p.key p.master)) (list_any (is_owed before) (parts_of facts p.key)) h in
      or_both (not (was_handed handed' p.key p.master)) (list_any (is_owed after) (parts_of facts' p.key)) (ap not (hands p.key p.master has'))
      (parts refl p refl has' none)
  end_stays false f (Some p) parts h = ap not (hands p.key p.slave (not_true (was_handed handed p.key p.slave) h))

  pub needed_stays : (f : Fact) → PartsStay f → is_needed before f ≡ false → is_needed after f ≡ false
  unfolding is_needed
  needed_stays f parts h =
      or_both (is_owed after f) (if origin f == me then end_needs after true f (part_of f) else if target f == me then end_needs after false f (part_of f) else false)
      (owed_stays f (or_first (is_owed before f) (if origin f == me then end_needs before true f (part_of f) else if target f == me then end_needs before false f (part_of f) else false) h))
      (pick (or_second (is_owed before f) (if origin f == me then end_needs before true f (part_of f) else if target f == me then end_needs before false f (part_of f) else false) h))
    where
      pick : (if origin f == me then end_needs before true f (part_of f) else if target f == me then end_needs before false f (part_of f) else false) ≡ false →
          (if origin f == me then end_needs after true f (part_of f) else if target f == me then end_needs after false f (part_of f) else false) ≡ false
      pick k =
          elim (origin f == me) as (λ t. (origin f == me) ≡ t → (if t then end_needs before true f (part_of f) else if target f == me then end_needs before false f (part_of f) else false) ≡ false →
          (if t then end_needs after true f (part_of f) else if target f == me then end_needs after false f (part_of f) else false) ≡ false) [
            | true ↦ λ e x. end_stays true f (part_of f) (λ first p is. parts p is (eq_from (origin f) me e)) x
            | false ↦ λ e x. elim (target f == me) as (λ t. (if t then end_needs before false f (part_of f) else false) ≡ false → (if t then end_needs after false f (part_of f) else false) ≡ false) [
              | true ↦ λ y. end_stays false f (part_of f) (λ first. cc) y
              | false ↦ λ y. refl
            ] x
          ] refl k

-- The parts of a group key stay the same if the new fact isn't one of them.
pub parts_push : (me : ℕ) (facts : List Fact) (f : Fact) (acked : List Name) (handed : List (Name × ℕ)) (key : Name) → is_part_of key f ≡ false →
    list_any (is_owed (knowing me facts acked handed)) (parts_of facts key) ≡ false →
    list_any (is_owed (knowing me (facts ++ f ∷ []) acked handed)) (parts_of (facts ++ f ∷ []) key) ≡ false
parts_push me facts f acked handed key other h =
    let owed : Fact → Bool = is_owed (knowing me facts acked handed) in
    ap (list_any owed) (filter-append (is_part_of key) facts (f ∷ [])) ∙
    list_any-append owed (parts_of facts key) (parts_of (f ∷ []) key) ∙
    or_both (list_any owed (parts_of facts key)) (list_any owed (parts_of (f ∷ []) key)) h
    (ap (λ (t : Bool). list_any owed (cond t (f ∷ []) [])) other)
