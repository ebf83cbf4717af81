-- Overwriting the one fact of a name.
use Rattle.std.proofs.Common.{◌≡◌, ℕ, Bool, true, false, ◌&&◌, List, refl, sym, ◌∙◌, ap, subst, arith, Option, Some, None}
use Rattle.std.specs.Prelude.{slice_get, ◌==◌, IfSome}
use Rattle.qkd_base.specs.Name.{Name, name_eq}
use Rattle.net_model.specs.declared.fact.Fact.{Fact}
use Rattle.net_model.specs.declared.fact.Fact.TheVariants.{Part}
use Rattle.net_model.specs.Table.{name_of, is_part_of, was_handed}
use Rattle.net_model.specs.Needed.{masked_fact}
use Rattle.relay_core.specs.declared.group.Group.TheVariants.{Named, PartsOf}
use Rattle.relay_core.specs.Firsts.{IsFirstFrom, IsNoneFrom}
use Rattle.relay_core.specs.Knowledge.{AreDistinct}
use Rattle.relay_core.proofs.Firsts.{any_at, first_find, none_find}
use Rattle.relay_core.proofs.Names.{eq_same, name_eq_from, name_eq_same, names_same}
use Rattle.stream_core.specs.Kept.{StreamEnds}
use Rattle.kme_facts.specs.Needs.{kept_view}
use Rattle.kme_facts.specs.Settled.{IsSettled, AreSettled, LetsGo, key_of, IsToldSettled}
use Rattle.kme_facts.proofs.Settling.{facts_in, in_group, shapes_stay, stood, group_stays, group_shape, key_one, key_stays, same_some}

-- if the fact of a name is settled, all facts of this name are
pub named_settled : (a b : StreamEnds) (n : Name) (place : ℕ) → AreDistinct (facts_in a) → IsFirstFrom (in_group a (Named n)) (facts_in a) 0 place → LetsGo a b → IsSettled b place → AreSettled b (Named n)
named_settled a b n place distinct first go settled = record {
  each = λ p f at h.
      let was = stood (facts_in a) (facts_in b) p f (shapes_stay a b go) at in
      let named = name_eq_from (name_of was.old) n (sym (group_shape a (Named n) f was.old was.shape) ∙ sym (group_stays a b (Named n) go f) ∙ h) in
      let here = name_eq_from (name_of first.item) n first.passes in
      let same : p ≡ place = distinct.apart p place n (record { fact = was.old; there = was.there; named = named }) (record { fact = first.item; there = first.there; named = here }) in
      subst (IsSettled b) (sym same) settled;
}

-- facts that were acknowledged

no_key : (key : Name) (P : Type 0) → None ≡ Some key → P
no_key key P e = absurd (let u : ⊥ = cc in u)

pub none_told : (s : StreamEnds) (n : Name) → IsNoneFrom (in_group s (Named n)) (facts_in s) 0 → IsToldSettled s n
none_told s n none = record {
  named = record { each = λ p f at h. let c : true ≡ false = sym h ∙ none.none p f (omega arith) at in absurd (let u : ⊥ = cc in u) };
  parts = λ key e. no_key key (AreSettled s (PartsOf key)) (sym (ap key_of (none_find (λ f. name_eq (name_of f) n) (facts_in s) none)) ∙ e);
}

pub one_told : (a b : StreamEnds) (n : Name) (place : ℕ) → AreDistinct (facts_in a) → IsFirstFrom (in_group a (Named n)) (facts_in a) 0 place → LetsGo a b → IsSettled b place →
    ((key : Name) → key_of (slice_get (facts_in a) place) ≡ Some key → AreSettled b (PartsOf key)) → IsToldSettled b n
one_told a b n place distinct first go settled parts = record {
  named = named_settled a b n place distinct first go settled;
  parts = λ key e. parts key (sym (ap key_of (first_find (λ f. name_eq (name_of f) n) (facts_in a) place first)) ∙ sym (key_stays a b n go) ∙ e);
}

-- a part belongs to the parts of its group key

is_its_part : (f : Fact) (key : Name) → key_of (Some f) ≡ Some key → is_part_of key f ≡ true
is_its_part (Part name key' master slave route bytes) key e = names_same key' key (same_some key' key e)
is_its_part _ key e = cc

pub part_there : (a b : StreamEnds) (place : ℕ) (key : Name) → LetsGo a b → key_of (slice_get (facts_in a) place) ≡ Some key → AreSettled b (PartsOf key) → IsSettled b place
part_there a b place key go is settled = by (slice_get (facts_in b) place) refl
  where
    by : (o : Option Fact) → slice_get (facts_in b) place ≡ o → IsSettled b place
    by None e = subst (λ (o : Option Fact). IfSome o (λ x. masked_fact (kept_view b) x ≡ x)) (sym e) tt
    by (Some x) e =
        let was = stood (facts_in a) (facts_in b) place x (shapes_stay a b go) e in
        settled.each place x e (is_its_part x key (sym (key_one x) ∙ ap (λ (f : Fact). key_of (Some f)) was.shape ∙ key_one was.old ∙ sym (ap key_of was.there) ∙ is))

-- keys that were handed out

pub named_given : (facts : List Fact) (handed : List (Name × ℕ)) (n : Name) (sae place : ℕ) → IsFirstFrom (λ f. name_eq (name_of f) n) facts 0 place → was_handed handed n sae ≡ true →
    IfSome (slice_get facts place) (λ f. was_handed handed (name_of f) sae ≡ true)
named_given facts handed n sae place first h =
    subst (λ (o : Option Fact). IfSome o (λ f. was_handed handed (name_of f) sae ≡ true)) (sym first.there) (ap (λ (m : Name). was_handed handed m sae) (name_eq_from (name_of first.item) n first.passes) ∙ h)

pub given_at : (hs : List (Name × ℕ)) (place : ℕ) (x : Name × ℕ) → slice_get hs place ≡ Some x → was_handed hs x.0 x.1 ≡ true
given_at hs place x there =
    any_at (λ (h : Name × ℕ). name_eq h.0 x.0 && (h.1 == x.1)) hs place x there (ap (λ (b : Bool). b && (x.1 == x.1)) (name_eq_same x.0) ∙ eq_same x.1)
