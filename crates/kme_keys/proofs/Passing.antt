-- The first item that passes a test, found among those that pass a weaker one.
use Rattle.std.proofs.Common.{◌≡◌, ℕ, ◌+◌, ◌<◌, ◌≤◌, Bool, true, false, ◌&&◌, ◌||◌, List, length, refl, sym, ◌∙◌, ap, arith, Some, ◌⊎◌, inl, inr}
use Rattle.std.specs.Prelude.{slice_get, ◌==◌}
use Rattle.std.proofs.lemmas.Bool.Decides.{nat_tests}
use Rattle.qkd_base.specs.Name.{Name, name_eq}
use Rattle.net_model.specs.declared.fact.Fact.{Fact}
use Rattle.net_model.specs.declared.fact.Fact.TheVariants.{Key, Chunk, Stored, Open, Joined, Part}
use Rattle.net_model.specs.Table.{name_of, is_part_of}
use Rattle.net_model.specs.Pools.{is_for}
use Rattle.relay_core.specs.Firsts.{IsFirstFrom, IsNoneFrom}
use Rattle.relay_core.specs.Knowledge.{AreDistinct}
use Rattle.relay_core.proofs.Firsts.{not_true, get_within}
use Rattle.relay_core.proofs.Names.{and_left, name_eq_from}
use Rattle.kme_keys.specs.Holding.{is_key_for, is_part_for, passes_at}

-- no fact before a place passes
pub record IsNoneBefore (q : Fact → Bool) (facts : List Fact) (from : ℕ) : Type 0 where
  pub none : (p : ℕ) (x : Fact) → p < from → slice_get facts p ≡ Some x → q x ≡ false

pub none_yet : (q : Fact → Bool) (facts : List Fact) → IsNoneBefore q facts 0
none_yet q facts = record { none = λ p x lt g. absurd (omega arith) }

split_at : (p from : ℕ) → (p < from) ⊎ (from ≤ p)
split_at p from = grind (arith, nat_tests)

fails : (q : Fact → Bool) (facts : List Fact) (p place : ℕ) (x : Fact) → p ≡ place → slice_get facts p ≡ Some x → passes_at q (slice_get facts place) ≡ false → q x ≡ false
fails q facts p place x e g h = ap (passes_at q) (sym g) ∙ ap (λ (i : ℕ). passes_at q (slice_get facts i)) e ∙ h

module _ (t q : Fact → Bool) (wider : (x : Fact) → q x ≡ true → t x ≡ true) (facts : List Fact) (from : ℕ) (before : IsNoneBefore q facts from) where
  narrow : (x : Fact) → t x ≡ false → q x ≡ false
  narrow x h = not_true (q x) (λ p. let same : true ≡ false = sym (wider x p) ∙ h in let u : ⊥ = cc in u)

  pub none_of : IsNoneFrom t facts from → IsNoneFrom q facts 0
  none_of none = record { none = λ p x ge g. elim (split_at p from) [ inl lt ↦ before.none p x lt g | inr le ↦ narrow x (none.none p x le g) ] }

  pub hit : (place : ℕ) → IsFirstFrom t facts from place → passes_at q (slice_get facts place) ≡ true → IsFirstFrom q facts 0 place
  hit place first h = record {
    behind = omega arith;
    item = first.item;
    there = first.there;
    passes = ap (passes_at q) (sym first.there) ∙ h;
    before = λ p x ge lt g. elim (split_at p from) [ inl lt' ↦ before.none p x lt' g | inr le ↦ narrow x (first.before p x le lt g) ];
  }

  pub other : (place : ℕ) → IsFirstFrom t facts from place → passes_at q (slice_get facts place) ≡ false → IsNoneBefore q facts (place + 1)
  other place first h = record {
    none = λ p x lt g. elim (split_at p from) [
      | inl lt' ↦ before.none p x lt' g
      | inr le ↦ elim (split_at p place) [
        | inl lt' ↦ narrow x (first.before p x le lt' g)
        | inr ge ↦ fails q facts p place x (omega arith) g h
      ]
    ];
  }

  pub no_more : length facts ≤ from → IsNoneFrom q facts 0
  no_more le = record { none = λ p x ge g. before.none p x (let lt = get_within facts p x g in omega arith) g }

-- the name of a key, and of a part for a slave

pub key_named : (m s : ℕ) (n : Name) (f : Fact) → is_key_for m s n f ≡ true → name_eq (name_of f) n ≡ true
key_named m s n (Key name master slave route bytes) h = and_left (name_eq name n) (master == m) (and_left (name_eq name n && (master == m)) (slave == s) h)
key_named m s n (Part name key master slave route bytes) h = absurd (let u : ⊥ = cc in u)
key_named m s n (Chunk name stream index route bytes) h = absurd (let u : ⊥ = cc in u)
key_named m s n (Stored note about route) h = absurd (let u : ⊥ = cc in u)
key_named m s n (Open stream source peer size route) h = absurd (let u : ⊥ = cc in u)
key_named m s n (Joined note about route) h = absurd (let u : ⊥ = cc in u)

pub part_named : (m s : ℕ) (n : Name) (f : Fact) → is_part_for m s n f ≡ true → is_part_of n f ≡ true
part_named m s n (Part name key master slave route bytes) h = and_left (name_eq key n) (master == m) (and_left (name_eq key n && (master == m)) (slave == s) h)
part_named m s n (Key name master slave route bytes) h = absurd (let u : ⊥ = cc in u)
part_named m s n (Chunk name stream index route bytes) h = absurd (let u : ⊥ = cc in u)
part_named m s n (Stored note about route) h = absurd (let u : ⊥ = cc in u)
part_named m s n (Open stream source peer size route) h = absurd (let u : ⊥ = cc in u)
part_named m s n (Joined note about route) h = absurd (let u : ⊥ = cc in u)

-- if the fact of a name isn't such a key for the slave, no fact is one
pub no_key : (m s : ℕ) (n : Name) (facts : List Fact) (place : ℕ) → AreDistinct facts → IsFirstFrom (λ f. name_eq (name_of f) n) facts 0 place →
    passes_at (is_key_for m s n) (slice_get facts place) ≡ false → IsNoneFrom (is_key_for m s n) facts 0
no_key m s n facts place distinct first h = record {
  none = λ p x ge g. not_true (is_key_for m s n x) (λ passes.
      let same = distinct.apart p place n (record { fact = x; there = g; named = name_eq_from (name_of x) n (key_named m s n x passes) })
      (record { fact = first.item; there = first.there; named = name_eq_from (name_of first.item) n first.passes }) in
      let no : true ≡ false = sym passes ∙ fails (is_key_for m s n) facts p place x same g h in
      let u : ⊥ = cc in u);
}

-- a slave has a key either by the key itself or by a part

either : (m s : ℕ) (n : Name) (f : Fact) → is_for m s n f ≡ (is_key_for m s n f || is_part_for m s n f)
either m s n (Key name master slave route bytes) = sym (or_no (name_eq name n && (master == m) && (slave == s)))
  where
    or_no : (b : Bool) → (b || false) ≡ b
    or_no true = refl
    or_no false = refl
either m s n (Part name key master slave route bytes) = refl
either m s n (Chunk name stream index route bytes) = refl
either m s n (Stored note about route) = refl
either m s n (Open stream source peer size route) = refl
either m s n (Joined note about route) = refl

module _ (m s : ℕ) (n : Name) (facts : List Fact) where
  neither : (x : Fact) → is_key_for m s n x ≡ false → is_part_for m s n x ≡ false → is_for m s n x ≡ false
  neither x k p = either m s n x ∙ ap (λ (b : Bool). b || is_part_for m s n x) k ∙ p

  by_key : (x : Fact) → is_key_for m s n x ≡ true → is_for m s n x ≡ true
  by_key x k = either m s n x ∙ ap (λ (b : Bool). b || is_part_for m s n x) k

  by_part : (x : Fact) → is_part_for m s n x ≡ true → is_for m s n x ≡ true
  by_part x p = either m s n x ∙ ap (λ (b : Bool). is_key_for m s n x || b) p ∙ or_yes (is_key_for m s n x)
    where
      or_yes : (b : Bool) → (b || true) ≡ true
      or_yes true = refl
      or_yes false = refl

  pub no_slave : IsNoneFrom (is_key_for m s n) facts 0 → IsNoneFrom (is_part_for m s n) facts 0 → IsNoneFrom (is_for m s n) facts 0
  no_slave k p = record { none = λ i x ge g. neither x (k.none i x ge g) (p.none i x ge g) }

  pub key_first : (place : ℕ) → IsFirstFrom (is_key_for m s n) facts 0 place → ((p : ℕ) (x : Fact) → p < place → slice_get facts p ≡ Some x → is_part_for m s n x ≡ false) → IsFirstFrom (is_for m s n) facts 0 place
  key_first place k none = record {
    behind = omega arith;
    item = k.item;
    there = k.there;
    passes = by_key k.item k.passes;
    before = λ p x ge lt g. neither x (k.before p x ge lt g) (none p x lt g);
  }

  pub part_first : (place : ℕ) → IsFirstFrom (is_part_for m s n) facts 0 place → ((p : ℕ) (x : Fact) → p < place → slice_get facts p ≡ Some x → is_key_for m s n x ≡ false) → IsFirstFrom (is_for m s n) facts 0 place
  part_first place k none = record {
    behind = omega arith;
    item = k.item;
    there = k.there;
    passes = by_part k.item k.passes;
    before = λ p x ge lt g. neither x (none p x lt g) (k.before p x ge lt g);
  }
