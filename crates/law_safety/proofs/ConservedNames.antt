-- All facts of one name have the same bytes.
use Rattle.std.proofs.Common.{◌≡◌, true, false, ◌&&◌, List, refl, sym, ◌∙◌, ap, Some, inl, inr}
use Rattle.std.specs.Prelude.{is_some}
use Rattle.qkd_base.specs.Name.{Name, name_eq}
use Rattle.net_model.specs.declared.fact.Fact.{Fact}
use Rattle.net_model.specs.declared.fact.Fact.TheVariants.{Part}
use Rattle.net_model.specs.Table.{PartOf, part_of, is_part_of, name_of, bytes_of, fact_at, has_fact}
use Rattle.net_model.specs.World.{Network, World}
use Rattle.net_model.specs.Knowledge.{IsGroups}
use Rattle.net_model.specs.Handings.{is_single}
use Rattle.net_model.specs.Deliveries.{is_of_name}
use Rattle.net_model.specs.Invariant.{Conserved}
use Rattle.law_base.proofs.Base.{name_eq_from, and_right, or_cases, not_both}
use Rattle.law_base.proofs.Tables.{found_name}

-- The fact is a part of this group key.
pub record Parts (n : Name) (f : Fact) : Type 0 where
  pub part : PartOf
  pub is : part_of f ≡ Some part
  pub key : part.key ≡ n
  pub bytes : bytes_of f ≡ part.bytes

pub a_part : (n : Name) (f : Fact) → is_part_of n f ≡ true → Parts n f
a_part n (Part name key master slave route bytes) h = record { part = record { key = key; master = master; slave = slave; bytes = bytes }; is = refl; key = name_eq_from key n h; bytes = refl }
a_part n _ h = cc

pub single_is : (n : Name) (f : Fact) → (is_single f && name_eq (name_of f) n) ≡ true → name_of f ≡ n
single_is n f h = name_eq_from (name_of f) n (and_right (is_single f) (name_eq (name_of f) n) h)

there_is : (T : List Fact) (n : Name) (f : Fact) → fact_at T n ≡ Some f → has_fact T n ≡ true
there_is T n f h = ap is_some h

-- No fact has the name of a group key.
pub no_fact_has_it : (T : List Fact) → IsGroups T → (name m n : Name) (f g : Fact) → fact_at T m ≡ Some f → fact_at T n ≡ Some g → is_part_of name f ≡ true → name_of g ≡ name → ⊥
no_fact_has_it T groups name m n f g at at' part is =
    let p = a_part name f part in
    let free : has_fact T p.part.key ≡ false = groups.free m f p.part at p.is in
    let e : n ≡ p.part.key = sym (found_name T n g at') ∙ is ∙ sym p.key in
    not_both (has_fact T n) (there_is T n g at') (ap (has_fact T) e ∙ free)

pub one_list : (net : Network) (w : World) → Conserved net w → (name m n : Name) (f g : Fact) → fact_at w.durable.facts m ≡ Some f → fact_at w.durable.facts n ≡ Some g →
    is_of_name name f ≡ true → is_of_name name g ≡ true → bytes_of f ≡ bytes_of g
one_list net w c name m n f g at at' h k =
    let T : List Fact = w.durable.facts in
    elim (or_cases (is_single f && name_eq (name_of f) name) (is_part_of name f) h) [
      | inl one ↦ elim (or_cases (is_single g && name_eq (name_of g) name) (is_part_of name g) k) [
        | inl other ↦
            let e : m ≡ n = sym (found_name T m f at) ∙ single_is name f one ∙ sym (single_is name g other) ∙ found_name T n g at' in
            let same : f ≡ g = cc in ap bytes_of same
        | inr part ↦ absurd (no_fact_has_it T c.now.groups name n m g f at' at part (single_is name f one))
      ]
      | inr part ↦ elim (or_cases (is_single g && name_eq (name_of g) name) (is_part_of name g) k) [
        | inl other ↦ absurd (no_fact_has_it T c.now.groups name m n f g at at' part (single_is name g other))
        | inr other ↦
            let p = a_part name f part in
            let q = a_part name g other in
            p.bytes ∙ (c.now.groups.alike m n f g p.part q.part at at' p.is q.is (p.key ∙ sym q.key)).bytes ∙ sym q.bytes
      ]
    ]
