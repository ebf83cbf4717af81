-- After a node learned a fact, the parts of a group key still agree in all but their slaves, and no fact has a group
-- key's name.
use Rattle.std.proofs.Common.{◌≡◌, ℕ, true, false, List, refl, sym, ◌∙◌, ap, subst, Some, None, inl, inr}
use Rattle.std.specs.Prelude.{is_some}
use Rattle.qkd_base.specs.Name.{Name}
use Rattle.net_model.specs.declared.fact.Fact.{Fact}
use Rattle.net_model.specs.declared.fact.Fact.TheVariants.{Part}
use Rattle.net_model.specs.Table.{PartOf, part_of, name_of, origin, fact_at, has_fact, was_handed}
use Rattle.net_model.specs.Site.{Site}
use Rattle.net_model.specs.World.{Durable}
use Rattle.net_model.specs.Knowledge.{IsEntitled, IsTable, IsGroups, AreParts}
use Rattle.net_model.specs.Handings.{IsHanded}
use Rattle.net_model.specs.Doubt.{MayBeMade, IsPartAmong}
use Rattle.law_base.proofs.Base.{not_false}
use Rattle.law_base.proofs.Grow.{NoNewPartOf, have_grows}
use Rattle.law_base.proofs.Knowing.{known_with, known_with_grows}
use Rattle.law_base.proofs.Learning.{Learns}

-- A part is made at the home of its master.
pub part_starts : (s : Site) (facts : List Fact) (f : Fact) (p : PartOf) → part_of f ≡ Some p → IsEntitled s facts f → origin f ≡ s.home p.master
part_starts s facts (Part name key master slave route bytes) p is h =
    let same : record { key = key; master = master; slave = slave; bytes = bytes } ≡ p = cc in
    h.from ∙ ap (λ (q : PartOf). s.home q.master) same
part_starts s facts _ p is h = cc

same_part : (f : Fact) (p q : PartOf) → part_of f ≡ Some p → part_of f ≡ Some q → p ≡ q
same_part f p q h k = let both : Some p ≡ Some q = sym h ∙ k in cc

same_parts : (f g : Fact) (p q : PartOf) → f ≡ g → part_of f ≡ Some p → part_of g ≡ Some q → AreParts f g p q
same_parts f g p q same h k =
    let e : p ≡ q = same_part g p q (ap part_of (sym same) ∙ h) k in
    record {
      bytes = ap (λ (x : PartOf). x.bytes) e;
      master = ap (λ (x : PartOf). x.master) e;
      origin = ap origin same;
      slaves = λ x. ap name_of same;
    }

found : (facts : List Fact) (n : Name) → has_fact facts n ≡ true → (f : Fact) × (fact_at facts n ≡ Some f)
found facts n h = elim (fact_at facts n) as (λ o. fact_at facts n ≡ o → is_some o ≡ true → (f : Fact) × (fact_at facts n ≡ Some f)) [
  | None ↦ λ e k. cc
  | Some f ↦ λ e k. (f, e)
] refl h

found_not : (facts : List Fact) (n : Name) (f : Fact) → has_fact facts n ≡ false → fact_at facts n ≡ Some f → ⊥
found_not facts n f h e = let is : has_fact facts n ≡ true = ap is_some e in cc

module _ (s : Site) (d : Durable) (v : ℕ) (f : Fact) (facts : List Fact) (l : Learns s d v f facts) (table : IsTable s d.facts d.known)
    (groups : IsGroups d.facts) where
  -- Older parts of the same group key were made at this node.
  home : (m : Name) (g : Fact) (p q : PartOf) → fact_at d.facts m ≡ Some g → part_of g ≡ Some q → q.key ≡ p.key → IsPartAmong d.facts v f p → m.node ≡ v
  home m g p q old is key among =
      (table m g old).maker ∙ sym (groups.own m g q old is).0 ∙ ap (λ (n : Name). n.node) key ∙ among.mine

  -- The new part agrees with an older part of the same group key.
  beside : (m : Name) (g : Fact) (p q : PartOf) → part_of f ≡ Some p → fact_at d.facts m ≡ Some g → part_of g ≡ Some q → q.key ≡ p.key →
      MayBeMade s d.facts d.known d.handed v f → AreParts f g p q
  beside m g p q is old is' key mb =
      let among = mb.part p is in
      let at = home m g p q old is' key among in
      record {
        bytes = sym (among.bytes m g q at old is' key);
        master = sym (among.master m g q at old is' key);
        origin = mb.starts ∙ sym at ∙ (table m g old).maker;
        slaves = λ e. absurd (among.slave m g q at old is' key (sym e));
      }

  turned : (g h : Fact) (p q : PartOf) → AreParts g h p q → AreParts h g q p
  turned g h p q x = record { bytes = sym x.bytes; master = sym x.master; origin = sym x.origin; slaves = λ e. sym (x.slaves (sym e)) }

  learned_alike : (n m : Name) (g h : Fact) (p q : PartOf) → fact_at facts n ≡ Some g → fact_at facts m ≡ Some h → part_of g ≡ Some p → part_of h ≡ Some q →
      p.key ≡ q.key → AreParts g h p q
  learned_alike n m g h p q at at' is is' key = elim (l.cases n g at) [
    | inl old ↦ elim (l.cases m h at') [
      | inl old' ↦ groups.alike n m g h p q old old' is is' key
      | inr x' ↦ subst (λ (y : Fact). AreParts g y p q) (sym x'.same)
          (turned f g q p (beside n g q p (ap part_of (sym x'.same) ∙ is') old is key x'.made))
    ]
    | inr x ↦ elim (l.cases m h at') [
      | inl old' ↦ subst (λ (y : Fact). AreParts y h p q) (sym x.same) (beside m h p q (ap part_of (sym x.same) ∙ is) old' is' (sym key) x.made)
      | inr x' ↦ same_parts g h p q (x.same ∙ sym x'.same) is is'
    ]
  ]

  -- No fact has the name of an older group key.
  old_free : (n : Name) (g : Fact) (p : PartOf) → fact_at d.facts n ≡ Some g → part_of g ≡ Some p → has_fact facts p.key ≡ false
  old_free n g p old is = not_false (has_fact facts p.key) (λ h. let y = found facts p.key h in elim (l.cases p.key y.0 y.1) [
    | inl old' ↦ found_not d.facts p.key y.0 (groups.free n g p old is) old'
    | inr x ↦
        let at : n.node ≡ v = (table n g old).maker ∙ sym (groups.own n g p old is).0 ∙ ap (λ (m : Name). m.node) x.name ∙ x.made.mine in
        x.made.unused n g p at old is x.name
  ])

  new_free : (p : PartOf) → part_of f ≡ Some p → MayBeMade s d.facts d.known d.handed v f → has_fact facts p.key ≡ false
  new_free p is mb = not_false (has_fact facts p.key) (λ h. let y = found facts p.key h in elim (l.cases p.key y.0 y.1) [
    | inl old' ↦ found_not d.facts p.key y.0 (mb.part p is).free old'
    | inr x ↦ (mb.part p is).apart x.name
  ])

  pub learned_groups : IsGroups facts
  learned_groups =
      record {
        alike = learned_alike;
        own = λ n g p at is. elim (l.cases n g at) [
          | inl old ↦ groups.own n g p old is
          | inr x ↦
              let among = x.made.part p (ap part_of (sym x.same) ∙ is) in
              (among.mine ∙ sym x.made.starts ∙ ap origin (sym x.same), among.name)
        ];
        free = λ n g p at is. elim (l.cases n g at) [
          | inl old ↦ old_free n g p old is
          | inr x ↦ new_free p (ap part_of (sym x.same) ∙ is) x.made
        ];
      }

  abbrev known' : ℕ → List Name
  known' = known_with d.known v (name_of f)

  -- A group key that was handed to an application got no new part.
  handed_whole : (n : Name) (sae : ℕ) → was_handed d.handed n sae ≡ true → NoNewPartOf d.facts facts d.known known' l.grows (known_with_grows d.known v (name_of f)) n sae
  handed_whole n sae has_it m one master p x = elim (l.cases p x.fact x.there) [
    | inl old ↦ record { fact = x.fact; part = x.part; there = old; is = x.is; key = x.key }
    | inr new ↦
        let is : part_of f ≡ Some x.part = ap part_of (sym new.same) ∙ x.is in
        let at : s.home sae ≡ v =
        ap s.home (sym master) ∙ sym (part_starts s d.facts one.fact one.part one.is (table m one.fact one.there).entitled) ∙
        sym (groups.own m one.fact one.part one.there one.is).0 ∙ ap (λ (k : Name). k.node) (one.key ∙ sym x.key) ∙ (new.made.part x.part is).mine in
        let no = new.made.unhanded x.part is sae at in
        let yes = ap (λ (k : Name). was_handed d.handed k sae) x.key ∙ has_it in
        cc
  ]

  pub learned_handings : IsHanded s d.facts d.known d.handed → IsHanded s facts known' d.handed
  learned_handings c =
      record {
        differ = c.differ;
        entitled = λ n sae h. have_grows d.facts facts d.known known' l.grows (known_with_grows d.known v (name_of f)) s n sae (handed_whole n sae h)
            (c.entitled n sae h);
      }
