-- A fact of the kept world's table is the merged table's fact, but for bytes. Its bytes are those of each node that needs
-- them.
use Rattle.std.proofs.Common.{◌≡◌, ℕ, zero, suc, true, false, ◌&&◌, List, [], ◌∷◌, length, map, refl, sym, ◌∙◌, ap, subst, Option, Some, None}
use Rattle.std.specs.Prelude.{if◌then◌else◌, find}
use Rattle.qkd_base.specs.Name.{Name, name_eq}
use Rattle.net_model.specs.declared.fact.Fact.{Fact}
use Rattle.net_model.specs.declared.fact.Fact.TheVariants.{Key, Chunk, Stored, Open, Joined, Part}
use Rattle.net_model.specs.Table.{PartOf, part_of, is_part_of, name_of, is_secret, bytes_of, fact_at, has_fact}
use Rattle.net_model.specs.OctetSequence.{OctetSequence}
use Rattle.net_model.specs.Site.{Site}
use Rattle.net_model.specs.View.{View}
use Rattle.net_model.specs.Needed.{is_needed}
use Rattle.law_base.proofs.Base.{name_eq_from, and_left, and_right, not_both}
use Rattle.law_base.proofs.Lists.{found_at, all_at}
use Rattle.law_base.proofs.Seen.{found_passes}
use Rattle.law_base.proofs.Tables.{found_name, is_some_of_some}
use Rattle.law_base.proofs.Masked.{name_blind}
use Rattle.law_base.proofs.Blind.{shape_blind}
use Rattle.law_lives.specs.Belongs.{view_in, table_in, is_needed_as, or_later, needed_in, IsLike, HasBytesOf, IsAkin, Belongs}
use Rattle.law_lives.specs.KeptWorld.{with_bytes, with_found, kept_fact, kept_table}
use Rattle.law_lives.proofs.KeptTables.{table_known}
use Rattle.law_lives.proofs.KeptViews.{IsRead}
use Rattle.law_lives.proofs.LikeFacts.{AreAlike, alike_same, alike_is, length_blind, handed_blind, with_alike, part_bytes, key_or, handed_is}
use Rattle.law_lives.proofs.LikeTables.{IsThere}
use Rattle.law_invariant.specs.HandedName.{handed_name}

-- ---- the name of a kept fact

name_with : (f : Fact) (more : List ℕ) → name_of (with_bytes f more) ≡ name_of f
name_with (Key name master slave route bytes) more = refl
name_with (Chunk name stream index route bytes) more = refl
name_with (Stored note about route) more = refl
name_with (Open stream source peer size route) more = refl
name_with (Joined note about route) more = refl
name_with (Part name key master slave route bytes) more = refl

pub kept_name : (views : List View) (f : Fact) → name_of (kept_fact views f) ≡ name_of f
kept_name views f = elim (needed_in views (handed_name f)) as (λ o. name_of (with_found f o) ≡ name_of f) [ None ↦ name_blind f | Some g ↦ name_with f (bytes_of g) ]

-- The table has the kept fact of each fact of the merged table, and no other.
all_kept : (views : List View) (fs : List Fact) (n : Name) (f : Fact) → fact_at fs n ≡ Some f → fact_at (map (kept_fact views) fs) n ≡ Some (kept_fact views f)
all_kept views [] n f h = cc
all_kept views (x ∷ fs) n f h =
    ap (λ (m : Name). if name_eq m n then Some (kept_fact views x) else fact_at (map (kept_fact views) fs) n) (kept_name views x) ∙
    (elim (name_eq (name_of x) n) as (λ t. (if t then Some x else fact_at fs n) ≡ Some f →
    (if t then Some (kept_fact views x) else fact_at (map (kept_fact views) fs) n) ≡ Some (kept_fact views f)) [
      | true ↦ λ e. let is : x ≡ f = cc in ap (λ (y : Fact). Some (kept_fact views y)) is
      | false ↦ λ e. all_kept views fs n f e
    ] h)

none_kept : (views : List View) (fs : List Fact) (n : Name) → fact_at fs n ≡ None → fact_at (map (kept_fact views) fs) n ≡ None
none_kept views [] n h = refl
none_kept views (x ∷ fs) n h =
    ap (λ (m : Name). if name_eq m n then Some (kept_fact views x) else fact_at (map (kept_fact views) fs) n) (kept_name views x) ∙
    (elim (name_eq (name_of x) n) as (λ t. (if t then Some x else fact_at fs n) ≡ None →
    (if t then Some (kept_fact views x) else fact_at (map (kept_fact views) fs) n) ≡ None) [
      | true ↦ λ e. cc
      | false ↦ λ e. none_kept views fs n e
    ] h)

pub kept_there : (views : List View) (n : Name) (f : Fact) → fact_at (table_in views) n ≡ Some f → fact_at (kept_table views) n ≡ Some (kept_fact views f)
unfolding kept_table
kept_there views n f h = all_kept views (table_in views) n f h

pub kept_nowhere : (views : List View) (n : Name) → fact_at (table_in views) n ≡ None → fact_at (kept_table views) n ≡ None
unfolding kept_table
kept_nowhere views n h = none_kept views (table_in views) n h

pub record IsKeptFrom (views : List View) (n : Name) (f : Fact) : Type 0 where
  pub fact : Fact
  pub there : fact_at (table_in views) n ≡ Some fact
  pub is : f ≡ kept_fact views fact

pub kept_from : (views : List View) (n : Name) (f : Fact) → fact_at (kept_table views) n ≡ Some f → IsKeptFrom views n f
kept_from views n f h =
    elim (fact_at (table_in views) n) as (λ o. fact_at (table_in views) n ≡ o → IsKeptFrom views n f) [
      | None ↦ λ e. let none : fact_at (kept_table views) n ≡ None = kept_nowhere views n e in cc
      | Some g ↦ λ e. let same : Some (kept_fact views g) ≡ Some f = sym (kept_there views n g e) ∙ h in record { fact = g; there = e; is = cc }
    ] refl

-- ---- bytes

-- The fact of some node, which needs its bytes under this name.
pub record IsNeededBy (views : List View) (n : Name) (g : Fact) : Type 0 where
  pub node : ℕ
  pub secret : is_secret g ≡ true
  pub named : handed_name g ≡ n
  pub there : fact_at (view_in views node).facts (name_of g) ≡ Some g
  pub need : is_needed (view_in views node) g ≡ true

abbrev pub AllRead : List View → Type 0
AllRead views = (v : ℕ) → IsRead (view_in views v)

pub needed_by : (views : List View) → AllRead views → (n : Name) (g : Fact) → needed_in views n ≡ Some g → IsNeededBy views n g
needed_by [] read n g h = cc
needed_by (view ∷ views) read n g h =
    elim (find (is_needed_as view n) view.facts) as (λ o. find (is_needed_as view n) view.facts ≡ o → or_later o (needed_in views n) ≡ Some g → IsNeededBy (view ∷ views) n g) [
      | None ↦ λ e k. let r = needed_by views (λ v. read (suc v)) n g k in record { node = suc r.node; secret = r.secret; named = r.named; there = r.there; need = r.need }
      | Some f ↦ λ e k.
          let is : f ≡ g = cc in
          let found : find (is_needed_as view n) view.facts ≡ Some g = e ∙ k in
          let passes : is_needed_as view n g ≡ true = found_passes (is_needed_as view n) view.facts g found in
          let both : (is_secret g && name_eq (handed_name g) n) ≡ true = and_left (is_secret g && name_eq (handed_name g) n) (is_needed view g) passes in
          let at = found_at (is_needed_as view n) view.facts g found in
          record {
            node = zero;
            secret = and_left (is_secret g) (name_eq (handed_name g) n) both;
            named = name_eq_from (handed_name g) n (and_right (is_secret g) (name_eq (handed_name g) n) both);
            there = all_at (λ (f : Fact). fact_at view.facts (name_of f) ≡ Some f) view.facts at.0 g (read zero).found at.1;
            need = and_right (is_secret g && name_eq (handed_name g) n) (is_needed view g) passes;
          }
    ] refl h

module _ (s : Site) (devices : ℕ → OctetSequence) (views : List View) (read : AllRead views) (b : Belongs s devices views) where
  -- A node's fact is the merged table's, but for bytes.
  pub record IsTabled (n : Name) (f : Fact) : Type 0 where
    pub fact : Fact
    pub there : fact_at (table_in views) n ≡ Some fact
    pub alike : AreAlike f fact

  like_is : (n : Name) (f : Fact) (o : Option Fact) → fact_at (table_in views) n ≡ o → IsLike f o → IsTabled n f
  like_is n f None e h = absurd h
  like_is n f (Some g) e h = record { fact = g; there = e; alike = h }

  pub tabled : (v : ℕ) (n : Name) (f : Fact) → fact_at (view_in views v).facts n ≡ Some f → IsTabled n f
  tabled v n f h = like_is n f (fact_at (table_in views) n) refl (b.agree v n f h)

  -- All facts whose bytes are handed out under one name have equally many.

  akin_size : (f : Fact) (p : PartOf) (o : Option Fact) → IsAkin f p o → (g : Fact) (q : PartOf) → IsAkin g q o → length p.bytes ≡ length q.bytes
  akin_size f p None h g q k = absurd h
  akin_size f p (Some x) h g q k =
      let a : PartOf = h.0 in
      let c : PartOf = k.0 in
      let same : Some a ≡ Some c = sym h.1 ∙ k.1 in
      let is : a ≡ c = cc in
      h.2.size ∙ ap (λ (y : PartOf). length y.bytes) is ∙ sym k.2.size

  key_free : (n : Name) (f : Fact) (p : PartOf) → fact_at (table_in views) n ≡ Some f → part_of f ≡ Some p → (g : Fact) → fact_at (table_in views) p.key ≡ Some g → ⊥
  key_free n f p there is g at = not_both (has_fact (table_in views) p.key) (is_some_of_some (fact_at (table_in views) p.key) g at) (b.parts n f p there is).free

  sizes : (n m : Name) (f g : Fact) (o r : Option PartOf) → fact_at (table_in views) n ≡ Some f → fact_at (table_in views) m ≡ Some g → part_of f ≡ o → part_of g ≡ r →
      key_or n o ≡ key_or m r → length (bytes_of f) ≡ length (bytes_of g)
  sizes n m f g None None at at2 is is2 e = let same : Some f ≡ Some g = sym at ∙ ap (fact_at (table_in views)) e ∙ at2 in let one : f ≡ g = cc in ap (λ (x : Fact). length (bytes_of x)) one
  sizes n m f g (Some p) None at at2 is is2 e = absurd (key_free n f p at is g (ap (fact_at (table_in views)) e ∙ at2))
  sizes n m f g None (Some q) at at2 is is2 e = absurd (key_free m g q at2 is2 f (ap (fact_at (table_in views)) (sym e) ∙ at))
  sizes n m f g (Some p) (Some q) at at2 is is2 e =
      let first : IsAkin f p (find (is_part_of p.key) (table_in views)) = (b.parts n f p at is).like in
      let second : IsAkin g q (find (is_part_of p.key) (table_in views)) =
      subst (λ (k : Name). IsAkin g q (find (is_part_of k) (table_in views))) (sym e) (b.parts m g q at2 is2).like in
      ap length (sym (part_bytes f p is)) ∙ akin_size f p (find (is_part_of p.key) (table_in views)) first g q second ∙ ap length (part_bytes g q is2)

  pub same_size : (n m : Name) (f g : Fact) → fact_at (table_in views) n ≡ Some f → fact_at (table_in views) m ≡ Some g → handed_name f ≡ handed_name g →
      length (bytes_of f) ≡ length (bytes_of g)
  same_size n m f g at at2 e =
      let name : name_of f ≡ n = found_name (table_in views) n f at in
      let name2 : name_of g ≡ m = found_name (table_in views) m g at2 in
      sizes n m f g (part_of f) (part_of g) at at2 refl refl
      (ap (λ (x : Name). key_or x (part_of f)) (sym name) ∙ sym (handed_is f) ∙ e ∙ handed_is g ∙ ap (λ (x : Name). key_or x (part_of g)) name2)

  -- A kept fact is like the merged table's.
  needed_size : (n : Name) (f : Fact) → fact_at (table_in views) n ≡ Some f → (g : Fact) → IsNeededBy views (handed_name f) g → length (bytes_of g) ≡ length (bytes_of f)
  needed_size n f at g need =
      let t = tabled need.node (name_of g) g need.there in
      let named : handed_name t.fact ≡ handed_name f = sym (alike_same handed_name handed_blind g t.fact t.alike) ∙ need.named in
      alike_same (λ x. length (bytes_of x)) length_blind g t.fact t.alike ∙ same_size (name_of g) n t.fact f t.there at named

  pub kept_alike : (n : Name) (f : Fact) → fact_at (table_in views) n ≡ Some f → AreAlike (kept_fact views f) f
  kept_alike n f at = elim (needed_in views (handed_name f)) as (λ o. needed_in views (handed_name f) ≡ o → AreAlike (with_found f o) f) [
    | None ↦ λ e. shape_blind f
    | Some g ↦ λ e. with_alike f (bytes_of g) (λ secret. needed_size n f at g (needed_by views read (handed_name f) g e))
  ] refl

  -- The kept table has a fact like each node's.
  pub kept_here : (v : ℕ) (n : Name) (f : Fact) → fact_at (view_in views v).facts n ≡ Some f → IsThere (kept_table views) n f
  kept_here v n f h =
      let t = tabled v n f h in
      record { fact = kept_fact views t.fact; there = kept_there views n t.fact t.there; alike = kept_alike n t.fact t.there ∙ sym t.alike }

  pub kept_tabled : (n : Name) (f : Fact) → fact_at (table_in views) n ≡ Some f → IsThere (kept_table views) n f
  kept_tabled n f h = record { fact = kept_fact views f; there = kept_there views n f h; alike = kept_alike n f h }

  -- The merged table's fact of a name that the kept table has.
  pub record IsKeptOf (n : Name) (f : Fact) : Type 0 where
    pub fact : Fact
    pub there : fact_at (table_in views) n ≡ Some fact
    pub alike : AreAlike f fact
    pub node : ℕ
    pub known : fact_at (view_in views node).facts n ≡ Some fact

  pub kept_of : (n : Name) (f : Fact) → fact_at (kept_table views) n ≡ Some f → IsKeptOf n f
  kept_of n f h =
      let k = kept_from views n f h in
      let known = table_known views n k.fact k.there in
      record { fact = k.fact; there = k.there; alike = subst (λ (x : Fact). AreAlike x k.fact) (sym k.is) (kept_alike n k.fact k.there); node = known.node; known = known.there }

  has_bytes : (f g : Fact) (o : Option Fact) → AreAlike f g → HasBytesOf f o → with_found g o ≡ f
  has_bytes f g None h k = absurd k
  has_bytes f g (Some x) h k = ap (with_bytes g) (sym k) ∙ alike_is f g h

  -- Where a node needs the bytes of a fact, the kept table has the node's fact.
  pub kept_needed : (v : ℕ) (n : Name) (f : Fact) → fact_at (view_in views v).facts n ≡ Some f → is_secret f ≡ true → is_needed (view_in views v) f ≡ true →
      fact_at (kept_table views) n ≡ Some f
  kept_needed v n f h secret need =
      let t = tabled v n f h in
      let named : handed_name t.fact ≡ handed_name f = sym (alike_same handed_name handed_blind f t.fact t.alike) in
      let found : HasBytesOf f (needed_in views (handed_name t.fact)) = subst (λ (m : Name). HasBytesOf f (needed_in views m)) (sym named) (b.needed v n f h secret need) in
      kept_there views n t.fact t.there ∙ ap (λ (x : Fact). Some x) (has_bytes f t.fact (needed_in views (handed_name t.fact)) t.alike found)
