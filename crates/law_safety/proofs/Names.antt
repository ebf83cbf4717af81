-- The names of facts in the table or in doubt: each was given by the fact's origin, and none has a later count than
-- the origin's own.
use Rattle.std.proofs.Common.{◌≡◌, ℕ, zero, suc, ◌+◌, ◌≤◌, true, List, [], ◌∷◌, length, refl, sym, ◌∙◌, ap, subst, arith, Some, ◌⊎◌, inl, inr}
use Rattle.std.specs.Prelude.{slice_get}
use Rattle.qkd_base.specs.Name.{Name}
use Rattle.net_model.specs.declared.fact.Fact.{Fact}
use Rattle.net_model.specs.declared.fact.Fact.TheVariants.{Key, Chunk, Stored, Open, Joined, Part}
use Rattle.net_model.specs.declared.record.Record.{Record}
use Rattle.net_model.specs.declared.record.Record.TheVariants.{Learned}
use Rattle.net_model.specs.Facts.{IsWellFormedFact}
use Rattle.net_model.specs.Table.{PartOf, part_of, name_of, bytes_of, origin, fact_at, is_secret}
use Rattle.net_model.specs.Site.{Site}
use Rattle.net_model.specs.World.{Network, World, Durable, InDoubt}
use Rattle.net_model.specs.Needed.{view_of}
use Rattle.net_model.specs.Records.{apply_record}
use Rattle.net_model.specs.Doubt.{MayApply, MayReplay}
use Rattle.net_model.specs.Decision.{last_count}
use Rattle.net_model.specs.Invariant.{Conserved}
use Rattle.law_base.proofs.Growing.{apply_cases}
use Rattle.law_base.proofs.Tables.{found_name}
use Rattle.law_base.proofs.Seen.{bare_view, view_sees, view_me}
use Rattle.law_invariant.proofs.Made.{IsBelow, is_below}
use Rattle.law_invariant.specs.HandedName.{handed_name}
use Rattle.law_safety.proofs.Laid.{IsOlder}

-- The fact is in the table or in a batch in doubt.
abbrev pub IsThere : World → Fact → Type 0
IsThere w f = ((n : Name) × (fact_at w.durable.facts n ≡ Some f)) ⊎ ((v : ℕ) × (k : ℕ) × (slice_get (w.in_doubt v).batch k ≡ Some (Learned f)))

-- The fact is one that node v makes.
pub record IsOwn (v : ℕ) (f : Fact) : Type 0 where
  pub starts : origin f ≡ v
  pub named : (handed_name f).node ≡ v
  pub formed : IsWellFormedFact f

own_named : (v : ℕ) (f : Fact) → (name_of f).node ≡ v → ((p : PartOf) → part_of f ≡ Some p → p.key.node ≡ v) → (handed_name f).node ≡ v
own_named v (Key name master slave route bytes) mine part = mine
own_named v (Chunk name stream index route bytes) mine part = mine
own_named v (Stored note about route) mine part = mine
own_named v (Open stream source peer size route) mine part = mine
own_named v (Joined note about route) mine part = mine
own_named v (Part name key master slave route bytes) mine part = part (record { key = key; master = master; slave = slave; bytes = bytes }) refl

-- A fact that a node may learn is in the table or was made by the node.
first_own : (s : Site) (d : Durable) (v : ℕ) (f : Fact) → MayApply s d v (Learned f) → (fact_at d.facts (name_of f) ≡ Some f) ⊎ IsOwn v f
first_own s d v f m = elim m.1 [
  | inl came ↦ inl came.there
  | inr made ↦ inr (record { starts = made.starts; named = own_named v f made.mine (λ p e. (made.part p e).mine); formed = made.formed })
]

pub learned_own : (s : Site) (d : Durable) (v : ℕ) (rs : List Record) → MayReplay s d v rs → (n : ℕ) (f : Fact) → slice_get rs n ≡ Some (Learned f) →
    (fact_at d.facts (name_of f) ≡ Some f) ⊎ IsOwn v f
learned_own s d v [] m n f h = cc
learned_own s d v (r ∷ rs) m zero f h =
    let is : r ≡ Learned f = cc in first_own s d v f (subst (λ (x : Record). MayApply s d v x) is m.0)
learned_own s d v (r ∷ rs) m (suc n) f h = elim (learned_own s (apply_record s v r d) v rs m.1 n f h) [
  | inl there ↦ elim (apply_cases s v r d m.0 (name_of f) f there) [
    | inl old ↦ inl old
    | inr is ↦ first_own s d v f (subst (λ (x : Record). MayApply s d v x) is m.0)
  ]
  | inr mine ↦ inr mine
]

pub formed_size : (f : Fact) → IsWellFormedFact f → is_secret f ≡ true → 8 ≤ length (bytes_of f)
formed_size (Key name master slave route bytes) h secret = h.1.0
formed_size (Chunk name stream index route bytes) h secret = h.2.0
formed_size (Stored note about route) h secret = cc
formed_size (Open stream source peer size route) h secret = cc
formed_size (Joined note about route) h secret = cc
formed_size (Part name key master slave route bytes) h secret = h.2.0

module _ (net : Network) (w : World) (c : Conserved net w) (v : ℕ) where
  -- The last count of the node's names, computed from what it knows.
  abbrev pub last : ℕ
  last = last_count v (view_of net w v).facts + 0

  below : IsBelow w.durable v (last_count v (view_of net w v).facts)
  below =
      subst (λ (u : ℕ). IsBelow w.durable u (last_count u (view_of net w v).facts)) (view_me net w v)
      (is_below net.site w.durable w.frames w.unclaimed c.now (view_of net w v) (bare_view net w v) (view_sees net w v))

  single_older : (n : Name) (f : Fact) → fact_at w.durable.facts n ≡ Some f → handed_name f ≡ name_of f → IsOlder v last f
  single_older n f there is =
      let name : handed_name f ≡ n = is ∙ found_name w.durable.facts n f there in
      let maker : (handed_name f).node ≡ origin f = ap (λ (m : Name). m.node) name ∙ (c.now.table n f there).maker in
      record {
        named = maker;
        below = λ mine.
            let low = below.table n f there (ap (λ (m : Name). m.node) (sym name) ∙ maker ∙ mine) in
            let e = ap (λ (m : Name). m.count) name in
            omega (arith, low, e);
      }

  part_older : (n : Name) (f : Fact) (p : PartOf) → fact_at w.durable.facts n ≡ Some f → part_of f ≡ Some p → handed_name f ≡ p.key → IsOlder v last f
  part_older n f p there part is =
      let named : p.key.node ≡ origin f = (c.now.groups.own n f p there part).0 in
      record {
        named = ap (λ (m : Name). m.node) is ∙ named;
        below = λ mine.
            let low = below.keys n f p there part ((c.now.table n f there).maker ∙ mine) (named ∙ mine) in
            let e = ap (λ (m : Name). m.count) is in
            omega (arith, low, e);
      }

  table_older : (n : Name) (f : Fact) → fact_at w.durable.facts n ≡ Some f → IsOlder v last f
  table_older n (Key name master slave route bytes) there = single_older n (Key name master slave route bytes) there refl
  table_older n (Chunk name stream index route bytes) there = single_older n (Chunk name stream index route bytes) there refl
  table_older n (Stored note about route) there = single_older n (Stored note about route) there refl
  table_older n (Open stream source peer size route) there = single_older n (Open stream source peer size route) there refl
  table_older n (Joined note about route) there = single_older n (Joined note about route) there refl
  table_older n (Part name key master slave route bytes) there =
      part_older n (Part name key master slave route bytes) (record { key = key; master = master; slave = slave; bytes = bytes }) there refl refl

  module _ (up : w.up v ≡ true) where
    -- A manager that is up has no batch in doubt.
    no_doubt_here : (u k : ℕ) (f : Fact) → u ≡ v → slice_get (w.in_doubt u).batch k ≡ Some (Learned f) → ⊥
    no_doubt_here u k f is at =
        let none : (w.in_doubt u).batch ≡ [] = ap (λ (x : ℕ). (w.in_doubt x).batch) is ∙ ap (λ (x : InDoubt). x.batch) (c.doubtful v up) in
        let e = ap (λ (rs : List Record). slice_get rs k) (sym none) ∙ at in cc

    pub older : (f : Fact) → IsThere w f → IsOlder v last f
    older f (inl (n, there)) = table_older n f there
    older f (inr (u, k, at)) = elim (learned_own net.site w.durable u (w.in_doubt u).batch (c.doubts u) k f at) [
      | inl came ↦ table_older (name_of f) f came
      | inr own ↦ record { named = own.named ∙ sym own.starts; below = λ mine. absurd (no_doubt_here u k f (sym own.starts ∙ mine) at) }
    ]
