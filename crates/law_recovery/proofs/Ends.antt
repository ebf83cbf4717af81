-- If a key may be handed out at a node, the node is the end of an application that is entitled to the key. So the
-- view takes the mark.
use Rattle.std.proofs.Common.{◌≡◌, ℕ, Bool, true, false, cond, ◌&&◌, ◌||◌, List, [], ◌∷◌, refl, ◌∙◌, ap, subst, Option, Some, ◌⊎◌, inl, inr}
use Rattle.std.specs.Prelude.{◌==◌, find}
use Rattle.std.specs.List.{list_any}
use Rattle.qkd_base.specs.Name.{Name, name_eq, has}
use Rattle.qkd_base.specs.Route.{first_of, last_of}
use Rattle.net_model.specs.declared.fact.Fact.{Fact}
use Rattle.net_model.specs.declared.fact.Fact.TheVariants.{Key, Chunk, Stored, Open, Joined, Part}
use Rattle.net_model.specs.Table.{PartOf, part_of, name_of, origin, target, fact_at, sae_at, stream_end}
use Rattle.net_model.specs.Site.{Site}
use Rattle.net_model.specs.World.{Network, World, Durable}
use Rattle.net_model.specs.Knowledge.{IsOpenBetween, IsEntitled, IsTable}
use Rattle.net_model.specs.Handings.{MayHave, is_single}
use Rattle.net_model.specs.View.{View}
use Rattle.net_model.specs.Needed.{masked, view_of}
use Rattle.net_model.specs.Fold.{is_end_of, is_handed_by}
use Rattle.law_base.proofs.Base.{eq_same, name_eq_same, and_both, or_left, or_right}
use Rattle.law_base.proofs.Tables.{found_name}
use Rattle.law_base.proofs.Masked.{IsBlind}
use Rattle.law_base.proofs.Seen.{bare_there, view_sees, bare_view}
use Rattle.law_recovery.proofs.Shapes.{any_same}
use Rattle.law_recovery.proofs.Following.{Follows, same_shapes, seen}

pub any_found : (p q : Fact → Bool) (xs : List Fact) (f : Fact) → find q xs ≡ Some f → p f ≡ true → list_any p xs ≡ true
any_found p q [] f h k = cc
any_found p q (x ∷ xs) f h k =
    elim (q x) as (λ t. cond t (Some x) (find q xs) ≡ Some f → (p x || list_any p xs) ≡ true) [
      | true ↦ λ e. let is : x ≡ f = cc in or_left (p x) (list_any p xs) (ap p is ∙ k)
      | false ↦ λ e. or_right (p x) (list_any p xs) (any_found p q xs f e k)
    ] h

abbrev pub is_here : ℕ → Fact → Bool
is_here me f = (origin f == me) || (target f == me)

module _ (s : Site) (T : List Fact) (known : ℕ → List Name) (table : IsTable s T known) where
  chunk_first : (nodes : List ℕ) (stream : Name) (sae : ℕ) (o : Option Fact) → fact_at T stream ≡ o → IsOpenBetween nodes o → stream_end true o ≡ Some sae → first_of nodes ≡ s.home sae
  chunk_first nodes stream sae (Some (Open n source peer size route)) e h is =
      let same : source ≡ sae = cc in h.0 ∙ (table stream (Open n source peer size route) e).entitled.from ∙ ap s.home same
  chunk_first nodes stream sae _ e h is = absurd h

  chunk_last : (nodes : List ℕ) (stream : Name) (sae : ℕ) (o : Option Fact) → fact_at T stream ≡ o → IsOpenBetween nodes o → stream_end false o ≡ Some sae → last_of nodes ≡ s.home sae
  chunk_last nodes stream sae (Some (Open n source peer size route)) e h is =
      let same : peer ≡ sae = cc in h.1 ∙ (table stream (Open n source peer size route) e).entitled.to ∙ ap s.home same
  chunk_last nodes stream sae _ e h is = absurd h

  -- The applications at the ends of a fact are at home at the first and the last node of its route.
  pub at_first : (f : Fact) (sae : ℕ) → IsEntitled s T f → sae_at T true f ≡ Some sae → origin f ≡ s.home sae
  at_first (Key name master slave route bytes) sae h is = let same : master ≡ sae = cc in h.from ∙ ap s.home same
  at_first (Chunk name stream index route bytes) sae h is = chunk_first route stream sae (fact_at T stream) refl h is
  at_first (Part name key master slave route bytes) sae h is = let same : master ≡ sae = cc in h.from ∙ ap s.home same
  at_first _ sae h is = cc

  pub at_last : (f : Fact) (sae : ℕ) → IsEntitled s T f → sae_at T false f ≡ Some sae → target f ≡ s.home sae
  at_last (Key name master slave route bytes) sae h is = let same : slave ≡ sae = cc in h.to ∙ ap s.home same
  at_last (Chunk name stream index route bytes) sae h is = chunk_last route stream sae (fact_at T stream) refl h is
  at_last (Part name key master slave route bytes) sae h is = let same : slave ≡ sae = cc in h.to ∙ ap s.home same
  at_last _ sae h is = cc

  IsEnd : Fact → ℕ → Type 0
  IsEnd f sae = (sae_at T true f ≡ Some sae) ⊎ (sae_at T false f ≡ Some sae)

  here : (v : ℕ) (f : Fact) (sae : ℕ) → IsEntitled s T f → s.home sae ≡ v → IsEnd f sae → is_here v f ≡ true
  unfolding IsEnd
  here v f sae h home is = elim is [
    | inl e ↦ or_left (origin f == v) (target f == v) (ap (λ (u : ℕ). u == v) (at_first f sae h e ∙ home) ∙ eq_same v)
    | inr e ↦ or_right (origin f == v) (target f == v) (ap (λ (u : ℕ). u == v) (at_last f sae h e ∙ home) ∙ eq_same v)
  ]

  either : (master slave sae : ℕ) → (Some master ≡ Some sae) ⊎ (Some slave ≡ Some sae) → ((master == sae) || (slave == sae)) ≡ true
  either master slave sae is = elim is [
    | inl e ↦ let same : master ≡ sae = cc in or_left (master == sae) (slave == sae) (ap (λ (u : ℕ). u == sae) same ∙ eq_same sae)
    | inr e ↦ let same : slave ≡ sae = cc in or_right (master == sae) (slave == sae) (ap (λ (u : ℕ). u == sae) same ∙ eq_same sae)
  ]

  named : (m n : Name) → m ≡ n → name_eq m n ≡ true
  named m n e = ap (λ (x : Name). name_eq x n) e ∙ name_eq_same n

  single_handed : (f : Fact) (n : Name) (sae : ℕ) → is_single f ≡ true → name_of f ≡ n → IsEnd f sae → is_handed_by n sae f ≡ true
  unfolding IsEnd
  single_handed (Key name master slave route bytes) n sae single e is = and_both (name_eq name n) ((master == sae) || (slave == sae)) (named name n e) (either master slave sae is)
  single_handed (Chunk name stream index route bytes) n sae single e is = named name n e
  single_handed _ n sae single e is = cc

  part_end : (f : Fact) (p : PartOf) (n : Name) (sae : ℕ) → part_of f ≡ Some p → p.key ≡ n → (p.master ≡ sae) ⊎ (p.slave ≡ sae) → IsEnd f sae × (is_handed_by n sae f ≡ true)
  unfolding IsEnd
  part_end (Part name key master slave route bytes) p n sae is e ends =
      let same : record { key = key; master = master; slave = slave; bytes = bytes } ≡ p = cc in
      let at : (Some master ≡ Some sae) ⊎ (Some slave ≡ Some sae) = elim ends [
        | inl x ↦ inl (ap (λ (q : PartOf). Some (q.master)) same ∙ ap Some x)
        | inr x ↦ inr (ap (λ (q : PartOf). Some (q.slave)) same ∙ ap Some x)
      ] in
      (at, and_both (name_eq key n) ((master == sae) || (slave == sae)) (named key n (ap (λ (q : PartOf). q.key) same ∙ e)) (either master slave sae at))
  part_end _ p n sae is e ends = cc

  -- A known fact that entitles the application to the key.
  pub record IsGot (v : ℕ) (n : Name) (sae : ℕ) : Type 0 where
    pub fact : Fact
    pub name : Name
    pub there : fact_at T name ≡ Some fact
    pub knows : has (known v) name ≡ true
    pub is : (is_here v fact && is_handed_by n sae fact) ≡ true

  pub got : (v : ℕ) (n : Name) (sae : ℕ) → s.home sae ≡ v → MayHave s T known n sae → IsGot v n sae
  unfolding IsEnd
  got v n sae home may = elim may [
    | inl m ↦
        let is_end : (sae_at T true m.fact ≡ Some sae) ⊎ (sae_at T false m.fact ≡ Some sae) = elim m.is_end [ inl (e, k) ↦ inl e | inr e ↦ inr e ] in
        record {
          fact = m.fact;
          name = n;
          there = m.there;
          knows = subst (λ (u : ℕ). has (known u) n ≡ true) home m.knows;
          is = and_both (is_here v m.fact) (is_handed_by n sae m.fact) (here v m.fact sae (table n m.fact m.there).entitled home is_end)
              (single_handed m.fact n sae m.single (found_name T n m.fact m.there) is_end);
        }
    | inr m ↦
        let ends : (m.one.part.master ≡ sae) ⊎ (m.one.part.slave ≡ sae) = elim m.is_end [ inl (e, k) ↦ inl e | inr (e, k) ↦ inr e ] in
        let knows : has (known (s.home sae)) m.name ≡ true = elim m.is_end [ inl (e, all) ↦ (all m.name m.one).0 | inr (e, k) ↦ k ] in
        let r = part_end m.one.fact m.one.part n sae m.one.is m.one.key ends in
        record {
          fact = m.one.fact;
          name = m.name;
          there = m.one.there;
          knows = subst (λ (u : ℕ). has (known u) m.name ≡ true) home knows;
          is = and_both (is_here v m.one.fact) (is_handed_by n sae m.one.fact) (here v m.one.fact sae (table m.name m.one.fact m.one.there).entitled home r.0) r.1;
        }
  ]

pub handed_blind : (me : ℕ) (n : Name) (sae : ℕ) → IsBlind (λ f. is_here me f && is_handed_by n sae f)
handed_blind me n sae (Key name master slave route bytes) = refl
handed_blind me n sae (Chunk name stream index route bytes) = refl
handed_blind me n sae (Stored note about route) = refl
handed_blind me n sae (Open stream source peer size route) = refl
handed_blind me n sae (Joined note about route) = refl
handed_blind me n sae (Part name key master slave route bytes) = refl

pub handed_fits : (net : Network) (w : World) (v : ℕ) (d : Durable) → IsTable net.site d.facts d.known → (a : View) → Follows a (seen net w v d) → (n : Name) (sae : ℕ) →
    net.site.home sae ≡ v → MayHave net.site d.facts d.known n sae → list_any (λ f. is_end_of a f && is_handed_by n sae f) a.facts ≡ true
unfolding view_of masked
handed_fits net w v d table a h n sae home may =
    let r = got net.site d.facts d.known table v n sae home may in
    let w' : World = record w { durable = d } in
    let found = bare_there net.site d (view_of net w' v) (bare_view net w' v) (view_sees net w' v) r.name r.fact r.there r.knows in
    ap (λ (me : ℕ). list_any (λ f. is_here me f && is_handed_by n sae f) a.facts) h.me ∙
    any_same (λ f. is_here v f && is_handed_by n sae f) (handed_blind v n sae) a.facts (bare_view net w' v).facts (same_shapes a (seen net w v d) h) ∙
    any_found (λ f. is_here v f && is_handed_by n sae f) (λ x. name_eq (name_of x) r.name) (bare_view net w' v).facts r.fact found r.is
