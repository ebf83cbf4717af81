-- A node learns a fact of the table or a new fact of its own; lemmas on the table and the knowledge afterwards.
use Rattle.std.proofs.Common.{◌≡◌, ℕ, true, false, List, [], ◌∷◌, ◌++◌, refl, sym, ◌∙◌, ap, subst, Option, Some, None, ◌⊎◌, inl, inr}
use Rattle.std.specs.Prelude.{if◌then◌else◌}
use Rattle.qkd_base.specs.Name.{Name, has}
use Rattle.net_model.specs.declared.fact.Fact.{Fact}
use Rattle.net_model.specs.declared.fact.Fact.TheVariants.{Stored}
use Rattle.net_model.specs.Table.{name_of, route_of, fact_at, is_stored_about}
use Rattle.net_model.specs.Site.{Site}
use Rattle.net_model.specs.World.{Durable}
use Rattle.net_model.specs.Knowledge.{PredecessorKnows, KnownOnRoute, IsOn, IsFactOf, IsTable, IsKnowledge, IsTargetOf, IsStoredOnce, AllDiffer}
use Rattle.net_model.specs.Doubt.{MayBeReceived, MayBeMade, MayNote, NoStoredBy}
use Rattle.law_base.proofs.Base.{name_eq_from, by_number}
use Rattle.law_base.proofs.Tables.{at_prefix, push_cases, push_there}
use Rattle.law_base.proofs.Grow.{Grows, KnownGrows, source_grows, known_grows, entitled_grows, target_grows}
use Rattle.law_base.proofs.Knowing.{known_with, known_with_grows, known_with_new, known_with_cases, differ_push}

-- The fact is new and was made by this node.
pub record IsNew (s : Site) (d : Durable) (v : ℕ) (f : Fact) (n : Name) (g : Fact) : Type 0 where
  pub name : n ≡ name_of f
  pub same : g ≡ f
  pub made : MayBeMade s d.facts d.known d.handed v f

-- The table after a node learned a fact.
pub record Learns (s : Site) (d : Durable) (v : ℕ) (f : Fact) (facts : List Fact) : Type 0 where
  pub grows : Grows d.facts facts
  pub cases : (n : Name) (g : Fact) → fact_at facts n ≡ Some g → (fact_at d.facts n ≡ Some g) ⊎ IsNew s d v f n g
  pub there : fact_at facts (name_of f) ≡ Some f
  pub fresh : has (d.known v) (name_of f) ≡ false
  pub on : IsOn (route_of f) v
  pub source : PredecessorKnows d.known v (name_of f) (route_of f)

pub receipt_learns : (s : Site) (d : Durable) (v : ℕ) (f : Fact) → has (d.known v) (name_of f) ≡ false → MayBeReceived d.facts d.known v f → Learns s d v f d.facts
receipt_learns s d v f fresh m =
    record { grows = λ n g h. h; cases = λ n g h. inl h; there = m.there; fresh = fresh; on = m.on; source = m.source }

pub made_learns : (s : Site) (d : Durable) (v : ℕ) (f : Fact) → has (d.known v) (name_of f) ≡ false → MayBeMade s d.facts d.known d.handed v f →
    Learns s d v f (d.facts ++ f ∷ [])
made_learns s d v f fresh m =
    record {
      grows = λ n g h. at_prefix d.facts (f ∷ []) n g h;
      cases = λ n g h. elim (push_cases d.facts f n g h) [ inl old ↦ inl old | inr (is, same) ↦ inr (record { name = is; same = same; made = m }) ];
      there = push_there d.facts f m.free;
      fresh = fresh;
      on = m.on;
      source = inl m.starts;
    }

-- Lemmas on Stored and Joined notes.

record NoteSays (facts : List Fact) (known : ℕ → List Name) (v : ℕ) (n : Name) : Type 0 where
  target : IsTargetOf v (fact_at facts n)
  knows : has (known v) n ≡ true
  none : NoStoredBy v facts n

note_says : (facts : List Fact) (known : ℕ → List Name) (v : ℕ) (f : Fact) (n : Name) → is_stored_about n f ≡ true → MayNote facts known v f →
    NoteSays facts known v n
note_says facts known v (Stored note about route) n h m =
    subst (λ (x : Name). NoteSays facts known v x) (name_eq_from about n h) (record { target = m.0; knows = m.1; none = m.2 })
note_says facts known v _ n h m = cc

same_target : (u v : ℕ) (o : Option Fact) → IsTargetOf u o → IsTargetOf v o → u ≡ v
same_target u v None h k = absurd h
same_target u v (Some f) h k = sym h.1 ∙ k.1

module _ (s : Site) (d : Durable) (v : ℕ) (f : Fact) (facts : List Fact) (l : Learns s d v f facts) where
  abbrev known' : ℕ → List Name
  known' = known_with d.known v (name_of f)

  more : KnownGrows d.known known'
  more = known_with_grows d.known v (name_of f)

  new_known : KnownOnRoute facts known' v (name_of f)
  new_known =
      record {
        fact = f;
        there = l.there;
        on = l.on;
        source = source_grows d.facts facts d.known known' l.grows more v (name_of f) (route_of f) l.source;
      }

  pub learned_knowledge : IsKnowledge d.facts d.known → IsKnowledge facts known'
  learned_knowledge c =
      record {
        differ = by_number (λ u t. AllDiffer (if t then d.known v ++ name_of f ∷ [] else d.known u)) v
            (differ_push (d.known v) (name_of f) (c.differ v) l.fresh) (λ u ne. c.differ u);
        each = λ u n h. elim (known_with_cases d.known v (name_of f) u n h) [
          | inl old ↦ known_grows d.facts facts d.known known' l.grows more u n (c.each u n old)
          | inr (at, is) ↦ subst (λ (x : ℕ). KnownOnRoute facts known' x n) (sym at) (subst (λ (m : Name). KnownOnRoute facts known' v m) is new_known)
        ];
      }

  new_fact : MayBeMade s d.facts d.known d.handed v f → IsFactOf s facts known' (name_of f) f
  new_fact m =
      record {
        formed = m.formed;
        ranged = m.ranged;
        maker = m.mine ∙ sym m.starts;
        made = subst (λ (u : ℕ). has (known' u) (name_of f) ≡ true) (sym m.mine) (known_with_new d.known v (name_of f));
        entitled = entitled_grows d.facts facts d.known known' l.grows more s f m.entitled;
      }

  pub learned_table : IsTable s d.facts d.known → IsTable s facts known'
  learned_table c n g h = elim (l.cases n g h) [
    | inl old ↦ let x = c n g old in
        record {
          formed = x.formed;
          ranged = x.ranged;
          maker = x.maker;
          made = more n.node n x.made;
          entitled = entitled_grows d.facts facts d.known known' l.grows more s g x.entitled;
        }
    | inr x ↦ subst (λ (m : Name). IsFactOf s facts known' m g) (sym x.name)
        (subst (λ (y : Fact). IsFactOf s facts known' (name_of f) y) (sym x.same) (new_fact x.made))
  ]

  -- A second note about the same name would have been made by the same node, and there is none.
  no_second : IsStoredOnce d.facts d.known → (m : Name) (g : Fact) (n : Name) → fact_at d.facts m ≡ Some g → is_stored_about n g ≡ true →
      is_stored_about n f ≡ true → MayBeMade s d.facts d.known d.handed v f → ⊥
  no_second c m g n old about about' mb =
      let r = note_says d.facts d.known v f n about' mb.note in
      let t = c.target m n g old about in
      let no = r.none m g old (same_target m.node v (fact_at d.facts n) t.0 r.target) in
      cc

  new_target : (n : Name) → is_stored_about n f ≡ true → MayBeMade s d.facts d.known d.handed v f →
      IsTargetOf (name_of f).node (fact_at facts n) × (has (known' (name_of f).node) n ≡ true)
  new_target n about mb =
      let r = note_says d.facts d.known v f n about mb.note in
      subst (λ (u : ℕ). IsTargetOf u (fact_at facts n) × (has (known' u) n ≡ true)) (sym mb.mine)
      (target_grows d.facts facts d.known known' l.grows more v n (fact_at d.facts n) refl r.target, more v n r.knows)

  pub learned_stored : IsStoredOnce d.facts d.known → IsStoredOnce facts known'
  learned_stored c =
      record {
        target = λ m n g h about. elim (l.cases m g h) [
          | inl old ↦ let r = c.target m n g old about in
              (target_grows d.facts facts d.known known' l.grows more m.node n (fact_at d.facts n) refl r.0, more m.node n r.1)
          | inr x ↦ subst (λ (y : Name). IsTargetOf y.node (fact_at facts n) × (has (known' y.node) n ≡ true)) (sym x.name)
              (new_target n (ap (is_stored_about n) (sym x.same) ∙ about) x.made)
        ];
        once = λ m m' n g g' h h' about about'. elim (l.cases m g h) [
          | inl old ↦ elim (l.cases m' g' h') [
            | inl old' ↦ c.once m m' n g g' old old' about about'
            | inr x' ↦ absurd (no_second c m g n old about (ap (is_stored_about n) (sym x'.same) ∙ about') x'.made)
          ]
          | inr x ↦ elim (l.cases m' g' h') [
            | inl old' ↦ absurd (no_second c m' g' n old' about' (ap (is_stored_about n) (sym x.same) ∙ about) x.made)
            | inr x' ↦ x.name ∙ sym x'.name
          ]
        ];
      }
