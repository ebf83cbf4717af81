-- What a manager's view shows of known facts: their lengths, and that they are in the table.
use Rattle.std.proofs.Common.{◌≡◌, ℕ, zero, suc, ◌+◌, true, List, [], ◌∷◌, length, refl, sym, ◌∙◌, ap, arith, Some, None}
use Rattle.std.specs.Prelude.{slice_get, map}
use Rattle.std.specs.List.{cons_option, AllByRecursion}
use Rattle.std.proofs.lemmas.List.{length-replicate}
use Rattle.qkd_base.specs.Name.{Name, name_eq, has}
use Rattle.net_model.specs.declared.fact.Fact.{Fact}
use Rattle.net_model.specs.declared.fact.Fact.TheVariants.{Key, Chunk, Stored, Open, Joined, Part}
use Rattle.net_model.specs.Facts.{fact_len}
use Rattle.net_model.specs.Table.{name_of, fact_at, facts_of}
use Rattle.net_model.specs.Item.{Item, DataItem, AckItem, need}
use Rattle.net_model.specs.Needed.{masked_fact, masked, view_of}
use Rattle.net_model.specs.View.{View}
use Rattle.net_model.specs.World.{Network, World, Transmission, needs}
use Rattle.net_model.specs.Knowledge.{MayCarry}
use Rattle.law_base.proofs.Base.{name_eq_same, or_left, or_right}
use Rattle.law_base.proofs.Tables.{found_name}
use Rattle.law_base.proofs.Masked.{IsBlind, masked_same}
use Rattle.law_base.proofs.Seen.{Sees, bare_view, seen_there}

length_blind : IsBlind fact_len
length_blind (Key name master slave route bytes) = ap (λ (n : ℕ). 24 + length route + n) (length-replicate (length bytes) 0)
length_blind (Chunk name stream index route bytes) = ap (λ (n : ℕ). 40 + length route + n) (length-replicate (length bytes) 0)
length_blind (Stored note about route) = refl
length_blind (Open stream source peer size route) = refl
length_blind (Joined note about route) = refl
length_blind (Part name key master slave route bytes) = ap (λ (n : ℕ). 40 + length route + n) (length-replicate (length bytes) 0)

-- The view in the form in which it is computed.
abbrev pub seen : Network → World → ℕ → View
seen net w v = record (bare_view net w v) { facts = map (masked_fact (bare_view net w v)) (facts_of w.durable.facts (w.durable.known v)) }

pub seen_is : (net : Network) (w : World) (v : ℕ) → view_of net w v ≡ seen net w v
unfolding view_of masked
seen_is net w v = refl

-- The table has the fact under its name, and the node knows it.
abbrev IsKnown : List Fact → List Name → Fact → Type 0
IsKnown facts ns f = (fact_at facts (name_of f) ≡ Some f) × (has ns (name_of f) ≡ true)

known_more : (facts : List Fact) (x : Name) (ns : List Name) (f : Fact) → IsKnown facts ns f → IsKnown facts (x ∷ ns) f
known_more facts x ns f h = (h.0, or_right (name_eq x (name_of f)) (has ns (name_of f)) h.1)

known_first : (facts : List Fact) (x : Name) (ns : List Name) (y f : Fact) → fact_at facts x ≡ Some y → ((j : ℕ) → slice_get (facts_of facts ns) j ≡ Some f → IsKnown facts ns f) →
    (j : ℕ) → slice_get (y ∷ facts_of facts ns) j ≡ Some f → IsKnown facts (x ∷ ns) f
known_first facts x ns y f e rest zero g =
    let is : y ≡ f = cc in
    let name : name_of f ≡ x = ap name_of (sym is) ∙ found_name facts x y e in
    (ap (fact_at facts) name ∙ e ∙ ap Some is, or_left (name_eq x (name_of f)) (has ns (name_of f)) (ap (name_eq x) name ∙ name_eq_same x))
known_first facts x ns y f e rest (suc j) g = known_more facts x ns f (rest j g)

pub known_at : (facts : List Fact) (ns : List Name) (f : Fact) (k : ℕ) → slice_get (facts_of facts ns) k ≡ Some f → (fact_at facts (name_of f) ≡ Some f) × (has ns (name_of f) ≡ true)
known_at facts [] f k h = cc
known_at facts (x ∷ ns) f k h =
    elim (fact_at facts x) as (λ o. fact_at facts x ≡ o → slice_get (cons_option o (facts_of facts ns)) k ≡ Some f → IsKnown facts (x ∷ ns) f) [
      | None ↦ λ e g. known_more facts x ns f (known_at facts ns f k g)
      | Some y ↦ λ e g. known_first facts x ns y f e (known_at facts ns f) k g
    ] refl h

module _ (net : Network) (w : World) (v : ℕ) where
  sees : Sees net.site w.durable (seen net w v) (bare_view net w v)
  sees = record { facts = refl; handed = refl; acked = refl; bare_me = refl; bare_facts = refl; bare_acked = refl; bare_handed = refl }

  -- The length of an item is the same in the view and in the table.
  need_seen : (to : ℕ) (i : Item) → MayCarry w.durable.facts w.durable.known v to i → need (seen net w v).facts i ≡ need w.durable.facts i
  need_seen to (AckItem n) h = refl
  need_seen to (DataItem n) h =
      let there = seen_there net.site w.durable (seen net w v) (bare_view net w v) sees n h.fact h.there h.knows in
      rw (there, h.there) (ap (λ (k : ℕ). k + 8) (masked_same fact_len length_blind (bare_view net w v) h.fact))

  pub needs_seen : (to : ℕ) (ts : List Transmission) → AllByRecursion (λ (t : Transmission). MayCarry w.durable.facts w.durable.known v to t.item) ts →
      needs (seen net w v).facts ts ≡ needs w.durable.facts ts
  needs_seen to [] h = refl
  needs_seen to (t ∷ ts) h = let a = need_seen to t.item h.0 in let b = needs_seen to ts h.1 in omega (arith, a, b)
