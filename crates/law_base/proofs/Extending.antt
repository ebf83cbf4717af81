-- What one node makes durable keeps everything on which another node's batch in doubt rests.
use Rattle.std.proofs.Common.{◌≡◌, ℕ, ◌+◌, Bool, true, false, ◌&&◌, ◌||◌, List, [], ◌∷◌, ◌++◌, refl, sym, ◌∙◌, ap, Option, Some, None, ◌⊎◌, inl, inr}
use Rattle.std.specs.Prelude.{◌==◌, if◌then◌else◌}
use Rattle.std.specs.Option.{option_or}
use Rattle.std.proofs.lemmas.List.Folds.{find-append}
use Rattle.qkd_base.specs.Name.{Name, name_eq}
use Rattle.qkd_base.specs.Family.{number_set, lane_set}
use Rattle.qkd_base.specs.Lane.{lane_eq}
use Rattle.qkd_base.specs.declared.lane.Way.{Way}
use Rattle.qkd_base.specs.declared.lane.Way.TheVariants.{Up, Down}
use Rattle.qkd_base.specs.declared.lane.Lane.{Lane}
use Rattle.net_model.specs.declared.record.Record.{Record}
use Rattle.net_model.specs.declared.record.Record.TheVariants.{Block, Lease, Learned, Acked, Handed, Closed, Bare}
use Rattle.net_model.specs.declared.fact.Fact.{Fact}
use Rattle.net_model.specs.Table.{name_of, fact_at, facts_of, learned, was_handed}
use Rattle.net_model.specs.Site.{Site, sender, lane_of, outgoing_lane, is_incident}
use Rattle.net_model.specs.World.{Durable, Allocation, Transmission}
use Rattle.net_model.specs.Records.{apply_record, replay, block_taken}
use Rattle.net_model.specs.Knowledge.{IsKnowledge}
use Rattle.net_model.specs.Doubt.{MayBeReceived, MayBeMade, MayApply, MayReplay, Extends}
use Rattle.net_model.specs.Invariant.{Invariant}
use Rattle.law_base.proofs.Base.{lane_eq_from, name_eq_from, eq_from, and_right, not_false, or_same}
use Rattle.law_base.proofs.Tables.{learned_there, learned_new, learned_keeps}
use Rattle.law_base.proofs.Knowing.{known_with, known_with_grows, AreThere, facts_stay}
use Rattle.law_base.proofs.Keeping.{handed-push, apply_keeps}

pub extends_same : (s : Site) (v : ℕ) (d : Durable) → Extends s v d d
extends_same s v d =
    record {
      grows = λ n f h. h;
      mine = λ n h. refl;
      more = λ u n h. h;
      here = refl;
      seen = refl;
      hands = λ n sae h. refl;
      leases = λ l h. refl;
      taken = λ l h. refl;
    }

pub extends_then : (s : Site) (v : ℕ) (a b c : Durable) → Extends s v a b → Extends s v b c → Extends s v a c
extends_then s v a b c h k =
    record {
      grows = λ n f e. k.grows n f (h.grows n f e);
      mine = λ n e. k.mine n e ∙ h.mine n e;
      more = λ u n e. k.more u n (h.more u n e);
      here = k.here ∙ h.here;
      seen = k.seen ∙ h.seen;
      hands = λ n sae e. k.hands n sae e ∙ h.hands n sae e;
      leases = λ l e. k.leases l e ∙ h.leases l e;
      taken = λ l e. k.taken l e ∙ h.taken l e;
    }

-- The node is the sender of the lane to which the block of bytes belongs.
pub end_of : (s : Site) (v link : ℕ) → is_incident s v link ≡ true → sender s (outgoing_lane s v link) ≡ v
end_of s v link h = elim (s.low link == v) as (λ t. (s.low link == v) ≡ t → (t || (s.high link == v)) ≡ true → sender s (lane_of link (if t then Up else Down)) ≡ v) [
  | true ↦ λ e k. eq_from (s.low link) v e
  | false ↦ λ e k. eq_from (s.high link) v k
] refl h

module _ (s : Site) (u v : ℕ) (apart : u ≡ v → ⊥) (d : Durable) where
  other_number : {A : Type 0} (f : ℕ → A) (x : A) → number_set f v x u ≡ f u
  other_number f x = ap (λ (t : Bool). if t then x else f u) (not_false (u == v) (λ e. apart (eq_from u v e)))

  other_lane : {A : Type 0} (f : Lane → A) (k l : Lane) (x : A) → sender s k ≡ v → sender s l ≡ u → lane_set f k x l ≡ f l
  other_lane f k l x at to =
      ap (λ (t : Bool). if t then x else f l)
      (not_false (lane_eq l k) (λ e. let is : l ≡ k = lane_eq_from l k e in apart (sym to ∙ ap (sender s) is ∙ at)))

  other_made : (f : Fact) (n : Name) → (name_of f).node ≡ v → n.node ≡ u → fact_at (f ∷ []) n ≡ None
  other_made f n at to =
      ap (λ (t : Bool). if t then Some f else None)
      (not_false (name_eq (name_of f) n) (λ e. apart (sym to ∙ ap (λ (x : Name). x.node) (sym (name_eq_from (name_of f) n e)) ∙ at)))

  or_none : (o : Option Fact) → option_or o None ≡ o
  or_none None = refl
  or_none (Some x) = refl

  others_learn : IsKnowledge d.facts d.known → (f : Fact) → MayBeReceived d.facts d.known v f ⊎ MayBeMade s d.facts d.known d.handed v f →
      Extends s u d (apply_record s v (Learned f) d)
  unfolding apply_record
  others_learn c f m =
      let there : AreThere d.facts (d.known u) = λ n h. let x = c.each u n h in (x.fact, x.there) in
      let same : known_with d.known v (name_of f) u ≡ d.known u = other_number d.known (d.known v ++ name_of f ∷ []) in
      record {
        grows = λ n g e. learned_keeps d.facts f n g e;
        mine = λ n at. elim m [
          | inl t ↦ ap (λ (facts : List Fact). fact_at facts n) (learned_there d.facts f t.there)
          | inr x ↦
              ap (λ (facts : List Fact). fact_at facts n) (learned_new d.facts f x.free) ∙ find-append (λ y. name_eq (name_of y) n) d.facts (f ∷ []) ∙
              ap (option_or (fact_at d.facts n)) (other_made f n x.mine at) ∙ or_none (fact_at d.facts n)
        ];
        more = known_with_grows d.known v (name_of f);
        here = same;
        seen = ap (facts_of (learned d.facts f)) same ∙ facts_stay d.facts (learned d.facts f) (λ n g e. learned_keeps d.facts f n g e) (d.known u) there;
        hands = λ n sae h. refl;
        leases = λ l h. refl;
        taken = λ l h. refl;
      }

  others_block : (k : Lane) → sender s k ≡ v → Extends s u d (block_taken k d)
  unfolding block_taken
  others_block k at =
      record {
        grows = λ n f h. h;
        mine = λ n h. refl;
        more = λ x n h. h;
        here = refl;
        seen = refl;
        hands = λ n sae h. refl;
        leases = λ l to. other_lane d.lease k l _ at to;
        taken = λ l to. other_lane d.blocks k l _ at to;
      }

  other_handed : (n : Name) (sae : ℕ) (k : Name) (t : ℕ) → s.home sae ≡ v → s.home t ≡ u → (name_eq n k && (sae == t)) ≡ false
  other_handed n sae k t at to =
      not_false (name_eq n k && (sae == t)) (λ e. apart (sym to ∙ ap s.home (sym (eq_from sae t (and_right (name_eq n k) (sae == t) e))) ∙ at))

  pub other_extends : IsKnowledge d.facts d.known → (r : Record) → MayApply s d v r → Extends s u d (apply_record s v r d)
  unfolding apply_record
  other_extends c (Block link number bytes) m = others_block (outgoing_lane s v link) (end_of s v link m.0)
  other_extends c (Lease l end) m =
      record {
        grows = λ n f h. h;
        mine = λ n h. refl;
        more = λ k n h. h;
        here = refl;
        seen = refl;
        hands = λ n sae h. refl;
        taken = λ k h. refl;
        leases = λ k to. other_lane d.lease l k end m.0 to;
      }
  other_extends c (Learned f) m = others_learn c f m.1
  other_extends c (Acked n) m = extends_same s u d
  other_extends c (Handed n sae) m =
      record {
        grows = λ k f h. h;
        mine = λ k h. refl;
        more = λ x k h. h;
        here = refl;
        seen = refl;
        leases = λ l h. refl;
        taken = λ k h. refl;
        hands = λ k t to. handed-push d.handed n sae k t ∙ or_same (was_handed d.handed k t) (name_eq n k && (sae == t)) (other_handed n sae k t m.0 to);
      }
  other_extends c (Closed n sae) m = extends_same s u d
  other_extends c (Bare f) m = absurd m

pub others_extend : (s : Site) (u v : ℕ) → (u ≡ v → ⊥) → (d : Durable) (frames : Lane → List Allocation) (unclaimed : Lane → List Transmission) →
    Invariant s d frames unclaimed → (rs : List Record) → MayReplay s d v rs → Extends s u d (replay s v rs d)
unfolding replay
others_extend s u v apart d frames unclaimed c [] m = extends_same s u d
others_extend s u v apart d frames unclaimed c (r ∷ rs) m =
    extends_then s u d (apply_record s v r d) (replay s v rs (apply_record s v r d)) (other_extends s u v apart d c.knowledge r m.0)
    (others_extend s u v apart (apply_record s v r d) frames unclaimed (apply_keeps s d frames unclaimed c v r m.0) rs m.1)
