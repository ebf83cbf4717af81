-- Two durable states of which one node sees the same: it still does after each change.
use Rattle.std.proofs.Common.{◌≡◌, ◌≢◌, ℕ, ◌+◌, Bool, true, false, List, [], ◌∷◌, ◌++◌, refl, sym, ◌∙◌, ap}
use Rattle.std.specs.Prelude.{◌==◌, if◌then◌else◌}
use Rattle.std.proofs.lemmas.List.Elements.{filter-append}
use Rattle.qkd_base.specs.Name.{Name}
use Rattle.qkd_base.specs.Family.{number_set, lane_set}
use Rattle.qkd_base.specs.Lane.{lane_eq}
use Rattle.qkd_base.specs.LaneBytes.{lane_len}
use Rattle.qkd_base.specs.declared.lane.Lane.{Lane}
use Rattle.net_model.specs.declared.record.Record.{Record}
use Rattle.net_model.specs.declared.record.Record.TheVariants.{Block, Lease, Learned, Acked, Handed, Closed, Bare}
use Rattle.net_model.specs.Site.{Site, sender, outgoing_lane}
use Rattle.net_model.specs.World.{Durable, Owner, Allocation, Transmission}
use Rattle.net_model.specs.View.{handed_at}
use Rattle.net_model.specs.Records.{apply_record, replay, block_taken, keyed_own}
use Rattle.net_model.specs.Doubt.{MayApply, MayReplay, Extends}
use Rattle.net_model.specs.Invariant.{Invariant}
use Rattle.law_base.proofs.Base.{number_set_same, lane_eq_from, eq_from, not_false}
use Rattle.law_base.proofs.Knowing.{AreThere}
use Rattle.law_base.proofs.Keeping.{apply_keeps}
use Rattle.law_base.proofs.Extending.{extends_same, extends_then, end_of, other_extends}
use Rattle.law_base.proofs.Later.{both_extend, apply_later, known_there}

pub record SameDurable (s : Site) (v : ℕ) (a b : Durable) : Type 0 where
  pub extends : Extends s v a b
  pub acked : b.acked v ≡ a.acked v
  pub closed : b.closed v ≡ a.closed v
  pub handed : handed_at s v b.handed ≡ handed_at s v a.handed
  pub own : (l : Lane) → sender s l ≡ v → b.own l ≡ a.own l

pub same_durable : (s : Site) (v : ℕ) (d : Durable) → SameDurable s v d d
same_durable s v d = record { extends = extends_same s v d; acked = refl; closed = refl; handed = refl; own = λ l h. refl }

pub same_durable_then : (s : Site) (v : ℕ) (a b c : Durable) → SameDurable s v a b → SameDurable s v b c → SameDurable s v a c
same_durable_then s v a b c h k =
    record {
      extends = extends_then s v a b c h.extends k.extends;
      acked = k.acked ∙ h.acked;
      closed = k.closed ∙ h.closed;
      handed = k.handed ∙ h.handed;
      own = λ l e. k.own l e ∙ h.own l e;
    }

handed-push : (s : Site) (v : ℕ) (hs : List (Name × ℕ)) (n : Name) (sae : ℕ) →
    handed_at s v (hs ++ (n, sae) ∷ []) ≡ handed_at s v hs ++ handed_at s v ((n, sae) ∷ [])
handed-push s v hs n sae = filter-append (λ h. s.home h.1 == v) hs ((n, sae) ∷ [])

-- The node makes the same change in both states.

module _ (s : Site) (v : ℕ) (a b : Durable) (h : SameDurable s v a b) where
  set_both : {A : Type 0} (f g : Lane → A) (k l : Lane) (x y : A) → x ≡ y → g l ≡ f l → lane_set g k y l ≡ lane_set f k x l
  set_both f g k l x y e e2 = elim (lane_eq l k) as (λ t. (if t then y else g l) ≡ (if t then x else f l)) [ true ↦ sym e | false ↦ e2 ]

  block_both : (k : Lane) → sender s k ≡ v → Extends s v (block_taken k a) (block_taken k b) → SameDurable s v (block_taken k a) (block_taken k b)
  unfolding block_taken
  block_both k at x =
      record {
        extends = x;
        acked = h.acked;
        closed = h.closed;
        handed = h.handed;
        own = λ l e. let p = sym (h.extends.taken k at) in let q = sym (h.own k at) in
            set_both a.own b.own k l (keyed_own (lane_len k.way (a.blocks k)) (lane_len k.way (a.blocks k + 1)) (a.own k))
            (keyed_own (lane_len k.way (b.blocks k)) (lane_len k.way (b.blocks k + 1)) (b.own k))
            (λ i. keyed_own (lane_len k.way (p i)) (lane_len k.way (p i + 1)) (q i)) (h.own l e);
      }

  with_one : {A : Type 0} (f g : ℕ → List A) (x : A) → g v ≡ f v → number_set g v (g v ++ x ∷ []) v ≡ number_set f v (f v ++ x ∷ []) v
  with_one f g x e =
      number_set_same g v (g v ++ x ∷ []) ∙ ap (λ ys. ys ++ x ∷ []) e ∙ sym (number_set_same f v (f v ++ x ∷ []))

  both_apply : (r : Record) → MayApply s a v r → Extends s v (apply_record s v r a) (apply_record s v r b) → SameDurable s v (apply_record s v r a) (apply_record s v r b)
  unfolding apply_record
  both_apply (Block link number bytes) m x = block_both (outgoing_lane s v link) (end_of s v link m.0) x
  both_apply (Lease l end) m x = record { extends = x; acked = h.acked; closed = h.closed; handed = h.handed; own = h.own }
  both_apply (Learned f) m x = record { extends = x; acked = h.acked; closed = h.closed; handed = h.handed; own = h.own }
  both_apply (Acked n) m x = record { extends = x; acked = with_one a.acked b.acked n h.acked; closed = h.closed; handed = h.handed; own = h.own }
  both_apply (Handed n sae) m x =
      record {
        extends = x;
        acked = h.acked;
        closed = h.closed;
        handed = handed-push s v b.handed n sae ∙ ap (λ hs. hs ++ handed_at s v ((n, sae) ∷ [])) h.handed ∙ sym (handed-push s v a.handed n sae);
        own = h.own;
      }
  both_apply (Closed n sae) m x = record { extends = x; acked = h.acked; closed = with_one a.closed b.closed (n, sae) h.closed; handed = h.handed; own = h.own }
  both_apply (Bare f) m x = absurd m

module _ (s : Site) (v : ℕ) (frames frames' : Lane → List Allocation) (unclaimed unclaimed' : Lane → List Transmission) where
  pub both_replay : (a b : Durable) → Invariant s a frames unclaimed → Invariant s b frames' unclaimed' → SameDurable s v a b → (rs : List Record) →
      MayReplay s a v rs → SameDurable s v (replay s v rs a) (replay s v rs b)
  unfolding replay
  both_replay a b c d h [] m = h
  both_replay a b c d h (r ∷ rs) m =
      let now = apply_later s v a b h.extends frames' unclaimed' d r m.0 in
      both_replay (apply_record s v r a) (apply_record s v r b) (apply_keeps s a frames unclaimed c v r m.0) (apply_keeps s b frames' unclaimed' d v r now)
      (both_apply s v a b h r m.0 (both_extend s v a b h.extends (known_there s a frames unclaimed c v) (known_there s b frames' unclaimed' d v) r m.0)) rs m.1

-- The node doesn't see changes of other nodes.

module _ (s : Site) (v u : ℕ) (apart : v ≢ u) (d : Durable) where
  other_set : {A : Type 0} (f : ℕ → A) (x : A) → number_set f u x v ≡ f v
  other_set f x = ap (λ (t : Bool). if t then x else f v) (not_false (v == u) (λ e. apart (eq_from v u e)))

  other_own : (k : Lane) → sender s k ≡ u → (l : Lane) (x : List Owner) → sender s l ≡ v → lane_set d.own k x l ≡ d.own l
  other_own k at l x to =
      ap (λ (t : Bool). if t then x else d.own l)
      (not_false (lane_eq l k) (λ e. let is : l ≡ k = lane_eq_from l k e in apart (sym to ∙ ap (sender s) is ∙ at)))

  block_other : (k : Lane) → sender s k ≡ u → Extends s v d (block_taken k d) → SameDurable s v d (block_taken k d)
  unfolding block_taken
  block_other k at x = record { extends = x; acked = refl; closed = refl; handed = refl; own = λ l to. other_own k at l _ to }

  other_handed : (n : Name) (sae : ℕ) → s.home sae ≡ u → handed_at s v (d.handed ++ (n, sae) ∷ []) ≡ handed_at s v d.handed
  other_handed n sae at =
      let away : (s.home sae == v) ≡ false = not_false (s.home sae == v) (λ e. apart (sym (eq_from (s.home sae) v e) ∙ at)) in
      let none : handed_at s v ((n, sae) ∷ []) ≡ [] = rw away refl in
      handed-push s v d.handed n sae ∙ ap (λ hs. handed_at s v d.handed ++ hs) none ∙ append-nil' (handed_at s v d.handed)
    where
      append-nil' : {A : Type 0} (xs : List A) → xs ++ [] ≡ xs
      append-nil' [] = refl
      append-nil' (x ∷ xs) = ap (λ ys. x ∷ ys) (append-nil' xs)

  other_apply : (r : Record) → MayApply s d u r → Extends s v d (apply_record s u r d) → SameDurable s v d (apply_record s u r d)
  unfolding apply_record
  other_apply (Block link number bytes) m x = block_other (outgoing_lane s u link) (end_of s u link m.0) x
  other_apply (Lease l end) m x = record { extends = x; acked = refl; closed = refl; handed = refl; own = λ l to. refl }
  other_apply (Learned f) m x = record { extends = x; acked = refl; closed = refl; handed = refl; own = λ l to. refl }
  other_apply (Acked n) m x = record { extends = x; acked = other_set d.acked _; closed = refl; handed = refl; own = λ l to. refl }
  other_apply (Handed n sae) m x = record { extends = x; acked = refl; closed = refl; handed = other_handed n sae m.0; own = λ l to. refl }
  other_apply (Closed n sae) m x = record { extends = x; acked = refl; closed = other_set d.closed _; handed = refl; own = λ l to. refl }
  other_apply (Bare f) m x = absurd m

pub other_replay : (s : Site) (v u : ℕ) → v ≢ u → (d : Durable) (frames : Lane → List Allocation) (unclaimed : Lane → List Transmission) → Invariant s d frames unclaimed →
    (rs : List Record) → MayReplay s d u rs → SameDurable s v d (replay s u rs d)
unfolding replay
other_replay s v u apart d frames unclaimed c [] m = same_durable s v d
other_replay s v u apart d frames unclaimed c (r ∷ rs) m =
    same_durable_then s v d (apply_record s u r d) (replay s u rs (apply_record s u r d))
    (other_apply s v u apart d r m.0 (other_extends s v u apart d c.knowledge r m.0))
    (other_replay s v u apart (apply_record s u r d) frames unclaimed (apply_keeps s d frames unclaimed c u r m.0) rs m.1)
