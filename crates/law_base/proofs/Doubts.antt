-- Batches in doubt: another node's batch stays permitted, and the invariant holds whichever of them are made.
use Rattle.std.proofs.Common.{◌≡◌, ◌≢◌, ℕ, zero, suc, ◌≤◌, Bool, true, false, List, [], ◌∷◌, ◌++◌, refl, sym, subst, arith}
use Rattle.std.specs.Prelude.{if◌then◌else◌}
use Rattle.qkd_base.specs.declared.lane.Lane.{Lane}
use Rattle.net_model.specs.declared.record.Record.{Record}
use Rattle.net_model.specs.Site.{Site, count_up}
use Rattle.net_model.specs.World.{World, Durable, Allocation, Transmission}
use Rattle.net_model.specs.Records.{replay}
use Rattle.net_model.specs.Doubt.{MayReplay}
use Rattle.net_model.specs.Invariant.{Invariant, with_doubts}
use Rattle.law_base.proofs.Keeping.{replay_keeps}
use Rattle.law_base.proofs.Extending.{others_extend}
use Rattle.law_base.proofs.Later.{may_replay_later}

-- What one node may replay, it may still replay after another node replayed its own batch.
pub doubt_stays : (s : Site) (d : Durable) (frames : Lane → List Allocation) (unclaimed : Lane → List Transmission) → Invariant s d frames unclaimed →
    (u v : ℕ) → u ≢ v → (rs rs' : List Record) → MayReplay s d v rs → MayReplay s d u rs' → MayReplay s (replay s v rs d) u rs'
doubt_stays s d frames unclaimed c u v apart rs rs' m m' =
    may_replay_later s u frames frames unclaimed unclaimed d (replay s v rs d) c (replay_keeps s d frames unclaimed c v rs m)
    (others_extend s u v apart d frames unclaimed c rs m) rs' m'

module _ (s : Site) (w : World) (made : ℕ → Bool) (frames : Lane → List Allocation) (unclaimed : Lane → List Transmission) where
  abbrev batch : ℕ → List Record
  batch v = (w.in_doubt v).batch

  made_then : (xs ys : List ℕ) (d : Durable) → with_doubts s w made (xs ++ ys) d ≡ with_doubts s w made ys (with_doubts s w made xs d)
  made_then [] ys d = refl
  made_then (x ∷ xs) ys d = made_then xs ys (if made x then replay s x (batch x) d else d)

  -- The doubts of the first n nodes are settled, and the batches of the others are still permitted.
  record IsSettled (n : ℕ) (d : Durable) : Type 0 where
    invariant : Invariant s d frames unclaimed
    doubts : (u : ℕ) → n ≤ u → MayReplay s d u (batch u)

  settled_one : (n : ℕ) (d : Durable) → IsSettled n d → (t : Bool) → IsSettled (suc n) (if t then replay s n (batch n) d else d)
  settled_one n d c true =
      let m = c.doubts n (omega arith) in
      record {
        invariant = replay_keeps s d frames unclaimed c.invariant n (batch n) m;
        doubts = λ u le. doubt_stays s d frames unclaimed c.invariant u n (λ e. omega (arith, le, e)) (batch n) (batch u) m (c.doubts u (omega (arith, le)));
      }
  settled_one n d c false = record { invariant = c.invariant; doubts = λ u le. c.doubts u (omega (arith, le)) }

  settled : (n : ℕ) (d : Durable) → IsSettled 0 d → IsSettled n (with_doubts s w made (count_up n) d)
  settled zero d c = c
  settled (suc n) d c =
      subst (λ (x : Durable). IsSettled (suc n) x) (sym (made_then (count_up n) (n ∷ []) d))
      (settled_one n (with_doubts s w made (count_up n) d) (settled n d c) (made n))

  pub doubts_made : (d : Durable) → Invariant s d frames unclaimed → ((v : ℕ) → MayReplay s d v (batch v)) → (n : ℕ) →
      Invariant s (with_doubts s w made (count_up n) d) frames unclaimed
  doubts_made d c m n = (settled n d (record { invariant = c; doubts = λ u le. m u })).invariant
