-- Owners of bytes are added behind the others, and none is taken away.
use Rattle.std.proofs.Common.{◌≡◌, ℕ, ◌+◌, ◌≤◌, true, false, List, [], ◌∷◌, ◌++◌, refl, sym, ◌∙◌, ap, arith, replicate, append-nil, append_assoc}
use Rattle.std.specs.Prelude.{◌==◌, nat_lt, if◌then◌else◌}
use Rattle.std.proofs.lemmas.Bool.Decides.{nat_tests}
use Rattle.qkd_base.specs.LaneBytes.{lane_len}
use Rattle.qkd_base.specs.declared.lane.Lane.{Lane}
use Rattle.qkd_base.specs.declared.lane.Way.{Way}
use Rattle.qkd_base.specs.declared.lane.Way.TheVariants.{Up, Down}
use Rattle.net_model.specs.declared.record.Record.{Record}
use Rattle.net_model.specs.declared.record.Record.TheVariants.{Block, Lease, Learned, Acked, Handed, Closed, Bare}
use Rattle.net_model.specs.Site.{Site, outgoing_lane}
use Rattle.net_model.specs.World.{Durable, Owner, HashKey}
use Rattle.net_model.specs.Records.{apply_record, replay, block_taken, is_first, keyed_own}
use Rattle.law_base.proofs.Base.{by_lane, and_left, and_right, eq_from}

-- The second list is the first one with some items behind it.
abbrev pub Continues : {A : Type 0} → List A → List A → Type 0
Continues {A} xs ys = (more : List A) × (ys ≡ xs ++ more)

pub continues_same : {A : Type 0} (xs : List A) → Continues xs xs
continues_same xs = ([], sym (append-nil xs))

pub continues_then : {A : Type 0} (xs ys zs : List A) → Continues xs ys → Continues ys zs → Continues xs zs
continues_then {A} xs ys zs h k = (h.0 ++ k.0, k.1 ∙ ap (λ (os : List A). os ++ k.0) h.1 ∙ append_assoc xs h.0 k.0)

-- A lane without bytes has no owner.
abbrev pub IsFresh : Durable → Type 0
IsFresh d = (l : Lane) → lane_len l.way (d.blocks l) ≡ 0 → d.own l ≡ []

pub record Owns (a b : Durable) : Type 0 where
  pub fresh : IsFresh b
  pub own : (l : Lane) → Continues (a.own l) (b.own l)

owns_same : (d : Durable) → IsFresh d → Owns d d
owns_same d h = record { fresh = h; own = λ l. continues_same (d.own l) }

len_grows : (way : Way) (n : ℕ) → lane_len way n ≤ lane_len way (n + 1)
len_grows Up n = omega arith
len_grows Down n = omega arith

-- The first block of a lane comes when nobody owns anything.
module _ (before after : ℕ) (own : List Owner) (more : before ≤ after) (fresh : before ≡ 0 → own ≡ []) where
  keyed_fresh : after ≡ 0 → keyed_own before after own ≡ []
  keyed_fresh none = elim (is_first before after) as (λ t. is_first before after ≡ t → (if t then replicate 8 HashKey else own) ≡ []) [
    | true ↦ λ e. let some : nat_lt 0 after ≡ true = and_right (before == 0) (nat_lt 0 after) e in absurd (grind (arith, nat_tests))
    | false ↦ λ e. fresh (omega (arith, none, more))
  ] refl

  keyed_continues : Continues own (keyed_own before after own)
  keyed_continues = elim (is_first before after) as (λ t. is_first before after ≡ t → Continues own (if t then replicate 8 HashKey else own)) [
    | true ↦ λ e.
        let none : own ≡ [] = fresh (eq_from before 0 (and_left (before == 0) (nat_lt 0 after) e)) in
        (replicate 8 HashKey, sym (ap (λ (os : List Owner). os ++ replicate 8 HashKey) none))
    | false ↦ λ e. continues_same own
  ] refl

taken_owns : (k : Lane) (d : Durable) → IsFresh d → Owns d (block_taken k d)
unfolding block_taken
taken_owns k d h =
    let before : ℕ = lane_len k.way (d.blocks k) in
    let after : ℕ = lane_len k.way (d.blocks k + 1) in
    let more : before ≤ after = len_grows k.way (d.blocks k) in
    record {
      fresh = by_lane (λ l t. lane_len l.way (if t then d.blocks k + 1 else d.blocks l) ≡ 0 → (if t then keyed_own before after (d.own k) else d.own l) ≡ []) k
          (keyed_fresh before after (d.own k) more (h k)) h;
      own = by_lane (λ l t. Continues (d.own l) (if t then keyed_own before after (d.own k) else d.own l)) k
          (keyed_continues before after (d.own k) more (h k)) (λ l. continues_same (d.own l));
    }

apply_owns : (s : Site) (v : ℕ) (r : Record) (d : Durable) → IsFresh d → Owns d (apply_record s v r d)
unfolding apply_record
apply_owns s v (Block link number bytes) d h = taken_owns (outgoing_lane s v link) d h
apply_owns s v (Lease l end) d h = record { fresh = h; own = λ k. continues_same (d.own k) }
apply_owns s v (Learned f) d h = record { fresh = h; own = λ k. continues_same (d.own k) }
apply_owns s v (Acked n) d h = record { fresh = h; own = λ k. continues_same (d.own k) }
apply_owns s v (Handed n sae) d h = record { fresh = h; own = λ k. continues_same (d.own k) }
apply_owns s v (Closed n sae) d h = record { fresh = h; own = λ k. continues_same (d.own k) }
apply_owns s v (Bare f) d h = record { fresh = h; own = λ k. continues_same (d.own k) }

pub replay_owns : (s : Site) (v : ℕ) (rs : List Record) (d : Durable) → IsFresh d → Owns d (replay s v rs d)
unfolding replay
replay_owns s v [] d h = owns_same d h
replay_owns s v (r ∷ rs) d h =
    let one = apply_owns s v r d h in
    let next : Durable = apply_record s v r d in
    let rest = replay_owns s v rs next one.fresh in
    record { fresh = rest.fresh; own = λ l. continues_then (d.own l) (next.own l) ((replay s v rs next).own l) (one.own l) (rest.own l) }
