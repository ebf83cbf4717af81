-- Replaying a permitted batch only adds facts and knowledge, and gives no link more than 1,024 blocks of bytes.
use Rattle.std.proofs.Common.{◌≡◌, ℕ, true, false, suc, ◌+◌, ◌<◌, ◌≤◌, List, [], ◌∷◌, refl, sym, ◌∙◌, ap, subst, arith, Some, ◌⊎◌, inl, inr}
use Rattle.std.specs.Prelude.{slice_get, if◌then◌else◌}
use Rattle.qkd_base.specs.Name.{Name}
use Rattle.qkd_base.specs.Lane.{lane_eq}
use Rattle.qkd_base.specs.declared.lane.Lane.{Lane}
use Rattle.net_model.specs.declared.record.Record.{Record}
use Rattle.net_model.specs.declared.record.Record.TheVariants.{Block, Lease, Learned, Acked, Handed, Closed, Bare}
use Rattle.net_model.specs.declared.fact.Fact.{Fact}
use Rattle.net_model.specs.Table.{name_of, fact_at}
use Rattle.net_model.specs.Site.{Site, outgoing_lane}
use Rattle.net_model.specs.World.{Durable}
use Rattle.net_model.specs.Records.{apply_record, replay, block_taken}
use Rattle.net_model.specs.Doubt.{MayApply, MayReplay}
use Rattle.law_base.proofs.Base.{lane_eq_from}
use Rattle.law_base.proofs.Tables.{learned_keeps, learned_cases}
use Rattle.law_base.proofs.Grow.{Grows, KnownGrows}
use Rattle.law_base.proofs.Knowing.{known_with_grows}

pub record HasGrown (a b : Durable) : Type 0 where
  pub facts : Grows a.facts b.facts
  pub known : KnownGrows a.known b.known

taken_grows : (l : Lane) (d : Durable) → HasGrown d (block_taken l d)
unfolding block_taken
taken_grows l d = record { facts = λ n f h. h; known = λ u n h. h }

-- Each single record adds facts and knowledge, and removes none.
pub apply_grows : (s : Site) (v : ℕ) (r : Record) (d : Durable) → HasGrown d (apply_record s v r d)
unfolding apply_record
apply_grows s v (Block link number bytes) d = taken_grows (outgoing_lane s v link) d
apply_grows s v (Lease l end) d = record { facts = λ n f h. h; known = λ u n h. h }
apply_grows s v (Learned f) d = record { facts = λ n g h. learned_keeps d.facts f n g h; known = known_with_grows d.known v (name_of f) }
apply_grows s v (Acked n) d = record { facts = λ n f h. h; known = λ u n h. h }
apply_grows s v (Handed n sae) d = record { facts = λ n f h. h; known = λ u n h. h }
apply_grows s v (Closed n sae) d = record { facts = λ n f h. h; known = λ u n h. h }
apply_grows s v (Bare f) d = record { facts = λ n g h. learned_keeps d.facts f n g h; known = known_with_grows d.known v (name_of f) }

pub replay_grows : (s : Site) (v : ℕ) (rs : List Record) (d : Durable) → HasGrown d (replay s v rs d)
unfolding replay
replay_grows s v [] d = record { facts = λ n f h. h; known = λ u n h. h }
replay_grows s v (r ∷ rs) d =
    let one = apply_grows s v r d in
    let rest = replay_grows s v rs (apply_record s v r d) in
    record { facts = λ n f h. rest.facts n f (one.facts n f h); known = λ u n h. rest.known u n (one.known u n h) }

-- No end of a link has fewer blocks of bytes than before.
abbrev pub HasMore : Durable → Durable → Type 0
HasMore a b = (l : Lane) → a.blocks l ≤ b.blocks l

taken_more : (k : Lane) (d : Durable) → HasMore d (block_taken k d)
unfolding block_taken
taken_more k d l = elim (lane_eq l k) as (λ t. lane_eq l k ≡ t → d.blocks l ≤ (if t then d.blocks k + 1 else d.blocks l)) [
  | true ↦ λ e. let same = ap d.blocks (lane_eq_from l k e) in omega (arith, same)
  | false ↦ λ e. omega arith
] refl

apply_more_blocks : (s : Site) (v : ℕ) (r : Record) (d : Durable) → HasMore d (apply_record s v r d)
unfolding apply_record
apply_more_blocks s v (Block link number bytes) d = taken_more (outgoing_lane s v link) d
apply_more_blocks s v (Lease l end) d = λ k. omega arith
apply_more_blocks s v (Learned f) d = λ k. omega arith
apply_more_blocks s v (Acked n) d = λ k. omega arith
apply_more_blocks s v (Handed n sae) d = λ k. omega arith
apply_more_blocks s v (Closed n sae) d = λ k. omega arith
apply_more_blocks s v (Bare f) d = λ k. omega arith

pub replay_more_blocks : (s : Site) (v : ℕ) (rs : List Record) (d : Durable) → HasMore d (replay s v rs d)
unfolding replay
replay_more_blocks s v [] d = λ k. omega arith
replay_more_blocks s v (r ∷ rs) d =
    let one = apply_more_blocks s v r d in
    let rest = replay_more_blocks s v rs (apply_record s v r d) in
    λ l. let a = one l in let b = rest l in omega (arith, a, b)

-- Each end of a link has at most 1,024 blocks of bytes.
abbrev pub AreFew : Durable → Type 0
AreFew d = (l : Lane) → d.blocks l ≤ 1024

taken_few : (k : Lane) (d : Durable) → d.blocks k < 1024 → AreFew d → AreFew (block_taken k d)
unfolding block_taken
taken_few k d below few l = elim (lane_eq l k) as (λ t. (if t then d.blocks k + 1 else d.blocks l) ≤ 1024) [ true ↦ omega arith | false ↦ few l ]

apply_few : (s : Site) (v : ℕ) (r : Record) (d : Durable) → MayApply s d v r → AreFew d → AreFew (apply_record s v r d)
unfolding apply_record
apply_few s v (Block link number bytes) d m few = taken_few (outgoing_lane s v link) d (subst (λ (n : ℕ). n < 1024) m.1 m.2) few
apply_few s v (Lease l end) d m few = few
apply_few s v (Learned f) d m few = few
apply_few s v (Acked n) d m few = few
apply_few s v (Handed n sae) d m few = few
apply_few s v (Closed n sae) d m few = few
apply_few s v (Bare f) d m few = absurd m

pub replay_few : (s : Site) (v : ℕ) (rs : List Record) (d : Durable) → MayReplay s d v rs → AreFew d → AreFew (replay s v rs d)
unfolding replay
replay_few s v [] d m few = few
replay_few s v (r ∷ rs) d m few = replay_few s v rs (apply_record s v r d) m.1 (apply_few s v r d m.0 few)

-- A fact in the table after a batch was in the table before, or is in the batch.

pub taken_facts : (l : Lane) (d : Durable) → (block_taken l d).facts ≡ d.facts
unfolding block_taken
taken_facts l d = refl

pub apply_cases : (s : Site) (v : ℕ) (r : Record) (d : Durable) → MayApply s d v r → (n : Name) (f : Fact) → fact_at (apply_record s v r d).facts n ≡ Some f →
    (fact_at d.facts n ≡ Some f) ⊎ (r ≡ Learned f)
unfolding apply_record
apply_cases s v (Block link number bytes) d m n f h = inl (ap (λ (facts : List Fact). fact_at facts n) (sym (taken_facts (outgoing_lane s v link) d)) ∙ h)
apply_cases s v (Lease l end) d m n f h = inl h
apply_cases s v (Learned g) d m n f h = elim (learned_cases d.facts g n f h) [ inl old ↦ inl old | inr (at, is) ↦ inr (ap Learned (sym is)) ]
apply_cases s v (Acked k) d m n f h = inl h
apply_cases s v (Handed k sae) d m n f h = inl h
apply_cases s v (Closed k sae) d m n f h = inl h
apply_cases s v (Bare g) d m n f h = absurd m

pub replay_cases : (s : Site) (v : ℕ) (rs : List Record) (d : Durable) → MayReplay s d v rs → (n : Name) (f : Fact) → fact_at (replay s v rs d).facts n ≡ Some f →
    (fact_at d.facts n ≡ Some f) ⊎ ((k : ℕ) × (slice_get rs k ≡ Some (Learned f)))
unfolding replay
replay_cases s v [] d m n f h = inl h
replay_cases s v (r ∷ rs) d m n f h = elim (replay_cases s v rs (apply_record s v r d) m.1 n f h) [
  | inl here ↦ elim (apply_cases s v r d m.0 n f here) [ inl old ↦ inl old | inr is ↦ inr (0, ap Some is) ]
  | inr (k, at) ↦ inr (suc k, at)
]
