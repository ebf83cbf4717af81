-- A lane takes the blocks that are kept of it, one by one.
use Rattle.std.proofs.Common.{◌≡◌, ℕ, zero, suc, ◌+◌, ◌-◌, ◌*◌, ◌<◌, ◌≤◌, List, [], ◌∷◌, ◌++◌, length, take, refl, sym, ap, subst, ◌∙◌, arith, add-one, append-nil, length-append, Option, Some, None}
use Rattle.std.specs.Prelude.{◌==◌, slice_get, slice_set}
use Rattle.std.specs.List.{AllByRecursion, flat_map}
use Rattle.std.proofs.lemmas.List.Concat.{flat_map-append}
use Rattle.qkd_base.specs.declared.lane.Lane.{Lane}
use Rattle.lane_sender.specs.Lane.{LaneForm, burnt_to}
use Rattle.law_base.proofs.Base.{eq_from, not_false, when_false}
use Rattle.pad_ledger.specs.Ledger.{Ledger, received_more}
use Rattle.world_state.proofs.Others.{each_placed, placed_length}
use Rattle.net_world.specs.Laid.{without_bytes}
use Rattle.net_world.specs.Kept.{going_on, MayGoOn, WentOn}
use Rattle.net_world.proofs.Lists.{at_take}
use Rattle.net_world.specs.declared.kept_lane.KeptLane.{KeptLane}

abbrev key_of : ℕ → ℕ
key_of zero = 0
key_of (suc n) = 8

abbrev filled : ℕ → Ledger
filled n = record { used = key_of n; end = key_of n; received = 1024 * n; burnt = 0 }

-- the lane after its first n blocks
abbrev pub lane_of : {X : Type 0} → Lane → X → List (List ℕ) → ℕ → LaneForm X
lane_of l wire bs n = record { lane = l; bytes = flat_map (λ b. b) (take n bs); ledger = filled n; wire = wire }

filled_more : (n : ℕ) → received_more (filled n) 1024 ≡ filled (n + 1)
filled_more zero = refl
filled_more (suc n) =
    when_false ((1024 * suc n) == 0) _ _ (not_false ((1024 * suc n) == 0) (λ e. let is = eq_from (1024 * suc n) 0 e in omega (arith, is)))
    ∙ ap (λ (k : ℕ). record { used = 8; end = 8; received = k; burnt = 0 }) (more n) ∙ ap filled (sym (add-one (suc n)))
  where
    more : (n : ℕ) → 1024 * suc n + 1024 ≡ 1024 * suc (suc n)
    more n = omega arith

next_block : (n : ℕ) (bs : List (List ℕ)) (b : List ℕ) → slice_get bs n ≡ Some b → take (suc n) bs ≡ take n bs ++ b ∷ []
next_block n [] b at = absurd (cc at)
next_block zero (c ∷ bs) b at = cc
next_block (suc n) (c ∷ bs) b at = ap (λ (xs : List (List ℕ)). c ∷ xs) (next_block n bs b at)

bytes_more : (n : ℕ) (bs : List (List ℕ)) (b : List ℕ) → slice_get bs n ≡ Some b → flat_map (λ b. b) (take n bs) ++ b ≡ flat_map (λ b. b) (take (n + 1) bs)
bytes_more n bs b at =
    ap (λ (xs : List ℕ). flat_map (λ b. b) (take n bs) ++ xs) (sym (append-nil b)) ∙ sym (flat_map-append (λ b. b) (take n bs) (b ∷ []))
    ∙ sym (ap (λ (xs : List (List ℕ)). flat_map (λ b. b) xs) (ap (λ (k : ℕ). take k bs) (add-one n) ∙ next_block n bs b at))

pub one_block_more : {X : Type 0} (l : Lane) (wire : X) (bs : List (List ℕ)) (n : ℕ) (b : List ℕ) (side next : LaneForm X) → slice_get bs n ≡ Some b → side ≡ lane_of l wire bs n →
    next ≡ record side { bytes = side.bytes ++ b; ledger = received_more side.ledger 1024 } → next ≡ lane_of l wire bs (n + 1)
one_block_more {X} l wire bs n b side next at was is =
    is ∙ ap (λ (s : LaneForm X). record s { bytes = s.bytes ++ b; ledger = received_more s.ledger 1024 }) was
    ∙ ap (λ (x : List ℕ). record { lane = l; bytes = x; ledger = received_more (filled n) 1024; wire = wire }) (bytes_more n bs b at)
    ∙ ap (λ (x : Ledger). record { lane = l; bytes = flat_map (λ b. b) (take (n + 1) bs); ledger = x; wire = wire }) (filled_more n)

full : (bs : List (List ℕ)) → AllByRecursion (λ b. length b ≡ 1024) bs → (n : ℕ) → n ≤ length bs → length (flat_map (λ b. b) (take n bs)) ≡ 1024 * n
full bs whole zero low = refl
full [] whole (suc n) low = absurd (omega (arith, low))
full (b ∷ bs) whole (suc n) low =
    let rest : length (flat_map (λ b. b) (take n bs)) ≡ 1024 * n = full bs whole.1 n (omega (arith, low)) in
    omega (arith, length-append b (flat_map (λ b. b) (take n bs)), whole.0, rest)

pub lane_full : {X : Type 0} (l : Lane) (wire : X) (k : KeptLane) (n : ℕ) (side : LaneForm X) → MayGoOn k → n ≤ length k.blocks.items → side ≡ lane_of l wire k.blocks.items n → length side.bytes ≡ 1024 * n
lane_full {X} l wire k n side may low was = ap (λ (s : LaneForm X). length s.bytes) was ∙ full k.blocks.items may.whole n low

key_low : (n lease : ℕ) → (0 < n → 8 ≤ lease) → key_of n ≤ lease
key_low zero lease key = omega arith
key_low (suc n) lease key = key (omega arith)

pub end_low : {X : Type 0} (l : Lane) (wire : X) (k : KeptLane) (n : ℕ) (side : LaneForm X) → MayGoOn k → n ≡ length k.blocks.items → side ≡ lane_of l wire k.blocks.items n → side.ledger.end ≤ k.lease
end_low {X} l wire k n side may whole was =
    let end : side.ledger.end ≡ key_of n = ap (λ (s : LaneForm X). s.ledger.end) was in
    let low : key_of n ≤ k.lease = key_low n k.lease (λ some. may.key (omega (arith, some, whole))) in
    omega (arith, end, low)

all_taken : (bs : List (List ℕ)) → take (length bs) bs ≡ bs
all_taken [] = refl
all_taken (b ∷ bs) = ap (λ (xs : List (List ℕ)). b ∷ xs) (all_taken bs)

burnt_same : (n lease : ℕ) → lease ≤ 1024 * n → 0 + (lease - key_of n) ≡ lease - 8
burnt_same zero lease low = omega (arith, low)
burnt_same (suc n) lease low = omega arith

pub gone_on : {X : Type 0} (l : Lane) (wire : X) (k : KeptLane) (n : ℕ) (side next : LaneForm X) → MayGoOn k → n ≡ length k.blocks.items → side ≡ lane_of l wire k.blocks.items n →
    next ≡ record side { ledger = burnt_to k.lease side.ledger } → next ≡ going_on l (Some k) wire
gone_on {X} l wire k n side next may whole was is =
    is ∙ ap (λ (s : LaneForm X). record s { ledger = burnt_to k.lease s.ledger }) (was ∙ ap (lane_of l wire k.blocks.items) whole)
    ∙ ap (λ (x : List (List ℕ)). record { lane = l; bytes = flat_map (λ b. b) x; ledger = burnt_to k.lease (filled (length k.blocks.items)); wire = wire }) (all_taken k.blocks.items)
    ∙ ap (λ (x : ℕ). record { lane = l; bytes = flat_map (λ b. b) k.blocks.items; ledger = record { used = k.lease; end = k.lease; received = 1024 * length k.blocks.items; burnt = x }; wire = wire })
    (burnt_same (length k.blocks.items) k.lease may.leased)

-- ---- all lanes

past_taken : {A : Type 0} (n : ℕ) (xs : List A) → slice_get (take n xs) n ≡ None
past_taken zero xs = refl
past_taken (suc n) [] = refl
past_taken (suc n) (x ∷ xs) = past_taken n xs

other_taken : {A : Type 0} (n : ℕ) (xs : List A) (i : ℕ) → (i ≡ n → ⊥) → slice_get (take (suc n) xs) i ≡ slice_get (take n xs) i
other_taken zero [] i other = refl
other_taken (suc n) [] i other = refl
other_taken zero (x ∷ xs) zero other = absurd (other refl)
other_taken zero (x ∷ xs) (suc i) other = refl
other_taken (suc n) (x ∷ xs) zero other = refl
other_taken (suc n) (x ∷ xs) (suc i) other = other_taken n xs i (λ e. other (ap suc e))

take_all : {A : Type 0} (n : ℕ) (xs : List A) → length xs ≤ n → take n xs ≡ xs
take_all zero [] low = refl
take_all zero (x ∷ xs) low = absurd (omega (arith, low))
take_all (suc n) [] low = refl
take_all (suc n) (x ∷ xs) low = ap (λ ys. x ∷ ys) (take_all n xs (omega (arith, low)))

-- the lanes after the first n entries
pub record AreGoing {X : Type 0} (kept : List KeptLane) (old : List (LaneForm X)) (n : ℕ) (now : List (LaneForm X)) : Type 0 where
  pub sides : length now ≡ length old
  pub each : (place : ℕ) (side : LaneForm X) → slice_get now place ≡ Some side → WentOn (take n kept) old place side

module _ {X : Type 0} (kept : List KeptLane) (old : List (LaneForm X)) where
  pub none_going : ((place : ℕ) (side : LaneForm X) → slice_get old place ≡ Some side → side ≡ without_bytes side.lane side.wire) → AreGoing kept old 0 old
  none_going empty = record { sides = refl; each = λ place side at. record { before = side; at = at; is = empty place side at } }

  pub all_going : (n : ℕ) (now : List (LaneForm X)) → AreGoing kept old n now → length kept ≤ n → (place : ℕ) (side : LaneForm X) → slice_get now place ≡ Some side → WentOn kept old place side
  all_going n now a all place side at = subst (λ (ks : List KeptLane). WentOn ks old place side) (take_all n kept all) (a.each place side at)

  module _ (n : ℕ) (now : List (LaneForm X)) (a : AreGoing kept old n now) (side : LaneForm X) (at : slice_get now n ≡ Some side) where
    went : WentOn (take n kept) old n side
    went = a.each n side at

    before_it : side ≡ without_bytes went.before.lane went.before.wire
    before_it = went.is ∙ ap (λ (o : Option KeptLane). going_on went.before.lane o went.before.wire) (past_taken n kept)

    pub still_empty : side ≡ without_bytes side.lane side.wire
    still_empty = subst (λ (s : LaneForm X). s ≡ without_bytes s.lane s.wire) (sym before_it) refl

    same_before : (k : KeptLane) → going_on side.lane (Some k) side.wire ≡ going_on went.before.lane (Some k) went.before.wire
    same_before k = ap (λ (s : LaneForm X). going_on s.lane (Some k) s.wire) before_it

    taken_one : (k : KeptLane) → slice_get kept n ≡ Some k → Some k ≡ slice_get (take (suc n) kept) n
    taken_one k here = sym (at_take (suc n) kept n (omega arith) ∙ here)

    more_going : (k : KeptLane) (next : LaneForm X) (after : List (LaneForm X)) → slice_get kept n ≡ Some k → next ≡ going_on side.lane (Some k) side.wire → after ≡ slice_set now n next → AreGoing kept old (suc n) after
    more_going k next after here is put = record {
      sides = placed_length now after n next put ∙ a.sides;
      each = each_placed now after n next put (λ p y. WentOn (take (suc n) kept) old p y)
          (record { before = went.before; at = went.at; is = is ∙ same_before k ∙ ap (λ (o : Option KeptLane). going_on went.before.lane o went.before.wire) (taken_one k here) })
          (λ p y other stood. let w = a.each p y stood in
          record { before = w.before; at = w.at; is = w.is ∙ ap (λ (o : Option KeptLane). going_on w.before.lane o w.before.wire) (sym (other_taken n kept p other)) });
    }

    pub one_more_going : (k : KeptLane) (next : LaneForm X) (after : List (LaneForm X)) → slice_get kept n ≡ Some k → next ≡ going_on side.lane (Some k) side.wire → after ≡ slice_set now n next → AreGoing kept old (n + 1) after
    one_more_going k next after here is put = subst (λ (m : ℕ). AreGoing kept old m after) (sym (add-one n)) (more_going k next after here is put)
