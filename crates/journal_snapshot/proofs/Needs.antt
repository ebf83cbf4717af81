-- Where a checkpoint is written, and whether it fits.
use Rattle.std.proofs.Common.{◌≡◌, ◌≤◌, ◌<◌, inl, inr, ℕ, ◌+◌, ◌-◌, ◌^◌, min, max, Bool, true, false, List, [], ◌∷◌, ◌++◌, length, take, get_or, replicate, refl, sym, ◌∙◌, ap, arith, append_assoc}
use Rattle.std.specs.Prelude.{nat_le, nat_lt, ◌&&◌, if◌then◌else◌}
use Rattle.std.specs.Int.{w32, to_be_bytes}
use Rattle.std.proofs.lemmas.Bool.{cases_lt, cases_Bool}
use Rattle.std.proofs.lemmas.Bool.Decides.{nat_tests}
use Rattle.std.proofs.lemmas.List.{take_more}
use Rattle.std.proofs.lemmas.List.Sums.{sum_by_more}
use Rattle.net_model.specs.World.{Journal}
use Rattle.net_model.specs.Journal.{checkpoint_place, journal_limit}
use Rattle.range_journal.specs.Batches.{spelled, length_of}
use Rattle.range_journal.proofs.Whole.{spelled_more}
use Rattle.journal_snapshot.specs.declared.live.Live.{Live}
use Rattle.journal_snapshot.specs.Layout.{is_moved}
use Rattle.journal_snapshot.specs.Snapshots.{need_of, fits_in}
use Rattle.journal_snapshot.specs.Checkpoint.{IsDraft}

pub place_before : (j : Journal) (n s : ℕ) (m r : Bool) → r ≡ (m && nat_le (50 + n) s) → m ≡ j.moved → s ≡ j.start → r ≡ true → 50 ≡ checkpoint_place j n
unfolding checkpoint_place
place_before j n s m r is moved start sure =
    let e : (j.moved && nat_le (50 + n) j.start) ≡ true = ap (λ (b : Bool). b && nat_le (50 + n) j.start) (sym moved) ∙ ap (λ (t : ℕ). m && nat_le (50 + n) t) (sym start) ∙ sym is ∙ sure in
    sym (ap (λ (b : Bool). if b then 50 else max j.length' 50) e)

pub place_behind : (j : Journal) (n s size out : ℕ) (m r : Bool) → r ≡ (m && nat_le (50 + n) s) → m ≡ j.moved → s ≡ j.start → r ≡ false → size ≡ j.length' → out ≡ max size 50 → out ≡ checkpoint_place j n
unfolding checkpoint_place
place_behind j n s size out m r is moved start isnt size_is out_is =
    let e : (j.moved && nat_le (50 + n) j.start) ≡ false = ap (λ (b : Bool). b && nat_le (50 + n) j.start) (sym moved) ∙ ap (λ (t : ℕ). m && nat_le (50 + n) t) (sym start) ∙ sym is ∙ isnt in
    out_is ∙ ap (λ (k : ℕ). max k 50) size_is ∙ sym (ap (λ (b : Bool). if b then 50 else max j.length' 50) e)

-- A need of 2^64 octets or more doesn't fit, and neither does the need capped at 2^64 - 1.
pub fits_is : (j : Journal) (n s place g : ℕ) (r : Bool) → s ≡ min n (2 ^ 64 - 1) → place ≡ checkpoint_place j s → g ≡ j.generation
    → r ≡ (nat_le (place + s) (2 ^ 25) && nat_lt g (2 ^ 64 - 1)) → r ≡ fits_in j n
fits_is j n s place g r s_is place_is g_is r_is = elim (cases_lt (2 ^ 64 - 1) n) [
  | inl more ↦
      let big : s ≡ 2 ^ 64 - 1 = omega (arith, s_is, more) in
      let out : nat_le (place + s) (2 ^ 25) ≡ false = grind (arith, nat_tests) in
      let too : nat_le (checkpoint_place j n + n) journal_limit ≡ false = grind (arith, nat_tests) in
      r_is ∙ ap (λ (b : Bool). b && nat_lt g (2 ^ 64 - 1)) out ∙ sym (ap (λ (b : Bool). b && nat_lt j.generation (2 ^ 64 - 1)) too)
  | inr few ↦
      let same : s ≡ n = omega (arith, s_is, few) in
      r_is
      ∙ ap (λ (p : ℕ). nat_le (p + s) (2 ^ 25) && nat_lt g (2 ^ 64 - 1)) place_is
      ∙ ap (λ (t : ℕ). nat_le (checkpoint_place j t + t) (2 ^ 25) && nat_lt g (2 ^ 64 - 1)) same
      ∙ ap (λ (t : ℕ). nat_le (checkpoint_place j n + n) (2 ^ 25) && nat_lt t (2 ^ 64 - 1)) g_is
]

-- The need with one more batch.
pub need_more : (batches : List (List ℕ)) (k a b c d : ℕ) (body : List ℕ) → k < length batches → a ≡ min (need_of (take k batches)) (2 ^ 64 - 1) → b ≡ min (a + 5) (2 ^ 64 - 1) → body ≡ get_or batches k body → d ≡ length body
    → c ≡ min (b + d) (2 ^ 64 - 1) → c ≡ min (need_of (take (k + 1) batches)) (2 ^ 64 - 1)
need_more batches k a b c d body lt a_is b_is body_is d_is c_is =
    omega (arith, a_is, b_is, c_is, d_is, sum_by_more (λ (x : List ℕ). 5 + length x) batches k body lt, ap length body_is)

-- The octets of an area with one more batch.
pub spell_more : (z : List ℕ) (batches : List (List ℕ)) (k : ℕ) (body old first second third : List ℕ) → k < length batches → body ≡ get_or batches k body → old ≡ z ++ spelled (take k batches) → first ≡ old ++ 1 ∷ []
    → second ≡ first ++ to_be_bytes w32 (length body) → third ≡ second ++ body → third ≡ z ++ spelled (take (k + 1) batches)
spell_more z batches k body old first second third lt body_is old_is first_is second_is third_is =
    let head = to_be_bytes w32 (length body) in
    let before = spelled (take k batches) in
    let more : take (k + 1) batches ≡ take k batches ++ body ∷ [] = take_more batches k body lt ∙ ap (λ (x : List ℕ). take k batches ++ x ∷ []) (sym body_is) in
    let all : third ≡ (old ++ 1 ∷ []) ++ head ++ body = third_is ∙ ap (λ (l : List ℕ). l ++ body) second_is ∙ ap (λ (l : List ℕ). l ++ head ++ body) first_is in
    all
    ∙ ap (λ (l : List ℕ). l ++ body) (append_assoc old (1 ∷ []) head)
    ∙ append_assoc old (1 ∷ head) body
    ∙ ap (λ (l : List ℕ). l ++ (1 ∷ head ++ body)) old_is
    ∙ append_assoc z before (1 ∷ head ++ body)
    ∙ ap (λ (l : List ℕ). z ++ l) (sym (spelled_more (take k batches) body))
    ∙ ap (λ (l : List (List ℕ)). z ++ spelled l) (sym more)

-- the area to which a checkpoint is written
pub draft_is : (live : Live) (batches more : List (List ℕ)) (size need place at : ℕ) (block : List ℕ) (j : Journal) → j ≡ record { length' = length_of live.start batches; start = live.start; generation = live.generation; moved = is_moved live.area; version = live.version }
    → size ≡ length_of live.start batches → need ≡ need_of more → place ≡ checkpoint_place j need → at ≡ (if nat_lt size 50 then size else place) → place + need ≤ 2 ^ 25
    → block ≡ replicate (place - at) 0 ++ (spelled more ++ 0 ∷ []) → IsDraft live batches more at place block
unfolding checkpoint_place
draft_is live batches more size need place at block j j_is size_is need_is place_is at_is limit is = elim (cases_Bool (is_moved live.area && nat_le (50 + need) live.start)) [
  | inl before ↦
      let moved : is_moved live.area ≡ true = first_of_both (is_moved live.area) (nat_le (50 + need) live.start) before in
      let room : nat_le (50 + need) live.start ≡ true = second_of_both (is_moved live.area) (nat_le (50 + need) live.start) before in
      let le : 50 + need ≤ live.start = grind (arith, nat_tests) in
      let fifty : place ≡ 50 = where_is ∙ ap (λ (b : Bool). if b then 50 else max (length_of live.start batches) 50) before in
      let long : nat_lt size 50 ≡ false = let over : 50 ≤ size = omega (arith, size_is, le) in grind (arith, nat_tests) in
      let at_place : at ≡ place = at_is ∙ ap (λ (b : Bool). if b then size else place) long in
      record {
        before = omega (arith, at_place);
        fifty = omega (arith, fifty);
        limit = omega (arith, limit, need_is);
        apart = inl (moved, omega (arith, at_place, fifty), omega (arith, fifty, le, need_is));
        is = is;
      }
  | inr behind ↦
      let max_is : place ≡ max (length_of live.start batches) 50 = where_is ∙ ap (λ (b : Bool). if b then 50 else max (length_of live.start batches) 50) behind in
      elim (cases_lt size 50) [
        | inl few ↦
            let short : nat_lt size 50 ≡ true = grind (arith, nat_tests) in
            let at_size : at ≡ size = at_is ∙ ap (λ (b : Bool). if b then size else place) short in
            record {
              before = omega (arith, at_size, max_is, size_is);
              fifty = omega (arith, max_is);
              limit = omega (arith, limit, need_is);
              apart = inr (at_size ∙ size_is);
              is = is;
            }
        | inr many ↦
            let long : nat_lt size 50 ≡ false = grind (arith, nat_tests) in
            let at_place : at ≡ place = at_is ∙ ap (λ (b : Bool). if b then size else place) long in
            record {
              before = omega (arith, at_place);
              fifty = omega (arith, max_is);
              limit = omega (arith, limit, need_is);
              apart = inr (omega (arith, at_place, max_is, size_is, many));
              is = is;
            }
      ]
]
  where
    first_of_both : (a b : Bool) → (a && b) ≡ true → a ≡ true
    first_of_both true b e = refl
    first_of_both false b e = absurd cc

    second_of_both : (a b : Bool) → (a && b) ≡ true → b ≡ true
    second_of_both true b e = e
    second_of_both false b e = absurd cc

    where_is : place ≡ (if (is_moved live.area && nat_le (50 + need) live.start) then 50 else max (length_of live.start batches) 50)
    where_is = place_is ∙ ap (λ (k : Journal). checkpoint_place k need) j_is

-- What fits lies within the limit, and the next generation is in range.
pub fits_parts : (j : Journal) (n : ℕ) → fits_in j n ≡ true → (checkpoint_place j n + n ≤ 2 ^ 25) × (j.generation < 2 ^ 64 - 1)
fits_parts j n e =
    let first : nat_le (checkpoint_place j n + n) journal_limit ≡ true = front (nat_le (checkpoint_place j n + n) journal_limit) (nat_lt j.generation (2 ^ 64 - 1)) e in
    let second : nat_lt j.generation (2 ^ 64 - 1) ≡ true = back (nat_le (checkpoint_place j n + n) journal_limit) (nat_lt j.generation (2 ^ 64 - 1)) e in
    (grind (arith, nat_tests), grind (arith, nat_tests))
  where
    front : (a b : Bool) → (a && b) ≡ true → a ≡ true
    front true b e = refl
    front false b e = absurd cc

    back : (a b : Bool) → (a && b) ≡ true → b ≡ true
    back true b e = e
    back false b e = absurd cc

pub place_fifty : (j : Journal) (n : ℕ) → 50 ≤ checkpoint_place j n
unfolding checkpoint_place
place_fifty j n = elim (cases_Bool (j.moved && nat_le (50 + n) j.start)) [
  | inl before ↦ let is : checkpoint_place j n ≡ 50 = ap (λ (b : Bool). if b then 50 else max j.length' 50) before in omega (arith, is)
  | inr behind ↦ let is : checkpoint_place j n ≡ max j.length' 50 = ap (λ (b : Bool). if b then 50 else max j.length' 50) behind in omega (arith, is)
]
