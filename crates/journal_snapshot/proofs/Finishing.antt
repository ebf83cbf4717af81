-- A checkpoint from its first call to its last.
use Rattle.std.proofs.Common.{◌≡◌, ◌≤◌, ◌<◌, inl, inr, ℕ, ◌+◌, ◌-◌, ◌^◌, min, Bool, true, IsTrue, List, [], ◌∷◌, ◌++◌, length, replicate, refl, sym, ◌∙◌, ap, subst, arith}
use Rattle.std.specs.Prelude.{nat_lt, if◌then◌else◌, Result, Ok, Err, IfOk}
use Rattle.std.proofs.lemmas.Bool.{cases_Bool}
use Rattle.std.proofs.lemmas.Bool.Decides.{nat_tests}
use Rattle.net_model.specs.World.{Journal}
use Rattle.net_model.specs.Journal.{checkpoint_place, checkpointed}
use Rattle.disk_model.specs.Allowance.{after_room}
use Rattle.disk_model.specs.Images.{Only, StandsStill, AtEachMoment}
use Rattle.disk_model.specs.declared.allowance.Allowance.{Allowance}
use Rattle.disk_model.proofs.Moments.{started, stands, joined, weaker}
use Rattle.range_journal.specs.Batches.{spelled, length_of}
use Rattle.journal_snapshot.specs.declared.area.Area.{Area}
use Rattle.journal_snapshot.specs.declared.area.Area.TheVariants.{Header, Field, First, Second}
use Rattle.journal_snapshot.specs.declared.live.Live.{Live}
use Rattle.journal_snapshot.specs.declared.snapshots.SnapRefused.{SnapRefused}
use Rattle.journal_snapshot.specs.Layout.{next_area, is_moved, has_open_mark}
use Rattle.journal_snapshot.specs.Standing.{IsKept}
use Rattle.journal_snapshot.specs.Snapshots.{SnapshotForm, journal_of, need_of, fits_in}
use Rattle.journal_snapshot.specs.Checkpoint.{HasRoom, IsDraft}
use Rattle.journal_snapshot.specs.Refused.{IsFinished}
use Rattle.journal_snapshot.proofs.Areas.{area_long, need_is, block_long}
use Rattle.journal_snapshot.proofs.Checkpoints.{Results, results}
use Rattle.journal_snapshot.proofs.Needs.{draft_is, fits_parts, place_fifty}

pub begins_before : (j : Journal) (need place size at : ℕ) → place ≡ checkpoint_place j need → at ≡ (if nat_lt size 50 then size else place) → at ≤ place
begins_before j need place size at place_is at_is = elim (cases_Bool (nat_lt size 50)) [
  | inl few ↦
      let lt : size < 50 = grind (arith, nat_tests) in
      let at_size : at ≡ size = at_is ∙ ap (λ (b : Bool). if b then size else place) few in
      omega (arith, at_size, lt, place_is, place_fifty j need)
  | inr many ↦ let at_place : at ≡ place = at_is ∙ ap (λ (b : Bool). if b then size else place) many in omega (arith, at_place)
]

pub room_for : (new old : Allowance) (n end octets : ℕ) → new ≡ after_room n old → end ≤ n → octets + 18 ≤ n → HasRoom new end octets
room_for new old n end octets is le more = record {
  granted = subst (λ (a : Allowance). IsTrue a.granted) (sym is) refl;
  reach = subst (λ (a : Allowance). end ≤ a.reach) (sym is) (omega (arith, le));
  left = subst (λ (a : Allowance). octets + 18 ≤ a.left) (sym is) (omega (arith, more));
  used = subst (λ (a : Allowance). a.used ≤ 3) (sym is) (omega arith);
}

-- A checkpoint that fits needs fewer than 2^64 octets, so the computed need is exact.
module _ (j : Journal) (given : List (List ℕ)) (need place : ℕ) (fits : fits_in j (need_of given) ≡ true) (need_now : need ≡ min (need_of given) (2 ^ 64 - 1)) (place_is : place ≡ checkpoint_place j need) where
  pub need_whole : need ≡ need_of given
  need_whole = omega (arith, need_now, (fits_parts j (need_of given) fits).0)

  pub place_whole : place ≡ checkpoint_place j (need_of given)
  place_whole = place_is ∙ ap (λ (n : ℕ). checkpoint_place j n) need_whole

  pub within : place + need ≤ 2 ^ 25
  within = omega (arith, place_whole, need_whole, (fits_parts j (need_of given) fits).0)

  module _ (live : Live) (batches more : List (List ℕ)) (c : List ℕ) (images : List ℕ → Type 0) (older : Bool) (at size : ℕ) (block : List ℕ)
      (j_is : j ≡ record { length' = length_of live.start batches; start = live.start; generation = live.generation; moved = is_moved live.area; version = live.version })
      (size_is : size ≡ j.length') (at_is : at ≡ (if nat_lt size 50 then size else place)) (more_is : more ≡ given) (block_is : block ≡ replicate (place - at) 0 ++ (spelled given ++ 0 ∷ [])) where
    pub draft_now : IsDraft live batches more at place block
    draft_now =
        draft_is live batches more size need place at block j j_is (size_is ∙ ap (λ (k : Journal). k.length') j_is) (need_whole ∙ ap need_of (sym more_is)) place_is at_is within
        (block_is ∙ ap (λ (l : List (List ℕ)). replicate (place - at) 0 ++ (spelled l ++ 0 ∷ [])) (sym more_is))

    pub results_now : IsKept live batches c images → has_open_mark c live.area ≡ older → Results c live batches more older at place block
    results_now kept mark =
        results c live batches more images older at place block kept mark draft_now
        (subst (λ (k : Journal). k.generation < 2 ^ 64 - 1) j_is (fits_parts j (need_of given) fits).1)

    pub room_now : (new old : Allowance) → new ≡ after_room (place + need_of given + 18) old → HasRoom new (at + length block) (length block)
    room_now new old is =
        let size_of = block_long (place - at) given block block_is in
        room_for new old (place + need_of given + 18) (at + length block) (length block) is (omega (arith, size_of, draft_now.before)) (omega (arith, size_of, draft_now.before))

moved_next : (a : Area) → is_moved (next_area a) ≡ true
moved_next Header = refl
moved_next Field = refl
moved_next First = refl
moved_next Second = refl

-- the model's journal after the checkpoint
pub journal_after : {K : Type 0} (r : Result (SnapshotForm K) (SnapRefused K)) (j : Journal) (live : Live) (batches more : List (List ℕ)) (place : ℕ)
    → j ≡ record { length' = length_of live.start batches; start = live.start; generation = live.generation; moved = is_moved live.area; version = live.version } → place ≡ checkpoint_place j (need_of more)
    → IsFinished live more place r → IfOk r (λ new. journal_of new ≡ checkpointed j (need_of more))
unfolding checkpointed
journal_after (Ok new) j live batches more place j_is place_is f =
    let end : length_of place more ≡ checkpoint_place j (need_of more) + need_of more = omega (arith, place_is, area_long more, need_is more) in
    let is_now : journal_of new ≡ record { length' = length_of place more; start = place; generation = if is_moved live.area then live.generation + 1 else 0; moved = is_moved (next_area live.area); version = 2 } =
    λ i. record { length' = length_of (f.0 i).start (f.1 i); start = (f.0 i).start; generation = (f.0 i).generation; moved = is_moved (f.0 i).area; version = (f.0 i).version } in
    let kept : Journal → ℕ = λ k. if k.moved then k.generation + 1 else 0 in
    let same : kept j ≡ (if is_moved live.area then live.generation + 1 else 0) = ap kept j_is in
    let moved = moved_next live.area in
    is_now ∙ (λ i. record { length' = end i; start = place_is i; generation = sym same i; moved = moved i; version = 2 })
journal_after (Err e) j live batches more place j_is place_is f = tt

-- a disk for which only memory was allocated
module _ {D : Type 0} (is_honest : D → Bool) (content : D → List ℕ) (moment : D → ℕ) (image : D → ℕ → List ℕ → Type 0) (old mid : D) (still : StandsStill (moment old) (moment mid) (image old) (image mid)) where
  pub still_only : content mid ≡ content old → Only (content old) (image old (moment old)) → Only (content mid) (image mid (moment mid))
  still_only same only i im = only i ((still.stays (moment old) i (omega arith)).0 (subst (λ (n : ℕ). image mid n i) still.same im)) ∙ sym same

  module _ (P : List ℕ → Type 0) (only : IsTrue (is_honest old) → Only (content old) (image old (moment old))) (at_first : IsTrue (is_honest old) → P (content old)) where
    pub first_moments : AtEachMoment moment image old mid (λ i. IsTrue (is_honest old) → P i)
    first_moments =
        stands moment image old old mid (λ i. IsTrue (is_honest old) → P i) (started moment image old (λ i. IsTrue (is_honest old) → P i) (λ i now h. subst P (sym (only h i now)) (at_first h))) still

    pub all_moments : (new : D) (Q : List ℕ → Type 0) → is_honest mid ≡ is_honest old → ((i : List ℕ) → IsTrue (is_honest old) → Q i → P i) → AtEachMoment moment image mid new (λ i. IsTrue (is_honest mid) → Q i)
        → AtEachMoment moment image old new (λ i. IsTrue (is_honest old) → P i)
    all_moments new Q honest implies run =
        joined moment image old mid new (λ i. IsTrue (is_honest old) → P i) first_moments
        (weaker moment image mid new _ (λ i. IsTrue (is_honest old) → P i) run (λ i q h. implies i h (q (subst (λ (b : Bool). IsTrue b) (sym honest) h))))
