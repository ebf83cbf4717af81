-- Each byte of a lane belongs to at most one frame.
use Rattle.std.proofs.Common.{◌≡◌, ℕ, zero, suc, ◌+◌, ◌-◌, ◌<◌, ◌≤◌, true, false, ◌&&◌, List, [], ◌∷◌, length, refl, sym, ◌∙◌, ap, arith, Option, Some, None, inl, inr}
use Rattle.std.specs.Prelude.{◌==◌, nat_lt, nat_le, slice_get, if◌then◌else◌}
use Rattle.std.proofs.lemmas.Bool.Decides.{nat_tests}
use Rattle.std.proofs.lemmas.Bool.{cases_lt, lt-ltb}
use Rattle.std.proofs.lemmas.Option.{slice_get_within}
use Rattle.net_model.specs.declared.fact.Fact.{Fact}
use Rattle.net_model.specs.Item.{need}
use Rattle.net_model.specs.World.{Allocation, Transmission, Owner, HashKey, Frame, Burnt}
use Rattle.net_model.specs.Ownership.{is_frame, is_key, covers, IsOwned, HasRoom}
use Rattle.net_model.specs.Handle.{frame_at}
use Rattle.law_base.proofs.Base.{eq_from, eq_same, and_both}

is_of : (j : ℕ) (o : Option Owner) → is_frame j o ≡ true → o ≡ Some (Frame j)
is_of j None h = cc
is_of j (Some HashKey) h = cc
is_of j (Some (Frame n)) h = ap (λ (k : ℕ). Some (Frame k)) (eq_from n j h)
is_of j (Some Burnt) h = cc

in_range : (a n x : ℕ) → a ≤ x → x < a + n → (nat_le a x && nat_lt x (a + n)) ≡ true
in_range a n x h k = grind (arith, nat_tests)

module _ (facts : List Fact) (own : List Owner) (frames : List Allocation) (got : ℕ) (o : IsOwned facts own frames got) where
  -- If two frames cover the same byte, they are the same frame.
  pub one_byte : (i j x : ℕ) → covers facts (slice_get frames i) x ≡ true → covers facts (slice_get frames j) x ≡ true → i ≡ j
  one_byte i j x h k =
      let first : slice_get own x ≡ Some (Frame i) = is_of i (slice_get own x) (o.frame x i ∙ h) in
      let second : slice_get own x ≡ Some (Frame j) = is_of j (slice_get own x) (o.frame x j ∙ k) in
      let same : ◌≡◌ {A = Option Owner} (Some (Frame i)) (Some (Frame j)) = sym first ∙ second in
      cc

  -- The owner of each byte of a frame is that frame.
  its_own : (j x : ℕ) (a : Allocation) → slice_get frames j ≡ Some a → a.offset ≤ x → x < a.offset + need facts a.item → slice_get own x ≡ Some (Frame j)
  its_own j x a at low high =
      is_of j (slice_get own x) (o.frame x j ∙ ap (λ (c : Option Allocation). covers facts c x) at ∙ in_range a.offset (need facts a.item) x low high)

  covers_first : (j : ℕ) (a : Allocation) → slice_get frames j ≡ Some a → covers facts (slice_get frames j) a.offset ≡ true
  covers_first j a at = ap (λ (c : Option Allocation). covers facts c a.offset) at ∙ in_range a.offset (need facts a.item) a.offset (omega arith) (omega arith)

  -- Two frames with the same offset are the same frame.
  pub same_frame : (i j : ℕ) (a b : Allocation) → slice_get frames i ≡ Some a → slice_get frames j ≡ Some b → a.offset ≡ b.offset → i ≡ j
  same_frame i j a b at at' e =
      one_byte i j a.offset (covers_first i a at) (ap (covers facts (slice_get frames j)) e ∙ covers_first j b at')

  pub within_owned : (j : ℕ) (a : Allocation) → slice_get frames j ≡ Some a → a.offset + need facts a.item ≤ length own
  within_owned j a at =
      let pred : ℕ = a.offset + need facts a.item - 1 in
      let last = its_own j pred a at (omega arith) (omega arith) in
      let lt : pred < length own = slice_get_within own pred (Frame j) last in
      omega arith

  -- Every frame begins after the hash key.
  pub after_key : (unclaimed : List Transmission) (lease : ℕ) → HasRoom facts own unclaimed lease got → (j : ℕ) (a : Allocation) → slice_get frames j ≡ Some a → 8 ≤ a.offset
  after_key unclaimed lease r j a at = elim (cases_lt a.offset 8) [
    | inl lt ↦
        let mine : slice_get own a.offset ≡ Some (Frame j) = its_own j a.offset a at (omega arith) (omega arith) in
        let some : 0 < got = omega (arith, r.planned, r.leased, slice_get_within own a.offset (Frame j) mine) in
        let key : false ≡ (nat_lt a.offset 8 && nat_lt 0 got) = sym (ap is_key mine) ∙ o.key a.offset in
        let both : (nat_lt a.offset 8 && nat_lt 0 got) ≡ true = and_both _ _ (lt-ltb a.offset 8 lt) (lt-ltb 0 got some) in
        absurd (cc)
    | inr le ↦ le
  ]

  -- The first frame with a given offset.
  abbrev IsAt : List Allocation → ℕ → ℕ → Type 0
  IsAt fs offset j = (b : Allocation) × (slice_get fs j ≡ Some b) × (b.offset ≡ offset)

  at_head : (f : Allocation) (fs : List Allocation) (offset : ℕ) → ((f.offset == offset) ≡ false → IsAt fs offset (frame_at fs offset)) →
      IsAt (f ∷ fs) offset (frame_at (f ∷ fs) offset)
  at_head f fs offset rest =
      elim (f.offset == offset) as (λ t. (f.offset == offset) ≡ t → IsAt (f ∷ fs) offset (if t then 0 else suc (frame_at fs offset))) [
        | true ↦ λ e. (f, refl, eq_from f.offset offset e)
        | false ↦ λ e. rest e
      ] refl

  at_offset : (fs : List Allocation) (j : ℕ) (a : Allocation) → slice_get fs j ≡ Some a → IsAt fs a.offset (frame_at fs a.offset)
  at_offset [] j a h = cc
  at_offset (f ∷ fs) zero a h =
      let is : f ≡ a = cc in
      let same : (f.offset == a.offset) ≡ true = ap (λ (x : Allocation). f.offset == x.offset) (sym is) ∙ eq_same f.offset in
      at_head f fs a.offset (λ e. cc)
  at_offset (f ∷ fs) (suc j) a h = at_head f fs a.offset (λ e. at_offset fs j a h)

  pub frame_at_finds : (j : ℕ) (a : Allocation) → slice_get frames j ≡ Some a → frame_at frames a.offset ≡ j
  frame_at_finds j a h = let r = at_offset frames j a h in same_frame (frame_at frames a.offset) j r.0 a r.1 h r.2
