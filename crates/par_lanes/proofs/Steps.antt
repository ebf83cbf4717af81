-- One frame is sent.
use Rattle.std.proofs.Common.{◌≡◌, ◌⊎◌, ℕ, ◌+◌, ◌-◌, true, false, List, [], ◌∷◌, length, set, slice_get, Some, eqb, refl, sym, ap, subst, ◌∙◌, arith, inl, inr, append-nil}
use Rattle.std.specs.List.{AllZip}
use Rattle.std.proofs.lemmas.Bool.Decides.{eqb_tells}
use Rattle.qkd_base.specs.Lane.{lane_place}
use Rattle.net_model.specs.declared.repeat.Repeat.{Repeat}
use Rattle.net_model.specs.Tick.{Emission, Again}
use Rattle.shared_objects.specs.declared.either.Either.{Either}
use Rattle.shared_objects.proofs.Zips.{was_at, new_at, other_at}
use Rattle.shared_objects.specs.Said.{Said, said_on}
use Rattle.lane_shares.specs.declared.share.Share.{Share}
use Rattle.lane_shares.specs.declared.shares.Shares.{Shares}
use Rattle.lane_shares.specs.declared.view.View.{View}
use Rattle.lane_shares.specs.Names.{knows as has, Fits as IsOne}
use Rattle.lane_shares.specs.Views.{with_amount, spent}
use Rattle.lane_sender.specs.Lane.{LaneForm}
use Rattle.par_lanes.specs.declared.ask.LaneAsk.{LaneAsk}
use Rattle.par_lanes.specs.declared.ask.LaneAnswer.{LaneAnswer}
use Rattle.par_lanes.specs.declared.emitted.Emitted.{Emitted}
use Rattle.par_lanes.specs.declared.frame_log.FrameLog.{FrameLog}
use Rattle.par_lanes.specs.Wants.{lane_for, is_at, bytes_for, bytes_at}
use Rattle.par_lanes.specs.Calls.{IsOf}
use Rattle.par_lanes.specs.Saying.{Goes}
use Rattle.par_lanes.specs.Emitting.{grant_at, AreLogged, MayEmit, HasEmitted}
use Rattle.par_lanes.proofs.Wanting.{is_here, sum_here, sum_past, turns_more, bytes_more}
use Rattle.par_lanes.proofs.Saying.{counted_one}

module _ (e : Emission) (k : ℕ) (home : lane_place (lane_for e) ≡ k) where
  on : is_at k e ≡ true
  on = subst (λ (n : ℕ). is_at n e ≡ true) home (is_here e)

  off_case : (i : ℕ) → (k ≡ i → ⊥) → ((eqb k i ≡ true) × (k ≡ i)) ⊎ ((eqb k i ≡ false) × (k ≡ i → ⊥)) → is_at i e ≡ false
  off_case i other (inl (b, same)) = absurd (other same)
  off_case i other (inr (b, apart)) = subst (λ (n : ℕ). eqb n i ≡ false) (sym home) b

  off : (i : ℕ) → (k ≡ i → ⊥) → is_at i e ≡ false
  off i other = off_case i other (eqb_tells k i)

  -- the grant for the frame
  module _ (granted : List Share) (s s' : Share) (there : slice_get granted k ≡ Some s) (less : has s' ≡ with_amount (has s) ((has s).amount - bytes_for e)) where
    grant_here : grant_at k (set granted k s') ≡ with_amount (grant_at k granted) ((grant_at k granted).amount - bytes_at k (e ∷ []))
    grant_here =
        let was : grant_at k granted ≡ has s = was_at has spent granted k s there in
        let bytes : bytes_at k (e ∷ []) ≡ bytes_for e = let sum = sum_here bytes_for k e [] on in omega (arith, sum) in
        new_at has spent granted k s s' there ∙ less ∙ ap (λ (v : View). with_amount v (v.amount - bytes_for e)) (sym was) ∙ ap (λ (n : ℕ). with_amount (grant_at k granted) ((grant_at k granted).amount - n)) (sym bytes)

    grant_case : (i : ℕ) → ((eqb k i ≡ true) × (k ≡ i)) ⊎ ((eqb k i ≡ false) × (k ≡ i → ⊥)) → grant_at i (set granted k s') ≡ with_amount (grant_at i granted) ((grant_at i granted).amount - bytes_at i (e ∷ []))
    grant_case i (inl (b, same)) = subst (λ (j : ℕ). grant_at j (set granted k s') ≡ with_amount (grant_at j granted) ((grant_at j granted).amount - bytes_at j (e ∷ []))) same grant_here
    grant_case i (inr (b, other)) =
        let none : bytes_at i (e ∷ []) ≡ 0 = sum_past bytes_for i e [] (off i other) in
        let all : (grant_at i granted).amount ≡ (grant_at i granted).amount - bytes_at i (e ∷ []) = omega (arith, none) in
        other_at has spent granted k i s' other ∙ ap (with_amount (grant_at i granted)) all

    pub grant_less : (i : ℕ) → grant_at i (set granted k s') ≡ with_amount (grant_at i granted) ((grant_at i granted).amount - bytes_at i (e ∷ []))
    grant_less i = grant_case i (eqb_tells k i)

-- A repeat takes no bytes.
module _ (r : Repeat) (granted : List Share) where
  kept_case : (i : ℕ) → ((eqb (lane_place r.lane) i ≡ true) × (lane_place r.lane ≡ i)) ⊎ ((eqb (lane_place r.lane) i ≡ false) × (lane_place r.lane ≡ i → ⊥)) → bytes_at i (Again r ∷ []) ≡ 0
  kept_case i (inl (b, same)) = sum_here bytes_for i (Again r) [] b
  kept_case i (inr (b, other)) = sum_past bytes_for i (Again r) [] b

  pub grant_kept : (i : ℕ) → grant_at i granted ≡ with_amount (grant_at i granted) ((grant_at i granted).amount - bytes_at i (Again r ∷ []))
  grant_kept i =
      let none : bytes_at i (Again r ∷ []) ≡ 0 = kept_case i (eqb_tells (lane_place r.lane) i) in
      let all : (grant_at i granted).amount ≡ (grant_at i granted).amount - bytes_at i (Again r ∷ []) = omega (arith, none) in
      ap (with_amount (grant_at i granted)) all

module _ {M D X Q A : Type 0} (machines : List (Either M D)) (side : D → LaneForm X) (first : ℕ) (went : List (Said (Either Q LaneAsk) (Either A LaneAnswer)) → Type 0) (e : Emission) (out : Emitted)
    (goes : Goes went machines side (first + lane_place (lane_for e)) e out) where
  pub emitted_one : (line : ℕ) (granted granted' : List Share) (log log' : FrameLog) → IsOf line e out → ((i : ℕ) → grant_at i granted' ≡ with_amount (grant_at i granted) ((grant_at i granted).amount - bytes_at i (e ∷ []))) →
      AreLogged (out ∷ []) log log' → HasEmitted machines side first went line (e ∷ []) granted log granted' log'
  emitted_one line granted granted' log log' told less logged = record {
    said = goes.said;
    went = goes.went;
    outs = (e, out) ∷ [];
    all = refl;
    told = (told, tt);
    says = (goes.said, [], sym (append-nil goes.said), goes.by, refl);
    less = less;
    logged = logged;
  }

  pub may_on : (machines' : List (Either M D)) (budget budget' : ℕ → ℕ) (shares_of : D → Shares) (shares : List Shares) (granted granted' : List Share) (es : List Emission) →
      (machines' ≡ machines) × ((j : ℕ) → budget' j + length (said_on j goes.said) ≡ budget j) → ((i : ℕ) → grant_at i granted' ≡ with_amount (grant_at i granted) ((grant_at i granted).amount - bytes_at i (e ∷ []))) →
      length granted' ≡ length granted → AllZip IsOne shares granted' → MayEmit machines side first budget shares_of shares granted (e ∷ es) → MayEmit machines' side first budget' shares_of shares granted' es
  may_on machines' budget budget' shares_of shares granted granted' es spends less long fits h =
      subst (λ (ms : List (Either M D)). MayEmit ms side first budget' shares_of shares granted' es) (sym spends.0) (record {
        few = h.few;
        shared = h.shared;
        fits = fits;
        each = h.each.1;
        turns = λ i lt.
            let old = h.turns i lt in
            let both = turns_more i (e ∷ []) es in
            let said = counted_one machines side first e out goes.said goes.by i in
            let left = spends.1 (first + i) in
            omega (arith, old, both, said, left);
        bytes = λ i lt.
            let old = h.bytes i (omega (arith, lt, long)) in
            let both = bytes_more i (e ∷ []) es in
            let now = ap (λ (v : View). v.amount) (less i) in
            omega (arith, old, both, now);
      })
