use Rattle.std.proofs.Common.{◌≡◌, ℕ, zero, suc, ◌+◌, ◌≤◌, ◌<◌, List, [], ◌∷◌, length, slice_get, Some, refl, sym, ap, subst, ◌∙◌, arith}
use Rattle.std.proofs.lemmas.Option.{slice_get_within}
use Rattle.block_run.specs.Jobs.{jobs_of}
use Rattle.qkd_base.specs.Name.{Name}
use Rattle.qkd_base.specs.declared.lane.Way.TheVariants.{Up}
use Rattle.net_model.specs.declared.order.Order.{Order}
use Rattle.net_model.specs.declared.payload.Payload.TheVariants.{Ack}
use Rattle.net_model.specs.Tick.{New}
use Rattle.shared_objects.specs.declared.either.Either.TheVariants.{Left, Right}
use Rattle.lane_shares.specs.declared.share.Share.{Share}
use Rattle.lane_shares.specs.declared.shares.Shares.{Shares}
use Rattle.lane_sender.specs.Lane.{LaneForm}
use Rattle.par_lanes.specs.Grants.{IsShareOf}
use Rattle.par_lanes.specs.Wants.{bytes_at}
use Rattle.par_lanes.specs.Emitting.{grant_at, MayEmit}
use Rattle.par_lanes.proofs.Wanting.{few_turns}
use Rattle.thread_tests.proofs.emissions.send_both.Goals as goal

jobs_two : (w : ℕ) → w < 2 → jobs_of w 2 2 ≡ w ∷ []
jobs_two zero h = refl
jobs_two (suc zero) h = refl
jobs_two (suc (suc w)) h = absurd (omega (arith, h))

jobs_are : (w n : ℕ) → n ≡ 2 → w < n → jobs_of w n 2 ≡ w ∷ []
jobs_are w n two h = ap (λ (m : ℕ). jobs_of w m 2) two ∙ jobs_two w (omega (arith, two, h))

-- what is so of both
at_two : {K : Type 0} (P : K → Type 0) (p q : K) → P p → P q → (w : ℕ) (k : K) → slice_get (p ∷ q ∷ []) w ≡ Some k → P k
at_two P p q one two zero k e = let same : p ≡ k = cc in subst P same one
at_two P p q one two (suc zero) k e = let same : q ≡ k = cc in subst P same two
at_two P p q one two (suc (suc w)) k e = cc

abbrev order_of : Name → Order
order_of name = record { lane = record { link = 0; way = Up }; offset = 0; ack_of = Some 8; payload = Ack name }

module _ {M D X : Type 0} (m : M) (d : D) (side : D → LaneForm X) (shares_of : D → Shares) (shares : Shares) (name : Name) where
  shared_at : shares_of d ≡ shares → (i n : ℕ) → 1 + i ≡ n → (x : D) → slice_get (Left m ∷ Right d ∷ []) n ≡ Some (Right x) → slice_get (shares ∷ []) i ≡ Some (shares_of x)
  shared_at is i zero e x h = absurd (omega (arith, e))
  shared_at is zero (suc zero) e x h = let same : d ≡ x = cc in ap Some (sym is ∙ ap shares_of same)
  shared_at is (suc i) (suc zero) e x h = absurd (omega (arith, e))
  shared_at is i (suc (suc n)) e x h = cc

  bytes_one : (grant : Share) → IsShareOf shares 25 grant → (i : ℕ) → i < 1 → bytes_at i (New (order_of name) ∷ []) ≤ (grant_at i (grant ∷ [])).amount
  bytes_one grant is zero lt = let has = is.has in omega (arith, has)
  bytes_one grant is (suc i) lt = absurd (omega (arith, lt))

  may_one : shares_of d ≡ shares → (side d).lane ≡ record { link = 0; way = Up } → (grant : Share) → IsShareOf shares 25 grant → MayEmit (Left m ∷ Right d ∷ []) side 1 (λ i. 2) shares_of (shares ∷ []) (grant ∷ []) (New (order_of name) ∷ [])
  may_one same lane grant is = record {
    few = omega arith;
    shared = λ i x h. shared_at same i (1 + i) refl x h;
    fits = (is.fits, tt);
    each = (((d, refl, lane), tt), tt);
    turns = λ i lt. few_turns i (order_of name);
    bytes = bytes_one grant is;
  }

pub work_scripts-requires-clause-may : goal.work_scripts-requires-clause-may
work_scripts-requires-clause-may g c κs within = λ w keep e.
    let ms = c.requires.machines in
    let ks = c.requires.keeps in
    let two : length c.args.keeps.items ≡ 2 = ap length ks.2 in
    let jobs = jobs_are w (length c.args.keeps.items) two (slice_get_within c.args.keeps.items w keep e) in
    let one = at_two (λ k. (grant : Share) × (k.granted.items ≡ grant ∷ []) × IsShareOf c.args.shares.now 25 grant) ks.0 ks.1 ks.3 ks.4 w keep (ap (λ xs. slice_get xs w) (sym ks.2) ∙ e) in
    let may = may_one ms.0 ms.1 (λ d. d.side) (λ d. d.shares.now) c.args.shares.now c.requires.order.0 ms.3 ms.4 one.0 one.2 in
    let many = ap length jobs in (
      omega (arith, many),
      λ some.
          subst (λ xs. MayEmit xs (λ d. d.side) 1 (λ i. 2) (λ d. d.shares.now) (c.args.shares.now ∷ []) keep.granted.items (New c.args.order.now ∷ [])) (sym ms.2)
          (subst (λ (granted : List Share). MayEmit (Left ms.0 ∷ Right ms.1 ∷ []) (λ d. d.side) 1 (λ i. 2) (λ d. d.shares.now) (c.args.shares.now ∷ []) granted (New c.args.order.now ∷ [])) (sym one.1)
          (subst (λ (o : Order). MayEmit (Left ms.0 ∷ Right ms.1 ∷ []) (λ d. d.side) 1 (λ i. 2) (λ d. d.shares.now) (c.args.shares.now ∷ []) (one.0 ∷ []) (New o ∷ [])) (sym c.requires.order.1) may)),
    )
