-- Issuers give the bytes that orders take.
use Rattle.std.proofs.Common.{◌≡◌, ◌⊎◌, ℕ, ◌+◌, ◌-◌, ◌<◌, ◌≤◌, true, false, List, [], ◌∷◌, ◌++◌, length, map, set, get_or, slice_get, Some, eqb, refl, sym, ap, subst, ◌∙◌, arith, inl, inr}
use Rattle.std.specs.List.{AllZip}
use Rattle.std.proofs.lemmas.List.{map-append}
use Rattle.std.proofs.lemmas.Option.{slice_get_read, slice_get-get_or}
use Rattle.std.proofs.lemmas.Bool.Decides.{eqb_tells}
use Rattle.qkd_base.specs.Lane.{lane_place}
use Rattle.net_model.specs.declared.order.Order.{Order}
use Rattle.net_model.specs.Tick.{New}
use Rattle.lane_shares.specs.declared.share.Share.{Share}
use Rattle.lane_shares.specs.declared.shares.Shares.{Shares}
use Rattle.lane_shares.specs.declared.view.View.{View}
use Rattle.lane_shares.specs.Names.{knows as has, lane_cap, Fits}
use Rattle.lane_shares.specs.Views.{with_amount, spent}
use Rattle.lane_sender.specs.Lane.{frame_need}
use Rattle.shared_objects.proofs.Zips.{zip_at, zip_set, zip_same, was_at, new_at, other_at, same_item}
use Rattle.par_lanes.specs.Wants.{bytes_for, bytes_at}
use Rattle.par_lanes.specs.Emitting.{grant_at}
use Rattle.par_lanes.specs.Granting.{raised, Issues, lease_at, need_at, IsLeased, MayGrant, HasGranted}
use Rattle.par_lanes.proofs.Wanting.{sum_here, sum_past, bytes_more}

-- An issuer raised to its lease has the bytes that are needed.

pub reaches : (lease planned need : ℕ) (v : View) → Issues lease planned v → planned + need ≤ lease → need ≤ (raised lease v).amount
reaches lease planned need v h under = let rest = h.rest in let below = h.under in omega (arith, rest, below, under)

pub issues_on : (lease planned need : ℕ) (v : View) → Issues lease planned v → planned + need ≤ lease → Issues lease (planned + need) (with_amount (raised lease v) ((raised lease v).amount - need))
issues_on lease planned need v h under =
    let rest = h.rest in
    let below = h.under in
    record { issues = h.issues; rest = omega (arith, rest, below, under); under = omega (arith, rest, below, under) }

pub need_more : (i : ℕ) (xs ys : List Order) → need_at i (xs ++ ys) ≡ need_at i xs + need_at i ys
need_more i xs ys = ap (bytes_at i) (map-append New xs ys) ∙ bytes_more i (map New xs) (map New ys)

-- ---- granting nothing, and granting one order after another

module _ (leases : List ℕ) where
  pub granted_none : (issuers granted : List Share) → HasGranted leases [] issuers granted issuers granted
  granted_none issuers granted = record {
    issuing = λ i planned h under. let none : planned ≡ planned + 0 = omega arith in subst (λ (n : ℕ). Issues (lease_at i leases) n (grant_at i issuers)) none h;
    idle = λ i none. refl;
    more = λ i. let none : (grant_at i granted).amount ≡ (grant_at i granted).amount + 0 = omega arith in ap (with_amount (grant_at i granted)) none;
  }

  pub granted_more : (xs ys : List Order) (p q r s t u : List Share) → HasGranted leases xs p s q t → HasGranted leases ys q t r u → HasGranted leases (xs ++ ys) p s r u
  granted_more xs ys p q r s t u h k = record {
    issuing = λ i planned issues under.
        let both = need_more i xs ys in
        let all : (planned + need_at i xs) + need_at i ys ≡ planned + need_at i (xs ++ ys) = omega (arith, both) in
        subst (λ (n : ℕ). Issues (lease_at i leases) n (grant_at i r)) all (k.issuing i (planned + need_at i xs) (h.issuing i planned issues (omega (arith, both, under))) (omega (arith, both, under)));
    idle = λ i none. let both = need_more i xs ys in k.idle i (omega (arith, both, none)) ∙ h.idle i (omega (arith, both, none));
    more = λ i.
        let both = need_more i xs ys in
        let all : ((grant_at i s).amount + need_at i xs) + need_at i ys ≡ (grant_at i s).amount + need_at i (xs ++ ys) = omega (arith, both) in
        k.more i ∙ ap (λ (v : View). with_amount v (v.amount + need_at i ys)) (h.more i) ∙ ap (with_amount (grant_at i s)) all;
  }

-- After one order, the others may be granted.
pub may_grant_on : (shares : List Shares) (leases : List ℕ) (o : Order) (os : List Order) (p q s t : List Share) → AllZip Fits shares q → AllZip Fits shares t → HasGranted leases (o ∷ []) p s q t
    → MayGrant shares leases p s (o ∷ os) → MayGrant shares leases q t os
may_grant_on shares leases o os p q s t issuing fits did may = record {
  issuing = issuing;
  fits = fits;
  capped = may.capped;
  each = may.each.1;
  leased = λ i some.
      let both = need_more i (o ∷ []) os in
      let was = may.leased i (omega (arith, both, some)) in
      let under = was.under in
      record { planned = was.planned + need_at i (o ∷ []); issues = did.issuing i was.planned was.issues (omega (arith, both, under)); under = omega (arith, both, under) };
}

-- ---- the bytes of one order, on its lane and on the others
module _ (o : Order) (k : ℕ) (home : k ≡ lane_place o.lane) where
  home_case : ((eqb (lane_place o.lane) k ≡ true) × (lane_place o.lane ≡ k)) ⊎ ((eqb (lane_place o.lane) k ≡ false) × (lane_place o.lane ≡ k → ⊥)) → eqb (lane_place o.lane) k ≡ true
  home_case (inl (b, same)) = b
  home_case (inr (b, apart)) = absurd (apart (sym home))

  pub need_here : (os : List Order) → need_at k (o ∷ os) ≡ frame_need o.payload + need_at k os
  need_here os = sum_here bytes_for k (New o) (map New os) (home_case (eqb_tells (lane_place o.lane) k))

  apart_case : (i : ℕ) → (k ≡ i → ⊥) → ((eqb (lane_place o.lane) i ≡ true) × (lane_place o.lane ≡ i)) ⊎ ((eqb (lane_place o.lane) i ≡ false) × (lane_place o.lane ≡ i → ⊥)) → need_at i (o ∷ []) ≡ 0
  apart_case i apart (inl (b, same)) = absurd (apart (home ∙ same))
  apart_case i apart (inr (b, other)) = sum_past bytes_for i (New o) [] b

  pub need_apart : (i : ℕ) → (k ≡ i → ⊥) → need_at i (o ∷ []) ≡ 0
  need_apart i apart = apart_case i apart (eqb_tells (lane_place o.lane) i)

  module _ (leases : List ℕ) (issuers granted : List Share) (s s' r r' : Share) (there : slice_get issuers k ≡ Some s) (has_it : slice_get granted k ≡ Some r)
      (gives : has s' ≡ with_amount (raised (lease_at k leases) (has s)) ((raised (lease_at k leases) (has s)).amount - frame_need o.payload))
      (takes : has r' ≡ with_amount (has r) ((has r).amount + frame_need o.payload)) where
    one_need : need_at k (o ∷ []) ≡ frame_need o.payload
    one_need = let here = need_here [] in omega (arith, here)

    issuer_here : grant_at k (set issuers k s') ≡ with_amount (raised (lease_at k leases) (grant_at k issuers)) ((raised (lease_at k leases) (grant_at k issuers)).amount - need_at k (o ∷ []))
    issuer_here =
        new_at has spent issuers k s s' there ∙ gives ∙ ap (λ (v : View). with_amount (raised (lease_at k leases) v) ((raised (lease_at k leases) v).amount - frame_need o.payload)) (sym (was_at has spent issuers k s there))
        ∙ ap (λ (n : ℕ). with_amount (raised (lease_at k leases) (grant_at k issuers)) ((raised (lease_at k leases) (grant_at k issuers)).amount - n)) (sym one_need)

    issuing_here : (planned : ℕ) → Issues (lease_at k leases) planned (grant_at k issuers) → planned + need_at k (o ∷ []) ≤ lease_at k leases → Issues (lease_at k leases) (planned + need_at k (o ∷ [])) (grant_at k (set issuers k s'))
    issuing_here planned h under =
        subst (λ (v : View). Issues (lease_at k leases) (planned + need_at k (o ∷ [])) v) (sym issuer_here) (issues_on (lease_at k leases) planned (need_at k (o ∷ [])) (grant_at k issuers) h under)

    issuing_case : (i planned : ℕ) → ((eqb k i ≡ true) × (k ≡ i)) ⊎ ((eqb k i ≡ false) × (k ≡ i → ⊥)) → Issues (lease_at i leases) planned (grant_at i issuers) → planned + need_at i (o ∷ []) ≤ lease_at i leases →
        Issues (lease_at i leases) (planned + need_at i (o ∷ [])) (grant_at i (set issuers k s'))
    issuing_case i planned (inl (b, same)) h under =
        subst (λ (j : ℕ). Issues (lease_at j leases) planned (grant_at j issuers) → planned + need_at j (o ∷ []) ≤ lease_at j leases → Issues (lease_at j leases) (planned + need_at j (o ∷ [])) (grant_at j (set issuers k s'))) same (issuing_here planned) h under
    issuing_case i planned (inr (b, apart)) h under =
        let none = need_apart i apart in
        let all : planned ≡ planned + need_at i (o ∷ []) = omega (arith, none) in
        subst (λ (n : ℕ). Issues (lease_at i leases) n (grant_at i (set issuers k s'))) all (subst (λ (v : View). Issues (lease_at i leases) planned v) (sym (other_at has spent issuers k i s' apart)) h)

    idle_case : (i : ℕ) → ((eqb k i ≡ true) × (k ≡ i)) ⊎ ((eqb k i ≡ false) × (k ≡ i → ⊥)) → need_at i (o ∷ []) ≡ 0 → grant_at i (set issuers k s') ≡ grant_at i issuers
    idle_case i (inl (b, same)) none = let here : need_at k (o ∷ []) ≡ 0 = ap (λ (j : ℕ). need_at j (o ∷ [])) same ∙ none in let one = one_need in absurd (omega (arith, here, one))
    idle_case i (inr (b, apart)) none = other_at has spent issuers k i s' apart

    more_here : grant_at k (set granted k r') ≡ with_amount (grant_at k granted) ((grant_at k granted).amount + need_at k (o ∷ []))
    more_here =
        new_at has spent granted k r r' has_it ∙ takes ∙ ap (λ (v : View). with_amount v (v.amount + frame_need o.payload)) (sym (was_at has spent granted k r has_it))
        ∙ ap (λ (n : ℕ). with_amount (grant_at k granted) ((grant_at k granted).amount + n)) (sym one_need)

    more_case : (i : ℕ) → ((eqb k i ≡ true) × (k ≡ i)) ⊎ ((eqb k i ≡ false) × (k ≡ i → ⊥)) → grant_at i (set granted k r') ≡ with_amount (grant_at i granted) ((grant_at i granted).amount + need_at i (o ∷ []))
    more_case i (inl (b, same)) = subst (λ (j : ℕ). grant_at j (set granted k r') ≡ with_amount (grant_at j granted) ((grant_at j granted).amount + need_at j (o ∷ []))) same more_here
    more_case i (inr (b, apart)) =
        let none = need_apart i apart in
        let all : (grant_at i granted).amount ≡ (grant_at i granted).amount + need_at i (o ∷ []) = omega (arith, none) in
        other_at has spent granted k i r' apart ∙ ap (with_amount (grant_at i granted)) all

    pub granted_one : HasGranted leases (o ∷ []) issuers granted (set issuers k s') (set granted k r')
    granted_one = record { issuing = λ i planned. issuing_case i planned (eqb_tells k i); idle = λ i. idle_case i (eqb_tells k i); more = λ i. more_case i (eqb_tells k i) }

-- ---- an order whose bytes may be granted
module _ {shares : List Shares} {leases : List ℕ} {issuers granted : List Share} {o : Order} {os : List Order} (may : MayGrant shares leases issuers granted (o ∷ os)) (k : ℕ) (home : k ≡ lane_place o.lane) where
  in_shares : k < length shares
  in_shares = let l = may.each.0.0 in omega (arith, l, home)

  pub in_leases : k < length leases
  in_leases = let l = in_shares in let same = zip_same (λ s lease. lease ≤ lane_cap s) shares leases may.capped in omega (arith, l, same)

  pub in_issuers : k < length issuers
  in_issuers = let l = in_shares in let same = zip_same Fits shares issuers may.issuing in omega (arith, l, same)

  pub in_granted : k < length granted
  in_granted = let l = in_shares in let same = zip_same Fits shares granted may.fits in omega (arith, l, same)

  pub shares_at : (d : Shares) → d ≡ get_or shares k d → slice_get shares k ≡ Some d
  shares_at d is = slice_get_read shares (length shares) k d refl in_shares is

  pub issuer_at : (s : Share) → slice_get issuers k ≡ Some (get_or issuers k s)
  issuer_at s = slice_get-get_or issuers k s in_issuers

  pub granted_at : (r : Share) → slice_get granted k ≡ Some (get_or granted k r)
  granted_at r = slice_get-get_or granted k r in_granted

  its_lease : IsLeased k leases issuers (o ∷ os)
  its_lease = let here = need_here o k home os in may.leased k (omega (arith, here))

  module _ (d : Shares) (there : slice_get shares k ≡ Some d) where
    pub cap_holds : lease_at k leases ≤ lane_cap d
    cap_holds = zip_at (λ s lease. lease ≤ lane_cap s) shares leases k d (lease_at k leases) may.capped there (slice_get-get_or leases k 0 in_leases)

    pub grant_fits : (r : Share) → slice_get granted k ≡ Some r → Fits d r
    grant_fits r at = zip_at Fits shares granted k d r may.fits there at

    pub issuer_fits : (s : Share) → slice_get issuers k ≡ Some s → Fits d s
    issuer_fits s at = zip_at Fits shares issuers k d s may.issuing there at

    pub issuers_fit : (s : Share) → Fits d s → AllZip Fits shares (set issuers k s)
    issuers_fit s one = zip_set Fits shares issuers k s may.issuing (λ u at. subst (λ (v : Shares). Fits v s) (same_item (slice_get shares k) d u there at) one)

    pub grants_fit : (r : Share) → Fits d r → AllZip Fits shares (set granted k r)
    grants_fit r one = zip_set Fits shares granted k r may.fits (λ u at. subst (λ (v : Shares). Fits v r) (same_item (slice_get shares k) d u there at) one)

  module _ (s : Share) (at : slice_get issuers k ≡ Some s) where
    pub issuer_issues : (has s).issues ≡ true
    issuer_issues = ap (λ (v : View). v.issues) (sym (was_at has spent issuers k s at)) ∙ its_lease.issues.issues

    pub issuer_reaches : frame_need o.payload ≤ (raised (lease_at k leases) (has s)).amount
    issuer_reaches =
        let here = need_here o k home os in
        let under = its_lease.under in
        subst (λ (v : View). frame_need o.payload ≤ (raised (lease_at k leases) v).amount) (was_at has spent issuers k s at)
        (reaches (lease_at k leases) its_lease.planned (frame_need o.payload) (grant_at k issuers) its_lease.issues (omega (arith, here, under)))
