-- After a plan, its orders' bytes may be granted. Then the issuers have the bytes after them.
use Rattle.std.proofs.Common.{◌≡◌, ℕ, zero, suc, ◌+◌, ◌-◌, ◌*◌, ◌<◌, ◌≤◌, true, List, [], ◌∷◌, ◌++◌, length, take, drop, replicate, refl, sym, ap, subst, ◌∙◌, arith, append-nil, Option, Some, None}
use Rattle.std.specs.Prelude.{slice_get, slice_index_or}
use Rattle.std.specs.List.{AllZip, AllByRecursion}
use Rattle.std.proofs.lemmas.List.{length-replicate}
use Rattle.std.proofs.lemmas.Option.{slice_get_within}
use Rattle.qkd_base.specs.Lane.{lane_place}
use Rattle.qkd_base.specs.declared.lane.Lane.{Lane}
use Rattle.net_model.specs.declared.order.Order.{Order}
use Rattle.net_model.specs.declared.reply.Reply.{Reply}
use Rattle.net_model.specs.Facts.{IsWellFormed}
use Rattle.net_model.specs.Site.{Site, sender}
use Rattle.net_model.specs.Events.{is_lane}
use Rattle.net_model.specs.Action.{Replies}
use Rattle.net_model.specs.Tick.{New}
use Rattle.run_model.specs.Works.{wanted_put}
use Rattle.run_ops.specs.declared.job.Job.{Job}
use Rattle.law_base.proofs.Base.{slice_get-replicate}
use Rattle.world_state.specs.Passed.{Post}
use Rattle.lane_shares.specs.declared.share.Share.{Share}
use Rattle.lane_shares.specs.declared.shares.Shares.{Shares}
use Rattle.lane_shares.specs.Names.{lane_cap, Fits}
use Rattle.lane_shares.specs.Views.{with_amount}
use Rattle.shared_objects.proofs.Zips.{zip_of, zip_at, zip_same}
use Rattle.par_lanes.specs.Emitting.{grant_at}
use Rattle.par_lanes.specs.Granting.{Issues, need_at, IsLeased, MayGrant, HasGranted, lease_at as end_at}
use Rattle.par_lanes.specs.Wants.{bytes_at}
use Rattle.par_managers.specs.Leases.{lease_at, WroteAt}
use Rattle.world_state.specs.Stands.{place_of}
use Rattle.par_managers.specs.Turning.{planner}
use Rattle.par_managers.specs.Issuing.{IsIssuing, AreShares, HasIssuers}
use Rattle.par_managers.specs.Posts.{is_on, planned_at}
use Rattle.par_managers.specs.Wanted.{orders_replied, CanLeave}
use Rattle.par_managers.proofs.Places.{same_place, lane_within, lane_at, same_or}
use Rattle.par_managers.proofs.Told.{Told, replied_can, bytes_replied}
use Rattle.par_managers.proofs.Wants.{order_there}

-- ---- lists of shares

pub shares_of : (shares : List Shares) (rows : List Share) → AllZip Fits shares rows → AreShares shares rows
shares_of shares rows h = record { sides = zip_same Fits shares rows h; each = λ i d s at there. zip_at Fits shares rows i d s h at there }

pub shares_zip : (shares : List Shares) (rows : List Share) → AreShares shares rows → AllZip Fits shares rows
shares_zip shares rows h = zip_of Fits shares rows h.sides h.each

-- ---- a list that was written whole

front : {A : Type 0} (xs ys : List A) → take (length xs) (xs ++ ys) ≡ xs
front [] [] = refl
front [] (y ∷ ys) = refl
front {A} (x ∷ xs) ys = ap (λ (zs : List A). x ∷ zs) (front xs ys)

pub written_back : {A : Type 0} (n : ℕ) (xs ys : List A) → length xs ≡ n → take n (xs ++ drop (length xs) ys) ≡ xs
written_back {A} n xs ys long = ap (λ (m : ℕ). take m (xs ++ drop (length xs) ys)) (sym long) ∙ front xs (drop (length xs) ys)

-- ---- places

some_is : {A : Type 0} {a b : A} → ◌≡◌ {A = Option A} (Some a) (Some b) → a ≡ b
some_is h = cc

get_taken : {A : Type 0} (n : ℕ) (xs : List A) (i : ℕ) → i < n → slice_get (take n xs) i ≡ slice_get xs i
get_taken zero xs i below = absurd (omega (arith, below))
get_taken (suc n) [] i below = refl
get_taken (suc n) (x ∷ xs) zero below = refl
get_taken (suc n) (x ∷ xs) (suc i) below = get_taken n xs i (omega (arith, below))

taken_long : {A : Type 0} (n : ℕ) (xs : List A) → n ≤ length xs → length (take n xs) ≡ n
taken_long zero xs few = refl
taken_long (suc n) [] few = absurd (omega (arith, few))
taken_long (suc n) (x ∷ xs) few = ap suc (taken_long n xs (omega (arith, few)))

read_at : (xs : List ℕ) (i x : ℕ) → slice_get xs i ≡ Some x → slice_index_or xs i 0 ≡ x
read_at [] i x h = cc
read_at (y ∷ ys) zero x h = some_is h
read_at (y ∷ ys) (suc i) x h = read_at ys i x h

none_or : {A : Type 0} (n : ℕ) → (n ≡ 0 → A) → (0 < n → A) → A
none_or zero none some = none refl
none_or (suc n) none some = some (omega arith)

by_planner : {A : Type 0} (o : Option ℕ) → (o ≡ None → A) → ((u : ℕ) → o ≡ Some u → A) → A
by_planner None none some = none refl
by_planner (Some u) none some = some u refl

-- ---- a turn that was taken

module _ {K E : Type 0} (s : Site) (v : ℕ) (old new : Post K E) (job : Job) (reply : Reply) (told : Told s v old new job reply) (shares : List Shares) (issuers : List Share)
    (shared : AreShares shares issuers) (issued : HasIssuers s v old shares issuers) (lanes : length shares ≡ 2 * s.links) (links : s.links ≤ 32)
    (ends leases : List ℕ) (wrote : WroteAt s v (planner job reply) new (replicate 64 0) ends) (are : leases ≡ take (length shares) ends) where
  abbrev orders : List Order
  orders = orders_replied reply

  abbrev zeros : List ℕ
  zeros = replicate 64 0

  blank : (i : ℕ) → i < 64 → slice_get zeros i ≡ Some 0
  blank i below = slice_get-replicate {A = ℕ} 64 0 i below

  long_by : (o : Option ℕ) → WroteAt s v o new zeros ends → length ends ≡ 64
  long_by None h = ap (λ (xs : List ℕ). length xs) h ∙ length-replicate {A = ℕ} 64 0
  long_by (Some u) h = h.sides ∙ length-replicate {A = ℕ} 64 0

  pub ends_long : length ends ≡ 64
  ends_long = long_by (planner job reply) wrote

  pub leases_long : length leases ≡ length shares
  leases_long = let long = ends_long in ap (λ (xs : List ℕ). length xs) are ∙ taken_long (length shares) ends (omega (arith, lanes, links, long))

  at_end : (i : ℕ) → i < length shares → slice_get leases i ≡ slice_get ends i
  at_end i below = ap (λ (xs : List ℕ). slice_get xs i) are ∙ get_taken (length shares) ends i below

  -- the value at a lane's place

  own_end : (u : ℕ) (l : Lane) → is_lane s l ≡ true → sender s l ≡ v → WroteAt s v (Some u) new zeros ends → slice_get ends (lane_place l) ≡ Some (lease_at new l)
  own_end u l at from h =
      let below = lane_within s l at in
      let same = same_place l in
      let long = length-replicate {A = ℕ} 64 0 in
      ap (slice_get ends) (sym same) ∙ h.mine l at from (omega (arith, below, same, links, long))

  other_end : (u : ℕ) (l : Lane) → is_lane s l ≡ true → (sender s l ≡ v → ⊥) → WroteAt s v (Some u) new zeros ends → slice_get ends (lane_place l) ≡ Some 0
  other_end u l at apart h =
      let below = lane_within s l at in
      let same = same_place l in
      ap (slice_get ends) (sym same) ∙ h.others l at apart ∙ blank (place_of l) (omega (arith, below, same, links))

  -- The lease is at most the lane's cap.

  cap_own : (l : Lane) (d : Shares) → is_lane s l ≡ true → sender s l ≡ v → is_on new ≡ true → slice_get shares (lane_place l) ≡ Some d → lease_at new l ≤ lane_cap d
  cap_own l d at from on there =
      let t = told.lanes l at from on in
      let cap = issued.capped l d at from (told.on on) there in
      omega (arith, t.leased, t.received', cap)

  cap_by : (o : Option ℕ) → planner job reply ≡ o → WroteAt s v o new zeros ends → (i : ℕ) (d : Shares) (lease : ℕ) → slice_get shares i ≡ Some d → slice_get ends i ≡ Some lease → lease ≤ lane_cap d
  cap_by None is h i d lease there end =
      let within = slice_get_within shares i d there in
      let none : 0 ≡ lease = some_is (sym (blank i (omega (arith, within, lanes, links))) ∙ ap (λ (xs : List ℕ). slice_get xs i) (sym h) ∙ end) in
      omega (arith, none)
  cap_by (Some u) is h i d lease there end =
      let within = slice_get_within shares i d there in
      let l = lane_at s i (omega (arith, within, lanes)) in
      let here : slice_get shares (lane_place l.lane) ≡ Some d = ap (slice_get shares) l.here ∙ there in
      let end_here : slice_get ends (lane_place l.lane) ≡ Some lease = ap (slice_get ends) l.here ∙ end in
      same_or (sender s l.lane) v
      (λ from.
      let same : lease_at new l.lane ≡ lease = some_is (sym (own_end u l.lane l.at from h) ∙ end_here) in
      let cap = cap_own l.lane d l.at from (told.planned' u is) here in
      omega (arith, same, cap))
      (λ apart. let none : 0 ≡ lease = some_is (sym (other_end u l.lane l.at apart h) ∙ end_here) in omega (arith, none))

  capped : AllZip (λ d lease. lease ≤ lane_cap d) shares leases
  capped =
      zip_of (λ d lease. lease ≤ lane_cap d) shares leases leases_long
      (λ i d lease there end. cap_by (planner job reply) refl wrote i d lease there (sym (at_end i (slice_get_within shares i d there)) ∙ end))

  -- ---- a lane with orders

  module _ (l : Lane) (at : is_lane s l ≡ true) (from : sender s l ≡ v) where
    abbrev i : ℕ
    i = lane_place l

    taken : bytes_at i (wanted_put (Replies reply)) ≡ need_at i orders
    taken = bytes_replied i reply

    module _ (some : 0 < need_at i orders) where
      its_end : (is_on new ≡ true) × (end_at i leases ≡ lease_at new l)
      its_end =
          by_planner (planner job reply)
          (λ none. let no = told.none none i in let same = taken in absurd (omega (arith, some, no, same)))
          (λ u is.
          let below = lane_within s l at in
          (told.planned' u is, read_at leases i (lease_at new l) (at_end i (omega (arith, below, lanes)) ∙ own_end u l at from (subst (λ (o : Option ℕ). WroteAt s v o new zeros ends) is wrote))))

      issuing_at : IsIssuing (planned_at old l) (lease_at old l) (grant_at i issuers)
      issuing_at = issued.issuing l at from (told.on its_end.0)

      abbrev planned : ℕ
      planned = (grant_at i issuers).issued - (grant_at i issuers).amount

      issues : Issues (end_at i leases) planned (grant_at i issuers)
      issues =
          let x = issuing_at in
          let t = told.lanes l at from its_end.0 in
          let end = its_end.1 in
          record { issues = x.issues; rest = omega (arith, x.has); under = omega (arith, x.under, t.lease, end) }

      reaches : planned + need_at i orders ≤ end_at i leases
      reaches =
          let x = issuing_at in
          let t = told.lanes l at from its_end.0 in
          let end = its_end.1 in
          let same = taken in
          omega (arith, x.has, x.behind, t.more, t.planned', end, same)

      pub leased_at : IsLeased i leases issuers orders
      leased_at = record { planned = planned; issues = issues; under = reaches }

  module _ (granted : List Share) (fits : AllZip Fits shares granted) where
    each : (os : List Order) → AllByRecursion (λ (o : Order). CanLeave s v (New o)) os → AllByRecursion (λ (o : Order). (lane_place o.lane < length shares) × IsWellFormed o.payload) os
    each [] h = tt
    each (o ∷ os) h = let below = lane_within s o.lane h.0.0 in ((omega (arith, below, lanes), h.0.2), each os h.1)

    leased : (i : ℕ) → 0 < need_at i orders → IsLeased i leases issuers orders
    leased i some =
        let there = order_there i (λ (o : Order). CanLeave s v (New o)) orders (replied_can s v reply told.can) some in
        subst (λ (k : ℕ). IsLeased k leases issuers orders) there.here
        (leased_at there.order.lane there.holds.0 there.holds.1 (subst (λ (k : ℕ). 0 < need_at k orders) (sym there.here) some))

    may_plan : MayGrant shares leases issuers granted orders
    may_plan = record { issuing = shares_zip shares issuers shared; fits = fits; capped = capped; each = each orders (replied_can s v reply told.can); leased = leased }

    pub may_grant : (os : List Order) × MayGrant shares leases issuers granted (orders ++ os)
    may_grant = ([], subst (MayGrant shares leases issuers granted) (sym (append-nil orders)) may_plan)

    module _ (issuers' granted' : List Share) (did : HasGranted leases orders issuers granted issuers' granted') where
      idle_on : (l : Lane) → is_lane s l ≡ true → sender s l ≡ v → is_on new ≡ true → need_at (lane_place l) orders ≡ 0 → IsIssuing (planned_at new l) (lease_at new l) (grant_at (lane_place l) issuers')
      idle_on l at from on none =
          let x = issued.issuing l at from (told.on on) in
          let t = told.lanes l at from on in
          subst (IsIssuing (planned_at new l) (lease_at new l)) (sym (did.idle (lane_place l) none))
          (record { issues = x.issues; has = x.has; behind = omega (arith, x.behind, t.more); under = omega (arith, x.under, t.lease) })

      issuing_on : (l : Lane) → is_lane s l ≡ true → sender s l ≡ v → is_on new ≡ true → 0 < need_at (lane_place l) orders → IsIssuing (planned_at new l) (lease_at new l) (grant_at (lane_place l) issuers')
      issuing_on l at from on some =
          let x = issued.issuing l at from (told.on on) in
          let t = told.lanes l at from on in
          let end = (its_end l at from some).1 in
          let same = taken l at from in
          let y = did.issuing (lane_place l) (planned l at from some) (issues l at from some) (reaches l at from some) in
          record { issues = y.issues; has = omega (arith, y.rest); behind = omega (arith, x.has, x.behind, t.more, same, y.rest); under = omega (arith, y.under, end) }

      pub issued_on : HasIssuers s v new shares issuers'
      issued_on = record {
        issuing = λ l at from on. none_or (need_at (lane_place l) orders) (idle_on l at from on) (issuing_on l at from on);
        capped = λ l d at from on there.
            let t = told.lanes l at from on in
            let cap = issued.capped l d at from (told.on on) there in
            omega (arith, t.received', cap);
      }

      pub granted_on : (i : ℕ) → grant_at i granted' ≡ with_amount (grant_at i granted) ((grant_at i granted).amount + bytes_at i (wanted_put (Replies reply)))
      granted_on i = did.more i ∙ ap (λ (n : ℕ). with_amount (grant_at i granted) ((grant_at i granted).amount + n)) (sym (bytes_replied i reply))
