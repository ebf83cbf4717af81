-- Where a frame is put on its wire or refused there, what is awaited stays on its way.
use Rattle.std.proofs.Common.{◌≡◌, ℕ, ◌+◌, ◌≤◌, Bool, true, false, ◌&&◌, ◌||◌, List, [], ◌∷◌, ◌++◌, refl, sym, ◌∙◌, ap, subst, arith, ◌⊎◌, inl, inr, Option, Some, None}
use Rattle.std.specs.Prelude.{◌==◌, count_by, if◌then◌else◌}
use Rattle.std.specs.List.{list_any}
use Rattle.std.proofs.lemmas.List.Folds.{list_any-append}
use Rattle.qkd_base.specs.Family.{number_set}
use Rattle.qkd_base.specs.Lane.{lane_eq}
use Rattle.qkd_base.specs.declared.lane.Lane.{Lane}
use Rattle.net_model.specs.declared.placing.Placing.{Placing}
use Rattle.net_model.specs.Site.{sender}
use Rattle.net_model.specs.World.{Network, World, Transmission, Outgoing}
use Rattle.net_model.specs.Window.{transmission_eq, transmission_of}
use Rattle.net_model.specs.Invariant.{Conserved}
use Rattle.net_model.specs.Action.{Environment, Outcome, is_no_memory, is_io_fault}
use Rattle.net_model.specs.Frames.{without_frame, outgoing_of, placing_of, put, transmit_one, transmit}
use Rattle.law_base.proofs.Base.{by_number, by_test, by_lane, by_other_lane, or_cases, or_left, or_right, lane_same, eq_from, eq_same}
use Rattle.law_base.proofs.Lists.{all_at, all_from, found_at}
use Rattle.law_locality.proofs.Claims.{lanes_apart}
use Rattle.law_locality.proofs.Counting.{one_if, count_more}
use Rattle.law_quiet.specs.Awaited.{brings, tells_of, IsOnItsWay, lies_at, told_at, waits_at, IsAwaited}
use Rattle.law_quiet.proofs.Awaiting.{any_longer}
use Rattle.law_quiet.proofs.Counts.{count_joined}

-- A frame leaves the list of those that wait.

pub found_number : (j : ℕ) (os : List Outgoing) (o : Outgoing) → outgoing_of j os ≡ Some o → o.frame ≡ j
found_number j [] o h = cc
found_number j (y ∷ os) o h = elim (y.frame == j) as (λ t. (y.frame == j) ≡ t → (if t then Some y else outgoing_of j os) ≡ Some o → o.frame ≡ j) [
  | true ↦ λ e k. let is : y ≡ o = cc in ap (λ (z : Outgoing). z.frame) (sym is) ∙ eq_from y.frame j e
  | false ↦ λ e k. found_number j os o k
] refl h

count_found : (p : Outgoing → Bool) (j : ℕ) (os : List Outgoing) (o : Outgoing) → outgoing_of j os ≡ Some o → count_by p os ≡ one_if (p o) + count_by p (without_frame j os)
count_found p j [] o h = cc
count_found p j (y ∷ os) o h =
    elim (y.frame == j) as (λ t. (if t then Some y else outgoing_of j os) ≡ Some o → count_by p (y ∷ os) ≡ one_if (p o) + count_by p (if t then os else y ∷ without_frame j os)) [
      | true ↦ λ k. let is : y ≡ o = cc in count_more p y os ∙ ap (λ (z : Outgoing). one_if (p z) + count_by p os) is
      | false ↦ λ k.
          let all = count_more p y os in
          let rest = count_found p j os o k in
          let left = count_more p y (without_frame j os) in
          omega (arith, all, rest, left)
    ] h

pub any_found : (p : Outgoing → Bool) (j : ℕ) (os : List Outgoing) (o : Outgoing) → outgoing_of j os ≡ Some o → list_any p os ≡ true → (p o ≡ true) ⊎ (list_any p (without_frame j os) ≡ true)
any_found p j [] o h on = cc
any_found p j (y ∷ os) o h on =
    elim (y.frame == j) as (λ t. (if t then Some y else outgoing_of j os) ≡ Some o → (p o ≡ true) ⊎ (list_any p (if t then os else y ∷ without_frame j os) ≡ true)) [
      | true ↦ λ k. let is : y ≡ o = cc in elim (or_cases (p y) (list_any p os) on) [ inl here ↦ inl (ap p (sym is) ∙ here) | inr later ↦ inr later ]
      | false ↦ λ k. elim (or_cases (p y) (list_any p os) on) [
        | inl here ↦ inr (or_left (p y) _ here)
        | inr later ↦ elim (any_found p j os o k later) [ inl is ↦ inl is | inr left ↦ inr (or_right (p y) _ left) ]
      ]
    ] h

module _ (net : Network) (w : World) (c : Conserved net w) (h : IsAwaited net w) where
  -- A frame is put on its wire, or refused there.

  module _ (l : Lane) (j : ℕ) (o : Outgoing) (is : outgoing_of j (w.outgoing l) ≡ Some o) (wire : List ℕ) (number : Option ℕ) where
    abbrev from : ℕ
    from = sender net.site l

    abbrev told : Placing
    told = placing_of net w l o number

    abbrev after : World
    after = put net w l o wire number

    left_is : without_frame o.frame (w.outgoing l) ≡ without_frame j (w.outgoing l)
    left_is = ap (λ (k : ℕ). without_frame k (w.outgoing l)) (found_number j (w.outgoing l) o is)

    told_is : transmission_of told ≡ o.transmission
    told_is =
        let there = found_at (λ (y : Outgoing). y.frame == j) (w.outgoing l) o is in
        let posted = (c.posted l).put there.0 o there.1 in
        λ i. record { lane = sym posted.0 i; item = sym posted.1 i; received_offset = o.transmission.received_offset }

    tells : (x : Transmission) → brings x o ≡ true → tells_of x told ≡ true
    tells x b = ap (λ (y : Transmission). o.fresh && transmission_eq x y) told_is ∙ b

    placed_any : (x : Transmission) (u : ℕ) → list_any (tells_of x) (w.placings u) ≡ true → list_any (tells_of x) (number_set w.placings from (w.placings from ++ told ∷ []) u) ≡ true
    placed_any x u on =
        by_number (λ k b. list_any (tells_of x) (w.placings k) ≡ true → list_any (tells_of x) (if b then w.placings from ++ told ∷ [] else w.placings k) ≡ true) from
        (λ old. any_longer (tells_of x) (w.placings from) (told ∷ []) old) (λ k ne old. old) u on

    placed_new : (x : Transmission) (u : ℕ) → u ≡ from → tells_of x told ≡ true → list_any (tells_of x) (number_set w.placings from (w.placings from ++ told ∷ []) u) ≡ true
    placed_new x u e b =
        subst (λ (k : ℕ). list_any (tells_of x) (number_set w.placings from (w.placings from ++ told ∷ []) k) ≡ true) (sym e)
        (rw (eq_same from) (list_any-append (tells_of x) (w.placings from) (told ∷ []) ∙ or_right (list_any (tells_of x) (w.placings from)) _ (or_left (tells_of x told) false b)))

    put_coming : (u : ℕ) (x : Transmission) → sender net.site x.lane ≡ u → IsOnItsWay net w u x → IsOnItsWay net after u x
    put_coming u x at way = (
      way.0,
      by_lane (λ k b. sender net.site k ≡ u → (list_any (transmission_eq x) (w.unclaimed k) || (list_any (brings x) (w.outgoing k) || list_any (tells_of x) (w.placings u))) ≡ true →
          (list_any (transmission_eq x) (w.unclaimed k) || (list_any (brings x) (if b then without_frame o.frame (w.outgoing l) else w.outgoing k) || list_any (tells_of x) (after.placings u))) ≡ true) l
          (λ from-it on. elim (or_cases (list_any (transmission_eq x) (w.unclaimed l)) _ on) [
            | inl ordered ↦ or_left (list_any (transmission_eq x) (w.unclaimed l)) _ ordered
            | inr later ↦ or_right (list_any (transmission_eq x) (w.unclaimed l)) _ (elim (or_cases (list_any (brings x) (w.outgoing l)) _ later) [
              | inl waits ↦ elim (any_found (brings x) j (w.outgoing l) o is waits) [
                | inl now ↦ or_right (list_any (brings x) (without_frame o.frame (w.outgoing l))) _ (placed_new x u (sym from-it) (tells x now))
                | inr left ↦ or_left (list_any (brings x) (without_frame o.frame (w.outgoing l))) _ (ap (list_any (brings x)) left_is ∙ left)
              ]
              | inr old ↦ or_right (list_any (brings x) (without_frame o.frame (w.outgoing l))) _ (placed_any x u old)
            ])
          ])
          (λ k from-it on. elim (or_cases (list_any (transmission_eq x) (w.unclaimed k)) _ on) [
            | inl ordered ↦ or_left (list_any (transmission_eq x) (w.unclaimed k)) _ ordered
            | inr later ↦ or_right (list_any (transmission_eq x) (w.unclaimed k)) _ (elim (or_cases (list_any (brings x) (w.outgoing k)) _ later) [
              | inl waits ↦ or_left (list_any (brings x) (w.outgoing k)) _ waits
              | inr old ↦ or_right (list_any (brings x) (w.outgoing k)) _ (placed_any x u old)
            ])
          ]) x.lane at way.1,
    )

    told_here : (x : ℕ) → told_at l x told ≡ waits_at (w.frames l) x o
    told_here x = ap (λ (b : Bool). o.fresh && (b && (told.offset == x))) (lane_same l)

    told_elsewhere : (k : Lane) (x : ℕ) → lane_eq k l ≡ false → told_at k x told ≡ false
    told_elsewhere k x apart = ap (λ (b : Bool). o.fresh && (b && (told.offset == x))) (lanes_apart k l apart) ∙ none o.fresh
      where
        none : (b : Bool) → (b && false) ≡ false
        none true = refl
        none false = refl

    -- On another lane it isn't counted, whoever sends there.
    others_placed : (k : Lane) (x u : ℕ) → lane_eq k l ≡ false → count_by (told_at k x) (number_set w.placings from (w.placings from ++ told ∷ []) u) ≡ count_by (told_at k x) (w.placings u)
    others_placed k x u apart =
        by_number (λ v b. count_by (told_at k x) (if b then w.placings from ++ told ∷ [] else w.placings v) ≡ count_by (told_at k x) (w.placings v)) from
        (let joined = count_joined (told_at k x) (w.placings from) (told ∷ []) in
        let last = count_more (told_at k x) told [] in
        let none : one_if (told_at k x told) ≡ 0 = ap one_if (told_elsewhere k x apart) in
        omega (arith, joined, last, none)) (λ v ne. refl) u

    put_here : (x : ℕ) → count_by (lies_at l x) (w.volatile from).window + count_by (told_at l x) (number_set w.placings from (w.placings from ++ told ∷ []) from) +
        count_by (waits_at (w.frames l) x) (without_frame o.frame (w.outgoing l)) ≤ 1
    put_here x =
        let set : count_by (told_at l x) (number_set w.placings from (w.placings from ++ told ∷ []) from) ≡ count_by (told_at l x) (w.placings from ++ told ∷ []) =
        rw (eq_same from) refl in
        let joined = count_joined (told_at l x) (w.placings from) (told ∷ []) in
        let last = count_more (told_at l x) told [] in
        let one : one_if (told_at l x told) ≡ one_if (waits_at (w.frames l) x o) = ap one_if (told_here x) in
        let taken = count_found (waits_at (w.frames l) x) j (w.outgoing l) o is in
        let left = ap (count_by (waits_at (w.frames l) x)) left_is in
        let old = h.once l x in
        omega (arith, set, joined, last, one, taken, left, old)

    pub puts : IsAwaited net after
    puts = record {
      coming = λ u. all_from (IsOnItsWay net after u) (w.volatile u).awaiting (λ i x at.
          put_coming u x ((c.volatile u).awaiting i x at).0 (all_at (IsOnItsWay net w u) (w.volatile u).awaiting i x (h.coming u) at));
      once = λ k x. by_other_lane (λ k b. count_by (lies_at k x) (w.volatile (sender net.site k)).window +
          count_by (told_at k x) (number_set w.placings from (w.placings from ++ told ∷ []) (sender net.site k)) +
          count_by (waits_at (w.frames k) x) (if b then without_frame o.frame (w.outgoing l) else w.outgoing k) ≤ 1) l (put_here x)
          (λ k apart. let same = others_placed k x (sender net.site k) apart in let old = h.once k x in omega (arith, same, old)) k;
    }

  transmits_one : (l : Lane) (j : ℕ) (environment : Environment) (o : Option Outgoing) → outgoing_of j (w.outgoing l) ≡ o → IsAwaited net (transmit_one net w l environment o).0
  transmits_one l j environment None is = h
  transmits_one l j environment (Some o) is =
      by_test (λ (r : World × Outcome). IsAwaited net r.0) (is_no_memory environment || is_io_fault environment) _ _ (λ t. puts l j o is _ _) (λ t. puts l j o is _ _)

  pub transmits : (l : Lane) (j : ℕ) (environment : Environment) → IsAwaited net (transmit net w l j environment).0
  unfolding transmit
  transmits l j environment = transmits_one l j environment (outgoing_of j (w.outgoing l)) refl
