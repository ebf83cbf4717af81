-- The rest of a list from a place on, and what a plan puts on a lane.
use Rattle.std.proofs.Common.{◌≡◌, ℕ, zero, suc, ◌+◌, ◌<◌, ◌≤◌, true, false, List, [], ◌∷◌, ◌++◌, length, drop, map, refl, sym, ap, ◌∙◌, arith, append_assoc}
use Rattle.std.specs.Prelude.{get_or, filter}
use Rattle.qkd_base.specs.Lane.{lane_eq}
use Rattle.qkd_base.specs.declared.lane.Lane.{Lane}
use Rattle.net_model.specs.declared.order.Order.{Order}
use Rattle.net_model.specs.declared.repeat.Repeat.{Repeat}
use Rattle.net_model.specs.Tick.{Again, New, tick_order}
use Rattle.law_base.proofs.Base.{when_true, when_false}
use Rattle.world_state.specs.Sending.{repeats_on, orders_on}

dropped : {A : Type 0} (xs : List A) (i : ℕ) (x : A) → i < length xs → x ≡ get_or xs i x → drop i xs ≡ x ∷ drop (suc i) xs
dropped [] i x below is = absurd (omega (arith, below))
dropped (y ∷ ys) zero x below is = ap (λ (z : _). z ∷ ys) (sym is)
dropped (y ∷ ys) (suc i) x below is = dropped ys i x (omega (arith, below)) is

pub drop_next : {A : Type 0} (xs : List A) (i : ℕ) (x : A) → i < length xs → x ≡ get_or xs i x → drop i xs ≡ x ∷ drop (i + 1) xs
drop_next xs i x below is =
    let same : suc i ≡ i + 1 = omega arith in
    dropped xs i x below is ∙ ap (λ (n : ℕ). x ∷ drop n xs) same

pub drop_all : {A : Type 0} (xs : List A) (i : ℕ) → length xs ≤ i → drop i xs ≡ []
drop_all [] zero above = refl
drop_all [] (suc i) above = refl
drop_all (y ∷ ys) zero above = absurd (omega (arith, above))
drop_all (y ∷ ys) (suc i) above = drop_all ys i (omega (arith, above))

module _ (l : Lane) (rs : List Repeat) (i : ℕ) (r : Repeat) (below : i < length rs) (is : r ≡ get_or rs i r) where
  pub repeat_here : lane_eq r.lane l ≡ true → repeats_on l (drop i rs) ≡ (Again r ∷ []) ++ repeats_on l (drop (i + 1) rs)
  repeat_here e =
      ap (repeats_on l) (drop_next rs i r below is) ∙ ap (map Again) (when_true (lane_eq r.lane l) (r ∷ filter (λ (x : Repeat). lane_eq x.lane l) (drop (i + 1) rs)) _ e)

  pub repeat_elsewhere : lane_eq r.lane l ≡ false → repeats_on l (drop i rs) ≡ repeats_on l (drop (i + 1) rs)
  repeat_elsewhere e =
      ap (repeats_on l) (drop_next rs i r below is) ∙ ap (map Again) (when_false (lane_eq r.lane l) (r ∷ filter (λ (x : Repeat). lane_eq x.lane l) (drop (i + 1) rs)) _ e)

module _ (l : Lane) (os : List Order) (i : ℕ) (o : Order) (below : i < length os) (is : o ≡ get_or os i o) where
  pub order_here : lane_eq o.lane l ≡ true → orders_on l (drop i os) ≡ (New o ∷ []) ++ orders_on l (drop (i + 1) os)
  order_here e =
      ap (orders_on l) (drop_next os i o below is) ∙ ap (map New) (when_true (lane_eq o.lane l) (o ∷ filter (λ (x : Order). lane_eq x.lane l) (drop (i + 1) os)) _ e)

  pub order_elsewhere : lane_eq o.lane l ≡ false → orders_on l (drop i os) ≡ orders_on l (drop (i + 1) os)
  order_elsewhere e =
      ap (orders_on l) (drop_next os i o below is) ∙ ap (map New) (when_false (lane_eq o.lane l) (o ∷ filter (λ (x : Order). lane_eq x.lane l) (drop (i + 1) os)) _ e)

-- A tick puts what goes on the next lane, and then what goes on the lanes after it.

module _ (ls : List Lane) (i : ℕ) (l : Lane) (rs : List Repeat) (os : List Order) where
  next_lane : (rest : List Lane) → tick_order (l ∷ rest) rs os ≡ repeats_on l rs ++ (orders_on l os ++ tick_order rest rs os)
  unfolding tick_order
  next_lane rest = append_assoc (repeats_on l rs) (orders_on l os) _

  pub lane_here : i < length ls → l ≡ get_or ls i l → tick_order (drop i ls) rs os ≡ repeats_on l rs ++ (orders_on l os ++ tick_order (drop (i + 1) ls) rs os)
  lane_here below is = ap (λ (xs : List Lane). tick_order xs rs os) (drop_next ls i l below is) ∙ next_lane (drop (i + 1) ls)

pub no_lane : (ls : List Lane) (i : ℕ) (rs : List Repeat) (os : List Order) → length ls ≤ i → tick_order (drop i ls) rs os ≡ []
unfolding tick_order
no_lane ls i rs os above = ap (λ (xs : List Lane). tick_order xs rs os) (drop_all ls i above)
