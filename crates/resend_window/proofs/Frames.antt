-- The sent frame that an order's placing describes.
use Rattle.std.proofs.Common.{◌≡◌, ℕ, zero, suc, ◌+◌, ◌-◌, ◌<◌, ◌≤◌, ◌^◌, Bool, true, false, ◌||◌, ◌&&◌, List, [], ◌∷◌, ◌++◌, length, take, drop, replicate, refl, sym, ◌∙◌, ap, subst, arith, Option, Some, None, ◌⊎◌, inl, inr}
use Rattle.std.specs.Prelude.{nat_le, not, is_some, is_none, if◌then◌else◌}
use Rattle.std.proofs.lemmas.Bool.Decides.{nat_tests}
use Rattle.std.proofs.lemmas.List.{drop-replicate}
use Rattle.qkd_base.specs.declared.frame_octets.FrameOctets.{FrameOctets}
use Rattle.net_model.specs.declared.placing.Placing.{Placing}
use Rattle.net_model.specs.Item.{item_of}
use Rattle.net_model.specs.Window.{entry_of, room_octets}
use Rattle.resend_window.specs.declared.held.Held.{Held}
use Rattle.resend_window.specs.Held.{entry_at, IsHeld}

pub length_take : {A : Type 0} (n : ℕ) (xs : List A) → n ≤ length xs → length (take n xs) ≡ n
length_take zero xs h = refl
length_take (suc n) [] h = absurd (omega arith)
length_take (suc n) (x ∷ xs) h = let r = length_take n xs (omega arith) in omega arith

pub drop_zeros : (n m : ℕ) → drop n (replicate {A = ℕ} m 0) ≡ replicate (m - n) 0
drop_zeros n m = drop-replicate n m 0

take_front : {A : Type 0} (xs ys : List A) → take (length xs) (xs ++ ys) ≡ xs
take_front [] ys = refl
take_front (x ∷ xs) ys = ap (λ zs. x ∷ zs) (take_front xs ys)

pub take_long : {A : Type 0} (n : ℕ) (xs : List A) → length xs ≤ n → take n xs ≡ xs
take_long zero [] h = refl
take_long zero (x ∷ xs) h = absurd (omega arith)
take_long (suc n) [] h = refl
take_long (suc n) (x ∷ xs) h = ap (λ ys. x ∷ ys) (take_long n xs (omega arith))

front_kept : (f octets : List ℕ) (len : ℕ) → length f ≡ 600 → octets ≡ take len f ++ replicate (600 - len) 0 → len ≤ 600 → take len octets ≡ take len f
front_kept f octets len whole e le =
    let size : length (take len f) ≡ len = length_take len f (omega arith) in
    ap (take len) e ∙ ap (λ k. take k (take len f ++ replicate (600 - len) 0)) (sym size) ∙ take_front (take len f) (replicate (600 - len) 0)

pub frame_kept : (f : List ℕ) (p len : ℕ) (octets : List ℕ) → length f ≡ 600 → octets ≡ take len f ++ replicate (600 - len) 0 → ((len ≡ p) × (p ≤ 600)) ⊎ ((len ≡ 600) × (600 < p)) → take len octets ≡ take p f
frame_kept f p len octets whole e (inl (s, le)) = front_kept f octets len whole e (omega arith) ∙ ap (λ k. take k f) s
frame_kept f p len octets whole e (inr (s, lt)) = front_kept f octets len whole e (omega arith) ∙ take_long len f (omega arith) ∙ sym (take_long p f (omega arith))

none_is : (o : Option ℕ) (r : Bool) → is_some o ≡ not r → r ≡ is_none o
none_is None true h = refl
none_is None false h = cc
none_is (Some x) true h = cc
none_is (Some x) false h = refl

age_none : (o : Option ℕ) (t : ℕ) → (if is_none o then t - t else 0) ≡ 0
age_none None t = omega arith
age_none (Some x) t = refl

due_none : (o : Option ℕ) (r : Bool) (t : ℕ) → (r || (is_none o && nat_le 4 (t - t))) ≡ r
due_none o r t = let e : t - t ≡ 0 = omega arith in ap (λ k. r || (is_none o && nat_le 4 k)) e ∙ by (is_none o) r
  where
    by : (b r : Bool) → (r || (b && false)) ≡ r
    by true true = refl
    by true false = refl
    by false true = refl
    by false false = refl

pub entry_new : (p : Placing) (x t : ℕ) (r : Bool) (len : ℕ) (f : FrameOctets) → x ≡ p.offset → is_some p.number ≡ not r → take len f.octets ≡ take p.length p.frame.octets →
    entry_at t (record { lane = p.lane; offset = x; name = p.name; ack_of = p.ack_of; number = p.number; sent = t; due = r; ripe = false; length = len; frame = f }) ≡ entry_of p
entry_new p x t r len f at none front =
    let a = age_none p.ack_of t in
    let d = due_none p.ack_of r t ∙ none_is p.number r none in
    λ i. record {
      transmission = record { lane = p.lane; item = item_of p.ack_of p.name; received_offset = p.ack_of };
      offset = at i;
      number = p.number;
      age = a i;
      due = d i;
      frame = front i;
    }

not_ripe : (o : Option ℕ) (t : ℕ) → false ≡ (is_none o && nat_le 4 ((t + 1) - t))
not_ripe None t = grind (arith, nat_tests)
not_ripe (Some x) t = refl

pub held_new : (p : Placing) (x t : ℕ) (r : Bool) (len : ℕ) (f : FrameOctets) → length p.frame.octets ≡ 600 → f.octets ≡ take len p.frame.octets ++ replicate (600 - len) 0 → len ≤ 600 → x < 2 ^ 64 →
    IsHeld t (record { lane = p.lane; offset = x; name = p.name; ack_of = p.ack_of; number = p.number; sent = t; due = r; ripe = false; length = len; frame = f })
held_new p x t r len f whole e le place =
    let size : length (take len p.frame.octets) ≡ len = length_take len p.frame.octets (omega arith) in
    let front = front_kept p.frame.octets f.octets len whole e le in
    let full = ap (λ xs. length xs) front ∙ size in
    record {
      sent = omega arith;
      size = full;
      clean = ap (λ (o : List ℕ). let x : FrameOctets = record { octets = o } in x) (e ∙ ap (λ (xs : List ℕ). xs ++ replicate (600 - len) 0) (sym front) ∙ ap (λ k. take len f.octets ++ replicate (600 - k) 0) (sym full));
      ripe = not_ripe p.ack_of t;
      place = place;
    }
