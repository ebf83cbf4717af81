-- The least offset of the frames that pass a test.
use Rattle.std.proofs.Common.{◌≡◌, ℕ, zero, suc, ◌+◌, ◌<◌, ◌≤◌, Bool, true, false, ◌||◌, ◌&&◌, List, [], ◌∷◌, ◌++◌, length, refl, sym, ◌∙◌, ap, subst, arith, Option, Some, None}
use Rattle.std.specs.Prelude.{slice_get, ◌==◌, nat_lt, not, if◌then◌else◌}
use Rattle.std.specs.List.{list_any}
use Rattle.std.proofs.lemmas.Bool.Decides.{nat_tests}
use Rattle.std.proofs.lemmas.List.Folds.{list_any-append}
use Rattle.relay_core.proofs.Names.{eq_same, and_left, and_right}
use Rattle.resend_window.specs.declared.held.Held.{Held}
use Rattle.resend_window.specs.Held.{AreHeld, IsHeld}
use Rattle.resend_window.specs.Kept.{somes}
use Rattle.resend_window.specs.Lists.{IsLeast, lesser}

-- if no item passes a test, none passes a stronger one
pub any_less : {A : Type 0} (t u : A → Bool) → ((x : A) → u x ≡ true → t x ≡ true) → (xs : List A) → list_any t xs ≡ false → list_any u xs ≡ false
any_less t u less [] h = refl
any_less {A} t u less (x ∷ xs) h = by (u x) refl (any_less t u less xs)
  where
    or_first : (a b : Bool) → (a || b) ≡ false → a ≡ false
    or_first true b e = e
    or_first false b e = refl

    or_second : (a b : Bool) → (a || b) ≡ false → b ≡ false
    or_second true b e = cc
    or_second false b e = e

    by : (b : Bool) → u x ≡ b → (list_any t xs ≡ false → list_any u xs ≡ false) → (b || list_any u xs) ≡ false
    by true e r = let t1 : true ≡ false = sym (less x e) ∙ or_first (t x) (list_any t xs) h in absurd (let z : ⊥ = cc in z)
    by false e r = r (or_second (t x) (list_any t xs) h)

or_none : (a b : Bool) → a ≡ false → b ≡ false → (a || b) ≡ false
or_none true b h k = h
or_none false b h k = k

or_here : (a b : Bool) → b ≡ true → (a || b) ≡ true
or_here true b h = refl
or_here false b h = h

or_there : (a b : Bool) → a ≡ true → (a || b) ≡ true
or_there true b h = refl
or_there false b h = cc

and_none : (a b : Bool) → a ≡ false → (a && b) ≡ false
and_none true b h = cc
and_none false b h = refl

and_no : (a b : Bool) → b ≡ false → (a && b) ≡ false
and_no true b h = h
and_no false b h = refl

and_both : (a b : Bool) → a ≡ true → b ≡ true → (a && b) ≡ true
and_both true b h k = k
and_both false b h k = cc

not_less : (a : ℕ) → nat_lt a a ≡ false
not_less a = grind (arith, nat_tests)

less_yet : (o x a : ℕ) → nat_lt x a ≡ true → nat_lt o x ≡ true → nat_lt o a ≡ true
less_yet o x a h k = grind (arith, nat_tests)

lesser_none : (o : Option ℕ) → lesser o None ≡ o
lesser_none None = refl
lesser_none (Some a) = refl

push_false : {A : Type 0} (t : A → Bool) (xs : List A) (x : A) → list_any t xs ≡ false → t x ≡ false → list_any t (xs ++ x ∷ []) ≡ false
push_false t xs x h k = list_any-append t xs (x ∷ []) ∙ or_none (list_any t xs) (t x || false) h (or_none (t x) false k refl)

push_here : {A : Type 0} (t : A → Bool) (xs : List A) (x : A) → t x ≡ true → list_any t (xs ++ x ∷ []) ≡ true
push_here t xs x k = list_any-append t xs (x ∷ []) ∙ or_here (list_any t xs) (t x || false) (or_there (t x) false k)

push_there : {A : Type 0} (t : A → Bool) (xs : List A) (x : A) → list_any t xs ≡ true → list_any t (xs ++ x ∷ []) ≡ true
push_there t xs x k = list_any-append t xs (x ∷ []) ∙ or_there (list_any t xs) (t x || false) k

least_pass : (t : Held → Bool) (hs : List Held) (h : Held) (o : Option ℕ) → t h ≡ true → IsLeast t hs o → IsLeast t (hs ++ h ∷ []) (lesser o (Some h.offset))
least_pass t hs h None p least = (
  push_here (λ k. t k && (k.offset == h.offset)) hs h (and_both (t h) (h.offset == h.offset) p (eq_same h.offset)),
  push_false (λ k. t k && nat_lt k.offset h.offset) hs h (any_less t (λ k. t k && nat_lt k.offset h.offset) (λ k g. and_left (t k) (nat_lt k.offset h.offset) g) hs least)
      (and_no (t h) (nat_lt h.offset h.offset) (not_less h.offset)),
)
least_pass t hs h (Some a) p least = by (nat_lt h.offset a) refl
  where
    by : (b : Bool) → nat_lt h.offset a ≡ b → IsLeast t (hs ++ h ∷ []) (Some (if b then h.offset else a))
    by true e = (
      push_here (λ k. t k && (k.offset == h.offset)) hs h (and_both (t h) (h.offset == h.offset) p (eq_same h.offset)),
      push_false (λ k. t k && nat_lt k.offset h.offset) hs h
          (any_less (λ k. t k && nat_lt k.offset a) (λ k. t k && nat_lt k.offset h.offset)
          (λ k g. and_both (t k) (nat_lt k.offset a) (and_left (t k) (nat_lt k.offset h.offset) g) (less_yet k.offset h.offset a e (and_right (t k) (nat_lt k.offset h.offset) g))) hs least.1)
          (and_no (t h) (nat_lt h.offset h.offset) (not_less h.offset)),
    )
    by false e = (
      push_there (λ k. t k && (k.offset == a)) hs h least.0,
      push_false (λ k. t k && nat_lt k.offset a) hs h least.1 (and_no (t h) (nat_lt h.offset a) e),
    )

least_fail : (t : Held → Bool) (hs : List Held) (h : Held) (o : Option ℕ) → t h ≡ false → IsLeast t hs o → IsLeast t (hs ++ h ∷ []) o
least_fail t hs h None p least = push_false t hs h least p
least_fail t hs h (Some a) p least = (
  push_there (λ k. t k && (k.offset == a)) hs h least.0,
  push_false (λ k. t k && nat_lt k.offset a) hs h least.1 (and_none (t h) (nat_lt h.offset a) p),
)

somes_more : {A : Type 0} (xs : List (Option A)) (o : Option A) → somes (xs ++ o ∷ []) ≡ somes xs ++ somes (o ∷ [])
somes_more [] o = refl
somes_more (None ∷ xs) o = somes_more xs o
somes_more (Some x ∷ xs) o = ap (λ ys. x ∷ ys) (somes_more xs o)

append_none : {A : Type 0} (xs : List A) → xs ++ [] ≡ xs
append_none [] = refl
append_none (x ∷ xs) = ap (λ ys. x ∷ ys) (append_none xs)

abbrev pub offset_if : (Held → Bool) → Option Held → Option ℕ
offset_if t None = None
offset_if t (Some h) = if t h then Some h.offset else None

-- the least offset, with one more slot
pub least_more : (t : Held → Bool) (xs : List (Option Held)) (o : Option Held) (least : Option ℕ) → IsLeast t (somes xs) least → IsLeast t (somes (xs ++ o ∷ [])) (lesser least (offset_if t o))
least_more t xs None least h =
    subst (λ (hs : List Held). IsLeast t hs (lesser least None)) (sym (somes_more xs None ∙ append_none (somes xs)))
    (subst (λ (o : Option ℕ). IsLeast t (somes xs) o) (sym (lesser_none least)) h)
least_more t xs (Some k) least h = subst (λ (hs : List Held). IsLeast t hs (lesser least (offset_if t (Some k)))) (sym (somes_more xs (Some k))) (by (t k) refl)
  where
    by : (b : Bool) → t k ≡ b → IsLeast t (somes xs ++ k ∷ []) (lesser least (if b then Some k.offset else None))
    by true e = least_pass t (somes xs) k least e h
    by false e = subst (λ (o : Option ℕ). IsLeast t (somes xs ++ k ∷ []) o) (sym (lesser_none least)) (least_fail t (somes xs) k least e h)

-- a frame in a slot of valid frames is valid
pub held_there : (tick : ℕ) (slots : List (Option Held)) (p : ℕ) (h : Held) → AreHeld tick (somes slots) → slice_get slots p ≡ Some (Some h) → IsHeld tick h
held_there tick [] p h are g = cc
held_there tick (None ∷ xs) zero h are g = cc
held_there tick (None ∷ xs) (suc p) h are g = held_there tick xs p h are g
held_there tick (Some k ∷ xs) zero h are g = let same : k ≡ h = cc in subst (IsHeld tick) same are.0
held_there tick (Some k ∷ xs) (suc p) h are g = held_there tick xs p h are.1 g
