-- All links are up at first.
use Rattle.std.proofs.Common.{◌≡◌, ◌⊎◌, inl, inr, ℕ, zero, suc, ◌-◌, ◌^◌, ◌<◌, Bool, true, ◌&&◌, refl, sym, ap, subst, ◌∙◌, arith}
use Rattle.net_model.specs.World.{first}
use Rattle.route_table.specs.Layer.{bit_is_set}
use Rattle.kme_base.specs.Up.{AreUp}
use Rattle.law_base.proofs.Base.{and_left, and_right}

abbrev set_below : ℕ → Bool
set_below zero = true
set_below (suc n) = set_below n && bit_is_set (2 ^ 32 - 1) n

below_or_at : (a b : ℕ) → a < suc b → (a < b) ⊎ (b ≡ a)
below_or_at a zero h = inr (omega (arith, h))
below_or_at zero (suc b) h = inl (omega arith)
below_or_at (suc a) (suc b) h = more (below_or_at a b (omega (arith, h)))
  where
    more : (a < b) ⊎ (b ≡ a) → (suc a < suc b) ⊎ (suc b ≡ suc a)
    more (inl x) = inl (omega (arith, x))
    more (inr x) = inr (ap suc x)

by_last : (n link : ℕ) → set_below n && bit_is_set (2 ^ 32 - 1) n ≡ true → (link < n → bit_is_set (2 ^ 32 - 1) link ≡ true) → (link < n) ⊎ (n ≡ link) → bit_is_set (2 ^ 32 - 1) link ≡ true
by_last n link all older (inl less) = older less
by_last n link all older (inr same) = subst (λ (k : ℕ). bit_is_set (2 ^ 32 - 1) k ≡ true) same (and_right (set_below n) (bit_is_set (2 ^ 32 - 1) n) all)

is_set : (n link : ℕ) → set_below n ≡ true → link < n → bit_is_set (2 ^ 32 - 1) link ≡ true
is_set zero link all below = absurd (omega (arith, below))
is_set (suc n) link all below =
    by_last n link all (λ less. is_set n link (and_left (set_below n) (bit_is_set (2 ^ 32 - 1) n) all) less) (below_or_at link n below)

pub up_when : (up : ℕ → Bool) → ((link : ℕ) → up link ≡ true) → AreUp (2 ^ 32 - 1) up
up_when up all link below = all link ∙ sym (is_set 32 link refl below)

pub all_up : AreUp (2 ^ 32 - 1) first.link_up
unfolding first
all_up = up_when first.link_up (λ link. refl)
