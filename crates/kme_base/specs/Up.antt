-- Which links are up, as the bits of a number.
use Rattle.std.specs.Prelude.{◌≡◌, ℕ, ◌<◌, Bool}
use Rattle.route_table.specs.Layer.{bit_is_set}

-- For each link below 32: link l is up exactly if bit l is set.
abbrev pub AreUp : ℕ → (ℕ → Bool) → Type 0
AreUp up is_up = (link : ℕ) → link < 32 → is_up link ≡ bit_is_set up link
