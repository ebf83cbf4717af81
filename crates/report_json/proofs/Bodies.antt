-- Octets that are no text.
use Rattle.std.proofs.Common.{◌≡◌, ℕ, Bool, true, false, List, IsUtf8, refl}
use Rattle.std.specs.Str.{is_utf8}
use Rattle.std.proofs.lemmas.Str.{IsUtf8-from_is_utf8}

pub not_utf8 : (bytes : List ℕ) → ¬ (IsUtf8 bytes) → is_utf8 bytes ≡ false
not_utf8 bytes other = by_text (is_utf8 bytes) refl
  where
    by_text : (b : Bool) → is_utf8 bytes ≡ b → is_utf8 bytes ≡ false
    by_text true holds = absurd (other (IsUtf8-from_is_utf8 bytes holds))
    by_text false fails = fails
