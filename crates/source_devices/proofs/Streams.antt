-- The octets of a key stream at consecutive places.
use Rattle.std.proofs.Common.{◌≡◌, ℕ, zero, suc, ◌+◌, ◌%◌, List, ◌∷◌, ◌^◌, sym, refl, ap, ap₂, subst, ◌∙◌, add_assoc, add-zero, zero-add}
use Rattle.std.proofs.Math.Nat.{mod-add-mod}
use Rattle.net_model.specs.OctetSequence.{octets_from}
use Rattle.source_devices.specs.Telling.{IsRest}
use Rattle.source_devices.specs.KeyStream.{told_from, octet_at, stream_octet, StreamForm}

-- The octet that a generator gives at its place is the stream's octet there.
pub octet_there : (s : StreamForm) (letter number place i v : ℕ) → s.letter ≡ letter → s.number ≡ number → s.place ≡ (place + i) % 2 ^ 70 → v ≡ octet_at s.letter s.number s.place →
    v ≡ stream_octet letter number (place + i)
unfolding stream_octet
octet_there s letter number place i v l n at is =
    is ∙ ap (λ (x : ℕ). octet_at x s.number s.place) l ∙ ap (λ (x : ℕ). octet_at letter x s.place) n ∙ ap (λ (x : ℕ). octet_at letter number x) at

-- Counting modulo 2^70, one more octet moves the place by one.
pub next_place : (now place i : ℕ) → now ≡ (place + i) % 2 ^ 70 → (now + 1) % 2 ^ 70 ≡ (place + (i + 1)) % 2 ^ 70
next_place now place i at = ap (λ (x : ℕ). (x + 1) % 2 ^ 70) at ∙ mod-add-mod (place + i) (2 ^ 70) 1 ∙ ap (λ (x : ℕ). x % 2 ^ 70) (add_assoc place i 1)

-- The octets of a shifted stream are those of the stream from a later place on.
pub shifted : (octet : ℕ → ℕ) (place from n : ℕ) → octets_from (λ i. octet (place + i)) from n ≡ octets_from octet (place + from) n
unfolding octets_from
shifted octet place from zero = refl
shifted octet place from (suc n) =
    ap (λ (r : List ℕ). octet (place + from) ∷ r) (shifted octet place (from + 1) n ∙ ap (λ (p : ℕ). octets_from octet p n) (sym (add_assoc place from 1)))

pub shifted_here : (octet : ℕ → ℕ) (place n : ℕ) → octets_from octet place n ≡ octets_from (λ i. octet (place + i)) 0 n
shifted_here octet place n = sym (shifted octet place 0 n ∙ ap (λ (p : ℕ). octets_from octet p n) (add-zero place))

same_octet : (letter number place n i : ℕ) → stream_octet letter number ((place + n) % 2 ^ 70 + i) ≡ stream_octet letter number (place + (n + i))
unfolding stream_octet
same_octet letter number place n i =
    ap (λ (p : ℕ). octet_at letter number p) (mod-add-mod (place + n) (2 ^ 70) i ∙ ap (λ (p : ℕ). p % 2 ^ 70) (add_assoc place n i))

-- After n octets a generator gives the rest of its stream.
pub rest_there : (s : StreamForm) (n : ℕ) → IsRest (told_from s) n (told_from (record s { place = (s.place + n) % 2 ^ 70 }))
rest_there s n = record { octet = λ i. same_octet s.letter s.number s.place n i; last = refl }

-- A generator at its first octet gives its node's entropy.
pub starts : (number i : ℕ) → stream_octet 0x45 number (0 + i) ≡ stream_octet 0x45 number i
starts number i = ap (stream_octet 0x45 number) (zero-add i)
