-- The octets drawn for keys, cut into the bytes of each key.
use Rattle.std.proofs.Common.{◌≡◌, ℕ, zero, suc, ◌+◌, ◌-◌, ◌*◌, ◌/◌, ◌<◌, ◌≤◌, true, List, ◌∷◌, length, take, drop, refl, sym, ◌∙◌, ap, subst, arith}
use Rattle.std.specs.Prelude.{nat_lt}
use Rattle.std.specs.List.{list_all}
use Rattle.std.proofs.lemmas.Bool.Decides.{nat_tests}
use Rattle.net_model.specs.OctetSequence.{octets_from}
use Rattle.net_model.specs.Facts.{IsSize}
use Rattle.net_model.specs.Ranges.{IsOctets}
use Rattle.net_model.specs.Streams.{is_size}
use Rattle.law_base.proofs.Base.{and_both}
use Rattle.law_base.proofs.Octets.{length-octets_from, from_octets}

take_drawn : (octet : ℕ → ℕ) (place size n : ℕ) → size ≤ n → take size (octets_from octet place n) ≡ octets_from octet place size
unfolding octets_from
take_drawn octet place zero n h = refl
take_drawn octet place (suc size) zero h = absurd (omega arith)
take_drawn octet place (suc size) (suc n) h = ap (λ (xs : List ℕ). octet place ∷ xs) (take_drawn octet (place + 1) size n (omega arith))

drop_drawn : (octet : ℕ → ℕ) (place size n : ℕ) → size ≤ n → drop size (octets_from octet place n) ≡ octets_from octet (place + size) (n - size)
unfolding octets_from
drop_drawn octet place zero n h =
    let e : place ≡ place + 0 = omega arith in let e2 : n ≡ n - 0 = omega arith in
    ap (λ (p : ℕ). octets_from octet p n) e ∙ ap (octets_from octet (place + 0)) e2
drop_drawn octet place (suc size) zero h = absurd (omega arith)
drop_drawn octet place (suc size) (suc n) h =
    let e : place + 1 + size ≡ place + suc size = omega arith in let e2 : n - size ≡ suc n - suc size = omega arith in
    drop_drawn octet (place + 1) size n (omega arith) ∙ ap (λ (p : ℕ). octets_from octet p (n - size)) e ∙ ap (octets_from octet (place + suc size)) e2

-- The list holds the bytes of k keys of `size` octets each, as the sequence has them from a place on.
abbrev pub Supply : (ℕ → ℕ) → ℕ → ℕ → ℕ → List ℕ → Type 0
Supply octet place size zero random = Unit {0}
Supply octet place size (suc k) random = (take size random ≡ octets_from octet place size) × Supply octet (place + size) size k (drop size random)

pub supply : (octet : ℕ → ℕ) (place size k n : ℕ) → size * k ≤ n → Supply octet place size k (octets_from octet place n)
supply octet place size zero n h = tt
supply octet place size (suc k) n h =
    let more : size * suc k ≡ size * k + size = omega arith in
    let le : size ≤ n = omega (arith, more, h) in
    let rest : size * k ≤ n - size = omega (arith, more, h) in (
      take_drawn octet place size n le,
      subst (Supply octet (place + size) size k) (sym (drop_drawn octet place size n le)) (supply octet (place + size) size k (n - size) rest),
    )

pub bytes_len : (octet : ℕ → ℕ) (place size : ℕ) (bytes : List ℕ) → bytes ≡ octets_from octet place size → length bytes ≡ size
bytes_len octet place size bytes h = ap length h ∙ length-octets_from octet place size

pub bytes_octets : (octet : ℕ → ℕ) → ((i : ℕ) → octet i < 256) → (place size : ℕ) (bytes : List ℕ) → bytes ≡ octets_from octet place size → IsOctets bytes
bytes_octets octet h place size bytes is = ap (list_all (λ b. nat_lt b 256)) is ∙ from_octets octet h place size

pub size_is : (bits : ℕ) → is_size bits ≡ true → IsSize (bits / 8)
size_is bits h =
    let low : 64 ≤ bits = grind (arith, nat_tests) in
    let high : bits ≤ 4096 = grind (arith, nat_tests) in
    (omega (arith, low), omega (arith, high))
