-- Networks whose devices and entropies begin alike.
use Rattle.std.proofs.Common.{◌≡◌, ℕ, zero, suc, ◌+◌, ◌*◌, ◌<◌, [], ◌∷◌, ◌++◌, length, refl, sym, ◌∙◌, arith}
use Rattle.net_model.specs.declared.fact.Fact.{Fact}
use Rattle.net_model.specs.Table.{bytes_of, origin}
use Rattle.net_model.specs.OctetSequence.{OctetSequence, octets_from, block_at, first_blocks}
use Rattle.net_model.specs.World.{Network, World}
use Rattle.net_model.specs.Drawn.{IsDrawn}
use Rattle.net_model.specs.Invariant.{Conserved}
use Rattle.law_lives.specs.NextNetwork.{IsNextNetwork, BeginsAs}

same_octets : (f g : ℕ → ℕ) (n place : ℕ) → ((i : ℕ) → i < place + n → g i ≡ f i) → octets_from g place n ≡ octets_from f place n
unfolding octets_from
same_octets f g zero place h = refl
same_octets f g (suc n) place h =
    let one = h place (omega arith) in
    let rest = same_octets f g n (place + 1) (λ i less. h i (omega (arith, less))) in
    λ i. one i ∷ rest i

same_blocks : (t u : OctetSequence) (n : ℕ) → ((i : ℕ) → i < 1024 * n → u.octet i ≡ t.octet i) → first_blocks u n ≡ first_blocks t n
unfolding first_blocks
same_blocks t u zero h = refl
same_blocks t u (suc n) h =
    let earlier = same_blocks t u n (λ i less. h i (omega (arith, less))) in
    let last : block_at u n ≡ block_at t n = same_octets t.octet u.octet 1024 (1024 * n) (λ i less. h i (omega (arith, less))) in
    λ i. earlier i ++ last i ∷ []

module _ (earlier later : Network) (w : World) (c : Conserved earlier w) (h : BeginsAs earlier later w) where
  drawn_there : (f : Fact) → IsDrawn earlier w f → IsDrawn later w f
  drawn_there f d = record {
    place = d.place;
    bytes = d.bytes ∙ sym (same_octets (earlier.entropy (origin f)).octet (later.entropy (origin f)).octet (length (bytes_of f)) d.place
        (λ i less. let within = d.within in h.entropies (origin f) i (omega (arith, less, within))));
    within = d.within;
  }

  pub front_is_next : IsNextNetwork earlier later w.drawn w
  front_is_next = record {
    site = h.site;
    blocks = λ l. same_blocks (earlier.device l.link) (later.device l.link) (w.durable.blocks l) (h.devices l);
    drawn = record { table = λ n f there secret. drawn_there f (c.drawn.table n f there secret); doubts = λ v n f at secret. drawn_there f (c.drawn.doubts v n f at secret) };
  }
