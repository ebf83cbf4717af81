-- The places of a set of facts: they stay while nothing is added, and new names get places after all octets drawn
-- before.
use Rattle.std.proofs.Common.{◌≡◌, ◌≢◌, ℕ, ◌+◌, ◌<◌, ◌≤◌, Bool, true, ◌&&◌, length, sym, ◌∙◌, ap, arith, ◌⊎◌, inl, inr}
use Rattle.std.specs.Prelude.{◌==◌, nat_lt, if◌then◌else◌}
use Rattle.std.proofs.lemmas.Bool.Decides.{nat_tests}
use Rattle.qkd_base.specs.Name.{Name}
use Rattle.net_model.specs.declared.fact.Fact.{Fact}
use Rattle.net_model.specs.Table.{bytes_of, origin, is_secret}
use Rattle.net_model.specs.OctetSequence.{octets_from}
use Rattle.net_model.specs.World.{Network}
use Rattle.law_base.proofs.Base.{eq_from, eq_same, and_left, and_right, and_both, not_false, when_true, when_false}
use Rattle.law_safety.specs.Places.{IsAtPlace}
use Rattle.law_invariant.proofs.Cuts.{IsCutAt, apart_as}
use Rattle.law_invariant.specs.HandedName.{handed_name, AreApart}

-- The facts of the set have places below what was drawn, and their bytes don't overlap.
pub record IsLaid (net : Network) (T : Fact → Type 0) (drawn : ℕ → ℕ) : Type 0 where
  pub place : Name → ℕ
  pub each : (f : Fact) → T f → is_secret f ≡ true → IsAtPlace net drawn place f
  pub apart : (f g : Fact) → T f → T g → is_secret f ≡ true → is_secret g ≡ true → origin f ≡ origin g → handed_name f ≢ handed_name g → AreApart place f g

pub laid_stays : (net : Network) (T T' : Fact → Type 0) (drawn drawn' : ℕ → ℕ) → ((f : Fact) → T' f → is_secret f ≡ true → T f) → ((u : ℕ) → drawn u ≤ drawn' u) →
    IsLaid net T drawn → IsLaid net T' drawn'
laid_stays net T T' drawn drawn' back more h =
    record {
      place = h.place;
      each = λ f t secret. let x = h.each f (back f t secret) secret in let le = more (origin f) in record { bytes = x.bytes; within = omega (arith, x.within, le) };
      apart = λ f g t u secret secret'. h.apart f g (back f t secret) (back g u secret') secret secret';
    }

-- The fact's name is one of its origin, and isn't a new name of node v.
pub record IsOlder (v c : ℕ) (f : Fact) : Type 0 where
  pub named : (handed_name f).node ≡ origin f
  pub below : origin f ≡ v → (handed_name f).count ≤ c

module _ (net : Network) (T T' N : Fact → Type 0) (drawn drawn' : ℕ → ℕ) (v c to : ℕ) (at : Name → ℕ) (h : IsLaid net T drawn) where
  -- The name is a new one of the node and has a new place.
  abbrev is_new : Name → Bool
  is_new n = (n.node == v) && nat_lt c n.count

  abbrev place' : Name → ℕ
  place' n = if is_new n then at n else h.place n

  place_new : (f : Fact) → IsCutAt (net.entropy v).octet v c (drawn v) to at f → place' (handed_name f) ≡ at (handed_name f)
  place_new f x =
      let big : nat_lt c (handed_name f).count ≡ true = let a = x.above in grind (arith, nat_tests) in
      let here : ((handed_name f).node == v) ≡ true = ap (λ (u : ℕ). u == v) x.node ∙ eq_same v in
      when_true (is_new (handed_name f)) _ _ (and_both ((handed_name f).node == v) (nat_lt c (handed_name f).count) here big)

  place_old : (f : Fact) → IsOlder v c f → place' (handed_name f) ≡ h.place (handed_name f)
  place_old f x =
      when_false (is_new (handed_name f)) _ _ (not_false (is_new (handed_name f)) (λ e.
      let mine : origin f ≡ v = sym x.named ∙ eq_from (handed_name f).node v (and_left ((handed_name f).node == v) (nat_lt c (handed_name f).count) e) in
      let low = x.below mine in
      let big : nat_lt c (handed_name f).count ≡ true = and_right ((handed_name f).node == v) (nat_lt c (handed_name f).count) e in
      not_above (handed_name f).count low big))
    where
      not_above : (n : ℕ) → n ≤ c → nat_lt c n ≡ true → ⊥
      not_above n low big = let high : c < n = grind (arith, nat_tests) in absurd (omega (arith, low, high))

  pub laid_more : ((f : Fact) → T f → is_secret f ≡ true → IsOlder v c f) →
      ((f : Fact) → N f → is_secret f ≡ true → (origin f ≡ v) × IsCutAt (net.entropy v).octet v c (drawn v) to at f) →
      ((f g : Fact) → N f → N g → is_secret f ≡ true → is_secret g ≡ true → handed_name f ≢ handed_name g → AreApart at f g) →
      ((f : Fact) → T' f → is_secret f ≡ true → T f ⊎ N f) → ((u : ℕ) → drawn u ≤ drawn' u) → to ≤ drawn' v → IsLaid net T' drawn'
  laid_more older cut differ cases more end' =
      record {
        place = place';
        each = λ f t secret. elim (cases f t secret) [ inl old ↦ old_at f old secret | inr new ↦ new_at f new secret ];
        apart = λ f g t u secret secret' same ne. elim (cases f t secret) [
          | inl old ↦ elim (cases g u secret') [
            | inl old' ↦ apart_as h.place place' f g (place_old f (older f old secret)) (place_old g (older g old' secret')) (h.apart f g old old' secret secret' same ne)
            | inr new' ↦ inl (after f g old secret new' secret' same)
          ]
          | inr new ↦ elim (cases g u secret') [
            | inl old' ↦ inr (after g f old' secret' new secret (sym same))
            | inr new' ↦ apart_as at place' f g (place_new f (cut f new secret).1) (place_new g (cut g new' secret').1) (differ f g new new' secret secret' ne)
          ]
        ];
      }
    where
      old_at : (f : Fact) → T f → is_secret f ≡ true → IsAtPlace net drawn' place' f
      old_at f t secret =
          let x = h.each f t secret in
          let e = place_old f (older f t secret) in
          let le = more (origin f) in
          record {
            bytes = x.bytes ∙ ap (λ (p : ℕ). octets_from (net.entropy (origin f)).octet p (length (bytes_of f))) (sym e);
            within = omega (arith, x.within, e, le);
          }

      new_at : (f : Fact) → N f → is_secret f ≡ true → IsAtPlace net drawn' place' f
      new_at f n secret =
          let x = (cut f n secret).1 in
          let e = place_new f x in
          let mine = (cut f n secret).0 in
          let end2 = ap drawn' mine in
          record {
            bytes = x.bytes ∙ ap (λ (p : ℕ). octets_from (net.entropy v).octet p (length (bytes_of f))) (sym e) ∙
                ap (λ (u : ℕ). octets_from (net.entropy u).octet (place' (handed_name f)) (length (bytes_of f))) (sym mine);
            within = omega (arith, x.within, e, end2, end');
          }

      -- The bytes of a new name stand after everything that was drawn before.
      after : (f g : Fact) → T f → is_secret f ≡ true → N g → is_secret g ≡ true → origin f ≡ origin g →
          place' (handed_name f) + length (bytes_of f) ≤ place' (handed_name g)
      after f g t secret n secret' same =
          let x = h.each f t secret in
          let y = (cut g n secret').1 in
          let e = place_old f (older f t secret) in
          let e2 = place_new g y in
          let mine = ap drawn (same ∙ (cut g n secret').0) in
          omega (arith, x.within, y.after, e, e2, mine)
