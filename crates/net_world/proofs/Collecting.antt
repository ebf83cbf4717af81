-- Collecting the different frames of a wire.
use Rattle.std.proofs.Common.{◌≡◌, ℕ, zero, suc, ◌+◌, ◌<◌, Bool, true, false, ◌||◌, List, [], ◌∷◌, ◌++◌, map, length, take, drop, get_or, set, get_or-set_same, get_or-set_other, append_assoc, refl, sym, ap, ◌∙◌, subst, arith, Some}
use Rattle.std.specs.Prelude.{◌==◌, slice_get}
use Rattle.std.specs.List.{AllByRecursion, list_any}
use Rattle.std.proofs.lemmas.List.{length-set}
use Rattle.std.proofs.lemmas.List.Folds.{list_any-append}
use Rattle.qkd_base.specs.declared.lane.Lane.{Lane}
use Rattle.net_model.specs.World.{Network, World}
use Rattle.net_model.specs.Invariant.{Conserved}
use Rattle.law_base.proofs.Base.{eq_same, eq_from, or_right, or_same}
use Rattle.law_base.proofs.Owners.{same_frame}
use Rattle.pad_veil.specs.declared.sealed_frame.SealedFrame.{SealedFrame}
use Rattle.net_world.specs.Other.{stands_in, unless_seen, new_after, each_once, sealed_with}
use Rattle.net_world.specs.Veiled.{veiled_facts}
use Rattle.net_world.proofs.Apart.{IsSent}

-- a list is split at an index into its prefix, the number there, and the rest
record Splits (ns : List ℕ) (n j : ℕ) : Type 0 where
  front : take (suc n) ns ≡ take n ns ++ j ∷ []
  back : drop n ns ≡ j ∷ drop (suc n) ns

splits : (ns : List ℕ) (n j : ℕ) → slice_get ns n ≡ Some j → Splits ns n j
splits [] n j at = cc
splits (x ∷ xs) zero j at = let same : x ≡ j = cc in record { front = ap (λ (k : ℕ). k ∷ []) same; back = ap (λ (k : ℕ). k ∷ xs) same }
splits (x ∷ xs) (suc n) j at = let rest = splits xs n j at in record { front = ap (λ (l : List ℕ). x ∷ l) rest.front; back = rest.back }

any_as : (p q : ℕ → Bool) (ns : List ℕ) (n : ℕ) → AllByRecursion (λ k. p k ≡ q k) ns → list_any p (take n ns) ≡ list_any q (take n ns)
any_as p q [] zero h = refl
any_as p q [] (suc n) h = refl
any_as p q (x ∷ xs) zero h = refl
any_as p q (x ∷ xs) (suc n) h = let here : p x ≡ q x = h.0 in let rest : list_any p (take n xs) ≡ list_any q (take n xs) = any_as p q xs n h.1 in rw (here, rest) refl

same_tests : (a b : Bool) → (a ≡ true → b ≡ true) → (b ≡ true → a ≡ true) → a ≡ b
same_tests true b f g = sym (f refl)
same_tests false true f g = g refl
same_tests false false f g = refl

module _ (S : ℕ → SealedFrame) (wire : List ℕ) where
  -- the frames that were collected from the first `n`, and the offsets that were marked
  pub record IsCollected (n : ℕ) (frames : List SealedFrame) (marks : List Bool) : Type 0 where
    pub rest : frames ++ map S (new_after (take n wire) (drop n wire)) ≡ map S (each_once wire)
    pub offsets : (x : ℕ) → x < length marks → get_or marks x false ≡ list_any (λ k. (S k).offset == x) (take n wire)

  pub none_collected : (marks : List Bool) → ((x : ℕ) → x < length marks → get_or marks x false ≡ false) → IsCollected 0 [] marks
  none_collected marks h = record { rest = refl; offsets = h }

  pub all_collected : (n : ℕ) (frames : List SealedFrame) (marks : List Bool) → length wire ≡ n → IsCollected n frames marks → frames ≡ map S (each_once wire)
  unfolding new_after
  all_collected n frames marks is c =
      sym (no_more frames) ∙ ap (λ (l : List ℕ). frames ++ map S (new_after (take n wire) l)) (sym (none_left wire n is)) ∙ c.rest
    where
      none_left : (ns : List ℕ) (n : ℕ) → length ns ≡ n → drop n ns ≡ []
      none_left [] zero e = refl
      none_left [] (suc n) e = refl
      none_left (x ∷ xs) zero e = absurd (omega (arith, e))
      none_left (x ∷ xs) (suc n) e = none_left xs n (omega (arith, e))

      no_more : (fs : List SealedFrame) → fs ++ [] ≡ fs
      no_more [] = refl
      no_more (f ∷ fs) = ap (λ (l : List SealedFrame). f ∷ l) (no_more fs)

  module _ (n j : ℕ) (at : slice_get wire n ≡ Some j) (same : AllByRecursion (λ k. (k == j) ≡ ((S k).offset == (S j).offset)) wire) where
    s : Splits wire n j
    s = splits wire n j at

    after : List ℕ
    after = new_after (take (suc n) wire) (drop (suc n) wire)

    left : new_after (take n wire) (drop n wire) ≡ unless_seen (stands_in (take n wire) j) j (new_after (take (suc n) wire) (drop (suc n) wire))
    unfolding new_after
    left =
        ap (new_after (take n wire)) s.back ∙ ap (λ (l : List ℕ). unless_seen (stands_in (take n wire) j) j (new_after l (drop (suc n) wire))) (sym s.front)

    seen_is : (marks : List Bool) → ((x : ℕ) → x < length marks → get_or marks x false ≡ list_any (λ k. (S k).offset == x) (take n wire)) → (S j).offset < length marks →
        stands_in (take n wire) j ≡ get_or marks (S j).offset false
    seen_is marks h lt = any_as (λ k. k == j) (λ k. (S k).offset == (S j).offset) wire n same ∙ sym (h (S j).offset lt)

    marks_after : (marks : List Bool) → ((x : ℕ) → x < length marks → get_or marks x false ≡ list_any (λ k. (S k).offset == x) (take n wire)) → (S j).offset < length marks →
        (x : ℕ) → x < length (set marks (S j).offset true) → get_or (set marks (S j).offset true) x false ≡ list_any (λ k. (S k).offset == x) (take (suc n) wire)
    marks_after marks h lt x within =
        let o : ℕ = (S j).offset in
        let front : list_any (λ k. (S k).offset == x) (take (suc n) wire) ≡ (list_any (λ k. (S k).offset == x) (take n wire) || (o == x || false)) =
        ap (list_any (λ k. (S k).offset == x)) s.front ∙ list_any-append (λ k. (S k).offset == x) (take n wire) (j ∷ []) in
        go (o == x) refl o front
      where
        go : (b : Bool) → ((S j).offset == x) ≡ b → (o : ℕ) →
            list_any (λ k. (S k).offset == x) (take (suc n) wire) ≡ (list_any (λ k. (S k).offset == x) (take n wire) || ((S j).offset == x || false)) →
            get_or (set marks (S j).offset true) x false ≡ list_any (λ k. (S k).offset == x) (take (suc n) wire)
        go true is o front =
            let e : (S j).offset ≡ x = eq_from (S j).offset x is in
            ap (λ (y : ℕ). get_or (set marks (S j).offset true) y false) (sym e) ∙ get_or-set_same marks (S j).offset true false lt ∙
            sym (front ∙ or_right (list_any (λ k. (S k).offset == x) (take n wire)) ((S j).offset == x || false) (ap (λ (t : Bool). t || false) is))
        go false is o front =
            let ne : x ≡ (S j).offset → ⊥ = λ e. let yes : ((S j).offset == x) ≡ true = ap (λ (y : ℕ). (S j).offset == y) e ∙ eq_same (S j).offset in cc in
            let size : x < length marks = omega (arith, within, length-set marks (S j).offset true) in
            get_or-set_other marks (S j).offset x true false ne ∙ h x size ∙
            sym (front ∙ or_same (list_any (λ k. (S k).offset == x) (take n wire)) ((S j).offset == x || false) (ap (λ (t : Bool). t || false) is))

    pub repeat_passed : (frames : List SealedFrame) (marks : List Bool) → IsCollected n frames marks → (S j).offset < length marks → get_or marks (S j).offset false ≡ true →
        IsCollected (suc n) frames (set marks (S j).offset true)
    repeat_passed frames marks c lt seen = record {
      rest = ap (λ (l : List ℕ). frames ++ map S l) (sym (left ∙ ap (λ (b : Bool). unless_seen b j (new_after (take (suc n) wire) (drop (suc n) wire))) (seen_is marks c.offsets lt ∙ seen))) ∙ c.rest;
      offsets = marks_after marks c.offsets lt;
    }

    pub new_collected : (frames : List SealedFrame) (marks : List Bool) → IsCollected n frames marks → (S j).offset < length marks → get_or marks (S j).offset false ≡ false →
        IsCollected (suc n) (frames ++ S j ∷ []) (set marks (S j).offset true)
    new_collected frames marks c lt new = record {
      rest =
          append_assoc frames (S j ∷ []) (map S (new_after (take (suc n) wire) (drop (suc n) wire))) ∙
          ap (λ (l : List ℕ). frames ++ map S l) (sym (left ∙ ap (λ (b : Bool). unless_seen b j (new_after (take (suc n) wire) (drop (suc n) wire))) (seen_is marks c.offsets lt ∙ new))) ∙ c.rest;
      offsets = marks_after marks c.offsets lt;
    }

    -- the frame that was read is collected if its offset was not marked
    module _ (f : SealedFrame) (is : f ≡ S j) (marks marks' : List Bool) (lt : f.offset < length marks) (marked : marks' ≡ set marks f.offset true) (frames frames' : List SealedFrame) (c : IsCollected n frames marks) where
      here : f.offset ≡ (S j).offset
      here = ap (λ (g : SealedFrame). g.offset) is

      next : suc n ≡ n + 1
      next = omega arith

      moved : (fs : List SealedFrame) → IsCollected (suc n) fs (set marks (S j).offset true) → frames' ≡ fs → IsCollected (n + 1) frames' marks'
      moved fs all same =
          subst (λ (k : ℕ). IsCollected k frames' marks') next
          (subst (λ (l : List SealedFrame). IsCollected (suc n) l marks') (sym same)
          (subst (λ (m : List Bool). IsCollected (suc n) fs m) (ap (λ (o : ℕ). set marks o true) (sym here) ∙ sym marked) all))

      pub passed_on : get_or marks f.offset false ≡ true → frames' ≡ frames → IsCollected (n + 1) frames' marks'
      passed_on seen same = moved frames (repeat_passed frames marks c (omega (arith, here, lt)) (ap (λ (o : ℕ). get_or marks o false) (sym here) ∙ seen)) same

      pub collected_too : get_or marks f.offset false ≡ false → frames' ≡ frames ++ f ∷ [] → IsCollected (n + 1) frames' marks'
      collected_too new same =
          moved (frames ++ S j ∷ []) (new_collected frames marks c (omega (arith, here, lt)) (ap (λ (o : ℕ). get_or marks o false) (sym here) ∙ new)) (same ∙ ap (λ (g : SealedFrame). frames ++ g ∷ []) is)

-- the number at an index of a list
pub number_at : (ns : List ℕ) (n : ℕ) → n < length ns → (j : ℕ) × (slice_get ns n ≡ Some j)
number_at [] n lt = absurd (omega (arith, lt))
number_at (x ∷ xs) zero lt = (x, refl)
number_at (x ∷ xs) (suc n) lt = number_at xs n (omega (arith, lt))

-- two numbers of a wire are equal if their frames begin at one offset
module _ (net : Network) (w : World) (c : Conserved net w) (l : Lane) where
  abbrev S : ℕ → SealedFrame
  S j = sealed_with w.durable.facts (veiled_facts w) (slice_get (w.frames l) j)

  offset_is : (j : ℕ) (s : IsSent net w l j) → (S j).offset ≡ s.a.offset
  offset_is j s = ap (λ o. (sealed_with w.durable.facts (veiled_facts w) o).offset) s.there

  one_test : (k j : ℕ) → IsSent net w l k → IsSent net w l j → (k == j) ≡ ((S k).offset == (S j).offset)
  one_test k j s t =
      same_tests (k == j) ((S k).offset == (S j).offset)
      (λ h. ap (λ (i : ℕ). (S k).offset == (S i).offset) (sym (eq_from k j h)) ∙ eq_same (S k).offset)
      (λ h.
      let at : s.a.offset ≡ t.a.offset = sym (offset_is k s) ∙ eq_from (S k).offset (S j).offset h ∙ offset_is j t in
      let same : k ≡ j = same_frame w.durable.facts (w.durable.own l) (w.frames l) _ (c.now.owned l) k j s.a t.a s.there t.there at in
      ap (λ (i : ℕ). k == i) (sym same) ∙ eq_same k)

  pub all_tests : (j : ℕ) → IsSent net w l j → (ns : List ℕ) → AllByRecursion (IsSent net w l) ns → AllByRecursion (λ k. (k == j) ≡ ((S k).offset == (S j).offset)) ns
  all_tests j s [] h = tt
  all_tests j s (k ∷ ks) h = (one_test k j h.0 s, all_tests j s ks h.1)
