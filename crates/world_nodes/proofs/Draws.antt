-- The octets that are left of an entropy after an event.
use Rattle.std.proofs.Common.{◌≡◌, ℕ, zero, suc, ◌+◌, ◌-◌, refl, sym, ap, subst, ◌∙◌, arith, zero-add}
use Rattle.std.specs.Prelude.{Option, Some, None, option_map}
use Rattle.net_model.specs.OctetSequence.{OctetSequence}
use Rattle.net_model.specs.World.{Network, World}
use Rattle.source_devices.specs.Telling.{IsRest}
use Rattle.kme_store.specs.Manager.{ComesNext, IsDrawn}
use Rattle.world_nodes.specs.Stands.{EntropyStands}
use Rattle.source_devices.specs.declared.entropy.Entropy as Entropy

minus_twice : (end : Option ℕ) (n m : ℕ) → option_map (λ (e : ℕ). e - m) (option_map (λ (e : ℕ). e - n) end) ≡ option_map (λ (e : ℕ). e - (n + m)) end
minus_twice None n m = refl
minus_twice (Some e) n m = let both : (e - n) - m ≡ e - (n + m) = omega arith in ap (λ (k : ℕ). Some k) both

minus_none : (end : Option ℕ) → end ≡ option_map (λ (e : ℕ). e - 0) end
minus_none None = refl
minus_none (Some e) = let same : e ≡ e - 0 = omega arith in ap (λ (k : ℕ). Some k) same

-- What is left after n octets and then m more is what is left after n + m.
rest_more : (t rest left : OctetSequence) (n m : ℕ) → IsRest t n rest → IsRest rest m left → IsRest t (n + m) left
rest_more t rest left n m a b = record {
  octet = λ i. let place : n + (m + i) ≡ (n + m) + i = omega arith in b.octet i ∙ a.octet (m + i) ∙ ap t.octet place;
  last = b.last ∙ ap (λ (end : Option ℕ). option_map (λ (e : ℕ). e - m) end) a.last ∙ minus_twice t.end n m;
}

rest_whole : (t : OctetSequence) → IsRest t 0 t
rest_whole t = record { octet = λ i. ap t.octet (sym (zero-add i)); last = minus_none t.end }

-- If an entropy's octets are known, those that are left after a draw are known.
left_of : (told now : Option OctetSequence) (rest : OctetSequence) (octets : ℕ) → told ≡ Some rest → IsDrawn told octets now → (left : OctetSequence) × (now ≡ Some left) × IsRest rest octets left
left_of None now rest octets e h = absurd (cc e)
left_of (Some t) now rest zero e h = (rest, h ∙ e, rest_whole rest)
left_of (Some t) now rest (suc n) e h =
    let same : t ≡ rest = cc in
    (h.0, h.1, subst (λ (x : OctetSequence). IsRest x (suc n) h.0) same h.2)

next_is : (told : Option OctetSequence) (rest next : OctetSequence) → told ≡ Some rest → ComesNext told next → rest ≡ next
next_is None rest next e h = absurd (cc e)
next_is (Some t) rest next e h = let same : t ≡ rest = cc in sym same ∙ h

module _ {E : Type 0} (entropy_says : Entropy.Ghosts E) (net : Network) (w : World) (v : ℕ) (old : E) (h : EntropyStands entropy_says net w v old) where
  -- The octets that come next are the next ones of the node's entropy.
  pub comes_next : (next : OctetSequence) → ComesNext (entropy_says.left old) next → IsRest (net.entropy v) (w.drawn v) next
  comes_next next c = subst (λ (x : OctetSequence). IsRest (net.entropy v) (w.drawn v) x) (next_is (entropy_says.left old) h.rest next h.tells c) h.left

  -- This many octets were drawn.
  pub drawn_on : (w' : World) (new : E) (octets : ℕ) → IsDrawn (entropy_says.left old) octets (entropy_says.left new) → w'.drawn v ≡ w.drawn v + octets → EntropyStands entropy_says net w' v new
  drawn_on w' new octets d same =
      let l = left_of (entropy_says.left old) (entropy_says.left new) h.rest octets h.tells d in
      record {
        rest = l.0;
        tells = l.1;
        left = subst (λ (n : ℕ). IsRest (net.entropy v) n l.0) (sym same) (rest_more (net.entropy v) h.rest l.0 (w.drawn v) octets h.left l.2);
      }
