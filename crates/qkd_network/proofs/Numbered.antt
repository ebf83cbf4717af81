-- Parts in the order of their numbers, one at a time.
use Rattle.std.proofs.Common.{◌≡◌, ℕ, ◌+◌, List, [], ◌∷◌, ◌++◌, length, sym, ap, subst, ◌∙◌, inl, inr, arith}
use Rattle.std.specs.Prelude.{Option}
use Rattle.std.proofs.lemmas.Bool.{cases_lt}
use Rattle.std.proofs.lemmas.List.{length_push, get_or_append_left, get_or_push}
use Rattle.net_model.specs.OctetSequence.{OctetSequence}
use Rattle.qkd_network.specs.Fresh.{Tells, AreNumbered}

module _ {T : Type 0} (tells : T → Option OctetSequence) (generator : ℕ → OctetSequence) where
  pub one_more : (n : ℕ) (parts more : List T) (part : T) → more ≡ parts ++ part ∷ [] → AreNumbered tells generator n parts → Tells (generator n) (tells part) → AreNumbered tells generator (n + 1) more
  one_more n parts more part is made here = subst (AreNumbered tells generator (n + 1)) (sym is) (record {
    count = length_push parts part ∙ ap (λ (k : ℕ). k + 1) made.count;
    each = λ number other within. elim (cases_lt number (length parts)) [
      | inl below ↦ subst (λ (x : T). Tells (generator number) (tells x)) (sym (get_or_append_left parts (part ∷ []) other number below)) (made.each number other below)
      | inr above ↦
          let long = length_push parts part in
          let at : length parts ≡ number = omega arith in
          subst (λ (x : T). Tells (generator number) (tells x)) (sym (get_or_push parts part other number at))
          (subst (λ (k : ℕ). Tells (generator k) (tells part)) (sym made.count ∙ at) here)
    ];
  })
