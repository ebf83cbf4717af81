-- What happens to owed octets.
use Rattle.std.proofs.Common.{◌≡◌, ℕ, ◌+◌, ◌<◌, ◌≤◌, Bool, true, false, List, [], ◌++◌, length, take, min, Option, Some, None, sym, ap, subst, ◌∙◌, arith, append_assoc, append-nil}
use Rattle.std.proofs.Math.Seq.{take-append-add}
use Rattle.std.proofs.lemmas.List.{take-append-le, take_min, length-append}
use Rattle.std.specs.Io.KnownBytes.{Appends}
use Rattle.edge_io.specs.Writes.{AppendsPrefix, WritesUpTo}
use Rattle.kme_serve.specs.Owed.{Owes}

-- If what was taken is unchanged, nothing was appended.
pub appends_none : (before after : Option (List ℕ)) → after ≡ before → Appends before after []
appends_none None after same = tt
appends_none (Some xs) after same = subst (λ (known : Option (List ℕ)). Appends (Some xs) known []) (sym same) (sym (append-nil xs))

appends_trans : (a b c : Option (List ℕ)) (s t : List ℕ) → Appends a b s → Appends b c t → Appends a c (s ++ t)
appends_trans None b c s t first second = tt
appends_trans (Some x) None c s t first second = absurd first
appends_trans (Some x) (Some y) None s t first second = absurd second
appends_trans (Some x) (Some y) (Some z) s t first second = second ∙ ap (λ (u : List ℕ). u ++ t) first ∙ append_assoc x s t

-- A prefix of octets is a prefix of these octets with more appended.
pub prefix_more : (before after : Option (List ℕ)) (xs ys : List ℕ) → AppendsPrefix before after xs → AppendsPrefix before after (xs ++ ys)
prefix_more before after xs ys first =
    let n : ℕ = min first.0 (length xs) in
    let within : n ≤ length xs = omega arith in
    (n, subst (Appends before after) (sym (take_min first.0 xs) ∙ sym (take-append-le n xs ys within)) first.1)

prefix_behind : (a b c : Option (List ℕ)) (s t : List ℕ) → Appends a b s → AppendsPrefix b c t → AppendsPrefix a c (s ++ t)
prefix_behind a b c s t first second =
    (length s + second.0, subst (Appends a c) (sym (take-append-add s t second.0)) (appends_trans a b c s (take second.0 t) first second.1))

pub wrote_behind : (a b c : Option (List ℕ)) (all : Bool) (s t : List ℕ) → Appends a b s → WritesUpTo b c all t → WritesUpTo a c all (s ++ t)
wrote_behind a b c true s t first second = appends_trans a b c s t first second
wrote_behind a b c false s t first second = prefix_behind a b c s t first second

-- ---- owed octets that are written

module _ (a b c : Option (List ℕ)) (owed more owed_after : List ℕ) (owes : Owes a b owed more owed_after) where
  pub owes_paid : Appends b c owed_after → Appends a c (owed ++ more)
  owes_paid paid = subst (Appends a c) owes.2 (appends_trans a b c owes.0 owed_after owes.1 paid)

  pub owes_unpaid : AppendsPrefix b c owed_after → AppendsPrefix a c (owed ++ more)
  owes_unpaid unpaid = subst (AppendsPrefix a c) owes.2 (prefix_behind a b c owes.0 owed_after owes.1 unpaid)

  -- Octets written after what is owed come after all of it.
  pub owes_rest : (all : Bool) (rest : List ℕ) → WritesUpTo b c all (owed_after ++ rest) → WritesUpTo a c all (owed ++ (more ++ rest))
  owes_rest all rest wrote =
      subst (WritesUpTo a c all) (sym (append_assoc owes.0 owed_after rest) ∙ ap (λ (u : List ℕ). u ++ rest) owes.2 ∙ append_assoc owed more rest)
      (wrote_behind a b c all owes.0 (owed_after ++ rest) owes.1 wrote)

  -- More octets are added to what is owed.
  pub owes_more : (most owed_last : List ℕ) → Owes b c owed_after most owed_last → Owes a c owed (more ++ most) owed_last
  owes_more most owed_last then = (
    owes.0 ++ then.0,
    appends_trans a b c owes.0 then.0 owes.1 then.1,
    append_assoc owes.0 then.0 owed_last ∙ ap (λ (u : List ℕ). owes.0 ++ u) then.2 ∙ sym (append_assoc owes.0 owed_after most)
        ∙ ap (λ (u : List ℕ). u ++ most) owes.2 ∙ append_assoc owed more most,
  )

-- If octets are owed and none were added since, then some were owed before.
pub owed_before : (a b : Option (List ℕ)) (owed owed_after : List ℕ) → Owes a b owed [] owed_after → 0 < length owed_after → 0 < length owed
owed_before a b owed owed_after owes some =
    let whole : length owes.0 + length owed_after ≡ length owed + 0 = sym (length-append owes.0 owed_after) ∙ ap length owes.2 ∙ length-append owed [] in
    omega arith
