-- The lines of a report, read in order.
use Rattle.std.proofs.Common.{◌≡◌, ℕ, ◌<◌, List, [], ◌∷◌, length, eqb, true, refl, sym, subst, inl, arith}
use Rattle.std.proofs.lemmas.Bool.{eqb-true}
use Rattle.declared_site.specs.declared.site.Site.{Site}
use Rattle.scenario_text.specs.Text.{parts_of}
use Rattle.audit_text.specs.declared.refusal.AuditRefusal.{AuditRefusal}
use Rattle.audit_text.specs.declared.refusal.AuditRefusal.TheVariants.{BadLine, Memory}
use Rattle.audit_text.specs.Input.{IsNoLine, AreLinesOf, IsFirstNoLine, IsNotRead}
use Rattle.audit_text.proofs.Cuts.{some_part}

first_is_none : (site : Site) (left n : ℕ) (part : List ℕ) (parts : List (List ℕ)) → 0 < length parts → IsNoLine site left part → IsFirstNoLine site left n (part ∷ parts) n
first_is_none site left n part [] some is = absurd (omega arith)
first_is_none site left n part (next ∷ parts) some is = inl (is, refl)

pub none_there : (site : Site) (left n : ℕ) (text part behind : List ℕ) (number : ℕ) → parts_of text ≡ part ∷ parts_of behind → IsNoLine site left part × (number ≡ n) → IsFirstNoLine site left n (parts_of text) number
none_there site left n text part behind number e is =
    subst (λ (k : ℕ). IsFirstNoLine site left n (parts_of text) k) (sym is.1)
    (subst (λ (parts : List (List ℕ)). IsFirstNoLine site left n parts n) (sym e) (first_is_none site left n part (parts_of behind) (some_part behind) is.0))

pub nothing_there : (site : Site) (left : ℕ) (text : List ℕ) → parts_of text ≡ text ∷ [] → text ≡ [] → AreLinesOf site left (parts_of text) []
nothing_there site left text e none = subst (λ (parts : List (List ℕ)). AreLinesOf site left parts []) (sym e) none

pub is_empty : (text : List ℕ) → eqb (length text) 0 ≡ true → text ≡ []
is_empty [] h = refl
is_empty (b ∷ text) h = absurd (omega (arith, eqb-true (length (b ∷ text)) 0 h))

-- If the number of a refused line has property Bad, it has each property that follows from Bad.
pub refused_as : (Bad Worse : ℕ → Type 0) (refusal : AuditRefusal) → ((n : ℕ) → Bad n → Worse n) → IsNotRead Bad refusal → IsNotRead Worse refusal
refused_as Bad Worse (BadLine n) so h = so n h
refused_as Bad Worse Memory so h = tt
