-- Bodies that are objects, and texts that are UUIDs.
use Rattle.std.proofs.Common.{◌≡◌, ℕ, Bool, true, false, List, [], ◌∷◌, length, eqb, rules, Option, Some, None, refl, sym, ap, ◌∙◌, subst}
use Rattle.std.specs.Prelude.{is_some, IsUtf8, if◌then◌else◌}
use Rattle.std.specs.Option.{option_and_then}
use Rattle.std.specs.Str.{is_utf8}
use Rattle.std.proofs.lemmas.Str.{IsUtf8-from_is_utf8, is_utf8-from_IsUtf8}
use Rattle.serde_json.specs.Data.{Data}
use Rattle.serde_json.specs.Read.{read}
use Rattle.serde_json.specs.Find.{as_object}
use Rattle.serde_json.specs.Errors.{IsMemory}
use Rattle.serde_json.specs.View.{items_view}
use Rattle.serde_json.specs.declared.error.Error.{Error}
use Rattle.serde_json.specs.declared.value.Value.{Value}
use Rattle.qkd014_api.specs.Bodies.{object_in, only_object, IsNoObject, IsCause, has_none}
use Rattle.qkd014_api.specs.declared.fault.CallFault.{CallFault}
use Rattle.qkd014_api.specs.declared.fault.CallFault.TheVariants as faults

object-when : (body : List ℕ) (o : Option Data) → IsUtf8 body → read body ≡ o → object_in body ≡ option_and_then only_object o
unfolding object_in
object-when body o text is = let holds : is_utf8 body ≡ true = is_utf8-from_IsUtf8 body text in rw holds (ap (option_and_then only_object) is)

pub object-some : (body : List ℕ) (d : Data) → IsUtf8 body → read body ≡ Some d → is_some (as_object d) ≡ true → object_in body ≡ Some d
object-some body d text is holds = object-when body (Some d) text is ∙ rw holds refl

pub object-none : (body : List ℕ) (d : Data) → IsUtf8 body → read body ≡ Some d → is_some (as_object d) ≡ false → object_in body ≡ None
object-none body d text is other = object-when body (Some d) text is ∙ rw other refl

pub object-bad : (body : List ℕ) → (IsUtf8 body → read body ≡ None) → object_in body ≡ None
unfolding object_in
object-bad body bad = by_text (is_utf8 body) refl
  where
    by_text : (b : Bool) → is_utf8 body ≡ b → (if b then option_and_then only_object (read body) else None) ≡ None
    by_text true holds = ap (option_and_then only_object) (bad (IsUtf8-from_is_utf8 body holds))
    by_text false other = refl

pub none-told : (o : Option (List ℕ)) → ((u : List ℕ) → o ≡ Some u → ⊥) → o ≡ None
none-told None never = refl
none-told (Some u) never = absurd (never u refl)

pub no-object : (body : List ℕ) (error : Error) (e : CallFault) → IsCause error e → (¬ (IsMemory error) → IsUtf8 body → read body ≡ None) → IsNoObject body e
no-object body error faults.BadBody cause bad = object-bad body (bad cause)
no-object body error faults.Memory cause bad = tt
no-object body error faults.UnknownResource cause bad = absurd cause
no-object body error faults.MissingCaller cause bad = absurd cause
no-object body error faults.NotAllowed cause bad = absurd cause
no-object body error faults.BadNumber cause bad = absurd cause
no-object body error faults.BadSize cause bad = absurd cause
no-object body error faults.SlavesRefused cause bad = absurd cause
no-object body error faults.MandatoryRefused cause bad = absurd cause
no-object body error faults.BadKeyId cause bad = absurd cause
no-object body error faults.BadKeyIds cause bad = absurd cause

-- A test for UTF-8 that a text passes may be left out.
pub text-only : {A : Type 0} (bytes : List ℕ) (o : Option A) → IsUtf8 bytes → o ≡ (if is_utf8 bytes then o else None)
text-only bytes o text = let holds : is_utf8 bytes ≡ true = is_utf8-from_IsUtf8 bytes text in rw holds refl

pub no-text : {A : Type 0} (bytes : List ℕ) (o : Option A) → ¬ (IsUtf8 bytes) → None ≡ (if is_utf8 bytes then o else None)
no-text {A} bytes o other = by_text (is_utf8 bytes) refl
  where
    by_text : (b : Bool) → is_utf8 bytes ≡ b → None ≡ (if b then o else None)
    by_text true holds = absurd (other (IsUtf8-from_is_utf8 bytes holds))
    by_text false fails = refl

pub empty-items : (vs : List Value) → eqb (length vs) 0 ≡ has_none (Some (items_view vs))
empty-items [] = refl
empty-items (v ∷ vs) = search rules
