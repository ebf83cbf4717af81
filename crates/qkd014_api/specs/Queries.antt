-- The parameters of a query (URL Standard, section 5).
use Rattle.std.specs.Prelude.{ℕ, Bool, if◌then◌else◌, List, [], ◌∷◌, Option, Some, None}
use Rattle.std.specs.Option.{option_and_then}
use Rattle.std.specs.Str.{bytes_eq}
use Rattle.std.specs.Str.Lossy.{utf8_lossy}
use Rattle.form_urlencoded.specs.Form.{raw_pairs, decode}
use Rattle.http_front.specs.Fields.{decimal_of}
use Rattle.qkd014_api.specs.Numbers.{number_at, size_at}
use Rattle.qkd014_api.specs.declared.query.Given.{Given}
use Rattle.qkd014_api.specs.declared.query.Given.TheVariants.{Absent, Once, Often}

-- the text that encoded octets stand for
unfoldable pub text_of : List ℕ → List ℕ
text_of octets = utf8_lossy (decode octets)

-- the values of a parameter among encoded pairs, in order
abbrev pub values_among : List ℕ → List (List ℕ × List ℕ) → List (List ℕ)
values_among name [] = []
values_among name (p ∷ pairs) = if bytes_eq (text_of p.0) name then text_of p.1 ∷ values_among name pairs else values_among name pairs

abbrev pub values_in : List ℕ → List ℕ → List (List ℕ)
values_in name query = values_among name (raw_pairs query)

abbrev pub one_of : List (List ℕ) → Given
one_of [] = Absent
one_of (v ∷ []) = Once v
one_of (v ∷ w ∷ vs) = Often

-- the number and the size that are asked for; a repeated parameter is refused
abbrev pub number_given : Given → Option ℕ
number_given Absent = Some 1
number_given (Once v) = option_and_then number_at (decimal_of v)
number_given Often = None

abbrev pub size_given : Given → Option ℕ
size_given Absent = Some 256
size_given (Once v) = option_and_then size_at (decimal_of v)
size_given Often = None
