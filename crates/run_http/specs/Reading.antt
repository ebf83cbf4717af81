-- Readings of all the octets of a connection.
use Rattle.std.specs.Prelude.{◌≡◌, ℕ, nat_lt, if◌then◌else◌, List, length, take, Result, Err}
use Rattle.httparse.specs.Grammar.{EndsInTarget}
use Rattle.http_front.specs.Reading.{MayBe, IsDecided}
use Rattle.http_front.specs.declared.refusal.FrontRefusal.{FrontRefusal}
use Rattle.http_front.specs.declared.refusal.FrontRefusal.TheVariants.{HeadTooLong, EndOfInput}
use Rattle.http_front.specs.declared.request.HttpRequest.{HttpRequest}

abbrev pub cut_short : List ℕ → FrontRefusal
cut_short octets = if nat_lt 8192 (length octets) then HeadTooLong else EndOfInput

-- The octets may be read as `r`, a request or a refusal. If they end inside a target, they are cut short, whatever the target is.
pub record MayBeRead (octets : List ℕ) (r : Result HttpRequest FrontRefusal) : Type 0 where
  pub may : MayBe octets r
  pub short : EndsInTarget (take 8193 octets) → r ≡ Err (cut_short octets)

-- The octets have a reading that they alone decide.
abbrev pub IsReadable : List ℕ → Type 0
IsReadable octets = (r : Result HttpRequest FrontRefusal) × MayBeRead octets r × IsDecided r
