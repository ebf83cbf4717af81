-- What reading a request from a source does.
use Rattle.std.specs.Prelude.{◌≡◌, ℕ, ◌-◌, ◌≤◌, ◌<◌, ◌⊎◌, ◌==◌, if◌then◌else◌, List, [], ◌++◌, length, take, drop, Option, Some, None, Result, Ok, Err}
use Rattle.std.specs.Io.KnownBytes.{Consumes, IsAtEnd}
use Rattle.qkd_base.specs.Faults.{Rose}
use Rattle.httparse.specs.Grammar.{RequestHead, print_request, EndsInTarget}
use Rattle.http_front.specs.Front.{HasHead, HasSome, HasNoHead, MayBecomeHead, IsFront, fields_of, framing_of, IsRequest, IsRefused}
use Rattle.http_front.specs.declared.refusal.FrontRefusal.{FrontRefusal}
use Rattle.http_front.specs.declared.refusal.FrontRefusal.TheVariants.{NoRequest, BadHead, TooManyHeaders, EndOfInput, ReadFault, Memory}
use Rattle.http_front.specs.declared.request.HttpRequest.{HttpRequest}
use Rattle.http_front.specs.declared.head.Head.{Head}

-- ---- what parsing a text finds

-- The text begins with the head that has these parts.
pub record IsHeadOf (text : List ℕ) (parts : Head) : Type 0 where
  pub head : RequestHead
  pub has : HasHead text head (drop parts.len text)
  pub len : parts.len ≡ length (print_request head)
  pub method : parts.method ≡ head.method
  pub target : parts.target ≡ head.target
  pub minor : parts.minor ≡ head.minor
  pub fields : parts.fields ≡ fields_of head

-- The text doesn't begin with a head, whatever may follow it.
pub record IsNever (text : List ℕ) : Type 0 where
  pub none : HasNoHead text
  pub never : ¬ (MayBecomeHead text)

abbrev pub IsNeverFor : List ℕ → FrontRefusal → Type 0
IsNeverFor text BadHead = IsNever text
IsNeverFor text TooManyHeaders = IsNever text
IsNeverFor text Memory = HasSome text
IsNeverFor text _ = ⊥

-- The text has no complete head yet.
pub record IsOpen (text : List ℕ) : Type 0 where
  pub none : HasNoHead text
  pub front : IsFront text

-- why there is no head when no more octets come
abbrev pub no_more : List ℕ → FrontRefusal
no_more octets = if length octets == 0 then NoRequest else EndOfInput

-- The text has a head, has none yet, or will never have one.
abbrev pub IsLook : List ℕ → Result (Option Head) FrontRefusal → Type 0
IsLook text (Ok (Some parts)) = IsHeadOf text parts
IsLook text (Ok None) = IsOpen text
IsLook text (Err e) = IsNeverFor text e

-- ---- when no more octets are needed

-- This number of octets after a head is enough: they contain the whole body, or the head is refused for its framing.
abbrev pub Suffices : Result ℕ FrontRefusal → ℕ → Type 0
Suffices (Ok n) count = n ≤ count
Suffices (Err e) count = Unit {0}

-- The octets begin with a complete request, or with a head that is refused for its framing.
pub record IsEnough (octets : List ℕ) : Type 0 where
  pub head : RequestHead
  pub rest : List ℕ
  pub has : HasHead octets head rest
  pub suffices : Suffices (framing_of head.method (fields_of head)) (length rest)

-- ---- which octets came

-- The next octets of a source were appended to those that were there.
pub record Came (left_before left_after : Option (List ℕ)) (before after : List ℕ) : Type 0 where
  pub taken : List ℕ
  pub consumed : Consumes left_before left_after taken
  pub behind : after ≡ before ++ taken

-- A cause that says that the input has ended comes only at the end of the input.
abbrev pub IsEnd : FrontRefusal → Option (List ℕ) → Type 0
IsEnd NoRequest left = IsAtEnd left
IsEnd EndOfInput left = IsAtEnd left
IsEnd _ left = Unit {0}

-- The source failed, or memory ran out.
abbrev pub IsDisturbed : FrontRefusal → Type 0
IsDisturbed ReadFault = Unit {0}
IsDisturbed Memory = Unit {0}
IsDisturbed _ = ⊥

-- Fewer than `count` octets came: the input has ended, the source failed, or memory ran out.
abbrev pub IsShort : FrontRefusal → (had count : ℕ) → Option (List ℕ) → Type 0
IsShort EndOfInput had count left = (had < count) × IsAtEnd left
IsShort ReadFault had count left = Unit {0}
IsShort Memory had count left = Unit {0}
IsShort _ had count left = ⊥

-- If the source failed, its count of faults rose. Otherwise the count is unchanged.
abbrev pub FaultsFor : FrontRefusal → (before after : ℕ) → Type 0
FaultsFor ReadFault before after = (before ≤ after) × Rose before after
FaultsFor _ before after = after ≡ before

abbrev pub FaultsAre : {T : Type 0} → Result T FrontRefusal → (before after : ℕ) → Type 0
FaultsAre (Ok value) before after = after ≡ before
FaultsAre (Err e) before after = FaultsFor e before after

-- ---- what was read

-- Either the octets begin with the request, and the octets after it are kept; or they begin with no request for this cause, and
-- all are kept.
abbrev pub IsAnswer : List ℕ → (kept : List ℕ) → Option (List ℕ) → Result HttpRequest FrontRefusal → Type 0
IsAnswer octets kept left (Ok request) = IsRequest octets request kept
IsAnswer octets kept left (Err e) = (kept ≡ octets) × IsRefused octets e × IsEnd e left

-- One call of `read_request`. It takes octets from a source: at most 73,729 together with the kept ones, and none if the kept
-- ones are enough. The answer is what these octets mean.
pub record IsRead (left_before left_after : Option (List ℕ)) (kept_before kept_after : List ℕ) (r : Result HttpRequest FrontRefusal) : Type 0 where
  pub taken : List ℕ
  pub consumed : Consumes left_before left_after taken
  pub few : length taken ≤ 73729 - length kept_before
  pub spare : IsEnough kept_before → taken ≡ []
  pub answer : IsAnswer (kept_before ++ taken) kept_after left_after r

-- ---- what all octets of a connection mean

-- Either the octets begin with this request, and `rest` follows; or they begin with no request for this cause, and all of them
-- stay.
abbrev pub IsMeant : List ℕ → (rest : List ℕ) → Result HttpRequest FrontRefusal → Type 0
IsMeant octets rest (Ok request) = IsRequest octets request rest
IsMeant octets rest (Err e) = (rest ≡ octets) × IsRefused octets e

-- what the octets of a connection mean, if these octets and the rest are known
abbrev pub Reads : Option (List ℕ) → Option (List ℕ) → Result HttpRequest FrontRefusal → Type 0
Reads None rest r = Unit {0}
Reads (Some octets) None r = ⊥
Reads (Some octets) (Some rest) r = IsMeant octets rest r

-- The octets alone decide this answer.
abbrev pub IsDecided : Result HttpRequest FrontRefusal → Type 0
IsDecided (Err ReadFault) = ⊥
IsDecided (Err Memory) = ⊥
IsDecided _ = Unit {0}

-- This answer is possible for the octets.
abbrev pub MayBe : List ℕ → Result HttpRequest FrontRefusal → Type 0
MayBe octets (Ok request) = (rest : List ℕ) × IsRequest octets request rest
MayBe octets (Err e) = IsRefused octets e

-- The head is refused.
abbrev pub IsBad : Result HttpRequest FrontRefusal → Type 0
IsBad (Err BadHead) = Unit {0}
IsBad (Err TooManyHeaders) = Unit {0}
IsBad _ = ⊥

-- The first 8,193 octets end within a request target, and no further octets make them a head.
pub record IsUnsettled (octets : List ℕ) : Type 0 where
  pub target : EndsInTarget (take 8193 octets)
  pub never : ¬ (MayBecomeHead (take 8193 octets))

-- Octets have at most one answer, with two exceptions: a bad head has two possible names, and octets may end within a target
-- that nothing completes.
abbrev pub OneAnswer : Option (List ℕ) → Result HttpRequest FrontRefusal → Type 0
OneAnswer None r = Unit {0}
OneAnswer (Some octets) r =
    (s : Result HttpRequest FrontRefusal) → MayBe octets s → IsDecided s → IsDecided r → (r ≡ s) ⊎ (IsBad r × IsBad s) ⊎ IsUnsettled octets
