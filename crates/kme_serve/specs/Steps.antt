-- What the parts of one exchange do.
use Rattle.std.specs.Prelude.{◌≡◌, ◌⊎◌, ℕ, Bool, true, false, List, [], ◌++◌, Option, Some, None, Result, Ok, Err, IsSome, IsTrue}
use Rattle.std.specs.Io.KnownBytes.{Consumes, Appends}
use Rattle.edge_io.specs.Writes.{AppendsPrefix}
use Rattle.edge_io.specs.declared.ended.Ended.{Ended}
use Rattle.edge_io.specs.declared.ended.Ended.TheVariants as endings
use Rattle.sae_entitlements.specs.Grants.{Grants}
use Rattle.http_front.specs.Front.{IsRequest}
use Rattle.http_front.specs.Reading.{IsMeant, IsAnswer, FaultsFor}
use Rattle.http_front.specs.Response.{has_reason, response_text}
use Rattle.http_front.specs.declared.refusal.FrontRefusal.{FrontRefusal}
use Rattle.http_front.specs.declared.refusal.FrontRefusal.TheVariants as refusals
use Rattle.qkd014_api.specs.Texts.{error_response}
use Rattle.qkd014_api.specs.Fronts.{front_message}
use Rattle.http_front.specs.declared.request.HttpRequest.{HttpRequest}
use Rattle.qkd014_api.specs.Answers.{Answer}
use Rattle.qkd014_api.specs.declared.fault.CallRefusal.{CallRefusal}
use Rattle.qkd014_api.specs.declared.fault.CallRefusal.TheVariants as calls
use Rattle.kme_serve.specs.declared.turn.Turn.{Turn}
use Rattle.kme_serve.specs.Exchange.{Exchange, event_of, IsTurnOf, IsLost, answer_at, answer_to, text_of, response_with, closes}
use Rattle.kme_serve.specs.Turns.{Takes}
use Rattle.kme_serve.specs.Connection.{Moment, RoseOnly, IsServed}
use Rattle.kme_serve.specs.Owed.{Owes, IsUnpaid}

-- A text was written. If the sink failed, a prefix of it was written. If memory ran out, nothing was.
abbrev pub IsWritten : {T : Type 0} → Option (List ℕ) → Option (List ℕ) → (faults_before faults_after : ℕ) → List ℕ → Result T Ended → Type 0
IsWritten before after faults_before faults_after text (Ok done) = Appends before after text × (faults_after ≡ faults_before)
IsWritten before after faults_before faults_after text (Err endings.WriteFault) = AppendsPrefix before after text × RoseOnly true faults_before faults_after
IsWritten before after faults_before faults_after text (Err endings.Memory) = (after ≡ before) × (faults_after ≡ faults_before)
IsWritten before after faults_before faults_after text (Err ended) = ⊥

-- The response to a fault has a status that this server sends.
abbrev pub HasReason : CallRefusal → Type 0
HasReason (calls.Answer response) = IsTrue (has_reason response.status)
HasReason calls.Memory = Unit {0}

-- A fault is answered at once, and the text of the response says whether the connection closes after it.
abbrev pub IsAtOnce : {E : Type 0} → CallRefusal → (close : Bool) → Result (List ℕ) E → Type 0
IsAtOnce (calls.Answer response) close (Ok text) = text ≡ response_text (record response { close = close })
IsAtOnce (calls.Answer response) close (Err e) = Unit {0}
IsAtOnce calls.Memory close (Ok text) = ⊥
IsAtOnce calls.Memory close (Err e) = Unit {0}

-- the text of the response with an answer
abbrev pub IsTextOf : Option Answer → (close : Bool) → List ℕ → Type 0
IsTextOf None close text = ⊥
IsTextOf (Some answer) close text = text ≡ response_text (response_with close answer)

-- Nothing is written for this cause.
abbrev pub IsUnanswered : FrontRefusal → (cause : FrontRefusal) → Option (List ℕ) → Option (List ℕ) → Type 0
IsUnanswered refusal cause before after = (refusal ≡ cause) × (after ≡ before)

-- How a connection ends if no request was read: at the end of the input, by a fault, or after the response with the cause's
-- message.
abbrev pub IsRefusedBy : FrontRefusal → Option (List ℕ) → Option (List ℕ) → (faults_before faults_after : ℕ) → Ended → Type 0
IsRefusedBy refusal before after faults_before faults_after endings.Closed =
    (IsUnanswered refusal refusals.NoRequest before after ⊎ ((text : List ℕ) × (front_message refusal ≡ Some text) × Appends before after (response_text (error_response 400 text true))))
    × (faults_after ≡ faults_before)
IsRefusedBy refusal before after faults_before faults_after endings.ReadFault = IsUnanswered refusal refusals.ReadFault before after × (faults_after ≡ faults_before)
IsRefusedBy refusal before after faults_before faults_after endings.WriteFault =
    ((text : List ℕ) × (front_message refusal ≡ Some text) × AppendsPrefix before after (response_text (error_response 400 text true))) × RoseOnly true faults_before faults_after
IsRefusedBy refusal before after faults_before faults_after endings.Memory = (¬ (refusal ≡ refusals.ReadFault)) × (after ≡ before) × (faults_after ≡ faults_before)

-- ---- the next request

-- a connection without its pass: what its source has left, what its sink took, and how often each failed
pub record Edge : Type 0 where
  pub left : Option (List ℕ)
  pub taken : Option (List ℕ)
  pub read_faults : ℕ
  pub write_faults : ℕ

abbrev pub moment : {P : Type 0} → Edge → P → Moment P
moment edge pass = record { left = edge.left; taken = edge.taken; read_faults = edge.read_faults; write_faults = edge.write_faults; pass = pass }

module _ (kept kept_after owed owed_after : List ℕ) (before after : Edge) where
  -- A request was read. All that was owed was written, or is still owed.
  pub record IsAsked (asked : HttpRequest) : Type 0 where
    pub octets : List ℕ
    pub consumed : Consumes before.left after.left octets
    pub request : IsRequest (kept ++ octets) asked kept_after
    pub owes : Owes before.taken after.taken owed [] owed_after
    pub read_faults : after.read_faults ≡ before.read_faults
    pub write_faults : after.write_faults ≡ before.write_faults

  -- The owed octets were not written, and nothing was read.
  pub record IsUnread (end : Ended) : Type 0 where
    pub ended : end ≡ endings.WriteFault
    pub left : after.left ≡ before.left
    pub unpaid : IsUnpaid before.taken after.taken before.write_faults after.write_faults owed
    pub read_faults : after.read_faults ≡ before.read_faults

  -- The owed octets were written, and no request was read.
  pub record IsNoRequest (ended : Ended) : Type 0 where
    pub paid : Option (List ℕ)
    pub wrote : Appends before.taken paid owed
    pub octets : List ℕ
    pub consumed : Consumes before.left after.left octets
    pub cause : FrontRefusal
    pub answer : IsAnswer (kept ++ octets) kept_after after.left (Err cause)
    pub faults : FaultsFor cause before.read_faults after.read_faults
    pub refused : IsRefusedBy cause paid after.taken before.write_faults after.write_faults ended

  abbrev pub IsNext : Result HttpRequest Ended → Type 0
  IsNext (Ok request) = IsAsked request
  IsNext (Err ended) = IsUnread ended ⊎ IsNoRequest ended

module _ (nodes : List (List ℕ)) (g : Grants) (node : ℕ) where
  -- The text of the response to a request, after a turn if the request asks for one. Otherwise memory ran out, before the manager
  -- was asked or after a turn that hands out no keys.
  abbrev pub IsResponseTo : {E : Type 0} → HttpRequest → (close : Bool) → Option Turn → Result (List ℕ) E → Type 0
  IsResponseTo request close turn (Ok text) =
      IsTurnOf (event_of g node (Ok request)) turn × ((answer : Answer) × (answer_at nodes g node (Ok request) turn ≡ Some answer) × (text ≡ response_text (response_with close answer)))
  IsResponseTo request close turn (Err memory) = (turn ≡ None) ⊎ (IsTurnOf (event_of g node (Ok request)) turn × IsLost turn)

  module _ {P : Type 0} (Answers : P → Turn → P → Type 0) (seen : P → ℕ) where
    pub record IsAnswered {E : Type 0} (request : HttpRequest) (close : Bool) (before after : P) (result : Result (List ℕ) E) : Type 0 where
      pub turn : Option Turn
      pub takes : Takes Answers seen before turn after
      pub response : IsResponseTo request close turn result

    -- One exchange took place, after which the connection stays open.
    pub record StaysOpen (count : ℕ) (kept kept_after owed owed_after : List ℕ) (before after : Moment P) : Type 0 where
      pub octets : List ℕ
      pub consumed : Consumes before.left after.left octets
      pub exchange : Exchange
      pub means : IsMeant (kept ++ octets) kept_after exchange.read
      pub stays : closes count exchange.read ≡ false
      pub answered : IsSome (answer_to nodes g node exchange)
      pub event : IsTurnOf (event_of g node exchange.read) exchange.turn
      pub takes : Takes Answers seen before.pass exchange.turn after.pass
      pub owes : Owes before.taken after.taken owed (text_of nodes g node false exchange) owed_after
      pub read_faults : after.read_faults ≡ before.read_faults
      pub write_faults : after.write_faults ≡ before.write_faults

    -- The connection stays open after an exchange, or was served to its end.
    abbrev pub Goes : {T : Type 0} → (count : ℕ) → (kept kept_after owed owed_after : List ℕ) → (before after : Moment P) → Result T Ended → Type 0
    Goes count kept kept_after owed owed_after before after (Ok done) = StaysOpen count kept kept_after owed owed_after before after
    Goes count kept kept_after owed owed_after before after (Err ended) = IsServed nodes g node Answers seen count kept owed before after ended
