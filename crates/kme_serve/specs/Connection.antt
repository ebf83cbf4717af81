-- A connection: what its octets mean, what is written in answer, and how it ends (ETSI GS QKD 014 V1.1.1, section 5; RFC 9112,
-- sections 9.3 and 9.6).
use Rattle.std.specs.Prelude.{◌≡◌, ◌⊎◌, ℕ, ◌+◌, ◌≤◌, ◌<◌, Bool, true, false, not, List, [], ◌∷◌, ◌++◌, length, Option, Some, None, Ok, Err, IsSome}
use Rattle.std.specs.List.{flat_map, AllByRecursion}
use Rattle.std.specs.Io.KnownBytes.{Consumes}
use Rattle.qkd_base.specs.Faults.{Rose}
use Rattle.edge_io.specs.Writes.{WritesUpTo}
use Rattle.edge_io.specs.declared.ended.Ended.{Ended}
use Rattle.edge_io.specs.declared.ended.Ended.TheVariants as endings
use Rattle.sae_entitlements.specs.Grants.{Grants}
use Rattle.http_front.specs.Front.{IsRefused}
use Rattle.http_front.specs.Reading.{IsMeant, IsEnd}
use Rattle.http_front.specs.declared.refusal.FrontRefusal.TheVariants.{NoRequest}
use Rattle.kme_serve.specs.declared.turn.Turn.{Turn}
use Rattle.kme_serve.specs.Exchange.{Front, Exchange, event_of, IsTurnOf, IsLost, answer_to, text_of, asks_close, closes}
use Rattle.kme_serve.specs.Turns.{TakesAll}

-- ---- what octets mean

-- The octets are what these exchanges read, one after the other, and then `rest`. Octets that are no request stay in `rest`.
abbrev pub AreExchanges : List ℕ → List Exchange → (rest : List ℕ) → Type 0
AreExchanges octets [] rest = rest ≡ octets
AreExchanges octets (x ∷ xs) rest = (behind : List ℕ) × IsMeant octets behind x.read × AreExchanges behind xs rest

-- A refusal that says that the input has ended comes only at the end of the input.
abbrev pub IsFinal : Front → Option (List ℕ) → Type 0
IsFinal (Ok request) left = Unit {0}
IsFinal (Err refusal) left = IsEnd refusal left

-- ---- a connection at a moment

-- what the source has left, what the sink took, how often each failed, and the caller's pass
pub record Moment (P : Type 0) : Type 0 where
  pub left : Option (List ℕ)
  pub taken : Option (List ℕ)
  pub read_faults : ℕ
  pub write_faults : ℕ
  pub pass : P

-- A count rose if there was a failure, and otherwise is unchanged.
abbrev pub RoseOnly : (failed : Bool) → (before after : ℕ) → Type 0
RoseOnly true before after = (before ≤ after) × Rose before after
RoseOnly false before after = after ≡ before

abbrev pub is_read_fault : Ended → Bool
is_read_fault endings.ReadFault = true
is_read_fault ended = false

abbrev pub is_write_fault : Ended → Bool
is_write_fault endings.WriteFault = true
is_write_fault ended = false

-- ---- how it ends

abbrev pub listed : Option Exchange → List Exchange
listed None = []
listed (Some x) = x ∷ []

module _ (nodes : List (List ℕ)) (g : Grants) (node : ℕ) where
  -- The connection stays open after the response.
  abbrev pub IsOpen : Exchange → Type 0
  IsOpen x = (asks_close x.read ≡ false) × IsSome (answer_to nodes g node x)

  -- the texts of the responses that leave the connection open
  abbrev pub texts_of : List Exchange → List ℕ
  texts_of answered = flat_map (text_of nodes g node false) answered

  -- How a connection ends after `before` responses that leave it open. The last exchange, if there is one, ends it, and its
  -- response has this text.
  -- Closed: no more octets came, or the last response closes the connection.
  -- ReadFault: no more octets could be read.
  -- WriteFault: the responses could not be written completely. If memory also ran out, the last one may not have been made.
  -- Memory: memory ran out before the manager was asked, or after a turn that hands out no keys.
  abbrev pub EndsBy : Ended → (before : ℕ) → Option Exchange → (rest : List ℕ) → (left : Option (List ℕ)) → (text : List ℕ) → Type 0
  EndsBy endings.Closed before None rest left text = IsRefused rest NoRequest × IsEnd NoRequest left × (text ≡ [])
  EndsBy endings.Closed before (Some x) rest left text =
      (closes before x.read ≡ true) × IsSome (answer_to nodes g node x) × IsFinal x.read left × (text ≡ text_of nodes g node true x)
  EndsBy endings.ReadFault before None rest left text = text ≡ []
  EndsBy endings.ReadFault before (Some x) rest left text = ⊥
  EndsBy endings.WriteFault before None rest left text = (0 < before) × (text ≡ [])
  EndsBy endings.WriteFault before (Some x) rest left text =
      (IsSome (answer_to nodes g node x) ⊎ IsLost x.turn) × IsFinal x.read left × (text ≡ text_of nodes g node (closes before x.read) x)
  EndsBy endings.Memory before None rest left text = text ≡ []
  EndsBy endings.Memory before (Some x) rest left text = IsLost x.turn × (text ≡ [])

  -- From one moment to the other a connection is served to its end. At the first moment `count` responses had been made, the
  -- octets `kept` were kept, and the octets `owed` were owed.
  pub record IsServed {P : Type 0} (Answers : P → Turn → P → Type 0) (seen : P → ℕ) (count : ℕ) (kept owed : List ℕ) (before after : Moment P) (ended : Ended) : Type 0 where
    -- the octets that came
    pub octets : List ℕ
    pub consumed : Consumes before.left after.left octets
    -- the exchanges that leave the connection open, and the one that ends it, if there is one
    pub answered : List Exchange
    pub last : Option Exchange
    pub rest : List ℕ
    pub means : AreExchanges (kept ++ octets) (answered ++ listed last) rest
    pub stays_open : AllByRecursion IsOpen answered
    pub few : count + length answered < 1000
    -- The manager was asked exactly once for each event that the requests ask for, in this order, and for nothing else.
    pub events : AllByRecursion (λ x. IsTurnOf (event_of g node x.read) x.turn) (answered ++ listed last)
    pub turns : TakesAll Answers seen before.pass (answered ++ listed last) after.pass
    -- The responses were written in this order after the owed octets. If the sink failed, only a prefix of all this was
    -- written.
    pub text : List ℕ
    pub written : WritesUpTo before.taken after.taken (not (is_write_fault ended)) (owed ++ (texts_of answered ++ text))
    pub ends : EndsBy ended (count + length answered) last rest after.left text
    -- faults
    pub read_faults : RoseOnly (is_read_fault ended) before.read_faults after.read_faults
    pub write_faults : RoseOnly (is_write_fault ended) before.write_faults after.write_faults
