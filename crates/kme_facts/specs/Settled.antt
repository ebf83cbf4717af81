-- How bytes that are no longer needed become zeros.
use Rattle.std.specs.Prelude.{◌≡◌, ℕ, true, take, slice_get, Option, Some, None, IfSome}
use Rattle.qkd_base.specs.Name.{Name}
use Rattle.net_model.specs.declared.fact.Fact.{Fact}
use Rattle.net_model.specs.declared.fact.Fact.TheVariants.{Open, Part}
use Rattle.net_model.specs.Table.{fact_at}
use Rattle.net_model.specs.View.{View}
use Rattle.net_model.specs.Needed.{masked, masked_fact}
use Rattle.relay_core.specs.declared.group.Group.{Group}
use Rattle.relay_core.specs.declared.group.Group.TheVariants.{Named, PartsOf, ChunksOf}
use Rattle.relay_core.specs.Index.{belongs}
use Rattle.stream_core.specs.Kept.{StreamEnds}
use Rattle.kme_facts.specs.Needs.{kept_view}

-- the bytes at this place are needed, or they are zeros
abbrev pub IsSettled : StreamEnds → ℕ → Type 0
IsSettled s place = IfSome (slice_get s.ends.known.facts place) (λ f. masked_fact (kept_view s) f ≡ f)

-- the bytes of each fact of the group are needed, or they are zeros
pub record AreSettled (s : StreamEnds) (g : Group) : Type 0 where
  pub each : (place : ℕ) (f : Fact) → slice_get s.ends.known.facts place ≡ Some f → belongs s.ends.known.me s.ends.known.acked g f ≡ true → IsSettled s place

-- at some places bytes that aren't needed become zeros, and nothing else changes
pub record LetsGo (old new : StreamEnds) : Type 0 where
  pub same : masked (kept_view new) ≡ masked (kept_view old)
  pub still : (place : ℕ) → IsSettled old place → IsSettled new place
  pub facts_spare : new.ends.known.facts_spare ≡ old.ends.known.facts_spare
  pub acked_spare : new.ends.known.acked_spare ≡ old.ends.known.acked_spare
  pub handed_spare : new.ends.handed_spare ≡ old.ends.handed_spare
  pub closed_spare : new.closed_spare ≡ old.closed_spare

-- facts that may no longer be needed after a fact, an acknowledgement or a handed-out key

abbrev pub opened_by : Option Fact → Option Name
opened_by (Some (Open stream source peer size route)) = Some stream
opened_by _ = None

abbrev pub key_of : Option Fact → Option Name
key_of (Some (Part name key master slave route bytes)) = Some key
key_of _ = None

-- the fact at a place, and the chunks of the stream that it opens
pub record IsLearnedSettled (s : StreamEnds) (place : ℕ) : Type 0 where
  pub there : IsSettled s place
  pub chunks : (stream : Name) → opened_by (slice_get s.ends.known.facts place) ≡ Some stream → AreSettled s (ChunksOf stream)

-- the fact of a name, and the parts of the group key that has this fact as a part
pub record IsToldSettled (s : StreamEnds) (n : Name) : Type 0 where
  pub named : AreSettled s (Named n)
  pub parts : (key : Name) → key_of (fact_at s.ends.known.facts n) ≡ Some key → AreSettled s (PartsOf key)

-- the key or chunk of a name, and the parts of the group key of this name
pub record IsGivenSettled (s : StreamEnds) (n : Name) : Type 0 where
  pub named : AreSettled s (Named n)
  pub parts : AreSettled s (PartsOf n)

-- the state with only the first `facts` facts, `acked` acknowledgements and `handed` pairs of a key and an application
abbrev pub kept_before : StreamEnds → ℕ → ℕ → ℕ → View
kept_before s facts acked handed =
    record (kept_view s) {
      facts = take facts s.ends.known.facts;
      acked = take acked s.ends.known.acked;
      handed = take handed s.ends.handed;
    }

-- in that state, bytes that weren't needed were zeros
pub record WasMasked (s : StreamEnds) (facts acked handed : ℕ) : Type 0 where
  pub same : masked (kept_before s facts acked handed) ≡ kept_before s facts acked handed
