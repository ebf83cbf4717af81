-- Acknowledgements that name the fact in the frame that they answer.
use Rattle.std.specs.Prelude.{◌≡◌, ℕ, List, slice_get, Option, Some, None}
use Rattle.std.specs.List.{AllByRecursion}
use Rattle.qkd_base.specs.Name.{Name}
use Rattle.qkd_base.specs.Lane.{reverse_lane}
use Rattle.qkd_base.specs.declared.lane.Lane.{Lane}
use Rattle.net_model.specs.Item.{DataItem, item_name}
use Rattle.net_model.specs.World.{World, Allocation, Transmission, Entry, PendingAck, Volatile}

-- The lane has a frame with the fact of this name at this offset.
pub record HasFrameOf (frames : List Allocation) (offset : ℕ) (n : Name) : Type 0 where
  pub number : ℕ
  pub there : slice_get frames number ≡ Some (record { offset = offset; item = DataItem n })

-- If this was sent as the answer to a frame on the reverse lane, that frame has a fact of this name.
abbrev pub AnswersFrameOf : (Lane → List Allocation) → Lane → Option ℕ → Name → Type 0
AnswersFrameOf frames l None n = Unit {0}
AnswersFrameOf frames l (Some offset) n = HasFrameOf (frames (reverse_lane l)) offset n

abbrev pub NamesItsFrame : (Lane → List Allocation) → Transmission → Type 0
NamesItsFrame frames t = AnswersFrameOf frames t.lane t.received_offset (item_name t.item)

-- It is so of each acknowledgement that was sent or is pending.
pub record IsNaming (frames : Lane → List Allocation) (vol : Volatile) : Type 0 where
  pub pending : AllByRecursion (λ (a : PendingAck). HasFrameOf (frames a.lane) a.offset a.name) vol.pending_acks
  pub sent : AllByRecursion (λ (e : Entry). NamesItsFrame frames e.transmission) vol.window

abbrev pub AreNaming : World → Type 0
AreNaming w = (v : ℕ) → IsNaming w.frames (w.volatile v)
