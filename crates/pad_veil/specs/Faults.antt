-- Which frames are refused when payloads are exchanged, and why.
use Rattle.std.specs.Prelude.{◌≡◌, ℕ, ◌+◌, ◌≤◌, ◌<◌, ◌==◌, ◌&&◌, ◌||◌, not, nat_lt, nat_le, Bool, false, List, [], ◌∷◌, ◌++◌, length, slice_index_or, Option, Some, None, Result, Ok, Err, if◌then◌else◌}
use Rattle.std.specs.List.{All, AllPairs, list_any}
use Rattle.std.specs.Option.{option_or}
use Rattle.pad_veil.specs.declared.sealed_frame.SealedFrame.{SealedFrame}
use Rattle.pad_veil.specs.declared.veil_refusal.VeilRefusal.{VeilRefusal}
use Rattle.pad_veil.specs.declared.veil_refusal.VeilRefusal.TheVariants.{Unequal, Outside, Overlap, Memory}

-- The first byte of the lane behind the frame. The frame spends the bytes that mask its payload, and 8 that mask its tag.
abbrev pub end_of : SealedFrame → ℕ
end_of f = f.offset + length f.old + 8

-- The frame spends this byte of the lane.
abbrev pub spends : ℕ → SealedFrame → Bool
spends byte f = nat_le f.offset byte && nat_lt byte (end_of f)

-- The two frames overlap: they spend a byte in common.
abbrev pub meet : SealedFrame → SealedFrame → Bool
meet f g = nat_lt f.offset (end_of g) && nat_lt g.offset (end_of f)

-- A byte of the lane is marked exactly if one of the frames spends it.
abbrev pub Marks : List SealedFrame → List Bool → Type 0
Marks frames spent = (byte : ℕ) → byte < length spent → slice_index_or spent byte false ≡ list_any (spends byte) frames

-- Why the frame is refused after these earlier ones, on a lane of `size` bytes. The first 8 bytes of a lane are its hash key.
abbrev pub fault_of : ℕ → List SealedFrame → SealedFrame → Option VeilRefusal
fault_of size earlier f =
    if not (length f.old == length f.new) then Some (Unequal (length earlier)) else
    if nat_lt f.offset 8 || nat_lt size (end_of f) then Some (Outside (length earlier)) else
    if list_any (meet f) earlier then Some (Overlap (length earlier)) else None

-- the fault of the first of the later frames that has one
abbrev pub fault_after : ℕ → List SealedFrame → List SealedFrame → Option VeilRefusal
fault_after size earlier [] = None
fault_after size earlier (f ∷ later) = option_or (fault_of size earlier f) (fault_after size (earlier ++ f ∷ []) later)

abbrev pub first_fault : ℕ → List SealedFrame → Option VeilRefusal
first_fault size frames = fault_after size [] frames

-- The call returns this fault, or succeeds if there is none. In both cases memory may run out instead.
abbrev pub Refuses : {X : Type 0} → Option VeilRefusal → Result X VeilRefusal → Type 0
Refuses fault (Ok answer) = fault ≡ None
Refuses fault (Err (Unequal place)) = fault ≡ Some (Unequal place)
Refuses fault (Err (Outside place)) = fault ≡ Some (Outside place)
Refuses fault (Err (Overlap place)) = fault ≡ Some (Overlap place)
Refuses fault (Err Memory) = Unit {0}

-- No frame spends the hash key or a byte past the lane's end, no two frames spend the same byte, and each frame's payloads are equally long.
pub record LieApart (size : ℕ) (frames : List SealedFrame) : Type 0 where
  pub equal : All (λ f. length f.old ≡ length f.new) frames
  pub low : All (λ f. 8 ≤ f.offset) frames
  pub high : All (λ f. end_of f ≤ size) frames
  pub apart : AllPairs (λ f g. meet g f ≡ false) frames
