-- The values that words of a line are read as. Several words may be read as one value; reading a line compares the text of what was read
-- with the line.
use Rattle.std.specs.Prelude.{ℕ, ◌^◌, Bool, true, false, ◌&&◌, nat_lt, if◌then◌else◌, List, [], Option, Some, None}
use Rattle.std.specs.Int.{w64, from_be_bytes}
use Rattle.std.specs.List.{list_all, position_from}
use Rattle.std.specs.Result.{result_ok}
use Rattle.std.specs.Str.{bytes_eq}
use lib.Chars.{codes}
use Rattle.hex.specs.Hex.{decode_of, decode_sized}
use Rattle.qkd_base.specs.declared.lane.Lane.{Lane}
use Rattle.net_model.specs.declared.held.Held.{Held}
use Rattle.net_model.specs.declared.held.Held.TheVariants as states
use Rattle.run_types.specs.declared.end.End.{End}
use Rattle.run_types.specs.declared.end.End.TheVariants as ends
use Rattle.scenario_text.specs.Words.{◌>>=◌, Word, is_digit, number_on, number_in}
use Rattle.scenario_text.specs.Fields.{way_of}
use Rattle.run_types.specs.declared.payload_kind.PayloadKind.{PayloadKind}
use Rattle.run_types.specs.declared.payload_kind.PayloadKind.TheVariants as kinds
use Rattle.run_types.specs.declared.unsent_cause.UnsentCause.{UnsentCause}
use Rattle.run_types.specs.declared.unsent_cause.UnsentCause.TheVariants as causes

-- ---- numbers

-- a decimal number below 2 ^ 64
unfoldable pub long_of : Word → Option ℕ
long_of word = if list_all is_digit word && nat_lt (number_on 0 word) (2 ^ 64) then Some (number_on 0 word) else None

unfoldable pub short_of : Word → Option ℕ
short_of word = number_in 0 65535 word

unfoldable pub byte_of : Word → Option ℕ
byte_of word = number_in 0 255 word

-- a tag, from its 16 hexadecimal digits
unfoldable pub tag_of : Word → Option ℕ
tag_of word = do
  octets ← result_ok (decode_sized word 8)
  Some (from_be_bytes w64 octets)

-- ---- nodes, links and lanes

-- the number of a declared node, below 16
unfoldable pub node_of : List (List ℕ) → Word → Option ℕ
node_of nodes word = do
  v ← position_from (λ name. bytes_eq name word) 0 nodes
  if nat_lt v 16 then Some v else None

unfoldable pub link_of : Word → Option ℕ
link_of word = number_in 0 31 word

unfoldable pub lane_of : Word → Word → Option Lane
lane_of link way = do
  l ← link_of link
  w ← way_of way
  Some (record { link = l; way = w })

-- ---- words of a fixed choice

abbrev pub end_of : Word → Option End
end_of word =
    if bytes_eq word (codes "low") then Some ends.Low
    else if bytes_eq word (codes "high") then Some ends.High
    else None

abbrev pub up_of : Word → Option Bool
up_of word =
    if bytes_eq word (codes "up") then Some true
    else if bytes_eq word (codes "down") then Some false
    else None

abbrev pub kind_of : Word → Option PayloadKind
kind_of word =
    if bytes_eq word (codes "key") then Some kinds.Key
    else if bytes_eq word (codes "stored") then Some kinds.Stored
    else if bytes_eq word (codes "ack") then Some kinds.Ack
    else if bytes_eq word (codes "open") then Some kinds.Open
    else if bytes_eq word (codes "joined") then Some kinds.Joined
    else if bytes_eq word (codes "chunk") then Some kinds.Chunk
    else if bytes_eq word (codes "part") then Some kinds.Part
    else None

abbrev pub state_of : Word → Option Held
state_of word =
    if bytes_eq word (codes "absent") then Some states.Absent
    else if bytes_eq word (codes "given") then Some states.Given
    else if bytes_eq word (codes "ready") then Some states.Ready
    else if bytes_eq word (codes "made") then Some states.Made
    else if bytes_eq word (codes "kept") then Some states.Kept
    else if bytes_eq word (codes "relayed") then Some states.Relayed
    else None

abbrev pub cause_of : Word → Option UnsentCause
cause_of word =
    if bytes_eq word (codes "wire-fault") then Some causes.WireFault
    else if bytes_eq word (codes "memory") then Some causes.Memory
    else None

-- ---- octets

-- octets, from pairs of hexadecimal digits
unfoldable pub octets_of : Word → Option (List ℕ)
octets_of word = result_ok (decode_of word)

-- The octets of a key that is shown. A hyphen stands for none.
unfoldable pub bytes_of : Word → Option (List ℕ)
bytes_of word = if bytes_eq word (codes "-") then Some [] else octets_of word
