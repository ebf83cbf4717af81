-- The words of a report. Numbers are decimal, names of keys are hyphenated lower-case UUIDs, bytes are lower-case
-- hexadecimal.
use Rattle.std.specs.Prelude.{ℕ, zero, suc, ◌/◌, ◌%◌, ◌^◌, Bool, true, false, List, [], ◌∷◌, ◌++◌, slice_get, unwrap_or}
use lib.Chars.{codes}
use Rattle.std.specs.Fmt.{decimal}
use Rattle.uuid.specs.Text.{hyphenated_text, lower}
use Rattle.hex.specs.Hex.{encode_lower}
use Rattle.qkd_base.specs.Name.{Name, octets_of}
use Rattle.qkd_base.specs.declared.lane.Way.{Way}
use Rattle.qkd_base.specs.declared.lane.Way.TheVariants.{Up, Down}
use Rattle.qkd_base.specs.declared.lane.Lane.{Lane}
use Rattle.net_model.specs.declared.counts.Counts4.{Counts4}
use Rattle.net_model.specs.declared.held.Held.{Held}
use Rattle.net_model.specs.declared.held.Held.TheVariants as states
use Rattle.run_types.specs.declared.end.End.{End}
use Rattle.run_types.specs.declared.end.End.TheVariants.{Low, High}
use Rattle.run_types.specs.declared.payload_kind.PayloadKind.{PayloadKind}
use Rattle.run_types.specs.declared.payload_kind.PayloadKind.TheVariants as kinds
use Rattle.run_types.specs.declared.unsent_cause.UnsentCause.{UnsentCause}
use Rattle.run_types.specs.declared.unsent_cause.UnsentCause.TheVariants as causes

-- words with a space between them
abbrev pub words : List (List ℕ) → List ℕ
words [] = []
words (w ∷ []) = w
words (w ∷ v ∷ ws) = w ++ codes " " ++ words (v ∷ ws)

abbrev pub way_text : Way → List ℕ
way_text Up = codes "up"
way_text Down = codes "down"

abbrev pub end_text : End → List ℕ
end_text Low = codes "low"
end_text High = codes "high"

abbrev pub lane_text : Lane → List ℕ
lane_text l = words (decimal l.link ∷ way_text l.way ∷ [])

abbrev pub name_text : Name → List ℕ
name_text n = hyphenated_text lower (octets_of n)

-- the name of a node, by its number
abbrev pub node_text : List (List ℕ) → ℕ → List ℕ
node_text nodes v = unwrap_or (slice_get nodes v) []

-- a tag, in 16 hexadecimal digits
abbrev pub tag_octets : ℕ → ℕ → List ℕ
tag_octets tag zero = []
tag_octets tag (suc n) = (tag / 256 ^ n) % 256 ∷ tag_octets tag n

abbrev pub tag_text : ℕ → List ℕ
tag_text tag = encode_lower (tag_octets tag 8)

abbrev pub kind_text : PayloadKind → List ℕ
kind_text kinds.Key = codes "key"
kind_text kinds.Stored = codes "stored"
kind_text kinds.Ack = codes "ack"
kind_text kinds.Open = codes "open"
kind_text kinds.Joined = codes "joined"
kind_text kinds.Chunk = codes "chunk"
kind_text kinds.Part = codes "part"

abbrev pub state_text : Held → List ℕ
state_text states.Absent = codes "absent"
state_text states.Given = codes "given"
state_text states.Ready = codes "ready"
state_text states.Made = codes "made"
state_text states.Kept = codes "kept"
state_text states.Relayed = codes "relayed"

abbrev pub cause_text : UnsentCause → List ℕ
cause_text causes.WireFault = codes "wire-fault"
cause_text causes.Memory = codes "memory"

abbrev pub up_text : Bool → List ℕ
up_text true = codes "up"
up_text false = codes "down"

-- bytes, or a hyphen if there are none
abbrev pub bytes_text : List ℕ → List ℕ
bytes_text [] = codes "-"
bytes_text (b ∷ bs) = encode_lower (b ∷ bs)

abbrev pub counts_words : Counts4 → List (List ℕ)
counts_words c =
    codes "received" ∷ decimal c.received ∷ codes "unused" ∷ decimal c.unused ∷ codes "spent" ∷ decimal c.spent ∷ codes "burnt" ∷ decimal c.burnt ∷ []
