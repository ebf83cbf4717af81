-- Each word of an item is read back as the value that it was written from.
use Rattle.std.proofs.Common.{◌≡◌, ℕ, zero, suc, ◌≤◌, ◌<◌, ◌^◌, ◌*◌, ◌/◌, Bool, true, false, List, [], ◌∷◌, length, Some, refl, ap, ◌∙◌, arith}
use Rattle.std.specs.Prelude.{nat_lt}
use Rattle.std.specs.Int.{w64, to_be_bytes, from_be_bytes}
use Rattle.std.specs.Fmt.{decimal}
use Rattle.std.specs.Str.{bytes_eq}
use Rattle.std.proofs.lemmas.Nat.{from_be_bytes-to_be_bytes_8}
use Rattle.std.proofs.lemmas.Slice.Eq.{bytes_eq-Decides}
use lib.Chars.{codes}
use Rattle.hex.specs.Hex.{IsBytes, encode_lower, lower_digits}
use Rattle.hex.proofs.HexLemmas.{decode_of-encode_lower, length-encode_with, decode_sized-twice}
use Rattle.qkd_base.specs.declared.lane.Way.{Way}
use Rattle.qkd_base.specs.declared.lane.Way.TheVariants.{Up, Down}
use Rattle.qkd_base.specs.declared.lane.Lane.{Lane}
use Rattle.net_model.specs.declared.held.Held.{Held}
use Rattle.net_model.specs.declared.held.Held.TheVariants as states
use Rattle.run_types.specs.declared.end.End.{End}
use Rattle.run_types.specs.declared.end.End.TheVariants as ends
use Rattle.scenario_text.specs.Words.{Word}
use Rattle.scenario_text.specs.Fields.{way_of}
use Rattle.scenario_format.proofs.Numerals.{number_back, digits_back, number_in_is}
use Rattle.run_types.specs.declared.payload_kind.PayloadKind.{PayloadKind}
use Rattle.run_types.specs.declared.payload_kind.PayloadKind.TheVariants as kinds
use Rattle.run_types.specs.declared.unsent_cause.UnsentCause.{UnsentCause}
use Rattle.run_types.specs.declared.unsent_cause.UnsentCause.TheVariants as causes
use Rattle.run_types.specs.Words.{node_text, end_text, way_text, tag_octets, tag_text, kind_text, state_text, cause_text, up_text, bytes_text}
use Rattle.report_grammar.specs.Fields.{long_of, short_of, byte_of, tag_of, node_of, link_of, lane_of, end_of, up_of, kind_of, state_of, cause_of, octets_of, bytes_of}
use Rattle.report_grammar.specs.Tellable.{HasName}
use Rattle.report_grammar.proofs.Spaceless.{is_spaceless, hex_spaceless}

-- ---- numbers

below : (n limit : ℕ) → n < limit → nat_lt n limit ≡ true
below n limit lt = grind arith

pub long_is : (n : ℕ) → n < 2 ^ 64 → long_of (decimal n) ≡ Some n
unfolding long_of
long_is n h = rw (digits_back n h, number_back n h, below n (2 ^ 64) h) refl

pub short_is : (n : ℕ) → n < 2 ^ 16 → short_of (decimal n) ≡ Some n
unfolding short_of
short_is n h = number_in_is 0 65535 n (omega arith) (omega arith) (omega arith)

pub byte_is : (n : ℕ) → n < 2 ^ 8 → byte_of (decimal n) ≡ Some n
unfolding byte_of
byte_is n h = number_in_is 0 255 n (omega arith) (omega arith) (omega arith)

octets_small : (t n : ℕ) → IsBytes (tag_octets t n)
octets_small t zero i = omega arith
octets_small t (suc n) zero = omega arith
octets_small t (suc n) (suc i) = octets_small t n i

same_octets : (t : ℕ) → tag_octets t 8 ≡ to_be_bytes w64 t
same_octets t = let e : t / 1 ≡ t = omega arith in rw e refl

pub tag_is : (t : ℕ) → t < 2 ^ 64 → tag_of (tag_text t) ≡ Some t
unfolding tag_of
tag_is t h =
    let e : length (tag_text t) ≡ 2 * 8 = length-encode_with lower_digits (tag_octets t 8) in
    let number : from_be_bytes w64 (tag_octets t 8) ≡ t = ap (from_be_bytes w64) (same_octets t) ∙ from_be_bytes-to_be_bytes_8 t h in
    rw (decode_sized-twice (tag_text t) 8 e, decode_of-encode_lower (tag_octets t 8) (octets_small t 8), number) refl

-- ---- nodes, links and lanes

pub node_is : (nodes : List (List ℕ)) (v : ℕ) → HasName nodes v → node_of nodes (node_text nodes v) ≡ Some v
unfolding node_of
node_is nodes v h = rw (h.own, below v 16 h.small) refl

pub link_is : (l : ℕ) → l < 32 → link_of (decimal l) ≡ Some l
unfolding link_of
link_is l h = number_in_is 0 31 l (omega arith) (omega arith) (omega arith)

way_is : (w : Way) → way_of (way_text w) ≡ Some w
way_is Up = refl
way_is Down = refl

pub lane_is : (l : Lane) → l.link < 32 → lane_of (decimal l.link) (way_text l.way) ≡ Some l
unfolding lane_of
lane_is l h = rw (link_is l.link h, way_is l.way) refl

-- ---- words of a fixed choice

pub end_is : (e : End) → end_of (end_text e) ≡ Some e
end_is ends.Low = refl
end_is ends.High = refl

pub end_spaceless : (e : End) → is_spaceless (end_text e) ≡ true
end_spaceless ends.Low = refl
end_spaceless ends.High = refl

pub up_is : (b : Bool) → up_of (up_text b) ≡ Some b
up_is true = refl
up_is false = refl

pub up_spaceless : (b : Bool) → is_spaceless (up_text b) ≡ true
up_spaceless true = refl
up_spaceless false = refl

pub kind_is : (k : PayloadKind) → kind_of (kind_text k) ≡ Some k
kind_is kinds.Key = refl
kind_is kinds.Stored = refl
kind_is kinds.Ack = refl
kind_is kinds.Open = refl
kind_is kinds.Joined = refl
kind_is kinds.Chunk = refl
kind_is kinds.Part = refl

pub kind_spaceless : (k : PayloadKind) → is_spaceless (kind_text k) ≡ true
kind_spaceless kinds.Key = refl
kind_spaceless kinds.Stored = refl
kind_spaceless kinds.Ack = refl
kind_spaceless kinds.Open = refl
kind_spaceless kinds.Joined = refl
kind_spaceless kinds.Chunk = refl
kind_spaceless kinds.Part = refl

pub state_is : (s : Held) → state_of (state_text s) ≡ Some s
state_is states.Absent = refl
state_is states.Given = refl
state_is states.Ready = refl
state_is states.Made = refl
state_is states.Kept = refl
state_is states.Relayed = refl

pub state_spaceless : (s : Held) → is_spaceless (state_text s) ≡ true
state_spaceless states.Absent = refl
state_spaceless states.Given = refl
state_spaceless states.Ready = refl
state_spaceless states.Made = refl
state_spaceless states.Kept = refl
state_spaceless states.Relayed = refl

pub cause_is : (c : UnsentCause) → cause_of (cause_text c) ≡ Some c
cause_is causes.WireFault = refl
cause_is causes.Memory = refl

pub cause_spaceless : (c : UnsentCause) → is_spaceless (cause_text c) ≡ true
cause_spaceless causes.WireFault = refl
cause_spaceless causes.Memory = refl

-- ---- octets

pub octets_are : (bs : List ℕ) → IsBytes bs → octets_of (encode_lower bs) ≡ Some bs
unfolding octets_of
octets_are bs h = rw (decode_of-encode_lower bs h) refl

longer : (b : Bool) (w : Word) → (b ≡ true → w ≡ codes "-") → 2 ≤ length w → b ≡ false
longer true w same h = let e : length w ≡ 1 = ap length (same refl) in absurd (omega arith)
longer false w same h = refl

no_hyphen : (b : ℕ) (bs : List ℕ) → bytes_eq (encode_lower (b ∷ bs)) (codes "-") ≡ false
no_hyphen b bs =
    longer (bytes_eq (encode_lower (b ∷ bs)) (codes "-")) (encode_lower (b ∷ bs)) (bytes_eq-Decides (encode_lower (b ∷ bs)) (codes "-")).0
    (let e = length-encode_with lower_digits (b ∷ bs) in omega arith)

pub bytes_are : (bs : List ℕ) → IsBytes bs → bytes_of (bytes_text bs) ≡ Some bs
unfolding bytes_of
bytes_are [] h = refl
bytes_are (b ∷ bs) h = rw (no_hyphen b bs) (octets_are (b ∷ bs) h)

pub bytes_spaceless : (bs : List ℕ) → is_spaceless (bytes_text bs) ≡ true
bytes_spaceless [] = refl
bytes_spaceless (b ∷ bs) = hex_spaceless (b ∷ bs)
