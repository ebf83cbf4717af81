-- What a word of a line may stand for.
use Rattle.std.specs.Prelude.{ℕ, ◌%◌, ◌&&◌, ◌==◌, nat_lt, nat_le, if◌then◌else◌, List, length, Option, Some, None, is_some}
use Rattle.std.specs.List.{position_from}
use Rattle.std.specs.Result.{result_ok}
use Rattle.std.specs.Str.{bytes_eq}
use lib.Chars.{codes}
use Rattle.uuid.specs.Text.{parsed, hyphenated_text, lower}
use Rattle.hex.specs.Hex.{decode_of}
use Rattle.qkd_base.specs.declared.lane.Way.{Way}
use Rattle.qkd_base.specs.declared.lane.Way.TheVariants.{Up, Down}
use Rattle.qkd_base.specs.declared.lane.Lane.{Lane}
use Rattle.qkd_base.specs.declared.key_name.NameKind.TheVariants.{Stream}
use Rattle.qkd_base.specs.Name.{Name, octets_of, name_at, kind_eq}
use Rattle.route_table.specs.Table.{ends_of}
use Rattle.sae_entitlements.specs.Grants.{find_sae}
use Rattle.run_types.specs.declared.end.Ends.{Ends}
use Rattle.run_types.specs.declared.end.Ends.TheVariants.{Low, High, Both}
use Rattle.run_types.specs.declared.image.Image.{Image}
use Rattle.run_types.specs.declared.image.Image.TheVariants.{Lost, Kept, Torn}
use Rattle.declared_site.specs.declared.site.Site.{Site}
use Rattle.scenario_text.specs.Words.{◌>>=◌, Word, is_name, number_in}

-- ---- nodes, applications, links and lanes that were declared

-- the number of a declared node
unfoldable pub node_of : Site → Word → Option ℕ
node_of site word = do
  v ← position_from (λ name. bytes_eq name word) 0 site.nodes
  if nat_lt v 16 then Some v else None

-- the number of a declared application
unfoldable pub sae_of : Site → Word → Option ℕ
sae_of site word = if is_name 64 word then find_sae site.entitlements.saes word else None

-- the number of a declared link
unfoldable pub link_of : Site → Word → Option ℕ
link_of site word = do
  l ← number_in 0 31 word
  if is_some (ends_of site.routes l) then Some l else None

abbrev pub way_of : Word → Option Way
way_of word = if bytes_eq word (codes "up") then Some Up else if bytes_eq word (codes "down") then Some Down else None

-- a lane of a declared link
unfoldable pub lane_of : Site → Word → Word → Option Lane
lane_of site link way = do
  l ← link_of site link
  w ← way_of way
  Some (record { link = l; way = w })

-- ---- names of keys

-- the name of this text, which must be the hyphenated lower-case form of its UUID (RFC 9562 section 4)
unfoldable pub name_of : Word → Option Name
name_of word = do
  octets ← parsed word
  n ← name_at octets
  if bytes_eq word (hyphenated_text lower (octets_of n)) then Some n else None

-- the name of a stream
unfoldable pub stream_of : Word → Option Name
stream_of word = do
  n ← name_of word
  if kind_eq n.kind Stream then Some n else None

-- ---- numbers and choices

-- the size of a key in bits: 64 to 4,096, in steps of 8
unfoldable pub size_of : Word → Option ℕ
size_of word = do
  bits ← number_in 64 4096 word
  if bits % 8 == 0 then Some bits else None

abbrev pub ends_named : Word → Option Ends
ends_named word =
    if bytes_eq word (codes "low") then Some Low
    else if bytes_eq word (codes "high") then Some High
    else if bytes_eq word (codes "both") then Some Both
    else None

abbrev pub image_named : Word → Option Image
image_named word =
    if bytes_eq word (codes "lost") then Some Lost
    else if bytes_eq word (codes "kept") then Some Kept
    else if bytes_eq word (codes "torn") then Some Torn
    else None

-- the octets that pairs of hexadecimal digits of either case write: at least one, and at most `most`
unfoldable pub octets_of_hex : (most : ℕ) → Word → Option (List ℕ)
octets_of_hex most word = do
  octets ← result_ok (decode_of word)
  if nat_le 1 (length octets) && nat_le (length octets) most then Some octets else None
