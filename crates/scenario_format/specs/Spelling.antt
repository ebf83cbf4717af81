-- How a command is spelled: words with one space between them. Numbers are decimal, names of keys are hyphenated UUIDs in lower case, and
-- octets are lower-case hexadecimal.
use Rattle.std.specs.Prelude.{ℕ, ◌+◌, List, [], ◌∷◌, ◌++◌, map, slice_get, unwrap_or}
use Rattle.std.specs.Option.{option_map}
use Rattle.std.specs.List.{flat_map}
use Rattle.std.specs.Fmt.{decimal}
use Rattle.uuid.specs.Text.{hyphenated_text, lower}
use Rattle.hex.specs.Hex.{encode_lower}
use lib.Chars.{codes}
use Rattle.qkd_base.specs.Name.{Name, octets_of}
use Rattle.qkd_base.specs.declared.lane.Way.{Way}
use Rattle.qkd_base.specs.declared.lane.Way.TheVariants.{Up, Down}
use Rattle.declared_site.specs.declared.site.Site.{Site}
use Rattle.run_types.specs.declared.end.Ends.{Ends}
use Rattle.run_types.specs.declared.end.Ends.TheVariants.{Low, High, Both}
use Rattle.run_types.specs.declared.image.Image.{Image}
use Rattle.run_types.specs.declared.image.Image.TheVariants.{Lost, Kept, Torn}
use Rattle.run_types.specs.declared.stream_call.StreamCall.{StreamCall}
use Rattle.run_types.specs.declared.stream_call.StreamCall.TheVariants as calls
use Rattle.run_types.specs.declared.command.Command.{Command}
use Rattle.run_types.specs.declared.command.Command.TheVariants as commands
use Rattle.run_types.specs.declared.entry.Entry.{Entry}
use Rattle.run_types.specs.declared.entry.Entry.TheVariants as entries
use Rattle.run_types.specs.declared.scenario.Scenario.{Scenario}
use Rattle.scenario_text.specs.declared.reading.Reading.{Reading}
use Rattle.scenario_text.specs.Words.{Word}

-- ---- words

abbrev pub node_word : Site → ℕ → Word
node_word site v = unwrap_or (slice_get site.nodes v) []

abbrev pub sae_word : Site → ℕ → Word
sae_word site n = unwrap_or (option_map (λ sae. sae.id) (slice_get site.entitlements.saes n)) []

abbrev pub way_word : Way → Word
way_word Up = codes "up"
way_word Down = codes "down"

abbrev pub ends_word : Ends → Word
ends_word Low = codes "low"
ends_word High = codes "high"
ends_word Both = codes "both"

abbrev pub image_word : Image → Word
image_word Lost = codes "lost"
image_word Kept = codes "kept"
image_word Torn = codes "torn"

abbrev pub name_word : Name → Word
name_word n = hyphenated_text lower (octets_of n)

-- ---- lines of commands

abbrev pub call_words : Site → StreamCall → List Word
call_words site (calls.Open source peer bits) = codes "OPEN_CONNECT" ∷ sae_word site source ∷ sae_word site peer ∷ codes "-" ∷ decimal bits ∷ []
call_words site (calls.Join caller source stream bits) = codes "OPEN_CONNECT" ∷ sae_word site caller ∷ sae_word site source ∷ name_word stream ∷ decimal bits ∷ []
call_words site (calls.Get caller stream index) = codes "GET_KEY" ∷ sae_word site caller ∷ name_word stream ∷ decimal index ∷ []
call_words site (calls.Close caller stream) = codes "CLOSE" ∷ sae_word site caller ∷ name_word stream ∷ []

-- the first word of a line
abbrev pub keyword : Command → Word
keyword (commands.Bits link ends count) = codes "bits"
keyword (commands.Fill master slave bits count) = codes "fill"
keyword (commands.Feed stream count) = codes "feed"
keyword (commands.Tick node) = codes "tick"
keyword (commands.Settle rounds) = codes "settle"
keyword (commands.Pass lane number) = codes "pass"
keyword (commands.Flip lane number bit) = codes "flip"
keyword (commands.Forge lane octets) = codes "forge"
keyword (commands.Crash node) = codes "crash"
keyword (commands.Start node) = codes "start"
keyword (commands.Cut node call image) = codes "cut"
keyword (commands.Fail node call) = codes "fail"
keyword (commands.LinkUp link) = codes "link-up"
keyword (commands.LinkDown link) = codes "link-down"
keyword (commands.Enc node master slave count bits) = codes "enc"
keyword (commands.Dec node slave master names) = codes "dec"
keyword (commands.Status node master slave) = codes "status"
keyword (commands.Http node octets) = codes "http"
keyword (commands.Stream node call) = codes "q004"
keyword (commands.Show node name) = codes "show"
keyword (commands.Ledger lane) = codes "ledger"
keyword (commands.FillGroup master bits count slaves) = codes "fill-group"
keyword (commands.EncGroup node master count bits slaves) = codes "enc-group"

-- the words of a line behind its first one
abbrev pub arguments : Site → Command → List Word
arguments site (commands.Bits link ends count) = decimal link ∷ ends_word ends ∷ decimal count ∷ []
arguments site (commands.Fill master slave bits count) = sae_word site master ∷ sae_word site slave ∷ decimal bits ∷ decimal count ∷ []
arguments site (commands.Feed stream count) = name_word stream ∷ decimal count ∷ []
arguments site (commands.Tick node) = node_word site node ∷ []
arguments site (commands.Settle rounds) = decimal rounds ∷ []
arguments site (commands.Pass lane number) = decimal lane.link ∷ way_word lane.way ∷ decimal number ∷ []
arguments site (commands.Flip lane number bit) = decimal lane.link ∷ way_word lane.way ∷ decimal number ∷ decimal bit ∷ []
arguments site (commands.Forge lane octets) = decimal lane.link ∷ way_word lane.way ∷ encode_lower octets ∷ []
arguments site (commands.Crash node) = node_word site node ∷ []
arguments site (commands.Start node) = node_word site node ∷ []
arguments site (commands.Cut node call image) = node_word site node ∷ decimal call ∷ image_word image ∷ []
arguments site (commands.Fail node call) = node_word site node ∷ decimal call ∷ []
arguments site (commands.LinkUp link) = decimal link ∷ []
arguments site (commands.LinkDown link) = decimal link ∷ []
arguments site (commands.Enc node master slave count bits) = node_word site node ∷ sae_word site master ∷ sae_word site slave ∷ decimal count ∷ decimal bits ∷ []
arguments site (commands.Dec node slave master names) = node_word site node ∷ sae_word site slave ∷ sae_word site master ∷ map name_word names
arguments site (commands.Status node master slave) = node_word site node ∷ sae_word site master ∷ sae_word site slave ∷ []
arguments site (commands.Http node octets) = node_word site node ∷ encode_lower octets ∷ []
arguments site (commands.Stream node call) = node_word site node ∷ call_words site call
arguments site (commands.Show node name) = node_word site node ∷ name_word name ∷ []
arguments site (commands.Ledger lane) = decimal lane.link ∷ way_word lane.way ∷ []
arguments site (commands.FillGroup master bits count slaves) = sae_word site master ∷ decimal bits ∷ decimal count ∷ map (sae_word site) slaves
arguments site (commands.EncGroup node master count bits slaves) = node_word site node ∷ sae_word site master ∷ decimal count ∷ decimal bits ∷ map (sae_word site) slaves

-- words in a row, each with a space before it
abbrev pub spaced : List Word → List ℕ
spaced [] = []
spaced (w ∷ ws) = 32 ∷ w ++ spaced ws

abbrev pub spelled : Site → Command → List ℕ
spelled site c = keyword c ++ spaced (arguments site c)

-- lines in a row, each with a line feed behind it
abbrev pub with_ends : List (List ℕ) → List ℕ
with_ends lines = flat_map (λ line. line ++ 10 ∷ []) lines

abbrev pub lines_of : Site → List Command → List ℕ
lines_of site cs = with_ends (map (spelled site) cs)

-- The commands as entries of a scenario: their lines have consecutive numbers from this one on, and none is in a block.
abbrev pub numbered : ℕ → List Command → List Entry
numbered number [] = []
numbered number (c ∷ cs) = entries.Line (record { number = number; command = c }) ∷ numbered (number + 1) cs

-- The scenario that was read so far, and these commands behind it. The first of them has this line number.
abbrev pub said : Reading → ℕ → List Command → Scenario
said r number cs = record { site = r.site; node_lines = r.node_lines; entries = r.entries ++ numbered number cs }
