-- Which commands can be written for a site: each node, application and link that they name is found by its word, and each number is in range.
use Rattle.std.specs.List.{list_any}
use Rattle.std.specs.Prelude.{◌++◌, ◌==◌, false, ◌≡◌, ℕ, ◌%◌, ◌^◌, ◌<◌, ◌≤◌, true, List, [], ◌∷◌, length, Some}
use Rattle.std.specs.Fmt.{decimal}
use Rattle.hex.specs.Hex.{IsBytes}
use Rattle.qkd_base.specs.declared.key_name.NameKind.TheVariants.{Stream as StreamKind}
use Rattle.qkd_base.specs.Name.{Name, IsName}
use Rattle.declared_site.specs.declared.site.Site.{Site}
use Rattle.run_types.specs.declared.stream_call.StreamCall.{StreamCall}
use Rattle.run_types.specs.declared.stream_call.StreamCall.TheVariants as calls
use Rattle.run_types.specs.declared.command.Command.{Command}
use Rattle.run_types.specs.declared.command.Command.TheVariants as commands
use Rattle.scenario_text.specs.Words.{is_name}
use Rattle.scenario_text.specs.Fields.{node_of, sae_of, link_of}
use Rattle.scenario_text.specs.Line.{rounds_with}
use Rattle.scenario_format.specs.Spelling.{node_word, sae_word, spelled}

-- The node of number v is declared, and the reader finds it by its word.
pub record HasNode (site : Site) (v : ℕ) : Type 0 where
  pub name : is_name 32 (node_word site v) ≡ true
  pub some : 1 ≤ length (node_word site v)
  pub read : node_of site (node_word site v) ≡ Some v

pub record HasSae (site : Site) (n : ℕ) : Type 0 where
  pub name : is_name 64 (sae_word site n) ≡ true
  pub some : 1 ≤ length (sae_word site n)
  pub read : sae_of site (sae_word site n) ≡ Some n

pub record HasLink (site : Site) (l : ℕ) : Type 0 where
  pub small : l < 32
  pub read : link_of site (decimal l) ≡ Some l

abbrev pub IsKeySize : ℕ → Type 0
IsKeySize bits = (64 ≤ bits) × (bits ≤ 4096) × (bits % 8 ≡ 0)

abbrev pub IsWithin : (least most n : ℕ) → Type 0
IsWithin least most n = (least ≤ n) × (n ≤ most)

abbrev pub IsStream : Name → Type 0
IsStream n = IsName n × (n.kind ≡ StreamKind)

abbrev pub AreNames : List Name → Type 0
AreNames [] = Unit {0}
AreNames (n ∷ ns) = IsName n × AreNames ns

-- from 1 to `most` octets
abbrev pub AreOctets : (most : ℕ) → List ℕ → Type 0
AreOctets most octets = IsBytes octets × (1 ≤ length octets) × (length octets ≤ most)

abbrev pub CanCall : Site → StreamCall → Type 0
CanCall site (calls.Open source peer bits) = HasSae site source × HasSae site peer × (bits ≤ 65535)
CanCall site (calls.Join caller source stream bits) = HasSae site caller × HasSae site source × IsStream stream × (bits ≤ 65535)
CanCall site (calls.Get caller stream index) = HasSae site caller × IsStream stream × (index < 2 ^ 32)
CanCall site (calls.Close caller stream) = HasSae site caller × IsStream stream

-- Declared applications that differ from each other and from those before them.
abbrev pub AreOthers : Site → (before slaves : List ℕ) → Type 0
AreOthers site before [] = Unit {0}
AreOthers site before (s ∷ ss) = HasSae site s × (list_any (λ other. other == s) before ≡ false) × AreOthers site (before ++ s ∷ []) ss

abbrev pub IsGroup : Site → List ℕ → Type 0
IsGroup site slaves = AreOthers site [] slaves × IsWithin 2 5 (length slaves)

abbrev pub CanSay : Site → Command → Type 0
CanSay site (commands.Bits link ends count) = HasLink site link × IsWithin 1 1024 count
CanSay site (commands.Fill master slave bits count) = HasSae site master × HasSae site slave × IsKeySize bits × IsWithin 1 128 count
CanSay site (commands.Feed stream count) = IsName stream × IsWithin 1 128 count × (stream.node < length site.nodes)
CanSay site (commands.Tick node) = HasNode site node
CanSay site (commands.Settle rounds) = IsWithin 1 1000 rounds
CanSay site (commands.Pass lane number) = HasLink site lane.link × (number < 2 ^ 32)
CanSay site (commands.Flip lane number bit) = HasLink site lane.link × (number < 2 ^ 32) × (bit < 2 ^ 32)
CanSay site (commands.Forge lane octets) = HasLink site lane.link × AreOctets 600 octets
CanSay site (commands.Crash node) = HasNode site node
CanSay site (commands.Start node) = HasNode site node
CanSay site (commands.Cut node call image) = HasNode site node × IsWithin 1 1000000 call
CanSay site (commands.Fail node call) = HasNode site node × IsWithin 1 1000000 call
CanSay site (commands.LinkUp link) = HasLink site link
CanSay site (commands.LinkDown link) = HasLink site link
CanSay site (commands.Enc node master slave count bits) = HasNode site node × HasSae site master × HasSae site slave × IsWithin 1 128 count × IsKeySize bits
CanSay site (commands.Dec node slave master names) = HasNode site node × HasSae site slave × HasSae site master × AreNames names × IsWithin 1 128 (length names)
CanSay site (commands.Status node master slave) = HasNode site node × HasSae site master × HasSae site slave
CanSay site (commands.Http node octets) = HasNode site node × AreOctets 73728 octets
CanSay site (commands.Stream node call) = HasNode site node × CanCall site call
CanSay site (commands.Show node name) = HasNode site node × IsName name
CanSay site (commands.Ledger lane) = HasLink site lane.link
CanSay site (commands.FillGroup master bits count slaves) = HasSae site master × IsKeySize bits × IsWithin 1 128 count × IsGroup site slaves
CanSay site (commands.EncGroup node master count bits slaves) = HasNode site node × HasSae site master × IsWithin 1 128 count × IsKeySize bits × IsGroup site slaves

-- Each of the commands can be written, in a line of at most 150,000 octets.
abbrev pub CanSayAll : Site → List Command → Type 0
CanSayAll site [] = Unit {0}
CanSayAll site (c ∷ cs) = (CanSay site c × (length (spelled site c) ≤ 150000)) × CanSayAll site cs

-- The rounds of all settles add up to at most 100,000.
abbrev pub RoundsFit : ℕ → List Command → Type 0
RoundsFit rounds [] = Unit {0}
RoundsFit rounds (c ∷ cs) = (rounds_with rounds c ≤ 100000) × RoundsFit (rounds_with rounds c) cs
