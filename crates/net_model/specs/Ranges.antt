-- The ranges of a payload's parts. In the program, the types of these parts ensure them.
use Rattle.std.specs.Prelude.{◌≡◌, ℕ, ◌<◌, ◌^◌, nat_lt, true, List}
use Rattle.std.specs.List.{list_all}
use Rattle.qkd_base.specs.Name.{IsName}
use Rattle.qkd_base.specs.Route.{is_route, are_nodes}
use Rattle.net_model.specs.declared.fact.Fact.{Fact}
use Rattle.net_model.specs.declared.fact.Fact.TheVariants.{Key, Chunk, Stored, Open, Joined, Part}
use Rattle.net_model.specs.declared.payload.Payload.{Payload}
use Rattle.net_model.specs.declared.payload.Payload.TheVariants.{Data, Ack}

abbrev pub IsOctets : List ℕ → Type 0
IsOctets bytes = list_all (λ b. nat_lt b 256) bytes ≡ true

-- a route has 2 to 9 different nodes
abbrev pub IsRoute : List ℕ → Type 0
IsRoute route = (is_route route ≡ true) × (are_nodes route ≡ true)

abbrev pub IsSae : ℕ → Type 0
IsSae sae = sae < 256

abbrev pub IsRangedFact : Fact → Type 0
IsRangedFact (Key name master slave route bytes) = IsName name × IsSae master × IsSae slave × IsRoute route × IsOctets bytes
IsRangedFact (Chunk name stream index route bytes) = IsName name × IsName stream × (index < 2 ^ 32) × IsRoute route × IsOctets bytes
IsRangedFact (Stored note about route) = IsName note × IsName about × IsRoute route
IsRangedFact (Open stream source peer size route) = IsName stream × IsSae source × IsSae peer × IsRoute route
IsRangedFact (Joined note about route) = IsName note × IsName about × IsRoute route
IsRangedFact (Part name key master slave route bytes) = IsName name × IsName key × IsSae master × IsSae slave × IsRoute route × IsOctets bytes

abbrev pub IsRanged : Payload → Type 0
IsRanged (Data f) = IsRangedFact f
IsRanged (Ack n) = IsName n
