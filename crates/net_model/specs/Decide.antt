-- A manager's decision on each event, from what it knows: the durable changes, the new state of its life, and the
-- answer.
use Rattle.std.specs.Prelude.{ℕ, ◌*◌, ◌/◌, ◌==◌, Bool, List, [], ◌∷◌, if◌then◌else◌}
use Rattle.net_model.specs.declared.event.Event.{Event}
use Rattle.net_model.specs.declared.event.Event.TheVariants.{Block, Fill, Feed, Plan, Heard, Enc, Dec, Status, Open, Join, Get, Close, Show, Ledger, FillGroup, EncGroup, Note}
use Rattle.net_model.specs.declared.record.Record.TheVariants.{Block as Block'}
use Rattle.net_model.specs.declared.reply.Reply.TheVariants.{Took, Noted, LinkFull, BadFrame}
use Rattle.net_model.specs.Table.{fact_at}
use Rattle.net_model.specs.Site.{Site}
use Rattle.net_model.specs.Sealing.{Sealing, Opened, Opens, Rejected, Forged}
use Rattle.qkd_base.specs.declared.lane.Lane.{Lane}
use Rattle.net_model.specs.View.{View, port_of, blocks_of, incoming_octets}
use Rattle.net_model.specs.Decision.{Decision, Refuses, Does, answers, makes}
use Rattle.net_model.specs.Window.{complete}
use Rattle.net_model.specs.Pools.{fill, enc, dec, status}
use Rattle.net_model.specs.Groups.{fill_group, enc_group}
use Rattle.net_model.specs.Streams.{open_stream, join_stream, get_chunk, close_stream, feed, chunk_size}
use Rattle.net_model.specs.Relay.{receive}
use Rattle.net_model.specs.Plan.{plan}
use Rattle.net_model.specs.Show.{show, counted_of}

-- The decision on a frame, from the result of opening it. In no network does a manager get octets with a right tag that
-- are no payload.
abbrev pub received_frame : Site → View → Lane → Opened → Decision
received_frame site v l (Opens offset payload) = Does (receive site v l offset payload)
received_frame site v l (Rejected reply) = Refuses reply
received_frame site v l (Forged place) = Refuses (BadFrame place)

unfoldable pub decide : Site → Sealing → (ℕ → Bool) → View → List ℕ → Event → Decision
decide site frames up v random (Block link number bytes) =
    if blocks_of (port_of v link) == 1024 then Refuses LinkFull else makes v (Block' link number bytes ∷ []) (Took number)
decide site frames up v random (Fill m s bits count) = fill site up v m s bits count random
decide site frames up v random (Feed stream count) = feed site up v stream count random
decide site frames up v random Plan = Does (plan site up v)
decide site frames up v random (Heard lane bytes) = received_frame site v lane (frames.unseal lane (incoming_octets lane (port_of v lane.link)) bytes)
decide site frames up v random (Enc m s n bits) = enc site v m s n bits
decide site frames up v random (Dec s m names) = dec site v s m names
decide site frames up v random (Status m s) = status site v m s
decide site frames up v random (Open source peer bits) = open_stream site up v source peer bits
decide site frames up v random (Join caller other stream bits) = join_stream site v caller other stream bits
decide site frames up v random (Get caller stream index) = get_chunk site v caller stream index
decide site frames up v random (Close caller stream) = close_stream site v caller stream
decide site frames up v random (Show name) = answers v (show v name)
decide site frames up v random (Ledger lane) = answers v (counted_of (port_of v lane.link))
decide site frames up v random (FillGroup m slaves bits count) = fill_group site up v m slaves bits count random
decide site frames up v random (EncGroup m slaves n bits) = enc_group site v m slaves n bits
decide site frames up v random (Note placings) =
    Does (record { batch = []; volatile = complete v.acked v.volatile placings; orders = []; repeats = []; reply = Noted })

-- how many random octets an event draws
unfoldable pub random_need : View → Event → ℕ
random_need v (Fill m s bits count) = (bits / 8) * count
random_need v (FillGroup m slaves bits count) = (bits / 8) * count
random_need v (Feed stream count) = chunk_size (fact_at v.facts stream) * count
random_need v _ = 0
