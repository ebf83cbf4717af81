-- The events that a manager may be asked to handle: their numbers are in range, and their links and lanes end at the
-- node.
use Rattle.std.specs.Prelude.{ℕ, ◌^◌, ◌==◌, ◌&&◌, nat_lt, nat_le, Bool, true, List, [], ◌∷◌, length}
use Rattle.std.specs.List.{list_all}
use Rattle.qkd_base.specs.Name.{Name, kind_eq}
use Rattle.qkd_base.specs.declared.lane.Lane.{Lane}
use Rattle.qkd_base.specs.declared.key_name.NameKind.TheVariants.{Stream as StreamKind}
use Rattle.net_model.specs.declared.event.Event.{Event}
use Rattle.net_model.specs.declared.event.Event.TheVariants.{Block, Fill, Feed, Plan, Heard, Enc, Dec, Status, Open, Join, Get, Close, Show, Ledger, FillGroup, EncGroup, Note}
use Rattle.net_model.specs.declared.placing.Placing.{Placing}
use Rattle.net_model.specs.Site.{Site, sender, receiver, is_incident}
use Rattle.net_model.specs.Streams.{is_size}

-- a count is from 1 to 128
abbrev pub is_count : ℕ → Bool
is_count n = nat_le 1 n && nat_le n 128

abbrev pub is_name : Name → Bool
is_name n = nat_lt n.node 16 && nat_le 1 n.count && nat_lt n.count (2 ^ 48)

abbrev pub is_stream : Name → Bool
is_stream n = is_name n && kind_eq n.kind StreamKind

-- the applications are in rising order of number, so they are all different
abbrev pub is_rising : List ℕ → Bool
is_rising [] = true
is_rising (s ∷ []) = true
is_rising (s ∷ t ∷ ss) = nat_lt s t && is_rising (t ∷ ss)

abbrev pub are_slaves : List ℕ → Bool
are_slaves ss = nat_le 2 (length ss) && nat_le (length ss) 5 && is_rising ss

abbrev pub is_lane : Site → Lane → Bool
is_lane site l = nat_lt l.link site.links

-- the number of a frame's octets is from 25 to 585
abbrev pub is_frame_size : ℕ → Bool
is_frame_size n = nat_le 25 n && nat_le n 585

-- the numbers of the event are in range, and its links and lanes end at the node
unfoldable pub is_valid_event : Site → ℕ → Event → Bool
is_valid_event site v (Block link number bytes) = nat_lt link site.links && is_incident site v link && (length bytes == 1024)
is_valid_event site v (Fill m s bits count) = is_size bits && is_count count
is_valid_event site v (Feed stream count) = is_name stream && is_count count
is_valid_event site v Plan = true
is_valid_event site v (Heard lane bytes) = is_lane site lane && (receiver site lane == v)
is_valid_event site v (Enc m s n bits) = is_count n && is_size bits
is_valid_event site v (Dec s m names) = is_count (length names) && list_all is_name names
is_valid_event site v (Status m s) = true
is_valid_event site v (Open source peer bits) = nat_lt bits (2 ^ 16)
is_valid_event site v (Join caller other stream bits) = is_stream stream && nat_lt bits (2 ^ 16)
is_valid_event site v (Get caller stream index) = is_stream stream && nat_lt index (2 ^ 32)
is_valid_event site v (Close caller stream) = is_stream stream
is_valid_event site v (Show name) = is_name name
is_valid_event site v (Ledger lane) = is_lane site lane && (sender site lane == v)
is_valid_event site v (FillGroup m slaves bits count) = are_slaves slaves && is_size bits && is_count count
is_valid_event site v (EncGroup m slaves n bits) = are_slaves slaves && is_count n && is_size bits
is_valid_event site v (Note placings) = list_all (λ (p : Placing). is_frame_size p.length) placings
