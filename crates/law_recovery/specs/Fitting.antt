-- The records that a view takes as the world does, apart from being permitted.
use Rattle.std.specs.Prelude.{◌≡◌, true, false, ◌&&◌, List, [], ◌∷◌}
use Rattle.std.specs.List.{list_any}
use Rattle.net_model.specs.declared.record.Record.{Record}
use Rattle.net_model.specs.declared.record.Record.TheVariants.{Block, Acked, Closed}
use Rattle.net_model.specs.Table.{was_handed}
use Rattle.net_model.specs.OctetSequence.{block_at}
use Rattle.net_model.specs.World.{Network}
use Rattle.net_model.specs.View.{View}
use Rattle.net_model.specs.Fold.{owes, is_end_of, is_stream_of, view_record}

-- A block of bytes is the device's, an acknowledged fact is owed, and a closed end belongs to a known stream that
-- wasn't closed there. Other records always fit.
abbrev pub Fits : Network → View → Record → Type 0
Fits net a (Block link number bytes) = bytes ≡ block_at (net.device link) number
Fits net a (Acked n) = owes a n ≡ true
Fits net a (Closed n sae) = (list_any (λ f. is_end_of a f && is_stream_of n f) a.facts ≡ true) × (was_handed a.closed n sae ≡ false)
Fits net a _ = Unit {0}

-- Each record of the batch fits the view after the records before it.
abbrev pub AllFit : Network → View → List Record → Type 0
AllFit net a [] = Unit {0}
AllFit net a (r ∷ rs) = Fits net a r × AllFit net (view_record r a) rs
