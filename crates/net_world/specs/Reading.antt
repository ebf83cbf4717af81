-- Reading the batches of a disk's image.
use Rattle.std.specs.Prelude.{◌≡◌, ℕ, zero, suc, ◌+◌, ◌==◌, List, [], ◌∷◌, length, take, drop, Option, Some, None, Result, Ok, Err, if◌then◌else◌}
use Rattle.std.specs.Int.{w32, from_be_bytes}
use Rattle.net_model.specs.declared.record.Record.{Record}
use Rattle.journal_records.specs.Layout.{batch_of}
use Rattle.journal_records.specs.declared.version.Version.{Version}
use Rattle.journal_snapshot.specs.declared.live.Live.{Live}
use Rattle.journal_snapshot.specs.Layout.{live_of}
use Rattle.journal_snapshot.specs.Standing.{HasBatches}
use Rattle.kme_store.specs.Passed.{version_named, AreReadAs}

-- if the bodies in an image encode batches, `batches` reads exactly these
abbrev pub ReadsDisks : (List ℕ → Option (List (List Record))) → Type 0
ReadsDisks batches =
    (image : List ℕ) (live : Live) (bodies : List (List ℕ)) (story : List (List Record)) → HasBatches live bodies image → AreReadAs live.version bodies story → batches image ≡ Some story

-- at most `n` bodies: each has an open gate and its length before it
unfoldable pub bodies_from : ℕ → List ℕ → List (List ℕ)
bodies_from zero octets = []
bodies_from (suc n) [] = []
bodies_from (suc n) (gate ∷ octets) =
    let size = from_be_bytes w32 (take 4 octets) in
    if gate == 1 then take size (drop 4 octets) ∷ bodies_from n (drop (4 + size) octets) else []

abbrev pub batch_before : Result (List Record) ℕ → Option (List (List Record)) → Option (List (List Record))
batch_before (Ok batch) (Some story) = Some (batch ∷ story)
batch_before (Ok batch) None = None
batch_before (Err place) story = None

-- the batches that the bodies encode, if each encodes one
abbrev pub batches_in : Version → List (List ℕ) → Option (List (List Record))
batches_in v [] = Some []
batches_in v (body ∷ bodies) = batch_before (batch_of v body) (batches_in v bodies)

-- the batches of a disk, read from the start of its live area
abbrev pub batches_on : List ℕ → Option (List (List Record))
batches_on image = batches_in (version_named (live_of image).version) (bodies_from (length image) (drop (live_of image).start image))
