-- Managers followed by their own views.
use Rattle.std.specs.Prelude.{◌≡◌, ◌∷◌, ℕ, [], Bool, true, List, replicate}
use Rattle.qkd_base.specs.declared.lane.Way.TheVariants.{Up}
use Rattle.net_model.specs.World.{Network}
use Rattle.net_model.specs.View.{View}
use Rattle.net_model.specs.Needed.{view_of}
use Rattle.net_model.specs.Journal.{checkpoint_batches}
use Rattle.net_model.specs.Fold.{view_restarted, recovered_view}
use Rattle.net_model.specs.Frames.{octets_eq}
use Rattle.net_model.specs.Action.{IoFault, Recovers}
use Rattle.model_examples.specs.Follow.{followed}
use Rattle.model_examples.specs.Numbers.{view_numbers}
use Rattle.run_types.specs.declared.command.Command.TheVariants.{Bits, Fill, Feed, Tick, Settle, Pass, Crash, Start, Enc, Dec, Stream, FillGroup, EncGroup}
use Rattle.run_types.specs.declared.end.Ends.TheVariants.{Both}
use Rattle.run_types.specs.declared.stream_call.StreamCall.TheVariants.{Open, Join, Get, Close}
use Rattle.model_examples.specs.Networks.{lane, key, stream, octets_on, two_nodes, three_in_line, two_spokes}
use Rattle.model_examples.specs.Row.{line, line_by, Says, Finds, Step, ran, Ran}

abbrev pub same_views : View → View → Bool
same_views a b = octets_eq (view_numbers a) (view_numbers b)

abbrev pub is_followed : Network → ℕ → Ran → Bool
is_followed net v r = let views = followed net v r.actions in same_views views.0 views.1

-- a checkpoint restores the manager that wrote it
abbrev pub is_given_back : Network → ℕ → Ran → Bool
is_given_back net v r =
    let view = view_of net r.world v in same_views (recovered_view net.site v (checkpoint_batches view)) (view_restarted view)

abbrev pub both : Network → ℕ → Ran → Bool × Bool
both net v r = (is_followed net v r, is_given_back net v r)

abbrev pub keys_run : List Step
keys_run =
    line (Bits 0 Both 2) ∷ line (Fill 0 1 256 2) ∷ line (Settle 10) ∷ line (Enc 0 0 1 1 256) ∷ line (Dec 1 1 0 (key 1 ∷ [])) ∷ line_by (Enc 0 0 1 1 256) (Says IoFault ∷ []) ∷ line_by (Start 0) (Finds (Recovers true) ∷ []) ∷ line (Fill 0 1 256 1) ∷ line (Crash 1) ∷ line (Start 1) ∷ line (Tick 0) ∷ []

abbrev pub streams_run : List Step
streams_run =
    line (Bits 0 Both 2) ∷ line (Stream 0 (Open 0 1 256)) ∷ line (Settle 10) ∷ line (Stream 1 (Join 1 0 (stream 1) 256)) ∷ line (Settle 10) ∷ line (Feed (stream 1) 2) ∷ line (Settle 10) ∷ line (Stream 0 (Get 0 (stream 1) 0)) ∷ line (Stream 1 (Get 1 (stream 1) 1)) ∷ line (Stream 0 (Close 0 (stream 1))) ∷ []

abbrev pub groups_run : List Step
groups_run =
    line (Bits 0 Both 2) ∷ line (Bits 1 Both 2) ∷ line (FillGroup 0 256 2 (1 ∷ 2 ∷ [])) ∷ line (Settle 10) ∷ line (EncGroup 0 0 1 256 (1 ∷ 2 ∷ [])) ∷ line (Dec 1 1 0 (key 1 ∷ [])) ∷ []

abbrev pub relay_run : List Step
relay_run =
    line (Bits 0 Both 2) ∷ line (Bits 1 Both 2) ∷ line (Fill 0 1 256 1) ∷ line (Tick 0) ∷ line (Pass (lane 0 Up) 0) ∷ line (Tick 1) ∷ line (Pass (lane 0 Up) 0) ∷ line (Crash 1) ∷ line (Start 1) ∷ line (Settle 20) ∷ []

abbrev pub two_keys : Network
two_keys = two_nodes (octets_on 0 96)

abbrev pub spokes : Network
spokes = two_spokes (octets_on 0 64)

abbrev pub in_line : Network
in_line = three_in_line (octets_on 0 32)

-- each manager's view follows from its own decisions, and its checkpoint restores it
abbrev pub KeysFollowed : Type 0
KeysFollowed = (let r = ran two_keys keys_run in both two_keys 0 r ∷ both two_keys 1 r ∷ []) ≡ replicate 2 (true, true)

abbrev pub StreamsFollowed : Type 0
StreamsFollowed = (let r = ran two_keys streams_run in both two_keys 0 r ∷ both two_keys 1 r ∷ []) ≡ replicate 2 (true, true)

abbrev pub GroupsFollowed : Type 0
GroupsFollowed = (let r = ran spokes groups_run in both spokes 0 r ∷ both spokes 1 r ∷ []) ≡ replicate 2 (true, true)

abbrev pub RelayFollowed : Type 0
RelayFollowed = (let r = ran in_line relay_run in both in_line 1 r ∷ []) ≡ replicate 1 (true, true)
