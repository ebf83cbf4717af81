-- The lanes of a network, and the line of their veils.
use Rattle.std.specs.Prelude.{◌≡◌, ℕ, ◌*◌, true, List, [], ◌∷◌, ◌++◌, length, slice_get, Some, Result, Ok, Err}
use Rattle.std.specs.Fmt.{decimal}
use lib.Chars.{codes}
use Rattle.qkd_base.specs.declared.lane.Lane.{Lane}
use Rattle.net_model.specs.World.{Network, World}
use Rattle.net_model.specs.Events.{is_lane}
use Rattle.lane_sender.specs.Lane.{LaneForm}
use Rattle.run_model.specs.Headline.{Given, Took, TookFirst}
use Rattle.run_lines.specs.declared.stop.Stop.{Stop}
use Rattle.run_lines.specs.declared.stop.Stop.TheVariants as stops
use Rattle.net_world.specs.Veiled.{all_frames, all_changed}
use Rattle.world_state.specs.Passed.{IsRunning, LaneStands}
use Rattle.world_state.specs.Stands.{place_of}
use Rattle.source_devices.specs.declared.wire.Wire as Wire

-- the lanes of a network, link by link, the lane up before the lane down
pub record AreLanes {X : Type 0} (wire_says : Wire.Ghosts X) (net : Network) (w : World) (sides : List (LaneForm X)) : Type 0 where
  pub running : IsRunning net w
  pub count : length sides ≡ 2 * net.site.links
  pub lanes : (l : Lane) (side : LaneForm X) → is_lane net.site l ≡ true → slice_get sides (place_of l) ≡ Some side → LaneStands wire_says net w l side

-- the number of different frames on all wires, and the number of bytes of all lanes that the veils change
unfoldable pub veil_text : (frames bytes : ℕ) → List ℕ
veil_text frames bytes = codes "veil " ++ (decimal frames ++ (codes " " ++ (decimal bytes ++ 10 ∷ [])))

abbrev pub veil_line : Network → World → List ℕ
veil_line net w = veil_text (all_frames net w) (all_changed net w)

-- The sink took exactly this text, as one piece. On a write fault it took a part of the text; if memory ran out, it is as it was.
abbrev pub Tells : {T W : Type 0} → (W → Given) → Result T Stop → (before after : W) → List ℕ → Type 0
Tells given (Ok done) before after text = Took (given before) (given after) (text ∷ [])
Tells given (Err stops.WriteFault) before after text = TookFirst (given before) (given after) (text ∷ [])
Tells given (Err stops.Memory) before after text = after ≡ before
Tells given (Err (stops.Forged line)) before after text = ⊥
