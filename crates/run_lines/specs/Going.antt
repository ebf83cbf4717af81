-- How far a run of a script has come.
use Rattle.std.specs.Prelude.{◌≡◌, ℕ, List, ◌++◌}
use Rattle.net_model.specs.Site.{Site}
use Rattle.net_model.specs.World.{Network, World}
use Rattle.net_model.specs.Action.{Action}
use Rattle.run_types.specs.declared.item.Item.{Item}
use Rattle.run_model.specs.Script.{Script}
use Rattle.run_model.specs.Play.{play, numbered, reporting, IsPlay}
use Rattle.run_model.specs.Headline.{Took, Given, report_pieces}
use Rattle.run_ops.specs.Acting.{IsReady}

-- A script begins with these actions, reports these items, and leads to a world in which the rest of the script is left. Playing the rest
-- there completes the script.
pub record Leads (net : Network) (w : World) (script : Script) (actions : List Action) (items : List Item) (after : World) (rest : Script) : Type 0 where
  pub is : (more : List Action) → IsPlay net after rest more → IsPlay net w script (actions ++ more)
  pub said : (number : ℕ) (more : List Action) → IsPlay net after rest more →
      play net number w script (actions ++ more) ≡ reporting (numbered number items) (play net number after rest more)

-- The run of a script has come to this rest, and the network is ready for it. The sink has exactly the text of each item that was reported, one piece each.
pub record Reached {S : Type 0} (Stands : S → Network → World → Type 0) (Tallied : S → S → Site → List Action → Type 0) (nodes : List (List ℕ)) (old now : S)
    (before taken : Given) (number : ℕ) (net : Network) (w : World) (script : Script) (after : World) (rest : Script) : Type 0 where
  pub actions : List Action
  pub items : List Item
  pub leads : Leads net w script actions items after rest
  pub ready : IsReady Stands now net after
  pub tallied : Tallied old now net.site actions
  pub took : Took before taken (report_pieces nodes (numbered number items))
