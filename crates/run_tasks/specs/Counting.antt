-- The numbers of keys that a run hands out.
use Rattle.std.specs.Prelude.{◌≡◌, List}
use Rattle.net_model.specs.World.{Network, World}
use Rattle.net_model.specs.Action.{Action}
use Rattle.law_run.specs.Handed.{enc_keys, dec_keys}
use Rattle.run_tasks.specs.declared.handed.Handed.{Handed}

-- These are the numbers of keys that the actions hand to masters and to slaves.
pub record AreHanded (net : Network) (w : World) (actions : List Action) (handed : Handed) : Type 0 where
  pub masters : handed.masters ≡ enc_keys net w actions
  pub slaves : handed.slaves ≡ dec_keys net w actions

-- no keys
abbrev pub no_keys : Handed
no_keys = record { masters = 0; slaves = 0 }
