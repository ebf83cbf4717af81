-- Decisions of a node that make only records that are permitted in a durable state.
use Rattle.std.specs.Prelude.{◌≡◌, true, []}
use Rattle.std.specs.List.{list_all}
use Rattle.net_model.specs.Doubt.{MayReplay}
use Rattle.net_model.specs.Site.{Site}
use Rattle.net_model.specs.World.{Durable}
use Rattle.net_model.specs.View.{View}
use Rattle.net_model.specs.Decision.{Decision, Refuses, Does, Effect}
use Rattle.net_model.specs.Handle.{is_numbered}

-- The effect sends nothing and leaves what the manager keeps in memory unchanged. Its batch is permitted if its new
-- counts are in range.
pub record OnlyMakes (s : Site) (d : Durable) (see : View) (e : Effect) : Type 0 where
  pub volatile : e.volatile ≡ see.volatile
  pub orders : e.orders ≡ []
  pub repeats : e.repeats ≡ []
  pub batch : list_all is_numbered e.batch ≡ true → MayReplay s d see.me e.batch

abbrev pub Only : Site → Durable → View → Decision → Type 0
Only s d see (Refuses reply) = Unit {0}
Only s d see (Does effect) = OnlyMakes s d see effect
