-- The journals that give back a manager's view.
use Rattle.std.specs.Prelude.{◌≡◌, ℕ, List}
use Rattle.net_model.specs.declared.record.Record.{Record}
use Rattle.net_model.specs.Site.{Site}
use Rattle.net_model.specs.View.{View}
use Rattle.net_model.specs.Fold.{view_restarted, recovered_view}

-- The manager that a start makes of these batches is the one that it makes of this view. The journal doesn't have
-- planned and recovered bytes, nor the manager's memory.
abbrev pub GivesBack : Site → ℕ → List (List Record) → View → Type 0
GivesBack site me batches v = recovered_view site me batches ≡ view_restarted v
