-- Tests of the parts of a group key.
use Rattle.std.specs.Prelude.{◌==◌, ◌&&◌, not, Bool, true, false, if◌then◌else◌}
use Rattle.net_model.specs.declared.fact.Fact.{Fact}
use Rattle.net_model.specs.declared.held.Held.{Held}
use Rattle.net_model.specs.declared.held.Held.TheVariants.{Relayed}
use Rattle.net_model.specs.Table.{name_of, part_of, origin, target, sae_at}
use Rattle.net_model.specs.View.{View}
use Rattle.net_model.specs.Decision.{is_confirmed}
use Rattle.net_model.specs.Needed.{has_it, is_needed}
use Rattle.net_model.specs.Show.{slave_has, origin_state, target_state}
use Rattle.kme_facts.specs.declared.part_test.PartTest.{PartTest}
use Rattle.kme_facts.specs.declared.part_test.PartTest.TheVariants.{Unconfirmed, Here, Lacking, NeededHere}

abbrev pub passes : View → PartTest → Fact → Bool
passes v Unconfirmed f = not (is_confirmed v (name_of f))
passes v Here f = target f == v.me
passes v Lacking f = (target f == v.me) && not (slave_has v (part_of f))
passes v NeededHere f = (target f == v.me) && is_needed v f

-- the state of a key or a chunk at a node
abbrev pub held_one : View → Fact → Held
held_one v f =
    if origin f == v.me then origin_state (has_it v (name_of f) (sae_at v.facts true f)) (is_confirmed v (name_of f))
    else if target f == v.me then target_state (has_it v (name_of f) (sae_at v.facts false f))
    else Relayed
