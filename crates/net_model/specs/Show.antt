-- What an operator is shown of a key: where it stands at this node, and its bytes while the node needs them.
use Rattle.std.specs.Prelude.{ℕ, ◌==◌, ◌||◌, ◌-◌, Bool, true, false, List, [], ◌∷◌, filter, find, Option, Some, None, if◌then◌else◌}
use Rattle.std.specs.List.{list_all}
use Rattle.qkd_base.specs.Name.{Name}
use Rattle.net_model.specs.declared.fact.Fact.{Fact}
use Rattle.net_model.specs.declared.fact.Fact.TheVariants.{Key, Chunk, Part}
use Rattle.net_model.specs.declared.held.Held.{Held}
use Rattle.net_model.specs.declared.held.Held.TheVariants.{Absent, Given, Ready, Made, Kept, Relayed}
use Rattle.net_model.specs.declared.reply.Reply.{Reply}
use Rattle.net_model.specs.declared.reply.Reply.TheVariants.{Shown, Counted}
use Rattle.net_model.specs.Table.{PartOf, part_of, parts_of, name_of, bytes_of, origin, target, fact_at, was_handed, sae_at}
use Rattle.net_model.specs.View.{View, Port, received_of}
use Rattle.net_model.specs.Needed.{has_it, is_needed}
use Rattle.net_model.specs.Decision.{is_confirmed}
use Rattle.net_model.specs.Groups.{is_group_ready}

abbrev pub needed_bytes : View → Fact → List ℕ
needed_bytes v f = if is_needed v f then bytes_of f else []

abbrev pub origin_state : Bool → Bool → Held
origin_state given ready = if given then Given else if ready then Ready else Made

abbrev pub target_state : Bool → Held
target_state given = if given then Given else Kept

-- what is shown of a key or a chunk
abbrev pub shown_one : View → Fact → Reply
shown_one v f =
    if origin f == v.me then Shown (origin_state (has_it v (name_of f) (sae_at v.facts true f)) (is_confirmed v (name_of f))) (needed_bytes v f)
    else if target f == v.me then Shown (target_state (has_it v (name_of f) (sae_at v.facts false f))) (needed_bytes v f)
    else Shown Relayed (needed_bytes v f)

abbrev pub slave_has : View → Option PartOf → Bool
slave_has v None = false
slave_has v (Some p) = was_handed v.handed p.key p.slave

abbrev pub master_has : View → Option PartOf → Bool
master_has v None = false
master_has v (Some p) = was_handed v.handed p.key p.master

abbrev pub bytes_shown : View → Option Fact → List ℕ
bytes_shown v None = []
bytes_shown v (Some f) = bytes_of f

-- what is shown at the targets of parts: Given if each slave here has got the key
abbrev pub shown_at_target : View → List Fact → Reply
shown_at_target v [] = Shown Absent []
shown_at_target v (p ∷ ps) =
    Shown (target_state (list_all (λ f. slave_has v (part_of f)) (p ∷ ps))) (bytes_shown v (find (is_needed v) (p ∷ ps)))

-- what is shown of a group key, from its parts
abbrev pub shown_group : View → Name → List Fact → Reply
shown_group v n [] = Shown Absent []
shown_group v n (p ∷ ps) =
    if origin p == v.me then Shown (origin_state (master_has v (part_of p)) (is_group_ready v n)) (needed_bytes v p)
    else shown_at_target v (filter (λ f. target f == v.me) (p ∷ ps))

-- a part is shown under its own name only at the relays between its ends
abbrev pub shown_part : View → Fact → Reply
shown_part v f = if (origin f == v.me) || (target f == v.me) then Shown Absent [] else Shown Relayed (needed_bytes v f)

abbrev pub shown : View → Name → Option Fact → Reply
shown v n (Some (Key name master slave route bytes)) = shown_one v (Key name master slave route bytes)
shown v n (Some (Chunk name stream index route bytes)) = shown_one v (Chunk name stream index route bytes)
shown v n (Some (Part name key master slave route bytes)) = shown_part v (Part name key master slave route bytes)
shown v n _ = shown_group v n (parts_of v.facts n)

unfoldable pub show : View → Name → Reply
show v n = shown v n (fact_at v.facts n)

-- A manager's own count of a lane. The bytes below the lease at its last start are burnt, except the 8 of the hash key.
-- All other planned bytes are spent.
abbrev pub counted_of : Option Port → Reply
counted_of None = Counted (record { received = 0; unused = 0; spent = 0; burnt = 0 })
counted_of (Some p) =
    Counted (record {
      received = received_of p;
      unused = received_of p - p.planned;
      spent = p.planned - (p.recovered - 8);
      burnt = p.recovered - 8;
    })
