-- The reply to a query for a name has a state and bytes.
use Rattle.std.proofs.Common.{◌≡◌, ℕ, Bool, true, false, List, [], ◌∷◌, refl}
use Rattle.std.specs.Prelude.{◌==◌, ◌||◌, filter, Option, Some, None, if◌then◌else◌}
use Rattle.qkd_base.specs.Name.{Name}
use Rattle.net_model.specs.declared.fact.Fact.{Fact}
use Rattle.net_model.specs.declared.fact.Fact.TheVariants.{Key, Chunk, Stored, Open, Joined, Part}
use Rattle.net_model.specs.declared.held.Held.{Held}
use Rattle.net_model.specs.declared.reply.Reply.{Reply}
use Rattle.net_model.specs.declared.reply.Reply.TheVariants.{Shown}
use Rattle.net_model.specs.Table.{origin, target, parts_of, fact_at}
use Rattle.net_model.specs.View.{View}
use Rattle.net_model.specs.Show.{shown_one, shown_at_target, shown_group, shown_part, shown, show}
use Rattle.kme_base.specs.Steps.{orders_of}

module _ (P : Reply → Type 0) (each : (held : Held) (bytes : List ℕ) → P (Shown held bytes)) where
  either : (t : Bool) (a b : Reply) → P a → P b → P (if t then a else b)
  either true a b x y = x
  either false a b x y = y

  one : (v : View) (f : Fact) → P (shown_one v f)
  one v f = either (origin f == v.me) _ _ (each _ _) (either (target f == v.me) _ _ (each _ _) (each _ _))

  at_target : (v : View) (ps : List Fact) → P (shown_at_target v ps)
  at_target v [] = each _ _
  at_target v (p ∷ ps) = each _ _

  group : (v : View) (n : Name) (ps : List Fact) → P (shown_group v n ps)
  group v n [] = each _ _
  group v n (p ∷ ps) = either (origin p == v.me) _ _ (each _ _) (at_target v (filter (λ f. target f == v.me) (p ∷ ps)))

  part : (v : View) (f : Fact) → P (shown_part v f)
  part v f = either ((origin f == v.me) || (target f == v.me)) _ _ (each _ _) (each _ _)

  by_fact : (v : View) (n : Name) (o : Option Fact) → P (shown v n o)
  by_fact v n (Some (Key name master slave route bytes)) = one v (Key name master slave route bytes)
  by_fact v n (Some (Chunk name stream index route bytes)) = one v (Chunk name stream index route bytes)
  by_fact v n (Some (Part name key master slave route bytes)) = part v (Part name key master slave route bytes)
  by_fact v n (Some (Stored note about route)) = group v n (parts_of v.facts n)
  by_fact v n (Some (Open stream source peer size route)) = group v n (parts_of v.facts n)
  by_fact v n (Some (Joined note about route)) = group v n (parts_of v.facts n)
  by_fact v n None = group v n (parts_of v.facts n)

  pub show_holds : (v : View) (n : Name) → P (show v n)
  unfolding show
  show_holds v n = by_fact v n (fact_at v.facts n)

pub show_orders_nothing : (v : View) (n : Name) → orders_of (show v n) ≡ []
show_orders_nothing = show_holds (λ (r : Reply). orders_of r ≡ []) (λ held bytes. refl)
