-- The checkpoint of an interrupted start only moves the journal and settles what is in doubt. A later start yields
-- the same state as without it.
use Rattle.std.proofs.Common.{◌≡◌, ℕ, Bool, List, refl, ap, Some}
use Rattle.std.specs.Prelude.{if◌then◌else◌}
use Rattle.net_model.specs.declared.record.Record.{Record}
use Rattle.net_model.specs.World.{Network, World, Durable}
use Rattle.net_model.specs.Needed.{view_of}
use Rattle.net_model.specs.Records.{replay}
use Rattle.net_model.specs.Start.{resolved, resolved_durable, restarted, interrupted_start}
use Rattle.law_base.proofs.Base.{by_number}

module _ (net : Network) (w : World) (v : ℕ) (committed : Bool) where
  pub same_batch : (u : ℕ) → ((interrupted_start net w v (Some committed)).in_doubt u).batch ≡ (w.in_doubt u).batch
  same_batch =
      by_number (λ u t. (if t then record (w.in_doubt v) { checkpointed = Some committed } else w.in_doubt u).batch ≡ (w.in_doubt u).batch) v refl (λ u ne. refl)

  pub resumed_durable : resolved_durable net.site (interrupted_start net w v (Some committed)) v committed ≡ resolved_durable net.site w v committed
  resumed_durable = ap (λ (rs : List Record). if committed then replay net.site v rs w.durable else w.durable) (same_batch v)

  -- What a manager sees after its doubt is settled, and after a start succeeded.
  pub resolved_view : (u : ℕ) → view_of net (resolved net.site (interrupted_start net w v (Some committed)) v committed) u ≡ view_of net (resolved net.site w v committed) u
  unfolding view_of
  resolved_view u = ap (λ (d : Durable). view_of net (record w { durable = d }) u) resumed_durable

  pub resumed_view : (u : ℕ) → view_of net (restarted net (resolved net.site (interrupted_start net w v (Some committed)) v committed) v) u ≡
      view_of net (restarted net (resolved net.site w v committed) v) u
  unfolding view_of restarted
  resumed_view u = ap (λ (d : Durable). view_of net (restarted net (record w { durable = d }) v) u) resumed_durable
