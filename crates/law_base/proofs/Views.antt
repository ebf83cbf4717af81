-- The laws of views and routes, stated for a world.
use Rattle.std.proofs.Common.{◌≡◌, ℕ, ◌<◌, ◌≤◌, Bool, true, false, List, refl, sym, ◌∙◌, ap, Some, None, ◌⊎◌, inl, inr}
use Rattle.std.specs.Prelude.{is_some, if◌then◌else◌, count_by}
use Rattle.qkd_base.specs.Name.{Name, has}
use Rattle.net_model.specs.declared.fact.Fact.{Fact}
use Rattle.net_model.specs.Table.{fact_at, has_fact, without_bytes}
use Rattle.net_model.specs.Site.{Site}
use Rattle.net_model.specs.World.{Network, World}
use Rattle.net_model.specs.Needed.{is_needed, masked_fact, view_of}
use Rattle.net_model.specs.View.{View}
use Rattle.net_model.specs.Streams.{is_chunk_of}
use Rattle.net_model.specs.Knowledge.{chunks_known}
use Rattle.net_model.specs.Routes.{route}
use Rattle.law_base.proofs.Tables.{is_some_of_some}
use Rattle.law_base.specs.Shown.{IsShown, IsRouteBetween}
use Rattle.law_base.proofs.Shortest.{route_is}
use Rattle.law_base.proofs.Seen.{seen_at, seen_there, chunks_seen, bare_view, view_sees, view_me}

masked_either : (b : View) (f : Fact) → (masked_fact b f ≡ f) ⊎ (masked_fact b f ≡ without_bytes f)
masked_either b f = elim (is_needed b f) as (λ t. ((if t then f else without_bytes f) ≡ f) ⊎ ((if t then f else without_bytes f) ≡ without_bytes f)) [
  | true ↦ inl refl
  | false ↦ inr refl
]

pub view_is_known : (net : Network) (w : World) (v : ℕ) (n : Name) (g : Fact) → fact_at (view_of net w v).facts n ≡ Some g → IsShown w.durable.facts (w.durable.known v) n g
view_is_known net w v n g e =
    let r = seen_at net.site w.durable (view_of net w v) (bare_view net w v) (view_sees net w v) n g e in
    record {
      fact = r.1.fact;
      there = ap (fact_at w.durable.facts) (sym r.0) ∙ r.1.there;
      knows = ap (λ (u : ℕ). has (w.durable.known u) n) (sym (view_me net w v)) ∙ ap (has (w.durable.known (view_of net w v).me)) (sym r.0) ∙ r.1.knows;
      is = elim (masked_either (bare_view net w v) r.1.fact) [ inl whole ↦ inl (r.1.is ∙ whole) | inr zeros ↦ inr (r.1.is ∙ zeros) ];
    }

pub known_is_seen : (net : Network) (w : World) (v : ℕ) (n : Name) → has_fact w.durable.facts n ≡ true → has (w.durable.known v) n ≡ true →
    has_fact (view_of net w v).facts n ≡ true
known_is_seen net w v n there k =
    elim (fact_at w.durable.facts n) as (λ o. fact_at w.durable.facts n ≡ o → is_some o ≡ true → has_fact (view_of net w v).facts n ≡ true) [
      | None ↦ λ e x. cc
      | Some f ↦ λ e x.
          let seen = seen_there net.site w.durable (view_of net w v) (bare_view net w v) (view_sees net w v) n f e
          (ap (λ (u : ℕ). has (w.durable.known u) n) (view_me net w v) ∙ k) in
          is_some_of_some (fact_at (view_of net w v).facts n) (masked_fact (bare_view net w v) f) seen
    ] refl there

pub chunks_counted : (net : Network) (w : World) (v : ℕ) (stream : Name) →
    count_by (is_chunk_of stream) (view_of net w v).facts ≡ chunks_known w.durable.facts (w.durable.known v) stream
chunks_counted net w v stream =
    chunks_seen net.site w.durable (view_of net w v) (bare_view net w v) (view_sees net w v) stream ∙
    ap (λ (u : ℕ). chunks_known w.durable.facts (w.durable.known u) stream) (view_me net w v)

pub routes_differ : (s : Site) (up : ℕ → Bool) (a b : ℕ) (nodes : List ℕ) → s.nodes ≤ 16 → a < s.nodes → route s up a b ≡ Some nodes → IsRouteBetween a b nodes
routes_differ s up a b nodes few here h = let r = route_is s up a b nodes few here h in record { starts = r.starts; ends = r.ends; route = r.route }
