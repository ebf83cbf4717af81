use Rattle.std.proofs.Common.{ℕ, ◌∙◌, sym, ap}
use Rattle.std.specs.Prelude.{◌==◌}
use Rattle.std.specs.Option.{option_copied}
use Rattle.qkd_base.specs.Route.{first_of}
use Rattle.net_model.specs.Table.{origin}
use Rattle.relay_core.specs.Knowledge.{Knowledge}
use Rattle.end_store.specs.Pooled.{ends_view}
use Rattle.kme_facts.proofs.Parted.{ok_same, no_group, group_at_origin, group_elsewhere}
use Rattle.kme_facts.proofs.show.shown_group.Goals as goal

pub returns-in-None : goal.returns-in-None
returns-in-None c = c.absent.ensures ∙ no_group (ends_view c.args.ends.now) c.args.key (sym c.part_in.ensures ∙ ap option_copied c.in-None.is)

pub returns-then-eq : goal.returns-then-eq
returns-then-eq c =
    ok_same c.shown_at_origin.result _ _ c.shown_at_origin.ensures
    (group_at_origin (ends_view c.args.ends.now) c.args.key c.in-Some.first.now (sym c.part_in.ensures ∙ ap option_copied c.in-Some.is)
    (sym (ap (λ (a : ℕ). a == c.me.result) (c.first.ensures ∙ ap first_of c.fact_route.ensures) ∙ ap (λ (m : ℕ). origin c.in-Some.first.now == m) (c.me.ensures ∙ ap (λ (k : Knowledge). k.me) c.known.ensures))
    ∙ sym c.eq.ensures ∙ c.if-eq.true))

pub returns-else-eq : goal.returns-else-eq
returns-else-eq c =
    ok_same c.shown_at_target.result _ _ c.shown_at_target.ensures
    (group_elsewhere (ends_view c.args.ends.now) c.args.key c.in-Some.first.now (sym c.part_in.ensures ∙ ap option_copied c.in-Some.is)
    (sym (ap (λ (a : ℕ). a == c.me.result) (c.first.ensures ∙ ap first_of c.fact_route.ensures) ∙ ap (λ (m : ℕ). origin c.in-Some.first.now == m) (c.me.ensures ∙ ap (λ (k : Knowledge). k.me) c.known.ensures))
    ∙ sym c.eq.ensures ∙ c.if-eq.false))
