use Rattle.std.proofs.Common.{ℕ, List, length, refl, sym, ◌∙◌, ap, subst, None}
use Rattle.qkd_base.specs.Name.{Name, name_eq}
use Rattle.net_model.specs.Table.{name_of}
use Rattle.relay_core.proofs.Firsts.{first_find, none_find}
use Rattle.end_store.specs.Stocked.{AreStocks, key_pool}
use Rattle.end_store.specs.Readied.{AreReady, ready_pool}
use Rattle.end_store.proofs.Handing.{was_new, waiting_marked, none_ready, stock_some, lowered_stocks, ready_some, lowered_ready}
use Rattle.end_store.proofs.store.EndStore.mark.Goals as goal

pub invariant_of-self-in-None : goal.invariant_of-self-in-None
invariant_of-self-in-None c =
    let was = c.self.inside in
    let length_of = λ (ps : List (Name × ℕ)). length ps in
    let fresh = was_new was.handed.pairs c.mark.new.self.pairs c.args.name c.args.sae c.mark.ensures.pairs (λ e. c.if-as_slice-before.false (ap length_of c.as_slice.ensures ∙ e ∙ sym (ap length_of c.as_slice-before.ensures))) in
    let none = ap (key_pool c.args.sae) (sym (none_find (λ f. name_eq (name_of f) c.args.name) was.known.facts c.in-None.ensures.none)) in
    record {
      waiting = c.release_parts.ensures;
      counted = subst (λ (hs : List (Name × ℕ)). AreStocks was.known.facts hs was.stocks) (sym c.mark.ensures.pairs)
          (lowered_stocks was.known.facts was.handed.pairs c.args.name c.args.sae c.len-holds.ensures.distinct fresh was.stocks was.stocks c.self.invariant.counted None none refl);
      ready = subst (λ (hs : List (Name × ℕ)). AreReady was.known.me was.known.facts hs was.readies) (sym c.mark.ensures.pairs)
          (lowered_ready was.known.me was.known.facts was.handed.pairs c.args.name c.args.sae c.len-holds.ensures.distinct fresh was.readies was.readies c.self.invariant.ready None
          (none_ready was.known.me was.known.facts c.args.name ∙ ap (ready_pool was.known.me was.known.facts c.args.name) none) refl);
    }

pub lower-requires : goal.lower-requires
lower-requires c =
    let was = c.self.inside in
    let length_of = λ (ps : List (Name × ℕ)). length ps in
    let fresh = was_new was.handed.pairs c.mark.new.self.pairs c.args.name c.args.sae c.mark.ensures.pairs (λ e. c.if-as_slice-before.false (ap length_of c.as_slice.ensures ∙ e ∙ sym (ap length_of c.as_slice-before.ensures))) in
    stock_some was.known.facts was.handed.pairs c.args.name c.args.sae c.len-holds.ensures.distinct fresh was.stocks c.self.invariant.counted c.pool_at-pool.result
    (c.pool_at-pool.ensures ∙ ap (key_pool c.args.sae) (sym (first_find (λ f. name_eq (name_of f) c.args.name) was.known.facts c.in-Some.place c.in-Some.ensures.first)))

pub lower-requires-in-Some : goal.lower-requires-in-Some
lower-requires-in-Some c =
    let was = c.self.inside in
    let length_of = λ (ps : List (Name × ℕ)). length ps in
    let fresh = was_new was.handed.pairs c.mark.new.self.pairs c.args.name c.args.sae c.mark.ensures.pairs (λ e. c.if-as_slice-before.false (ap length_of c.as_slice.ensures ∙ e ∙ sym (ap length_of c.as_slice-before.ensures))) in
    ready_some was.known.me was.known.facts was.handed.pairs c.args.name c.args.sae c.len-holds.ensures.distinct fresh was.readies c.self.invariant.ready c.ready_pool-ready.result
    (c.ready_pool-ready.ensures
    ∙ ap (ready_pool was.known.me was.known.facts c.args.name)
    (c.pool_at-pool.ensures ∙ ap (key_pool c.args.sae) (sym (first_find (λ f. name_eq (name_of f) c.args.name) was.known.facts c.in-Some.place c.in-Some.ensures.first))))

pub release-requires : goal.release-requires
release-requires c =
    let was = c.self.inside in
    waiting_marked was.known.me was.known.facts was.handed.pairs c.mark.new.self.pairs c.args.name c.args.sae was.waiting was.listed c.mark.ensures.pairs c.self.invariant.waiting

pub invariant_of-self-in-Some : goal.invariant_of-self-in-Some
invariant_of-self-in-Some c =
    let was = c.self.inside in
    let length_of = λ (ps : List (Name × ℕ)). length ps in
    let fresh = was_new was.handed.pairs c.mark.new.self.pairs c.args.name c.args.sae c.mark.ensures.pairs (λ e. c.if-as_slice-before.false (ap length_of c.as_slice.ensures ∙ e ∙ sym (ap length_of c.as_slice-before.ensures))) in
    let is = c.pool_at-pool.ensures ∙ ap (key_pool c.args.sae) (sym (first_find (λ f. name_eq (name_of f) c.args.name) was.known.facts c.in-Some.place c.in-Some.ensures.first)) in
    record {
      waiting = c.release.ensures;
      counted = subst (λ (hs : List (Name × ℕ)). AreStocks was.known.facts hs c.lower.new.stocks) (sym c.mark.ensures.pairs)
          (lowered_stocks was.known.facts was.handed.pairs c.args.name c.args.sae c.len-holds.ensures.distinct fresh was.stocks c.lower.new.stocks c.self.invariant.counted c.pool_at-pool.result is c.lower.ensures);
      ready = subst (λ (hs : List (Name × ℕ)). AreReady was.known.me was.known.facts hs c.lower-in-Some.new.stocks) (sym c.mark.ensures.pairs)
          (lowered_ready was.known.me was.known.facts was.handed.pairs c.args.name c.args.sae c.len-holds.ensures.distinct fresh was.readies c.lower-in-Some.new.stocks c.self.invariant.ready c.ready_pool-ready.result
          (c.ready_pool-ready.ensures ∙ ap (ready_pool was.known.me was.known.facts c.args.name) is) c.lower-in-Some.ensures);
    }
