-- A closed end belongs to a stream that the node knows and that wasn't closed there.
use Rattle.std.proofs.Common.{◌≡◌, ℕ, Bool, true, false, not, ◌&&◌, ◌||◌, List, [], ◌∷◌, refl, sym, ◌∙◌, ap, subst, Option, Some, None, inl, inr}
use Rattle.std.specs.Prelude.{◌==◌, if◌then◌else◌}
use Rattle.std.specs.List.{list_any}
use Rattle.qkd_base.specs.Name.{Name, name_eq}
use Rattle.qkd_base.specs.Route.{first_of, last_of}
use Rattle.net_model.specs.declared.fact.Fact.{Fact}
use Rattle.net_model.specs.declared.fact.Fact.TheVariants.{Open}
use Rattle.net_model.specs.declared.record.Record.TheVariants.{Closed}
use Rattle.net_model.specs.Table.{name_of, fact_at, was_handed}
use Rattle.net_model.specs.Site.{Site}
use Rattle.net_model.specs.World.{Durable}
use Rattle.net_model.specs.Knowledge.{IsPair, IsEntitled, IsTable}
use Rattle.net_model.specs.Premises.{IsSite}
use Rattle.net_model.specs.View.{View}
use Rattle.net_model.specs.Decision.{Decision, answers, makes}
use Rattle.net_model.specs.Streams.{only_status, has_end, open_end, has_joined, at_end, close_stream}
use Rattle.net_model.specs.Fold.{is_end_of, is_stream_of}
use Rattle.law_base.proofs.Base.{eq_from, eq_same, name_eq_same, and_left, and_right, and_both, or_cases, or_left, or_right, not_true, was_not, by_test}
use Rattle.law_base.proofs.Seen.{Sees, seen_at}
use Rattle.law_recovery.proofs.Ends.{any_found}
use Rattle.law_recovery.proofs.Decided.{DecisionFits}

module _ (s : Site) (d : Durable) (table : IsTable s d.facts d.known) (see bare : View) (h : Sees s d see bare) (site : IsSite s) where
  -- A stream that is seen belongs to an allowed pair.
  stream_pair : (n : Name) (stream : Name) (source peer size : ℕ) (nodes : List ℕ) → fact_at see.facts n ≡ Some (Open stream source peer size nodes) → IsPair s source peer nodes
  stream_pair n stream source peer size nodes e =
      let r = (seen_at s d see bare h n (Open stream source peer size nodes) e).1 in
      subst (λ (f : Fact). IsEntitled s d.facts f) r.shape (table stream r.fact r.there).entitled

  abbrev closes : ℕ → Name → ℕ → Decision
  closes caller stream source = makes see (Closed stream caller ∷ []) (only_status 0)

  at_end_fits : (caller : ℕ) (n stream : Name) (source peer size : ℕ) (nodes : List ℕ) → fact_at see.facts n ≡ Some (Open stream source peer size nodes) →
      (has_end s see stream source || has_end s see stream peer) ≡ true → (((caller == source) && (s.home source == see.me)) || ((caller == peer) && (s.home peer == see.me))) ≡ true →
      DecisionFits see (closes caller stream source)
  at_end_fits caller n stream source peer size nodes e ends here =
      let pair = stream_pair n stream source peer size nodes e in
      let apart = (site.pairs source peer pair.allowed).apart in
      elim (or_cases ((caller == source) && (s.home source == see.me)) ((caller == peer) && (s.home peer == see.me)) here) [
        | inl first ↦
            let is = eq_from caller source (and_left (caller == source) (s.home source == see.me) first) in
            let home = eq_from (s.home source) see.me (and_right (caller == source) (s.home source == see.me) first) in
            let open' : was_handed see.closed stream caller ≡ false = elim (or_cases (has_end s see stream source) (has_end s see stream peer) ends) [
              | inl x ↦ ap (was_handed see.closed stream) is ∙ was_not (was_handed see.closed stream source) (and_right (s.home source == see.me) (not (was_handed see.closed stream source)) x)
              | inr x ↦ absurd (apart (home ∙ sym (eq_from (s.home peer) see.me (and_left (s.home peer == see.me) (not (was_handed see.closed stream peer)) x))))
            ] in
            let at : is_end_of see (Open stream source peer size nodes) ≡ true =
            or_left (first_of nodes == see.me) (last_of nodes == see.me) (ap (λ (u : ℕ). u == see.me) (pair.from ∙ home) ∙ eq_same see.me) in
            ((there stream source peer size nodes n e at, open'), tt)
        | inr last ↦
            let is = eq_from caller peer (and_left (caller == peer) (s.home peer == see.me) last) in
            let home = eq_from (s.home peer) see.me (and_right (caller == peer) (s.home peer == see.me) last) in
            let open' : was_handed see.closed stream caller ≡ false = elim (or_cases (has_end s see stream source) (has_end s see stream peer) ends) [
              | inl x ↦ absurd (apart (eq_from (s.home source) see.me (and_left (s.home source == see.me) (not (was_handed see.closed stream source)) x) ∙ sym home))
              | inr x ↦ ap (was_handed see.closed stream) is ∙ was_not (was_handed see.closed stream peer) (and_right (s.home peer == see.me) (not (was_handed see.closed stream peer)) x)
            ] in
            let at : is_end_of see (Open stream source peer size nodes) ≡ true =
            or_right (first_of nodes == see.me) (last_of nodes == see.me) (ap (λ (u : ℕ). u == see.me) (pair.to ∙ home) ∙ eq_same see.me) in
            ((there stream source peer size nodes n e at, open'), tt)
      ]
    where
      there : (stream : Name) (source peer size : ℕ) (nodes : List ℕ) (n : Name) → fact_at see.facts n ≡ Some (Open stream source peer size nodes) →
          is_end_of see (Open stream source peer size nodes) ≡ true → list_any (λ f. is_end_of see f && is_stream_of stream f) see.facts ≡ true
      there stream source peer size nodes n e at =
          any_found (λ f. is_end_of see f && is_stream_of stream f) (λ f. name_eq (name_of f) n) see.facts (Open stream source peer size nodes) e
          (and_both (is_end_of see (Open stream source peer size nodes)) (name_eq stream stream) at (name_eq_same stream))

  close_at : (caller : ℕ) (n : Name) (o : Option Fact) → fact_at see.facts n ≡ o → DecisionFits see (at_end s see caller (open_end s see o) (closes caller))
  close_at caller n (Some (Open stream source peer size nodes)) e =
      elim (has_end s see stream source || has_end s see stream peer) as (λ t. (has_end s see stream source || has_end s see stream peer) ≡ t →
      DecisionFits see (at_end s see caller (if t then Some (Open stream source peer size nodes) else None) (closes caller))) [
        | false ↦ λ x. tt
        | true ↦ λ ends.
            let here : Bool = ((caller == source) && (s.home source == see.me)) || ((caller == peer) && (s.home peer == see.me)) in
            let last : Decision = if not here then answers see (only_status 8) else closes caller stream source in
            by_test (DecisionFits see) ((s.home peer == see.me) && not (has_joined see stream)) (answers see (only_status 9)) last (λ y. tt) (λ y.
            by_test (DecisionFits see) (not here) (answers see (only_status 8)) (closes caller stream source) (λ z. tt) (λ z.
            at_end_fits caller n stream source peer size nodes e ends (not_true here z)))
      ] refl
  close_at caller n _ e = tt

  pub close_fits : (caller : ℕ) (stream : Name) → DecisionFits see (close_stream s see caller stream)
  unfolding close_stream
  close_fits caller stream = close_at caller stream (fact_at see.facts stream) refl
