use Rattle.std.proofs.Common.{◌≡◌, ◌<◌, ◌≤◌, ◌+◌, ℕ, List, ◌∷◌, [], ◌++◌, length, map, take, sym, ap, subst, ◌∙◌}
use Rattle.std.specs.Prelude.{slice_get}
use Rattle.net_model.specs.declared.fact.Fact.{Fact}
use Rattle.net_model.specs.declared.record.Record.{Record}
use Rattle.net_model.specs.Journal.{fact_record}
use Rattle.kme_journal.specs.Batches.{Gathered, Gathers}
use Rattle.kme_journal.proofs.Listed.{gathered_as, got_at, none_past, map_step, map_end}
use Rattle.kme_journal.proofs.facts.list_facts.Goals as goal
use Rattle.kme_journal.proofs.facts.list_facts.Goals.{in-None, in-Some+in_ok-fact_record-in-Some+in_ok-push-in-Some}

pub loop-place-preserved : goal.loop-place-preserved
loop-place-preserved c = λ v rs sees was.
    let facts : List Fact = c.args.kept.now.ends.known.facts in
    let place : ℕ = c.loop-place.place in
    let known = c.known-known.ensures ∙ ap (λ e. e.known) c.ends.ensures ∙ ap (λ s. s.ends.known) c.streams.ensures.streams in
    let there : c.known-known.result.now.facts ≡ facts = ap (λ k. k.facts) known in
    let within : place < length facts = subst (λ (fs : List Fact). place < length fs) there (subst (λ (n : ℕ). place < n) c.len-place-end.ensures.length c.loop-place-test.true) in
    elim c.match-at.branch [
      | in-None w ↦ absurd (none_past facts place within (w.in-None.ensures ∙ ap (λ (fs : List Fact). slice_get fs place) there))
      | in-Some+in_ok-fact_record-in-Some+in_ok-push-in-Some w ↦
          let fact : Fact = w.in-Some.fact.now in
          let got = got_at facts place fact (w.in-Some.ensures ∙ ap (λ (fs : List Fact). slice_get fs place) there) in
          let so_far = c.loop-place.invariant v rs sees was in
          let pushed = w.in_ok-push-in-Some.ensures (rs ++ map (fact_record v) (take place facts)) so_far in
          let more = ap (λ (r : Record). (rs ++ map (fact_record v) (take place facts)) ++ r ∷ []) (w.in_ok-fact_record-in-Some.ensures.spelled v sees) in
          let all = gathered_as w.push.new.self _ _ (more ∙ map_step (fact_record v) rs facts place fact within got) pushed in
          subst (λ (g : Gathered). Gathers g (rs ++ map (fact_record v) (take (place + 1) facts))) (sym w.batches-is) all
    ]

pub returns : goal.returns
returns c = λ v rs sees was.
    let facts : List Fact = c.args.kept.now.ends.known.facts in
    let known = c.known-known.ensures ∙ ap (λ e. e.known) c.ends.ensures ∙ ap (λ s. s.ends.known) c.streams.ensures.streams in
    let there : c.known-known.result.now.facts ≡ facts = ap (λ k. k.facts) known in
    let past : length facts ≤ c.loop-place.place = subst (λ (fs : List Fact). length fs ≤ c.loop-place.place) there (subst (λ (n : ℕ). n ≤ c.loop-place.place) c.len-place-end.ensures.length c.loop-place-test.false) in
    gathered_as c.loop-place.batches _ _ (map_end (fact_record v) rs facts c.loop-place.place past ∙ ap (λ (fs : List Fact). rs ++ map (fact_record v) fs) (sym sees.ends.facts)) (c.loop-place.invariant v rs sees was)
