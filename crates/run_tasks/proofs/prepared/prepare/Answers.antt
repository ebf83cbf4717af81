use Rattle.std.proofs.Common.{◌∙◌, List, [], ◌∷◌, ◌++◌, length, sym, ap, subst, arith, append_assoc}
use Rattle.std.specs.List.{All}
use Rattle.std.proofs.lemmas.List.{append-nil}
use Rattle.std.proofs.lemmas.List.Elements.{All-tail}
use Rattle.std.specs.Vec.Iter.{into_iter_items}
use Rattle.declared_site.specs.SiteOf.{site_of}
use Rattle.run_types.specs.declared.line.Line.{Line}
use Rattle.run_ops.specs.Runnable.{IsBlockLineFor}
use Rattle.run_tasks.specs.Prepared.{IsPrepared}
use Rattle.run_tasks.proofs.Tasking.{is_none}
use Rattle.run_tasks.proofs.BlockLines.{made_on, allowed_on}
use Rattle.run_tasks.proofs.prepared.prepare.Goals as goal

pub loop-line-preserved : goal.loop-line-preserved
loop-line-preserved g c =
    let d = g.S.Acts.site c.args.net.now in
    let gone = c.in-Some.ensures.steps in
    record {
      long = (let fewer = ap (λ (ls : List Line). length ls) gone.0 in omega (arith, fewer, gone.1, c.loop-line.invariant.long));
      fit = All-tail (IsBlockLineFor d) _ _ (subst (All (IsBlockLineFor d)) gone.0 c.loop-line.invariant.fit);
      made = λ http n w speaks ready.
          let at = c.loop-line.invariant.made http n w speaks ready in
          record {
            first = at.first ++ c.in-Some.line ∷ [];
            is = at.is ∙ ap (λ (ls : List Line). at.first ++ ls) gone.0 ∙ sym (append_assoc at.first (c.in-Some.line ∷ []) (into_iter_items c.next.new.self));
            prepared =
                made_on http (site_of d) w at.first c.in-Some.line c.loop-line.prepared c.add.new.prepared c.in_ok-made.made at.prepared (c.in_ok-made.ensures.made http n w speaks ready)
                c.in_ok-add.ensures.jobs c.in_ok-add.ensures.places c.in_ok-add.ensures.told;
          };
      allowed = λ n w ready.
          allowed_on (site_of d) w c.loop-line.prepared.jobs.items c.add.new.prepared.jobs.items c.in_ok-made.made (c.loop-line.invariant.allowed n w ready) (c.in_ok-made.ensures.allowed n w ready)
          c.in_ok-add.ensures.jobs;
    }

pub returns-clause-prepared : goal.returns-clause-prepared
returns-clause-prepared g c = λ http n w speaks ready.
    let is = c.into_iter-line-iterator.ensures.into_iter_gives.0 ∙ c.into_vec-line-items.ensures in
    let at = c.loop-line.invariant.made http n w speaks ready in
    let none = is_none _ (sym c.loop-line.invariant.long ∙ c.in-None.ensures.steps.0) in
    let whole = sym is ∙ at.is ∙ ap (λ (ls : List Line). at.first ++ ls) none ∙ append-nil at.first in
    subst (λ (ls : List Line). IsPrepared http (site_of (g.S.Acts.site c.args.net.now)) w ls c.loop-line.prepared) (sym whole) at.prepared
