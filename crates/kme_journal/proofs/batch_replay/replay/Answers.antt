use Rattle.std.proofs.Common.{◌<◌, ℕ, List, [], ◌∷◌, ◌++◌, length, take, get_or, ap, sym, subst, ◌∙◌, arith}
use Rattle.std.proofs.lemmas.List.{take_more}
use Rattle.net_model.specs.View.{View}
use Rattle.net_model.specs.Fold.{view_batch}
use Rattle.kme_node.specs.Holdings.{view}
use Rattle.kme_journal.specs.BatchRecovery.{IsReadAs, AreReadAs}
use Rattle.kme_journal.proofs.ReadBack.{read_more, fold_more}
use Rattle.kme_journal.proofs.batch_replay.replay.Goals as goal

pub loop-place-preserved : goal.loop-place-preserved
loop-place-preserved c =
    let old = c.loop-place.invariant.taken in
    let more = c.in-Ok.ensures.taken in
    let bodies : List (List ℕ) = c.args.batches.now in
    let place : ℕ = c.loop-place.place in
    let octets : List ℕ = c.index-batches-place.result in
    let within : place < length bodies = omega arith in
    let read : IsReadAs c.args.version (get_or bodies place octets) more.0 =
    subst (λ (os : List ℕ). IsReadAs c.args.version os more.0) (c.as_slice.ensures ∙ c.index-batches-place.is) more.1 in
    record {
      site = c.take_back.ensures.site ∙ c.loop-place.invariant.site;
      taken = (
        old.0 ++ more.0 ∷ [],
        subst (λ (bs : List (List ℕ)). AreReadAs c.args.version bs (old.0 ++ more.0 ∷ [])) (sym (take_more bodies place octets within))
            (read_more c.args.version (take place bodies) (get_or bodies place octets) old.0 more.0 old.1 read),
        more.2 ∙ ap (λ (v : View). view_batch v more.0) old.2 ∙ sym (fold_more (view c.args.node.now) old.0 more.0),
      );
    }
