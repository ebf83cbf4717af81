use Rattle.std.proofs.Common.{◌≡◌, ℕ, true, false, cond, List, ◌∷◌, Option, Some, sym, ap, ◌∙◌, subst}
use Rattle.std.specs.List.{list_all, cons_option}
use Rattle.std.specs.Str.{bytes_eq}
use Rattle.run_audit.specs.declared.contents.Content.{Content}
use Rattle.run_audit.specs.declared.contents.Contents.{Contents}
use Rattle.run_audit.specs.Table.{at}
use Rattle.run_audit.specs.Contents.{content_of, matches}
use Rattle.run_audit.specs.Rules.{carries_one}
use Rattle.run_audit.specs.Kept.{place_key, AreCarried}
use Rattle.run_audit.proofs.Matching.{known_more}
use Rattle.run_audit.proofs.Placing.{Puts}
use Rattle.run_audit.proofs.contents.Contents.learn.Goals as goal

pub returns-then-not-has_like : goal.returns-then-not-has_like
returns-then-not-has_like c fs cs carried =
    let told : content_of c.args.item.now fs ≡ Some c.in-Some.content = sym (c.content_of.ensures fs cs carried) ∙ c.in-Some.is in
    (sym c.if-not-has_like.true ∙ c.has_like.ensures fs cs carried ∙ ap (λ (o : Option Content). carries_one o cs) (sym told), λ e. absurd (let u : ⊥ = cc in u))

pub returns-in_ok-put-in-Some : goal.returns-in_ok-put-in-Some
returns-in_ok-put-in-Some c fs cs carried =
    let it : Content = c.in-Some.content in
    let told : content_of c.args.item.now fs ≡ Some it = sym (c.content_of.ensures fs cs carried) ∙ c.in-Some.is in
    let all : list_all (matches it) cs ≡ true = sym (c.has_like.ensures fs cs carried) ∙ c.if-not-has_like.false in
    let new : Contents = record { offsets = c.args.self.now.offsets; known = c.put.new.table } in
    let puts : Puts c.args.self.now.known c.put.new.table (place_key it.lane it.offset) it = λ k. subst (λ (key : List ℕ). at c.put.new.table k ≡ cond (bytes_eq key k) (Some it) (at c.args.self.now.known k)) c.place_key.ensures (c.in_ok-put-in-Some.ensures {u = tt} k) in
    let with_it : AreCarried new fs (it ∷ cs) = record { offsets = carried.offsets; known = known_more c.args.self.now.known c.put.new.table it cs carried.known puts; matching = (all, carried.matching) } in
    (sym all ∙ ap (λ (o : Option Content). carries_one o cs) (sym told), λ e. subst (λ (o : Option Content). AreCarried new fs (cons_option o cs)) (sym told) with_it)
