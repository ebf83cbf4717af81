use Rattle.std.proofs.Common.{◌≡◌, ℕ, List, Option, Some, ◌∙◌, sym, ap, subst}
use Rattle.std.specs.Prelude.{slice_get, IfSome}
use Rattle.qkd_base.specs.Name.{Name}
use Rattle.end_store.specs.Waiting.{Ends}
use Rattle.kme_facts.specs.Settled.{IsGivenSettled}
use Rattle.kme_facts.proofs.Named.{given_at}
use Rattle.kme_facts.proofs.wiped_bytes.let_go_given_at.Goals as goal

pub let_go_given-requires : goal.let_go_given-requires
let_go_given-requires c =
    let pairs = c.handed.ensures ∙ ap (λ (e : Ends). e.handed) c.ends.ensures in
    given_at c.args.streams.now.ends.handed c.args.place c.in-Some.pair
    (sym (ap (λ (hs : List (Name × ℕ)). slice_get hs c.args.place) pairs) ∙ sym c.handing_in.ensures ∙ sym c.copied.ensures ∙ c.in-Some.is)

pub returns-in-Some-clause-settled : goal.returns-in-Some-clause-settled
returns-in-Some-clause-settled c =
    let pairs = c.handed.ensures ∙ ap (λ (e : Ends). e.handed) c.ends.ensures in
    let there : slice_get c.args.streams.now.ends.handed c.args.place ≡ Some c.in-Some.pair =
    sym (ap (λ (hs : List (Name × ℕ)). slice_get hs c.args.place) pairs) ∙ sym c.handing_in.ensures ∙ sym c.copied.ensures ∙ c.in-Some.is in
    subst (λ (o : Option (Name × ℕ)). IfSome o (λ h. IsGivenSettled c.let_go_given.new.streams h.0)) (sym there) c.let_go_given.ensures.settled
