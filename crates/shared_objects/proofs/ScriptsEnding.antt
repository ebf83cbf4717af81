-- The machines after the errands are done.
use Rattle.std.proofs.Common.{◌≡◌, ℕ, List, [], ◌++◌, map, reverse, sym, ap, subst, ◌∙◌}
use Rattle.std.proofs.lemmas.List.{append-nil, length-map}
use Rattle.net_model.specs.BlockOrder.{IsMerge}
use Rattle.shared_objects.specs.Rising.{placed_from}
use Rattle.turnstile.specs.declared.machine.Machine.{Ghosts}
use Rattle.turnstile.specs.declared.turnstile.Turnstile.{Turnstile}
use Rattle.turnstile.specs.Names.{opening}
use Rattle.turnstile.specs.Views.{IsWhole}
use Rattle.shared_objects.specs.declared.pass.Post.{Post}
use Rattle.shared_objects.specs.Seats.{calls_at, EndAll, Closes}
use Rattle.shared_objects.proofs.Ending.{turned_round, ends_same, ended_at}
use Rattle.shared_objects.specs.Said.{Said, said_on}
use Rattle.shared_objects.specs.Done.{HaveAnswered}

-- If no machine is left, all machines are behind turnstiles.
pub all_opened : {M Q A C : Type 0} (ts : List (Turnstile M Q A C)) (left first : List M) → map opening ts ++ reverse left ≡ first → left ≡ [] → map opening ts ≡ first
all_opened {M} ts left first opened none = sym (append-nil (map opening ts)) ∙ ap (λ (ms : List M). map opening ts ++ reverse ms) (sym none) ∙ opened

module _ {M Q A C : Type 0} {g : Ghosts M Q A C} (turn : M → Q → A → M → Type 0) (ts : List (Turnstile M Q A C)) (ps : List (Post M Q A C g)) (saids : List (List (Said Q A)))
    (merged : (i : ℕ) (log : List (Q × A)) → IsWhole (calls_at i ps) log → IsMerge (map (said_on i) saids) (placed_from 0 log)) where
  answered_all : (ended : List M) → EndAll turn ts ps ended → HaveAnswered turn saids (map opening ts) ended
  answered_all ended ends = record {
    same = ends_same turn ts ps ended ends ∙ sym (length-map ts opening);
    each = λ i m n e f. let one = ended_at turn ts ps ended i m n ends e f in record { log = one.log; leads = one.leads; merged = merged i one.log one.whole };
  }

  pub have_answered : (first left after last : List M) → map opening ts ++ reverse left ≡ first → left ≡ [] → Closes turn ts ps left after → last ≡ reverse after → HaveAnswered turn saids first last
  have_answered first left after last opened none closed turned =
      let was = all_opened ts left first opened none in
      let is : closed.ended ≡ last = sym (turned_round left closed.ended after last closed.behind turned ∙ ap (λ (ms : List M). closed.ended ++ reverse ms) none ∙ append-nil closed.ended) in
      subst (λ (ms : List M). HaveAnswered turn saids ms last) was (subst (λ (ms : List M). HaveAnswered turn saids (map opening ts) ms) is (answered_all closed.ended closed.ends))
