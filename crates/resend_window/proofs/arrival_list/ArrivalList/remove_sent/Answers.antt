use Rattle.std.proofs.Common.{◌≡◌, ℕ, Bool, true, List, [], ◌∷◌, Option, ap, sym, ◌∙◌, refl}
use Rattle.std.specs.Prelude.{filter, not}
use Rattle.resend_window.specs.declared.arrival.Arrival.{Arrival}
use Rattle.resend_window.specs.Kept.{somes}
use Rattle.resend_window.specs.Lists.{is_some_from}
use Rattle.resend_window.proofs.arrival_list.ArrivalList.remove_sent.Goals as goal

all_kept : (xs : List Arrival) → xs ≡ filter (λ (a : Arrival). true) xs
all_kept [] = refl
all_kept (x ∷ xs) = ap (λ ys. x ∷ ys) (all_kept xs)

pub returns-in-None-clause-items : goal.returns-in-None-clause-items
returns-in-None-clause-items c = all_kept (somes c.args.self.now.items) ∙ ap (λ (o : Option ℕ). filter (λ (a : Arrival). not (is_some_from c.args.lane o a)) (somes c.args.self.now.items)) (sym c.in-None.is)
