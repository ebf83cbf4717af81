use Rattle.std.proofs.Common.{◌≡◌, ◌++◌, ◌∷◌, [], List, ℕ, ap, subst, ◌∙◌}
use Rattle.resend_window.specs.Catalogued.{Catalogues}
use Rattle.resend_window.specs.Groups.{sent_groups}
use Rattle.resend_window.proofs.Listings.{put_last, within_last}
use Rattle.resend_window.proofs.slots.enlist.Goals as goal

pub returns : goal.returns
returns c keys size was =
    let base = c.place_group.result ∷ c.item_group.result ∷ [] in
    let gs = sent_groups c.args.held.now.ack_of c.args.held.now.sent in
    subst (λ (ks : List (List (List ℕ))). Catalogues ks c.list_sent.new.index)
    (put_last keys gs base c.args.place size
    ∙ ap (λ (k : List (List ℕ)). keys ++ (gs ++ k) ∷ []) (let a = c.place_group.ensures in let b = c.item_group.ensures in λ i. a i ∷ b i ∷ []))
    (c.list_sent.ensures (keys ++ base ∷ []) (within_last keys base c.args.place size) (c.add.ensures keys size was))
