use Rattle.std.proofs.Common.{◌≡◌, ◌++◌, ◌∷◌, [], List, ℕ, ap, subst, ◌∙◌, arith}
use Rattle.std.specs.Prelude.{slice_set}
use Rattle.resend_window.specs.Catalogued.{Catalogues, groups_at}
use Rattle.resend_window.specs.Groups.{offset_group, item_group, sent_groups}
use Rattle.resend_window.proofs.Listings.{sent_apart, groups_here, set_twice, length_set}
use Rattle.resend_window.proofs.slots.renew.Goals as goal

pub returns : goal.returns
returns c keys within there was =
    let h = c.args.held.now in
    let base = offset_group 0 h.lane h.offset ∷ item_group h.lane h.name h.ack_of ∷ [] in
    let gs = sent_groups h.ack_of c.args.tick in
    let mid = c.unlist_sent.ensures keys base there (sent_apart h.sent h.lane h.offset h.lane h.name h.ack_of) was in
    let size = length_set keys c.args.place base in
    subst (λ (ks : List (List (List ℕ))). Catalogues ks c.list_sent.new.index)
    (set_twice keys c.args.place base (gs ++ groups_at (slice_set keys c.args.place base) c.args.place)
    ∙ ap (λ (k : List (List ℕ)). slice_set keys c.args.place (gs ++ k)) (groups_here keys c.args.place base within))
    (c.list_sent.ensures (slice_set keys c.args.place base) (omega arith) mid)
