use Rattle.std.proofs.Common.{◌≡◌, ◌++◌, ◌∷◌, [], List, ℕ, ap, subst, sym, ◌∙◌}
use Rattle.std.specs.Prelude.{slice_set}
use Rattle.resend_window.specs.Catalogued.{Catalogues}
use Rattle.resend_window.specs.Groups.{offset_group, item_group, held_groups}
use Rattle.resend_window.proofs.Catalogues.{catalogue_same}
use Rattle.resend_window.proofs.Listings.{sent_apart, groups_here, set_twice}
use Rattle.resend_window.proofs.slots.unlist.Goals as goal

pub returns-in-None : goal.returns-in-None
returns-in-None c keys within there was whole = catalogue_same keys c.args.place c.args.index.now.entries (was whole) (there ∙ ap held_groups c.in-None.is)

pub returns-in-Some : goal.returns-in-Some
returns-in-Some c keys within there was =
    let h = c.in-Some.held in
    let base = offset_group 0 h.lane h.offset ∷ item_group h.lane h.name h.ack_of ∷ [] in
    let mid = c.unlist_sent.ensures keys base (there ∙ ap held_groups c.in-Some.is) (sent_apart h.sent h.lane h.offset h.lane h.name h.ack_of) was in
    subst (λ (ks : List (List (List ℕ))). Catalogues ks c.remove.new.self) (set_twice keys c.args.place base [])
    (c.remove.ensures (slice_set keys c.args.place base)
    (groups_here keys c.args.place base within ∙ (let a = sym c.place_group.ensures in let b = sym c.item_group.ensures in λ i. a i ∷ b i ∷ [])) mid)
