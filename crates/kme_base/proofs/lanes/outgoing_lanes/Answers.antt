use Rattle.std.proofs.Common.{◌≡◌, ◌∙◌, ℕ, ◌&&◌, nat_lt, ◌++◌, sym, ap, arith, [], ◌∷◌, map, filter, Vec, Global}
use Rattle.std.proofs.lemmas.List.{append-nil}
use Rattle.std.specs.Prelude.{option_to_list}
use Rattle.qkd_base.specs.declared.lane.Lane.{Lane}
use Rattle.std.proofs.lemmas.Grind.{common_steps}
use Rattle.net_model.specs.Site.{count_up, is_incident, outgoing_lane, outgoing_lanes}
use Rattle.declared_site.specs.SiteOf.{site_of}
use Rattle.declared_site.proofs.Sites.{is_site}
use Rattle.kme_base.proofs.Outgoing.{counted_up, one_up, gave}
use Rattle.kme_base.proofs.lanes.outgoing_lanes.Goals as goal
use Rattle.kme_base.proofs.lanes.outgoing_lanes.Goals.{in-Some+in_ok-push-in-Some, in-None}

pub loop-number-preserved : goal.loop-number-preserved
loop-number-preserved c =
    let s = site_of c.args.site.now in
    let f = outgoing_lane s c.args.me in
    let p = λ (x : ℕ). nat_lt x s.links && is_incident s c.args.me x in
    let n = c.loop-number.number in
    let link : c.unwrap-link.result ≡ n = grind (arith, common_steps, c.new.ensures, c.unwrap-link.ensures) in
    let told = rw link at c.outgoing_lane.ensures in
    let more = one_up f p n in
    let found = gave c.outgoing_lane.result (p n) (f n) told in
    let before = c.loop-number.invariant in
    elim c.match-outgoing_lane.branch [
      | in-Some+in_ok-push-in-Some w ↦
          ap (λ (v : Vec Lane Global). v.items) w.lanes-is ∙ w.in_ok-push-in-Some.ensures.items
          ∙ ap (λ zs. zs ++ w.in-Some.lane ∷ []) before
          ∙ ap (λ zs. map f (filter p (count_up n)) ++ zs) (sym (found ∙ ap option_to_list w.in-Some.is))
          ∙ sym more
      | in-None w ↦
          ap (λ (v : Vec Lane Global). v.items) w.lanes-is ∙ before
          ∙ sym (append-nil (map f (filter p (count_up n))))
          ∙ ap (λ zs. map f (filter p (count_up n)) ++ zs) (sym (found ∙ ap option_to_list w.in-None.is))
          ∙ sym more
    ]

pub returns : goal.returns
unfolding outgoing_lanes
returns c =
    let s = site_of c.args.site.now in
    let last : c.loop-number.number ≡ 32 = omega (arith, c.loop-number-test.false, c.loop-number.auto.number-end) in
    c.loop-number.invariant
    ∙ ap (λ n. map (outgoing_lane s c.args.me) (filter (λ x. nat_lt x s.links && is_incident s c.args.me x) (count_up n))) last
    ∙ ap (map (outgoing_lane s c.args.me)) (counted_up (is_incident s c.args.me) s.links 32 (is_site c.args.site.now c.requires).links)
