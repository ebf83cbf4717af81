use Rattle.std.proofs.Common.{◌≡◌, Bool, refl, sym, ap, ◌∙◌, arith, [], ◌∷◌, ◌++◌, append-nil, Some}
use Rattle.std.specs.Prelude.{slice_set, if◌then◌else◌}
use Rattle.std.specs.List.{insert}
use Rattle.std.proofs.lemmas.Option.{slice_get-get_or}
use Rattle.par_frames.specs.Adding.{place_behind, put_behind}
use Rattle.par_frames.proofs.PlaceAmong.{place_within, inserted}
use Rattle.par_frames.proofs.log.Log.try_add.Goals as goal

pub insert-requires : goal.insert-requires
insert-requires c =
    let as_long = c.args.self.now.refused.ok.0 in
    let within = place_within c.args.refused c.args.self.now.refused.items in
    let place : c.place_behind-place.result ≡ place_behind c.args.refused c.args.self.now.refused.items = c.place_behind-place.ensures ∙ ap (place_behind c.args.refused) c.as_slice.ensures.value in
    omega (arith, as_long, within, place)

pub returns-in_ok-push-clause-ok : goal.returns-in_ok-push-clause-ok
returns-in_ok-push-clause-ok c =
    let below = c.in-Some.ensures.variant.0 refl in
    let as_long = c.args.self.now.placings.ok.0 in
    let there = slice_get-get_or c.args.self.now.placings.items c.args.node c.in-Some.placings.now (omega (arith, below, as_long)) ∙ ap Some (sym c.in-Some.ensures.value) in
    record {
      frames = c.in_ok-push.ensures.items ∙ ap (λ (t : Bool). c.args.self.now.frames.items ++ (if t then c.args.refused.frame ∷ [] else [])) (sym c.if-took.true);
      refused' = ap (λ (t : Bool). if t then c.args.self.now.refused.items else put_behind c.args.refused c.args.self.now.refused.items) (sym c.if-took.true);
      before = c.in-Some.placings.now;
      there = there;
      placings = ap (slice_set c.args.self.now.placings.items c.args.node) c.in_ok-push-in-Some.ensures.ok;
    }

pub returns-in_ok-insert-clause-ok : goal.returns-in_ok-insert-clause-ok
returns-in_ok-insert-clause-ok c =
    let below = c.in-Some.ensures.variant.0 refl in
    let as_long = c.args.self.now.placings.ok.0 in
    let there = slice_get-get_or c.args.self.now.placings.items c.args.node c.in-Some.placings.now (omega (arith, below, as_long)) ∙ ap Some (sym c.in-Some.ensures.value) in
    let place : c.place_behind-place.result ≡ place_behind c.args.refused c.args.self.now.refused.items = c.place_behind-place.ensures ∙ ap (place_behind c.args.refused) c.as_slice.ensures.value in
    record {
      frames = sym (append-nil c.args.self.now.frames.items) ∙ ap (λ (t : Bool). c.args.self.now.frames.items ++ (if t then c.args.refused.frame ∷ [] else [])) (sym c.if-took.false);
      refused' =
          c.in_ok-insert.ensures.items ∙ ap (λ n. insert c.args.self.now.refused.items n c.args.refused) place ∙ inserted c.args.refused c.args.self.now.refused.items
          ∙ ap (λ (t : Bool). if t then c.args.self.now.refused.items else put_behind c.args.refused c.args.self.now.refused.items) (sym c.if-took.false);
      before = c.in-Some.placings.now;
      there = there;
      placings = ap (slice_set c.args.self.now.placings.items c.args.node) c.in_ok-push-in-Some.ensures.ok;
    }
