use Rattle.std.proofs.Common.{rules, ◌≡◌, ◌<◌, ◌+◌, ◌++◌, ◌∷◌, [], ◌∙◌, List, length, slice_get, get_or, vec_len, refl, sym, ap, subst, arith, append_assoc}
use Rattle.std.proofs.lemmas.List.{append-nil}
use Rattle.std.proofs.lemmas.Option.{slice_get_read, slice_get-get_or}
use Rattle.turnstile.specs.Names.{knows}
use Rattle.shared_objects.specs.Seats.{Belongs, calls_at}
use Rattle.shared_objects.proofs.Zips.{zip_same, zip_at, zip_set, same_item, past_end}
use Rattle.shared_objects.proofs.Places.{seam, done_on, left_on}
use Rattle.shared_objects.proofs.rows.join_row.Goals as goal

pub loop-init : goal.loop-init
loop-init g c =
    let same = zip_same (Belongs {g = g.M.Machine}) c.args.turnstiles.now c.args.row.items c.requires.row in
    let long = zip_same (Belongs {g = g.M.Machine}) c.args.turnstiles.now c.args.kept.now c.requires.kept in record {
      turns = omega (arith, same, c.args.row.ok.0);
      kept = c.requires.kept;
      row = ([], append-nil c.args.row.items);
      done = λ i le.
          sym (append-nil (calls_at i c.args.kept.now)) ∙ ap (λ (u : List _). calls_at i c.args.kept.now ++ u) (sym (past_end (λ p. (knows p.seat).mine) [] c.args.row.items i (omega (arith, le, c.args.row.ok.0))));
      spent = λ i le. let b = past_end (λ p. (knows p.seat).budget) 0 c.args.row.items i (omega (arith, le, c.args.row.ok.0)) in omega (arith, b);
      left = λ i lt. refl;
      budget = λ i lt. refl;
    }

pub take_last-seat-requires : goal.take_last-seat-requires
take_last-seat-requires g c = omega (arith, c.loop.invariant.turns, c.loop-test.true)

pub bounds-kept-place : goal.bounds-kept-place
bounds-kept-place g c =
    let long = zip_same (Belongs {g = g.M.Machine}) c.args.turnstiles.now c.loop.kept c.loop.invariant.kept in
    omega (arith, long, c.loop.invariant.turns, c.loop-test.true, c.len-place.ensures, c.take_last-seat.ensures.len)

pub bounds-turnstiles-place : goal.bounds-turnstiles-place
bounds-turnstiles-place g c = omega (arith, c.loop.invariant.turns, c.loop-test.true, c.len-place.ensures, c.take_last-seat.ensures.len)

pub offset_bounds-kept-place : goal.offset_bounds-kept-place
offset_bounds-kept-place g c =
    let long = zip_same (Belongs {g = g.M.Machine}) c.args.turnstiles.now c.loop.kept c.loop.invariant.kept in
    let l : c.len-place.result < length c.loop.kept = omega (arith, long, c.loop.invariant.turns, c.loop-test.true, c.len-place.ensures, c.take_last-seat.ensures.len) in search rules

pub offset_bounds-turnstiles-place : goal.offset_bounds-turnstiles-place
offset_bounds-turnstiles-place g c =
    let l : c.len-place.result < length c.args.turnstiles.now = omega (arith, c.loop.invariant.turns, c.loop-test.true, c.len-place.ensures, c.take_last-seat.ensures.len) in search rules

pub join-requires : goal.join-requires
join-requires g c =
    let long = zip_same (Belongs {g = g.M.Machine}) c.args.turnstiles.now c.loop.kept c.loop.invariant.kept in
    let l : c.len-place.result < length c.loop.kept = omega (arith, long, c.loop.invariant.turns, c.loop-test.true, c.len-place.ensures, c.take_last-seat.ensures.len) in
    let et = slice_get_read c.args.turnstiles.now (length c.args.turnstiles.now) c.len-place.result c.index-turnstiles-place.result refl (omega (arith, l, long)) c.index-turnstiles-place.is in
    let ep = slice_get-get_or c.loop.kept c.len-place.result c.index-kept-place.result l in
    let k : length c.take_last-seat.new.self.items ≡ c.len-place.result = omega (arith, c.len-place.ensures, c.take_last-seat.new.self.ok.0) in
    let el = seam c.take_last-seat.new.self.items c.take_last-seat.result c.loop.invariant.row.0 c.args.row.items c.len-place.result
    (subst (λ (xs : List _). xs ++ c.loop.invariant.row.0 ≡ c.args.row.items) c.take_last-seat.ensures.items c.loop.invariant.row.1) k in
    record { fits = (zip_at (Belongs {g = g.M.Machine}) c.args.turnstiles.now c.loop.kept c.len-place.result _ _ c.loop.invariant.kept et ep, zip_at (Belongs {g = g.M.Machine}) c.args.turnstiles.now c.args.row.items c.len-place.result _ _ c.requires.row et el) }

pub loop-preserved : goal.loop-preserved
loop-preserved g c =
    let long = zip_same (Belongs {g = g.M.Machine}) c.args.turnstiles.now c.loop.kept c.loop.invariant.kept in
    let l : c.len-place.result < length c.loop.kept = omega (arith, long, c.loop.invariant.turns, c.loop-test.true, c.len-place.ensures, c.take_last-seat.ensures.len) in
    let et = slice_get_read c.args.turnstiles.now (length c.args.turnstiles.now) c.len-place.result c.index-turnstiles-place.result refl (omega (arith, l, long)) c.index-turnstiles-place.is in
    let ep = slice_get-get_or c.loop.kept c.len-place.result c.index-kept-place.result l in
    let k : length c.take_last-seat.new.self.items ≡ c.len-place.result = omega (arith, c.len-place.ensures, c.take_last-seat.new.self.ok.0) in
    let el = seam c.take_last-seat.new.self.items c.take_last-seat.result c.loop.invariant.row.0 c.args.row.items c.len-place.result
    (subst (λ (xs : List _). xs ++ c.loop.invariant.row.0 ≡ c.args.row.items) c.take_last-seat.ensures.items c.loop.invariant.row.1) k in
    let n : vec_len c.loop.row ≡ c.len-place.result + 1 = omega (arith, c.len-place.ensures, c.take_last-seat.ensures.len) in
    let m = c.len-place.ensures in
    record {
      turns = omega (arith, c.loop.invariant.turns, c.take_last-seat.ensures.len);
      kept = zip_set (Belongs {g = g.M.Machine}) c.args.turnstiles.now c.loop.kept c.len-place.result (record { place = (get_or c.loop.kept c.len-place.result c.index-kept-place.result).place; seat = c.join.new.seat }) c.loop.invariant.kept
          (λ t e. subst (λ (u : _). Belongs {g = g.M.Machine} u (record { place = (get_or c.loop.kept c.len-place.result c.index-kept-place.result).place; seat = c.join.new.seat })) (same_item (slice_get c.args.turnstiles.now c.len-place.result) c.index-turnstiles-place.result t et e) c.join.ensures.fits);
      row = (
        c.take_last-seat.result ∷ c.loop.invariant.row.0,
        sym (append_assoc c.take_last-seat.new.self.items (c.take_last-seat.result ∷ []) c.loop.invariant.row.0) ∙ subst (λ (xs : List _). xs ++ c.loop.invariant.row.0 ≡ c.args.row.items) c.take_last-seat.ensures.items c.loop.invariant.row.1,
      );
      done = λ i h. done_on (λ a b. a ++ b) (λ p. (knows p.seat).mine) [] c.args.kept.now c.loop.kept c.args.row.items c.len-place.result (get_or c.loop.kept c.len-place.result c.index-kept-place.result) (record { place = (get_or c.loop.kept c.len-place.result c.index-kept-place.result).place; seat = c.join.new.seat }) c.take_last-seat.result ep el c.join.ensures.own (λ j h. c.loop.invariant.done j (omega (arith, h, n))) (λ j h. c.loop.invariant.left j (omega (arith, h, n))) i (omega (arith, h, m));
      spent = λ i h. done_on (λ a b. a + b) (λ p. (knows p.seat).budget) 0 c.args.kept.now c.loop.kept c.args.row.items c.len-place.result (get_or c.loop.kept c.len-place.result c.index-kept-place.result) (record { place = (get_or c.loop.kept c.len-place.result c.index-kept-place.result).place; seat = c.join.new.seat }) c.take_last-seat.result ep el c.join.ensures.budget (λ j h. c.loop.invariant.spent j (omega (arith, h, n))) (λ j h. c.loop.invariant.budget j (omega (arith, h, n))) i (omega (arith, h, m));
      left = λ i h. left_on (λ a b. a ++ b) (λ p. (knows p.seat).mine) [] c.args.kept.now c.loop.kept c.args.row.items c.len-place.result (get_or c.loop.kept c.len-place.result c.index-kept-place.result) (record { place = (get_or c.loop.kept c.len-place.result c.index-kept-place.result).place; seat = c.join.new.seat }) c.take_last-seat.result ep el c.join.ensures.own (λ j h. c.loop.invariant.done j (omega (arith, h, n))) (λ j h. c.loop.invariant.left j (omega (arith, h, n))) i (omega (arith, h, m));
      budget = λ i h. left_on (λ a b. a + b) (λ p. (knows p.seat).budget) 0 c.args.kept.now c.loop.kept c.args.row.items c.len-place.result (get_or c.loop.kept c.len-place.result c.index-kept-place.result) (record { place = (get_or c.loop.kept c.len-place.result c.index-kept-place.result).place; seat = c.join.new.seat }) c.take_last-seat.result ep el c.join.ensures.budget (λ j h. c.loop.invariant.spent j (omega (arith, h, n))) (λ j h. c.loop.invariant.budget j (omega (arith, h, n))) i (omega (arith, h, m));
    }

pub returns-clause-kept : goal.returns-clause-kept
returns-clause-kept g c = c.loop.invariant.kept

pub returns-clause-own : goal.returns-clause-own
returns-clause-own g c = λ i. c.loop.invariant.done i (omega (arith, c.loop.invariant.turns, c.loop-test.false))

pub returns-clause-budget : goal.returns-clause-budget
returns-clause-budget g c = λ i. c.loop.invariant.spent i (omega (arith, c.loop.invariant.turns, c.loop-test.false))
