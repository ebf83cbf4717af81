use Rattle.run_model.specs.Course.{whole_run, world_after}
use Rattle.law_run.proofs.Owned.{one_place, past_the_key}
use Rattle.law_run.proofs.Within.{handed_within}
use Rattle.law_run.proofs.Succeeds.{asked_succeeds, asked_group_succeeds}
use Rattle.law_run.proofs.Shown.{shown_in}
use Rattle.law_run.proofs.Keys.{got_within, bytes_stay, handed_at_home, group_has_slaves, conserved_after, is_apart}
use Rattle.law_run.proofs.headline_laws.law_keys_and_bytes.Goals as goal

pub returns : goal.returns
returns c = λ r is begins run.
    let last = c.law_run_keeps.ensures r.net r.begin (whole_run r) is begins.conserved run in
    let handed = c.law_deliveries_true.ensures.all r.net r.begin (whole_run r) is begins.conserved run in
    let new = c.law_deliveries_true.ensures.new r.net r.begin (whole_run r) is begins.conserved run in
    record {
      equal = handed.bytes;
      drawn = c.law_bytes_are_drawn.ensures r.net _ last;
      shown = λ n v name environment held b bytes at shown. bytes_stay r n name _ (shown_in r.net (world_after r n) v name environment held b bytes shown);
      once = new.once;
      marked = new.marked;
      at_home = handed_at_home r is begins.conserved run;
      entitled = λ name sae was. c.law_handed_to_entitled.ensures r.net _ last name sae (handed_within _ _ handed.marked name sae was);
      masks_one = λ l m n i j x a b first second one other at_a at_b.
          c.law_no_byte_masks_two.ensures r.net _ last l m n i j x a b first second one other at_a.0 at_a.1 at_b.0 at_b.1;
      hash_key = λ l j x a at covers. past_the_key r.net _ last l j x a at covers.0 covers.1 (got_within _ x _ (one_place r.net _ last l j x a at covers.0 covers.1));
      received = λ n l. c.law_received_is_counted.ensures r.net _ (conserved_after r is begins.conserved run n) l;
      one_place = λ l j x a at covers. one_place r.net _ last l j x a at covers.0 covers.1;
      apart = is_apart r is begins run last;
      succeeds = λ k v m s n bits environment at allowed may.
          asked_succeeds r.net (world_after r k) v m s n bits environment (conserved_after r is begins.conserved run k) allowed may;
      group_succeeds = λ k v m n bits slaves environment at allowed may.
          asked_group_succeeds r.net (world_after r k) v m n bits slaves environment (conserved_after r is begins.conserved run k)
          (group_has_slaves r run k v m n bits slaves environment at) allowed may;
      conserved = conserved_after r is begins.conserved run;
    }
