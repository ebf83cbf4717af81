use Rattle.std.proofs.Common.{◌≡◌, ◌≤◌, ◌+◌, ◌*◌, ◌++◌, drop, ltb, false, true, vec_len, vec_capacity}
use Rattle.std.specs.List.{list_all}
use Rattle.qkd014_api.specs.Texts.{keys_text}
use Rattle.qkd014_api.specs.Ready.{is_short}
use Rattle.qkd014_api.proofs.container.put_keys.Given as goal

abbrev pub invariant-loop-place : goal.invariant-loop-place
invariant-loop-place l = record {
  items : l.body.items ++ keys_text (ltb 0 l.place) (drop l.place l.keys) ≡ l.initial.body.items ++ keys_text false l.keys;
  short : list_all is_short (drop l.place l.keys) ≡ true;
  len : vec_len l.body ≤ vec_len l.initial.body + 743 * l.place;
  capacity : vec_capacity l.initial.body ≤ vec_capacity l.body;
}
