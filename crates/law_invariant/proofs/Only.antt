-- Decisions that make only permitted records.
use Rattle.std.proofs.Common.{not, ◌≡◌, ℕ, ◌<◌, ◌^◌, Bool, true, false, List, [], ◌∷◌, ◌++◌, refl, arith}
use Rattle.std.specs.Prelude.{◌==◌, nat_lt, if◌then◌else◌}
use Rattle.std.specs.List.{list_all}
use Rattle.std.proofs.lemmas.Bool.Decides.{nat_tests}
use Rattle.qkd_base.specs.Name.{IsName}
use Rattle.qkd_base.specs.declared.key_name.NameKind.{NameKind}
use Rattle.net_model.specs.declared.record.Record.{Record}
use Rattle.net_model.specs.declared.reply.Reply.{Reply}
use Rattle.net_model.specs.Site.{Site}
use Rattle.net_model.specs.World.{Durable}
use Rattle.net_model.specs.Records.{apply_record, replay}
use Rattle.net_model.specs.Doubt.{MayReplay}
use Rattle.net_model.specs.Decision.{Decision, answers, makes, fresh_name}
use Rattle.net_model.specs.Pools.{is_entitled}
use Rattle.net_model.specs.View.{View}
use Rattle.net_model.specs.Handle.{is_numbered}
use Rattle.law_invariant.specs.Only.{Only}
use Rattle.law_base.proofs.Base.{eq_from, and_left, and_right, by_test, not_true}

pub only_answers : (s : Site) (d : Durable) (see : View) (reply : Reply) → Only s d see (answers see reply)
only_answers s d see reply = record { volatile = refl; orders = refl; repeats = refl; batch = λ e. tt }

pub only_makes : (s : Site) (d : Durable) (see : View) (batch : List Record) (reply : Reply) → (list_all is_numbered batch ≡ true → MayReplay s d see.me batch) →
    Only s d see (makes see batch reply)
only_makes s d see batch reply h = record { volatile = refl; orders = refl; repeats = refl; batch = h }

pub only_either : (s : Site) (d : Durable) (see : View) (b : Bool) (x y : Decision) → (b ≡ true → Only s d see x) → (b ≡ false → Only s d see y) →
    Only s d see (if b then x else y)
only_either s d see b x y = by_test (Only s d see) b x y

pub replay_append : (s : Site) (d : Durable) (v : ℕ) (xs ys : List Record) → MayReplay s d v xs → MayReplay s (replay s v xs d) v ys → MayReplay s d v (xs ++ ys)
unfolding replay
replay_append s d v [] ys h h2 = h2
replay_append s d v (r ∷ rs) ys h h2 = (h.0, replay_append s (apply_record s v r d) v rs ys h.1 h2)

-- The caller is an application of an allowed pair, and is at home at this node.

pub record IsMine (s : Site) (see : View) (caller m t : ℕ) : Type 0 where
  pub allowed : s.allowed m t ≡ true
  pub home : s.home caller ≡ see.me

pub entitled_is : (s : Site) (see : View) (caller m t : ℕ) → not (is_entitled s see caller m t) ≡ false → IsMine s see caller m t
entitled_is s see caller m t e =
    let x = not_true (is_entitled s see caller m t) e in
    record {
      allowed = and_left (s.allowed m t) (s.home caller == see.me) x;
      home = eq_from (s.home caller) see.me (and_right (s.allowed m t) (s.home caller == see.me) x);
    }

-- A new name is in range.
pub fresh_is : (see : View) (kind : NameKind) (more : ℕ) → see.me < 16 → nat_lt (fresh_name see kind more).count (2 ^ 48) ≡ true → IsName (fresh_name see kind more)
fresh_is see kind more node h =
    let below : (fresh_name see kind more).count < 2 ^ 48 = grind (arith, nat_tests) in
    record { node = node; positive = omega arith; count = below }
