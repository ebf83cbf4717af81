-- The numbers of keys that actions hand out.
use Rattle.std.proofs.Common.{◌≡◌, ◌∙◌, ℕ, ◌+◌, true, List, [], ◌∷◌, ◌++◌, refl, sym, ap, arith}
use Rattle.std.specs.List.{list_all}
use Rattle.net_model.specs.declared.reply.Reply.{Reply}
use Rattle.net_model.specs.World.{Network, World}
use Rattle.net_model.specs.Action.{Action, Outcome, Replies}
use Rattle.net_model.specs.Step.{step, run}
use Rattle.run_model.specs.Play.{plain}
use Rattle.law_run.specs.Handed.{enc_in, dec_in, counted, enc_keys, dec_keys, asks_no_key}
use Rattle.law_run.proofs.Counting.{none_enc, none_dec, counted_append, none_in_run}
use Rattle.law_run.proofs.Told.{enc_plain, dec_plain}
use Rattle.run_tasks.specs.declared.handed.Handed.{Handed}
use Rattle.run_tasks.specs.Counting.{AreHanded, no_keys}

pub nothing_handed : (net : Network) (w : World) → AreHanded net w [] no_keys
unfolding counted
nothing_handed net w = record { masters = refl; slaves = refl }

pub none_more : (n : ℕ) → n ≡ 0 + n
none_more n = omega arith

-- Actions that ask for no key hand out none.
pub none_handed : (net : Network) (w : World) (actions : List Action) → list_all asks_no_key actions ≡ true → AreHanded net w actions no_keys
none_handed net w actions h = record {
  masters = sym (none_in_run enc_in none_enc net w actions h);
  slaves = sym (none_in_run dec_in none_dec net w actions h);
}

-- Two lists of actions in order hand out the sum of their keys.
pub both_handed : (net : Network) (w : World) (xs ys : List Action) (x y z : Handed) → AreHanded net w xs x → AreHanded net (run net w xs) ys y → z.masters ≡ x.masters + y.masters →
    z.slaves ≡ x.slaves + y.slaves → AreHanded net w (xs ++ ys) z
both_handed net w xs ys x y z p q masters slaves =
    let encs = counted_append enc_in net w xs ys in
    let decs = counted_append dec_in net w xs ys in
    record { masters = omega (arith, masters, encs, p.masters, q.masters); slaves = omega (arith, slaves, decs, p.slaves, q.slaves) }

-- The count over a single action is the count of its outcome.
one_counted : (count : Action → Outcome → ℕ) (net : Network) (w : World) (a : Action) → counted count net w (a ∷ []) ≡ count a (step net w a).1
unfolding counted
one_counted count net w a = omega arith

-- The keys of a request are those in its reply, whatever the environment answers.
module _ (net : Network) (w : World) (a asked : Action) (reply : Reply) (is : plain a ≡ asked) (said : (step net w a).1 ≡ Replies reply) where
  encs_are : enc_keys net w (a ∷ []) ≡ enc_in asked (Replies reply)
  encs_are = one_counted enc_in net w a ∙ enc_plain a (step net w a).1 ∙ ap (λ (x : Action). enc_in x (step net w a).1) is ∙ ap (enc_in asked) said

  decs_are : dec_keys net w (a ∷ []) ≡ dec_in asked (Replies reply)
  decs_are = one_counted dec_in net w a ∙ dec_plain a (step net w a).1 ∙ ap (λ (x : Action). dec_in x (step net w a).1) is ∙ ap (dec_in asked) said

  pub asked_handed : (handed : Handed) → handed.masters ≡ enc_in asked (Replies reply) → handed.slaves ≡ dec_in asked (Replies reply) → AreHanded net w (a ∷ []) handed
  asked_handed handed masters slaves = record { masters = masters ∙ sym encs_are; slaves = slaves ∙ sym decs_are }
