-- What one worker does alone is what any number of workers may do.
use Rattle.std.proofs.Common.{◌≡◌, inl, inr, ℕ, ◌≤◌, true, List, [], ◌∷◌, ◌++◌, length, map, refl, sym, ap, ◌∙◌, subst, arith}
use Rattle.std.specs.Prelude.{◌==◌}
use Rattle.std.specs.List.{list_all}
use Rattle.net_model.specs.Site.{Site, count_up}
use Rattle.net_model.specs.World.{Network, World}
use Rattle.net_model.specs.Action.{Action}
use Rattle.net_model.specs.BlockOrder.{IsMerge, Done, Next}
use Rattle.run_model.specs.Works.{Work, Works, plain_work}
use Rattle.run_ops.specs.declared.done_block.DoneBlock.{DoneBlock}
use Rattle.run_ops.specs.declared.job.Job.{Job}
use Rattle.run_ops.specs.Jobs.{asked_by}
use Rattle.run_ops.specs.Together.{AreWorks, DoesTogether, LeftTogether}
use Rattle.law_base.proofs.Base.{and_left, eq_from}
use Rattle.law_parallel.proofs.Merging.{in_order_is_a_merge}

-- ---- merges

head_is : {A : Type 0} {x y : A} {xs ys : List A} → (x ∷ xs) ≡ (y ∷ ys) → x ≡ y
head_is h = cc

tail_is : {A : Type 0} {x y : A} {xs ys : List A} → (x ∷ xs) ≡ (y ∷ ys) → xs ≡ ys
tail_is h = cc

no_more : {A : Type 0} (xs : List A) (x : A) (ys : List A) → (xs ++ x ∷ ys) ≡ [] → ⊥
no_more [] x ys h = cc h
no_more (a ∷ xs) x ys h = cc h

none_in : {A : Type 0} (xs : List A) → (length xs == 0) ≡ true → xs ≡ []
none_in [] h = refl
none_in (x ∷ xs) h = let none : length (x ∷ xs) ≡ 0 = eq_from (length (x ∷ xs)) 0 h in absurd (omega (arith, none))

first_none : {A : Type 0} (xs : List A) (parts : List (List A)) → list_all (λ p. length p == 0) parts ≡ true → parts ≡ xs ∷ [] → (length xs == 0) ≡ true
first_none xs [] h is = absurd (cc is)
first_none {A} xs (p ∷ ps) h is = ap (λ (q : List A). length q == 0) (sym (head_is is)) ∙ and_left (length p == 0) (list_all (λ q. length q == 0) ps) h

-- One list alone is merged in its own order.
only : {A : Type 0} (parts : List (List A)) (out xs : List A) → IsMerge parts out → parts ≡ xs ∷ [] → out ≡ xs
only _ _ xs (Done parts none) is = sym (none_in xs (first_none xs parts none is))
only {A} _ _ xs (Next [] after x rest out merged) is =
    ap (λ (l : List A). x ∷ l) (only (rest ∷ after) out rest merged (ap (λ (l : List (List A)). rest ∷ l) (tail_is is))) ∙ head_is is
only _ _ xs (Next (b ∷ before) after x rest out merged) is = absurd (no_more before (x ∷ rest) after (tail_is is))

-- ---- blocks

module _ (net : Network) (workers : ℕ) (some : 1 ≤ workers) (w : World) (jobs : List Job) where
  pub works_of_more : (works : Works) → AreWorks net 1 w jobs works → AreWorks net workers w jobs works
  works_of_more works one = record {
    whole = one.whole;
    block = one.block;
    merged = λ v h at.
        subst (λ (out : List Work). IsMerge (map (λ k. asked_by net.site workers k v 0 jobs) (count_up workers)) out)
        (sym (only (map (λ k. asked_by net.site 1 k v 0 jobs) (count_up 1)) (map plain_work h) (asked_by net.site 1 0 v 0 jobs) (one.merged v h at) refl))
        (in_order_is_a_merge net.site workers v jobs some);
    put = one.put;
  }

  module _ {S : Type 0} (Stands Rests : S → Network → World → Type 0) (Tallied : S → S → Site → List Action → Type 0) (old new : S) where
    pub does_of_more : (done : DoneBlock) → DoesTogether Stands Tallied old new net 1 w jobs done → DoesTogether Stands Tallied old new net workers w jobs done
    does_of_more done one = record { works = one.works; are = works_of_more one.works one.are; turns = one.turns; frames = one.frames; ready = one.ready; tallied = one.tallied }

    pub left_of_more : LeftTogether Rests Tallied old new net 1 w jobs → LeftTogether Rests Tallied old new net workers w jobs
    left_of_more (inl before) = inl before
    left_of_more (inr one) = inr (record { works = one.works; are = works_of_more one.works one.are; rests = one.rests; tallied = one.tallied })
