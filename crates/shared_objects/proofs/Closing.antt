-- Turnstiles are closed one by one, beginning with the last.
use Rattle.std.proofs.Common.{◌≡◌, List, [], ◌∷◌, ◌++◌, length, arith, reverse, sym, ap, subst, ◌∙◌, append_assoc}
use Rattle.std.proofs.lemmas.List.{append-nil, reverse-append}
use Rattle.std.specs.List.{AllZip}
use Rattle.turnstile.specs.declared.machine.Machine.{Ghosts}
use Rattle.turnstile.specs.declared.turnstile.Turnstile.{Turnstile}
use Rattle.shared_objects.specs.declared.pass.Post.{Post}
use Rattle.shared_objects.specs.Seats.{HoldsAll, Ends, EndAll, Closes}

reverse_cons : {X : Type 0} (x : X) (xs : List X) → reverse (x ∷ xs) ≡ reverse xs ++ x ∷ []
reverse_cons x xs = reverse-append (x ∷ []) xs

module _ {M Q A C : Type 0} {g : Ghosts M Q A C} (turn : M → Q → A → M → Type 0) where
  -- The turnstiles closed so far are the last ones, and their machines are appended to those before.
  pub record SoFar (all : List (Turnstile M Q A C)) (kept : List (Post M Q A C g)) (before : List M) (ts : List (Turnstile M Q A C)) (ps : List (Post M Q A C g)) (ms : List M) : Type 0 where
    pub closed : List (Turnstile M Q A C)
    pub posts : List (Post M Q A C g)
    pub ended : List M
    pub turnstiles_are : all ≡ ts ++ closed
    pub posts_are : kept ≡ ps ++ posts
    pub ends : EndAll turn closed posts ended
    pub behind : ms ≡ before ++ reverse ended

  pub none_closed : (all : List (Turnstile M Q A C)) (kept : List (Post M Q A C g)) (before : List M) → SoFar all kept before all kept before
  none_closed all kept before = record { closed = []; posts = []; ended = []; turnstiles_are = sym (append-nil all); posts_are = sym (append-nil kept); ends = tt; behind = sym (append-nil before) }

  pub one_closed : (all : List (Turnstile M Q A C)) (kept : List (Post M Q A C g)) (before : List M) (ts ts' : List (Turnstile M Q A C)) (ps ps' : List (Post M Q A C g)) (ms ms' : List M)
      (t : Turnstile M Q A C) (p : Post M Q A C g) (m : M) → SoFar all kept before ts ps ms → ts ≡ ts' ++ t ∷ [] → ps ≡ ps' ++ p ∷ [] → ms' ≡ ms ++ m ∷ [] → Ends turn t p m → SoFar all kept before ts' ps' ms'
  one_closed all kept before ts ts' ps ps' ms ms' t p m far et ep em end = record {
    closed = t ∷ far.closed;
    posts = p ∷ far.posts;
    ended = m ∷ far.ended;
    turnstiles_are = far.turnstiles_are ∙ ap (λ (x : List (Turnstile M Q A C)). x ++ far.closed) et ∙ append_assoc ts' (t ∷ []) far.closed;
    posts_are = far.posts_are ∙ ap (λ (x : List (Post M Q A C g)). x ++ far.posts) ep ∙ append_assoc ps' (p ∷ []) far.posts;
    ends = (end, far.ends);
    behind = em ∙ ap (λ (x : List M). x ++ m ∷ []) far.behind ∙ append_assoc before (reverse far.ended) (m ∷ []) ∙ ap (λ (x : List M). before ++ x) (sym (reverse_cons m far.ended));
  }

  pub all_closed : (all : List (Turnstile M Q A C)) (kept : List (Post M Q A C g)) (before after : List M) (ts : List (Turnstile M Q A C)) (ps : List (Post M Q A C g)) → length ts ≡ 0 → AllZip HoldsAll ts ps →
      SoFar all kept before ts ps after → Closes turn all kept before after
  all_closed all kept before after [] [] e h far = record {
    ended = far.ended;
    ends = subst (λ (x : List (Turnstile M Q A C)). EndAll turn x kept far.ended) (sym far.turnstiles_are) (subst (λ (x : List (Post M Q A C g)). EndAll turn far.closed x far.ended) (sym far.posts_are) far.ends);
    behind = far.behind;
  }
  all_closed all kept before after [] (p ∷ ps) e h far = absurd h
  all_closed all kept before after (t ∷ ts) ps e h far = absurd (omega arith)
