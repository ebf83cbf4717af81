-- Lists of names and of applications, read word by word.
use Rattle.std.proofs.Common.{◌≡◌, ℕ, ◌≤◌, ◌+◌, ◌++◌, Bool, true, false, ◌&&◌, List, [], ◌∷◌, length, Option, Some, None, refl, ap, sym, ◌∙◌, arith, append-nil, eqb}
use Rattle.std.specs.Prelude.{nat_le}
use Rattle.std.proofs.lemmas.Bool.Decides.{nat_tests}
use Rattle.declared_site.specs.declared.site.Site.{Site}
use Rattle.scenario_text.specs.Words.{Word, first_of}
use Rattle.scenario_text.specs.Commanding.{names_of, few_names_of, slaves_after, group_of}
use Rattle.qkd_base.specs.Name.{Name}

-- these names, followed by those that the other words spell
abbrev pub after_names : List Name → Option (List Name) → Option (List Name)
after_names front None = None
after_names front (Some names) = Some (front ++ names)

none_left : (ws : List Word) → first_of ws ≡ None → ws ≡ []
none_left [] h = refl
none_left (w ∷ ws) h = absurd cc

within : (least n most : ℕ) → least ≤ n → n ≤ most → (nat_le least n && nat_le n most) ≡ true
within least n most low high = grind (arith, nat_tests)

-- all of the words are names
pub names_all : (ws left : List Word) (names : List Name) → first_of left ≡ None → after_names names (names_of left) ≡ names_of ws → length names + length left ≡ length ws → 1 ≤ length names → length names ≤ 128 → few_names_of ws ≡ Some names
unfolding few_names_of
names_all ws left names none means count some short =
    let gone = none_left left none in
    let size : length ws ≡ length names = omega (arith, count, ap length gone) in
    let fits : (nat_le 1 (length ws) && nat_le (length ws) 128) ≡ true = within 1 (length ws) 128 (omega (arith, size, some)) (omega (arith, size, short)) in
    let all : names_of ws ≡ Some names = sym (rw gone at means) ∙ ap (λ (ns : List Name). Some ns) (append-nil names) in
    rw (fits, all) refl

pub slaves_all : (site : Site) (ws left : List Word) (slaves : List ℕ) → first_of left ≡ None → slaves_after site slaves left ≡ slaves_after site [] ws → length slaves + length left ≡ length ws → 2 ≤ length slaves → length slaves ≤ 5 → group_of site ws ≡ Some slaves
unfolding group_of
slaves_all site ws left slaves none means count some short =
    let gone = none_left left none in
    let size : length ws ≡ length slaves = omega (arith, count, ap length gone) in
    let fits : (nat_le 2 (length ws) && nat_le (length ws) 5) ≡ true = within 2 (length ws) 5 (omega (arith, size, some)) (omega (arith, size, short)) in
    let all : slaves_after site [] ws ≡ Some slaves = sym (rw gone at means) in
    rw (fits, all) refl

pub some_there : (b : Bool) (n : ℕ) → b ≡ eqb n 0 → b ≡ false → 1 ≤ n
some_there b n is none = grind (arith, nat_tests)
