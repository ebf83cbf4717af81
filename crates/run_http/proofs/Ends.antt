-- The test of octets says that a text ends inside a target exactly if it does.
use Rattle.std.proofs.Common.{◌≡◌, ◌<◌, ℕ, Bool, true, false, ◌&&◌, ◌||◌, eqb, List, [], ◌∷◌, ◌++◌, length, refl, sym, ap, ◌∙◌, arith, append_assoc}
use Rattle.std.specs.Prelude.{if◌then◌else◌}
use Rattle.std.specs.List.{list_all}
use Rattle.std.proofs.lemmas.Bool.{and_parts, eqb-true, false≢true, ne_eqb}
use Rattle.std.proofs.lemmas.List.Sums.{AllPass-from_list_all, list_all-from_AllPass}
use Rattle.std.proofs.lemmas.List.Elements.{All-nil, All-cons, All-head, All-tail}
use Rattle.httparse.specs.Grammar.{is_token_byte, is_uri_byte, AllPass, LineEnd, crlf, lf, print_blank, EndsInTarget}
use Rattle.httparse.proofs.PieceLemmas.{space_ends_token}
use Rattle.run_http.specs.LineEnds.{behind_line_ends, opens_target}

-- ---- line ends

-- The text is line ends, followed by this line.
abbrev Before : List ℕ → List ℕ → Type 0
Before text rest = (ends : List LineEnd) × (text ≡ print_blank ends ++ rest)

last_end : (b : ℕ) (t u : Bool) → eqb b 10 ≡ t → Before (b ∷ []) (if t || (u && false) then [] else b ∷ [])
last_end b true u is = let same = eqb-true b 10 is in (lf ∷ [], ap (λ (n : ℕ). n ∷ []) same)
last_end b false true is = ([], refl)
last_end b false false is = ([], refl)

skips : (c : ℕ) (more : List ℕ) → eqb c 10 ≡ true → behind_line_ends (c ∷ more) ≡ behind_line_ends more
skips c more is = rw is refl

first_end : (b c : ℕ) (more : List ℕ) → Before (c ∷ more) (behind_line_ends (c ∷ more)) → Before more (behind_line_ends more) → (t u w : Bool) → eqb b 10 ≡ t → eqb b 13 ≡ u → eqb c 10 ≡ w →
    Before (b ∷ c ∷ more) (if t || (u && w) then behind_line_ends (c ∷ more) else b ∷ c ∷ more)
first_end b c more p q true u w t_is u_is w_is =
    let same = eqb-true b 10 t_is in
    (lf ∷ p.0, ap (λ (n : ℕ). n ∷ c ∷ more) same ∙ ap (λ (t : List ℕ). 10 ∷ t) p.1)
first_end b c more p q false true true t_is u_is w_is =
    let cr = eqb-true b 13 u_is in
    let lf_is = eqb-true c 10 w_is in (
      crlf ∷ q.0,
      ap (λ (n : ℕ). n ∷ c ∷ more) cr ∙ ap (λ (n : ℕ). 13 ∷ n ∷ more) lf_is ∙ ap (λ (t : List ℕ). 13 ∷ 10 ∷ t) q.1
          ∙ ap (λ (t : List ℕ). print_blank (crlf ∷ q.0) ++ t) (sym (skips c more w_is)),
    )
first_end b c more p q false true false t_is u_is w_is = ([], refl)
first_end b c more p q false false w t_is u_is w_is = ([], refl)

ends_before : (text : List ℕ) → Before text (behind_line_ends text)
ends_before [] = ([], refl)
ends_before (b ∷ []) = last_end b (eqb b 10) (eqb b 13) refl
ends_before (b ∷ c ∷ more) = first_end b c more (ends_before (c ∷ more)) (ends_before more) (eqb b 10) (eqb b 13) (eqb c 10) refl refl refl

behind_ends : (ends : List LineEnd) (b : ℕ) (rest : List ℕ) → eqb b 10 ≡ false → eqb b 13 ≡ false → behind_line_ends (print_blank ends ++ b ∷ rest) ≡ b ∷ rest
behind_ends [] b rest no_lf no_cr = rw (no_lf, no_cr) refl
behind_ends (crlf ∷ ends) b rest no_lf no_cr = behind_ends ends b rest no_lf no_cr
behind_ends (lf ∷ ends) b rest no_lf no_cr = behind_ends ends b rest no_lf no_cr

-- ---- a method and a target

opened : (some : Bool) (m u : List ℕ) → AllPass is_token_byte m → AllPass is_uri_byte u → (some ≡ false → 0 < length m) → opens_target some (m ++ 32 ∷ u) ≡ true
opened true [] u method target long = rw (space_ends_token, list_all-from_AllPass is_uri_byte u target) refl
opened false [] u method target long = absurd (let less = long refl in omega (arith, less))
opened some (b ∷ m) u method target long =
    let here : is_token_byte b ≡ true = All-head (λ v. is_token_byte v ≡ true) b m method in
    rw here (opened true m u (All-tail (λ v. is_token_byte v ≡ true) b m method) target (λ wrong. absurd (false≢true (sym wrong))))

-- a line's method and its target
record IsOpened (some : Bool) (line : List ℕ) : Type 0 where
  method : List ℕ
  target : List ℕ
  token : AllPass is_token_byte method
  octets : AllPass is_uri_byte target
  is : line ≡ method ++ 32 ∷ target
  long : some ≡ false → 0 < length method

at_space : (some : Bool) (b : ℕ) (line : List ℕ) → (some && eqb b 32 && list_all is_uri_byte line) ≡ true → IsOpened some (b ∷ line)
at_space true b line h =
    let parts = and_parts (eqb b 32) (list_all is_uri_byte line) h in
    let space = eqb-true b 32 parts.0 in
    record {
      method = [];
      target = line;
      token = All-nil (λ v. is_token_byte v ≡ true);
      octets = AllPass-from_list_all is_uri_byte line parts.1;
      is = ap (λ (n : ℕ). n ∷ line) space;
      long = λ wrong. absurd (false≢true (sym wrong));
    }
at_space false b line h = absurd (false≢true h)

at_octet : (t some : Bool) (b : ℕ) (line : List ℕ) → is_token_byte b ≡ t → (opens_target true line ≡ true → IsOpened true line) →
    (if t then opens_target true line else some && eqb b 32 && list_all is_uri_byte line) ≡ true → IsOpened some (b ∷ line)
at_octet true some b line token again h =
    let rest = again h in
    record {
      method = b ∷ rest.method;
      target = rest.target;
      token = All-cons (λ v. is_token_byte v ≡ true) b rest.method token rest.token;
      octets = rest.octets;
      is = ap (λ (t : List ℕ). b ∷ t) rest.is;
      long = λ none. omega arith;
    }
at_octet false some b line other again h = at_space some b line h

parts_of : (some : Bool) (line : List ℕ) → opens_target some line ≡ true → IsOpened some line
parts_of some [] e = absurd (false≢true e)
parts_of some (b ∷ line) e = at_octet (is_token_byte b) some b line refl (parts_of true line) e

-- ---- line ends, a method and a target together

pub opens_is : (text : List ℕ) → opens_target false (behind_line_ends text) ≡ true → EndsInTarget text
opens_is text e =
    let ends = ends_before text in
    let line = parts_of false (behind_line_ends text) e in (
      ends.0,
      line.method,
      line.target,
      (line.long refl, line.token),
      line.octets,
      ends.1 ∙ ap (λ (t : List ℕ). print_blank ends.0 ++ t) line.is ∙ sym (append_assoc (print_blank ends.0) line.method (32 ∷ line.target)),
    )

no_line_end : (b : ℕ) → is_token_byte b ≡ true → (eqb b 10 ≡ false) × (eqb b 13 ≡ false)
unfolding is_token_byte
no_line_end b token = (
  ne_eqb b 10 (λ e. false≢true (ap is_token_byte (sym e) ∙ token)),
  ne_eqb b 13 (λ e. false≢true (ap is_token_byte (sym e) ∙ token)),
)

is_opened : (ends : List LineEnd) (method target : List ℕ) → 0 < length method → AllPass is_token_byte method → AllPass is_uri_byte target →
    opens_target false (behind_line_ends (print_blank ends ++ (method ++ 32 ∷ target))) ≡ true
is_opened ends [] target some token octets = absurd (omega (arith, some))
is_opened ends (b ∷ method) target some token octets =
    let none = no_line_end b (All-head (λ v. is_token_byte v ≡ true) b method token) in
    ap (opens_target false) (behind_ends ends b (method ++ 32 ∷ target) none.0 none.1) ∙ opened false (b ∷ method) target token octets (λ is. some)

pub is_opens : (text : List ℕ) → EndsInTarget text → opens_target false (behind_line_ends text) ≡ true
is_opens text h =
    ap (λ (t : List ℕ). opens_target false (behind_line_ends t)) (h.5 ∙ append_assoc (print_blank h.0) h.1 (32 ∷ h.2)) ∙ is_opened h.0 h.1 h.2 h.3.0 h.3.1 h.4
