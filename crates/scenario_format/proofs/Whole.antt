-- The lines of a whole text, up to `end`, are the spelling of its scenario.
use Rattle.std.proofs.Common.{◌≡◌, ◌∙◌, ℕ, Bool, List, [], ◌∷◌, ◌++◌, Option, None, refl, sym, ap, subst, append-nil, append_assoc}
use Rattle.std.specs.Prelude.{map, not}
use Rattle.std.specs.List.{flat_map}
use Rattle.std.specs.Str.{bytes_eq}
use Rattle.std.proofs.Math.Path.{fun_ext}
use lib.Chars.{codes}
use Rattle.sae_entitlements.specs.Grants.{Sae}
use Rattle.declared_site.specs.declared.site.Site.{Site}
use Rattle.run_types.specs.declared.line.Line.{Line}
use Rattle.run_types.specs.declared.entry.Entry.{Entry}
use Rattle.run_types.specs.declared.scenario.Scenario.{Scenario}
use Rattle.scenario_text.specs.declared.reading.Reading.{Reading}
use Rattle.scenario_text.specs.Words.{Word}
use Rattle.scenario_text.specs.Line.{is_declaration}
use Rattle.scenario_text.specs.Text.{scenario_in}
use Rattle.scenario_format.specs.Form.{Said, numbers, words, of_kind, behind_declarations, is_asking, asking, declared, names_of, in_order, pair_lines, is_allowed_in, form}
use Rattle.scenario_format.specs.Spelled.{node_line, link_lines, sae_line, may, site_lines, entry_lines, numbers_in, lines_of}
use Rattle.scenario_format.proofs.FirstWords.{more, kept_words, same_numbers}
use Rattle.scenario_format.proofs.Declarations.{IsSite, other_line}
use Rattle.scenario_format.proofs.LineForms.{open_lines, open_numbers, IsSaid}

-- What holds for the lines of a text and for its scenario, once the text is read to its end.
pub record IsSpelling (all : List Said) (s : Scenario) : Type 0 where
  pub lines : form all ≡ lines_of s
  pub nodes : numbers (of_kind (codes "node") all) ≡ s.node_lines
  pub asked : numbers (asking all) ≡ flat_map numbers_in s.entries

node_names : (names : List Word) → map declared (map node_line names) ≡ names
node_names [] = refl
node_names (name ∷ names) = ap (λ (xs : List Word). name ∷ xs) (node_names names)

sae_names : (site : Site) (saes : List Sae) → map declared (map (sae_line site) saes) ≡ map (λ (sae : Sae). sae.id) saes
sae_names site [] = refl
sae_names site (sae ∷ saes) = ap (λ (xs : List Word). sae.id ∷ xs) (sae_names site saes)

same_pair_lines : (f g : Word → Word → Bool) (ids : List Word) → ((m s : Word) → f m s ≡ g m s) → pair_lines f ids ≡ pair_lines g ids
same_pair_lines f g ids same =
    let tests : f ≡ g = fun_ext (λ m. let here : f m ≡ g m = fun_ext (λ s. same m s) in here) in
    ap (λ (h : Word → Word → Bool). pair_lines h ids) tests

-- The declarations among the lines are the spelling of the site.
site_form : (site : Site) (lines : List Said) → IsSite site lines →
    words (of_kind (codes "node") lines)
    ++ map (in_order (names_of (codes "node") lines)) (words (of_kind (codes "link") lines))
    ++ words (of_kind (codes "sae") lines)
    ++ pair_lines (is_allowed_in lines) (names_of (codes "sae") lines)
    ≡ site_lines site
site_form site lines h =
    let nodes : names_of (codes "node") lines ≡ site.nodes = ap (map declared) h.nodes ∙ node_names site.nodes in
    let none : site.nodes ++ [] ≡ site.nodes = append-nil site.nodes in
    let links : map (in_order site.nodes) (words (of_kind (codes "link") lines)) ≡ flat_map (link_lines site) site.routes =
    subst (λ (ns : List Word). map (in_order ns) (words (of_kind (codes "link") lines)) ≡ flat_map (link_lines (record site { nodes = ns })) site.routes) none (h.links []) in
    let saes : words (of_kind (codes "sae") lines) ≡ map (sae_line site) site.entitlements.saes =
    subst (λ (ns : List Word). words (of_kind (codes "sae") lines) ≡ map (sae_line (record site { nodes = ns })) site.entitlements.saes) none (h.saes []) in
    let ids : names_of (codes "sae") lines ≡ map (λ (sae : Sae). sae.id) site.entitlements.saes = ap (map declared) saes ∙ sae_names site site.entitlements.saes in
    let pairs : pair_lines (is_allowed_in lines) (names_of (codes "sae") lines) ≡ pair_lines (may site.entitlements) (map (λ (sae : Sae). sae.id) site.entitlements.saes) =
    ap (pair_lines (is_allowed_in lines)) ids ∙ same_pair_lines (is_allowed_in lines) (may site.entitlements) (map (λ (sae : Sae). sae.id) site.entitlements.saes) h.pairs in
    four h.nodes (ap (λ (ns : List Word). map (in_order ns) (words (of_kind (codes "link") lines))) nodes ∙ links) saes pairs
  where
    four : {a b c d e f g k : List (List Word)} → a ≡ e → b ≡ f → c ≡ g → d ≡ k → a ++ b ++ c ++ d ≡ e ++ f ++ g ++ k
    four p q r s = cc

-- With `end` behind them, the lines are those of the whole scenario.
behind_last : (site : Site) (all : List Entry) (b : Option (List Line)) (xs : List (List Word)) → b ≡ None → xs ≡ flat_map (entry_lines site) all ++ open_lines site b → xs ++ (codes "end" ∷ []) ∷ [] ≡ flat_map (entry_lines site) all ++ (codes "end" ∷ []) ∷ []
behind_last site all b xs none is =
    ap (λ (ys : List (List Word)). ys ++ (codes "end" ∷ []) ∷ []) (is ∙ ap (λ (o : Option (List Line)). flat_map (entry_lines site) all ++ open_lines site o) none ∙ append-nil (flat_map (entry_lines site) all))

pub ended : (r : Reading) (lines : List Said) (n : ℕ) → r.block ≡ None → IsSaid r lines → IsSpelling (more lines n (codes "end") []) (scenario_in r)
ended r lines n none h =
    let all = more lines n (codes "end") [] in
    let behind = kept_words (λ w. not (is_declaration w)) lines n (codes "end") [] refl ∙ behind_last r.site r.entries r.block (words (behind_declarations lines)) none h.others in
    record {
      lines =
          ap (λ (xs : List (List Word)). xs ++ words (behind_declarations all)) (site_form r.site all (other_line r.site lines n (codes "end") [] refl h.site))
          ∙ ap (λ (xs : List (List Word)). site_lines r.site ++ xs) behind
          ∙ sym (append_assoc (site_lines r.site) (flat_map (entry_lines r.site) r.entries) ((codes "end" ∷ []) ∷ []));
      nodes = same_numbers (λ w. bytes_eq w (codes "node")) lines n (codes "end") [] refl ∙ h.node_numbers;
      asked =
          same_numbers is_asking lines n (codes "end") [] refl ∙ h.asked ∙ ap (λ (o : Option (List Line)). flat_map numbers_in r.entries ++ open_numbers o) none
          ∙ append-nil (flat_map numbers_in r.entries);
    }
