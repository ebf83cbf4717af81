-- The empty declaration is a site, and doing nothing is a run with a headline.
use Rattle.std.proofs.Common.{◌≡◌, inl, ℕ, ◌+◌, ◌<◌, ◌≤◌, true, List, [], ◌++◌, length, refl, sym, subst, Some, None, arith}
use Rattle.std.specs.Prelude.{is_some}
use Rattle.std.specs.FinSet.{contains-empty}
use Rattle.std.proofs.lemmas.List.Sums.{count_by-le-length}
use Rattle.net_model.specs.OctetSequence.{OctetSequence}
use Rattle.net_model.specs.Sealing.{Sealing, IsSealing}
use Rattle.net_model.specs.Premises.{IsSite, IsNetwork}
use Rattle.net_model.specs.World.{first}
use Rattle.net_model.specs.Faults.{armings}
use Rattle.net_model.specs.Step.{run, is_run, IsRun}
use Rattle.route_table.specs.Table.{no_links}
use Rattle.sae_entitlements.specs.Pair.{pair_cmp}
use Rattle.declared_site.specs.SiteOf.{site_of, links_in}
use Rattle.run_model.specs.Report.{report, actions_of}
use Rattle.run_model.specs.Left.{wire_octets}
use Rattle.run_model.specs.Turn.{HttpTexts}
use Rattle.run_model.specs.Begin.{MayBegin}
use Rattle.run_model.specs.Bench.{DiskBatches}
use Rattle.run_model.specs.Course.{Course, Run, whole_run, IsCourseOf}
use Rattle.run_model.specs.Keys.{KeysAndBytes}
use Rattle.run_model.specs.Headline.{Headline, Done, report_pieces}
use Rattle.law_base.proofs.Base.{not_both}
use Rattle.law_run.specs.Nothing.{nothing_declared, nothing_asked, untouched, given_nothing}

none_linked : (l : ℕ) → l < links_in no_links → ⊥
none_linked l h = let none : links_in no_links ≡ 0 = refl in omega (arith, h, none)

none_allowed : (a b : ℕ) → (site_of nothing_declared).allowed a b ≡ true → ⊥
none_allowed a b h = not_both ((site_of nothing_declared).allowed a b) h (contains-empty pair_cmp (a, b))

is_site : IsSite (site_of nothing_declared)
is_site =
    let counted = count_by-le-length is_some no_links in
    let size : length no_links ≡ 32 = refl in
    record {
      nodes = omega arith;
      links = omega (arith, counted, size);
      ends = λ l h. absurd (none_linked l h);
      single = λ l k h g x y. absurd (none_linked l h);
      pairs = λ a b h. absurd (none_allowed a b h);
    }

abbrev zeros : OctetSequence
zeros = record { octet = λ i. 0; end = None }

abbrev pub course : Sealing → Course
course sealing = record { net = record { site = site_of nothing_declared; sealing = sealing; device = λ link. zeros; entropy = λ v. zeros }; begin = first; done = []; served = [] }

pub is_network : (sealing : Sealing) → IsSealing sealing → IsNetwork (course sealing).net
is_network sealing f = record { site = is_site; sealing = f; devices = λ l i. omega arith; entropies = λ v i. omega arith }

pub runs : (sealing : Sealing) → IsRun (course sealing).net first (whole_run (course sealing))
unfolding actions_of is_run
runs sealing = refl

some_same : {A : Type 0} (x y : A) → Some x ≡ Some y → x ≡ y
some_same x y h = cc

nothing_more : {A : Type 0} (before : List A) → Some [] ≡ Some before → Some [] ≡ Some (before ++ [])
nothing_more {A = A} before e = subst (λ (xs : List A). Some [] ≡ Some (xs ++ [])) (some_same [] before e) refl

none_below : (v : ℕ) → v < 0 → ⊥
none_below v h = omega (arith, h)

is_course : (sealing : Sealing) (http : HttpTexts) → IsSealing sealing → MayBegin (course sealing).net first → IsCourseOf (Run 1) http nothing_asked (course sealing)
is_course sealing http f begins =
    record {
      network = is_network sealing f;
      begins = begins;
      scenario_is = tt;
      site = refl;
      lines = tt;
      served = refl;
      steps = runs sealing;
    }

pub headline : (sealing : Sealing) (http : HttpTexts) (reading : DiskBatches) → IsSealing sealing → MayBegin (course sealing).net first → KeysAndBytes (course sealing) → Headline (Run 1) Done http reading nothing_asked untouched given_nothing given_nothing (course sealing)
unfolding report report_pieces actions_of run first wire_octets armings
headline sealing http reading f begins keys =
    record {
      run = is_course sealing http f begins;
      reported = (refl, record { octets = nothing_more; pieces = nothing_more });
      wires = λ l frames e. sym (some_same [] frames e);
      disks = λ v h blank. absurd (none_below v h);
      other_disks = λ v h. refl;
      left = λ v octets rest e k. cc;
      keys = keys;
      disk_faults = λ v. refl;
      entropy_faults = λ v. refl;
      device_faults = λ link. refl;
      wire_faults = λ l. refl;
      armed = λ v. (refl, refl);
    }
