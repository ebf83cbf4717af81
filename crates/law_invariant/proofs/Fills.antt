-- Filling a pool makes new keys of an entitled pair.
use Rattle.std.proofs.Common.{not, ◌≡◌, ℕ, zero, suc, ◌+◌, ◌/◌, ◌<◌, Bool, true, List, refl, sym, ◌∙◌, subst, arith, Option, Some, None, take, drop}
use Rattle.std.specs.Prelude.{nat_lt}
use Rattle.std.specs.List.{list_all}
use Rattle.qkd_base.specs.declared.key_name.NameKind.TheVariants.{Key as KeyKind}
use Rattle.qkd_base.specs.declared.lane.Lane.{Lane}
use Rattle.net_model.specs.declared.fact.Fact.{Fact}
use Rattle.net_model.specs.declared.fact.Fact.TheVariants.{Key}
use Rattle.net_model.specs.declared.record.Record.TheVariants.{Learned}
use Rattle.net_model.specs.declared.reply.Reply.TheVariants.{MadeKeys}
use Rattle.net_model.specs.Facts.{IsSize}
use Rattle.net_model.specs.Site.{Site}
use Rattle.net_model.specs.World.{Durable, Allocation, Transmission}
use Rattle.net_model.specs.Records.{apply_record}
use Rattle.net_model.specs.Invariant.{Invariant}
use Rattle.net_model.specs.Doubt.{MayReplay}
use Rattle.net_model.specs.Decision.{last_count, fresh_name}
use Rattle.net_model.specs.Pools.{new_keys, filled, fill, unhanded, is_entitled}
use Rattle.net_model.specs.Streams.{is_size}
use Rattle.net_model.specs.Routes.{route}
use Rattle.net_model.specs.Premises.{IsSite, IsAllowed}
use Rattle.net_model.specs.View.{View}
use Rattle.net_model.specs.Handle.{is_numbered}
use Rattle.law_base.proofs.Base.{and_left, and_right}
use Rattle.law_base.specs.Shown.{IsRouteBetween}
use Rattle.law_base.proofs.Shortest.{route_is}
use Rattle.law_base.proofs.Seen.{Sees}
use Rattle.law_invariant.proofs.Supply.{Supply, bytes_len, bytes_octets, size_is}
use Rattle.law_invariant.proofs.Made.{IsBelow, is_below, below_more, made_may}
use Rattle.law_invariant.specs.Only.{Only}
use Rattle.law_invariant.proofs.Only.{only_makes, only_either, IsMine, entitled_is, fresh_is}

new_keys_may : (s : Site) (d : Durable) (see : View) (octet : ℕ → ℕ) (place m t size more n : ℕ) (nodes random : List ℕ) → see.me < 16 → IsAllowed s m t →
    s.allowed m t ≡ true → s.home m ≡ see.me → IsRouteBetween see.me (s.home t) nodes → IsSize size → ((i : ℕ) → octet i < 256) → Supply octet place size n random →
    IsBelow d see.me (last_count see.me see.facts + more) → list_all is_numbered (new_keys see m t nodes size random more n) ≡ true →
    MayReplay s d see.me (new_keys see m t nodes size random more n)
new_keys_may s d see octet place m t size more zero nodes random node ok allowed at r big small from b numbered = tt
new_keys_may s d see octet place m t size more (suc n) nodes random node ok allowed at r big small from b numbered =
    let f : Fact = Key (fresh_name see KeyKind more) m t nodes (take size random) in
    let c : ℕ = last_count see.me see.facts + more in
    let next : (fresh_name see KeyKind more).count ≡ c + 1 = omega arith in
    let above : c < (fresh_name see KeyKind more).count = omega arith in
    let again : c + 1 ≡ last_count see.me see.facts + (more + 1) = omega arith in
    let named = and_left (is_numbered (Learned f)) (list_all is_numbered (new_keys see m t nodes size (drop size random) (more + 1) n)) numbered in
    let rest = and_right (is_numbered (Learned f)) (list_all is_numbered (new_keys see m t nodes size (drop size random) (more + 1) n)) numbered in (
      made_may s d see.me c f refl above b (record {
        formed = (refl, subst IsSize (sym (bytes_len octet place size (take size random) from.0)) big);
        ranged = (fresh_is see KeyKind more node named, ok.first_number, ok.last_number, r.route, bytes_octets octet small place size (take size random) from.0);
        starts = r.starts;
        entitled = record { allowed = allowed; from = r.starts ∙ sym at; to = r.ends };
        note = tt;
        next = λ stream index e. cc;
        part = λ p e. cc;
        unhanded = λ p e. cc;
      }),
      new_keys_may s (apply_record s see.me (Learned f) d) see octet (place + size) m t size (more + 1) n nodes (drop size random) node ok allowed at r big small from.1
          (subst (λ (x : ℕ). IsBelow (apply_record s see.me (Learned f) d) see.me x) again (below_more s d see.me c f next (λ p e. cc) b)) rest,
    )

module _ (s : Site) (d : Durable) (frames : Lane → List Allocation) (unclaimed : Lane → List Transmission) (inv : Invariant s d frames unclaimed) (see bare : View)
    (h : Sees s d see bare) (site : IsSite s) (here : see.me < s.nodes) where
  filled_may : (octet : ℕ → ℕ) (place m t bits count : ℕ) (random : List ℕ) (o : Option (List ℕ)) → is_size bits ≡ true → IsMine s see m m t →
      ((i : ℕ) → octet i < 256) → Supply octet place (bits / 8) count random → ((nodes : List ℕ) → o ≡ Some nodes → IsRouteBetween see.me (s.home t) nodes) →
      Only s d see (filled see m t bits count random o)
  filled_may octet place m t bits count random None big ok small from r = tt
  filled_may octet place m t bits count random (Some nodes) big ok small from r =
      only_either s d see (nat_lt 4096 (unhanded see m t bits + count)) _ _ (λ e. tt) (λ e.
      only_makes s d see (new_keys see m t nodes (bits / 8) random 0 count) (MadeKeys count (fresh_name see KeyKind 0)) (λ numbered.
      let zero' : last_count see.me see.facts ≡ last_count see.me see.facts + 0 = omega arith in
      new_keys_may s d see octet place m t (bits / 8) 0 count nodes random (omega (arith, here, site.nodes)) (site.pairs m t ok.allowed) ok.allowed ok.home (r nodes refl)
      (size_is bits big) small from (subst (λ (x : ℕ). IsBelow d see.me x) zero' (is_below s d frames unclaimed inv see bare h)) numbered))

  pub fill_may : (up : ℕ → Bool) (octet : ℕ → ℕ) (place m t bits count : ℕ) (random : List ℕ) → is_size bits ≡ true → ((i : ℕ) → octet i < 256) →
      Supply octet place (bits / 8) count random → Only s d see (fill s up see m t bits count random)
  unfolding fill
  fill_may up octet place m t bits count random big small from =
      only_either s d see (not (is_entitled s see m m t)) _ _ (λ e. tt) (λ e.
      filled_may octet place m t bits count random (route s up see.me (s.home t)) big (entitled_is s see m m t e) small from
      (λ nodes y. route_is s up see.me (s.home t) nodes site.nodes here y))
