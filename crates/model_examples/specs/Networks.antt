-- Short forms of sites, networks, names and lanes.
use Rattle.std.specs.Prelude.{ℕ, zero, suc, ◌+◌, ◌==◌, ◌&&◌, List, [], ◌∷◌, length, replicate, Some}
use Rattle.std.specs.List.{list_any}
use Rattle.qkd_base.specs.Name.{Name}
use Rattle.qkd_base.specs.declared.lane.Lane.{Lane}
use Rattle.qkd_base.specs.declared.lane.Way.{Way}
use Rattle.qkd_base.specs.declared.key_name.NameKind.{NameKind}
use Rattle.qkd_base.specs.declared.key_name.NameKind.TheVariants.{Key, Stream, Note}
use Rattle.net_model.specs.declared.counts.Counts4.{Counts4}
use Rattle.net_model.specs.declared.reply.Reply.TheVariants.{BadTag}
use Rattle.net_model.specs.Facts.{payload_len}
use Rattle.net_model.specs.Site.{Site}
use Rattle.net_model.specs.OctetSequence.{sequence_of}
use Rattle.net_model.specs.Sealing.{Sealing, Rejected, Forged}
use Rattle.net_model.specs.World.{Network}

abbrev pub nth : {A : Type 0} → A → List A → ℕ → A
nth a [] n = a
nth a (x ∷ xs) zero = x
nth a (x ∷ xs) (suc n) = nth a xs n

-- a site: the number of nodes, the low and the high end of each link, the home of each application, the allowed pairs
abbrev pub site : ℕ → List ℕ → List ℕ → List ℕ → List (ℕ × ℕ) → Site
site nodes low high home allowed =
    record {
      nodes = nodes;
      links = length low;
      low = nth 0 low;
      high = nth 0 high;
      home = nth 0 home;
      allowed = λ m s. list_any (λ (p : ℕ × ℕ). (p.0 == m) && (p.1 == s)) allowed;
    }

-- frames that show their offset and are otherwise zeros; no other octets have a valid tag
abbrev pub plain_frames : Sealing
plain_frames =
    record {
      seal = λ l bytes offset p. offset ∷ replicate (payload_len p + 23) 0;
      unseal = λ l bytes octets. Rejected (BadTag (length octets) (length bytes));
    }

-- a network whose devices tell zeros, as many as a link may have, and whose entropies tell these lists
abbrev pub network : Site → List (List ℕ) → Network
network s entropies =
    record {
      site = s;
      sealing = plain_frames;
      device = λ l. record { octet = λ i. 0; end = Some 1048576 };
      entropy = λ v. sequence_of (nth [] entropies v);
    }

abbrev pub lane : ℕ → Way → Lane
lane link way = record { link = link; way = way }

abbrev pub a_name : ℕ → NameKind → ℕ → Name
a_name node kind count = record { node = node; kind = kind; count = count }

abbrev pub counts : ℕ → ℕ → ℕ → ℕ → Counts4
counts got unused spent burnt = record { received = got; unused = unused; spent = spent; burnt = burnt }

-- `more` octets counted up from n: n, n + 1, ..
abbrev pub octets_on : ℕ → ℕ → List ℕ
octets_on n zero = []
octets_on n (suc more) = n ∷ octets_on (n + 1) more

abbrev pub key : ℕ → Name
key n = a_name 0 Key n

abbrev pub note : ℕ → ℕ → Name
note v n = a_name v Note n

abbrev pub stream : ℕ → Name
stream n = a_name 0 Stream n

-- A and B with one link, the application 0 at A and 1 at B, which may share keys
abbrev pub two_nodes : List ℕ → Network
two_nodes octets = network (site 2 (0 ∷ []) (1 ∷ []) (0 ∷ 1 ∷ []) ((0, 1) ∷ [])) (octets ∷ [])

-- A, B and C in a row, the application 0 at A and 1 at C
abbrev pub three_in_line : List ℕ → Network
three_in_line octets = network (site 3 (0 ∷ 1 ∷ []) (1 ∷ 2 ∷ []) (0 ∷ 2 ∷ []) ((0, 1) ∷ [])) (octets ∷ [])

-- two nodes, with a third application at B
abbrev pub with_third : List ℕ → Network
with_third octets = network (site 2 (0 ∷ []) (1 ∷ []) (0 ∷ 1 ∷ 1 ∷ []) ((0, 1) ∷ [])) (octets ∷ [])

-- A with a link to B and one to C, and an application at each; the one at A may share keys with both
abbrev pub two_spokes : List ℕ → Network
two_spokes octets = network (site 3 (0 ∷ 0 ∷ []) (1 ∷ 2 ∷ []) (0 ∷ 1 ∷ 2 ∷ []) ((0, 1) ∷ (0, 2) ∷ [])) (octets ∷ [])

-- two nodes, with both slaves at B
abbrev pub one_spoke : List ℕ → Network
one_spoke octets = network (site 2 (0 ∷ []) (1 ∷ []) (0 ∷ 1 ∷ 1 ∷ []) ((0, 1) ∷ (0, 2) ∷ [])) (octets ∷ [])

-- two nodes whose receivers accept every tag
abbrev pub trusting : List ℕ → Network
trusting octets = record (two_nodes octets) { sealing = record plain_frames { unseal = λ l bytes frame. Forged 0 } }

-- two nodes whose device tells two blocks and most of a third
abbrev pub short_device : List ℕ → Network
short_device octets = record (two_nodes octets) { device = λ l. record { octet = λ i. 0; end = Some 3071 } }
