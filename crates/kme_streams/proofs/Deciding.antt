-- Steps that follow decisions.
use Rattle.std.proofs.Common.{◌≡◌, ℕ, ◌+◌, ◌*◌, Bool, true, false, not, ◌&&◌, List, [], ◌∷◌, refl, sym, ◌∙◌, ap, subst, Option, Some, None, Result}
use Rattle.std.specs.Prelude.{IfSome, if◌then◌else◌, ◌==◌, reverse}
use Rattle.qkd_base.specs.Name.{Name}
use Rattle.qkd_base.specs.declared.key_name.NameKind.{NameKind}
use Rattle.qkd_base.specs.declared.key_name.NameKind.TheVariants.{Stream as StreamKind, Note as NoteKind}
use Rattle.net_model.specs.declared.fact.Fact.{Fact}
use Rattle.net_model.specs.declared.fact.Fact.TheVariants.{Key, Chunk, Stored, Open, Joined, Part}
use Rattle.net_model.specs.declared.record.Record.TheVariants.{Learned, Handed, Closed}
use Rattle.net_model.specs.declared.reply.Reply.{Reply}
use Rattle.net_model.specs.declared.reply.Reply.TheVariants.{Stream}
use Rattle.net_model.specs.Table.{name_of, bytes_of, was_handed}
use Rattle.net_model.specs.Site.{Site}
use Rattle.net_model.specs.Routes.{route}
use Rattle.net_model.specs.View.{View}
use Rattle.net_model.specs.Decision.{Decision, makes, answers, last_count, fresh_name, is_confirmed}
use Rattle.net_model.specs.Pools.{is_entitled}
use Rattle.net_model.specs.Streams.{is_size, only_status, opened, open_stream, joins, join_stream, stream_here, at_end, gives_chunk, chunk_at, get_chunk, close_stream, has_joined}
use Rattle.stream_core.specs.declared.opened.Opened.{Opened}
use Rattle.stream_core.specs.Kept.{StreamEnds, Sees, opened_of}
use Rattle.kme_base.specs.declared.step.Step.{Step}
use Rattle.kme_streams.specs.Prompt.{IsPromptStep}
use Rattle.kme_streams.specs.Calls.{opening, takes_part, may_join, awaits_peer, is_end, end_status, is_early, gets}

-- a step that follows a decision also follows an equal decision
pub decided : (v : View) (d e : Decision) (r : Result Step Reply) → d ≡ e → IsPromptStep v e r → IsPromptStep v d r
decided v d e r path h = subst (λ (x : Decision). IsPromptStep v x r) (sym path) h

-- new names

pub made_name : (o : Option Name) (test : Bool) (n : Name) (P : Name → Type 0) → o ≡ (if test then Some n else None) → P n → IfSome o P
made_name o true n P e p = subst (λ (x : Option Name). IfSome x P) (sym e) p
made_name o false n P e p = subst (λ (x : Option Name). IfSome x P) (sym e) tt

pub name_seen : (v : View) (s : StreamEnds) → Sees v s → (me last : ℕ) (kind : NameKind) (more : ℕ) → v.me ≡ me → last ≡ last_count s.ends.known.me s.ends.known.facts →
    ◌≡◌ {A = Name} (record { node = me; kind = kind; count = last + 1 + more }) (fresh_name v kind more)
name_seen v s seen me last kind more is count =
    let n = sym is in
    let c = count ∙ ap (λ (m : ℕ). last_count m s.ends.known.facts) (sym seen.ends.me) ∙ ap (last_count v.me) (sym seen.ends.facts) in
    λ i. record { node = n i; kind = kind; count = c i + 1 + more }

-- opening a stream

pub open_shown : (site : Site) (up : ℕ → Bool) (v : View) (source peer bits : ℕ) (entitled sized : Bool) (way : Option (List ℕ)) → entitled ≡ is_entitled site v source source peer → sized ≡ is_size bits →
    way ≡ route site up v.me (site.home peer) →
    open_stream site up v source peer bits ≡ (if not entitled then answers v (only_status 8) else if not sized then answers v (only_status 7) else opened v source peer bits way)
unfolding open_stream
open_shown site up v source peer bits entitled sized way e s w =
    let a = sym e in
    let b = sym s in
    let c = sym w in
    λ i. if not (a i) then answers v (only_status 8) else if not (b i) then answers v (only_status 7) else opened v source peer bits (c i)

pub opened_made : (v : View) (source peer octets : ℕ) (route : List ℕ) (n : Name) (bytes : List ℕ) → n ≡ fresh_name v StreamKind 0 → bytes ≡ [] →
    makes v (Learned (Open (fresh_name v StreamKind 0) source peer octets route) ∷ []) (Stream 1 (Some (fresh_name v StreamKind 0)) 0 [])
    ≡ makes v (Learned (Open n source peer octets route) ∷ []) (Stream 1 (Some n) 0 bytes)
opened_made v source peer octets route n bytes named none =
    let a = sym named in
    let b = sym none in
    λ i. makes v (Learned (Open (a i) source peer octets route) ∷ []) (Stream 1 (Some (a i)) 0 (b i))

-- joining a stream

pub joins_shown : (site : Site) (v : View) (caller other bits : ℕ) (o : Opened) (part may sized : Bool) → part ≡ takes_part v caller o → may ≡ may_join site v caller other o → sized ≡ (8 * o.octets == bits) →
    joins site v caller other bits (Some (opening o)) ≡ (if part then answers v (only_status 5) else if not may then answers v (only_status 8) else if not sized then answers v (only_status 7)
    else makes v (Learned (Joined (fresh_name v NoteKind 0) o.stream (reverse o.route)) ∷ []) (Stream 0 (Some o.stream) 0 []))
joins_shown site v caller other bits o part may sized p m s =
    let a = sym p in
    let b = sym m in
    let c = sym s in
    λ i. if a i then answers v (only_status 5) else if not (b i) then answers v (only_status 8) else if not (c i) then answers v (only_status 7)
    else makes v (Learned (Joined (fresh_name v NoteKind 0) o.stream (reverse o.route)) ∷ []) (Stream 0 (Some o.stream) 0 [])

pub joined_made : (v : View) (stream : Name) (route way : List ℕ) (n : Name) (bytes : List ℕ) → n ≡ fresh_name v NoteKind 0 → way ≡ reverse route → bytes ≡ [] →
    makes v (Learned (Joined (fresh_name v NoteKind 0) stream (reverse route)) ∷ []) (Stream 0 (Some stream) 0 []) ≡ makes v (Learned (Joined n stream way) ∷ []) (Stream 0 (Some stream) 0 bytes)
joined_made v stream route way n bytes named back none =
    let a = sym named in
    let b = sym back in
    let c = sym none in
    λ i. makes v (Learned (Joined (a i) stream (b i)) ∷ []) (Stream 0 (Some stream) 0 (c i))

-- whether the stream is open at this node

pub opened_some : (f : Option Fact) (o : Opened) → Some o ≡ opened_of f → f ≡ Some (opening o)
opened_some (Some (Open stream source peer size route)) o h =
    let is : (record { stream = stream; source = source; peer = peer; octets = size; route = route }) ≡ o = cc in
    ap (λ (x : Opened). Some (opening x)) is
opened_some (Some (Key name master slave route bytes)) o h = cc
opened_some (Some (Chunk name stream index route bytes)) o h = cc
opened_some (Some (Stored note about route)) o h = cc
opened_some (Some (Joined note about route)) o h = cc
opened_some (Some (Part name key master slave route bytes)) o h = cc
opened_some None o h = cc

no_join : (site : Site) (v : View) (caller other bits : ℕ) (f : Option Fact) → ◌≡◌ {A = Option Opened} None (opened_of f) → joins site v caller other bits f ≡ answers v (only_status 9)
no_join site v caller other bits (Some (Open stream source peer size route)) h = cc
no_join site v caller other bits (Some (Key name master slave route bytes)) h = refl
no_join site v caller other bits (Some (Chunk name stream index route bytes)) h = refl
no_join site v caller other bits (Some (Stored note about route)) h = refl
no_join site v caller other bits (Some (Joined note about route)) h = refl
no_join site v caller other bits (Some (Part name key master slave route bytes)) h = refl
no_join site v caller other bits None h = refl

no_end : (site : Site) (v : View) (caller : ℕ) (f : Option Fact) (then' : Name → ℕ → Decision) → ◌≡◌ {A = Option Opened} None (opened_of f) → at_end site v caller f then' ≡ answers v (only_status 9)
no_end site v caller (Some (Open stream source peer size route)) then' h = cc
no_end site v caller (Some (Key name master slave route bytes)) then' h = refl
no_end site v caller (Some (Chunk name stream index route bytes)) then' h = refl
no_end site v caller (Some (Stored note about route)) then' h = refl
no_end site v caller (Some (Joined note about route)) then' h = refl
no_end site v caller (Some (Part name key master slave route bytes)) then' h = refl
no_end site v caller None then' h = refl

-- the tests that get and close make first

faulty_end : (site : Site) (v : View) (caller : ℕ) (o : Opened) (then' : Name → ℕ → Decision) (status : ℕ) → Some status ≡ end_status site v caller o →
    at_end site v caller (Some (opening o)) then' ≡ answers v (only_status status)
faulty_end site v caller o then' status h = by (awaits_peer site v o) (is_end site v caller o) h
  where
    by : (a b : Bool) → Some status ≡ (if a then Some 9 else if not b then Some 8 else None) →
        (if a then answers v (only_status 9) else if not b then answers v (only_status 8) else then' o.stream o.source) ≡ answers v (only_status status)
    by true b e = let is : 9 ≡ status = cc in ap (λ (n : ℕ). answers v (only_status n)) is
    by false false e = let is : 8 ≡ status = cc in ap (λ (n : ℕ). answers v (only_status n)) is
    by false true e = cc

right_end : (site : Site) (v : View) (caller : ℕ) (o : Opened) (then' : Name → ℕ → Decision) → ◌≡◌ {A = Option ℕ} None (end_status site v caller o) →
    at_end site v caller (Some (opening o)) then' ≡ then' o.stream o.source
right_end site v caller o then' h = by (awaits_peer site v o) (is_end site v caller o) h
  where
    by : (a b : Bool) → ◌≡◌ {A = Option ℕ} None (if a then Some 9 else if not b then Some 8 else None) →
        (if a then answers v (only_status 9) else if not b then answers v (only_status 8) else then' o.stream o.source) ≡ then' o.stream o.source
    by true b e = cc
    by false false e = cc
    by false true e = refl

module _ (site : Site) (v : View) (stream : Name) where
  module _ (caller other bits : ℕ) where
    pub join_none : ◌≡◌ {A = Option Opened} None (opened_of (stream_here site v stream)) → join_stream site v caller other stream bits ≡ answers v (only_status 9)
    unfolding join_stream
    join_none h = no_join site v caller other bits (stream_here site v stream) h

    pub join_some : (o : Opened) → Some o ≡ opened_of (stream_here site v stream) → join_stream site v caller other stream bits ≡ joins site v caller other bits (Some (opening o))
    unfolding join_stream
    join_some o h = ap (joins site v caller other bits) (opened_some (stream_here site v stream) o h)

  module _ (caller index : ℕ) where
    pub get_none : ◌≡◌ {A = Option Opened} None (opened_of (stream_here site v stream)) → get_chunk site v caller stream index ≡ answers v (only_status 9)
    unfolding get_chunk
    get_none h = no_end site v caller (stream_here site v stream) _ h

    pub get_faulty : (o : Opened) (status : ℕ) → Some o ≡ opened_of (stream_here site v stream) → Some status ≡ end_status site v caller o → get_chunk site v caller stream index ≡ answers v (only_status status)
    unfolding get_chunk
    get_faulty o status h e =
        ap (λ (f : Option Fact). at_end site v caller f (λ s source. if (caller == source) && not (has_joined v s) then answers v (only_status 3) else gives_chunk v caller index (caller == source) (chunk_at v s index)))
        (opened_some (stream_here site v stream) o h)
        ∙ faulty_end site v caller o (λ s source. if (caller == source) && not (has_joined v s) then answers v (only_status 3) else gives_chunk v caller index (caller == source) (chunk_at v s index)) status e

    pub get_right : (o : Opened) → Some o ≡ opened_of (stream_here site v stream) → ◌≡◌ {A = Option ℕ} None (end_status site v caller o) → get_chunk site v caller stream index ≡ gets v caller index o
    unfolding get_chunk
    get_right o h e =
        ap (λ (f : Option Fact). at_end site v caller f (λ s source. if (caller == source) && not (has_joined v s) then answers v (only_status 3) else gives_chunk v caller index (caller == source) (chunk_at v s index)))
        (opened_some (stream_here site v stream) o h)
        ∙ right_end site v caller o (λ s source. if (caller == source) && not (has_joined v s) then answers v (only_status 3) else gives_chunk v caller index (caller == source) (chunk_at v s index)) e

  module _ (caller : ℕ) where
    pub close_none : ◌≡◌ {A = Option Opened} None (opened_of (stream_here site v stream)) → close_stream site v caller stream ≡ answers v (only_status 9)
    unfolding close_stream
    close_none h = no_end site v caller (stream_here site v stream) _ h

    pub close_faulty : (o : Opened) (status : ℕ) → Some o ≡ opened_of (stream_here site v stream) → Some status ≡ end_status site v caller o → close_stream site v caller stream ≡ answers v (only_status status)
    unfolding close_stream
    close_faulty o status h e =
        ap (λ (f : Option Fact). at_end site v caller f (λ s source. makes v (Closed s caller ∷ []) (only_status 0))) (opened_some (stream_here site v stream) o h)
        ∙ faulty_end site v caller o (λ s source. makes v (Closed s caller ∷ []) (only_status 0)) status e

    pub close_right : (o : Opened) → Some o ≡ opened_of (stream_here site v stream) → ◌≡◌ {A = Option ℕ} None (end_status site v caller o) →
        close_stream site v caller stream ≡ makes v (Closed o.stream caller ∷ []) (only_status 0)
    unfolding close_stream
    close_right o h e =
        ap (λ (f : Option Fact). at_end site v caller f (λ s source. makes v (Closed s caller ∷ []) (only_status 0))) (opened_some (stream_here site v stream) o h)
        ∙ right_end site v caller o (λ s source. makes v (Closed s caller ∷ []) (only_status 0)) e

-- getting a chunk at an end

pub gets_shown : (v : View) (caller index : ℕ) (o : Opened) (early at_source : Bool) (chunk : Option Fact) → early ≡ is_early v caller o → at_source ≡ (caller == o.source) → chunk ≡ chunk_at v o.stream index →
    gets v caller index o ≡ (if early then answers v (only_status 3) else gives_chunk v caller index at_source chunk)
gets_shown v caller index o early at_source chunk e a c =
    let x = sym e in
    let y = sym a in
    let z = sym c in
    λ i. if x i then answers v (only_status 3) else gives_chunk v caller index (y i) (z i)

pub gives_shown : (v : View) (caller index : ℕ) (at_source : Bool) (f : Fact) (got held : Bool) → got ≡ was_handed v.handed (name_of f) caller → held ≡ (at_source && not (is_confirmed v (name_of f))) →
    gives_chunk v caller index at_source (Some f) ≡ (if got then answers v (only_status 10) else if held then answers v (only_status 2)
    else makes v (Handed (name_of f) caller ∷ []) (Stream 0 None index (bytes_of f)))
gives_shown v caller index at_source f got held g h =
    let x = sym g in
    let y = sym h in
    λ i. if x i then answers v (only_status 10) else if y i then answers v (only_status 2) else makes v (Handed (name_of f) caller ∷ []) (Stream 0 None index (bytes_of f))

pub handed_made : (v : View) (caller index : ℕ) (f : Fact) (n : Name) (bytes : List ℕ) → n ≡ name_of f → bytes ≡ bytes_of f →
    makes v (Handed (name_of f) caller ∷ []) (Stream 0 None index (bytes_of f)) ≡ makes v (Handed n caller ∷ []) (Stream 0 None index bytes)
handed_made v caller index f n bytes named same =
    let a = sym named in
    let b = sym same in
    λ i. makes v (Handed (a i) caller ∷ []) (Stream 0 None index (b i))

pub closed_made : (v : View) (caller : ℕ) (stream : Name) (bytes : List ℕ) → bytes ≡ [] → makes v (Closed stream caller ∷ []) (only_status 0) ≡ makes v (Closed stream caller ∷ []) (Stream 0 None 0 bytes)
closed_made v caller stream bytes none = ap (λ (b : List ℕ). makes v (Closed stream caller ∷ []) (Stream 0 None 0 b)) (sym none)
