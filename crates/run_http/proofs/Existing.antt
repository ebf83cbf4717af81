-- All the octets of a connection can be read as something.
use Rattle.std.proofs.Common.{◌≡◌, ◌<◌, ℕ, Bool, true, false, List, [], ◌∷◌, ◌++◌, length, take, drop, Option, Some, None, Result, Ok, Err, refl, sym, ap, ◌∙◌, subst, arith, codes, append-nil, length-append, length-take, inl, inr}
use Rattle.std.specs.Prelude.{if◌then◌else◌, nat_lt, nat_le}
use Rattle.std.specs.Str.{bytes_eq}
use Rattle.std.proofs.lemmas.Bool.{false≢true, ltb-true, ltb-false}
use Rattle.std.proofs.lemmas.List.{take-append-drop, take_all, length-take-le}
use Rattle.httparse.specs.Grammar.{RequestHead, print_request, ReadsRequest, EndsInTarget}
use Rattle.httparse.proofs.GrammarLemmas.{request_unique, ReadsRequest-append}
use Rattle.httparse.proofs.PieceLemmas.{NotYet_elim, Never_elim}
use Rattle.http_front.specs.Fields.{Pair, values_of, decimal_of}
use Rattle.http_front.specs.Front.{HasHead, HasNoHead, MayBecomeHead, fields_of, length_at, length_in, framing_of, closes, IsFramedAs, IsRefused}
use Rattle.http_front.specs.Reading.{IsDecided}
use Rattle.http_front.specs.declared.refusal.FrontRefusal.{FrontRefusal}
use Rattle.http_front.specs.declared.refusal.FrontRefusal.TheVariants as refusals
use Rattle.run_http.specs.LineEnds.{behind_line_ends, opens_target}
use Rattle.run_http.specs.Reading.{IsReadable, cut_short}
use Rattle.run_http.proofs.Ends.{opens_is, is_opens}
use Rattle.run_http.proofs.Cut.{in_front, cut_read}
use Rattle.run_http.proofs.Looks.{Look, found, cut, never}
use Rattle.run_http.proofs.Heads.{Short, look_head}

-- ---- refusals of a body

abbrev IsFraming : FrontRefusal → Type 0
IsFraming refusals.Chunked = Unit {0}
IsFraming refusals.NoLength = Unit {0}
IsFraming refusals.BadLength = Unit {0}
IsFraming refusals.BodyTooLong = Unit {0}
IsFraming _ = ⊥

abbrev IsFramingIf : Result ℕ FrontRefusal → Type 0
IsFramingIf (Ok n) = Unit {0}
IsFramingIf (Err e) = IsFraming e

at_length : (o : Option ℕ) → IsFramingIf (length_at o)
at_length None = tt
at_length (Some n) = by_test (nat_le n 65536)
  where
    by_test : (b : Bool) → IsFramingIf (if b then Ok n else Err refusals.BodyTooLong)
    by_test true = tt
    by_test false = tt

in_length : (posts : Bool) (values : List (List ℕ)) → IsFramingIf (length_in posts values)
in_length true [] = tt
in_length false [] = tt
in_length true (v ∷ []) = at_length (decimal_of v)
in_length false (v ∷ []) = at_length (decimal_of v)
in_length true (v ∷ w ∷ vs) = tt
in_length false (v ∷ w ∷ vs) = tt

of_framing : (method : List ℕ) (fields : List Pair) → IsFramingIf (framing_of method fields)
of_framing method fields = by_test (nat_lt 0 (length (values_of (codes "transfer-encoding") fields)))
  where
    by_test : (b : Bool) → IsFramingIf (if b then Err refusals.Chunked else length_in (bytes_eq method (codes "POST")) (values_of (codes "content-length") fields))
    by_test true = tt
    by_test false = in_length (bytes_eq method (codes "POST")) (values_of (codes "content-length") fields)

framed_refused : (octets : List ℕ) (e : FrontRefusal) → IsFraming e → IsFramedAs octets e → IsRefused octets e × IsDecided (Err e)
framed_refused octets refusals.NoRequest is framed = absurd is
framed_refused octets refusals.BadHead is framed = absurd is
framed_refused octets refusals.TooManyHeaders is framed = absurd is
framed_refused octets refusals.HeadTooLong is framed = absurd is
framed_refused octets refusals.Chunked is framed = (framed, tt)
framed_refused octets refusals.NoLength is framed = (framed, tt)
framed_refused octets refusals.BadLength is framed = (framed, tt)
framed_refused octets refusals.BodyTooLong is framed = (framed, tt)
framed_refused octets refusals.EndOfInput is framed = absurd is
framed_refused octets refusals.ReadFault is framed = absurd is
framed_refused octets refusals.Memory is framed = absurd is

-- ---- octets that don't end inside a target

module _ (octets : List ℕ) (ends : ¬ (EndsInTarget (take 8193 octets))) where
  at_head : (head : RequestHead) (rest : List ℕ) → HasHead octets head rest → (f : Result ℕ FrontRefusal) → framing_of head.method (fields_of head) ≡ f → IsFramingIf f → IsReadable octets
  at_head head rest has (Err e) framed is =
      let refused = framed_refused octets e is (head, rest, has, framed) in
      (Err e, record { may = refused.0; short = λ open_target. absurd (ends open_target) }, refused.1)
  at_head head rest has (Ok n) framed is = by_size (nat_lt (length rest) n) refl
    where
      by_size : (b : Bool) → nat_lt (length rest) n ≡ b → IsReadable octets
      by_size true less = (
        Err refusals.EndOfInput,
        record { may = inr (head, rest, n, has, framed, ltb-true (length rest) n less); short = λ open_target. absurd (ends open_target) },
        tt,
      )
      by_size false enough =
          let size : length (take n rest) ≡ n = length-take-le n rest (ltb-false (length rest) n enough) in (
            Ok (record { method = head.method; target = head.target; fields = fields_of head; body = take n rest; close = closes head.minor (fields_of head) }),
            record {
              may = (
                drop n rest,
                record {
                  head = head;
                  has = subst (HasHead octets head) (sym (take-append-drop n rest)) has;
                  method = refl;
                  target = refl;
                  fields = refl;
                  framed = framed ∙ ap Ok (sym size);
                  close = refl;
                },
              );
              short = λ open_target. absurd (ends open_target);
            },
            tt,
          )

  begun : HasNoHead octets → MayBecomeHead (take 8193 octets) → IsReadable octets
  begun none front = by_size (nat_lt 8192 (length octets)) refl
    where
      some : (xs : List ℕ) → xs ≡ octets → nat_lt 8192 (length octets) ≡ false → IsReadable octets
      some [] is short = (Err refusals.NoRequest, record { may = sym is; short = λ open_target. absurd (ends open_target) }, tt)
      some (x ∷ xs) is short =
          let few = ltb-false 8192 (length octets) short in
          let size = ap length is in
          let whole : take 8193 octets ≡ octets = take_all 8193 octets (omega (arith, few)) in (
            Err refusals.EndOfInput,
            record {
              may = inl (record { some = omega (arith, size); short = few; none = none; front = inl (subst MayBecomeHead whole front) });
              short = λ open_target. absurd (ends open_target);
            },
            tt,
          )

      by_size : (b : Bool) → nat_lt 8192 (length octets) ≡ b → IsReadable octets
      by_size true long = (
        Err refusals.HeadTooLong,
        record { may = record { long = ltb-true 8192 (length octets) long; none = none; front = inl front }; short = λ open_target. absurd (ends open_target) },
        tt,
      )
      by_size false short = some octets refl short

  -- A head of more than 8,192 octets is all of the first 8,193.
  too_long : (head : RequestHead) (rest : List ℕ) → Short head (take 8193 octets) rest → 8192 < length (print_request head) → IsReadable octets
  too_long head [] h long = begun none ([], head, record { reads = subst (λ (t : List ℕ). ReadsRequest t head []) (sym (append-nil (take 8193 octets))) h.0; few = h.1 })
    where
      none : HasNoHead octets
      none other rest has =
          let front = in_front octets other rest has in
          let same = ap (λ (k : RequestHead). length (print_request k)) (request_unique (take 8193 octets) head other [] front.0 h.0 front.1).0 in
          let short = has.short in
          omega (arith, same, short, long)
  too_long head (b ∷ rest) h long =
      let size = ap length h.0.1 ∙ length-append (print_request head) (b ∷ rest) in
      let front = length-take 8193 octets in
      absurd (omega (arith, size, front, long))

  at_look : Look Short (take 8193 octets) → IsReadable octets
  at_look (found head rest h) = by_size (nat_lt 8192 (length (print_request head))) refl
    where
      by_size : (b : Bool) → nat_lt 8192 (length (print_request head)) ≡ b → IsReadable octets
      by_size true long = too_long head rest h (ltb-true 8192 (length (print_request head)) long)
      by_size false short =
          at_head head (rest ++ drop 8193 octets) (record {
            reads = subst (λ (t : List ℕ). ReadsRequest t head (rest ++ drop 8193 octets)) (take-append-drop 8193 octets) (ReadsRequest-append (take 8193 octets) head rest (drop 8193 octets) h.0);
            few = h.1;
            short = ltb-false 8192 (length (print_request head)) short;
          }) (framing_of head.method (fields_of head)) refl (of_framing head.method (fields_of head))
  at_look (cut none c) =
      begun (λ head rest has. let front = in_front octets head rest has in NotYet_elim none (head, front.0, (front.1, has.few)))
      (c.more ++ [], c.tree, record { reads = (c.reads []).0; few = (c.reads []).1 })
  at_look (never none) = (
    Err refusals.BadHead,
    record {
      may = record {
        none = λ head rest has.
            let front = in_front octets head rest has in
            Never_elim none [] (head, front.0 ++ [], (ReadsRequest-append (take 8193 octets) head front.0 [] front.1, has.few));
        never = λ may. Never_elim none may.0 (may.1, [], (may.2.reads, may.2.few));
      };
      short = λ open_target. absurd (ends open_target);
    },
    tt,
  )

cut_decided : (long : Bool) → IsDecided (Err (if long then refusals.HeadTooLong else refusals.EndOfInput))
cut_decided true = tt
cut_decided false = tt

pub readable : (octets : List ℕ) → IsReadable octets
readable octets = by_test (opens_target false (behind_line_ends (take 8193 octets))) refl
  where
    by_test : (b : Bool) → opens_target false (behind_line_ends (take 8193 octets)) ≡ b → IsReadable octets
    by_test true opens = (Err (cut_short octets), cut_read octets (opens_is (take 8193 octets) opens), cut_decided (nat_lt 8192 (length octets)))
    by_test false other =
        let ends : ¬ (EndsInTarget (take 8193 octets)) = λ h. false≢true (sym other ∙ is_opens (take 8193 octets) h) in
        at_look octets ends (look_head (take 8193 octets) ends)
