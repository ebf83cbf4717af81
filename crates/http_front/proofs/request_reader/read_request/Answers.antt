use Rattle.std.proofs.Common.{List, ℕ, sym, ◌∙◌, subst}
use Rattle.http_front.specs.Reading.{IsRead, IsEnough}
use Rattle.http_front.proofs.Answering.{read-meant}
use Rattle.http_front.proofs.Once.{read-once}
use Rattle.http_front.proofs.request_reader.read_request.Goals as goal

pub returns-clause-meaning : goal.returns-clause-meaning
returns-clause-meaning g c =
    read-meant (g.S.Source.left c.args.source.now) (g.S.Source.left c.read_from-result.new.source) c.args.kept.now c.from_vec.result c.read_from-result.result
    (subst (λ (k : List ℕ). IsRead (g.S.Source.left c.args.source.now) (g.S.Source.left c.read_from-result.new.source) c.args.kept.now k c.read_from-result.result) (sym c.from_vec.ensures)
    (subst (λ (k : List ℕ). IsRead (g.S.Source.left c.args.source.now) (g.S.Source.left c.read_from-result.new.source) k c.read_from-result.new.octets.items c.read_from-result.result)
    (c.into_vec-octets.ensures ∙ c.replace.ensures.value) c.read_from-result.ensures.read))

pub returns-clause-one : goal.returns-clause-one
returns-clause-one g c =
    read-once (g.S.Source.left c.args.source.now) (g.S.Source.left c.read_from-result.new.source) c.args.kept.now c.read_from-result.new.octets.items c.read_from-result.result
    (subst (λ (k : List ℕ). IsRead (g.S.Source.left c.args.source.now) (g.S.Source.left c.read_from-result.new.source) k c.read_from-result.new.octets.items c.read_from-result.result)
    (c.into_vec-octets.ensures ∙ c.replace.ensures.value) c.read_from-result.ensures.read)

pub returns-clause-still : goal.returns-clause-still
returns-clause-still g c = λ enough.
    c.read_from-result.ensures.still (subst IsEnough (sym (c.into_vec-octets.ensures ∙ c.replace.ensures.value)) enough)
