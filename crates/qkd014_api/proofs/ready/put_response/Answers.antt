use Rattle.std.proofs.Common.{◌≡◌, ◌++◌, ℕ, List, [], length, codes, decimal, refl, sym, ap, ◌∙◌}
use Rattle.std.proofs.lemmas.List.{nil_from_length}
use Rattle.http_front.specs.Response.{status_text, connection_text}
use Rattle.qkd014_api.proofs.ready.put_response.Goals as goal

-- one more part behind those before it
more : (old new part done its : List ℕ) → new ≡ old ++ part → old ≡ done → part ≡ its → new ≡ done ++ its
more old new part done its added was is = added ∙ ap (λ (t : List ℕ). t ++ part) was ∙ ap (λ (t : List ℕ). done ++ t) is

pub returns : goal.returns
unfolding status_text
returns c =
    let none : c.args.text.now.items ≡ [] = nil_from_length c.args.text.now.items (sym c.args.text.now.ok.0 ∙ c.requires.blank) in
    let name = more _ _ _ _ (codes "HTTP/1.1 ") c.put.ensures.items none refl in
    let status = more _ _ _ _ (decimal 200) c.put-2.ensures.items name (c.as_bytes.ensures.value ∙ c.format.ensures.text) in
    let space = more _ _ _ _ (codes " ") c.put-3.ensures.items status refl in
    let reason = more _ _ _ _ (codes "OK") c.put-4.ensures.items space refl in
    let line = more _ _ _ _ (codes "\r\n") c.put-5.ensures.items reason refl in
    let kind = more _ _ _ _ (codes "Content-Type: application/json\r\nContent-Length: ") c.put-6.ensures.items line refl in
    let size = more _ _ _ _ (decimal (length c.args.body.now)) c.put-7.ensures.items kind (c.as_bytes-2.ensures.value ∙ c.format-2.ensures.text) in
    let field = more _ _ _ _ (codes "\r\nConnection: ") c.put-8.ensures.items size refl in
    let close = more _ _ _ _ (connection_text c.args.close) c.put-9.ensures.items field c.connection.ensures.value in
    let end = more _ _ _ _ (codes "\r\n\r\n") c.put-10.ensures.items close refl in
    more _ _ _ _ c.args.body.now c.put-11.ensures.items end refl
