-- The replies of the greeting fit their fields.
use Rattle.std.proofs.Common.{◌≡◌, ℕ, ◌<◌, ◌^◌, ℤ, List, [], ◌∷◌, length, Option, Some, None, IfSome, codes, lit<, subst, sym, ap, ◌∙◌, ◌++◌}
use Rattle.std.proofs.lemmas.List.Elements.{All-cons, All-nil}
use Rattle.kb_wire.specs.Codec.{string, nullable_string, blob, array, int}
use Rattle.kb_wire.specs.Fits.{string_fits, array_fits, nullable_string_fits, null_string_fits, blob_fits}
use Rattle.kb_api_group.specs.Layouts.{sasl_handshake_reply, sasl_authenticate_reply}

plain_fits : (array string).Fits (codes "PLAIN" ∷ [])
plain_fits = array_fits string (codes "PLAIN" ∷ []) (lit< tt) (All-cons string.Fits (codes "PLAIN") [] (string_fits (codes "PLAIN") (lit< tt)) (All-nil string.Fits))

-- the mechanism PLAIN alone
pub handshake_fits : (code : ℤ) (old new : List (List ℕ)) (item : List ℕ) → old ≡ [] → item ≡ codes "PLAIN" → new ≡ old ++ item ∷ [] → sasl_handshake_reply.Fits (record { error_code = code; mechanisms = new })
unfolding sasl_handshake_reply int
handshake_fits code old new item none plain is =
    let one : codes "PLAIN" ∷ [] ≡ new = sym (is ∙ ap (λ xs. xs ++ item ∷ []) none ∙ ap (λ x. x ∷ []) plain) in
    (tt, subst (array string).Fits one plain_fits)

text_fits : (message : Option (List ℕ)) → IfSome message (λ text. length text < 2 ^ 15) → nullable_string.Fits message
text_fits None short = null_string_fits
text_fits (Some text) short = nullable_string_fits text short

-- a text of at most 32767 bytes, and no bytes
pub authenticate_fits : (code : ℤ) (message : Option (List ℕ)) (auth : List ℕ) → IfSome message (λ text. length text < 2 ^ 15) → auth ≡ [] → sasl_authenticate_reply.Fits (record { error_code = code; error_message = message; auth_bytes = auth })
unfolding sasl_authenticate_reply int
authenticate_fits code message auth short is = (tt, (text_fits message short, subst blob.Fits (sym is) (blob_fits [] (lit< tt))))
