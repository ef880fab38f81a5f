-- Payloads and contents beside their names, as terms and as records.
use Rattle.std.proofs.Common.{◌≡◌, ℕ, List, [], ◌∷◌, map, refl, ap}
use Rattle.json_tree.specs.Values.{Json}
use Rattle.dtdl_terms.specs.TermViews.{payloads_term, contents_term}
use Rattle.dtdl_terms.specs.declared.schema.Payload.{Payload}
use Rattle.dtdl_terms.specs.declared.content.Content.{Content}
use Rattle.canon_text.specs.Canonical.{payload_pairs, content_pairs}
use Rattle.canon_text.specs.Machinery.Pairs.{payload_named, content_named}

pub named_payloads : (ps : List Payload) → payload_pairs (payloads_term ps) ≡ map payload_named ps
named_payloads [] = refl
named_payloads (p ∷ ps) = ap (λ (ms : List (List ℕ × Json)). payload_named p ∷ ms) (named_payloads ps)

pub named_contents : (cs : List Content) → content_pairs (contents_term cs) ≡ map content_named cs
named_contents [] = refl
named_contents (c ∷ cs) = ap (λ (ms : List (List ℕ × Json)). content_named c ∷ ms) (named_contents cs)
