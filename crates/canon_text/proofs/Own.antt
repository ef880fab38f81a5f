-- Records whose parts have identifiers of their own.
use Rattle.std.proofs.Common.{List, [], ◌∷◌}
use Rattle.std.specs.List.{AllByRecursion}
use Rattle.dtdl_terms.specs.TermViews.{payload_term, payloads_term, content_term, contents_term}
use Rattle.dtdl_terms.specs.declared.schema.Payload.{Payload}
use Rattle.dtdl_terms.specs.declared.content.Content.{Content}
use Rattle.canon_text.specs.Identified.{PayloadIsIdentified, PayloadsAreIdentified, ContentIsIdentified, ContentsAreIdentified}

pub own_payloads : (ps : List Payload) → AllByRecursion (λ p. PayloadIsIdentified (payload_term p)) ps → PayloadsAreIdentified (payloads_term ps)
own_payloads [] h = tt
own_payloads (p ∷ ps) h = (h.0, own_payloads ps h.1)

pub own_contents : (cs : List Content) → AllByRecursion (λ c. ContentIsIdentified (content_term c)) cs → ContentsAreIdentified (contents_term cs)
own_contents [] h = tt
own_contents (c ∷ cs) h = (h.0, own_contents cs h.1)
