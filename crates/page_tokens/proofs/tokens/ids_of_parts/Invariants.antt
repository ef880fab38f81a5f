use Rattle.std.proofs.Common.{map, take}
use Rattle.page_tokens.specs.Tokens.{NameIds}
use Rattle.page_tokens.proofs.tokens.ids_of_parts.Given as goal

abbrev pub invariant-parts : goal.invariant-parts
invariant-parts l = NameIds (map (λ p. p.now) (take l.part-index l.parts)) l.ids.items
