-- What a reader adds to a list that it is handed.
use Rattle.std.specs.Prelude.{◌≡◌, ◌∷◌, ◌++◌, [], ℕ, List, Option, Some}
use Rattle.json_decimal.specs.Number.{Number}
use Rattle.json_tree.specs.Values.{Members}
use Rattle.dtdl_terms.specs.TermViews.{kind_term}
use Rattle.dtdl_terms.specs.declared.common.Common.{Common}
use Rattle.dtdl_terms.specs.declared.content.Content.{Content}
use Rattle.dtdl_terms.specs.declared.content.ContentKind.{ContentKind}
use Rattle.local_rules.specs.declared.role.Element.{Element}
use Rattle.local_rules.specs.declared.role.Position.{Position}
use Rattle.local_rules.specs.Declarations.{AreKind}
use Rattle.local_rules.specs.Typed.{type_of_kind}

-- One more stands at the end, and this holds of it.
pub record Gains {A : Type 0} (P : A → Type 0) (before after : List A) : Type 0 where
  pub one : A
  pub items : after ≡ before ++ one ∷ []
  pub is : P one

-- One more content stands at the end, of this name and with this of what every element may have; its kind is what the
-- members declare, and of this type.
pub record GainsKind (p : Position) (typed : Option Element) (ms : Members Number) (n : List ℕ) (c : Common) (before after : List Content) : Type 0 where
  pub kind : ContentKind
  pub items : after ≡ before ++ record { name = n; common = c; kind = kind } ∷ []
  pub are : AreKind p (kind_term kind) ms
  pub named : typed ≡ Some (type_of_kind (kind_term kind))
