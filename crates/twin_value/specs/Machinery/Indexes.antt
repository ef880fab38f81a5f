-- Indexes by names.
use Rattle.std.specs.Prelude.{◌≡◌, ℕ, List, [], Option, Some, None, unwrap_or, if◌then◌else◌}
use Rattle.std.specs.Borrow.{Bor}
use Rattle.std.specs.List.{find}
use Rattle.std.specs.Option.{option_map}
use Rattle.std.specs.Ordering.{nat_cmp}
use Rattle.std.specs.Cmp.Lexicographic.{slice_cmp}
use Rattle.std.specs.BTreeMap.{BTreeMap, get_by}
use Rattle.dt_base.specs.names.Grammar.{dtmi_text}
use Rattle.dtdl_terms.specs.declared.schema.Schema.{Schema}
use Rattle.dtdl_terms.specs.declared.resolved.NamedIn.{NamedIn}
use Rattle.twin_value.specs.Named.{is_called}

-- The item, where it has this name.
abbrev pub is_there : {T : Type 0} → List ℕ → Option (List ℕ) → T → Option T
is_there q name x = if is_called q name then Some x else None

-- Each name leads to the first item that has it.
abbrev pub IsIndexByName : {T : Type 0} → (T → Option (List ℕ)) → List T → BTreeMap (Bor (List ℕ)) (Bor T) → Type 0
IsIndexByName {T} key xs index = (q : List ℕ)
    → option_map (λ (x : Bor T). x.now) (get_by (λ (k : Bor (List ℕ)). slice_cmp nat_cmp q k.now) index) ≡ find (λ (x : T). is_called q (key x)) xs

-- Each interface's identifier leads to the schemas of the first that has it.
abbrev pub AreSchemas : List NamedIn → BTreeMap (Bor (List ℕ)) (List Schema) → Type 0
AreSchemas ns schemas = (q : List ℕ)
    → get_by (λ (k : Bor (List ℕ)). slice_cmp nat_cmp q k.now) schemas ≡ option_map (λ (n : NamedIn). n.schemas) (find (λ (n : NamedIn). is_called q (Some (dtmi_text n.of))) ns)

-- The same where an identifier that leads nowhere is that of an interface without schemas, or of none.
abbrev pub LeadsToSchemas : List NamedIn → BTreeMap (Bor (List ℕ)) (List Schema) → Type 0
LeadsToSchemas ns schemas = (q : List ℕ)
    → unwrap_or (get_by (λ (k : Bor (List ℕ)). slice_cmp nat_cmp q k.now) schemas) [] ≡ unwrap_or (option_map (λ (n : NamedIn). n.schemas) (find (λ (n : NamedIn). is_called q (Some (dtmi_text n.of))) ns)) []
