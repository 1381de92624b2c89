-- The scripts that a reply makes known.
use Rattle.std.specs.Prelude.{ℕ, Bool, if◌then◌else◌, List, [], ◌∷◌, ◌++◌, flat_map}
use Rattle.std.specs.List.{list_any}
use Rattle.html_types.specs.Text.{same_text}
use Rattle.html_types.specs.declared.attributes.Attribute.{Attribute}
use Rattle.html_types.specs.declared.name.Name.{Name}
use Rattle.html_types.specs.declared.name.Name.TheVariants.{Known}
use Rattle.html_types.specs.declared.word.Word.TheVariants as word
use Rattle.html_types.specs.declared.operation.Op.{Op}
use Rattle.html_types.specs.declared.operation.Op.TheVariants.{Make}
use Rattle.standard.specs.Prepare.{Prepared, external, prepared_with}
use Rattle.serial.specs.Scripts.{is_lawful}
use Rattle.core_definitions.specs.Batches.{Batch}

-- the name, where it is fetched from a file
abbrev pub wanted_by : Prepared → List (List ℕ)
wanted_by (external src) = if is_lawful src then src ∷ [] else []
wanted_by _ = []

-- An element of this name and with these attributes that is a script of its own file. Whether it stands in the document when it ends, and whether
-- it has text, isn't known yet.
abbrev pub wanted_of : Name → List Attribute → List (List ℕ)
wanted_of (Known word.Script) attributes = wanted_by (prepared_with attributes [])
wanted_of _ attributes = []

abbrev pub wanted_in : Op → List (List ℕ)
wanted_in (Make id name attributes) = wanted_of name attributes
wanted_in _ = []

abbrev pub is_listed : List ℕ → List (List ℕ) → Bool
is_listed name names = list_any (λ other. same_text other name) names

-- behind these names those of the others that aren't listed yet, each once
abbrev pub firsts : List (List ℕ) → List (List ℕ) → List (List ℕ)
firsts listed [] = listed
firsts listed (name ∷ names) = firsts (if is_listed name listed then listed else listed ++ name ∷ []) names

-- in the order of the operations, each once
abbrev pub names_of : List Batch → List (List ℕ)
names_of batches = firsts [] (flat_map wanted_in (flat_map (λ (b : Batch). b.ops) batches))
