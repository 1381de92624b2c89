-- Whether a script runs when its end tag is met (4.12.1.1 #script-processing-model, prepare the
-- script element), on the tree as it is then.
use Rattle.std.specs.Prelude.{ℕ, Bool, true, false, not, ◌&&◌, ◌||◌, if◌then◌else◌, ◌-◌, is_some, List, [], ◌∷◌, length, map, take, drop, codes, Option, Some, None}
use Rattle.std.specs.Char.{is_ascii_whitespace, to_ascii_lowercase}
use Rattle.std.specs.List.{list_any, prefix_len, suffix_len}
use Prim.Native.String.{String}
use Rattle.html_types.specs.Text.{same_text}
use Rattle.html_types.specs.declared.attributes.Attribute.{Attribute}
use Rattle.standard.specs.Tree.{Nodes, kind_of, attributes_of, attribute, is_connected, script_text}

pub data Prepared : Type 0 where
  still : Prepared
  -- its text
  inline : List ℕ → Prepared
  -- its `src`
  external : List ℕ → Prepared

-- the JavaScript MIME type essences
abbrev pub javascript_types : List String
javascript_types =
    "application/ecmascript" ∷ "application/javascript" ∷ "application/x-ecmascript" ∷ "application/x-javascript"
    ∷ "text/ecmascript" ∷ "text/javascript" ∷ "text/javascript1.0" ∷ "text/javascript1.1" ∷ "text/javascript1.2"
    ∷ "text/javascript1.3" ∷ "text/javascript1.4" ∷ "text/javascript1.5" ∷ "text/jscript" ∷ "text/livescript"
    ∷ "text/x-ecmascript" ∷ "text/x-javascript" ∷ []

-- without the ASCII white space that it begins with
abbrev pub strip_start : List ℕ → List ℕ
strip_start text = drop (prefix_len is_ascii_whitespace text) text

-- and without that it ends with
abbrev pub strip : List ℕ → List ℕ
strip text = let rest = strip_start text in take (length rest - suffix_len is_ascii_whitespace rest) rest

abbrev pub is_type : List ℕ → String → Bool
is_type text name = same_text (map to_ascii_lowercase (strip text)) (codes name)

-- no `type`, an empty one, or one of the list, whatever the case of its letters
abbrev pub is_javascript : Option (List ℕ) → Bool
is_javascript None = true
is_javascript (Some []) = true
is_javascript (Some (c ∷ cs)) = list_any (is_type (c ∷ cs)) javascript_types

abbrev pub has : String → List Attribute → Bool
has name attributes = is_some (attribute (codes name) attributes)

abbrev pub may_run : List Attribute → Bool
may_run attributes = is_javascript (attribute (codes "type") attributes) && not (has "nomodule" attributes)

-- by its `src`, whether it has `async` or `defer`, and its text
abbrev pub prepared_by : Option (List ℕ) → Bool → List ℕ → Prepared
prepared_by None later [] = still
prepared_by None later (c ∷ cs) = inline (c ∷ cs)
prepared_by (Some []) later text = still
prepared_by (Some (c ∷ cs)) true text = still
prepared_by (Some (c ∷ cs)) false text = external (c ∷ cs)

abbrev pub prepared_with : List Attribute → List ℕ → Prepared
prepared_with attributes text =
    if may_run attributes then prepared_by (attribute (codes "src") attributes) (has "async" attributes || has "defer" attributes) text
    else still

unfoldable pub prepare : Nodes → ℕ → Prepared
prepare t n = if is_connected t n then prepared_with (attributes_of (kind_of t n)) (script_text t n) else still
