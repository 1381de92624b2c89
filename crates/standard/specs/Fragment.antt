-- Fragments (13.4 #parsing-html-fragments): what a text comes to as the children of an element, its
-- context.
use Rattle.std.specs.Prelude.{ℕ, zero, suc, Bool, true, false, ◌||◌, if◌then◌else◌, List, [], ◌∷◌, ◌++◌, length, Option, Some, None, unwrap_or}
use Rattle.std.specs.Option.{option_map}
use Rattle.html_types.specs.declared.word.Word.TheVariants as word
use Rattle.html_types.specs.declared.name.Name.{Name}
use Rattle.html_types.specs.declared.name.Name.TheVariants.{Known, Other}
use Rattle.html_types.specs.declared.name.Space.TheVariants.{Html}
use Rattle.html_types.specs.declared.state.TokState.{TokState}
use Rattle.html_types.specs.declared.state.TextState.TheVariants as text_state
use Rattle.html_types.specs.declared.state.RawText.TheVariants as raw
use Rattle.html_types.specs.declared.instruction.Mode.{Mode}
use Rattle.html_types.specs.declared.instruction.Mode.TheVariants as mode
use Rattle.html_types.specs.declared.operation.NodeId.{NodeId}
use Rattle.html_types.specs.declared.operation.Place.{Place}
use Rattle.html_types.specs.declared.operation.Place.TheVariants.{Page, Inside}
use Rattle.html_types.specs.declared.operation.Op.{Op}
use Rattle.html_types.specs.declared.operation.Op.TheVariants as op
use Rattle.html_types.specs.declared.open.Context.{Context}
use Rattle.html_types.specs.declared.open.OpenElement.{OpenElement}
use Rattle.html_types.specs.declared.open.Open.{Open}
use Rattle.html_types.specs.declared.token.Tag.{Tag}
use Rattle.html_types.specs.declared.tree.Kind.{Kind}
use Rattle.html_types.specs.declared.tree.Kind.TheVariants.{Element}
use Rattle.standard.specs.Elements.{is_word}
use Rattle.standard.specs.Entities.{Entities}
use Rattle.standard.specs.Step.{in_text}
use Rattle.standard.specs.Reset.{reset_mode}
use Rattle.standard.specs.Foreign.{is_html_annotation}
use Rattle.standard.specs.Tree.{Nodes, kind_of, parent_of, emptied, children_moved}
use Rattle.standard.specs.Act.{Doc, acts, node_of, end_of}
use Rattle.standard.specs.Parser.{Parser, parser}
use Rattle.standard.specs.Through.{whole}

-- ---- how the parser of a fragment begins

-- the html element that is open at first, and the form element that its form element pointer names
abbrev pub root_id : ℕ → NodeId
root_id realm = record { realm = realm; n = 0 }

abbrev pub form_id : ℕ → NodeId
form_id realm = record { realm = realm; n = 1 }

abbrev pub root_element : ℕ → OpenElement
root_element realm = record { id = root_id realm; name = Known word.Html; html_point = false }

-- the context, as which it stands
abbrev pub standing : Context → ℕ → OpenElement
standing c realm = record { id = root_id realm; name = c.name; html_point = c.html_point }

abbrev pub modes_in : Name → List Mode
modes_in n = if is_word word.Template n then mode.InTemplate ∷ [] else []

abbrev pub fragment_opening : Context → ℕ → Open
fragment_opening c realm = record {
  stack = root_element realm ∷ [];
  formats = [];
  head = None;
  form = if c.form then Some (form_id realm) else None;
  mode = reset_mode (Some (standing c realm)) (root_element realm ∷ []) None (modes_in c.name);
  original = None;
  template_modes = modes_in c.name;
  pending_text = [];
  frameset_ok = true;
  quirks = c.quirks;
  skip_line_feed = false;
  foster = false;
  next = record { realm = realm; n = if c.form then 2 else 1 };
  context = Some (standing c realm);
}

-- how the tokenizer reads the text; no start tag came before
abbrev pub reading_in : Name → TokState
reading_in (Known word.Title) = in_text (text_state.Raw raw.Rcdata None)
reading_in (Known word.Textarea) = in_text (text_state.Raw raw.Rcdata None)
reading_in (Known word.Style) = in_text (text_state.Raw raw.Rawtext None)
reading_in (Known word.Xmp) = in_text (text_state.Raw raw.Rawtext None)
reading_in (Known word.Iframe) = in_text (text_state.Raw raw.Rawtext None)
reading_in (Known word.Noembed) = in_text (text_state.Raw raw.Rawtext None)
reading_in (Known word.Noframes) = in_text (text_state.Raw raw.Rawtext None)
reading_in (Known word.Noscript) = in_text (text_state.Raw raw.Rawtext None)
reading_in (Known word.Script) = in_text (text_state.Raw raw.ScriptData None)
reading_in (Known word.Plaintext) = in_text text_state.Plaintext
reading_in n = in_text text_state.Data

unfoldable pub fragment_parser : Context → ℕ → Parser
fragment_parser c realm = parser (reading_in c.name) false (fragment_opening c realm)

-- The operations that make the fragment's nodes under the root; none at a push that would open element 513.
unfoldable pub fragment : Entities → Context → List ℕ → Option (List Op)
fragment es c text = whole es (fragment_parser c 0) text

-- ---- the context on a tree

abbrev pub is_form : Kind → Bool
is_form (Element name attributes) = is_word word.Form name
is_form _ = false

-- whether the node is a form or stands under one, k nodes up
abbrev pub in_form_by : Nodes → ℕ → ℕ → Bool
in_form_by t zero n = false
in_form_by t (suc k) n = is_form (kind_of t n) || unwrap_or (option_map (λ p. in_form_by t k p) (parent_of t n)) false

abbrev pub name_in : Kind → Name
name_in (Element name attributes) = name
name_in _ = Other Html []

abbrev pub is_annotation_point : Kind → Bool
is_annotation_point (Element name attributes) = is_html_annotation (record { name = name; attributes = attributes; self_closing = false })
is_annotation_point _ = false

unfoldable pub context_at : Nodes → ℕ → Bool → Context
context_at t n quirks = record { name = name_in (kind_of t n); html_point = is_annotation_point (kind_of t n); form = in_form_by t (length t) n; quirks = quirks }

-- ---- innerHTML

-- the root, and the form element
abbrev pub roots_made : Bool → List Op
roots_made form = op.Make (root_id 0) (Known word.Html) [] ∷ (if form then op.Make (form_id 0) (Known word.Form) [] ∷ [] else [])

-- The end of the root stands for the end of the Document, so that nothing of a fragment ever stands in the tree's own Document. No
-- token of a fragment asks for that place.
abbrev pub place_in_root : Place → Place
place_in_root Page = Inside (root_id 0)
place_in_root place = place

-- and a doctype is left out
abbrev pub in_root : Op → List Op
in_root (op.Put id place) = op.Put id (place_in_root place) ∷ []
in_root (op.Text place text) = op.Text (place_in_root place) text ∷ []
in_root (op.Comment place text) = op.Comment (place_in_root place) text ∷ []
in_root (op.Doctype name) = []
in_root o = o ∷ []

abbrev pub all_in_root : List Op → List Op
all_in_root [] = []
all_in_root (o ∷ os) = in_root o ++ all_in_root os

-- the fragment's nodes, among the tree's, under ids of their own
abbrev pub with_fragment : Nodes → Bool → List Op → Doc
with_fragment t form ops = acts (record { tree = t; bound = [] }) (roots_made form ++ all_in_root ops)

-- the children of a node (of a template, its contents' children) taken out, and the children of the fragment's root put there
abbrev pub exchanged : Doc → ℕ → Nodes
exchanged d n = let p : ℕ = (end_of d.tree n).parent in children_moved (emptied d.tree p) (node_of d.bound (root_id 0)) p

unfoldable pub filled : Nodes → ℕ → Bool → List Op → Nodes
filled t n form ops = exchanged (with_fragment t form ops) n

pub data Setting : Type 0 where
  -- there is no such element
  lacking : Setting
  too_deep : Setting
  setting : Nodes → Setting

abbrev pub set_by : Nodes → ℕ → Bool → Option (List Op) → Setting
set_by t n form None = too_deep
set_by t n form (Some ops) = setting (filled t n form ops)

unfoldable pub inner_set : Entities → Bool → Nodes → Option ℕ → List ℕ → Setting
inner_set es quirks t None text = lacking
inner_set es quirks t (Some n) text = let c : Context = context_at t n quirks in set_by t n c.form (fragment es c text)
