-- Pending characters, one after another.
use Rattle.std.proofs.Common.{◌≡◌, ◌∙◌, ◌<◌, ℕ, Bool, refl, ap, sym, List, [], ◌∷◌, ◌++◌, length, take, drop, get_or, reverse, suc, drop-cons}
use Rattle.std.proofs.lemmas.List.{take-append-drop}
use Rattle.std.specs.Prelude.{true, false, ◌&&◌, if◌then◌else◌}
use Rattle.std.specs.List.{list_all}
use Rattle.html_types.specs.declared.token.Tag.{Tag}
use Rattle.html_types.specs.declared.operation.Op.{Op}
use Rattle.html_types.specs.declared.instruction.Flow.{Flow}
use Rattle.html_types.specs.declared.instruction.Flow.TheVariants.{On, Skip, Leave}
use Rattle.html_types.specs.declared.open.Open.{Open}
use Rattle.standard.specs.WhiteSpace.{is_space}
use Rattle.standard.specs.Formatting.{lost, kept}
use Rattle.standard.specs.Instructions.{Config, config, on, room, reopen, reopen_all, reconstruct, all_space, body_text, body_character, body_characters, insert_pending}

pub all_space_all : (cs : List ℕ) → list_all is_space cs ≡ all_space cs
all_space_all [] = refl
all_space_all (c ∷ cs) = ap (λ r. is_space c && r) (all_space_all cs)

-- ---- characters by the rules of "in body", up to one that leaves the row

body_ended : (cs : List ℕ) (b : Open) (o : List Op) (f : Flow) → (f ≡ On → ⊥) → body_characters cs (config b o f) ≡ config b o f
body_ended [] b o f h = refl
body_ended (c ∷ cs) b o On h = absurd (h refl)
body_ended (c ∷ cs) b o Skip h = refl
body_ended (c ∷ cs) b o (Leave n) h = refl

body_append : (xs ys : List ℕ) (b : Open) (o : List Op) (f : Flow) → body_characters (xs ++ ys) (config b o f) ≡ body_characters ys (body_characters xs (config b o f))
body_append [] ys b o f = refl
body_append (x ∷ xs) ys b o On = let r : Config = body_character x b o in body_append xs ys r.open_state r.ops r.flow
body_append (x ∷ xs) ys b o Skip = sym (body_ended ys b o Skip (λ e. cc))
body_append (x ∷ xs) ys b o (Leave n) = sym (body_ended ys b o (Leave n) (λ e. cc))

-- one character more
pub body_more : (xs : List ℕ) (c : ℕ) (b : Open) (o : List Op) (b' : Open) (o' : List Op) (r : Config)
    → body_characters xs (on b o) ≡ on b' o' → r ≡ body_character c b' o' → body_characters (xs ++ c ∷ []) (on b o) ≡ r
body_more xs c b o b' o' r so_far next = body_append xs (c ∷ []) b o On ∙ ap (body_characters (c ∷ [])) so_far ∙ sym next

-- the characters behind one that leaves the row aren't looked at
pub body_left : (cs xs : List ℕ) (c : ℕ) (b : Open) (o : List Op) (b' : Open) (o' : List Op) (b'' : Open) (o'' : List Op) (f : Flow)
    → xs ≡ take (length xs) cs → length xs < length cs → c ≡ get_or cs (length xs) c
    → body_characters xs (on b o) ≡ on b' o' → config b'' o'' f ≡ body_character c b' o' → (f ≡ On → ⊥) → config b'' o'' f ≡ body_characters cs (on b o)
body_left cs xs c b o b' o' b'' o'' f front below at so_far next left =
    let rest = drop (suc (length xs)) cs in
    let here : drop (length xs) cs ≡ c ∷ rest = drop-cons cs (length xs) c below ∙ ap (λ d. d ∷ rest) (sym at) in
    let whole : xs ++ c ∷ rest ≡ cs = ap (λ l. l ++ c ∷ rest) front ∙ ap (λ l. take (length xs) cs ++ l) (sym here) ∙ take-append-drop (length xs) cs in
    let left_there : body_characters (c ∷ rest) (on b' o') ≡ config b'' o'' f = ap (body_characters rest) (sym next) ∙ body_ended rest b'' o'' f left in
    sym (ap (λ l. body_characters l (on b o)) (sym whole) ∙ body_append xs (c ∷ rest) b o On ∙ ap (body_characters (c ∷ rest)) so_far ∙ left_there)

-- ---- the pending text doesn't matter meanwhile

abbrev cleared : Config → Config
cleared r = record r { open_state = record r.open_state { pending_text = [] } }

if-cleared : (t : Bool) (x y : Config) → (if t then cleared x else cleared y) ≡ cleared (if t then x else y)
if-cleared true x y = refl
if-cleared false x y = refl

reopen-cleared : (tag : Tag) (b : Open) (o : List Op) → reopen tag (record b { pending_text = [] }) o ≡ cleared (reopen tag b o)
reopen-cleared tag b o = if-cleared (room b) _ _

reopen_all-cleared : (tags : List Tag) (b : Open) (o : List Op) (f : Flow) → reopen_all tags (cleared (config b o f)) ≡ cleared (reopen_all tags (config b o f))
reopen_all-cleared [] b o f = refl
reopen_all-cleared (t ∷ ts) b o On =
    let r : Config = reopen t b o in
    ap (reopen_all ts) (reopen-cleared t b o) ∙ reopen_all-cleared ts r.open_state r.ops r.flow
reopen_all-cleared (t ∷ ts) b o Skip = refl
reopen_all-cleared (t ∷ ts) b o (Leave n) = refl

body_text-cleared : (c : ℕ) (b : Open) (o : List Op) (f : Flow) → body_text c (cleared (config b o f)) ≡ cleared (body_text c (config b o f))
body_text-cleared c b o On = refl
body_text-cleared c b o Skip = refl
body_text-cleared c b o (Leave n) = refl

body_character-cleared : (c : ℕ) (b : Open) (o : List Op) → body_character c (record b { pending_text = [] }) o ≡ cleared (body_character c b o)
body_character-cleared c b o =
    let r : Config = reconstruct b o in
    ap (body_text c) (reopen_all-cleared (reverse (lost b.stack b.formats)) (record b { formats = kept b.stack b.formats }) o On)
    ∙ body_text-cleared c r.open_state r.ops r.flow

body_characters-cleared : (cs : List ℕ) (b : Open) (o : List Op) (f : Flow) → body_characters cs (cleared (config b o f)) ≡ cleared (body_characters cs (config b o f))
body_characters-cleared [] b o f = refl
body_characters-cleared (c ∷ cs) b o On =
    let r : Config = body_character c b o in
    ap (body_characters cs) (body_character-cleared c b o) ∙ body_characters-cleared cs r.open_state r.ops r.flow
body_characters-cleared (c ∷ cs) b o Skip = refl
body_characters-cleared (c ∷ cs) b o (Leave n) = refl

abbrev unfostered : Config → Config
unfostered r = record r { open_state = record r.open_state { foster = false } }

pub pending_inserted : (b : Open) (o : List Op) (cs none : List ℕ) (b' : Open) (o' : List Op) (f : Flow)
    → cs ≡ b.pending_text → none ≡ [] → all_space b.pending_text ≡ false
    → config b' o' f ≡ body_characters cs (on (record b { pending_text = none; foster = true }) o)
    → config (record b' { foster = false }) o' f ≡ insert_pending b o
pending_inserted b o cs none b' o' f text empty mixed done =
    let start = λ (p : List ℕ). on (record b { pending_text = p; foster = true }) o in
    let all = ap (λ l. body_characters l (start none)) text ∙ ap (λ p. body_characters b.pending_text (start p)) empty in
    rw mixed (ap unfostered (done ∙ all ∙ body_characters-cleared b.pending_text (record b { foster = true }) o On))
