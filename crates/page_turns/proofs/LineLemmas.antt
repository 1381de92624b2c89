-- What answers owe, and lines that are written one by one.
use Rattle.std.proofs.Common.{◌≡◌, ℕ, suc, List, ◌∷◌, ◌++◌, drop, ◌<◌, ◌+◌, length, take, get_or, drop-cons, add-one, take-append-drop, flat_map, Option, Some, None, Ok, Err, OnErr, sym, ap, ◌∙◌, subst}
use Rattle.std.specs.Prelude.{Result, OnOk, IfOk, IfSome, option_to_list}
use Rattle.std.proofs.lemmas.Grind.{flat_map-append}
use Rattle.serial.specs.declared.script.Line.{Line}
use Rattle.serial.specs.Output.{line_text}
use Rattle.page_turns.specs.Taken.{Took, TookFront}
use Rattle.page_turns.specs.Turns.{Load}
use Rattle.page_turns.proofs.PageTakenLemmas.{front_then, front_longer}

-- what a failed call owes
pub on_err : {T E : Type 0} (r : Result T E) (p : Type 0) → p → OnErr r p
on_err (Ok x) p h = tt
on_err (Err e) p h = h

pub err_weaker : {T E : Type 0} (r : Result T E) (p q : Type 0) → (p → q) → OnErr r p → OnErr r q
err_weaker (Ok x) p q h part = tt
err_weaker (Err e) p q h part = h part

-- and one that didn't fail
pub on_ok : {T E : Type 0} (r : Result T E) (p : Type 0) → p → OnOk r p
on_ok (Ok x) p h = h
on_ok (Err e) p h = tt

pub ok_weaker : {T E : Type 0} (r : Result T E) (p q : Type 0) → (p → q) → OnOk r p → OnOk r q
ok_weaker (Ok x) p q h part = h part
ok_weaker (Err e) p q h part = part

pub if_ok : {T E : Type 0} (r : Result T E) {P Q : T → Type 0} → ((x : T) → P x → Q x) → IfOk r P → IfOk r Q
if_ok (Ok x) turn p = turn x p
if_ok (Err e) turn p = p

pub if_some : {T : Type 0} (r : Option T) {P Q : T → Type 0} → ((x : T) → P x → Q x) → IfSome r P → IfSome r Q
if_some None turn p = tt
if_some (Some x) turn p = turn x p

pub line-front : (t now t' : Option (List ℕ)) (lines : List Line) (i : ℕ) (a : Line) → i < length lines → a ≡ get_or lines i a → Took t now (flat_map line_text (take i lines)) → TookFront now t' (line_text a)
    → TookFront t t' (flat_map line_text lines)
line-front t now t' lines i a within is took front =
    let whole : lines ≡ take i lines ++ (a ∷ drop (i + 1) lines) = sym (take-append-drop i lines) ∙ ap (λ l. take i lines ++ l) (rw (add-one) (drop-cons lines i a within) ∙ ap (λ x. x ∷ drop (i + 1) lines) (sym is)) in
    let text : flat_map line_text lines ≡ flat_map line_text (take i lines) ++ (line_text a ++ flat_map line_text (drop (i + 1) lines)) = ap (flat_map line_text) whole ∙ flat_map-append line_text (take i lines) (a ∷ drop (i + 1) lines) in
    subst (λ x. TookFront t t' x) (sym text) (front_then t now t' (flat_map line_text (take i lines)) (line_text a ++ flat_map line_text (drop (i + 1) lines)) took (front_longer now t' (line_text a) (flat_map line_text (drop (i + 1) lines)) front))

-- the reply that was taken stood before the others
pub took_one : {A : Type 0} (r : Option A) (x : A) (now : Load) (requests hand : ℕ) (xs ys : List A) → record { requests = requests; hand = hand; replies = length xs } ≡ now → xs ≡ option_to_list r ++ ys → r ≡ Some x
    → now ≡ record { requests = requests; hand = hand; replies = suc (length ys) }
took_one None x now requests hand xs ys is all one = absurd (cc one)
took_one (Some y) x now requests hand xs ys is all one = sym is ∙ ap (λ zs. record { requests = requests; hand = hand; replies = length zs }) all
