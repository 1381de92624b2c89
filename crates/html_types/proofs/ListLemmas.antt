-- Lists that are seen in reverse, and lists of operations.
use Rattle.std.proofs.Common.{◌≡◌, List, [], ◌∷◌, ◌++◌, ℕ, suc, ◌+◌, length, get_or, set, take, reverse, arith, sym, ap, ◌∙◌, append-nil}
use Rattle.std.proofs.lemmas.List.{reverse-reverse, append_assoc, set_split, set-get_or, drop_all}
use Rattle.html_types.specs.Operations.{spelled, spelled_one}
use Rattle.html_types.specs.declared.operation.Op.{Op}

pub same-from_reverse : {A : Type 0} (xs ys : List A) → reverse xs ≡ reverse ys → xs ≡ ys
same-from_reverse xs ys e = sym (reverse-reverse xs) ∙ ap reverse e ∙ reverse-reverse ys

pub spelled-append : (os : List Op) (o : Op) → spelled (os ++ o ∷ []) ≡ spelled os ++ spelled_one o
unfolding spelled
spelled-append [] o = append-nil (spelled_one o)
spelled-append (p ∷ os) o = ap (λ l. spelled_one p ++ l) (spelled-append os o) ∙ sym (append_assoc (spelled_one p) (spelled os) (spelled_one o))

-- a last operation that says so much more
pub spelled-last : (os : List Op) (i : ℕ) (o p : Op) (more : List Op) → i + 1 ≡ length os → get_or os i o ≡ o → spelled_one p ≡ spelled_one o ++ more → spelled (set os i p) ≡ spelled os ++ more
spelled-last os i o p more n at e =
    let last : (q : Op) → set os i q ≡ take i os ++ q ∷ [] =
    λ q. set_split os i q (omega arith) ∙ ap (λ l. take i os ++ q ∷ l) (drop_all (suc i) os (omega arith)) in
    let whole : spelled os ≡ spelled (take i os) ++ spelled_one o =
    ap spelled (sym (set-get_or os i o) ∙ ap (λ q. set os i q) at ∙ last o) ∙ spelled-append (take i os) o in
    ap spelled (last p) ∙ spelled-append (take i os) p
    ∙ ap (λ l. spelled (take i os) ++ l) e
    ∙ sym (append_assoc (spelled (take i os)) (spelled_one o) more)
    ∙ ap (λ l. l ++ more) (sym whole)
