-- Statuses tell failures apart.
use Rattle.std.proofs.Common.{◌≡◌, inr, ◌∷◌, [], ℕ, ◌==◌, if◌then◌else◌, List, Contains, Option, Some, None, false, Result, Err, refl, sym, ap, ◌∙◌, arith}
use Rattle.html_types.specs.declared.ending.Why.{Why}
use Rattle.html_types.specs.declared.ending.Why.TheVariants as why
use Rattle.std.specs.Prelude.{MatchOption}
use Rattle.std.specs.Str.{chars, IsUtf8}
use Rattle.html_types.specs.declared.name.Name.{Name}
use Rattle.html_types.specs.declared.open.Context.{Context}
use Rattle.entity_table.specs.declared.table.TableFault.{TableFault}
use Rattle.entity_table.specs.declared.table.TableFault.TheVariants as table
use Rattle.standard.specs.Entities.{Entities}
use Rattle.standard.specs.Fragment.{fragment}
use Rattle.serial.specs.Page.{page_of}
use Rattle.serial.specs.Quiet.{refused, quiet}
use Rattle.html_document.specs.declared.feeding.TheConstants.{PAGE_LIMIT}
use Rattle.html_document.specs.declared.refused.Refused.{Refused}
use Rattle.html_document.specs.declared.refused.Refused.TheVariants as no_tree
use Rattle.specparse_c.specs.declared.failure.Failure.{Failure}
use Rattle.specparse_c.specs.declared.failure.Failure.TheVariants as failure
use Rattle.specparse_c.specs.Statuses.{status_of, failure_of, failure_at}
use Rattle.specparse_c.specs.Entities.{entities_in}
use Rattle.specparse_c.specs.Calls.{space_at, name_in, IsNameAt, IsName, IsNoName, IsContext, FailsAtTable, FailsAtContext, FailsAtText, FailsAtParse, FailsAtDeep, FailsAtPage, FailsAtFragment}

back : ℕ → Failure
back n = if n == 2 then failure.Context else (if n == 3 then failure.Entities else (if n == 4 then failure.BadUtf8 else (if n == 5 then failure.Limit else failure.NoMemory)))

there-and-back : (f : Failure) → back (status_of f) ≡ f
unfolding back
there-and-back failure.Context = refl
there-and-back failure.Entities = refl
there-and-back failure.BadUtf8 = refl
there-and-back failure.Limit = refl
there-and-back failure.NoMemory = refl

pub same-failure : (f g : Failure) → status_of f ≡ status_of g → f ≡ g
same-failure f g is = sym (there-and-back f) ∙ (ap back is ∙ there-and-back g)

pub not-done : (f : Failure) → status_of f ≡ 0 → ⊥
not-done failure.Context e = omega (arith, e)
not-done failure.Entities e = omega (arith, e)
not-done failure.BadUtf8 e = omega (arith, e)
not-done failure.Limit e = omega (arith, e)
not-done failure.NoMemory e = omega (arith, e)

pub not-room : (f : Failure) → status_of f ≡ 13 → ⊥
not-room failure.Context e = omega (arith, e)
not-room failure.Entities e = omega (arith, e)
not-room failure.BadUtf8 e = omega (arith, e)
not-room failure.Limit e = omega (arith, e)
not-room failure.NoMemory e = omega (arith, e)

-- ---- which statuses there are

pub page-status : (entities page : List ℕ) (f : Failure) → FailsAtPage entities page f → Contains (0 ∷ 3 ∷ 4 ∷ 5 ∷ 12 ∷ 13 ∷ []) (status_of f)
page-status entities page failure.Context h = absurd h
page-status entities page failure.Entities h = (1, omega arith, refl)
page-status entities page failure.BadUtf8 h = (2, omega arith, refl)
page-status entities page failure.Limit h = (3, omega arith, refl)
page-status entities page failure.NoMemory h = (4, omega arith, refl)

pub table-status : (entities : List ℕ) (f : Failure) → FailsAtTable entities f → Contains (0 ∷ 3 ∷ 12 ∷ 13 ∷ []) (status_of f)
table-status entities failure.Context h = absurd h
table-status entities failure.Entities h = (1, omega arith, refl)
table-status entities failure.BadUtf8 h = absurd h
table-status entities failure.Limit h = absurd h
table-status entities failure.NoMemory h = (2, omega arith, refl)

pub fragment-status : (f : Failure) → Contains (0 ∷ 2 ∷ 3 ∷ 4 ∷ 5 ∷ 12 ∷ 13 ∷ []) (status_of f)
fragment-status failure.Context = (1, omega arith, refl)
fragment-status failure.Entities = (2, omega arith, refl)
fragment-status failure.BadUtf8 = (3, omega arith, refl)
fragment-status failure.Limit = (4, omega arith, refl)
fragment-status failure.NoMemory = (5, omega arith, refl)

-- ---- why there is nothing

pub fails-table : (entities : List ℕ) (fault : TableFault) (r : Result Entities TableFault) → r ≡ Err fault → (r ≡ Err table.NotTable → entities_in entities ≡ None) → FailsAtTable entities (failure_at fault)
fails-table entities table.NotTable r is none = none is
fails-table entities table.NoMemory r is none = tt

pub fails-parse : (es : Entities) (page : List ℕ) (r : Refused) → ((w : Why) → r ≡ no_tree.Parse w → quiet es (page_of PAGE_LIMIT page false) ≡ refused w) → FailsAtParse es page (failure_of r)
fails-parse es page no_tree.NoMemory h = tt
fails-parse es page (no_tree.Parse why.BadUtf8) h = h why.BadUtf8 refl
fails-parse es page (no_tree.Parse why.Depth) h = (why.Depth, λ e. absurd (cc e), h why.Depth refl)
fails-parse es page (no_tree.Parse why.Writes) h = (why.Writes, λ e. absurd (cc e), h why.Writes refl)
fails-parse es page (no_tree.Parse why.Page) h = (why.Page, λ e. absurd (cc e), h why.Page refl)
fails-parse es page (no_tree.Parse why.Fault) h = (why.Fault, λ e. absurd (cc e), h why.Fault refl)

pub fails-deep : (es : Entities) (c : Context) (text : List ℕ) (r : Refused) → ((w : Why) → r ≡ no_tree.Parse w → (w ≡ why.Depth) × (fragment es c text ≡ None)) → FailsAtDeep es c text (failure_of r)
fails-deep es c text no_tree.NoMemory h = tt
fails-deep es c text (no_tree.Parse why.BadUtf8) h = let e : why.BadUtf8 ≡ why.Depth = (h why.BadUtf8 refl).0 in absurd (cc e)
fails-deep es c text (no_tree.Parse why.Depth) h = (h why.Depth refl).1
fails-deep es c text (no_tree.Parse why.Writes) h = (h why.Writes refl).1
fails-deep es c text (no_tree.Parse why.Page) h = (h why.Page refl).1
fails-deep es c text (no_tree.Parse why.Fault) h = (h why.Fault refl).1

-- a part of a call that fails makes the call fail
pub table-page : (entities page : List ℕ) (f : Failure) → FailsAtTable entities f → FailsAtPage entities page f
table-page entities page failure.Context h = absurd h
table-page entities page failure.Entities h = h
table-page entities page failure.BadUtf8 h = absurd h
table-page entities page failure.Limit h = absurd h
table-page entities page failure.NoMemory h = tt

pub parse-page : (entities page : List ℕ) (es : Entities) (f : Failure) → entities_in entities ≡ Some es → FailsAtParse es page f → FailsAtPage entities page f
parse-page entities page es failure.Context is h = absurd h
parse-page entities page es failure.Entities is h = absurd h
parse-page entities page es failure.BadUtf8 is h = (es, is, h)
parse-page entities page es failure.Limit is (w, other, h) = (w, other, (es, is, h))
parse-page entities page es failure.NoMemory is h = tt

pub table-fragment : (entities name : List ℕ) (space flags : ℕ) (source : List ℕ) (f : Failure) → FailsAtTable entities f → FailsAtFragment entities name space flags source f
table-fragment entities name space flags source failure.Context h = absurd h
table-fragment entities name space flags source failure.Entities h = h
table-fragment entities name space flags source failure.BadUtf8 h = absurd h
table-fragment entities name space flags source failure.Limit h = absurd h
table-fragment entities name space flags source failure.NoMemory h = tt

pub deep-fragment : (entities name : List ℕ) (space flags : ℕ) (source text : List ℕ) (es : Entities) (c : Context) (f : Failure) → entities_in entities ≡ Some es → IsContext name space flags c → text ≡ source
    → FailsAtDeep es c (chars text) f → FailsAtFragment entities name space flags source f
deep-fragment entities name space flags source text es c failure.Context is at same h = absurd h
deep-fragment entities name space flags source text es c failure.Entities is at same h = absurd h
deep-fragment entities name space flags source text es c failure.BadUtf8 is at same h = absurd h
deep-fragment entities name space flags source text es c failure.Limit is at same h = (es, c, is, at, ap (λ x. fragment es c (chars x)) (sym same) ∙ h)
deep-fragment entities name space flags source text es c failure.NoMemory is at same h = tt

pub context-fragment : (entities name : List ℕ) (space flags : ℕ) (source : List ℕ) (f : Failure) → FailsAtContext name space flags f → FailsAtFragment entities name space flags source f
context-fragment entities name space flags source failure.Context h = h
context-fragment entities name space flags source failure.Entities h = absurd h
context-fragment entities name space flags source failure.BadUtf8 h = absurd h
context-fragment entities name space flags source failure.Limit h = absurd h
context-fragment entities name space flags source failure.NoMemory h = tt

pub text-fragment : (entities name : List ℕ) (space flags : ℕ) (source : List ℕ) (f : Failure) → FailsAtText source f → FailsAtFragment entities name space flags source f
text-fragment entities name space flags source failure.Context h = absurd h
text-fragment entities name space flags source failure.Entities h = absurd h
text-fragment entities name space flags source failure.BadUtf8 h = h
text-fragment entities name space flags source failure.Limit h = absurd h
text-fragment entities name space flags source failure.NoMemory h = absurd h

-- ---- the name of a context

pub name-of : (name text : List ℕ) (space : ℕ) → text ≡ name → IsUtf8 name → (o : Option Name) → MatchOption o (space_at space ≡ None) (λ n. IsNameAt (chars text) space n)
    → MatchOption o (IsNoName name space) (λ n. IsName name space n)
name-of name text space same utf8 None h = inr h
name-of name text space same utf8 (Some n) (at, is, named) = record { text = utf8; at = at; space_is = is; name_is = named ∙ ap (λ x. name_in at (chars x)) same }
