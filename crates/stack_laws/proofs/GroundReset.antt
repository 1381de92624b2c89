-- The mode that resetting gives in the parser of a page says of the stack what holds of it.
use Rattle.std.proofs.Common.{◌≡◌, refl, sym, ap, subst, true≢false, Bool, true, false, not, ◌&&◌, ◌||◌, List, [], ◌∷◌, Option, Some, None}
use Rattle.std.specs.Prelude.{if◌then◌else◌, unwrap_or}
use Rattle.std.specs.List.{list_all}
use Rattle.html_types.proofs.WordLemmas.{word_decides}
use Rattle.html_types.specs.Words.{same_word}
use Rattle.html_types.specs.declared.word.Word.{Word}
use Rattle.html_types.specs.declared.word.Word.TheVariants as word
use Rattle.html_types.specs.declared.name.Name.{Name}
use Rattle.html_types.specs.declared.name.Name.TheVariants.{Known, Other}
use Rattle.html_types.specs.declared.instruction.Group.TheVariants as group
use Rattle.html_types.specs.declared.instruction.Mode.{Mode}
use Rattle.html_types.specs.declared.instruction.Mode.TheVariants as mode
use Rattle.html_types.specs.declared.operation.NodeId.{NodeId}
use Rattle.html_types.specs.declared.open.OpenElement.{OpenElement}
use Rattle.standard.specs.Rows.{has_word}
use Rattle.standard.specs.Elements.{is_word, is_one_of}
use Rattle.standard.specs.Reset.{select_mode, template_mode, root_mode, reset_mode}
use Rattle.stack_laws.specs.Grounded.{is_vital, is_guard, is_known, with_name, core, no_words, has_no, is_orderly, reaches, has_facts, is_template_mode}
use Rattle.rule_laws.specs.Proper.{is_late}
use Rattle.rule_laws.proofs.Calm.{split}
use Rattle.rule_laws.proofs.Takes.{both}
use Rattle.stack_laws.proofs.Cores.{either-false, neither}
use Rattle.stack_laws.proofs.GroundAdoption.{guardless}

choose : (v : Bool) (m n : Mode) (ws : List Word) → (v ≡ true → has_facts m ws ≡ true) → (v ≡ false → has_facts n ws ≡ true) → has_facts (if v then m else n) ws ≡ true
choose true m n ws h k = h refl
choose false m n ws h k = k refl

named : (w : Word) (P : Name → Type 0) (n : Name) → is_word w n ≡ true → P (Known w) → P n
named w P (Known v) h p = subst (λ u. P (Known u)) (sym ((word_decides v w).0 h)) p
named w P (Other s t) h p = absurd (true≢false (sym h))

-- a mode that a name tells, or else the one told further up
told : (v : Bool) (m : Mode) (o : Option Mode) (d : Mode) (ws : List Word) → (v ≡ true → has_facts m ws ≡ true) → (v ≡ false → has_facts (unwrap_or o d) ws ≡ true) → has_facts (unwrap_or (if v then Some m else o) d) ws ≡ true
told true m o d ws h k = h refl
told false m o d ws h k = k refl

select-facts : (es : List OpenElement) (ws : List Word) → reaches (has_word (word.Select ∷ [])) ws ≡ true → has_facts (select_mode es) ws ≡ true
select-facts [] ws h = refl
select-facts (e ∷ es) ws h =
    choose (is_word word.Template e.name) mode.InSelect _ ws (λ g. refl)
    (λ g. choose (is_word word.Table e.name) mode.InSelectInTable (select_mode es) ws (λ k. h) (λ k. select-facts es ws h))

template-facts : (ms : List Mode) (ws : List Word) → list_all is_template_mode ms ≡ true → has_no word.Template ws ≡ false → has_facts (template_mode ms) ws ≡ true
template-facts [] ws h t = refl
template-facts (m ∷ ms) ws h t = by m (split (is_template_mode m) (list_all is_template_mode ms) h).0
  where
    by : (n : Mode) → is_template_mode n ≡ true → has_facts n ws ≡ true
    by mode.InTemplate g = ap not t
    by mode.BeforeHead g = absurd (true≢false (sym g))
    by mode.InHead g = absurd (true≢false (sym g))
    by mode.AfterHead g = absurd (true≢false (sym g))
    by mode.InFrameset g = absurd (true≢false (sym g))
    by mode.InCell g = absurd (true≢false (sym g))
    by mode.InSelectInTable g = absurd (true≢false (sym g))
    by _ g = refl

root-facts : (head : Option NodeId) (ws : List Word) → has_no word.Template ws ≡ true → has_facts (root_mode head) ws ≡ true
root-facts None ws h = h
root-facts (Some i) ws h = h

cells-guard : (w : Word) → has_word (word.Td ∷ word.Th ∷ []) w && not (is_guard w) ≡ false
cells-guard word.A = refl
cells-guard _ = refl

cell-facts : (n : Name) (ws : List Word) → is_one_of group.Cells n ≡ true → reaches (has_word (word.Td ∷ word.Th ∷ [])) (with_name n ws) ≡ true
cell-facts (Other s t) ws h = absurd (true≢false (sym h))
cell-facts (Known w) ws h = by (is_guard w) refl
  where
    there : (v : Bool) → v ≡ true → (if v then true else (if is_vital w then false else reaches (has_word (word.Td ∷ word.Th ∷ [])) ws)) ≡ true
    there true e = refl
    there false e = absurd (true≢false (sym e))

    none : (v x : Bool) → v && not x ≡ false → v ≡ true → x ≡ false → ⊥
    none true true e g k = true≢false k
    none true false e g k = true≢false e
    none false x e g k = true≢false (sym g)

    by : (v : Bool) → is_guard w ≡ v → reaches (has_word (word.Td ∷ word.Th ∷ [])) (if v then w ∷ ws else ws) ≡ true
    by true e = there (has_word (word.Td ∷ word.Th ∷ []) w) h
    by false e = absurd (none (has_word (word.Td ∷ word.Th ∷ []) w) (is_guard w) (cells-guard w) h e)

no-words : (ws : List Word) → no_words ws ≡ true → has_no word.Template ws ≡ true
no-words [] h = refl
no-words (w ∷ ws) h = absurd (true≢false (sym h))

guard-free : (n : Name) → is_word word.Select n ≡ false → is_one_of group.Cells n ≡ false → is_word word.Template n ≡ false → is_word word.Head n ≡ false → is_word word.Frameset n ≡ false → is_word word.Html n ≡ false → is_known is_guard n ≡ false
guard-free (Other s t) a b c d e f = refl
guard-free (Known w) a b c d e f =
    let p = either-false (same_word w word.Td) (same_word w word.Th || false) b in
    let q = either-false (same_word w word.Th) false p.1 in
    neither (same_word w word.Html) _ f (neither (same_word w word.Template) _ c (neither (same_word w word.Head) _ d (neither (same_word w word.Frameset) _ e
    (neither (same_word w word.Td) _ p.0 (neither (same_word w word.Th) _ q.0 (neither (same_word w word.Select) false a refl))))))

pub reset-facts : (es : List OpenElement) (head : Option NodeId) (ms : List Mode) → is_orderly (core es) ≡ true → list_all is_template_mode ms ≡ true → has_facts (reset_mode None es head ms) (core es) ≡ true
reset-facts [] head ms o t = refl
reset-facts (e ∷ es) head ms o t = by (λ g h. reset-facts es head ms h t)
  where
    ws : List Word
    ws = with_name e.name (core es)

    above : Mode
    above = reset_mode None es head ms

    by : (is_known is_guard e.name ≡ false → is_orderly (core es) ≡ true → has_facts (reset_mode None es head ms) (core es) ≡ true) → has_facts (reset_mode None (e ∷ es) head ms) (with_name e.name (core es)) ≡ true
    by rest =
        told (is_word word.Select e.name) _ _ above ws (λ g. select-facts es ws (named word.Select (λ n. reaches (has_word (word.Select ∷ [])) (with_name n (core es)) ≡ true) e.name g refl))
        (λ n0. told (is_one_of group.Cells e.name) _ _ above ws (λ g. cell-facts e.name (core es) g)
        (λ n1. told (is_word word.Tr e.name) _ _ above ws (λ g. refl)
        (λ n2. told (is_one_of group.TableSections e.name) _ _ above ws (λ g. refl)
        (λ n3. told (is_word word.Caption e.name) _ _ above ws (λ g. refl)
        (λ n4. told (is_word word.Colgroup e.name) _ _ above ws (λ g. refl)
        (λ n5. told (is_word word.Table e.name) _ _ above ws (λ g. refl)
        (λ n6. told (is_word word.Template e.name) _ _ above ws (λ g. template-facts ms ws t (named word.Template (λ n. has_no word.Template (with_name n (core es)) ≡ false) e.name g refl))
        (λ n7. told (is_word word.Head e.name) _ _ above ws
        (λ g. named word.Head (λ n. is_orderly (with_name n (core es)) ≡ true → has_facts mode.InHead (with_name n (core es)) ≡ true) e.name g (λ h. both (has_no word.Template (core es)) true (split (has_no word.Template (core es)) (is_orderly (core es)) h).0 refl) o)
        (λ n8. told (is_word word.Body e.name) _ _ above ws (λ g. refl)
        (λ n9. told (is_word word.Frameset e.name) _ _ above ws
        (λ g. named word.Frameset (λ n. is_orderly (with_name n (core es)) ≡ true → has_no word.Template (with_name n (core es)) ≡ true) e.name g (λ h. (split (has_no word.Template (core es)) (is_orderly (core es)) h).0) o)
        (λ n10. told (is_word word.Html e.name) _ _ above ws
        (λ g. root-facts head ws (named word.Html (λ n. is_orderly (with_name n (core es)) ≡ true → has_no word.Template (with_name n (core es)) ≡ true) e.name g (λ h. no-words (core es) (split (no_words (core es)) (is_orderly (core es)) h).0) o))
        (λ n11.
        let free = guard-free e.name n0 n1 n7 n8 n10 n11 in
        let same = guardless e.name (core es) free in
        subst (λ x. has_facts (reset_mode None es head ms) x ≡ true) (sym same) (rest free (subst (λ x. is_orderly x ≡ true) same o))))))))))))))

pub templates-late : (ms : List Mode) → list_all is_template_mode ms ≡ true → list_all is_late ms ≡ true
templates-late [] h = refl
templates-late (m ∷ ms) h =
    let p = split (is_template_mode m) (list_all is_template_mode ms) h in both (is_late m) (list_all is_late ms) (by m p.0) (templates-late ms p.1)
  where
    by : (n : Mode) → is_template_mode n ≡ true → is_late n ≡ true
    by mode.Initial g = g
    by mode.BeforeHtml g = g
    by mode.InText g = g
    by mode.InTableText g = g
    by mode.InForeign g = g
    by _ g = refl
