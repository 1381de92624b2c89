-- Resetting the insertion mode gives a mode of which that holds which holds of all modes from "before head" on, but "text" and "in table text".
use Rattle.std.proofs.Common.{◌≡◌, refl, Bool, true, false, List, [], ◌∷◌, Option, Some, None}
use Rattle.std.specs.Prelude.{⊤, ◌||◌, if◌then◌else◌, unwrap_or}
use Rattle.std.specs.List.{list_all}
use Rattle.html_types.specs.declared.word.Word.TheVariants as word
use Rattle.html_types.specs.declared.instruction.Group.TheVariants as group
use Rattle.html_types.specs.declared.instruction.Mode.{Mode}
use Rattle.html_types.specs.declared.instruction.Mode.TheVariants as mode
use Rattle.html_types.specs.declared.name.Name.{Name}
use Rattle.html_types.specs.declared.operation.NodeId.{NodeId}
use Rattle.html_types.specs.declared.open.OpenElement.{OpenElement}
use Rattle.rule_laws.specs.Proper.{is_late}
use Rattle.standard.specs.Elements.{is_word, is_one_of}
use Rattle.standard.specs.Instructions.{pop_mode}
use Rattle.standard.specs.Reset.{select_mode, template_mode, root_mode, told_mode, context_mode, reset_mode}
use Rattle.rule_laws.proofs.Calm.{split}

pub popped-hold : (f : Mode → Bool) (ms : List Mode) → list_all f ms ≡ true → list_all f (pop_mode ms) ≡ true
popped-hold f [] h = refl
popped-hold f (m ∷ ms) h = (split (f m) (list_all f ms) h).1

module _ (f : Mode → Bool) (main : (m : Mode) → is_late m ≡ true → f m ≡ true) where
  either : (v : Bool) (m n : Mode) → f m ≡ true → f n ≡ true → f (if v then m else n) ≡ true
  either true m n h k = h
  either false m n h k = k

  select-holds : (es : List OpenElement) → f (select_mode es) ≡ true
  select-holds [] = main mode.InSelect refl
  select-holds (e ∷ es) =
      either (is_word word.Template e.name) mode.InSelect _ (main mode.InSelect refl)
      (either (is_word word.Table e.name) mode.InSelectInTable (select_mode es) (main mode.InSelectInTable refl) (select-holds es))

  template-holds : (ms : List Mode) → list_all f ms ≡ true → f (template_mode ms) ≡ true
  template-holds [] h = main mode.InBody refl
  template-holds (m ∷ ms) h = (split (f m) (list_all f ms) h).0

  root-holds : (head : Option NodeId) → f (root_mode head) ≡ true
  root-holds None = main mode.BeforeHead refl
  root-holds (Some i) = main mode.AfterHead refl

  abbrev holds_if_any : Option Mode → Type 0
  holds_if_any None = ⊤
  holds_if_any (Some m) = f m ≡ true

  either_told : (v : Bool) (m n : Option Mode) → holds_if_any m → holds_if_any n → holds_if_any (if v then m else n)
  either_told true m n h k = h
  either_told false m n h k = k

  told-or : (m : Option Mode) (n : Mode) → holds_if_any m → f n ≡ true → f (unwrap_or m n) ≡ true
  told-or None n h k = k
  told-or (Some m) n h k = h

  told-holds : (n : Name) (s t r : Mode) → f s ≡ true → f t ≡ true → f r ≡ true → holds_if_any (told_mode n s t r)
  told-holds n s t r hs ht hr =
      either_told (is_word word.Select n) _ _ hs (either_told (is_one_of group.Cells n) _ _ (main mode.InCell refl)
      (either_told (is_word word.Tr n) _ _ (main mode.InRow refl) (either_told (is_one_of group.TableSections n) _ _ (main mode.InTableBody refl)
      (either_told (is_word word.Caption n) _ _ (main mode.InCaption refl) (either_told (is_word word.Colgroup n) _ _ (main mode.InColumnGroup refl)
      (either_told (is_word word.Table n) _ _ (main mode.InTable refl) (either_told (is_word word.Template n) _ _ ht
      (either_told (is_word word.Head n) _ _ (main mode.InHead refl) (either_told (is_word word.Body n) _ _ (main mode.InBody refl)
      (either_told (is_word word.Frameset n) _ _ (main mode.InFrameset refl) (either_told (is_word word.Html n) _ _ hr tt)))))))))))

  pub reset-holds : (c : Option OpenElement) (es : List OpenElement) (head : Option NodeId) (ms : List Mode) → list_all f ms ≡ true → f (reset_mode c es head ms) ≡ true
  reset-holds c [] head ms h = main mode.InBody refl
  reset-holds None (e ∷ es) head ms h =
      told-or (told_mode e.name (select_mode es) (template_mode ms) (root_mode head)) _ (told-holds e.name _ _ _ (select-holds es) (template-holds ms h) (root-holds head)) (reset-holds None es head ms h)
  reset-holds (Some c) (e ∷ []) head ms h =
      told-or (context_mode c.name (template_mode ms) (root_mode head)) _
      (either_told (is_one_of group.Cells c.name || is_word word.Head c.name) None (told_mode c.name mode.InSelect (template_mode ms) (root_mode head)) tt
      (told-holds c.name _ _ _ (main mode.InSelect refl) (template-holds ms h) (root-holds head))) (main mode.InBody refl)
  reset-holds (Some c) (e ∷ d ∷ es) head ms h =
      told-or (told_mode e.name (select_mode (d ∷ es)) (template_mode ms) (root_mode head)) _ (told-holds e.name _ _ _ (select-holds (d ∷ es)) (template-holds ms h) (root-holds head)) (reset-holds (Some c) (d ∷ es) head ms h)
