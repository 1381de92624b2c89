-- Reset the insertion mode appropriately (13.2.4.1 #the-insertion-mode).
use Rattle.std.specs.Prelude.{◌||◌, if◌then◌else◌, unwrap_or, List, [], ◌∷◌, Option, Some, None}
use Rattle.html_types.specs.declared.word.Word.TheVariants as word
use Rattle.html_types.specs.declared.instruction.Group.TheVariants as group
use Rattle.html_types.specs.declared.instruction.Mode.{Mode}
use Rattle.html_types.specs.declared.instruction.Mode.TheVariants as mode
use Rattle.html_types.specs.declared.name.Name.{Name}
use Rattle.html_types.specs.declared.operation.NodeId.{NodeId}
use Rattle.html_types.specs.declared.open.OpenElement.{OpenElement}
use Rattle.standard.specs.Elements.{is_word, is_one_of}

-- the mode of a select, by what lies above it: a table with no template between, or not
abbrev pub select_mode : List OpenElement → Mode
select_mode [] = mode.InSelect
select_mode (e ∷ es) =
    if is_word word.Template e.name then mode.InSelect
    else (if is_word word.Table e.name then mode.InSelectInTable else select_mode es)

-- the current template insertion mode; there always is one where a template is open
abbrev pub template_mode : List Mode → Mode
template_mode [] = mode.InBody
template_mode (m ∷ ms) = m

-- the mode of the html element, by the head element pointer
abbrev pub root_mode : Option NodeId → Mode
root_mode None = mode.BeforeHead
root_mode (Some i) = mode.AfterHead

-- the mode that an element of that name tells, by that of a select there, the current template insertion mode and that of the root
abbrev pub told_mode : Name → Mode → Mode → Mode → Option Mode
told_mode n selects template root =
    if is_word word.Select n then Some selects
    else (if is_one_of group.Cells n then Some mode.InCell
    else (if is_word word.Tr n then Some mode.InRow
    else (if is_one_of group.TableSections n then Some mode.InTableBody
    else (if is_word word.Caption n then Some mode.InCaption
    else (if is_word word.Colgroup n then Some mode.InColumnGroup
    else (if is_word word.Table n then Some mode.InTable
    else (if is_word word.Template n then Some template
    else (if is_word word.Head n then Some mode.InHead
    else (if is_word word.Body n then Some mode.InBody
    else (if is_word word.Frameset n then Some mode.InFrameset
    else (if is_word word.Html n then Some root
    else None)))))))))))

-- the context of a fragment tells it too, but td, th and head
abbrev pub context_mode : Name → Mode → Mode → Option Mode
context_mode n template root = if is_one_of group.Cells n || is_word word.Head n then None else told_mode n mode.InSelect template root

-- by the first element, from the current node on, that tells the mode; in a fragment the context stands for the first element of the stack
abbrev pub reset_mode : Option OpenElement → List OpenElement → Option NodeId → List Mode → Mode
reset_mode context [] head modes = mode.InBody
reset_mode None (e ∷ es) head modes = unwrap_or (told_mode e.name (select_mode es) (template_mode modes) (root_mode head)) (reset_mode None es head modes)
reset_mode (Some c) (e ∷ []) head modes = unwrap_or (context_mode c.name (template_mode modes) (root_mode head)) mode.InBody
reset_mode (Some c) (e ∷ d ∷ es) head modes =
    unwrap_or (told_mode e.name (select_mode (d ∷ es)) (template_mode modes) (root_mode head)) (reset_mode (Some c) (d ∷ es) head modes)
