-- The kinds of instructions.
use Rattle.std.specs.Prelude.{Bool, true, false, not, ◌&&◌}
use Rattle.html_types.specs.declared.instruction.Instr.{Instr}
use Rattle.html_types.specs.declared.instruction.Instr.TheVariants as ins

-- it only asks a question
abbrev pub is_guard : Instr → Bool
is_guard (ins.Need c) = true
is_guard (ins.Forbid c) = true
is_guard (ins.When c) = true
is_guard (ins.Unless c) = true
is_guard _ = false

-- behind it the row goes on, whatever the open state is
abbrev pub goes_on : Instr → Bool
goes_on (ins.Need c) = false
goes_on (ins.Forbid c) = false
goes_on (ins.When c) = false
goes_on (ins.Unless c) = false
goes_on ins.Insert = false
goes_on (ins.InsertA w) = false
goes_on ins.InsertRoot = false
goes_on ins.InsertRootA = false
goes_on ins.InsertAndPop = false
goes_on (ins.InsertAndPopA w) = false
goes_on (ins.InsertAndPopAs w) = false
goes_on ins.InsertForeign = false
goes_on (ins.InsertIn s) = false
goes_on ins.BreakOut = false
goes_on ins.ForeignEnd = false
goes_on ins.Reconstruct = false
goes_on ins.PushHead = false
goes_on ins.InsertPending = false
goes_on ins.Adopt = false
goes_on ins.AdoptAnchor = false
goes_on ins.AdoptNobr = false
goes_on (ins.SwitchTokenizer r) = false
goes_on (ins.UsingRules m) = false
goes_on ins.InBodyFostering = false
goes_on ins.Reprocess = false
goes_on ins.StopAtScript = false
goes_on ins.Finish = false
goes_on _ = true

-- it may take memory: it adds to a list or to the pending text, takes an entry out of a list, or asks for an operation that makes no element
abbrev pub takes_memory : Instr → Bool
takes_memory ins.InsertText = true
takes_memory ins.InsertReplacement = true
takes_memory ins.InsertComment = true
takes_memory ins.CommentToPage = true
takes_memory ins.CommentToRoot = true
takes_memory ins.AppendDoctype = true
takes_memory ins.AddToFirst = true
takes_memory ins.AddToSecond = true
takes_memory ins.DetachSecond = true
takes_memory ins.PushFormatting = true
takes_memory ins.PushMarker = true
takes_memory (ins.PushTemplateMode m) = true
takes_memory ins.AppendPending = true
takes_memory (ins.TakeOff i) = true
takes_memory ins.TakeHeadOff = true
takes_memory ins.EndForm = true
takes_memory _ = false

-- it only changes the open state, and takes no memory
abbrev pub is_change : Instr → Bool
is_change i = goes_on i && not (takes_memory i)
