-- `join` glues the tokens.
use Rattle.std.proofs.Common.{◌≡◌, ℕ, ◌+◌, ◌-◌, ◌^◌, ◌<◌, ◌≤◌, ◌&&◌, T, true, List, [], ◌∷◌, ◌++◌, sym, refl, ap, ◌∙◌, subst, arith}
use mir.Syntax.{a_type, dcons, dnil, named}
use mir.Val.{Val, vunit, vptr, vstruct, vcons, vnil, of_list, has_ty, WT}
use mir.MapTy.{inst_fn}
use mir.Raw.{raw as bare}
use base.Fraction.{full_share}
use base.Logic.{SProp, ent, sep, emp, id⊢, guard_i, fst∗, never}
use base.Fml.{Lft, Share, Fml, ftrue, fsep, fex, feq, flft, fhide, flent}
use types.Logic.{sem}
use types.Kit.{Item, ‵, raw, ◌⊛◌, some, given, later, at_ret, ◌$◌, ◌∵◌, !, qed, by, move, keep, drop, split, split3, join, fsplit, fsplit3, fjoin, fjoin3, fpick, fpack, pick, learn, use0, use1, use2, await, rewrite, feq_i, feq_l, suffices, done}
use types.Run.{stop, fld, hop, load, addr, unit_lit, of_opd, no_more, and_then, first, blocks, exec, returns, enter}
use types.ByLocal.{alloc_all, pass_all, free_all, look_at, get, get_in, through, sets, sets_last, lands_as, lands_last, is, env}
use types.Part.{agg, sub, whole, look_in}
use contract.Running.{tables}
use contract.Monad.{fact, fact_i, fact_use}
use contract.BorrowLft.{◌⊑◌}
use denote.Exit.{yes, no}
use denote.RattleType.{RattleType, Valss, owns}
use denote.Signature.{types_at, plain}
use denote.RawPtr.{Ptr, InBlock, block_ptr, null_ptr, ptr_val, block_of, count_of, at_block, lies_at, in_a_block}
use denote.Steps.{nothing, only, peeks, heard, opens, closes, looks, shuts}
use denote.Opens.{unhide, hide}
use denote.Laws.{Is, shows}
use denote.Memory.{cell_at, hidden_shr}
use denote.Param.{param, layout, layouts, bounded}
use denote.Param.Laws.{param_laws}
use denote.Builtin.{RefOf, RawPtr}
use denote.Ref.{mut_vals, mut_Tells, shr_vals, shr_Tells}
use denote.Shares.{Shares-less}
use denote.Struct.Tuple.{Tuple}
use denote.Struct.Struct.{within}
use denote.Struct.Owning.{shape}
use denote.Struct.Lending.{lent_at, lent_at_shr_laws, lent_out, in_block_says, Lends-lies}
use denote.SharingLaws.{contraction}
use denote.Triple.Entry.{alive}
use denote.Triple.Spec.{triple_of}
use denote.Triple.Call.{calls_at, calls_at_last}
use denote.Triple.Walked.{Stays, stay_dropped, stay_ref, walk_of, Goes-dropped, Goes-ref}
use Rattle.two_copies.proofs.Tails.{tail}
use Rattle.atomic_table.proofs.Walks.{proved, proved_at, leaves}
use Rattle.atomic_table.proofs.Calls.{fm}
use Rattle.atomic_table.proofs.Fields.{Ptr-Good, strip_good}
use Rattle.two_copies.specs.Parted.{tokens, placed, part_owns, part_shares, deed_owns}
use Rattle.two_copies.specs.contracts.part.Part as part
use Rattle.two_copies.proofs.PartFields.{word, Data, told, made, opened}
use Rattle.two_copies.proofs.PartSteps.{tokens_cut, tokens_glue, part_sees, part_lies, freezes, thaws, Frozen}
use Rattle.two_copies.specs.contracts.part.Part.join.{ended, clauses}
use Rattle.two_copies.specs.contracts.part.Part.join.Key.{name as #self}
use Rattle.two_copies.proofs.part.Part.join.Statement.{statement}
use Rattle.two_copies.proofs.part.Part.join.Code as code

pub join_spec : {M : Type 1} → statement M
join_spec 𝓤 𝓛 𝓜 𝓡 wired X L =
    let H = 𝓛.H in let 𝓣 = tables 𝓤 H 𝓜 𝓡 𝓡.env in let R : RattleType = param 0 X in let En = ended X in let inst = layouts (a_type ∷ []) (X, tt) in let fn = inst_fn inst code.function in
    let Row : RattleType = part.the_row R in let D : RattleType = Data R in let c = clauses X 𝓛 𝓜.mem 𝓡.returns in let laws = (param_laws 0 X L).shr_laws in
    let self = plain (λ _. Row) in let hs : Stays En.signature.params En.kept = (stay_ref (0 ∷ []) tt self, (stay_dropped self no, tt)) in
    proved 𝓛 En hs c 𝓜 𝓡 (Goes-ref 𝓛 2 0 tt self, (Goes-dropped 𝓛 2 self no (λ κs x f. refl), tt)) (#self inst) fn (code.unfolded 𝓤 H 𝓜 𝓡 wired (X, tt))
    (λ κs. (mut_vals, ((λ e. word e.ptr ∷ []), tt))) (λ κs. (mut_Tells (named 0) κs.0 Row, ((λ e vs so. told R e.ptr vs so.0), tt))) (λ κs qs bounds a gh are.
    let b : ℕ = a.0.ref_ptr.0 in let o : ℕ = a.0.ref_ptr.1 in let κ : Lft = κs.0 in let d : Row.Denot = a.0.now in let p : Ptr = d.ptr in let x : X.Denot = d.value in let others : Fml = fsep (flft κs.1.0 qs.1.0) ftrue in
    let n : ℕ = d.round in let k : ℕ = d.count in let e : Row.Denot = a.1.0 in let j : ℕ = e.count in let d' : Row.Denot = record d { count = k + j } in let Asked : Type 0 = (e.round ≡ n) × (0 < k) × (k + j ≤ 2 ^ 63) in
    let y : (walk_of 𝓛 En hs c).Ghost = ((κs, qs, bounds, a, (vptr b o ∷ [], (word e.ptr ∷ [], tt))), gh) in let Post : Val → SProp 𝓤 = (walk_of 𝓛 En hs c).post y in
    qed 𝓛 (((‵ (flft κ qs.0) ⊛ ‵ others) ⊛ ‵ (owns (types_at En.signature.params κs) a y.0.4)) ∷ raw (fact 𝓤 _) ∷ raw (fact 𝓤 Asked) ∷ []) ∵
    keep ! (2 ∷ 0 ∷ []) $ heard ! Asked (λ asked. let some_held = asked.1 in split ! $ split ! $ move ! (2 ∷ []) $ fsplit3 ! $ move ! (1 ∷ []) $ fsplit ! $ drop ! $
    use1 𝓛 (given (InBlock e.ptr) (‵ (part_owns R e.ptr e.value e.round j))) (fact_use 𝓤 _ (part_lies 𝓛 R e.ptr e.value e.round j) (guard_i 𝓤 (InBlock e.ptr) (sem 𝓛 (part_owns R e.ptr e.value e.round j)))) $ learn ! (λ inb.
    fsplit ! $ rewrite ! 0 (λ (m : ℕ). ‵ (tokens m j)) asked.0 refl $ move ! (2 ∷ []) $ fsplit3 ! $ keep ! (1 ∷ 2 ∷ 6 ∷ 7 ∷ 3 ∷ []) $
    enter ! 𝓣.C 𝓣.Λ fn (vptr b o ∷ word e.ptr ∷ []) Post $ alloc_all ! (λ l. pass_all ! refl ((tt, tt), (strip_good e.ptr inb, tt)) $
    opens ! tt Row b o (λ vs. move ! (1 ∷ []) $ fsplit ! $ move ! (1 ∷ []) $ fsplit ! $ move ! (0 ∷ 8 ∷ []) $ use2 𝓛 (‵ (tokens n (k + j))) (tokens_glue 𝓛 n k j (omega arith) asked.2) $ fjoin ! $
    move ! (1 ∷ 0 ∷ []) $ fjoin ! $ move ! (1 ∷ 0 ∷ []) $ closes ! tt Row d' vs b o $ feq_i ! (List Val) (vptr b o ∷ []) (vptr b o ∷ []) refl $ fjoin3 ! $
    nothing ! $ nothing ! $ fjoin ! $ move ! (1 ∷ 0 ∷ []) $ fjoin ! $ move ! (1 ∷ 2 ∷ []) $ join ! $
    sets ! (of_opd ! (unit_lit !)) refl (tt, tt) $ use0 𝓛 (raw (fact 𝓤 (d' ≡ d'))) (fact_i 𝓤 (d' ≡ d') (emp 𝓤) refl) $ feq_i ! (List Val) (vunit ∷ []) (vunit ∷ []) refl $
    returns ! (look_at ! 0 refl) $ free_all ! refl $ keep ! (2 ∷ 3 ∷ 0 ∷ 1 ∷ []) $ by ! (leaves 𝓛 En hs c y vunit tt (d', (tt, tt)) (tt, (tt, tt))))))))
