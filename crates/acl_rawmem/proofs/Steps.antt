-- What the proofs by hand cite of the logic, under one name.
pub use Rattle.std.proofs.Common.{◌*◌, ◌++◌, ◌+◌, ◌-◌, ◌<◌, List, [], ◌^◌, ap, arith, length, lit<, refl, subst, suc, sym, ℕ, ◌∙◌, ◌∷◌, ◌≡◌}
pub use Rattle.std.proofs.raw_atomic.Walks.{proved}
pub use base.Fml.{Fml, feq, flft, froom, fsep, ftrue}
pub use base.Fraction.{full_share}
pub use base.Logic.{emp, id⊢}
pub use contract.Monad.{fact}
pub use contract.Running.{tables}
pub use denote.Array.{Array}
pub use denote.Builtin.{unit, usize}
pub use denote.Exit.{no, yes}
pub use denote.Index.{elem_back, elem_out, elem_put, looks_slice, place, place_is, row, shuts_slice}
pub use denote.Laws.{Is, shows}
pub use denote.Memory.{cell_at, lone, part_at, shares}
pub use denote.Param.Laws.{IsCopy, copied_copy, copied_laws, param_laws}
pub use denote.Param.{bounded, copied, param}
pub use denote.Plain.{uint_Makes, uint_Tells, uint_vals}
pub use denote.RawPtr.{Ptr, RawPtr, block_ptr, in_a_block, lies_at, ptr_val, rawptr_Lawful, rawptr_vals}
pub use denote.Ref.{MutRef, mut_Tells, mut_vals}
pub use denote.Signature.{plain}
pub use denote.Steps.{closes, heard, looks, nothing, only, opens, owned, peeks, shuts}
pub use denote.Triple.Call.{calls_at, calls_at_last}
pub use denote.Triple.Spec.{triple_of}
pub use denote.Triple.Table.{framed}
pub use denote.Triple.Walked.{Goes-dropped, Goes-ref, Stays, ends_at, says, stay_dropped, stay_ref, walk_of}
pub use mir.Syntax.{Ty, a_type, dcons, dnil, named, w64}
pub use mir.Val.{Val, vint, vptr, vunit}
pub use prog.Memory.{size}
pub use types.ByLocal.{alloc_all, env, free_all, get, get_in, get_tag, is, lands_as, lands_last, look_at, pass_all, sets, sets_last, through}
pub use types.Kit.{ !, ◌$◌, at_ret, await, done, drop, feq_i, feq_l, fjoin, flt_i, flt_l, frame, fsplit, fsplit3, group, join, keep, later, move, pick, qed, raw, rewrite, split, suffices, use0, use1, use2, ‵, ◌∵◌, ◌⊛◌}
pub use types.Part.{look_in, sub, whole}
pub use types.Run.{align_word, and_then, assigns_last, bin, blocks, branches, enter, exec, first, fld, init, lit, load, look, look_raw, no_more, of_opd, returns, returns_within, size_lit, skips, stop, store_raw, unit_lit}
