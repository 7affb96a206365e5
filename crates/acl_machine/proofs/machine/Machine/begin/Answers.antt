use Rattle.std.proofs.Common.{rules, ◌∙◌, ap, Some}
use Rattle.acl_machine.proofs.BeginLemmas.{by_ok, begins_slot, begins_const, begins_nowhere, begins_if, begins_let, begins_mv, begins_mv_let, begins_must_be_equal, begins_call, begins_stobj_let}
use Rattle.acl_machine.proofs.StaysLemmas.{sound_slot, sound_const, sound_begun, sound_waiting, sound_let, sound_mv, sound_call}
use Rattle.acl_machine.proofs.machine.Machine.begin.Goals as goal

pub returns-then-t-len : goal.returns-then-t-len
returns-then-t-len g c = record {
  ok = by_ok c.begin_slot.result (begins_nowhere g.K.Keeper.keeping _ _ _ _ c.requires.begins (search rules) _) c.begin_slot.ensures;
  sound = by_ok c.begin_slot.result (sound_slot _ _ _ _ c.requires.sound _) c.begin_slot.ensures;
}

pub returns-in-Slot : goal.returns-in-Slot
returns-in-Slot g c = record {
  ok = by_ok c.begin_slot-in-Slot.result (begins_slot g.K.Keeper.keeping _ _ _ _ _ c.requires.begins c.is_table.ensures (c.term.ensures ∙ ap Some c.in-Slot.is) _) c.begin_slot-in-Slot.ensures;
  sound = by_ok c.begin_slot-in-Slot.result (sound_slot _ _ _ _ c.requires.sound _) c.begin_slot-in-Slot.ensures;
}

pub returns-in-Const : goal.returns-in-Const
returns-in-Const g c = record {
  ok = by_ok c.give_one.result (begins_const g.K.Keeper.keeping _ _ _ _ _ c.requires.begins c.is_table.ensures (c.term.ensures ∙ ap Some c.in-Const.is) _) c.give_one.ensures;
  sound = by_ok c.give_one.result (sound_const _ _ _ _ _ _ c.requires.constants (c.term.ensures ∙ ap Some c.in-Const.is) c.requires.sound _) c.give_one.ensures;
}

pub returns-in-If : goal.returns-in-If
returns-in-If g c = record {
  ok = by_ok c.begin_if.result (begins_if g.K.Keeper.keeping _ _ _ _ _ _ _ _ c.requires.begins c.is_table.ensures (c.term.ensures ∙ ap Some c.in-If.is) _) c.begin_if.ensures;
  sound = by_ok c.begin_if.result (sound_begun _ _ _ _ _ _ c.requires.sound _) c.begin_if.ensures;
}

pub returns-in-Let : goal.returns-in-Let
returns-in-Let g c = record {
  ok = by_ok c.begin_parts.result (begins_let g.K.Keeper.keeping _ _ _ _ _ _ _ c.requires.begins c.is_table.ensures (c.term.ensures ∙ ap Some c.in-Let.is) _) c.begin_parts.ensures;
  sound = by_ok c.begin_parts.result (sound_let _ _ c.args.terms.now c.args.self.now _ c.args.base _ _ _ (c.term.ensures ∙ ap Some c.in-Let.is) c.requires.sound _) c.begin_parts.ensures;
}

pub returns-in-Mv : goal.returns-in-Mv
returns-in-Mv g c = record {
  ok = by_ok c.begin_parts-in-Mv.result (begins_mv g.K.Keeper.keeping _ _ _ _ _ _ c.requires.begins c.is_table.ensures (c.term.ensures ∙ ap Some c.in-Mv.is) _) c.begin_parts-in-Mv.ensures;
  sound = by_ok c.begin_parts-in-Mv.result (sound_mv _ _ c.args.terms.now c.args.self.now _ c.args.base _ _ (c.term.ensures ∙ ap Some c.in-Mv.is) c.requires.sound _) c.begin_parts-in-Mv.ensures;
}

pub returns-in-MvLet : goal.returns-in-MvLet
returns-in-MvLet g c = record {
  ok = by_ok c.begin_several.result (begins_mv_let g.K.Keeper.keeping _ _ _ _ _ _ _ c.requires.begins c.is_table.ensures (c.term.ensures ∙ ap Some c.in-MvLet.is) _) c.begin_several.ensures;
  sound = by_ok c.begin_several.result (sound_begun _ _ _ _ _ _ c.requires.sound _) c.begin_several.ensures;
}

pub returns-in-StobjLet : goal.returns-in-StobjLet
returns-in-StobjLet g c = record {
  ok = by_ok c.begin_children.result (begins_stobj_let g.K.Keeper.keeping _ _ _ _ _ _ _ _ c.requires.begins c.is_table.ensures (c.term.ensures ∙ ap Some c.in-StobjLet.is) _) c.begin_children.ensures;
  sound = by_ok c.begin_children.result (sound_waiting _ _ _ _ _ c.requires.sound _) c.begin_children.ensures;
}

pub returns-in-MustBeEqual : goal.returns-in-MustBeEqual
returns-in-MustBeEqual g c = record {
  ok = by_ok c.begin_logic.result (begins_must_be_equal g.K.Keeper.keeping _ _ _ _ _ c.requires.begins c.is_table.ensures (c.term.ensures ∙ ap Some c.in-MustBeEqual.is) _) c.begin_logic.ensures;
  sound = by_ok c.begin_logic.result (sound_begun _ _ _ _ _ _ c.requires.sound _) c.begin_logic.ensures;
}

pub returns-in-Call : goal.returns-in-Call
returns-in-Call g c = record {
  ok = by_ok c.begin_parts-in-Call.result (begins_call g.K.Keeper.keeping _ _ _ _ _ _ _ c.requires.begins c.is_table.ensures (c.term.ensures ∙ ap Some c.in-Call.is) _) c.begin_parts-in-Call.ensures;
  sound = by_ok c.begin_parts-in-Call.result (sound_call _ _ c.args.terms.now c.args.self.now _ c.args.base _ _ _ (c.term.ensures ∙ ap Some c.in-Call.is) c.requires.sound _) c.begin_parts-in-Call.ensures;
}
