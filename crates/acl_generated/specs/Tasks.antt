-- What the functions of a field take and give, as the definition has it.
use Rattle.std.specs.Prelude.{ℕ, map}
use Rattle.model_terms.specs.Worlds as worlds
use Rattle.model_stobjs.specs.Entries as entries
use Rattle.acl_terms.specs.declared.stobj.Shape.{Shape}
use Rattle.acl_terms.specs.declared.stobj.Shape.TheVariants as shape
use Rattle.acl_generated.specs.declared.tasks.Slot.{Slot}
use Rattle.acl_generated.specs.declared.tasks.Slot.TheVariants.{Ordinary, Itself, Held}
use Rattle.acl_generated.specs.declared.tasks.Task.{Task}

-- of this stobj, where the field holds that one
abbrev pub seen_slot : ℕ → ℕ → Slot → worlds.Out
seen_slot stobj held Ordinary = worlds.Ordinary
seen_slot stobj held Itself = worlds.Stobj stobj
seen_slot stobj held Held = worlds.Stobj held

abbrev pub seen_task : ℕ → ℕ → Task → entries.Task
seen_task stobj held t = (t.role, record { ins = map (seen_slot stobj held) t.ins.now; outs = map (seen_slot stobj held) t.outs.now })

-- the stobj that a field holds
abbrev pub held_number : Shape → ℕ
held_number (shape.Scalar spec initial) = 0
held_number (shape.Array spec initial len resizable) = 0
held_number (shape.Hash test) = 0
held_number (shape.Child stobj) = stobj.0
held_number (shape.Children stobj len) = stobj.0
