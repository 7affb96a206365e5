-- Where the words of children lie while they are found.
use Rattle.std.specs.Prelude.{◌≤◌, List, map, length, Option, Some, None}
use Rattle.acl_base.specs.declared.SymId.{SymId}
use Rattle.acl_heap.specs.Objects.{Objects}
use Rattle.acl_terms.specs.declared.form.Core.{Core}
use Rattle.acl_terms.specs.Forms.{core_reach, most, CoreLies}
use Rattle.acl_code.specs.declared.term.Operand.{Operand}
use Rattle.acl_code.specs.declared.term.Child.{Child}
use Rattle.acl_code.specs.Tables.{operand_reach, child_reach}

-- the word of an operand
abbrev pub OperandLies : Objects → Operand → Type 0
OperandLies h o = operand_reach o ≤ length h

-- the words of a form that is an index, where there is one
abbrev pub AtLies : Objects → Option Core → Type 0
AtLies h None = Unit {0}
AtLies h (Some f) = CoreLies h f

-- the word of a child, where there is one
abbrev pub ChildLies : Objects → Option Child → Type 0
ChildLies h None = Unit {0}
ChildLies h (Some c) = child_reach c ≤ length h

-- the words of the forms of bindings
abbrev pub BoundLie : Objects → List (SymId × Core) → Type 0
BoundLie h bs = most (map (λ (b : SymId × Core). core_reach b.1) bs) ≤ length h
