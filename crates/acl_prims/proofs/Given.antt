-- An object that the heap holds, or not, is the answer of a call that is to give it.
use Rattle.std.specs.Prelude.{ℕ, List, Result, Ok, Err}
use Rattle.std.proofs.Common.{arith}
use Rattle.model_objects.specs.Object.{Object}
use Rattle.model_symbols.specs.Symbols.{QualifiedName}
use Rattle.model_prims.specs.Applied.{weighed}
use Rattle.acl_base.specs.declared.Word.{Word}
use Rattle.acl_heap.specs.Objects.{Objects}
use Rattle.acl_heap.specs.declared.HeapFault.{HeapFault}
use Rattle.acl_heap.specs.declared.HeapFault.TheVariants.{TooLarge, Memory}
use Rattle.acl_prims.specs.Made.{Holds}
use Rattle.acl_numbers.specs.Answers.{IsAnswer, answer_of}

pub given : (h : Objects) (symbols : List QualifiedName) (o : Object ℕ) (r : Result Word HeapFault) → Holds h o r → IsAnswer h symbols (weighed symbols o) (answer_of r)
given h symbols o (Ok w) m = grind arith
given h symbols o (Err (TooLarge n)) m = grind arith
given h symbols o (Err Memory) m = tt
