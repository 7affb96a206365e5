-- How heavy the lists are that the primitives find and make.
use Rattle.std.specs.Prelude.{ℕ, ◌≤◌, Err}
use Rattle.std.proofs.Common.{arith}
use Rattle.model_objects.specs.Object.{Object, Integer, Symbol, Text, Pair, weight, max_weight}
use Rattle.model_prims.specs.Lists.{len, revappended}
use Rattle.acl_base.specs.declared.Word.{Word}
use Rattle.acl_base.specs.declared.Word.TheVariants.{Small, Big, Sym, Str, Cons}
use Rattle.acl_heap.specs.Objects.{Objects, object_of, Lies, IsHeap, IsCellObject, nothing}
use Rattle.acl_heap.specs.Faults.{RefusedFor}
use Rattle.acl_heap.specs.declared.HeapFault.{HeapFault}
use Rattle.acl_heap.specs.declared.HeapFault.TheVariants.{TooLarge, Memory}
use Rattle.acl_prims.specs.Made.{Holds}
use Rattle.std.proofs.Common.{get_or}

cell_weight : (o : Object ℕ) → IsCellObject o → weight o ≤ max_weight
cell_weight (Integer n) h = omega arith
cell_weight (Symbol s) h = absurd h
cell_weight (Text bytes) h = h
cell_weight (Pair a d) h = h

pub word_weight : (h : Objects) (w : Word) → IsHeap h → Lies h w → weight (object_of h w) ≤ max_weight
word_weight h (Small n) i l = omega arith
word_weight h (Big n) i l = cell_weight (get_or h n nothing) (i.cell n (omega arith))
word_weight h (Sym s) i l = omega arith
word_weight h (Str n) i l = cell_weight (get_or h n nothing) (i.cell n (omega arith))
word_weight h (Cons n) i l = cell_weight (get_or h n nothing) (i.cell n (omega arith))

pub len_weight : (o : Object ℕ) → len o ≤ weight o
len_weight (Integer n) = omega arith
len_weight (Symbol s) = omega arith
len_weight (Text bytes) = omega arith
len_weight (Pair a d) = omega (arith, len_weight d)

pub revappended_weight : (x y : Object ℕ) → weight y ≤ weight (revappended x y)
revappended_weight (Integer n) y = omega arith
revappended_weight (Symbol s) y = omega arith
revappended_weight (Text bytes) y = omega arith
revappended_weight (Pair a d) y = omega (arith, revappended_weight d (Pair a y))

-- a part that a heap refused is a part of what it would refuse
pub refused_part : (h : Objects) (o p : Object ℕ) (e : HeapFault) → RefusedFor (weight p) e → weight p ≤ weight o → Holds h o (Err e)
refused_part h o p (TooLarge n) r l = omega (arith, r.1)
refused_part h o p Memory r l = tt

pub ruleset heavy = (word_weight, refused_part, revappended_weight)
