-- The arguments of a call by their numbers, and growth of heap and table.
use Rattle.std.specs.Prelude.{◌≡◌, ℕ, zero, suc, ◌<◌, ◌≤◌, List, [], ◌∷◌, length, Result, Ok, Err, IfOk, refl}
use Rattle.std.proofs.Common.{get_or, arith}
use Rattle.model_objects.specs.Object.{Object, Symbol}
use Rattle.model_objects.specs.Named.{Knows}
use Rattle.model_symbols.specs.Symbols.{Table}
use Rattle.model_symbols.specs.Opening.{nil}
use Rattle.model_prims.specs.Kinds.{by_number}
use Rattle.model_prims.specs.Applied.{argument, applied_to}
use Rattle.model_prims.specs.declared.prim.Prim.{Prim}
use Rattle.model_prims.proofs.GivenLemmas.{gives_known}
use Rattle.acl_base.specs.declared.Word.{Word}
use Rattle.acl_heap.specs.Objects.{Objects, object_of}
use Rattle.acl_forms.specs.Forms.{IsWhole, AreWhole}
use Rattle.acl_numbers.specs.declared.stops.PrimStop.{PrimStop}
use Rattle.acl_numbers.specs.Answers.{IsAnswer}
use Rattle.acl_prims.specs.Made.{objects_of}

pub whole_at : (t : Table) (h : Objects) (ws : List Word) (n : ℕ) (d : Word) → AreWhole t h ws → n < length ws → IsWhole t h (get_or ws n d)
whole_at t h [] n d a l = absurd (omega arith)
whole_at t h (w ∷ ws) zero d a l = a.0
whole_at t h (w ∷ ws) (suc n) d a l = whole_at t h ws n d a.1 (omega arith)

pub object_at : (h : Objects) (ws : List Word) (n : ℕ) (d : Word) → n < length ws → object_of h (get_or ws n d) ≡ argument by_number (objects_of h ws) n
object_at h [] n d l = absurd (omega arith)
object_at h (w ∷ ws) zero d l = refl
object_at h (w ∷ ws) (suc n) d l = object_at h ws n d (omega arith)

pub none_at : (h : Objects) (ws : List Word) (n : ℕ) → length ws ≤ n → Symbol 1 ≡ argument by_number (objects_of h ws) n
none_at h [] n l = refl
none_at h (w ∷ ws) zero l = absurd (omega arith)
none_at h (w ∷ ws) (suc n) l = none_at h ws n (omega arith)

-- the answer's value is whole, where the arguments are
pub whole_answer : (t new : Table) (h : Objects) (p : Prim) (x y z : Object ℕ) (r : Result Word PrimStop) → nil < length t.symbols
    → Knows (length t.symbols) x → Knows (length t.symbols) y → Knows (length t.symbols) z
    → IsAnswer h new.symbols (applied_to t p x y z) r → IfOk r (IsWhole new h)
whole_answer t new h p x y z (Ok w) l i j k a = record { lies = a.lies; known = gives_known.known t p x y z (object_of h w) new.symbols l i j k a.gives }
whole_answer t new h p x y z (Err s) l i j k a = tt
