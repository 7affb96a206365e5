-- What the tests hand to a primitive.
use Rattle.std.specs.Prelude.{ℕ, length}
use Rattle.std.proofs.Common.{sym, subst}
use Rattle.model_objects.specs.Object.{Object}
use Rattle.model_objects.specs.Named.{Knows}
use Rattle.model_symbols.specs.Symbols.{Table}
use Rattle.acl_base.specs.declared.Word.{Word}
use Rattle.acl_heap.specs.Objects.{Objects, Denotes, Extends}
use Rattle.acl_forms.specs.Forms.{IsWhole}
use Rattle.acl_forms.specs.Growth.{Grown-heap}
use Rattle.acl_prims.proofs.Opened.{truth_known, opened_at_first, opened_later}

pub whole_of : (t : Table) (h : Objects) (w : Word) (o : Object ℕ) → Denotes h w o → Knows (length t.symbols) o → IsWhole t h w
whole_of t h w o d k = record { lies = d.lies; known = subst (λ (p : Object ℕ). Knows (length t.symbols) p) (sym d.is) k }

-- a whole word stays whole when the heap grows
pub whole_later : (t : Table) (h h' : Objects) (w : Word) → Extends h h' → IsWhole t h w → IsWhole t h' w
whole_later t h h' w e i = (Grown-heap e).whole w i

pub ruleset wholes = (whole_of, truth_known)

pub ruleset later = (whole_later, opened_at_first, opened_later)
