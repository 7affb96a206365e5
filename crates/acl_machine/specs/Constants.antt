-- That the words of a table of terms lie in a heap, and their symbols are known.
use Rattle.std.specs.Prelude.{◌≡◌, ℕ, List, [], ◌∷◌, length, Option, Some, None, slice_get}
use Rattle.model_symbols.specs.Symbols.{Table}
use Rattle.acl_heap.specs.Objects.{Objects}
use Rattle.acl_forms.specs.Forms.{IsWhole}
use Rattle.acl_code.specs.declared.term.Operand.{Operand}
use Rattle.acl_code.specs.declared.term.Operand.TheVariants as operand
use Rattle.acl_code.specs.declared.term.Child.{Child}
use Rattle.acl_code.specs.declared.term.Term.{Term}
use Rattle.acl_code.specs.declared.term.Term.TheVariants as term
use Rattle.acl_code.specs.Tables.{TermsLie}
use Rattle.acl_code.specs.Constants.{ConstantsAreKnown}

abbrev pub IndexIsWhole : Table → Objects → Option Operand → Type 0
IndexIsWhole t h None = Unit {0}
IndexIsWhole t h (Some (operand.Slot s)) = Unit {0}
IndexIsWhole t h (Some (operand.Const w)) = IsWhole t h w

abbrev pub IndicesAreWhole : Table → Objects → List Child → Type 0
IndicesAreWhole t h [] = Unit {0}
IndicesAreWhole t h (c ∷ cs) = IndexIsWhole t h c.index × IndicesAreWhole t h cs

-- the word of a term's own, and of the indices of its children
abbrev pub TermIsWhole : Table → Objects → Term → Type 0
TermIsWhole t h (term.Slot s) = Unit {0}
TermIsWhole t h (term.Const w) = IsWhole t h w
TermIsWhole t h (term.Part u) = Unit {0}
TermIsWhole t h (term.If at test held other) = Unit {0}
TermIsWhole t h (term.Let at bound body) = Unit {0}
TermIsWhole t h (term.Mv at parts) = Unit {0}
TermIsWhole t h (term.MvLet at bound body) = Unit {0}
TermIsWhole t h (term.StobjLet at children producer consumer) = IndicesAreWhole t h children
TermIsWhole t h (term.WithLocal at stobj producer body) = Unit {0}
TermIsWhole t h (term.MustBeEqual logic) = Unit {0}
TermIsWhole t h (term.Call at function actuals) = Unit {0}

-- those of all terms
pub record ConstantsAreWhole (t : Table) (h : Objects) (terms : List Term) : Type 0 where
  pub whole : (n : ℕ) (x : Term) → slice_get terms n ≡ Some x → TermIsWhole t h x

-- those that lie in a heap, and whose symbols are known, are whole
pub record KnownAreWhole : Type 0 where
  pub whole : (t : Table) (h : Objects) (terms : List Term) → TermsLie h terms → ConstantsAreKnown (length t.symbols) h terms → ConstantsAreWhole t h terms
