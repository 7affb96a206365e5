-- The words of the constants in a table of terms, and their symbols: a constant is known where each of them has a number below n.
use Rattle.std.specs.Prelude.{◌≡◌, ℕ, ◌≤◌, List, [], ◌∷◌, length, Option, Some, None, slice_get}
use Rattle.model_objects.specs.Named.{Knows}
use Rattle.acl_base.specs.declared.Word.{Word}
use Rattle.acl_heap.specs.Objects.{Objects, object_of, reach}
use Rattle.model_terms.specs.Cores as cores
use Rattle.model_terms.specs.Cores.{Cores}
use Rattle.acl_terms.specs.declared.form.Core.{Core}
use Rattle.acl_terms.specs.Forms.{seen_core}
use Rattle.acl_code.specs.declared.term.Operand.{Operand}
use Rattle.acl_code.specs.declared.term.Operand.TheVariants as operand
use Rattle.acl_code.specs.declared.term.Child.{Child}
use Rattle.acl_code.specs.declared.term.Term.{Term}
use Rattle.acl_code.specs.declared.term.Term.TheVariants as term

-- ---- words

-- the word of a variable or a constant, where it is a constant
abbrev pub OperandHas : (Word → Type 0) → Operand → Type 0
OperandHas P (operand.Slot s) = Unit {0}
OperandHas P (operand.Const w) = P w

-- the same of an index, where there is one
abbrev pub IndexHas : (Word → Type 0) → Option Operand → Type 0
IndexHas P None = Unit {0}
IndexHas P (Some o) = OperandHas P o

-- and of the indices of children
abbrev pub IndicesHave : (Word → Type 0) → List Child → Type 0
IndicesHave P [] = Unit {0}
IndicesHave P (c ∷ cs) = IndexHas P c.index × IndicesHave P cs

-- a term's own word, and those of the indices of its children
abbrev pub TermHas : (Word → Type 0) → Term → Type 0
TermHas P (term.Slot s) = Unit {0}
TermHas P (term.Const w) = P w
TermHas P (term.Part t) = Unit {0}
TermHas P (term.If at test then other) = Unit {0}
TermHas P (term.Let at bound body) = Unit {0}
TermHas P (term.Mv at parts) = Unit {0}
TermHas P (term.MvLet at bound body) = Unit {0}
TermHas P (term.StobjLet at children producer consumer) = IndicesHave P children
TermHas P (term.WithLocal at stobj producer body) = Unit {0}
TermHas P (term.MustBeEqual logic) = Unit {0}
TermHas P (term.Call at function actuals) = Unit {0}

-- ---- symbols

abbrev pub WordIsKnown : ℕ → Objects → Word → Type 0
WordIsKnown n h w = Knows n (object_of h w)

-- the word lies in the heap too
abbrev pub StandsKnown : ℕ → Objects → Word → Type 0
StandsKnown n h w = (reach w ≤ length h) × WordIsKnown n h w

abbrev pub OperandIsKnown : ℕ → Objects → Operand → Type 0
OperandIsKnown n h o = OperandHas (WordIsKnown n h) o

abbrev pub IndexIsKnown : ℕ → Objects → Option Operand → Type 0
IndexIsKnown n h index = IndexHas (WordIsKnown n h) index

abbrev pub IndicesAreKnown : ℕ → Objects → List Child → Type 0
IndicesAreKnown n h cs = IndicesHave (WordIsKnown n h) cs

abbrev pub TermIsKnown : ℕ → Objects → Term → Type 0
TermIsKnown n h t = TermHas (WordIsKnown n h) t

-- each term's own constant, and each index of its children that is one, has symbols below n
pub record ConstantsAreKnown (n : ℕ) (h : Objects) (terms : List Term) : Type 0 where
  pub known : (i : ℕ) (x : Term) → slice_get terms i ≡ Some x → TermIsKnown n h x

-- the index of a child, where there is one, and those of children, where there are any
abbrev pub ChildIsKnown : ℕ → Objects → Option Child → Type 0
ChildIsKnown n h None = Unit {0}
ChildIsKnown n h (Some c) = IndexIsKnown n h c.index

abbrev pub ChildrenAreKnown : ℕ → Objects → Option (List Child) → Type 0
ChildrenAreKnown n h None = Unit {0}
ChildrenAreKnown n h (Some cs) = IndicesAreKnown n h cs

-- ---- forms

-- the constants that stand in a form
abbrev mutual
  pub FormIsKnown : ℕ → cores.Core → Type 0
  FormIsKnown n (cores.Var x) = Unit {0}
  FormIsKnown n (cores.Const o) = Knows n o
  FormIsKnown n (cores.If a b c) = FormIsKnown n a × FormIsKnown n b × FormIsKnown n c
  FormIsKnown n (cores.Let names bound body) = FormsAreKnown n bound × FormIsKnown n body
  FormIsKnown n (cores.Mv parts) = FormsAreKnown n parts
  FormIsKnown n (cores.MvLet names bound body) = FormIsKnown n bound × FormIsKnown n body
  FormIsKnown n (cores.StobjLet names bound vars producer consumer) = FormsAreKnown n bound × FormIsKnown n producer × FormIsKnown n consumer
  FormIsKnown n (cores.WithLocal stobj names producer body) = FormIsKnown n producer × FormIsKnown n body
  FormIsKnown n (cores.MustBeEqual logic exec) = FormIsKnown n logic × FormIsKnown n exec
  FormIsKnown n (cores.Call f actuals) = FormsAreKnown n actuals

  pub FormsAreKnown : ℕ → Cores → Type 0
  FormsAreKnown n cores.none = Unit {0}
  FormsAreKnown n (cores.more f fs) = FormIsKnown n f × FormsAreKnown n fs

-- those in a form that is an index, where there is one
abbrev pub AtIsKnown : ℕ → Objects → Option Core → Type 0
AtIsKnown n h None = Unit {0}
AtIsKnown n h (Some f) = FormIsKnown n (seen_core h f)
