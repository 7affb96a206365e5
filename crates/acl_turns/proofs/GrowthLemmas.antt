-- What is around a machine stays so as heap and symbols grow.
use Rattle.std.proofs.Common.{◌≡◌, ℕ, ◌<◌, ◌≤◌, List, [], ◌∷◌, length, arith}
use Rattle.std.specs.Prelude.{Option, Some, None, slice_get}
use Rattle.model_symbols.specs.Symbols.{Table}
use Rattle.model_symbols.specs.Opening.{opening}
use Rattle.model_symbols.proofs.TableLemmas.{Extends-then}
use Rattle.model_prims.specs.Rows.{table}
use Rattle.acl_base.specs.declared.SymId.{SymId}
use Rattle.acl_base.specs.declared.Word.{Word}
use Rattle.acl_heap.specs.Objects.{Objects}
use Rattle.acl_forms.specs.Forms.{IsWhole, Grown}
use Rattle.acl_terms.specs.declared.definition.Definition.TheVariants as definition
use Rattle.acl_worlds.specs.Contents.{Content, WorldLies}
use Rattle.acl_code.specs.declared.term.Operand.{Operand}
use Rattle.acl_code.specs.declared.term.Operand.TheVariants as operand
use Rattle.acl_code.specs.declared.term.Child.{Child}
use Rattle.acl_code.specs.declared.term.Term.{Term}
use Rattle.acl_code.specs.declared.term.Term.TheVariants as term
use Rattle.acl_code.specs.Tables.{TermsLie}
use Rattle.acl_machine.specs.Constants.{IndexIsWhole, IndicesAreWhole, TermIsWhole, ConstantsAreWhole}
use Rattle.acl_exec_turns.specs.Execs.{PrimitivesStand}
use Rattle.acl_turns.specs.Surroundings.{Surrounds}

-- a primitive has a row
pub row_within : (w : Content) (n : ℕ) (name : SymId) (row arity : ℕ) → PrimitivesStand w → slice_get w.definitions n ≡ Some (definition.Primitive name row arity) → row < length table
row_within w n name row arity stands e = stands.rows n name row arity e

module _ (t t' : Table) (h h' : Objects) (grown : Grown t t' h h') where
  index_later : (i : Option Operand) → IndexIsWhole t h i → IndexIsWhole t' h' i
  index_later None p = tt
  index_later (Some (operand.Slot s)) p = tt
  index_later (Some (operand.Const w)) p = grown.whole w p

  indices_later : (cs : List Child) → IndicesAreWhole t h cs → IndicesAreWhole t' h' cs
  indices_later [] p = tt
  indices_later (c ∷ cs) p = (index_later c.index p.0, indices_later cs p.1)

  term_later : (x : Term) → TermIsWhole t h x → TermIsWhole t' h' x
  term_later (term.Slot s) p = tt
  term_later (term.Const w) p = grown.whole w p
  term_later (term.Part u) p = tt
  term_later (term.If at test held other) p = tt
  term_later (term.Let at bound body) p = tt
  term_later (term.Mv at parts) p = tt
  term_later (term.MvLet at bound body) p = tt
  term_later (term.StobjLet at children producer consumer) p = indices_later children p
  term_later (term.WithLocal at stobj producer body) p = tt
  term_later (term.MustBeEqual logic) p = tt
  term_later (term.Call at function actuals) p = tt

  pub surrounds_later : (w : Content) (ts : List Term) → Surrounds t h w ts → Surrounds t' h' w ts
  surrounds_later w ts s = record {
    world = (let l = s.world in let e = grown.heap.longer in omega (arith, l, e));
    lie = record { all = (let l = s.lie.all in let e = grown.heap.longer in omega (arith, l, e)) };
    constants = record { whole = λ n x e. term_later x (s.constants.whole n x e) };
    primitives = s.primitives;
    opens = Extends-then s.opens grown.table;
  }
