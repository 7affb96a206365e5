-- The constants of a table of terms are whole where its words lie in the heap and are known.
use Rattle.std.specs.Prelude.{List, [], ◌∷◌, length, Option, Some, None}
use Rattle.model_symbols.specs.Symbols.{Table}
use Rattle.acl_heap.specs.Objects.{Objects}
use Rattle.acl_code.specs.declared.term.Operand.{Operand}
use Rattle.acl_code.specs.declared.term.Operand.TheVariants as operand
use Rattle.acl_code.specs.declared.term.Child.{Child}
use Rattle.acl_code.specs.declared.term.Term.{Term}
use Rattle.acl_code.specs.declared.term.Term.TheVariants as term
use Rattle.acl_code.specs.Constants.{IndexHas, IndicesHave, TermHas, StandsKnown}
use Rattle.acl_code.specs.Laws.{ConstantsStayKnown}
use Rattle.acl_machine.specs.Constants.{IndexIsWhole, IndicesAreWhole, TermIsWhole, KnownAreWhole}

module _ (t : Table) (h : Objects) where
  index_whole : (index : Option Operand) → IndexHas (StandsKnown (length t.symbols) h) index → IndexIsWhole t h index
  index_whole None p = tt
  index_whole (Some (operand.Slot s)) p = tt
  index_whole (Some (operand.Const w)) p = record { lies = p.0; known = p.1 }

  indices_whole : (cs : List Child) → IndicesHave (StandsKnown (length t.symbols) h) cs → IndicesAreWhole t h cs
  indices_whole [] p = tt
  indices_whole (c ∷ cs) p = (index_whole c.index p.0, indices_whole cs p.1)

  term_whole : (x : Term) → TermHas (StandsKnown (length t.symbols) h) x → TermIsWhole t h x
  term_whole (term.Slot s) p = tt
  term_whole (term.Const w) p = record { lies = p.0; known = p.1 }
  term_whole (term.Part u) p = tt
  term_whole (term.If at test held other) p = tt
  term_whole (term.Let at bound body) p = tt
  term_whole (term.Mv at parts) p = tt
  term_whole (term.MvLet at bound body) p = tt
  term_whole (term.StobjLet at children producer consumer) p = indices_whole children p
  term_whole (term.WithLocal at stobj producer body) p = tt
  term_whole (term.MustBeEqual logic) p = tt
  term_whole (term.Call at function actuals) p = tt

pub known_are_whole : ConstantsStayKnown → KnownAreWhole
known_are_whole law = record {
  whole = λ t h terms l k. record { whole = λ n x e. term_whole t h x (law.words (length t.symbols) h terms l k n x e) };
}
