-- What a table of terms is to a world, so that bodies of macros can be evaluated.
use Rattle.std.specs.Prelude.{List, length}
use Rattle.std.specs.List.{Contains}
use Rattle.model_symbols.specs.Symbols.{Table}
use Rattle.model_symbols.specs.Growth.{Extends}
use Rattle.model_symbols.specs.Opening.{opening}
use Rattle.model_macro_bodies.specs.Bodies.{AreRun, HasBody}
use Rattle.acl_heap.specs.Objects.{Objects}
use Rattle.acl_terms.specs.Definitions.{seen_formals}
use Rattle.acl_terms.specs.Forms.{seen_core}
use Rattle.acl_terms.specs.declared.definition.Macro.{Macro}
use Rattle.acl_terms.specs.declared.definition.Definition.TheVariants as definition
use Rattle.acl_worlds.specs.Contents.{Content, seen_world}
use Rattle.acl_code.specs.declared.term.Term.{Term}
use Rattle.acl_code.specs.Constants.{ConstantsAreKnown}
use Rattle.acl_code.specs.Tables.{TermsLie, forest, tree_at}
use Rattle.acl_machine.specs.Views.{code_with}
use Rattle.acl_exec_turns.specs.Execs.{PrimitivesStand}
use Rattle.acl_list_keeper.specs.Sound.{WorldFits}

-- the terms and the world lie in the heap, with symbols that are known; the terms of the world's functions, which were accepted,
-- stand for the trees of their guards and bodies, and the term of each macro, which was accepted, for the tree of its body
pub record Fits (terms : List Term) (h : Objects) (w : Content) (t : Table) : Type 0 where
  pub lie : TermsLie h terms
  pub known : ConstantsAreKnown (length t.symbols) h terms
  pub primitives : PrimitivesStand w
  pub opens : Extends opening t
  pub world : WorldFits h w (length t.symbols)
  pub runs : AreRun (seen_world h w) (code_with (forest h terms) w.definitions)
  pub bodies : (m : Macro) → Contains w.definitions (definition.Macro m) → HasBody (seen_world h w) (seen_formals h m.formals) (seen_core h m.body) (tree_at h terms m.body_term)
