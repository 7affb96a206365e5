-- What is said of forms and definitions, as laws.
use Rattle.std.specs.Prelude.{◌≡◌, List}
use Rattle.acl_base.specs.declared.SymId.{SymId}
use Rattle.acl_base.specs.declared.Word.{Word}
use Rattle.acl_heap.specs.Objects.{Objects, object_of, Extends}
use Rattle.model_terms.specs.Cores as cores
use Rattle.model_terms.specs.Worlds as worlds
use Rattle.acl_terms.specs.declared.form.Core.{Core}
use Rattle.acl_terms.specs.declared.form.Core.TheViews as views
use Rattle.acl_terms.specs.declared.form.Core.TheVariants as variants
use Rattle.acl_terms.specs.declared.definition.Definition.{Definition}
use Rattle.acl_terms.specs.Forms.{numbers, bound_names, seen_core, seen_cores, seen_bound, CoreLies}
use Rattle.acl_terms.specs.Definitions.{seen_definition, seen_definitions, DefinitionLies, DefinitionsLie, name_in}

-- as a heap grows, forms and definitions go on to stand for what they stood for
pub record IsKept : Type 0 where
  pub core : (h h' : Objects) (f : Core) → Extends h h' → CoreLies h f → seen_core h' f ≡ seen_core h f
  pub definition : (h h' : Objects) (d : Definition) → Extends h h' → DefinitionLies h d → seen_definition h' d ≡ seen_definition h d
  pub definitions : (h h' : Objects) (ds : List Definition) → Extends h h' → DefinitionsLie h ds → seen_definitions h' ds ≡ seen_definitions h ds

-- each variant of a form stands for the core form of its kind, and a definition has one name in every heap
pub record AreSeen : Type 0 where
  pub var : (h : Objects) (x : SymId) → seen_core h (variants.Var x) ≡ cores.Var x.0
  pub const : (h : Objects) (w : Word) → seen_core h (variants.Const w) ≡ cores.Const (object_of h w)
  pub if_ : (h : Objects) (a b c : Core) → seen_core h (views.If a b c) ≡ cores.If (seen_core h a) (seen_core h b) (seen_core h c)
  pub let_ : (h : Objects) (bs : List (SymId × Core)) (b : Core) → seen_core h (views.Let bs b) ≡ cores.Let (bound_names bs) (cores.cores (seen_bound h bs)) (seen_core h b)
  pub mv : (h : Objects) (parts : List Core) → seen_core h (views.Mv parts) ≡ cores.Mv (cores.cores (seen_cores h parts))
  pub mv_let : (h : Objects) (names : List SymId) (a b : Core) → seen_core h (views.MvLet names a b) ≡ cores.MvLet (numbers names) (seen_core h a) (seen_core h b)
  pub stobj_let : (h : Objects) (bs : List (SymId × Core)) (vars : List SymId) (p c : Core)
      → seen_core h (views.StobjLet bs vars p c) ≡ cores.StobjLet (bound_names bs) (cores.cores (seen_bound h bs)) (numbers vars) (seen_core h p) (seen_core h c)
  pub with_local : (h : Objects) (stobj : SymId) (names : List SymId) (a b : Core)
      → seen_core h (views.WithLocal stobj names a b) ≡ cores.WithLocal stobj.0 (numbers names) (seen_core h a) (seen_core h b)
  pub must_be_equal : (h : Objects) (a b : Core) → seen_core h (views.MustBeEqual a b) ≡ cores.MustBeEqual (seen_core h a) (seen_core h b)
  pub call : (h : Objects) (f : SymId) (parts : List Core) → seen_core h (views.Call f parts) ≡ cores.Call f.0 (cores.cores (seen_cores h parts))
  pub name : (h : Objects) (d : Definition) → worlds.definition_name (seen_definition h d) ≡ name_in d
