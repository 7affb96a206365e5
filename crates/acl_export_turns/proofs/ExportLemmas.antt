-- What a table of definitions says of exports.
use Rattle.std.proofs.Common.{◌≡◌, ℕ, zero, suc, ◌≤◌, List, [], ◌∷◌, length, map, refl, sym, ap, ◌∙◌, arith}
use Rattle.std.specs.Prelude.{Option, Some, None, slice_get, option_map, position, nat_eq}
use Rattle.acl_heap.specs.Objects.{Objects}
use Rattle.model_terms.specs.Worlds as worlds
use Rattle.model_slots.specs.Resolved.{number_in}
use Rattle.acl_terms.specs.Forms.{numbers}
use Rattle.acl_terms.specs.Definitions.{seen_definition, seen_of_abstract, name_in}
use Rattle.acl_terms.specs.declared.definition.AbstractFunction.{AbstractFunction}
use Rattle.acl_terms.specs.declared.definition.Definition.{Definition}
use Rattle.acl_terms.specs.declared.definition.Definition.TheVariants as definition
use Rattle.acl_worlds.specs.Contents.{Content, seen_world, number_of, names_in}
use Rattle.acl_machine.specs.Views.{Around, world_of, export_of, no_export}
use Rattle.acl_machine.proofs.CallLemmas.{seen_named}
use Rattle.acl_export_turns.specs.Exports.{abstract_in, name_of, exec_of, formals_of, export_at}

-- past the end
pub none_there : (ds : List Definition) (n : ℕ) → length ds ≤ n → None ≡ abstract_in (slice_get ds n)
none_there [] n l = refl
none_there (d ∷ ds) zero l = absurd (omega arith)
none_there (d ∷ ds) (suc n) l = none_there ds n (omega arith)

-- a definition that is there
pub found_there : (d : Option Definition) (e : Definition) (r : Option AbstractFunction) → d ≡ Some e → r ≡ abstract_in (Some e) → r ≡ abstract_in d
found_there d e r is h = h ∙ ap abstract_in (sym is)

abbrev seen_or_none : Objects → Option AbstractFunction → worlds.FunctionOfAbstract
seen_or_none h None = no_export
seen_or_none h (Some f) = seen_of_abstract h f

export_seen : (h : Objects) (ds : List Definition) (n : ℕ) → export_of (slice_get (map (seen_definition h) ds) n) ≡ seen_or_none h (abstract_in (slice_get ds n))
export_seen h [] n = refl
export_seen h (definition.Primitive name row arity ∷ ds) zero = refl
export_seen h (definition.Function f ∷ ds) zero = refl
export_seen h (definition.Macro m ∷ ds) zero = refl
export_seen h (definition.Constant name value ∷ ds) zero = refl
export_seen h (definition.Object descriptor layout class ∷ ds) zero = refl
export_seen h (definition.Generated f ∷ ds) zero = refl
export_seen h (definition.Abstract descriptor ∷ ds) zero = refl
export_seen h (definition.OfAbstract f ∷ ds) zero = refl
export_seen h (definition.Named name formals ∷ ds) zero = refl
export_seen h (definition.Signed name formals signature executable ∷ ds) zero = refl
export_seen h (d ∷ ds) (suc n) = export_seen h ds n

seen_name : (h : Objects) (f : Option AbstractFunction) → (seen_or_none h f).name ≡ name_of f
seen_name h None = refl
seen_name h (Some f) = refl

seen_exec : (h : Objects) (f : Option AbstractFunction) → (seen_or_none h f).exec ≡ exec_of f
seen_exec h None = refl
seen_exec h (Some f) = refl

seen_formals : (h : Objects) (f : Option AbstractFunction) → (seen_or_none h f).formals ≡ numbers (formals_of f)
seen_formals h None = refl
seen_formals h (Some f) = refl

module _ (a : Around) (n : ℕ) where
  abbrev of_number : Option AbstractFunction
  of_number = abstract_in (slice_get a.content.definitions n)

  pub export_name : (export_at a n).name ≡ name_of of_number
  export_name = ap (λ (f : worlds.FunctionOfAbstract). f.name) (export_seen a.heap a.content.definitions n) ∙ seen_name a.heap of_number

  pub export_exec : (export_at a n).exec ≡ exec_of of_number
  export_exec = ap (λ (f : worlds.FunctionOfAbstract). f.exec) (export_seen a.heap a.content.definitions n) ∙ seen_exec a.heap of_number

  pub export_formals : (export_at a n).formals ≡ numbers (formals_of of_number)
  export_formals = ap (λ (f : worlds.FunctionOfAbstract). f.formals) (export_seen a.heap a.content.definitions n) ∙ seen_formals a.heap of_number

-- ---- numbers of names

same_names : (h : Objects) (ds : List Definition) → map worlds.definition_name (map (seen_definition h) ds) ≡ names_in ds
same_names h [] = refl
same_names h (d ∷ ds) = ap (λ n. n ∷ map worlds.definition_name (map (seen_definition h) ds)) (seen_named h d) ∙ ap (λ ns. name_in d ∷ ns) (same_names h ds)

pub number_seen : (h : Objects) (w : Content) (x : ℕ) → number_in (seen_world h w) x ≡ number_of w x
number_seen h w x = ap (position (nat_eq x)) (same_names h w.definitions)
