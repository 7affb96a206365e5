-- A world with functions that were admitted together.
use Rattle.std.specs.Prelude.{◌≡◌, ℕ, ◌≤◌, List, map, max, length, Option, Some, None}
use Rattle.acl_heap.specs.Objects.{Objects}
use Rattle.model_terms.specs.Faults.{clique_fault}
use Rattle.model_terms.specs.Outputs.{Known}
use Rattle.model_terms.specs.Worlds as worlds
use Rattle.model_expansion.specs.Expansion.{Progress}
use Rattle.model_stobjs.specs.Answers.{Grants}
use Rattle.model_events.specs.Functions.{Candidate, members, signatures, defined, candidates_then}
use Rattle.acl_terms.specs.declared.definition.Definition.{Definition}
use Rattle.acl_terms.specs.declared.definition.Definition.TheVariants as definition
use Rattle.acl_terms.specs.Definitions.{seen_definitions, definitions_reach}
use Rattle.acl_terms.specs.Forms.{core_reach, most}
use Rattle.acl_worlds.specs.Contents.{Content, seen_world}
use Rattle.acl_outputs.specs.Known.{seen_known}
use Rattle.acl_check.specs.declared.member.Member.{Member}
use Rattle.acl_code.specs.declared.term.Term.{Term}
use Rattle.acl_translate.specs.declared.function_terms.FunctionTerms.{FunctionTerms}
use Rattle.acl_translate.specs.Functions.{all_function_trees, AreFunctions}
use Rattle.acl_definitions.specs.Added.{with_definitions}
use Rattle.acl_cliques.specs.declared.prepared.Prepared.{Prepared}
use Rattle.acl_cliques.specs.Worlds.{signed_world}

-- the terms of a function that was written
abbrev pub terms_in : Definition → Option FunctionTerms
terms_in (definition.Primitive name row arity) = None
terms_in (definition.Function f) = Some (record { guard = f.guard_term; body = f.body_term })
terms_in (definition.Macro m) = None
terms_in (definition.Constant name value) = None
terms_in (definition.Object descriptor layout class) = None
terms_in (definition.Generated f) = None
terms_in (definition.Abstract descriptor) = None
terms_in (definition.OfAbstract f) = None
terms_in (definition.Named name formals) = None
terms_in (definition.Signed name formals signature executable) = None

abbrev pub member_reach : Member → ℕ
member_reach m = max (core_reach m.guard) (core_reach m.body)

-- the signatures of functions that the rules accept, and their terms
pub record IsPrepared (h : Objects) (w : worlds.World) (ts : List Term) (cs : List Candidate) (p : Prepared) : Type 0 where
  pub known : seen_known p.known ≡ signatures w cs
  pub accepted : clique_fault (signed_world w cs) 0 (members cs) ≡ None
  pub terms : AreFunctions h ts p.terms (all_function_trees (signed_world w cs) (members cs))

-- definitions of functions with these signatures and terms
pub record AreDefined (h : Objects) (known : Known) (cs : List Candidate) (ms : List Member) (fs : List FunctionTerms) (ds : List Definition) : Type 0 where
  pub seen : seen_definitions h ds ≡ map (defined known) cs
  pub terms : map terms_in ds ≡ map Some fs
  pub reach : definitions_reach ds ≤ most (map member_reach ms)

-- the definition grants functions, and the world has them behind what it had, with terms of the table
pub record Entered (h : Objects) (old new : Content) (ts : List Term) (cs : List Candidate) : Type 0 where
  pub grants : (p : Progress) → candidates_then (seen_world h old) cs p ≡ Grants (map (defined (signatures (seen_world h old) cs)) cs) p
  pub definitions : List Definition
  pub is : new ≡ with_definitions old definitions
  pub seen : seen_definitions h definitions ≡ map (defined (signatures (seen_world h old) cs)) cs
  pub lie : definitions_reach definitions ≤ length h
  pub terms : List FunctionTerms
  pub have : map terms_in definitions ≡ map Some terms
  pub stand : AreFunctions h ts terms (all_function_trees (signed_world (seen_world h old) cs) (members cs))
