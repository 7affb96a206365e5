-- A function by its number, in a world and in the world that it stands for.
use Rattle.std.proofs.Common.{◌≡◌, ℕ, zero, suc, ◌<◌, ◌≤◌, List, [], ◌∷◌, length, map, get_or, refl, sym, ap, ◌∙◌, arith, subst}
use Rattle.std.specs.Prelude.{Option, Some, None, slice_get, option_map}
use Rattle.std.proofs.lemmas.List.{get_or_past, length-map}
use Rattle.std.specs.Option.{option_map_or}
use Rattle.acl_base.specs.declared.FnId.{FnId}
use Rattle.acl_heap.specs.Objects.{Objects}
use Rattle.acl_terms.specs.Forms.{numbers}
use Rattle.acl_terms.specs.declared.definition.Definition.{Definition}
use Rattle.acl_terms.specs.declared.definition.Definition.TheVariants as definition
use Rattle.acl_terms.specs.Definitions.{seen_definition, name_in}
use Rattle.acl_worlds.specs.Contents.{Content, seen_world}
use Rattle.model_terms.specs.Worlds as worlds
use Rattle.model_slots.specs.Trees.{Tree}
use Rattle.model_window.specs.Turns.{called_name}
use Rattle.acl_code.specs.declared.term.Term.{Term}
use Rattle.acl_code.specs.Tables.{forest, tree_in, no_tree}
use Rattle.acl_code.proofs.TableLemmas.{forest_length}
use Rattle.acl_machine.specs.Views as views
use Rattle.acl_machine.proofs.CallLemmas.{seen_named}
use Rattle.acl_call_turns.specs.Calls.{formals_in, body_in, name_in_option, formals_at}

none_past : (ds : List Definition) (n : ℕ) → length ds ≤ n → slice_get ds n ≡ None
none_past [] n h = refl
none_past (d ∷ ds) zero h = absurd (omega arith)
none_past (d ∷ ds) (suc n) h = none_past ds n (omega arith)

pub formals_past : (ds : List Definition) (n : ℕ) → length ds ≤ n → [] ≡ formals_in (slice_get ds n)
formals_past ds n h = sym (ap formals_in (none_past ds n h))

pub body_past : (terms : ℕ) (ds : List Definition) (n : ℕ) → length ds ≤ n → terms ≡ body_in terms (slice_get ds n)
body_past terms ds n h = sym (ap (body_in terms) (none_past ds n h))

pub name_past : (ds : List Definition) (n : ℕ) → length ds ≤ n → 0 ≡ name_in_option (slice_get ds n)
name_past ds n h = sym (ap name_in_option (none_past ds n h))

pub name_there : (o : Option Definition) (d : Definition) (n : ℕ) → o ≡ Some d → n ≡ name_in d → n ≡ name_in_option o
name_there o d n e f = f ∙ sym (ap name_in_option e)

-- ---- in the world that is seen

mapped : (h : Objects) (ds : List Definition) (n : ℕ) → slice_get (map (seen_definition h) ds) n ≡ option_map (seen_definition h) (slice_get ds n)
mapped h [] n = refl
mapped h (d ∷ ds) zero = refl
mapped h (d ∷ ds) (suc n) = mapped h ds n

formals_by : (h : Objects) (o : Option Definition) → views.formals_of (option_map (seen_definition h) o) ≡ numbers (formals_in o)
formals_by h None = refl
formals_by h (Some (definition.Primitive name row arity)) = refl
formals_by h (Some (definition.Function f)) = refl
formals_by h (Some (definition.Macro m)) = refl
formals_by h (Some (definition.Constant name value)) = refl
formals_by h (Some (definition.Object descriptor layout class)) = refl
formals_by h (Some (definition.Generated f)) = refl
formals_by h (Some (definition.Abstract descriptor)) = refl
formals_by h (Some (definition.OfAbstract f)) = refl
formals_by h (Some (definition.Named name formals)) = refl
formals_by h (Some (definition.Signed name formals signature executable)) = refl

pub formals_seen_at : (h : Objects) (w : Content) (g : FnId) → views.formals_of (slice_get (seen_world h w) g.0) ≡ numbers (formals_at w g)
formals_seen_at h w g = ap views.formals_of (mapped h w.definitions g.0) ∙ formals_by h (slice_get w.definitions g.0)

name_by : (h : Objects) (o : Option Definition) → option_map_or worlds.definition_name (option_map (seen_definition h) o) 0 ≡ name_in_option o
name_by h None = refl
name_by h (Some d) = seen_named h d

pub name_seen_at : (h : Objects) (w : Content) (g : FnId) → called_name (seen_world h w) g.0 ≡ name_in_option (slice_get w.definitions g.0)
name_seen_at h w g = ap (λ o. option_map_or worlds.definition_name o 0) (mapped h w.definitions g.0) ∙ name_by h (slice_get w.definitions g.0)

no_body : (h : Objects) (ts : List Term) → get_or (forest h ts) (length ts) no_tree ≡ no_tree
no_body h ts = ap (λ n. get_or (forest h ts) n no_tree) (sym (forest_length h ts)) ∙ get_or_past (forest h ts) (length (forest h ts)) no_tree (omega arith)

pub body_seen : (h : Objects) (ts : List Term) (o : Option Definition) → get_or (forest h ts) (body_in (length ts) o) no_tree ≡ views.body_of (forest h ts) o
body_seen h ts None = no_body h ts
body_seen h ts (Some (definition.Primitive name row arity)) = no_body h ts
body_seen h ts (Some (definition.Function f)) = refl
body_seen h ts (Some (definition.Macro m)) = no_body h ts
body_seen h ts (Some (definition.Constant name value)) = no_body h ts
body_seen h ts (Some (definition.Object descriptor layout class)) = no_body h ts
body_seen h ts (Some (definition.Generated f)) = no_body h ts
body_seen h ts (Some (definition.Abstract descriptor)) = no_body h ts
body_seen h ts (Some (definition.OfAbstract f)) = no_body h ts
body_seen h ts (Some (definition.Named name formals)) = no_body h ts
body_seen h ts (Some (definition.Signed name formals signature executable)) = no_body h ts
