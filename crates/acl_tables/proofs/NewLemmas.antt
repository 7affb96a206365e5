-- The trees of functions that have entered.
use Rattle.std.specs.Prelude.{◌≡◌, ℕ, zero, suc, List, [], ◌∷◌, map, Option, Some, None, slice_get, refl}
use Rattle.std.specs.List.{AllByRecursion}
use Rattle.std.proofs.Common.{sym, ap, ◌∙◌, subst}
use Rattle.acl_heap.specs.Objects.{Objects}
use Rattle.model_terms.specs.Outputs.{Known}
use Rattle.model_terms.specs.Worlds.{World, Function, FunctionOfAbstract, Defined, OfAbstract}
use Rattle.model_slots.specs.Trees.{Tree}
use Rattle.model_slots.specs.Resolved.{both}
use Rattle.model_events.specs.Functions.{Candidate, members, defined}
use Rattle.acl_terms.specs.declared.definition.Definition.{Definition}
use Rattle.acl_terms.specs.declared.definition.Definition.TheVariants as definition
use Rattle.acl_code.specs.declared.term.Term.{Term}
use Rattle.acl_code.specs.Tables.{forest, tree_in}
use Rattle.acl_translate.specs.declared.function_terms.FunctionTerms.{FunctionTerms}
use Rattle.acl_translate.specs.Functions.{formal_tree, function_trees, all_function_trees, seen_function_terms, InTable}
use Rattle.acl_machine.specs.Views.{guard_of, body_of}
use Rattle.acl_cliques.specs.Entered.{terms_in}
use Rattle.acl_tables.specs.Within.{TermsWithin, AllWithin}

some_same : {A : Type 0} {a b : A} → Some a ≡ Some b → a ≡ b
some_same e = cc

-- ---- what joined options had

record Joined {A B C : Type 0} (f : A → B → C) (a : Option A) (b : Option B) (c : C) : Type 0 where
  pub first : A
  pub second : B
  pub is_first : a ≡ Some first
  pub is_second : b ≡ Some second
  pub made : c ≡ f first second

joined : {A B C : Type 0} (f : A → B → C) (a : Option A) (b : Option B) (c : C) → Some c ≡ both f a b → Joined f a b c
joined f None b c e = absurd (cc)
joined f (Some x) None c e = absurd (cc)
joined f (Some x) (Some y) c e = record { first = x; second = y; is_first = refl; is_second = refl; made = some_same e }

-- ---- one function

guard_in : (ts : List Tree) (d : Definition) (t : FunctionTerms) → terms_in d ≡ Some t → guard_of ts (Some d) ≡ tree_in ts t.guard
guard_in ts (definition.Primitive name row arity) t e = absurd (cc)
guard_in ts (definition.Function f) t e = ap (λ (x : FunctionTerms). tree_in ts x.guard) (some_same e)
guard_in ts (definition.Macro m) t e = absurd (cc)
guard_in ts (definition.Constant name value) t e = absurd (cc)
guard_in ts (definition.Object descriptor layout class) t e = absurd (cc)
guard_in ts (definition.Generated f) t e = absurd (cc)
guard_in ts (definition.Abstract descriptor) t e = absurd (cc)
guard_in ts (definition.OfAbstract f) t e = absurd (cc)
guard_in ts (definition.Named name formals) t e = absurd (cc)
guard_in ts (definition.Signed name formals signature executable) t e = absurd (cc)

body_in : (ts : List Tree) (d : Definition) (t : FunctionTerms) → terms_in d ≡ Some t → body_of ts (Some d) ≡ tree_in ts t.body
body_in ts (definition.Primitive name row arity) t e = absurd (cc)
body_in ts (definition.Function f) t e = ap (λ (x : FunctionTerms). tree_in ts x.body) (some_same e)
body_in ts (definition.Macro m) t e = absurd (cc)
body_in ts (definition.Constant name value) t e = absurd (cc)
body_in ts (definition.Object descriptor layout class) t e = absurd (cc)
body_in ts (definition.Generated f) t e = absurd (cc)
body_in ts (definition.Abstract descriptor) t e = absurd (cc)
body_in ts (definition.OfAbstract f) t e = absurd (cc)
body_in ts (definition.Named name formals) t e = absurd (cc)
body_in ts (definition.Signed name formals signature executable) t e = absurd (cc)

within_in : (ts : List Term) (d : Definition) (t : FunctionTerms) → terms_in d ≡ Some t → InTable ts t → TermsWithin ts d
within_in ts (definition.Primitive name row arity) t e i = tt
within_in ts (definition.Function f) t e i = subst (λ (x : FunctionTerms). InTable ts x) (sym (some_same e)) i
within_in ts (definition.Macro m) t e i = tt
within_in ts (definition.Constant name value) t e i = tt
within_in ts (definition.Object descriptor layout class) t e i = tt
within_in ts (definition.Generated f) t e i = tt
within_in ts (definition.Abstract descriptor) t e i = tt
within_in ts (definition.OfAbstract f) t e i = absurd (cc)
within_in ts (definition.Named name formals) t e i = tt
within_in ts (definition.Signed name formals signature executable) t e i = tt

-- ---- all

-- the trees of a function are those that its definition's terms stand for
pub record Stands (c : World) (ts : List Tree) (f : Function) (d : Option Definition) : Type 0 where
  pub guard : formal_tree c f.formals f.guard ≡ Some (guard_of ts d)
  pub body : formal_tree c f.formals f.body ≡ Some (body_of ts d)

head_same : {A : Type 0} {x y : A} {xs ys : List A} → x ∷ xs ≡ y ∷ ys → x ≡ y
head_same e = cc

tail_same : {A : Type 0} {x y : A} {xs ys : List A} → x ∷ xs ≡ y ∷ ys → xs ≡ ys
tail_same e = cc

function_same : {f g : Function} → Some (Defined f) ≡ Some (Defined g) → f ≡ g
function_same e = cc

module _ (h : Objects) (c : World) (ts : List Term) (known : Known) where
  one_stands : (m : Candidate) (d : Definition) (t : FunctionTerms) → terms_in d ≡ Some t → function_trees c m.member ≡ Some (seen_function_terms h ts t) → (f : Function)
      → Some (Defined f) ≡ Some (defined known m) → Stands c (forest h ts) f (Some d)
  one_stands m d t e trees f is =
      let j = joined (λ guard body. (guard, body)) (formal_tree c m.member.formals m.member.guard) (formal_tree c m.member.formals m.member.body) (seen_function_terms h ts t) (sym trees) in
      let guard : tree_in (forest h ts) t.guard ≡ j.first = ap (λ (p : Tree × Tree). p.0) j.made in
      let body : tree_in (forest h ts) t.body ≡ j.second = ap (λ (p : Tree × Tree). p.1) j.made in
      let same = function_same is in
      record {
        guard = ap (λ (g : Function). formal_tree c g.formals g.guard) same ∙ (j.is_first ∙ ap Some (sym guard ∙ sym (guard_in (forest h ts) d t e)));
        body = ap (λ (g : Function). formal_tree c g.formals g.body) same ∙ (j.is_second ∙ ap Some (sym body ∙ sym (body_in (forest h ts) d t e)));
      }

  pub new_stand : (cs : List Candidate) (ds : List Definition) (fs : List FunctionTerms) (k : ℕ) → map terms_in ds ≡ map Some fs → Some (map (seen_function_terms h ts) fs) ≡ all_function_trees c (members cs)
      → (f : Function) → slice_get (map (defined known) cs) k ≡ Some (Defined f) → Stands c (forest h ts) f (slice_get ds k)
  new_stand [] ds fs k e all f is = absurd (cc)
  new_stand (m ∷ cs) ds [] k e all f is =
      let j = joined (λ x xs. x ∷ xs) (function_trees c m.member) (all_function_trees c (members cs)) [] all in
      let no : [] ≡ j.first ∷ j.second = j.made in
      absurd (cc)
  new_stand (m ∷ cs) [] (t ∷ fs) k e all f is = absurd (cc)
  new_stand (m ∷ cs) (d ∷ ds) (t ∷ fs) zero e all f is =
      let j = joined (λ x xs. x ∷ xs) (function_trees c m.member) (all_function_trees c (members cs)) (map (seen_function_terms h ts) (t ∷ fs)) all in
      one_stands m d t (head_same e) (j.is_first ∙ ap Some (sym (head_same j.made))) f (sym is)
  new_stand (m ∷ cs) (d ∷ ds) (t ∷ fs) (suc k) e all f is =
      let j = joined (λ x xs. x ∷ xs) (function_trees c m.member) (all_function_trees c (members cs)) (map (seen_function_terms h ts) (t ∷ fs)) all in
      new_stand cs ds fs k (tail_same e) (ap Some (tail_same j.made) ∙ sym j.is_second) f is

pub new_within : (ts : List Term) (ds : List Definition) (fs : List FunctionTerms) → map terms_in ds ≡ map Some fs → AllByRecursion (InTable ts) fs → AllWithin ts ds
new_within ts [] fs e i = tt
new_within ts (d ∷ ds) [] e i = absurd (cc)
new_within ts (d ∷ ds) (t ∷ fs) e i = (within_in ts d t (head_same e) i.0, new_within ts ds fs (tail_same e) i.1)

-- none of them belongs to an abstract stobj
pub no_export : (known : Known) (cs : List Candidate) (k : ℕ) (f : FunctionOfAbstract) → slice_get (map (defined known) cs) k ≡ Some (OfAbstract f) → ⊥
no_export known [] k f e = cc
no_export known (m ∷ cs) zero f e = cc
no_export known (m ∷ cs) (suc k) f e = no_export known cs k f e
