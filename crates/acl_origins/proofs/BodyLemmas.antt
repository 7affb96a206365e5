-- The bodies of macros, as definitions enter their world.
use Rattle.std.specs.Prelude.{◌≡◌, zero, suc, List, [], ◌∷◌, ◌++◌, map, None, Some}
use Rattle.std.specs.List.{AllByRecursion, Contains}
use Rattle.std.proofs.Common.{sym, subst, arith}
use Rattle.acl_heap.specs.Objects.{Objects}
use Rattle.model_terms.specs.Worlds.{World}
use Rattle.model_terms.specs.Faults.{formal_names, macro_fault}
use Rattle.model_slots.specs.Trees.{Tree}
use Rattle.model_macro_bodies.specs.Bodies.{HasBody}
use Rattle.model_expansion_forms.specs.Nodes.{IsWellCalled}
use Rattle.model_events.specs.Functions.{signatures}
use Rattle.model_made.specs.Lawful.{IsLawfulWorld}
use Rattle.model_origins.specs.Plain.{IsOfNoStobj}
use Rattle.model_origins.specs.Before.{HadBody}
use Rattle.model_origins.proofs.KeepLemmas.{plain_definitions_keep_origins}
use Rattle.model_origins.proofs.FunctionLemmas.{all_defined}
use Rattle.model_origins.proofs.BeforeLemmas.{worlds_before_stay}
use Rattle.acl_terms.specs.Definitions.{seen_definitions, seen_formals}
use Rattle.acl_terms.specs.Forms.{seen_core}
use Rattle.acl_terms.specs.declared.definition.Macro.{Macro}
use Rattle.acl_terms.specs.declared.definition.Definition.{Definition}
use Rattle.acl_terms.specs.declared.definition.Definition.TheVariants as definition
use Rattle.acl_worlds.specs.Contents.{Content, seen_world}
use Rattle.acl_code.specs.declared.term.Term.{Term}
use Rattle.acl_code.specs.Tables.{tree_at, Grown, IsBuilt}
use Rattle.acl_code.proofs.LawLemmas.{tables_grow}
use Rattle.acl_translate.specs.declared.function_terms.FunctionTerms.{FunctionTerms}
use Rattle.acl_translate.specs.Functions.{formal_tree}
use Rattle.acl_cliques.specs.Entered.{terms_in}
use Rattle.acl_origins.specs.Bodies.{MacroWithin, MacrosWithin, HasNoBody, HaveBodies, HadBodies}
use Rattle.acl_origins.specs.Laws.{BodiesAreKept}
use Rattle.acl_origins.proofs.RunLemmas.{seen_new}

-- ---- elements

-- an element of two lists is one of the first or one of the second
data Where {A : Type 0} (xs ys : List A) (x : A) : Type 0 where
  First : Contains xs x → Where xs ys x
  Second : Contains ys x → Where xs ys x

behind : {A : Type 0} (y : A) (xs : List A) (x : A) → Contains xs x → Contains (y ∷ xs) x
behind y xs x c = let l = c.1 in (suc c.0, omega (arith, l), c.2)

where_in : {A : Type 0} (xs ys : List A) (x : A) → Contains (xs ++ ys) x → Where xs ys x
where_in [] ys x c = Second c
where_in (y ∷ xs) ys x (zero, l, e) = First (zero, omega arith, e)
where_in (y ∷ xs) ys x (suc k, l, e) = go (where_in xs ys x (k, omega (arith, l), e))
  where
    go : Where xs ys x → Where (y ∷ xs) ys x
    go (First c) = First (behind y xs x c)
    go (Second c) = Second c

holds_of : {A : Type 0} (P : A → Type 0) (xs : List A) (x : A) → AllByRecursion P xs → Contains xs x → P x
holds_of P [] x all (k, l, e) = absurd (omega (arith, l))
holds_of P (y ∷ xs) x all (zero, l, e) = subst P e all.0
holds_of P (y ∷ xs) x all (suc k, l, e) = holds_of P xs x all.1 (k, omega (arith, l), e)

-- ---- tables

within_later : (before after : List Term) → Grown before after → (d : Definition) → MacroWithin before d → MacroWithin after d
within_later before after g (definition.Primitive name row arity) w = tt
within_later before after g (definition.Function f) w = tt
within_later before after g (definition.Macro m) w = let l = g.longer in omega (arith, l, w)
within_later before after g (definition.Constant name value) w = tt
within_later before after g (definition.Object descriptor layout class) w = tt
within_later before after g (definition.Generated f) w = tt
within_later before after g (definition.Abstract descriptor) w = tt
within_later before after g (definition.OfAbstract f) w = tt
within_later before after g (definition.Named name formals) w = tt
within_later before after g (definition.Signed name formals signature executable) w = tt

all_within : (ds others : List Definition) (before after : List Term) → MacrosWithin before ds → Grown before after → MacrosWithin after others → MacrosWithin after (ds ++ others)
all_within [] others before after w g v = v
all_within (d ∷ ds) others before after w g v = (within_later before after g d w.0, all_within ds others before after w.1 g v)

none_within : (ts : List Term) (ds : List Definition) → AllByRecursion HasNoBody ds → MacrosWithin ts ds
none_within ts [] p = tt
none_within ts (d ∷ ds) p = (one d p.0, none_within ts ds p.1)
  where
    one : (d : Definition) → HasNoBody d → MacroWithin ts d
    one (definition.Primitive name row arity) p = tt
    one (definition.Function f) p = tt
    one (definition.Macro m) p = absurd p
    one (definition.Constant name value) p = tt
    one (definition.Object descriptor layout class) p = tt
    one (definition.Generated f) p = tt
    one (definition.Abstract descriptor) p = tt
    one (definition.OfAbstract f) p = tt
    one (definition.Named name formals) p = tt
    one (definition.Signed name formals signature executable) p = tt

none : (h : Objects) (w : World) (ts : List Term) (ds : List Definition) → AllByRecursion HasNoBody ds → HadBodies h w ts ds
none h w ts ds p = record { each = λ m c. absurd (holds_of HasNoBody ds (definition.Macro m) p c) }

-- ---- functions have no bodies of macros

function_body : (d : Definition) (f : FunctionTerms) → terms_in d ≡ Some f → HasNoBody d
function_body (definition.Primitive name row arity) f e = tt
function_body (definition.Function g) f e = tt
function_body (definition.Macro m) f e = absurd (cc)
function_body (definition.Constant name value) f e = tt
function_body (definition.Object descriptor layout class) f e = tt
function_body (definition.Generated g) f e = tt
function_body (definition.Abstract descriptor) f e = tt
function_body (definition.OfAbstract g) f e = tt
function_body (definition.Named name formals) f e = tt
function_body (definition.Signed name formals signature executable) f e = tt

function_bodies : (ds : List Definition) (fs : List FunctionTerms) → map terms_in ds ≡ map Some fs → AllByRecursion HasNoBody ds
function_bodies [] fs e = tt
function_bodies (d ∷ ds) [] e = absurd (cc)
function_bodies (d ∷ ds) (f ∷ fs) e = let one : terms_in d ≡ Some f = cc in let others : map terms_in ds ≡ map Some fs = cc in (function_body d f one, function_bodies ds fs others)

-- ---- worlds that grow

module _ (h : Objects) (old new : Content) (ds : List Definition) (before after : List Term) (e : new.definitions ≡ old.definitions ++ ds) where
  abbrev w : World
  w = seen_world h old

  old_tree : Grown before after → MacrosWithin before old.definitions → (m : Macro) → Contains old.definitions (definition.Macro m) → tree_at h before m.body_term ≡ tree_at h after m.body_term
  old_tree g within m c = sym (tables_grow.tree h before after m.body_term g (holds_of (MacroWithin before) old.definitions (definition.Macro m) within c))

  placed : (m : Macro) → Contains new.definitions (definition.Macro m) → Where old.definitions ds (definition.Macro m)
  placed m c = where_in old.definitions ds (definition.Macro m) (subst (λ (all : List Definition). Contains all (definition.Macro m)) e c)

  bodies_plain : AllByRecursion IsOfNoStobj (seen_definitions h ds) → MacrosWithin before old.definitions → Grown before after
      → HaveBodies h w before old.definitions → HaveBodies h (seen_world h new) after ds → HaveBodies h (seen_world h new) after new.definitions
  bodies_plain plain within g had more = record { each = λ m c. go m (placed m c) }
    where
      go : (m : Macro) → Where old.definitions ds (definition.Macro m) → HasBody (seen_world h new) (seen_formals h m.formals) (seen_core h m.body) (tree_at h after m.body_term)
      go m (First c) =
          subst (λ (u : World). HasBody u (seen_formals h m.formals) (seen_core h m.body) (tree_at h after m.body_term)) (sym (seen_new h old new ds e))
          (plain_definitions_keep_origins.body w (seen_definitions h ds) plain (seen_formals h m.formals) (seen_core h m.body) (tree_at h after m.body_term)
          (subst (λ (t : Tree). HasBody w (seen_formals h m.formals) (seen_core h m.body) t) (old_tree g within m c) (had.each m c)))
      go m (Second c) = more.each m c

  bodies_later : IsLawfulWorld w → MacrosWithin before old.definitions → Grown before after
      → HadBodies h w before old.definitions → HadBodies h (seen_world h new) after ds → HadBodies h (seen_world h new) after new.definitions
  bodies_later l within g had more = record { each = λ m c. go m (placed m c) }
    where
      go : (m : Macro) → Where old.definitions ds (definition.Macro m) → HadBody (seen_world h new) (seen_formals h m.formals) (seen_core h m.body) (tree_at h after m.body_term)
      go m (First c) =
          subst (λ (u : World). HadBody u (seen_formals h m.formals) (seen_core h m.body) (tree_at h after m.body_term)) (sym (seen_new h old new ds e))
          (worlds_before_stay.body w (seen_definitions h ds) l (seen_formals h m.formals) (seen_core h m.body) (tree_at h after m.body_term)
          (subst (λ (t : Tree). HadBody w (seen_formals h m.formals) (seen_core h m.body) t) (old_tree g within m c) (had.each m c)))
      go m (Second c) = more.each m c

-- ---- a macro that enters

only_one : {A : Type 0} (y x : A) → Contains (y ∷ []) x → y ≡ x
only_one y x (zero, l, e) = e
only_one y x (suc k, l, e) = absurd (omega (arith, l))

macro_enters : (h : Objects) (old new : Content) (m : Macro) (after : List Term) → new.definitions ≡ old.definitions ++ definition.Macro m ∷ [] → IsLawfulWorld (seen_world h old)
    → IsWellCalled (seen_world h old) (seen_core h m.body) → macro_fault (seen_world h old) (seen_formals h m.formals) (seen_core h m.body) ≡ None
    → IsBuilt h after (Some m.body_term) (formal_tree (seen_world h old) (formal_names (seen_formals h m.formals)) (seen_core h m.body))
    → HadBodies h (seen_world h new) after (definition.Macro m ∷ [])
macro_enters h old new m after e l called accepted built = record { each = λ n c. subst (λ (k : Macro). Has k) (same n (only_one (definition.Macro m) (definition.Macro n) c)) here }
  where
    same : (n : Macro) → definition.Macro m ≡ definition.Macro n → m ≡ n
    same n f = cc

    Has : Macro → Type 0
    Has k = HadBody (seen_world h new) (seen_formals h k.formals) (seen_core h k.body) (tree_at h after k.body_term)

    here : HadBody (seen_world h new) (seen_formals h m.formals) (seen_core h m.body) (tree_at h after m.body_term)
    here =
        subst (λ (u : World). HadBody u (seen_formals h m.formals) (seen_core h m.body) (tree_at h after m.body_term)) (sym (seen_new h old new (definition.Macro m ∷ []) e))
        (worlds_before_stay.macro (seen_world h old) (seen_definitions h (definition.Macro m ∷ [])) l (seen_formals h m.formals) (seen_core h m.body) (tree_at h after m.body_term) called accepted (sym built.is))

pub bodies_are_kept : BodiesAreKept
bodies_are_kept = record {
  within = all_within;
  plain = bodies_plain;
  had = bodies_later;
  none_within = none_within;
  none = none;
  functions = λ h old new ts cs e. function_bodies e.definitions e.terms e.have;
  no_stobjs = λ h old new ts cs e. subst (λ (u : World). AllByRecursion IsOfNoStobj u) (sym e.seen) (all_defined (signatures (seen_world h old) cs) cs);
  macro = macro_enters;
  have = λ h w ts ds had. record { each = λ m c. (had.each m c).has };
}
