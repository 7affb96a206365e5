-- The outputs by text of a core form (ACL2's manual, topic SIGNATURE).
use Rattle.std.specs.Prelude.{ℕ, List, [], ◌∷◌, Option, Some, None, nat_eq, replicate, unwrap_or, option_map, option_and_then}
use Rattle.std.specs.Option.{option_or, option_map_or}
use Rattle.std.specs.Map.{lookup}
use Rattle.model_terms.specs.Cores.{Core, Cores, none, more, Var, Const, If, Let, Mv, MvLet, StobjLet, WithLocal, MustBeEqual, Call, variable}
use Rattle.model_terms.specs.Worlds.{World, Definition, Primitive, Defined, Generated, OfAbstract, Signed, Out, Ordinary, Stobj, Signature, Scope, definition}
use Rattle.model_terms.specs.Classes.{instance_of}
use Rattle.model_terms.specs.Scopes.{kind_of, binding, consumer_scope, body_scope}

-- signatures that count beside those of the world
abbrev pub Known : Type 0
Known = List (ℕ × Signature)

-- the signature of a function; a function that is being admitted may have none yet
abbrev pub signature_in : Definition → Option Signature
signature_in (Primitive name row) = Some (record { ins = replicate row.arity Ordinary; outs = Ordinary ∷ [] })
signature_in (Defined f) = Some f.signature
signature_in (Generated f) = Some f.signature
signature_in (OfAbstract f) = Some f.signature
signature_in (Signed name formals signature executable) = Some signature
signature_in d = None

abbrev pub signature_of : World → Known → ℕ → Option Signature
signature_of w known f = option_or (lookup (nat_eq f) known) (option_and_then signature_in (definition w f))

-- what stands in the stobj positions of a call: a variable, or another form
abbrev pub stobj_actuals : List Out → Cores → List (Option ℕ)
stobj_actuals [] actuals = []
stobj_actuals (out ∷ ins) none = []
stobj_actuals (Ordinary ∷ ins) (more f actuals) = stobj_actuals ins actuals
stobj_actuals (Stobj x ∷ ins) (more f actuals) = variable f ∷ stobj_actuals ins actuals

-- all of them, where each is there
abbrev pub all_there : List (Option ℕ) → Option (List ℕ)
all_there [] = Some []
all_there (None ∷ vs) = None
all_there (Some x ∷ vs) = option_map (λ xs. x ∷ xs) (all_there vs)

-- the outputs of a function at these actuals: renamed, or its own where there is no such instance
abbrev pub call_outs : World → Signature → Cores → List Out
call_outs w s actuals = option_map_or (λ (i : Signature). i.outs) (option_and_then (instance_of w s) (all_there (stobj_actuals s.ins actuals))) s.outs

-- a stobj where the part is the variable of one in scope
abbrev pub part_kinds : Scope → Cores → List Out
part_kinds scope none = []
part_kinds scope (more f parts) = option_map_or (kind_of scope) (variable f) Ordinary ∷ part_kinds scope parts

-- None where they are not known, since a function that they rest on has no signature yet
unfoldable pub outputs : World → Known → Scope → Core → Option (List Out)
outputs w known scope (Var x) = Some (kind_of scope x ∷ [])
outputs w known scope (Const o) = Some (Ordinary ∷ [])
outputs w known scope (If a b c) = option_or (outputs w known scope b) (outputs w known scope c)
outputs w known scope (Let names bound body) = outputs w known (binding w scope names) body
outputs w known scope (Mv parts) = Some (part_kinds scope parts)
outputs w known scope (MvLet names bound body) = outputs w known (binding w scope names) body
outputs w known scope (StobjLet names bound vars producer consumer) = outputs w known (consumer_scope w scope names vars) consumer
outputs w known scope (WithLocal stobj names producer body) = outputs w known (body_scope w scope stobj names) body
outputs w known scope (MustBeEqual logic exec) = outputs w known scope logic
outputs w known scope (Call f actuals) = option_map (λ s. call_outs w s actuals) (signature_of w known f)

-- the outputs where every function has a signature; one ordinary where none are known
abbrev pub outs : World → Scope → Core → List Out
outs w scope f = unwrap_or (outputs w [] scope f) (Ordinary ∷ [])
