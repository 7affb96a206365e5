-- Expansion: the core form of a form, or the first fault in preorder; with the calls counted and the symbols that are known
-- (ACL2's manual, topic DEFMACRO).
use Rattle.std.specs.Prelude.{ℕ, zero, suc, ◌+◌, ◌-◌, List, [], ◌∷◌, ◌++◌, map, length, take, drop, Bool, true, false, ◌&&◌, not, nat_eq, nat_le, nat_lt, Option, Some, None, option_map, option_and_then, slice_get, unwrap_or, option_to_list, if◌then◌else◌}
use Rattle.std.specs.Option.{option_or}
use Rattle.std.specs.List.{list_any, list_all, find}
use Rattle.std.specs.Str.{bytes_eq}
use Rattle.model_objects.specs.Object.{Object, Integer, Symbol, Text, Pair}
use Rattle.model_symbols.specs.Symbols.{QualifiedName, Package}
use Rattle.model_symbols.specs.Opening.{truth, nil}
use Rattle.model_prims.specs.Kinds.{by_number}
use Rattle.model_terms.specs.Cores.{Core, Cores, cores, Var, Const}
use Rattle.model_terms.specs.Cores as core
use Rattle.model_terms.specs.Worlds.{World, Definition, Function, OptionalFormal, MacroFormals, definition, Primitive, Defined, Macro, Constant, Concrete, Generated, Abstract, OfAbstract, Named, Signed}
use Rattle.model_terms.specs.Faults.{formal_names}
use Rattle.model_eval.specs.Outcomes.{Shown, Stop, Steps, Depth, Origin, here, State, Outcome, Gives, Stops, Unknown}
use Rattle.model_eval.specs.Variables.{bound, plain, single, object_of}
use Rattle.model_eval.specs.Checked.{checked, begun}
use Rattle.model_expansion.specs.Forms.{elements, list, symbol_name, is_key, is_self_evaluating}
use Rattle.model_expansion.specs.TypeTerms.{true_core, false_core, depth_of}
use Rattle.model_expansion.specs.Faults.{ExpandFault, MacroArgs, BadShape, MacroStopped, UnknownFunction, Arity, TooNested}
use Rattle.model_expansion.specs.Layers.{MacroRow, core_row, macro_row, Kind, IfNode, LetNode, MvNode, MvLetNode, StobjLetNode, WithLocalNode, MustBeEqualNode, CallNode, GuardItem, FormHolds, Meets, Part, Form, Ready, Rest, Guard, Found, Leaf, Node, Made, Again, Stays, leaf, if_made, call_made, false_part, made_of}

-- how deep a core form may be
abbrev pub deepest_core : ℕ
deepest_core = 2048

-- what an expansion goes by: definitions, packages, the most calls and the most forms open at once
pub record Setting : Type 0 where
  pub world : World
  pub packages : List Package
  pub steps : ℕ
  pub depth : ℕ

-- what is threaded through an expansion
pub record Progress : Type 0 where
  -- the calls counted so far, and those of them that no export made
  pub calls : ℕ
  pub outer : ℕ
  pub symbols : List QualifiedName
  pub last : Option Origin  -- of the last evaluation that was made, where it stopped, or where it would have stopped next
  pub cut : ℕ  -- of the evaluation of the command's own form; 1 where none was made

abbrev pub at_start : List QualifiedName → Progress
at_start symbols = record { calls = 0; outer = 0; symbols = symbols; last = None; cut = 1 }

-- after an evaluation that began there
abbrev pub progress_after : Progress → Origin → State ℕ → Progress
progress_after p origin state = record { calls = state.calls; outer = p.outer + state.outer; symbols = state.symbols; last = Some origin; cut = p.cut }

-- after that of the command's own form
abbrev pub evaluated_to : Progress → Origin → State ℕ → Progress
evaluated_to p origin state = record (progress_after p origin state) { cut = origin.cut }

pub data Expanded (A : Type 0) : Type 0 where
  Makes : A → Progress → Expanded A
  Fails : ExpandFault → Progress → Expanded A

-- what comes after; a fault is the end
abbrev pub then_make : {A B : Type 0} → Expanded A → (A → Progress → Expanded B) → Expanded B
then_make (Makes a p) go = go a p
then_make (Fails f p) go = Fails f p

-- a use that is counted, and then the rest; no use passes the limit
abbrev pub counting_expansion : {A : Type 0} → ℕ → (Progress → Expanded A) → Progress → Expanded A
counting_expansion steps go p = if nat_lt p.calls steps then go (record p { calls = p.calls + 1; outer = p.outer + 1 }) else Fails (MacroStopped Steps None) p

-- ---- nodes

abbrev pub part_at : List Core → ℕ → Core
part_at fs i = unwrap_or (slice_get fs i) false_core

-- a node with its parts
abbrev pub core_of_node : Kind → List Core → Core
core_of_node IfNode fs = core.If (part_at fs 0) (part_at fs 1) (part_at fs 2)
core_of_node (LetNode names) fs = core.Let names (cores (take (length names) fs)) (part_at fs (length names))
core_of_node MvNode fs = core.Mv (cores fs)
core_of_node (MvLetNode names) fs = core.MvLet names (part_at fs 0) (part_at fs 1)
core_of_node (StobjLetNode names vars) fs = core.StobjLet names (cores (take (length names) fs)) vars (part_at fs (length names)) (part_at fs (length names + 1))
core_of_node (WithLocalNode stobj names) fs = core.WithLocal stobj names (part_at fs 0) (part_at fs 1)
core_of_node MustBeEqualNode fs = core.MustBeEqual (part_at fs 0) (part_at fs 1)
core_of_node (CallNode f) fs = core.Call f (cores fs)

-- ---- the actuals of a user macro

-- a value for each formal, in the order of the formals, and the actuals that are left
abbrev pub Taken : Type 0
Taken = List (Object ℕ) × List (Object ℕ)

abbrev pub taken_then : Option Taken → (List (Object ℕ) → Option Taken) → Option Taken
taken_then None go = None
taken_then (Some t) go = option_map (λ (u : Taken). (t.0 ++ u.0, u.1)) (go t.1)

abbrev pub required_taken : List ℕ → List (Object ℕ) → Option Taken
required_taken xs os = if nat_le (length xs) (length os) then Some (take (length xs) os, drop (length xs) os) else None

-- whether an optional formal was there, where a formal asks for it
abbrev pub supplied_value : OptionalFormal → Bool → List (Object ℕ)
supplied_value f was_there = map (λ x. Symbol (if was_there then truth else nil)) (option_to_list f.supplied)

abbrev pub optional_values : OptionalFormal → Option (Object ℕ) → List (Object ℕ)
optional_values f None = f.default ∷ supplied_value f false
optional_values f (Some o) = o ∷ supplied_value f true

abbrev pub all_optional_values : List OptionalFormal → List (Object ℕ) → List (Object ℕ)
all_optional_values [] os = []
all_optional_values (f ∷ fs) [] = optional_values f None ++ all_optional_values fs []
all_optional_values (f ∷ fs) (o ∷ os) = optional_values f (Some o) ++ all_optional_values fs os

abbrev pub optional_taken : List OptionalFormal → List (Object ℕ) → Taken
optional_taken fs os = (all_optional_values fs os, drop (length fs) os)

-- keys with their values
abbrev pub key_pairs : List (Object ℕ) → Option (List (Object ℕ × Object ℕ))
key_pairs [] = Some []
key_pairs (key ∷ []) = None
key_pairs (key ∷ (v ∷ os)) = option_map (λ ps. (key, v) ∷ ps) (key_pairs os)

module _ (symbols : List QualifiedName) where
  -- the keyword of a formal
  abbrev pub names_formal : Object ℕ → OptionalFormal → Bool
  names_formal key f = is_key symbols (symbol_name symbols f.name) key

  -- the keys of this formal
  abbrev pub key_count : OptionalFormal → List (Object ℕ × Object ℕ) → ℕ
  key_count f [] = 0
  key_count f (p ∷ ps) = key_count f ps + (if names_formal p.0 f then 1 else 0)

  abbrev pub is_known_key : List OptionalFormal → Object ℕ → Bool
  is_known_key fs key = list_any (names_formal key) fs

  -- each key is one of a formal, and no formal has two
  abbrev pub keys_fit : List OptionalFormal → List (Object ℕ × Object ℕ) → Bool
  keys_fit fs ps = list_all (λ (p : Object ℕ × Object ℕ). is_known_key fs p.0) ps && list_all (λ (f : OptionalFormal). nat_le (key_count f ps) 1) fs

  abbrev pub actual_of_key : List (Object ℕ × Object ℕ) → OptionalFormal → Option (Object ℕ)
  actual_of_key ps f = option_map (λ (p : Object ℕ × Object ℕ). p.1) (find (λ (p : Object ℕ × Object ℕ). names_formal p.0 f) ps)

  abbrev pub all_key_values : List OptionalFormal → List (Object ℕ × Object ℕ) → List (Object ℕ)
  all_key_values [] ps = []
  all_key_values (f ∷ fs) ps = optional_values f (actual_of_key ps f) ++ all_key_values fs ps

  abbrev pub keys_taken : List OptionalFormal → List (Object ℕ) → Option (List (Object ℕ))
  keys_taken fs os = option_and_then (λ ps. if keys_fit fs ps then Some (all_key_values fs ps) else None) (key_pairs os)

  -- what is left goes to the rest formal, and to the keys where `&key` is among the formals
  abbrev pub last_taken : Option ℕ → Option (List OptionalFormal) → List (Object ℕ) → Option (List (Object ℕ))
  last_taken None None [] = Some []
  last_taken None None (o ∷ os) = None
  last_taken (Some x) None os = Some (list os ∷ [])
  last_taken None (Some fs) os = keys_taken fs os
  last_taken (Some x) (Some fs) os = option_map (λ vs. list os ∷ vs) (keys_taken fs os)

  abbrev pub after_required : MacroFormals → Taken → Option (List (Object ℕ))
  after_required f t =
      let u = optional_taken f.optional t.1 in option_map (λ vs. t.0 ++ (u.0 ++ vs)) (last_taken f.rest f.keys u.1)

  -- the values of a macro's formals; None where the actuals do not fit
  unfoldable pub macro_values : MacroFormals → List (Object ℕ) → Option (List (Object ℕ))
  macro_values f os = option_and_then (after_required f) (required_taken f.required os)

-- ---- one place

-- what is seen at a place: what stands there, a fault, or a use that counts
pub data Look : Type 0 where
  Stands : Found → Look
  Bad : ExpandFault → Look
  Use : ℕ → MacroRow → Object ℕ → Look
  UserUse : ℕ → MacroFormals → Core → Object ℕ → Look

abbrev pub Settle : Type 0
Settle = Object ℕ → Progress → Expanded Found

-- goes on where another form stands at the place now
abbrev pub settles : Settle → Made → Progress → Expanded Found
settles go (Stays f) p = Makes f p
settles go (Again o) p = go o p

abbrev pub out_of_steps : Settle
out_of_steps o p = Fails (MacroStopped Steps None) p

-- what an expansion is of the outcome of a macro's body: its value is expanded again
abbrev pub again : Progress → Outcome ℕ → Expanded Made
again p (Gives values state) = Makes (Again (object_of by_number (single by_number values))) (progress_after p (here state) state)
again p (Stops stop origin state) = Fails (MacroStopped stop origin.inside) (progress_after p origin state)
again p Unknown = Fails TooNested p

-- a core form of a shape, or of none
abbrev pub core_look : ℕ → Option Made → Look
core_look s None = Bad (BadShape s)
core_look s (Some (Stays f)) = Stands f
core_look s (Some (Again o)) = Bad (BadShape s)

abbrev pub call_look : ℕ → ℕ → Option (List (Object ℕ)) → Look
call_look s arity None = Bad (BadShape s)
call_look s arity (Some os) = if nat_eq (length os) arity then Stands (Node (CallNode s) (map Form os)) else Bad (Arity s)

-- how many arguments a function takes; None where the definition is none of a function
abbrev pub arity_of : Option Definition → Option ℕ
arity_of None = None
arity_of (Some (Primitive name row)) = Some row.arity
arity_of (Some (Defined f)) = Some (length f.formals)
arity_of (Some (Macro name formals body)) = None
arity_of (Some (Constant name value)) = None
arity_of (Some (Concrete d class)) = None
arity_of (Some (Generated f)) = Some (length f.signature.ins)
arity_of (Some (Abstract d)) = None
arity_of (Some (OfAbstract f)) = Some (length f.formals)
arity_of (Some (Named name formals)) = Some (length formals)
arity_of (Some (Signed name formals signature executable)) = Some (length formals)

abbrev pub function_look : ℕ → Object ℕ → Option ℕ → Look
function_look s d None = Bad (UnknownFunction s)
function_look s d (Some arity) = call_look s arity (elements d)

-- a form whose head is neither a core form nor a built-in macro
abbrev pub defined_look : ℕ → Object ℕ → Option Definition → Look
defined_look s d (Some (Macro name formals body)) = UserUse s formals body d
defined_look s d found = function_look s d (arity_of found)

module _ (x : Setting) where
  abbrev pub macro_look : List QualifiedName → ℕ → Object ℕ → Option MacroRow → Look
  macro_look symbols s d None = defined_look s d (definition x.world s)
  macro_look symbols s d (Some row) = Use s row d

  abbrev pub headed_look : List QualifiedName → ℕ → Object ℕ → Option MacroRow → Look
  headed_look symbols s d None = macro_look symbols s d (macro_row s)
  headed_look symbols s d (Some row) = core_look s (option_and_then (made_of symbols row) (elements d))

  abbrev pub list_look : List QualifiedName → Object ℕ → Object ℕ → Look
  list_look symbols (Integer n) d = Bad (BadShape nil)
  list_look symbols (Symbol s) d = headed_look symbols s d (core_row s)
  list_look symbols (Text bytes) d = Bad (BadShape nil)
  list_look symbols (Pair a b) d = Bad (BadShape nil)

  -- a constant's value, else the variable
  abbrev pub variable_or : ℕ → Option Definition → Core
  variable_or s (Some (Constant name value)) = Const value
  variable_or s found = Var s

  abbrev pub symbol_look : List QualifiedName → ℕ → Core
  symbol_look symbols s = if is_self_evaluating symbols s then Const (Symbol s) else variable_or s (definition x.world s)

  unfoldable pub look_at : List QualifiedName → Object ℕ → Look
  look_at symbols (Integer n) = Stands (Leaf (Const (Integer n)))
  look_at symbols (Symbol s) = Stands (Leaf (symbol_look symbols s))
  look_at symbols (Text bytes) = Stands (Leaf (Const (Text bytes)))
  look_at symbols (Pair a d) = list_look symbols a d

  -- a use of a built-in macro that was counted
  abbrev pub built : ℕ → MacroRow → Object ℕ → Progress → Expanded Made
  built s row d p = of_shape (option_and_then (made_of p.symbols row) (elements d)) where
    of_shape : Option Made → Expanded Made
    of_shape None = Fails (BadShape s) p
    of_shape (Some m) = Makes m p

  -- the outcome of a macro's body, no form being open
  abbrev pub body_value : MacroFormals → Core → List (Object ℕ) → Progress → Outcome ℕ
  body_value formals body values p =
      checked x.world x.packages x.steps x.depth body (bound (formal_names formals) (plain values) []) (begun p.symbols [] p.calls)

  abbrev pub used : ℕ → MacroFormals → Core → Option (List (Object ℕ)) → Progress → Expanded Made
  used s formals body None p = Fails (BadShape s) p
  used s formals body (Some os) p = of_actuals (macro_values p.symbols formals os) where
    of_actuals : Option (List (Object ℕ)) → Expanded Made
    of_actuals None = Fails (MacroArgs s) p
    of_actuals (Some values) = again p (body_value formals body values p)

  abbrev pub looked : Look → Progress → Expanded Made
  looked (Stands f) p = Makes (Stays f) p
  looked (Bad f) p = Fails f p
  looked (Use s row d) p = counting_expansion x.steps (built s row d) p
  looked (UserUse s formals body d) p = counting_expansion x.steps (used s formals body (elements d)) p

  -- what stands at a place in the end: each use there takes one of the steps that are left
  unfoldable pub settled : ℕ → Settle
  settled zero o p = then_make (looked (look_at p.symbols o) p) (settles out_of_steps)
  settled (suc left) o p = then_make (looked (look_at p.symbols o) p) (settles (settled left))

  abbrev pub settle : Settle
  settle o p = settled (x.steps - p.calls) o p

  -- ---- parts

  abbrev pub row_found : Option Made → Progress → Expanded Found
  row_found None p = Fails TooNested p
  row_found (Some m) p = settles settle m p

  -- the first node of a ready form that is too deep, or that calls what is no function of so many arguments
  abbrev pub head_fault : ℕ → ℕ → Option ℕ → Option ExpandFault
  head_fault f count None = Some (UnknownFunction f)
  head_fault f count (Some arity) = if nat_eq count arity then None else Some (Arity f)

  abbrev pub if_room : ℕ → Option ExpandFault → Option ExpandFault
  if_room zero fault = Some TooNested
  if_room (suc left) fault = fault

  abbrev mutual
    pub ready_fault : Core → ℕ → Option ExpandFault
    ready_fault (Var v) left = if_room left None
    ready_fault (Const o) left = if_room left None
    ready_fault (core.If a b c) left = if_room left (option_or (ready_fault a (left - 1)) (option_or (ready_fault b (left - 1)) (ready_fault c (left - 1))))
    ready_fault (core.Let names forms body) left = if_room left (option_or (ready_faults forms (left - 1)) (ready_fault body (left - 1)))
    ready_fault (core.Mv fs) left = if_room left (ready_faults fs (left - 1))
    ready_fault (core.MvLet names form body) left = if_room left (option_or (ready_fault form (left - 1)) (ready_fault body (left - 1)))
    ready_fault (core.StobjLet names forms vars producer consumer) left =
        if_room left (option_or (ready_faults forms (left - 1)) (option_or (ready_fault producer (left - 1)) (ready_fault consumer (left - 1))))
    ready_fault (core.WithLocal stobj names producer body) left = if_room left (option_or (ready_fault producer (left - 1)) (ready_fault body (left - 1)))
    ready_fault (core.MustBeEqual logic exec) left = if_room left (option_or (ready_fault logic (left - 1)) (ready_fault exec (left - 1)))
    ready_fault (core.Call f fs) left = if_room left (option_or (head_fault f (core.count fs) (arity_of (definition x.world f))) (ready_faults fs (left - 1)))

    pub ready_faults : Cores → ℕ → Option ExpandFault
    ready_faults core.none left = None
    ready_faults (core.more f fs) left = option_or (ready_fault f left) (ready_faults fs left)

  -- a ready form, where so many levels are left
  abbrev pub ready_found : Core → Option ExpandFault → Progress → Expanded Found
  ready_found f None p = Makes (Leaf f) p
  ready_found f (Some fault) p = Fails fault p

  abbrev pub ready : ℕ → Core → Progress → Expanded Found
  ready left f p = ready_found f (ready_fault f left) p

  abbrev pub item_part : GuardItem → Part
  item_part (FormHolds o) = Form o
  item_part (Meets f) = Ready f

  -- all of the tests: `'T` where there are none
  abbrev pub guard_found : ℕ → List GuardItem → Progress → Expanded Found
  guard_found left [] p = Makes (Leaf true_core) p
  guard_found left (FormHolds o ∷ []) p = settle o p
  guard_found left (Meets f ∷ []) p = ready left f p
  guard_found left (g ∷ (h ∷ gs)) p = Makes (Node IfNode (item_part g ∷ Guard (h ∷ gs) ∷ false_part ∷ [])) p

  abbrev pub part_found : ℕ → Part → Progress → Expanded Found
  part_found left (Form o) p = settle o p
  part_found left (Ready f) p = ready left f p
  part_found left (Rest row os) p = row_found (made_of p.symbols row os) p
  part_found left (Guard gs) p = guard_found left gs p

-- ---- all places

abbrev pub Grow : Type 0
Grow = Part → Progress → Expanded Core

-- the parts in order
unfoldable pub grown_all : Grow → List Part → List Core → Progress → Expanded (List Core)
grown_all grow [] done p = Makes done p
grown_all grow (q ∷ qs) done p = then_make (grow q p) (λ f after. grown_all grow qs (done ++ f ∷ []) after)

abbrev pub grown_found : Grow → Found → Progress → Expanded Core
grown_found grow (Leaf f) p = Makes f p
grown_found grow (Node k qs) p = then_make (grown_all grow qs [] p) (λ fs after. Makes (core_of_node k fs) after)

-- the core form of a part, where so many levels are left
unfoldable pub grown : Setting → ℕ → Grow
grown x zero q p = Fails TooNested p
grown x (suc left) q p = then_make (part_found x (suc left) q p) (grown_found (grown x left))

abbrev pub expanded : Setting → Object ℕ → Progress → Expanded Core
expanded x o p = grown x deepest_core (Form o) p

-- the guard of a definition
abbrev pub expanded_guard : Setting → List GuardItem → Progress → Expanded Core
expanded_guard x gs p = grown x deepest_core (Guard gs) p
