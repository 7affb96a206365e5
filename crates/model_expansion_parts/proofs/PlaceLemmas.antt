-- What stands at a place in the end has as many parts as its kind asks for.
use Rattle.std.proofs.Common.{ℕ, zero, suc, ◌+◌, ◌-◌, List, [], ◌∷◌, length, map, Bool, true, false, Option, Some, None, refl}
use Rattle.std.specs.Prelude.{nat_lt, nat_eq, if◌then◌else◌, option_and_then}
use Rattle.model_objects.specs.Object.{Object, Integer, Symbol, Text, Pair}
use Rattle.model_symbols.specs.Symbols.{QualifiedName}
use Rattle.model_terms.specs.Cores.{Core}
use Rattle.model_terms.specs.Worlds.{MacroFormals, Definition, Primitive, Defined, Macro, Constant, Concrete, Generated, Abstract, OfAbstract, Named, Signed, definition}
use Rattle.model_eval.specs.Outcomes.{Steps, Outcome, Gives, Stops, Unknown}
use Rattle.model_expansion.specs.Forms.{elements}
use Rattle.model_expansion.specs.Faults.{ExpandFault, Arity, BadShape, MacroArgs, MacroStopped}
use Rattle.model_expansion.specs.Layers.{MacroRow, core_row, macro_row, CallNode, GuardItem, FormHolds, Meets, Part, Form, Ready, Rest, Guard, Found, Node, Made, Again, Stays, made_of}
use Rattle.model_expansion.specs.Expansion.{Setting, Progress, Expanded, Makes, Fails, then_make, counting_expansion, macro_values, Look, Stands, Bad, Use, UserUse, Settle, settles, out_of_steps, again, core_look, call_look, arity_of, function_look, defined_look, macro_look, headed_look, list_look, look_at, built, body_value, used, looked, settled, settle, row_found, ready_fault, ready_found, guard_found, part_found}
use Rattle.model_expansion_parts.proofs.RowLemmas.{FoundFits, MadeFits, FitsIfAny, made_fits}

abbrev pub LookFits : Look → Type 0
LookFits (Stands f) = FoundFits f
LookFits (Bad fault) = Unit {0}
LookFits (Use s row d) = Unit {0}
LookFits (UserUse s formals body d) = Unit {0}

abbrev pub OutcomeFits : Expanded Made → Type 0
OutcomeFits (Makes m p) = MadeFits m
OutcomeFits (Fails fault p) = Unit {0}

abbrev pub PlaceFits : Expanded Found → Type 0
PlaceFits (Makes f p) = FoundFits f
PlaceFits (Fails fault p) = Unit {0}

-- ---- a look

pub option_fits : (symbols : List QualifiedName) (row : MacroRow) (os : Option (List (Object ℕ))) → FitsIfAny (option_and_then (made_of symbols row) os)
option_fits symbols row None = tt
option_fits symbols row (Some os) = made_fits symbols row os

pub core_fits : (s : ℕ) (m : Option Made) → FitsIfAny m → LookFits (core_look s m)
core_fits s None h = tt
core_fits s (Some (Stays f)) h = h
core_fits s (Some (Again o)) h = tt

pub call_fits : (s arity : ℕ) (os : Option (List (Object ℕ))) → LookFits (call_look s arity os)
call_fits s arity None = tt
call_fits s arity (Some os) = go (nat_eq (length os) arity)
  where
    go : (b : Bool) → LookFits (if b then Stands (Node (CallNode s) (map Form os)) else Bad (Arity s))
    go true = tt
    go false = tt

function_fits : (s : ℕ) (d : Object ℕ) (arity : Option ℕ) → LookFits (function_look s d arity)
function_fits s d None = tt
function_fits s d (Some arity) = call_fits s arity (elements d)

defined_fits : (s : ℕ) (d : Object ℕ) (found : Option Definition) → LookFits (defined_look s d found)
defined_fits s d None = tt
defined_fits s d (Some (Macro name formals body)) = tt
defined_fits s d (Some (Primitive name row)) = function_fits s d (arity_of (Some (Primitive name row)))
defined_fits s d (Some (Defined f)) = function_fits s d (arity_of (Some (Defined f)))
defined_fits s d (Some (Constant name value)) = tt
defined_fits s d (Some (Concrete e class)) = tt
defined_fits s d (Some (Generated f)) = function_fits s d (arity_of (Some (Generated f)))
defined_fits s d (Some (Abstract e)) = tt
defined_fits s d (Some (OfAbstract f)) = function_fits s d (arity_of (Some (OfAbstract f)))
defined_fits s d (Some (Named name formals)) = function_fits s d (arity_of (Some (Named name formals)))
defined_fits s d (Some (Signed name formals signature executable)) = function_fits s d (arity_of (Some (Signed name formals signature executable)))

module _ (x : Setting) where
  macro_fits : (symbols : List QualifiedName) (s : ℕ) (d : Object ℕ) (row : Option MacroRow) → LookFits (macro_look x symbols s d row)
  macro_fits symbols s d None = defined_fits s d (definition x.world s)
  macro_fits symbols s d (Some row) = tt

  headed_fits : (symbols : List QualifiedName) (s : ℕ) (d : Object ℕ) (row : Option MacroRow) → LookFits (headed_look x symbols s d row)
  headed_fits symbols s d None = macro_fits symbols s d (macro_row s)
  headed_fits symbols s d (Some row) = core_fits s (option_and_then (made_of symbols row) (elements d)) (option_fits symbols row (elements d))

  list_fits : (symbols : List QualifiedName) (a d : Object ℕ) → LookFits (list_look x symbols a d)
  list_fits symbols (Integer m) d = tt
  list_fits symbols (Symbol s) d = headed_fits symbols s d (core_row s)
  list_fits symbols (Text bytes) d = tt
  list_fits symbols (Pair a b) d = tt

  pub look_fits : (symbols : List QualifiedName) (o : Object ℕ) → LookFits (look_at x symbols o)
  unfolding look_at
  look_fits symbols (Integer m) = tt
  look_fits symbols (Symbol s) = tt
  look_fits symbols (Text bytes) = tt
  look_fits symbols (Pair a d) = list_fits symbols a d

  -- ---- one use

  -- a built-in macro's use is of this shape
  abbrev shaped : ℕ → Progress → Option Made → Expanded Made
  shaped s p None = Fails (BadShape s) p
  shaped s p (Some m) = Makes m p

  shaped_fits : (s : ℕ) (p : Progress) (m : Option Made) → FitsIfAny m → OutcomeFits (shaped s p m)
  shaped_fits s p None h = tt
  shaped_fits s p (Some m) h = h

  pub built_fits : (s : ℕ) (row : MacroRow) (d : Object ℕ) (p : Progress) → OutcomeFits (built x s row d p)
  built_fits s row d p = shaped_fits s p (option_and_then (made_of p.symbols row) (elements d)) (option_fits p.symbols row (elements d))

  again_fits : (p : Progress) (e : Outcome ℕ) → OutcomeFits (again p e)
  again_fits p (Gives values state) = tt
  again_fits p (Stops stop origin state) = tt
  again_fits p Unknown = tt

  -- the values of a user macro's formals
  abbrev with_values : ℕ → MacroFormals → Core → Progress → Option (List (Object ℕ)) → Expanded Made
  with_values s formals body p None = Fails (MacroArgs s) p
  with_values s formals body p (Some values) = again p (body_value x formals body values p)

  values_fit : (s : ℕ) (formals : MacroFormals) (body : Core) (p : Progress) (values : Option (List (Object ℕ))) → OutcomeFits (with_values s formals body p values)
  values_fit s formals body p None = tt
  values_fit s formals body p (Some values) = again_fits p (body_value x formals body values p)

  used_fits : (s : ℕ) (formals : MacroFormals) (body : Core) (os : Option (List (Object ℕ))) (p : Progress) → OutcomeFits (used x s formals body os p)
  used_fits s formals body None p = tt
  used_fits s formals body (Some os) p = values_fit s formals body p (macro_values p.symbols formals os)

  counting_fits : (p : Progress) (go : Progress → Expanded Made) → ((q : Progress) → OutcomeFits (go q)) → OutcomeFits (counting_expansion x.steps go p)
  counting_fits p go h = by_test (nat_lt p.calls x.steps)
    where
      by_test : (b : Bool) → OutcomeFits (if b then go (record p { calls = p.calls + 1; outer = p.outer + 1 }) else Fails (MacroStopped Steps None) p)
      by_test true = h (record p { calls = p.calls + 1; outer = p.outer + 1 })
      by_test false = tt

  pub looked_fits : (l : Look) (p : Progress) → LookFits l → OutcomeFits (looked x l p)
  looked_fits (Stands f) p h = h
  looked_fits (Bad fault) p h = tt
  looked_fits (Use s row d) p h = counting_fits p (built x s row d) (built_fits s row d)
  looked_fits (UserUse s formals body d) p h = counting_fits p (used x s formals body (elements d)) (used_fits s formals body (elements d))

  -- ---- settling

  settles_fits : (o : Expanded Made) (go : Settle) → OutcomeFits o → ((a : Object ℕ) (q : Progress) → PlaceFits (go a q)) → PlaceFits (then_make o (settles go))
  settles_fits (Makes (Again a) q) go h k = k a q
  settles_fits (Makes (Stays f) q) go h k = h
  settles_fits (Fails fault q) go h k = tt

  pub settled_fits : (left : ℕ) (o : Object ℕ) (p : Progress) → PlaceFits (settled x left o p)
  unfolding settled
  settled_fits zero o p = settles_fits (looked x (look_at x p.symbols o) p) out_of_steps (looked_fits (look_at x p.symbols o) p (look_fits p.symbols o)) (λ a q. tt)
  settled_fits (suc left) o p = settles_fits (looked x (look_at x p.symbols o) p) (settled x left) (looked_fits (look_at x p.symbols o) p (look_fits p.symbols o)) (settled_fits left)

  pub settle_fits : (o : Object ℕ) (p : Progress) → PlaceFits (settle x o p)
  settle_fits o p = settled_fits (x.steps - p.calls) o p

  -- ---- parts

  pub row_fits : (m : Option Made) (p : Progress) → FitsIfAny m → PlaceFits (row_found x m p)
  row_fits None p h = tt
  row_fits (Some (Again o)) p h = settle_fits o p
  row_fits (Some (Stays f)) p h = h

  ready_fits : (f : Core) (fault : Option ExpandFault) (p : Progress) → PlaceFits (ready_found x f fault p)
  ready_fits f None p = tt
  ready_fits f (Some fault) p = tt

  guard_fits : (left : ℕ) (gs : List GuardItem) (p : Progress) → PlaceFits (guard_found x left gs p)
  guard_fits left [] p = tt
  guard_fits left (FormHolds o ∷ []) p = settle_fits o p
  guard_fits left (Meets f ∷ []) p = ready_fits f (ready_fault x f left) p
  guard_fits left (g ∷ (h ∷ gs)) p = refl

  pub part_fits : (left : ℕ) (a : Part) (p : Progress) → PlaceFits (part_found x left a p)
  part_fits left (Form o) p = settle_fits o p
  part_fits left (Ready f) p = ready_fits f (ready_fault x f left) p
  part_fits left (Rest row os) p = row_fits (made_of p.symbols row os) p (made_fits p.symbols row os)
  part_fits left (Guard gs) p = guard_fits left gs p
