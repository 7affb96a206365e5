-- Abstract evaluation: as checked evaluation, but an abstract stobj is its abstract list, an export gives the values of its
-- logic function, nothing inside an export is counted, and symbols are named and have no limit (ACL2's manual, topic
-- DEFABSSTOBJ).
use Rattle.std.specs.Prelude.{ℕ, List, [], ◌∷◌, map, Option, Some, None, ℤ, pos, negsuc, nat_le, if◌then◌else◌}
use Rattle.std.specs.Option.{option_map}
use Rattle.model_objects.specs.Object.{Integer, Symbol, Text, Pair, weight, max_weight}
use Rattle.model_symbols.specs.Symbols.{QualifiedName, Package, symbol_in, form_of}
use Rattle.model_prims.specs.Kinds.{by_name}
use Rattle.model_prims.specs.Numbers.{shifted, in_range, power_in_range, shift_in_range}
use Rattle.model_prims.specs.Lists.{updated}
use Rattle.model_prims.specs.Guards.{guard}
use Rattle.model_prims.specs.Values.{Wanted, Old, Number, Made, Power, Shift, Update, Interned, wanted}
use Rattle.model_prims.specs.Applied.{argument, package_called}
use Rattle.model_prims.specs.declared.prim.Prim.{Prim}
use Rattle.model_lists.specs.Lists.{StobjList, Value, End, as_object}
use Rattle.model_lists.specs.Layouts.{initial}
use Rattle.model_terms.specs.Worlds.{World, Definition, FunctionOfAbstract, AbstractDescriptor, Out, Ordinary, definition, Primitive, Defined, Macro, Constant, Concrete, Generated, Abstract, OfAbstract, Named, Signed}
use Rattle.model_terms.specs.Worlds as worlds
use Rattle.model_eval.specs.Outcomes.{Shown, Plain, StobjNamed, Stobjs, Guard, Range, Large, State, Outcome, Gives, Unknown, stops_here}
use Rattle.model_eval.specs.Variables.{ordinary, first_stobj, list_of, with_list}
use Rattle.model_eval.specs.StobjLayouts.{stobj_layout}
use Rattle.model_eval.specs.Evaluated.{Rules, Evaluator, evaluated}
use Rattle.model_logic.specs.Logic.{Theory, Found, Thing, element_values, logic_call}

-- ---- primitives

module _ (packages : List Package) (f : ℕ) (state : State QualifiedName) where
  abbrev pub gives_value : Thing → Outcome QualifiedName
  gives_value o = Gives (Plain o ∷ []) state

  abbrev pub gives_number : Option ℤ → Outcome QualifiedName
  gives_number None = stops_here (Range f) state
  gives_number (Some n) = gives_value (Integer n)

  abbrev pub gives_weighed : Thing → Outcome QualifiedName
  gives_weighed o = if nat_le (weight o) max_weight then gives_value o else stops_here (Large f) state

  -- an argument or a part of one, which is given as it is, as checked evaluation gives it
  abbrev pub gives_old : Thing → Outcome QualifiedName
  gives_old o = gives_value o

  -- an integer of any width shifted
  abbrev pub gives_shifted : ℤ → ℤ → Outcome QualifiedName
  gives_shifted i (pos c) = gives_number (shift_in_range i (pos c))
  gives_shifted i (negsuc c) = gives_number (in_range (shifted i (negsuc c)))

  -- the value of a primitive with the bounds of a value
  unfoldable pub bounded_value : Wanted QualifiedName → Outcome QualifiedName
  bounded_value (Old o) = gives_old o
  bounded_value (Number n) = gives_number (in_range n)
  bounded_value (Made o) = gives_weighed o
  bounded_value (Power b n) = gives_number (power_in_range b n)
  bounded_value (Shift i c) = gives_shifted i c
  bounded_value (Update n o l) = if nat_le n max_weight then gives_weighed (updated by_name n o l) else stops_here (Large f) state
  bounded_value (Interned name s) = gives_value (Symbol (symbol_in (package_called packages s.home) name))

  abbrev pub abstract_applied : Prim → List (Shown QualifiedName) → Thing → Thing → Thing → Outcome QualifiedName
  abstract_applied p values x y z = if guard by_name p x y z then bounded_value (wanted by_name (λ s. s) p x y z) else stops_here (Guard f values) state

abbrev pub abstract_primitive : List Package → ℕ → Prim → List (Shown QualifiedName) → State QualifiedName → Outcome QualifiedName
abstract_primitive packages f p values state =
    let args = ordinary values in
    abstract_applied packages f state p values (argument by_name args 0) (argument by_name args 1) (argument by_name args 2)

-- ---- stobjs and exports

module _ (b : Theory) (budget : ℕ) where
  -- the value of a logic function, where the budget suffices
  abbrev pub logic_value_of : ℕ → List Thing → Option Thing
  logic_value_of name args = option_map (λ (f : Found). f.value) (logic_call b budget name args 0)

  -- the list of a new stobj: that of an abstract one is the value of its logic creator
  abbrev pub fresh_defined : ℕ → Option Definition → Option (StobjList QualifiedName)
  fresh_defined x None = Some End
  fresh_defined x (Some (Primitive name row)) = Some End
  fresh_defined x (Some (Defined f)) = Some End
  fresh_defined x (Some (Macro name formals body)) = Some End
  fresh_defined x (Some (Constant name value)) = Some End
  fresh_defined x (Some (Concrete d class)) = Some (initial (stobj_layout (form_of b.symbols) b.world x))
  fresh_defined x (Some (Generated g)) = Some End
  fresh_defined x (Some (Abstract d)) = option_map Value (logic_value_of d.creator.logic [])
  fresh_defined x (Some (OfAbstract f)) = Some End
  fresh_defined x (Some (Named name formals)) = Some End
  fresh_defined x (Some (Signed name formals signature executable)) = Some End

  abbrev pub abstract_fresh : ℕ → Option (StobjList QualifiedName)
  abstract_fresh x = fresh_defined x (definition b.world x)

  -- an actual in the logic: of a stobj its list
  abbrev pub logic_actual : Stobjs QualifiedName → Shown QualifiedName → Thing
  logic_actual stobjs (Plain o) = o
  logic_actual stobjs (StobjNamed x) = as_object by_name (list_of stobjs x)

  -- the outputs of a logic function, of which a stobj is the one that this variable names
  abbrev pub out_values : Option ℕ → List Out → List Thing → List (Shown QualifiedName)
  out_values x [] parts = []
  out_values x (o ∷ os) [] = []
  out_values x (Ordinary ∷ os) (p ∷ ps) = Plain p ∷ out_values x os ps
  out_values None (worlds.Stobj y ∷ os) (p ∷ ps) = Plain p ∷ out_values None os ps
  out_values (Some x) (worlds.Stobj y ∷ os) (p ∷ ps) = StobjNamed x ∷ out_values (Some x) os ps

  abbrev pub out_stobjs : Option ℕ → List Out → List Thing → Stobjs QualifiedName → Stobjs QualifiedName
  out_stobjs x [] parts stobjs = stobjs
  out_stobjs x (o ∷ os) [] stobjs = stobjs
  out_stobjs x (Ordinary ∷ os) (p ∷ ps) stobjs = out_stobjs x os ps stobjs
  out_stobjs None (worlds.Stobj y ∷ os) (p ∷ ps) stobjs = out_stobjs None os ps stobjs
  out_stobjs (Some x) (worlds.Stobj y ∷ os) (p ∷ ps) stobjs = out_stobjs (Some x) os ps (with_list x (Value p) stobjs)

  -- a value as one for each output
  abbrev pub out_parts : List Out → Thing → List Thing
  out_parts [] value = []
  out_parts (o ∷ []) value = value ∷ []
  out_parts (o ∷ (p ∷ ps)) value = element_values (map (λ (q : Out). 0) (o ∷ (p ∷ ps))) 0 value

  abbrev pub abstract_export : FunctionOfAbstract → List (Shown QualifiedName) → State QualifiedName → Option Thing → Outcome QualifiedName
  abstract_export f values state None = Unknown
  abstract_export f values state (Some v) =
      let x = first_stobj values in
      let outs = f.signature.outs in
      Gives (out_values x outs (out_parts outs v)) (record state { stobjs = out_stobjs x outs (out_parts outs v) state.stobjs })

  -- the rules of abstract evaluation with a limit of calls
  abbrev pub abstract_rules : ℕ → Rules QualifiedName
  abstract_rules limit = record {
    world = b.world;
    limit = limit;
    kind = by_name;
    see = form_of b.symbols;
    primitive = abstract_primitive b.packages;
    fresh = abstract_fresh;
    export = λ f values before exec state. abstract_export f values state (logic_value_of f.logic (map (logic_actual state.stobjs) values));
  }

  abbrev pub abstractly : ℕ → ℕ → Evaluator QualifiedName
  abstractly limit depth = evaluated (abstract_rules limit) depth
