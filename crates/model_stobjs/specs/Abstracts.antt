-- The definition of an abstract stobj: reading it, its refusals in order, and what it brings (ACL2's manual, topic
-- DEFABSSTOBJ).
use Rattle.std.specs.Prelude.{ℕ, ◌+◌, List, [], ◌∷◌, ◌++◌, map, length, replicate, Bool, true, false, not, ◌&&◌, ◌||◌, Option, Some, None, nat_eq, nat_lt, nat_le, option_map, option_and_then, is_some, position, unwrap_or, codes, if◌then◌else◌}
use Rattle.std.specs.Option.{option_or, option_map_or}
use Rattle.std.specs.List.{flat_map, zip, list_all}
use Rattle.model_objects.specs.Object.{Object, Integer, Symbol, Text, Pair}
use Rattle.model_symbols.specs.Symbols.{QualifiedName, Package, number_of}
use Rattle.model_symbols.specs.Opening.{nil}
use Rattle.model_terms.specs.declared.rule.Mode.TheVariants.{Executable}
use Rattle.model_terms.specs.declared.role.AbstractRole.{AbstractRole}
use Rattle.model_terms.specs.declared.role.AbstractRole.TheVariants as abstract_role
use Rattle.model_terms.specs.Cores.{Core, Var}
use Rattle.model_terms.specs.Worlds.{World, Out, Ordinary, Stobj, Signature, Entry, Scope, Function, Descriptor, AbstractFunction, AbstractDescriptor, FunctionOfAbstract, Definition, Primitive, Defined, Macro, Constant, Concrete, Generated, Abstract, OfAbstract, Named, Signed, definition}
use Rattle.model_terms.specs.Classes.{stobjs, has}
use Rattle.model_terms.specs.Outputs.{signature_of}
use Rattle.model_terms.specs.Accessors.{descriptor_of, is_internal, is_executable}
use Rattle.model_terms.specs.Nested.{is_stobj, same_kinds}
use Rattle.model_terms.specs.Faults.{Fault, first_fault}
use Rattle.model_terms.specs.Sites.{one_ordinary}
use Rattle.model_expansion.specs.Words.{defabsstobj_word}
use Rattle.model_expansion.specs.Forms.{elements, each, each_of, symbol, symbol_name, symbol_or_nil}
use Rattle.model_expansion.specs.TypeTerms.{true_core}
use Rattle.model_expansion.specs.Faults.{Refusal, BadShape, Expand, FoundationNotConcrete, MissingFunction, SignatureMismatch, GuardNotExecutable}
use Rattle.model_expansion.specs.Expansion.{Progress}
use Rattle.model_stobjs.specs.Answers.{EventResult, Grants, unless, needing, first_given}
use Rattle.model_stobjs.specs.Heads.{name_in_use, bad_name}
use Rattle.model_stobjs.specs.Keys.{Keyed, key_value, is_given, keys_in}
use Rattle.model_stobjs.specs.Descriptors.{Making, MadeNames, symbol_beside, names_made, number_at, room_for}
use Rattle.model_stobjs.specs.Guards.{Renaming, renamed_core, with_functions, binds, generated_guard}

-- ---- as it is written

-- a function: its name, and the names of its logic and exec functions, where they are written out
pub record WrittenFunction : Type 0 where
  pub name : Option (Object ℕ)
  pub logic : Option ℕ
  pub exec : Option ℕ

pub record WrittenAbstract : Type 0 where
  pub name : Object ℕ
  pub foundation : Option ℕ
  pub recognizer : WrittenFunction
  pub creator : WrittenFunction
  pub corr : Option ℕ
  pub exports : List WrittenFunction

abbrev pub abstract_keys : List (List ℕ)
abstract_keys =
    codes "FOUNDATION" ∷ codes "CONCRETE" ∷ codes "RECOGNIZER" ∷ codes "CREATOR" ∷ codes "CORR-FN" ∷ codes "EXPORTS" ∷ []

abbrev pub function_keys : List (List ℕ)
function_keys = codes "LOGIC" ∷ codes "EXEC" ∷ codes "PROTECT" ∷ []

-- a symbol, where there is anything
abbrev pub symbol_if_given : Option (Object ℕ) → Option (Option ℕ)
symbol_if_given None = Some None
symbol_if_given (Some o) = option_map (λ s. Some s) (symbol o)

abbrev pub no_function : WrittenFunction
no_function = record { name = None; logic = None; exec = None }

abbrev pub function_with : Object ℕ → List Keyed → Option WrittenFunction
function_with name ks =
    option_and_then (λ l. option_map (λ e. record { name = Some name; logic = l; exec = e }) (symbol_if_given (key_value (codes "EXEC") ks)))
    (symbol_if_given (key_value (codes "LOGIC") ks))

abbrev pub function_in : List QualifiedName → List (Object ℕ) → Option WrittenFunction
function_in symbols [] = None
function_in symbols (name ∷ os) = option_and_then (function_with name) (keys_in symbols function_keys os)

-- `name`, or `(name :logic l :exec e :protect b)`
abbrev pub written_function : List QualifiedName → Object ℕ → Option WrittenFunction
written_function symbols (Pair a d) = option_and_then (function_in symbols) (elements (Pair a d))
written_function symbols o = Some (record { name = Some o; logic = None; exec = None })

abbrev pub function_if_given : List QualifiedName → Option (Object ℕ) → Option WrittenFunction
function_if_given symbols None = Some no_function
function_if_given symbols (Some o) = written_function symbols o

abbrev pub exports_if_given : List QualifiedName → Option (Object ℕ) → Option (List WrittenFunction)
exports_if_given symbols None = Some []
exports_if_given symbols (Some o) = each_of (written_function symbols) o

-- under either of two keys, but not under both
abbrev pub foundation_given : List Keyed → Option (Option ℕ)
foundation_given ks =
    if is_given (codes "FOUNDATION") ks && is_given (codes "CONCRETE") ks then None
    else symbol_if_given (option_or (key_value (codes "FOUNDATION") ks) (key_value (codes "CONCRETE") ks))

abbrev pub written_with : List QualifiedName → Object ℕ → List Keyed → Option WrittenAbstract
written_with symbols name ks =
    option_and_then (λ c. option_and_then (λ r. option_and_then (λ maker. option_and_then (λ f. option_map (λ xs. record {
      name = name;
      foundation = c;
      recognizer = r;
      creator = maker;
      corr = f;
      exports = xs;
    }) (exports_if_given symbols (key_value (codes "EXPORTS") ks)))
    (symbol_if_given (key_value (codes "CORR-FN") ks)))
    (function_if_given symbols (key_value (codes "CREATOR") ks)))
    (function_if_given symbols (key_value (codes "RECOGNIZER") ks)))
    (foundation_given ks)

abbrev pub written_in : List QualifiedName → List (Object ℕ) → Option WrittenAbstract
written_in symbols [] = None
written_in symbols (name ∷ os) = option_and_then (written_with symbols name) (keys_in symbols abstract_keys os)

-- what stands behind the head
unfoldable pub written_abstract : List QualifiedName → Object ℕ → Option WrittenAbstract
written_abstract symbols d = option_and_then (written_in symbols) (elements d)

-- ---- names

abbrev pub listed : Option (Object ℕ) → List (Object ℕ)
listed None = []
listed (Some o) = o ∷ []

-- the symbol that a name made beside another would be, where it is known; one that is not known is of that other's own package
abbrev pub known_beside : List Package → List QualifiedName → Making → Option (Object ℕ)
known_beside packages symbols m = option_map (λ n. Symbol n) (number_of symbols (symbol_beside packages [] symbols m))

abbrev pub name_or_made : List Package → List QualifiedName → WrittenFunction → Making → List (Object ℕ)
name_or_made packages symbols f m = listed (option_or f.name (known_beside packages symbols m))

-- the names of the stobj, the recognizer, the creator and the exports, written or made
abbrev pub names_tested : List Package → List QualifiedName → WrittenAbstract → List (Object ℕ)
names_tested packages symbols a =
    let st = symbol_or_nil a.name in
    let text = symbol_name symbols st in
    a.name
    ∷ (name_or_made packages symbols a.recognizer (st, text ++ codes "P")
    ++ (name_or_made packages symbols a.creator (st, codes "CREATE-" ++ text)
    ++ flat_map (λ (f : WrittenFunction). listed f.name) a.exports))

abbrev pub name_number : WrittenFunction → ℕ
name_number f = option_map_or symbol_or_nil f.name nil

-- a name that is written out, or else one that is made
abbrev pub Slot : Type 0
Slot = Option ℕ × Making

abbrev pub export_slots : List QualifiedName → WrittenFunction → List Slot
export_slots symbols f =
    let x = name_number f in (f.logic, (x, symbol_name symbols x ++ codes "$A")) ∷ (f.exec, (x, symbol_name symbols x ++ codes "$C")) ∷ []

-- the foundation, the recognizer and its logic function, the creator and its logic function, the corr-fn, and those of exports
abbrev pub slots : List QualifiedName → WrittenAbstract → List Slot
slots symbols a =
    let st = symbol_or_nil a.name in
    let text = symbol_name symbols st in
    (a.foundation, (st, text ++ codes "$C"))
    ∷ (option_map symbol_or_nil a.recognizer.name, (st, text ++ codes "P"))
    ∷ (a.recognizer.logic, (st, text ++ codes "$AP"))
    ∷ (option_map symbol_or_nil a.creator.name, (st, codes "CREATE-" ++ text))
    ∷ (a.creator.logic, (st, codes "CREATE-" ++ (text ++ codes "$A")))
    ∷ (a.corr, (st, text ++ codes "$CORR"))
    ∷ flat_map (export_slots symbols) a.exports

abbrev pub makings : List Slot → List Making
makings [] = []
makings ((Some n, m) ∷ ss) = makings ss
makings ((None, m) ∷ ss) = m ∷ makings ss

abbrev pub filled : List Slot → List ℕ → List ℕ
filled [] ns = []
filled ((Some n, m) ∷ ss) ns = n ∷ filled ss ns
filled ((None, m) ∷ ss) [] = nil ∷ filled ss []
filled ((None, m) ∷ ss) (n ∷ ns) = n ∷ filled ss ns

-- ---- the descriptor

abbrev pub foundations_recognizer : World → ℕ → ℕ
foundations_recognizer w c = option_map_or (λ (d : Descriptor). d.recognizer) (descriptor_of w c) nil

abbrev pub foundations_creator : World → ℕ → ℕ
foundations_creator w c = option_map_or (λ (d : Descriptor). d.creator) (descriptor_of w c) nil

-- the exports, whose logic and exec functions have the numbers from k on
abbrev pub exports_with : List WrittenFunction → List ℕ → ℕ → List AbstractFunction
exports_with [] numbers i = []
exports_with (f ∷ fs) numbers i =
    record { name = name_number f; logic = number_at numbers i; exec = number_at numbers (i + 1) } ∷ exports_with fs numbers (i + 2)

abbrev pub descriptor_with : World → WrittenAbstract → List ℕ → AbstractDescriptor
descriptor_with w a numbers =
    let c = number_at numbers 0 in
    record {
      name = symbol_or_nil a.name;
      foundation = c;
      corr = number_at numbers 5;
      recognizer = record { name = number_at numbers 1; logic = number_at numbers 2; exec = unwrap_or a.recognizer.exec (foundations_recognizer w c) };
      creator = record { name = number_at numbers 3; logic = number_at numbers 4; exec = unwrap_or a.creator.exec (foundations_creator w c) };
      exports = exports_with a.exports numbers 6;
    }

abbrev pub export_names : AbstractDescriptor → List ℕ
export_names d = map (λ (f : AbstractFunction). f.name) d.exports

abbrev pub new_names : AbstractDescriptor → List ℕ
new_names d = d.name ∷ d.recognizer.name ∷ d.creator.name ∷ export_names d

-- ---- functions

-- the functions that are to be there, in order
abbrev pub wanted_functions : AbstractDescriptor → List ℕ
wanted_functions d =
    d.recognizer.logic ∷ d.recognizer.exec ∷ d.creator.logic ∷ d.creator.exec ∷ d.corr
    ∷ flat_map (λ (f : AbstractFunction). f.logic ∷ f.exec ∷ []) d.exports

module _ (w : World) where
  abbrev pub foundation_missing : AbstractDescriptor → Option Refusal
  foundation_missing d = if is_some (descriptor_of w d.foundation) then None else Some (FoundationNotConcrete d.foundation)

  abbrev pub missing_function : ℕ → Option Refusal
  missing_function f = if is_some (signature_of w [] f) then None else Some (MissingFunction f)

  abbrev pub no_signature : Signature
  no_signature = record { ins = []; outs = [] }

  abbrev pub signature : ℕ → Signature
  signature f = unwrap_or (signature_of w [] f) no_signature

  abbrev pub ordinaries : ℕ → List Out
  ordinaries n = replicate n Ordinary

  abbrev pub has_signature : ℕ → ℕ → ℕ → Bool
  has_signature f ins outs = same_kinds (signature f).ins (ordinaries ins) && same_kinds (signature f).outs (ordinaries outs)

  abbrev pub mismatch_unless : ℕ → Bool → Option Refusal
  mismatch_unless name b = if b then None else Some (SignatureMismatch name)

  abbrev pub recognizer_matches : AbstractDescriptor → Bool
  recognizer_matches d = nat_eq d.recognizer.exec (foundations_recognizer w d.foundation) && has_signature d.recognizer.logic 1 1

  abbrev pub creator_matches : AbstractDescriptor → Bool
  creator_matches d = nat_eq d.creator.exec (foundations_creator w d.foundation) && has_signature d.creator.logic 0 1

  abbrev pub corr_matches : AbstractDescriptor → Bool
  corr_matches d = nat_eq (length (signature d.corr).ins) 2 && nat_eq (length (signature d.corr).outs) 1

  -- ---- exports

  -- it runs, and is no function of a child or creator
  abbrev pub may_be_exec_of : Option Definition → Bool
  may_be_exec_of None = false
  may_be_exec_of (Some d) = is_executable d && not (is_internal w d)

  -- the formals of a function; those of a stobj's functions have no names that matter
  abbrev pub formals_in : Option Definition → List ℕ
  formals_in None = []
  formals_in (Some (Primitive name row)) = replicate row.arity nil
  formals_in (Some (Defined f)) = f.formals
  formals_in (Some (Macro name formals body)) = []
  formals_in (Some (Constant name value)) = []
  formals_in (Some (Concrete d class)) = []
  formals_in (Some (Generated g)) = replicate (length g.signature.ins) nil
  formals_in (Some (Abstract d)) = []
  formals_in (Some (OfAbstract f)) = f.formals
  formals_in (Some (Named name formals)) = formals
  formals_in (Some (Signed name formals signature executable)) = formals

  abbrev pub formals : ℕ → List ℕ
  formals f = formals_in (definition w f)

  abbrev pub is_primitive : Option Definition → Bool
  is_primitive (Some (Primitive name row)) = true
  is_primitive d = false

  -- a function that does not run
  abbrev pub is_logical : Option Definition → Bool
  is_logical None = false
  is_logical (Some d) = not (is_executable d)

  -- one stobj, which is this one
  abbrev pub is_only : ℕ → List ℕ → Bool
  is_only c [] = false
  is_only c (x ∷ []) = nat_eq x c
  is_only c (x ∷ (y ∷ ys)) = false

  abbrev pub is_only_or_none : ℕ → List ℕ → Bool
  is_only_or_none c [] = true
  is_only_or_none c (x ∷ xs) = is_only c (x ∷ xs)

  abbrev pub exec_matches : ℕ → AbstractFunction → Bool
  exec_matches c f =
      may_be_exec_of (definition w f.exec) && (is_only c (stobjs (signature f.exec).ins) && is_only_or_none c (stobjs (signature f.exec).outs))

  -- as many outputs; where there are several, one of a function that does not run stands for their list
  abbrev pub outputs_match : AbstractFunction → Bool
  outputs_match f =
      let n = length (signature f.exec).outs in
      same_kinds (signature f.logic).outs (ordinaries n) || (nat_lt 1 n && (is_logical (definition w f.logic) && nat_eq (length (signature f.logic).outs) 1))

  abbrev pub logic_matches : AbstractFunction → Bool
  logic_matches f =
      not (is_primitive (definition w f.logic)) && (same_kinds (signature f.logic).ins (ordinaries (length (signature f.exec).ins)) && outputs_match f)

  abbrev pub exec_guard_binds : Option Definition → ℕ → Bool
  exec_guard_binds (Some (Defined f)) x = binds f.guard x
  exec_guard_binds d x = false

  -- a formal of the logic that is not the abstract one
  abbrev pub is_good_formal : AbstractDescriptor → Option Definition → ℕ → ℕ → Bool
  is_good_formal d exec x e = not (nat_eq x d.name) && (not (nat_eq x d.foundation) && (nat_eq x e || not (exec_guard_binds exec x)))

  -- the kinds of the exec function's inputs, its formals, and those of the logic function
  abbrev pub are_good_formals : AbstractDescriptor → Option Definition → List Out → List ℕ → List ℕ → Bool
  are_good_formals d exec [] es xs = true
  are_good_formals d exec (k ∷ ks) [] xs = true
  are_good_formals d exec (k ∷ ks) (e ∷ es) [] = true
  are_good_formals d exec (k ∷ ks) (e ∷ es) (x ∷ xs) = (is_stobj k || is_good_formal d exec x e) && are_good_formals d exec ks es xs

  abbrev pub export_matches : AbstractDescriptor → AbstractFunction → Bool
  export_matches d f =
      exec_matches d.foundation f
      && (logic_matches f && are_good_formals d (definition w f.exec) (signature f.exec).ins (formals f.exec) (formals f.logic))

  abbrev pub signature_mismatch : AbstractDescriptor → Option Refusal
  signature_mismatch d =
      option_or (mismatch_unless d.recognizer.name (recognizer_matches d))
      (option_or (mismatch_unless d.creator.name (creator_matches d))
      (option_or (mismatch_unless d.corr (corr_matches d)) (first_given (λ (f : AbstractFunction). mismatch_unless f.name (export_matches d f)) d.exports)))

  -- ---- what it brings

  -- the formals with another name where the stobj stands
  abbrev pub with_stobj_named : ℕ → List Out → List ℕ → List ℕ
  with_stobj_named st [] xs = []
  with_stobj_named st (k ∷ ks) [] = []
  with_stobj_named st (k ∷ ks) (x ∷ xs) = (if is_stobj k then st else x) ∷ with_stobj_named st ks xs

  -- the foundation's kind becomes the stobj's
  abbrev pub abstracted : ℕ → Out → Out
  abstracted st Ordinary = Ordinary
  abstracted st (Stobj c) = Stobj st

  abbrev pub abstracted_signature : ℕ → Signature → Signature
  abstracted_signature st s = record { ins = map (abstracted st) s.ins; outs = map (abstracted st) s.outs }

  -- the formals of an export: those of the logic, the stobj under its own name
  abbrev pub export_formals : AbstractDescriptor → AbstractFunction → List ℕ
  export_formals d f = with_stobj_named d.name (signature f.exec).ins (formals f.logic)

  abbrev pub guard_in : Option Definition → Core
  guard_in (Some (Defined f)) = f.guard
  guard_in d = true_core

  -- the guard of the logic function, the stobj under its own name
  abbrev pub logic_guard : AbstractDescriptor → AbstractFunction → Core
  logic_guard d f = renamed_core (guard_in (definition w f.logic)) (zip (formals f.logic) (export_formals d f))

  abbrev pub event_functions : AbstractDescriptor → List AbstractFunction
  event_functions d = d.recognizer ∷ d.creator ∷ d.exports

  -- each logic function with the one that stands for it
  abbrev pub to_exports : AbstractDescriptor → Renaming
  to_exports d = map (λ (f : AbstractFunction). (f.logic, f.name)) (event_functions d)

  abbrev pub export_guard : AbstractDescriptor → AbstractFunction → Core
  export_guard d f = with_functions (logic_guard d f) (to_exports d)

  abbrev pub function_of : AbstractDescriptor → AbstractFunction → AbstractRole → List ℕ → Signature → Core → Definition
  function_of d f what formals signature guard = OfAbstract (record {
    name = f.name;
    stobj = d.name;
    role = what;
    formals = formals;
    signature = signature;
    guard = guard;
    logic = f.logic;
    exec = f.exec;
  })

  abbrev pub export_entry : AbstractDescriptor → AbstractFunction → Definition
  export_entry d f = function_of d f abstract_role.Export (export_formals d f) (abstracted_signature d.name (signature f.exec)) (export_guard d f)

  -- the definitions that an abstract stobj brings
  abbrev pub abstract_entries : AbstractDescriptor → World
  abstract_entries d =
      Abstract d
      ∷ function_of d d.recognizer abstract_role.Recognizer (d.name ∷ []) (record { ins = Stobj d.name ∷ []; outs = Ordinary ∷ [] }) true_core
      ∷ function_of d d.creator abstract_role.Creator [] (record { ins = []; outs = Stobj d.name ∷ [] }) true_core
      ∷ map (export_entry d) d.exports

  -- ---- guards

  abbrev pub entry_of : ℕ → Out → Entry
  entry_of x k = record { name = x; kind = k }

  abbrev pub guard_scope : ℕ → List Out → List ℕ → Scope
  guard_scope st [] xs = []
  guard_scope st (k ∷ ks) [] = []
  guard_scope st (k ∷ ks) (x ∷ xs) = entry_of x (abstracted st k) ∷ guard_scope st ks xs

  -- the first fault of an export's guard, which gives one ordinary value
  abbrev pub guard_fault : AbstractDescriptor → AbstractFunction → Option Refusal
  guard_fault d f =
      option_map (GuardNotExecutable f.name)
      (first_fault (w ++ abstract_entries d) Executable (guard_scope d.name (signature f.exec).ins (export_formals d f)) (export_guard d f) one_ordinary)

  -- ---- all in order

  abbrev pub function_refusal : AbstractDescriptor → Option Refusal
  function_refusal d =
      option_or (name_in_use w (new_names d))
      (option_or (foundation_missing d)
      (option_or (first_given missing_function (wanted_functions d)) (option_or (signature_mismatch d) (first_given (guard_fault d) d.exports))))

  abbrev pub made_then : WrittenAbstract → MadeNames → Progress → EventResult AbstractDescriptor
  made_then a m p =
      unless (room_for m) (λ after.
      let d = descriptor_with w a (filled (slots p.symbols a) m.numbers) in
      unless (function_refusal d) (Grants d) after) (record p { symbols = m.symbols })

  abbrev pub abstract_then : List Package → WrittenAbstract → Progress → EventResult AbstractDescriptor
  abstract_then packages a p =
      unless (bad_name p.symbols (names_tested packages p.symbols a)) (λ after. made_then a (names_made packages [] (makings (slots after.symbols a)) after.symbols) after) p

  -- the descriptor of what stands behind the head `DEFABSSTOBJ`
  unfoldable pub abstract_read : List Package → Object ℕ → Progress → EventResult AbstractDescriptor
  abstract_read packages d p = needing (written_abstract p.symbols d) (Expand (BadShape defabsstobj_word)) (abstract_then packages) p
