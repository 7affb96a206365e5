-- An expansion keeps a table of symbols, and what stands in its form has known symbols.
use Rattle.std.proofs.Common.{◌≡◌, ℕ, zero, suc, ◌+◌, ◌-◌, ◌≤◌, List, [], ◌∷◌, ◌++◌, length, map, Bool, true, false, Option, Some, None, refl, arith}
use Rattle.std.specs.Prelude.{nat_lt, nat_eq, unwrap_or, option_and_then, if◌then◌else◌}
use Rattle.model_objects.specs.Object.{Object, Integer, Symbol, Text, Pair}
use Rattle.model_objects.specs.Named.{Knows}
use Rattle.model_symbols.specs.Symbols.{QualifiedName, Package}
use Rattle.model_symbols.specs.Opening.{nil}
use Rattle.model_prims.specs.Kinds.{by_number}
use Rattle.model_terms.specs.Cores.{Core}
use Rattle.model_terms.specs.Faults.{formal_names}
use Rattle.model_terms.specs.Worlds.{OptionalFormal, MacroFormals, Definition, Primitive, Defined, Macro, Constant, Concrete, Generated, Abstract, OfAbstract, Named, Signed, definition}
use Rattle.model_eval.specs.Outcomes.{Steps, Outcome, Gives, Stops, Unknown}
use Rattle.model_eval.specs.Variables.{bound, plain, single}
use Rattle.model_eval.specs.Checked.{begun}
use Rattle.model_expansion.specs.Forms.{elements}
use Rattle.model_expansion.specs.Faults.{ExpandFault, Arity, MacroStopped}
use Rattle.model_expansion.specs.Layers.{MacroRow, core_row, macro_row, GuardItem, FormHolds, Meets, Part, Form, Ready, Rest, Guard, Found, Leaf, Node, CallNode, Made, Again, Stays, made_of}
use Rattle.model_expansion.specs.Expansion.{Setting, Progress, Expanded, Makes, Fails, then_make, counting_expansion, macro_values, Look, Stands, Bad, Use, UserUse, Settle, settles, out_of_steps, again, core_look, call_look, arity_of, function_look, defined_look, macro_look, headed_look, list_look, look_at, built, body_value, used, looked, settled, settle, row_found, core_of_node, ready_fault, ready_found, item_part, guard_found, part_found, Grow, grown_all, grown_found, grown, deepest_core, expanded, expanded_guard}
use Rattle.model_expansion_laws.proofs.CountLemmas.{shaped, with_values}
use Rattle.model_expansion_forms.specs.Nodes.{EachNode, HasForms, HasSeveral, HasConstant, IsBelow}
use Rattle.model_expansion_forms.specs.Rows.{HasRowFunctions, AreShapedItems, AreKnownItems, AllKnown, AreKnownDefaults, IsKnownValue, Supplies}
use Rattle.model_expansion_forms.proofs.NodeLemmas.{each_both, IsShapedNode, IsShaped}
use Rattle.model_expansion_forms.proofs.PartLemmas.{AllHave, AllHaveIfAny, elements_have}
use Rattle.model_expansion_forms.proofs.TypeLemmas.{shaped_const}
use Rattle.model_expansion_forms.proofs.RowLemmas.{IsGoodRow, IsGoodItem, AreGoodItems, IsGoodPart, AreGoodParts, IsGoodMade, IsGoodIfAny, mapped_good, good_made}
use Rattle.model_expansion_forms.proofs.TableLemmas.{IsGoodRowIfAny, symbols_wider, parts_wider, core_good, macro_good}
use Rattle.model_expansion_forms.proofs.ValueLemmas.{DefaultsHave, values_have}
use Rattle.model_expansion_forms.proofs.LawLemmas.{forms_are_known}
use Rattle.model_made_logic.specs.Known.{KnowsForm, KnowsDefinitions, Grows, EndsKnown}
use Rattle.model_made_logic.proofs.KnownLemmas.{grows_same, grows_then, single_known, object_known, bound_known}
use Rattle.model_made_logic.proofs.EvaluationLemmas.{ends_evaluated}
use Rattle.model_made_logic.proofs.WorldLemmas.{definitions_world, form_more}
use Rattle.model_follows.specs.Follows.{KnowsAll}
use Rattle.model_follows.proofs.ThingLemmas.{knows_more}

abbrev pub size : Progress → ℕ
size p = length p.symbols

-- ---- progress

module _ (packages : List Package) where
  -- an expansion goes on from these symbols, and what it makes has the property, given how many are known then
  abbrev pub Expands : {A : Type 0} → (ℕ → A → Type 0) → List QualifiedName → Expanded A → Type 0
  Expands Q old (Makes a p) = Grows packages old p.symbols × Q (size p) a
  Expands Q old (Fails fault p) = Grows packages old p.symbols

  pub expands_later : {A : Type 0} (Q : ℕ → A → Type 0) (a b : List QualifiedName) (e : Expanded A) → Grows packages a b → Expands Q b e → Expands Q a e
  expands_later Q a b (Makes v p) g h = (grows_then packages a b p.symbols g h.0, h.1)
  expands_later Q a b (Fails fault p) g h = grows_then packages a b p.symbols g h

  pub expands_then : {A B : Type 0} (Q : ℕ → A → Type 0) (R : ℕ → B → Type 0) (a : List QualifiedName) (e : Expanded A) (go : A → Progress → Expanded B) → Expands Q a e
      → ((v : A) (p : Progress) → length a ≤ size p → Q (size p) v → Expands R p.symbols (go v p)) → Expands R a (then_make e go)
  expands_then Q R a (Makes v p) go h k = expands_later R a p.symbols (go v p) h.0 (k v p h.0.longer h.1)
  expands_then Q R a (Fails fault p) go h k = h

-- a form that binds as many forms as names, has several where it has any, and has known constants
shaped_with : (m : ℕ) (f : Core) → EachNode HasForms f → EachNode HasSeveral f → KnowsForm m f → IsShaped (IsBelow m) f
shaped_with m f h k c =
    each_both (λ (g : Core). HasForms g × HasSeveral g) (HasConstant (IsBelow m)) (IsShapedNode (IsBelow m)) (λ g a b. record { forms = a.0; several = a.1; constant = b }) f (each_both HasForms HasSeveral (λ (g : Core). HasForms g × HasSeveral g) (λ g a b. (a, b)) f h k) c

-- ---- from a world whose definitions are known

module _ (x : Setting) (n : ℕ) (two : 2 ≤ n) (known : KnowsDefinitions x.world n) where
  plain_known : (m : ℕ) (os : List (Object ℕ)) → AllKnown m os → KnowsAll m (plain os)
  plain_known m [] h = tt
  plain_known m (o ∷ os) h = (h.0, plain_known m os h.1)

  -- the body of a macro, on known values
  body_ends : (formals : MacroFormals) (body : Core) (values : List (Object ℕ)) (p : Progress) → KnowsForm n body → n ≤ size p → AllKnown (size p) values → EndsKnown x.packages p.symbols (body_value x formals body values p)
  body_ends formals body values p f l h =
      ends_evaluated x.world n two (definitions_world x.world n known) x.packages x.steps x.depth body (bound (formal_names formals) (plain values) []) (begun p.symbols [] p.calls) f l
      (bound_known (size p) (formal_names formals) (plain values) [] (plain_known (size p) values h) tt) tt

  value_of : (m : ℕ) → 2 ≤ m → (e : Outcome ℕ) (old : List QualifiedName) → m ≤ length old → EndsKnown x.packages old e → IsKnownValue e
  value_of m q (Gives values s) old l h =
      let longer : length old ≤ length s.symbols = h.0.longer in
      object_known (length s.symbols) (omega (arith, q, l, longer)) (single by_number values) (single_known (length s.symbols) (omega (arith, q, l, longer)) values h.1)
  value_of m q (Stops stop origin s) old l h = tt
  value_of m q Unknown old l h = tt

  pub world_supplies : Supplies x n
  world_supplies = record {
    enough = two;
    constants = λ s name value e. known.each s (Constant name value) e;
    optional = λ s name formals body e. (known.each s (Macro name formals body) e).0;
    keys = λ s name formals body e. (known.each s (Macro name formals body) e).1;
    values = λ s name formals body e values p enough h.
        value_of n two (body_value x formals body values p) p.symbols enough (body_ends formals body values p (known.each s (Macro name formals body) e).2 enough h);
  }

module _ (x : Setting) (n : ℕ) (two : 2 ≤ n) (known : KnowsDefinitions x.world n) (rows : HasRowFunctions x.world) where
  -- ---- what stands at a place

  abbrev PartsKnown : ℕ → Found → Type 0
  PartsKnown m (Leaf f) = Unit {0}
  PartsKnown m (Node k qs) = AreGoodParts x.world (IsBelow m) qs

  abbrev MadeKnown : ℕ → Made → Type 0
  MadeKnown m (Again o) = Knows m o
  MadeKnown m (Stays f) = PartsKnown m f

  made_known : (m : ℕ) (made : Made) → IsGoodMade x.world (IsBelow m) made → MadeKnown m made
  made_known m (Again o) h = h
  made_known m (Stays (Leaf f)) h = tt
  made_known m (Stays (Node k qs)) h = h.1

  abbrev MadeIfAny : ℕ → Option Made → Type 0
  MadeIfAny m None = Unit {0}
  MadeIfAny m (Some made) = MadeKnown m made

  any_known : (m : ℕ) (made : Option Made) → IsGoodIfAny x.world (IsBelow m) made → MadeIfAny m made
  any_known m None h = tt
  any_known m (Some made) h = made_known m made h

  abbrev LookKnown : ℕ → Look → Type 0
  LookKnown m (Stands f) = PartsKnown m f
  LookKnown m (Bad fault) = Unit {0}
  LookKnown m (Use s row d) = IsGoodRow x.world (IsBelow m) row × Knows m d
  LookKnown m (UserUse s formals body d) = ((name : ℕ) × (definition x.world s ≡ Some (Macro name formals body))) × Knows m d

  row_makes : (m : ℕ) → n ≤ m → (symbols : List QualifiedName) (row : MacroRow) (os : Option (List (Object ℕ))) → IsGoodRow x.world (IsBelow m) row → AllHaveIfAny (IsBelow m) os → MadeIfAny m (option_and_then (made_of symbols row) os)
  row_makes m l symbols row None g h = tt
  row_makes m l symbols row (Some os) g h =
      any_known m (made_of symbols row os) (good_made x.world (IsBelow m) symbols (omega (arith, two, l)) (omega (arith, two, l)) rows row os g h)

  look_core : (m s : ℕ) (made : Option Made) → MadeIfAny m made → LookKnown m (core_look s made)
  look_core m s None h = tt
  look_core m s (Some (Stays f)) h = h
  look_core m s (Some (Again o)) h = tt

  look_call : (m s arity : ℕ) (os : Option (List (Object ℕ))) → AllHaveIfAny (IsBelow m) os → LookKnown m (call_look s arity os)
  look_call m s arity None h = tt
  look_call m s arity (Some os) h = go (nat_eq (length os) arity)
    where
      go : (b : Bool) → LookKnown m (if b then Stands (Node (CallNode s) (map Form os)) else Bad (Arity s))
      go true = mapped_good x.world (IsBelow m) os h
      go false = tt

  look_function : (m s : ℕ) (d : Object ℕ) (arity : Option ℕ) → Knows m d → LookKnown m (function_look s d arity)
  look_function m s d None h = tt
  look_function m s d (Some arity) h = look_call m s arity (elements d) (elements_have (IsBelow m) d h)

  look_defined : (m s : ℕ) (d : Object ℕ) (found : Option Definition) → definition x.world s ≡ found → Knows m d → LookKnown m (defined_look s d found)
  look_defined m s d None e h = tt
  look_defined m s d (Some (Macro name formals body)) e h = ((name, e), h)
  look_defined m s d (Some (Primitive name row)) e h = look_function m s d (arity_of (Some (Primitive name row))) h
  look_defined m s d (Some (Defined f)) e h = look_function m s d (arity_of (Some (Defined f))) h
  look_defined m s d (Some (Constant name value)) e h = tt
  look_defined m s d (Some (Concrete c class)) e h = tt
  look_defined m s d (Some (Generated f)) e h = look_function m s d (arity_of (Some (Generated f))) h
  look_defined m s d (Some (Abstract c)) e h = tt
  look_defined m s d (Some (OfAbstract f)) e h = look_function m s d (arity_of (Some (OfAbstract f))) h
  look_defined m s d (Some (Named name formals)) e h = look_function m s d (arity_of (Some (Named name formals))) h
  look_defined m s d (Some (Signed name formals signature executable)) e h = look_function m s d (arity_of (Some (Signed name formals signature executable))) h

  look_macro : (m : ℕ) (symbols : List QualifiedName) (s : ℕ) (d : Object ℕ) (row : Option MacroRow) → IsGoodRowIfAny x.world (IsBelow m) row → Knows m d → LookKnown m (macro_look x symbols s d row)
  look_macro m symbols s d None g h = look_defined m s d (definition x.world s) refl h
  look_macro m symbols s d (Some row) g h = (g, h)

  look_headed : (m : ℕ) → n ≤ m → (symbols : List QualifiedName) (s : ℕ) (d : Object ℕ) (row : Option MacroRow) → IsGoodRowIfAny x.world (IsBelow m) row → Knows m d → LookKnown m (headed_look x symbols s d row)
  look_headed m l symbols s d None g h = look_macro m symbols s d (macro_row s) (macro_good x.world (IsBelow m) rows (omega (arith, two, l)) s) h
  look_headed m l symbols s d (Some row) g h =
      look_core m s (option_and_then (made_of symbols row) (elements d)) (row_makes m l symbols row (elements d) g (elements_have (IsBelow m) d h))

  look_list : (m : ℕ) → n ≤ m → (symbols : List QualifiedName) (a d : Object ℕ) → Knows m d → LookKnown m (list_look x symbols a d)
  look_list m l symbols (Integer i) d h = tt
  look_list m l symbols (Symbol s) d h = look_headed m l symbols s d (core_row s) (core_good x.world (IsBelow m) rows (omega (arith, two, l)) s) h
  look_list m l symbols (Text bytes) d h = tt
  look_list m l symbols (Pair a b) d h = tt

  look_known : (m : ℕ) → n ≤ m → (symbols : List QualifiedName) (o : Object ℕ) → Knows m o → LookKnown m (look_at x symbols o)
  unfolding look_at
  look_known m l symbols (Integer i) h = tt
  look_known m l symbols (Symbol s) h = tt
  look_known m l symbols (Text bytes) h = tt
  look_known m l symbols (Pair a d) h = look_list m l symbols a d h.1

  -- ---- one use

  abbrev MadeGrows : List QualifiedName → Expanded Made → Type 0
  MadeGrows old e = Expands x.packages MadeKnown old e

  again_grows : (p : Progress) (e : Outcome ℕ) → n ≤ size p → EndsKnown x.packages p.symbols e → MadeGrows p.symbols (again p e)
  again_grows p (Gives values s) l h = (h.0, value_of x n two known n two (Gives values s) p.symbols l h)
  again_grows p (Stops stop origin s) l h = h.0
  again_grows p Unknown l h = grows_same x.packages p.symbols

  shaped_grows : (s : ℕ) (p : Progress) (made : Option Made) → MadeIfAny (size p) made → MadeGrows p.symbols (shaped x s p made)
  shaped_grows s p None h = grows_same x.packages p.symbols
  shaped_grows s p (Some made) h = (grows_same x.packages p.symbols, h)

  all_have : (m : ℕ) (os : List (Object ℕ)) → AllHave (IsBelow m) os → AllKnown m os
  all_have m [] h = tt
  all_have m (o ∷ os) h = (h.0, all_have m os h.1)

  defaults_have : (m : ℕ) → n ≤ m → (fs : List OptionalFormal) → AreKnownDefaults n fs → DefaultsHave (IsBelow m) fs
  defaults_have m l [] h = tt
  defaults_have m l (f ∷ fs) h = (symbols_wider (IsBelow n) (IsBelow m) (λ s k. omega (arith, l, k)) f.default h.0, defaults_have m l fs h.1)

  values_grow : (p : Progress) → n ≤ size p → (s name : ℕ) (formals : MacroFormals) (body : Core) → definition x.world s ≡ Some (Macro name formals body) → (values : Option (List (Object ℕ))) → AllHaveIfAny (IsBelow (size p)) values
      → MadeGrows p.symbols (with_values x s formals body p values)
  values_grow p l s name formals body e None h = grows_same x.packages p.symbols
  values_grow p l s name formals body e (Some values) h =
      again_grows p (body_value x formals body values p) l (body_ends x n two known formals body values p (known.each s (Macro name formals body) e).2 l (all_have (size p) values h))

  used_grows : (p : Progress) → n ≤ size p → (s name : ℕ) (formals : MacroFormals) (body : Core) → definition x.world s ≡ Some (Macro name formals body) → (os : Option (List (Object ℕ))) → AllHaveIfAny (IsBelow (size p)) os
      → MadeGrows p.symbols (used x s formals body os p)
  used_grows p l s name formals body e None h = grows_same x.packages p.symbols
  used_grows p l s name formals body e (Some os) h =
      let definition_known = known.each s (Macro name formals body) e in
      values_grow p l s name formals body e (macro_values p.symbols formals os)
      (values_have (IsBelow (size p)) (omega (arith, two, l)) (omega (arith, two, l)) p.symbols formals (defaults_have (size p) l formals.optional definition_known.0) (defaults_have (size p) l (unwrap_or formals.keys []) definition_known.1) os h)

  counting_grows : (p : Progress) (go : Progress → Expanded Made) → MadeGrows p.symbols (go (record p { calls = p.calls + 1; outer = p.outer + 1 })) → MadeGrows p.symbols (counting_expansion x.steps go p)
  counting_grows p go h = by_test (nat_lt p.calls x.steps)
    where
      by_test : (b : Bool) → MadeGrows p.symbols (if b then go (record p { calls = p.calls + 1; outer = p.outer + 1 }) else Fails (MacroStopped Steps None) p)
      by_test true = h
      by_test false = grows_same x.packages p.symbols

  looked_grows : (p : Progress) → n ≤ size p → (look : Look) → LookKnown (size p) look → MadeGrows p.symbols (looked x look p)
  looked_grows p l (Stands f) h = (grows_same x.packages p.symbols, h)
  looked_grows p l (Bad fault) h = grows_same x.packages p.symbols
  looked_grows p l (Use s row d) h =
      counting_grows p (built x s row d)
      (shaped_grows s (record p { calls = p.calls + 1; outer = p.outer + 1 }) (option_and_then (made_of p.symbols row) (elements d)) (row_makes (size p) l p.symbols row (elements d) h.0 (elements_have (IsBelow (size p)) d h.1)))
  looked_grows p l (UserUse s formals body d) h =
      counting_grows p (used x s formals body (elements d))
      (used_grows (record p { calls = p.calls + 1; outer = p.outer + 1 }) l s h.0.0 formals body h.0.1 (elements d) (elements_have (IsBelow (size p)) d h.1))

  -- ---- settling

  abbrev FoundGrows : List QualifiedName → Expanded Found → Type 0
  FoundGrows old e = Expands x.packages PartsKnown old e

  settles_grows : (p : Progress) → n ≤ size p → (e : Expanded Made) (go : Settle) → MadeGrows p.symbols e → ((o : Object ℕ) (q : Progress) → n ≤ size q → Knows (size q) o → FoundGrows q.symbols (go o q)) → FoundGrows p.symbols (then_make e (settles go))
  settles_grows p l (Makes (Again o) q) go h k =
      let longer : size p ≤ size q = h.0.longer in
      expands_later x.packages PartsKnown p.symbols q.symbols (go o q) h.0 (k o q (omega (arith, l, longer)) h.1)
  settles_grows p l (Makes (Stays f) q) go h k = h
  settles_grows p l (Fails fault q) go h k = h

  settled_grows : (left : ℕ) (o : Object ℕ) (p : Progress) → n ≤ size p → Knows (size p) o → FoundGrows p.symbols (settled x left o p)
  unfolding settled
  settled_grows zero o p l h =
      settles_grows p l (looked x (look_at x p.symbols o) p) out_of_steps (looked_grows p l (look_at x p.symbols o) (look_known (size p) l p.symbols o h)) (λ a q m k. grows_same x.packages q.symbols)
  settled_grows (suc left) o p l h =
      settles_grows p l (looked x (look_at x p.symbols o) p) (settled x left) (looked_grows p l (look_at x p.symbols o) (look_known (size p) l p.symbols o h)) (settled_grows left)

  settle_grows : (o : Object ℕ) (p : Progress) → n ≤ size p → Knows (size p) o → FoundGrows p.symbols (settle x o p)
  settle_grows o p l h = settled_grows (x.steps - p.calls) o p l h

  -- ---- parts

  row_grows : (made : Option Made) (p : Progress) → n ≤ size p → MadeIfAny (size p) made → FoundGrows p.symbols (row_found x made p)
  row_grows None p l h = grows_same x.packages p.symbols
  row_grows (Some (Again o)) p l h = settle_grows o p l h
  row_grows (Some (Stays f)) p l h = (grows_same x.packages p.symbols, h)

  ready_grows : (f : Core) (fault : Option ExpandFault) (p : Progress) → FoundGrows p.symbols (ready_found x f fault p)
  ready_grows f None p = (grows_same x.packages p.symbols, tt)
  ready_grows f (Some fault) p = grows_same x.packages p.symbols

  item_good : (m : ℕ) (g : GuardItem) → IsGoodItem x.world (IsBelow m) g → IsGoodPart x.world (IsBelow m) (item_part x g)
  item_good m (FormHolds o) h = h
  item_good m (Meets f) h = h

  guard_grows : (left : ℕ) (gs : List GuardItem) (p : Progress) → n ≤ size p → AreGoodItems x.world (IsBelow (size p)) gs → FoundGrows p.symbols (guard_found x left gs p)
  guard_grows left [] p l h = (grows_same x.packages p.symbols, tt)
  guard_grows left (FormHolds o ∷ []) p l h = settle_grows o p l h.0
  guard_grows left (Meets f ∷ []) p l h = ready_grows f (ready_fault x f left) p
  guard_grows left (g ∷ (k ∷ gs)) p l h = (grows_same x.packages p.symbols, (item_good (size p) g h.0, (h.1, (shaped_const (IsBelow (size p)) (Symbol nil) (omega (arith, two, l)), tt))))

  part_grows : (left : ℕ) (q : Part) (p : Progress) → n ≤ size p → IsGoodPart x.world (IsBelow (size p)) q → FoundGrows p.symbols (part_found x left q p)
  part_grows left (Form o) p l h = settle_grows o p l h
  part_grows left (Ready f) p l h = ready_grows f (ready_fault x f left) p
  part_grows left (Rest row os) p l h = row_grows (made_of p.symbols row os) p l (row_makes (size p) l p.symbols row (Some os) h.0 h.1)
  part_grows left (Guard gs) p l h = guard_grows left gs p l h

  -- ---- all places

  abbrev AnyMade : {A : Type 0} → ℕ → A → Type 0
  AnyMade m a = Unit {0}

  abbrev GrowGrows : Grow → Type 0
  GrowGrows grow = (q : Part) (p : Progress) → n ≤ size p → IsGoodPart x.world (IsBelow (size p)) q → Expands x.packages AnyMade p.symbols (grow q p)

  module _ (grow : Grow) (g : GrowGrows grow) where
    all_grow : (qs : List Part) (done : List Core) (p : Progress) → n ≤ size p → AreGoodParts x.world (IsBelow (size p)) qs → Expands x.packages AnyMade p.symbols (grown_all grow qs done p)
    unfolding grown_all
    all_grow [] done p l h = (grows_same x.packages p.symbols, tt)
    all_grow (q ∷ qs) done p l h =
        expands_then x.packages AnyMade AnyMade p.symbols (grow q p) (λ f after. grown_all grow qs (done ++ f ∷ []) after) (g q p l h.0)
        (λ f after longer any. all_grow qs (done ++ f ∷ []) after (omega (arith, l, longer)) (parts_wider (IsBelow (size p)) (IsBelow (size after)) (λ s k. omega (arith, longer, k)) x.world qs h.1))

    found_grows : (f : Found) (p : Progress) → n ≤ size p → PartsKnown (size p) f → Expands x.packages AnyMade p.symbols (grown_found grow f p)
    found_grows (Leaf f) p l h = (grows_same x.packages p.symbols, tt)
    found_grows (Node k qs) p l h =
        expands_then x.packages AnyMade AnyMade p.symbols (grown_all grow qs [] p) (λ fs after. Makes (core_of_node k fs) after) (all_grow qs [] p l h) (λ fs after longer any. (grows_same x.packages after.symbols, tt))

  grown_grows : (left : ℕ) → GrowGrows (grown x left)
  unfolding grown
  grown_grows zero q p l h = grows_same x.packages p.symbols
  grown_grows (suc left) q p l h =
      expands_then x.packages PartsKnown AnyMade p.symbols (part_found x (suc left) q p) (grown_found (grown x left)) (part_grows (suc left) q p l h)
      (λ f after longer parts. found_grows (grown x left) (grown_grows left) f after (omega (arith, l, longer)) parts)

  -- ---- forms and guards

  abbrev pub FormGrows : List QualifiedName → Expanded Core → Type 0
  FormGrows old e = Expands x.packages KnowsForm old e

  with_known : (p : Progress) (e : Expanded Core) → Expands x.packages AnyMade p.symbols e → ((f : Core) (q : Progress) → e ≡ Makes f q → KnowsForm (size q) f) → FormGrows p.symbols e
  with_known p (Makes f q) h k = (h.0, k f q refl)
  with_known p (Fails fault q) h k = h

  pub form_expands : (o : Object ℕ) (p : Progress) → n ≤ size p → Knows (size p) o → FormGrows p.symbols (expanded x o p)
  form_expands o p l h =
      with_known p (expanded x o p) (grown_grows deepest_core (Form o) p l h) (λ f q e. forms_are_known.form x n rows (world_supplies x n two known) o p q f l h e)

  shaped_items : (m : ℕ) (gs : List GuardItem) → AreShapedItems gs → AreKnownItems m gs → AreGoodItems x.world (IsBelow m) gs
  shaped_items m [] h k = tt
  shaped_items m (FormHolds o ∷ gs) h k = (k.0, shaped_items m gs h.1 k.1)
  shaped_items m (Meets f ∷ gs) h k = (shaped_with m f h.0.0 h.0.1 k.0, shaped_items m gs h.1 k.1)

  pub guard_expands : (gs : List GuardItem) (p : Progress) → AreShapedItems gs → n ≤ size p → AreKnownItems (size p) gs → FormGrows p.symbols (expanded_guard x gs p)
  guard_expands gs p shaped l h =
      with_known p (expanded_guard x gs p) (grown_grows deepest_core (Guard gs) p l (shaped_items (size p) gs shaped h)) (λ f q e. forms_are_known.guard x n rows (world_supplies x n two known) gs shaped p q f l h e)

pub items_more : (m n : ℕ) → m ≤ n → (gs : List GuardItem) → AreKnownItems m gs → AreKnownItems n gs
items_more m n l [] h = tt
items_more m n l (FormHolds o ∷ gs) h = (knows_more m n o l h.0, items_more m n l gs h.1)
items_more m n l (Meets f ∷ gs) h = (form_more m n l f h.0, items_more m n l gs h.1)
