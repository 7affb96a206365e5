-- What stands at a place in the end has parts that fit.
use Rattle.std.proofs.Common.{◌≡◌, ℕ, zero, suc, ◌+◌, ◌-◌, ◌≤◌, List, [], ◌++◌, length, map, Bool, true, false, Option, Some, None, refl, sym, ap, ◌∙◌, subst, arith}
use Rattle.std.specs.Prelude.{nat_lt, nat_eq, if◌then◌else◌, option_and_then}
use Rattle.std.proofs.lemmas.Bool.Decides.{nat_tests}
use Rattle.std.proofs.lemmas.List.{length-map, length-append}
use Rattle.model_objects.specs.Object.{Object, Integer, Symbol, Text, Pair}
use Rattle.model_objects.specs.Named.{Symbols}
use Rattle.model_symbols.specs.Symbols.{QualifiedName}
use Rattle.model_symbols.specs.Opening.{truth, nil}
use Rattle.model_prims.specs.Kinds.{by_number}
use Rattle.model_terms.specs.Cores.{Core, Const}
use Rattle.model_terms.specs.Worlds.{MacroFormals, Definition, Primitive, Defined, Macro, Constant, Concrete, Generated, Abstract, OfAbstract, Named, Signed, definition}
use Rattle.model_eval.specs.Outcomes.{Steps, Outcome, Gives, Stops, Unknown}
use Rattle.model_eval.specs.Variables.{single, object_of}
use Rattle.model_eval.specs.Checked.{begun}
use Rattle.model_eval_laws.specs.Counting.{Counts}
use Rattle.model_eval_laws.proofs.CountLemmas.{counts_calls}
use Rattle.model_expansion.specs.Forms.{elements, is_self_evaluating}
use Rattle.model_expansion.specs.Faults.{Arity, MacroStopped}
use Rattle.model_expansion.specs.Layers.{MacroRow, core_row, macro_row, CallNode, Form, Found, Node, Made, Again, Stays, made_of}
use Rattle.model_expansion.specs.Expansion.{Setting, Progress, Expanded, Makes, Fails, then_make, counting_expansion, macro_values, Look, Stands, Bad, Use, UserUse, Settle, settles, out_of_steps, again, core_look, call_look, arity_of, function_look, defined_look, variable_or, symbol_look, macro_look, headed_look, list_look, look_at, built, body_value, used, looked, settled, settle, row_found}
use Rattle.model_expansion_laws.proofs.CountLemmas.{shaped, with_values}
use Rattle.model_expansion_forms.specs.Rows.{Takes, HasRowFunctions}
use Rattle.model_expansion_forms.proofs.NodeLemmas.{IsGood}
use Rattle.model_expansion_forms.proofs.PartLemmas.{AllHave, AllHaveIfAny, elements_have}
use Rattle.model_expansion_forms.proofs.RowLemmas.{IsGoodRow, IsGoodFound, IsGoodMade, IsGoodIfAny, good_const, good_var, mapped_good, good_made}
use Rattle.model_expansion_forms.proofs.TableLemmas.{symbols_wider, IsGoodRowIfAny, core_good, macro_good}

abbrev pub size : Progress → ℕ
size p = length p.symbols

abbrev pub IsGiven : (ℕ → ℕ → Type 0) → Outcome ℕ → Type 0
IsGiven P (Gives values state) = Symbols (P (length state.symbols)) (object_of by_number (single by_number values))
IsGiven P (Stops stop inside state) = Unit {0}
IsGiven P Unknown = Unit {0}

-- a property of symbols that stays as more are known: it holds of those in constants, and of what a macro gives where it holds of what it is given
pub record Keeps (P : ℕ → ℕ → Type 0) (x : Setting) (n : ℕ) : Type 0 where
  pub later : (a b s : ℕ) → a ≤ b → P a s → P b s
  pub true_symbol : P n truth
  pub nil_symbol : P n nil
  pub constants : (s name : ℕ) (value : Object ℕ) → definition x.world s ≡ Some (Constant name value) → Symbols (P n) value
  pub given : (s name : ℕ) (formals : MacroFormals) (body : Core) → definition x.world s ≡ Some (Macro name formals body) → (os : List (Object ℕ)) (p : Progress)
      → n ≤ length p.symbols → AllHave (P (length p.symbols)) os → (values : List (Object ℕ)) → macro_values p.symbols formals os ≡ Some values → IsGiven P (body_value x formals body values p)

module _ (x : Setting) (P : ℕ → ℕ → Type 0) (n : ℕ) (keeps : Keeps P x n) (r : HasRowFunctions x.world) where
  pub true_later : (p : Progress) → n ≤ size p → P (size p) truth
  true_later p h = keeps.later n (size p) truth h keeps.true_symbol

  pub nil_later : (p : Progress) → n ≤ size p → P (size p) nil
  nil_later p h = keeps.later n (size p) nil h keeps.nil_symbol

  abbrev pub Has : Progress → Object ℕ → Type 0
  Has p o = Symbols (P (size p)) o

  abbrev IsGoodLook : Progress → Look → Type 0
  IsGoodLook p (Stands f) = IsGoodFound x.world (P (size p)) f
  IsGoodLook p (Bad fault) = Unit {0}
  IsGoodLook p (Use s row d) = IsGoodRow x.world (P (size p)) row × Has p d
  IsGoodLook p (UserUse s formals body d) = ((name : ℕ) × (definition x.world s ≡ Some (Macro name formals body))) × Has p d

  abbrev pub IsGoodOutcome : Progress → Expanded Made → Type 0
  IsGoodOutcome p (Makes m q) = (size p ≤ size q) × IsGoodMade x.world (P (size q)) m
  IsGoodOutcome p (Fails fault q) = Unit {0}

  abbrev pub IsGoodPlace : Progress → Expanded Found → Type 0
  IsGoodPlace p (Makes f q) = (size p ≤ size q) × IsGoodFound x.world (P (size q)) f
  IsGoodPlace p (Fails fault q) = Unit {0}

  -- ---- a look

  look_core : (p : Progress) (s : ℕ) (m : Option Made) → IsGoodIfAny x.world (P (size p)) m → IsGoodLook p (core_look s m)
  look_core p s None h = tt
  look_core p s (Some (Stays f)) h = h
  look_core p s (Some (Again o)) h = tt

  look_call : (p : Progress) (s arity : ℕ) (os : Option (List (Object ℕ))) → Takes x.world s arity → AllHaveIfAny (P (size p)) os → IsGoodLook p (call_look s arity os)
  look_call p s arity None t h = tt
  look_call p s arity (Some os) t h = go (nat_eq (length os) arity) refl
    where
      go : (b : Bool) → nat_eq (length os) arity ≡ b → IsGoodLook p (if b then Stands (Node (CallNode s) (map Form os)) else Bad (Arity s))
      go true e =
          let same : arity ≡ length (map Form os) = grind (arith, nat_tests, length-map) in
          (subst (λ (k : ℕ). Takes x.world s k) same t, mapped_good x.world (P (size p)) os h)
      go false e = tt

  look_function : (p : Progress) (s : ℕ) (d : Object ℕ) (arity : Option ℕ) → arity_of (definition x.world s) ≡ arity → Has p d → IsGoodLook p (function_look s d arity)
  look_function p s d None e h = tt
  look_function p s d (Some arity) e h = look_call p s arity (elements d) e (elements_have (P (size p)) d h)

  look_defined : (p : Progress) (s : ℕ) (d : Object ℕ) (found : Option Definition) → definition x.world s ≡ found → Has p d → IsGoodLook p (defined_look s d found)
  look_defined p s d None e h = tt
  look_defined p s d (Some (Macro name formals body)) e h = ((name, e), h)
  look_defined p s d (Some (Primitive name row)) e h = look_function p s d (arity_of (Some (Primitive name row))) (ap arity_of e) h
  look_defined p s d (Some (Defined f)) e h = look_function p s d (arity_of (Some (Defined f))) (ap arity_of e) h
  look_defined p s d (Some (Constant name value)) e h = tt
  look_defined p s d (Some (Concrete e' class)) e h = tt
  look_defined p s d (Some (Generated f)) e h = look_function p s d (arity_of (Some (Generated f))) (ap arity_of e) h
  look_defined p s d (Some (Abstract e')) e h = tt
  look_defined p s d (Some (OfAbstract f)) e h = look_function p s d (arity_of (Some (OfAbstract f))) (ap arity_of e) h
  look_defined p s d (Some (Named name formals)) e h = look_function p s d (arity_of (Some (Named name formals))) (ap arity_of e) h
  look_defined p s d (Some (Signed name formals signature executable)) e h =
      look_function p s d (arity_of (Some (Signed name formals signature executable))) (ap arity_of e) h

  look_macro : (p : Progress) (s : ℕ) (d : Object ℕ) (row : Option MacroRow) → IsGoodRowIfAny x.world (P (size p)) row → Has p d → IsGoodLook p (macro_look x p.symbols s d row)
  look_macro p s d None g h = look_defined p s d (definition x.world s) refl h
  look_macro p s d (Some row) g h = (g, h)

  good_option : (p : Progress) → n ≤ size p → (row : MacroRow) (os : Option (List (Object ℕ))) → IsGoodRow x.world (P (size p)) row → AllHaveIfAny (P (size p)) os
      → IsGoodIfAny x.world (P (size p)) (option_and_then (made_of p.symbols row) os)
  good_option p enough row None g h = tt
  good_option p enough row (Some os) g h = good_made x.world (P (size p)) p.symbols (true_later p enough) (nil_later p enough) r row os g h

  look_headed : (p : Progress) → n ≤ size p → (s : ℕ) (d : Object ℕ) (row : Option MacroRow) → IsGoodRowIfAny x.world (P (size p)) row → Has p d → IsGoodLook p (headed_look x p.symbols s d row)
  look_headed p enough s d None g h = look_macro p s d (macro_row s) (macro_good x.world (P (size p)) r (nil_later p enough) s) h
  look_headed p enough s d (Some row) g h =
      look_core p s (option_and_then (made_of p.symbols row) (elements d)) (good_option p enough row (elements d) g (elements_have (P (size p)) d h))

  look_list : (p : Progress) → n ≤ size p → (a d : Object ℕ) → Has p d → IsGoodLook p (list_look x p.symbols a d)
  look_list p enough (Integer m) d h = tt
  look_list p enough (Symbol s) d h = look_headed p enough s d (core_row s) (core_good x.world (P (size p)) r (nil_later p enough) s) h
  look_list p enough (Text bytes) d h = tt
  look_list p enough (Pair a b) d h = tt

  variable_good : (p : Progress) → n ≤ size p → (s : ℕ) (found : Option Definition) → definition x.world s ≡ found → IsGood x.world (P (size p)) (variable_or x s found)
  variable_good p enough s (Some (Constant name value)) e =
      good_const x.world (P (size p)) value (symbols_wider (P n) (P (size p)) (λ t. keeps.later n (size p) t enough) value (keeps.constants s name value e))
  variable_good p enough s None e = good_var x.world (P (size p)) s
  variable_good p enough s (Some (Primitive name row)) e = good_var x.world (P (size p)) s
  variable_good p enough s (Some (Defined f)) e = good_var x.world (P (size p)) s
  variable_good p enough s (Some (Macro name formals body)) e = good_var x.world (P (size p)) s
  variable_good p enough s (Some (Concrete d class)) e = good_var x.world (P (size p)) s
  variable_good p enough s (Some (Generated f)) e = good_var x.world (P (size p)) s
  variable_good p enough s (Some (Abstract d)) e = good_var x.world (P (size p)) s
  variable_good p enough s (Some (OfAbstract f)) e = good_var x.world (P (size p)) s
  variable_good p enough s (Some (Named name formals)) e = good_var x.world (P (size p)) s
  variable_good p enough s (Some (Signed name formals signature executable)) e = good_var x.world (P (size p)) s

  symbol_good : (p : Progress) → n ≤ size p → (s : ℕ) → P (size p) s → IsGood x.world (P (size p)) (symbol_look x p.symbols s)
  symbol_good p enough s h = go (is_self_evaluating p.symbols s)
    where
      go : (b : Bool) → IsGood x.world (P (size p)) (if b then Const (Symbol s) else variable_or x s (definition x.world s))
      go true = good_const x.world (P (size p)) (Symbol s) h
      go false = variable_good p enough s (definition x.world s) refl

  look_good : (p : Progress) → n ≤ size p → (o : Object ℕ) → Has p o → IsGoodLook p (look_at x p.symbols o)
  unfolding look_at
  look_good p enough (Integer m) h = good_const x.world (P (size p)) (Integer m) tt
  look_good p enough (Symbol s) h = symbol_good p enough s h
  look_good p enough (Text bytes) h = good_const x.world (P (size p)) (Text bytes) tt
  look_good p enough (Pair a d) h = look_list p enough a d h.1

  -- ---- one use

  given_outcome : (p : Progress) (e : Outcome ℕ) → Counts x.steps (begun p.symbols [] p.calls) e → IsGiven P e → IsGoodOutcome p (again p e)
  given_outcome p (Gives values state) c h = (longer p.symbols state.symbols c.symbols, h)
    where
      longer : (old new : List QualifiedName) → ((added : List QualifiedName) × (new ≡ old ++ added)) → length old ≤ length new
      longer old new e = let k : length new ≡ length old + length e.0 = ap length e.1 ∙ length-append old e.0 in omega (arith, k)
  given_outcome p (Stops stop inside state) c h = tt
  given_outcome p Unknown c h = tt

  shaped_outcome : (p : Progress) (s : ℕ) (m : Option Made) → IsGoodIfAny x.world (P (size p)) m → IsGoodOutcome p (shaped x s p m)
  shaped_outcome p s None h = tt
  shaped_outcome p s (Some m) h = (omega arith, h)

  values_outcome : (p : Progress) → n ≤ size p → (s name : ℕ) (formals : MacroFormals) (body : Core) → definition x.world s ≡ Some (Macro name formals body) → (os : List (Object ℕ)) → AllHave (P (size p)) os
      → (values : Option (List (Object ℕ))) → macro_values p.symbols formals os ≡ values → IsGoodOutcome p (with_values x s formals body p values)
  values_outcome p enough s name formals body e os h None f = tt
  values_outcome p enough s name formals body e os h (Some values) f =
      given_outcome p (body_value x formals body values p) (counts_calls.counts x.world x.packages x.steps x.depth body _ (begun p.symbols [] p.calls))
      (keeps.given s name formals body e os p enough h values f)

  used_outcome : (p : Progress) → n ≤ size p → (s name : ℕ) (formals : MacroFormals) (body : Core) → definition x.world s ≡ Some (Macro name formals body) → (os : Option (List (Object ℕ))) → AllHaveIfAny (P (size p)) os
      → IsGoodOutcome p (used x s formals body os p)
  used_outcome p enough s name formals body e None h = tt
  used_outcome p enough s name formals body e (Some os) h = values_outcome p enough s name formals body e os h (macro_values p.symbols formals os) refl

  counting_outcome : (p : Progress) (go : Progress → Expanded Made) → ((q : Progress) → q.symbols ≡ p.symbols → IsGoodOutcome q (go q)) → IsGoodOutcome p (counting_expansion x.steps go p)
  counting_outcome p go h = by_test (nat_lt p.calls x.steps)
    where
      by_test : (b : Bool) → IsGoodOutcome p (if b then go (record p { calls = p.calls + 1; outer = p.outer + 1 }) else Fails (MacroStopped Steps None) p)
      by_test true = h (record p { calls = p.calls + 1; outer = p.outer + 1 }) refl
      by_test false = tt

  looked_outcome : (p : Progress) → n ≤ size p → (l : Look) → IsGoodLook p l → IsGoodOutcome p (looked x l p)
  looked_outcome p enough (Stands f) h = (omega arith, h)
  looked_outcome p enough (Bad fault) h = tt
  looked_outcome p enough (Use s row d) h = counting_outcome p (built x s row d) (λ q same. built_outcome q same)
    where
      built_outcome : (q : Progress) → q.symbols ≡ p.symbols → IsGoodOutcome q (built x s row d q)
      built_outcome q same =
          let h' = subst (λ (t : List QualifiedName). IsGoodRow x.world (P (length t)) row × Symbols (P (length t)) d) (sym same) h in
          let enough' = subst (λ (t : List QualifiedName). n ≤ length t) (sym same) enough in
          shaped_outcome q s (option_and_then (made_of q.symbols row) (elements d)) (good_option q enough' row (elements d) h'.0 (elements_have (P (size q)) d h'.1))
  looked_outcome p enough (UserUse s formals body d) h = counting_outcome p (used x s formals body (elements d)) (λ q same. use_outcome q same)
    where
      use_outcome : (q : Progress) → q.symbols ≡ p.symbols → IsGoodOutcome q (used x s formals body (elements d) q)
      use_outcome q same =
          let known = subst (λ (t : List QualifiedName). Symbols (P (length t)) d) (sym same) h.1 in
          let enough' = subst (λ (t : List QualifiedName). n ≤ length t) (sym same) enough in
          used_outcome q enough' s h.0.0 formals body h.0.1 (elements d) (elements_have (P (size q)) d known)

  -- ---- settling

  settles_place : (p : Progress) → n ≤ size p → (o : Expanded Made) (go : Settle) → IsGoodOutcome p o → ((a : Object ℕ) (q : Progress) → n ≤ size q → Has q a → IsGoodPlace q (go a q)) → IsGoodPlace p (then_make o (settles go))
  settles_place p enough (Makes (Again a) q) go h k = later (go a q) (k a q (omega (arith, enough, h.0)) h.1)
    where
      later : (e : Expanded Found) → IsGoodPlace q e → IsGoodPlace p e
      later (Makes f u) l = (omega (arith, h.0, l.0), l.1)
      later (Fails fault u) l = tt
  settles_place p enough (Makes (Stays f) q) go h k = h
  settles_place p enough (Fails fault q) go h k = tt

  settled_place : (left : ℕ) (o : Object ℕ) (p : Progress) → n ≤ size p → Has p o → IsGoodPlace p (settled x left o p)
  unfolding settled
  settled_place zero o p enough h =
      settles_place p enough (looked x (look_at x p.symbols o) p) out_of_steps (looked_outcome p enough (look_at x p.symbols o) (look_good p enough o h)) (λ a q room k. tt)
  settled_place (suc left) o p enough h =
      settles_place p enough (looked x (look_at x p.symbols o) p) (settled x left) (looked_outcome p enough (look_at x p.symbols o) (look_good p enough o h)) (settled_place left)

  pub settle_place : (o : Object ℕ) (p : Progress) → n ≤ size p → Has p o → IsGoodPlace p (settle x o p)
  settle_place o p enough h = settled_place (x.steps - p.calls) o p enough h

  row_place : (m : Option Made) (p : Progress) → n ≤ size p → IsGoodIfAny x.world (P (size p)) m → IsGoodPlace p (row_found x m p)
  row_place None p enough h = tt
  row_place (Some (Again o)) p enough h = settle_place o p enough h
  row_place (Some (Stays f)) p enough h = (omega arith, h)

  pub rest_place : (row : MacroRow) (os : List (Object ℕ)) (p : Progress) → n ≤ size p → IsGoodRow x.world (P (size p)) row → AllHave (P (size p)) os → IsGoodPlace p (row_found x (made_of p.symbols row os) p)
  rest_place row os p enough g h = row_place (made_of p.symbols row os) p enough (good_made x.world (P (size p)) p.symbols (true_later p enough) (nil_later p enough) r row os g h)
