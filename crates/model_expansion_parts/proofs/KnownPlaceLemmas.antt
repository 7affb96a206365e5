-- What is seen at the place of a form with known symbols, the values of formals, and nodes over known parts.
use Rattle.std.proofs.Common.{◌≡◌, ℕ, ◌+◌, ◌≤◌, List, [], length, map, Bool, true, false, Option, Some, None, refl, arith}
use Rattle.std.specs.Prelude.{nat_eq, nat_le, ◌&&◌, ◌-◌, if◌then◌else◌, option_map, option_and_then, slice_get, unwrap_or}
use Rattle.model_objects.specs.Object.{Object, Integer, Symbol, Text, Pair}
use Rattle.model_objects.specs.Named.{Knows}
use Rattle.model_symbols.specs.Symbols.{QualifiedName}
use Rattle.model_symbols.specs.Opening.{quote}
use Rattle.model_lists.specs.Types.{member_word}
use Rattle.model_terms.specs.Cores.{Core, cores, Const}
use Rattle.model_terms.specs.Worlds.{MacroFormals, Definition, Primitive, Defined, Macro, Constant, Concrete, Generated, Abstract, OfAbstract, Named, Signed, definition}
use Rattle.model_eval.specs.Evaluated.{stobj_let_word}
use Rattle.model_expansion.specs.Words.{if_word, let_word, mv_word, mv_let_word, with_local_word, must_be_equal_word, let_star_word, cond_word, case_word, list_word, list_star_word, append_word, member_eq_word, assoc_word, assoc_eq_word, union_eq_word, prog2_word, mbt_word, mbe_word, the_word, plus_word, times_word, minus_word, add_one_word, subtract_one_word, above_word, at_most_word, at_least_word, logand_word, logior_word, logxor_word, caar_word, cddddr_word, first_word, second_word, third_word, fourth_word, fifth_word, rest_word}
use Rattle.model_lists.specs.Types.{and_word, or_word}
use Rattle.model_expansion.specs.Forms.{elements, is_self_evaluating}
use Rattle.model_expansion.specs.Faults.{Arity}
use Rattle.model_expansion.specs.Layers.{MacroRow, Path, path_text, path_row, arithmetic_row, core_row, macro_row, Kind, IfNode, LetNode, MvNode, MvLetNode, StobjLetNode, WithLocalNode, MustBeEqualNode, CallNode, Form, Node, Made, Again, Stays, made_of}
use Rattle.model_expansion.specs.Expansion.{Setting, macro_values, Stands, Bad, core_look, call_look, arity_of, function_look, defined_look, macro_look, headed_look, list_look, look_at, variable_or, symbol_look, part_at, core_of_node}
use Rattle.model_expansion_forms.specs.Nodes.{AllNodes, HasConstant, IsBelow}
use Rattle.model_expansion_forms.specs.Rows.{AllKnown}
use Rattle.model_expansion_forms.proofs.NodeLemmas.{part_each, take_each}
use Rattle.model_expansion_forms.proofs.PartLemmas.{AllHaveIfAny, elements_have}
use Rattle.model_expansion_forms.proofs.ValueLemmas.{values_have}
use Rattle.model_expansion_parts.specs.Known.{KnowsForm, KnowsRow, KnowsFormals, KnowsLook, KnowsSupplies}
use Rattle.model_expansion_parts.proofs.KnownLemmas.{known_all, have_all, have_defaults}
use Rattle.model_expansion_parts.proofs.KnownRowLemmas.{KnowsIfAny, mapped_known, made_known}

module _ (n : ℕ) where
  -- ---- rows of the table

  abbrev pub KnowsRowIfAny : Option MacroRow → Type 0
  KnowsRowIfAny None = Unit {0}
  KnowsRowIfAny (Some row) = KnowsRow n row

  row_if : (b : Bool) (x y : Option MacroRow) → KnowsRowIfAny x → KnowsRowIfAny y → KnowsRowIfAny (if b then x else y)
  row_if true x y h k = h
  row_if false x y h k = k

  core_known : (s : ℕ) → KnowsRowIfAny (core_row s)
  core_known s =
      row_if (nat_eq s quote) _ _ tt
      (row_if (nat_eq s if_word) _ _ tt
      (row_if (nat_eq s let_word) _ _ tt
      (row_if (nat_eq s mv_word) _ _ tt
      (row_if (nat_eq s mv_let_word) _ _ tt
      (row_if (nat_eq s stobj_let_word) _ _ tt
      (row_if (nat_eq s with_local_word) _ _ tt
      (row_if (nat_eq s must_be_equal_word) _ _ tt tt)))))))

  letters_known : (v : Option (List ℕ)) → KnowsRowIfAny (option_map Path v)
  letters_known None = tt
  letters_known (Some ls) = tt

  path_known : (s : ℕ) → KnowsRowIfAny (path_row s)
  path_known s =
      row_if (nat_le caar_word s && nat_le s cddddr_word) _ _ (letters_known (slice_get path_text (s - caar_word)))
      (row_if (nat_eq s first_word) _ _ tt
      (row_if (nat_eq s second_word) _ _ tt
      (row_if (nat_eq s third_word) _ _ tt
      (row_if (nat_eq s fourth_word) _ _ tt
      (row_if (nat_eq s fifth_word) _ _ tt
      (row_if (nat_eq s rest_word) _ _ tt tt))))))

  arithmetic_known : (s : ℕ) → KnowsRowIfAny (arithmetic_row s)
  arithmetic_known s =
      row_if (nat_eq s plus_word) _ _ tt
      (row_if (nat_eq s times_word) _ _ tt
      (row_if (nat_eq s minus_word) _ _ tt
      (row_if (nat_eq s add_one_word) _ _ tt
      (row_if (nat_eq s subtract_one_word) _ _ tt
      (row_if (nat_eq s above_word) _ _ tt
      (row_if (nat_eq s at_most_word) _ _ tt
      (row_if (nat_eq s at_least_word) _ _ tt
      (row_if (nat_eq s logand_word) _ _ tt
      (row_if (nat_eq s logior_word) _ _ tt
      (row_if (nat_eq s logxor_word) _ _ tt (path_known s)))))))))))

  macro_known : 2 ≤ n → (s : ℕ) → KnowsRowIfAny (macro_row s)
  macro_known two s =
      row_if (nat_eq s and_word) _ _ tt
      (row_if (nat_eq s or_word) _ _ tt
      (row_if (nat_eq s cond_word) _ _ tt
      (row_if (nat_eq s case_word) _ _ tt
      (row_if (nat_eq s let_star_word) _ _ tt
      (row_if (nat_eq s list_word) _ _ tt
      (row_if (nat_eq s list_star_word) _ _ tt
      (row_if (nat_eq s append_word) _ _ (omega (arith, two))
      (row_if (nat_eq s member_word) _ _ tt
      (row_if (nat_eq s member_eq_word) _ _ tt
      (row_if (nat_eq s assoc_word) _ _ tt
      (row_if (nat_eq s assoc_eq_word) _ _ tt
      (row_if (nat_eq s union_eq_word) _ _ tt
      (row_if (nat_eq s prog2_word) _ _ tt
      (row_if (nat_eq s mbt_word) _ _ tt
      (row_if (nat_eq s mbe_word) _ _ tt
      (row_if (nat_eq s the_word) _ _ tt (arithmetic_known s)))))))))))))))))

  -- ---- nodes

  pub node_known : 2 ≤ n → (k : Kind) (fs : List Core) → AllNodes (HasConstant (IsBelow n)) (cores fs) → KnowsForm n (core_of_node k fs)
  node_known two k fs h = go k
    where
      here : (i : ℕ) → KnowsForm n (part_at fs i)
      here i = part_each (HasConstant (IsBelow n)) fs i (omega (arith, two)) h

      go : (k : Kind) → KnowsForm n (core_of_node k fs)
      go IfNode = (tt, here 0, here 1, here 2)
      go (LetNode names) = (tt, take_each (HasConstant (IsBelow n)) (length names) fs h, here (length names))
      go MvNode = (tt, h)
      go (MvLetNode names) = (tt, here 0, here 1)
      go (StobjLetNode names vars) = (tt, take_each (HasConstant (IsBelow n)) (length names) fs h, here (length names), here (length names + 1))
      go (WithLocalNode stobj names) = (tt, here 0, here 1)
      go MustBeEqualNode = (tt, here 0, here 1)
      go (CallNode f) = (tt, h)

  -- ---- values of formals

  abbrev pub AllKnownIfAny : Option (List (Object ℕ)) → Type 0
  AllKnownIfAny None = Unit {0}
  AllKnownIfAny (Some os) = AllKnown n os

  pub elements_known : (d : Object ℕ) → Knows n d → AllKnownIfAny (elements d)
  elements_known d h = go (elements d) (elements_have (IsBelow n) d h)
    where
      go : (os : Option (List (Object ℕ))) → AllHaveIfAny (IsBelow n) os → AllKnownIfAny os
      go None k = tt
      go (Some os) k = known_all n os k

  pub values_known : 2 ≤ n → (symbols : List QualifiedName) (f : MacroFormals) → KnowsFormals n f → (os : List (Object ℕ)) → AllKnown n os → AllKnownIfAny (macro_values symbols f os)
  values_known two symbols f d os h =
      go (macro_values symbols f os) (values_have (IsBelow n) (omega (arith, two)) (omega (arith, two)) symbols f (have_defaults n f.optional d.0) (have_defaults n (unwrap_or f.keys []) d.1) os (have_all n os h))
    where
      go : (vs : Option (List (Object ℕ))) → AllHaveIfAny (IsBelow n) vs → AllKnownIfAny vs
      go None k = tt
      go (Some vs) k = known_all n vs k

module _ (n : ℕ) (x : Setting) (supplies : KnowsSupplies n x.world) where
  -- ---- a look

  look_core : (s : ℕ) (m : Option Made) → KnowsIfAny n m → KnowsLook n (core_look s m)
  look_core s None h = tt
  look_core s (Some (Stays f)) h = h
  look_core s (Some (Again o)) h = tt

  look_call : (s arity : ℕ) (os : Option (List (Object ℕ))) → AllHaveIfAny (IsBelow n) os → KnowsLook n (call_look s arity os)
  look_call s arity None h = tt
  look_call s arity (Some os) h = go (nat_eq (length os) arity)
    where
      go : (b : Bool) → KnowsLook n (if b then Stands (Node (CallNode s) (map Form os)) else Bad (Arity s))
      go true = mapped_known n os h
      go false = tt

  look_function : (s : ℕ) (d : Object ℕ) (arity : Option ℕ) → Knows n d → KnowsLook n (function_look s d arity)
  look_function s d None h = tt
  look_function s d (Some arity) h = look_call s arity (elements d) (elements_have (IsBelow n) d h)

  look_defined : (s : ℕ) (d : Object ℕ) (found : Option Definition) → definition x.world s ≡ found → Knows n d → KnowsLook n (defined_look s d found)
  look_defined s d None e h = tt
  look_defined s d (Some (Macro name formals body)) e h = (supplies.macros s name formals body e, h)
  look_defined s d (Some (Primitive name row)) e h = look_function s d (arity_of (Some (Primitive name row))) h
  look_defined s d (Some (Defined f)) e h = look_function s d (arity_of (Some (Defined f))) h
  look_defined s d (Some (Constant name value)) e h = tt
  look_defined s d (Some (Concrete e' class)) e h = tt
  look_defined s d (Some (Generated f)) e h = look_function s d (arity_of (Some (Generated f))) h
  look_defined s d (Some (Abstract e')) e h = tt
  look_defined s d (Some (OfAbstract f)) e h = look_function s d (arity_of (Some (OfAbstract f))) h
  look_defined s d (Some (Named name formals)) e h = look_function s d (arity_of (Some (Named name formals))) h
  look_defined s d (Some (Signed name formals signature executable)) e h = look_function s d (arity_of (Some (Signed name formals signature executable))) h

  variable_known : (s : ℕ) (found : Option Definition) → definition x.world s ≡ found → KnowsForm n (variable_or x s found)
  variable_known s (Some (Constant name value)) e = supplies.constants s name value e
  variable_known s None e = tt
  variable_known s (Some (Primitive name row)) e = tt
  variable_known s (Some (Defined f)) e = tt
  variable_known s (Some (Macro name formals body)) e = tt
  variable_known s (Some (Concrete d class)) e = tt
  variable_known s (Some (Generated f)) e = tt
  variable_known s (Some (Abstract d)) e = tt
  variable_known s (Some (OfAbstract f)) e = tt
  variable_known s (Some (Named name formals)) e = tt
  variable_known s (Some (Signed name formals signature executable)) e = tt

  module _ (symbols : List QualifiedName) where
    look_macro : (s : ℕ) (d : Object ℕ) (row : Option MacroRow) → KnowsRowIfAny n row → Knows n d → KnowsLook n (macro_look x symbols s d row)
    look_macro s d None g h = look_defined s d (definition x.world s) refl h
    look_macro s d (Some row) g h = (g, h)

    option_known : (row : MacroRow) (os : Option (List (Object ℕ))) → KnowsRow n row → AllHaveIfAny (IsBelow n) os → KnowsIfAny n (option_and_then (made_of symbols row) os)
    option_known row None g h = tt
    option_known row (Some os) g h = made_known n symbols supplies.enough row os g (known_all n os h)

    look_headed : (s : ℕ) (d : Object ℕ) (row : Option MacroRow) → KnowsRowIfAny n row → Knows n d → KnowsLook n (headed_look x symbols s d row)
    look_headed s d None g h = look_macro s d (macro_row s) (macro_known n supplies.enough s) h
    look_headed s d (Some row) g h = look_core s (option_and_then (made_of symbols row) (elements d)) (option_known row (elements d) g (elements_have (IsBelow n) d h))

    look_list : (a d : Object ℕ) → Knows n d → KnowsLook n (list_look x symbols a d)
    look_list (Integer m) d h = tt
    look_list (Symbol s) d h = look_headed s d (core_row s) (core_known n s) h
    look_list (Text bytes) d h = tt
    look_list (Pair a b) d h = tt

    symbol_known : (s : ℕ) → Knows n (Symbol s) → KnowsForm n (symbol_look x symbols s)
    symbol_known s h = go (is_self_evaluating symbols s)
      where
        go : (b : Bool) → KnowsForm n (if b then Const (Symbol s) else variable_or x s (definition x.world s))
        go true = h
        go false = variable_known s (definition x.world s) refl

    pub look_known : (o : Object ℕ) → Knows n o → KnowsLook n (look_at x symbols o)
    unfolding look_at
    look_known (Integer m) h = tt
    look_known (Symbol s) h = symbol_known s h
    look_known (Text bytes) h = tt
    look_known (Pair a d) h = look_list a d h.1
