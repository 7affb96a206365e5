-- The table of core forms and built-in macros. A macro is given one layer at a time: a node, and parts, of which some are
-- what is left of a row (ACL2's manual, topics MACRO-ARGS, COND, CASE, LET*).
use Rattle.std.specs.Prelude.{ℕ, ◌+◌, ◌-◌, List, [], ◌∷◌, ◌++◌, map, length, ℤ, pos, neg_ℤ, Bool, true, false, not, ◌&&◌, ◌||◌, nat_eq, nat_le, Option, Some, None, option_map, option_and_then, slice_get, unwrap_or, codes, if◌then◌else◌}
use Rattle.std.specs.List.{list_all}
use Rattle.model_objects.specs.Object.{Object, Integer, Symbol, Text, Pair}
use Rattle.model_symbols.specs.Symbols.{QualifiedName}
use Rattle.model_symbols.specs.Opening.{truth, nil, quote}
use Rattle.model_prims.specs.Kinds.{is_pair}
use Rattle.model_lists.specs.Types.{cons_word, not_word, member_word, and_word, or_word}
use Rattle.model_terms.specs.Cores.{Core, Var, Const}
use Rattle.model_expansion.specs.Words.{if_word, let_word, let_star_word, car_word, cdr_word, eql_word, below_word, at_most_word, above_word, at_least_word, plus_word, times_word, minus_word, add_one_word, subtract_one_word, logand_word, logior_word, logxor_word, list_word, list_star_word, append_word, assoc_word, cond_word, case_word, otherwise_word, the_word, first_word, second_word, third_word, fourth_word, fifth_word, rest_word, caar_word, cddddr_word, declare_word, mv_word, mv_let_word, with_local_word, must_be_equal_word, mbe_word, mbt_word, prog2_word, the_check_word, binary_plus_word, binary_times_word, unary_minus_word, binary_logand_word, binary_logior_word, binary_logxor_word, binary_append_word, member_equal_word, member_eq_word, assoc_equal_word, assoc_eq_word, union_equal_word, union_eq_word, hidden_variable_word}
use Rattle.model_expansion.specs.Forms.{elements, each, each_of, is, has_head, are_different, symbol_name, is_key, variable_name}
use Rattle.model_expansion.specs.TypeTerms.{true_core, false_core, call_core, type_term}
use Rattle.model_eval.specs.Evaluated.{stobj_let_word}

-- ---- rows

pub data MacroRow : Type 0 where
  -- core forms
  Quote : MacroRow
  If : MacroRow
  Let : MacroRow
  Mv : MacroRow
  MvLet : MacroRow
  StobjLet : MacroRow
  WithLocal : MacroRow
  MustBeEqual : MacroRow
  -- macros
  And : MacroRow
  Or : MacroRow
  Cond : MacroRow
  Case : MacroRow
  LetStar : MacroRow
  Listing : MacroRow
  ListStar : MacroRow
  Chain : ℕ → Object ℕ → MacroRow  -- this function of two, and what none is
  Minus : MacroRow
  Added : ℤ → MacroRow
  Two : ℕ → MacroRow  -- this function of two
  Turned : ℕ → MacroRow  -- the same with its arguments turned
  Negated : MacroRow → MacroRow
  Path : List ℕ → MacroRow  -- CAR and CDR by their letters, the outermost first
  Then : MacroRow
  Mbt : MacroRow
  Mbe : MacroRow
  The : MacroRow
  -- what is left of one
  OrTest : MacroRow
  CondTest : MacroRow
  Clauses : MacroRow
  Bindings : MacroRow
  Checked : MacroRow

-- a core form
abbrev pub core_row : ℕ → Option MacroRow
core_row s =
    if nat_eq s quote then Some Quote
    else if nat_eq s if_word then Some If
    else if nat_eq s let_word then Some Let
    else if nat_eq s mv_word then Some Mv
    else if nat_eq s mv_let_word then Some MvLet
    else if nat_eq s stobj_let_word then Some StobjLet
    else if nat_eq s with_local_word then Some WithLocal
    else if nat_eq s must_be_equal_word then Some MustBeEqual
    else None

-- the functions of CAR and CDR by their letters, in the order of their numbers
abbrev pub path_text : List (List ℕ)
path_text =
    codes "AA" ∷ codes "AD" ∷ codes "DA" ∷ codes "DD"
    ∷ codes "AAA" ∷ codes "AAD" ∷ codes "ADA" ∷ codes "ADD" ∷ codes "DAA" ∷ codes "DAD" ∷ codes "DDA" ∷ codes "DDD"
    ∷ codes "AAAA" ∷ codes "AAAD" ∷ codes "AADA" ∷ codes "AADD" ∷ codes "ADAA" ∷ codes "ADAD" ∷ codes "ADDA" ∷ codes "ADDD"
    ∷ codes "DAAA" ∷ codes "DAAD" ∷ codes "DADA" ∷ codes "DADD" ∷ codes "DDAA" ∷ codes "DDAD" ∷ codes "DDDA" ∷ codes "DDDD" ∷ []

abbrev pub path_row : ℕ → Option MacroRow
path_row s =
    if nat_le caar_word s && nat_le s cddddr_word then option_map Path (slice_get path_text (s - caar_word))
    else if nat_eq s first_word then Some (Path (codes "A"))
    else if nat_eq s second_word then Some (Path (codes "AD"))
    else if nat_eq s third_word then Some (Path (codes "ADD"))
    else if nat_eq s fourth_word then Some (Path (codes "ADDD"))
    else if nat_eq s fifth_word then Some (Path (codes "ADDDD"))
    else if nat_eq s rest_word then Some (Path (codes "D"))
    else None

abbrev pub arithmetic_row : ℕ → Option MacroRow
arithmetic_row s =
    if nat_eq s plus_word then Some (Chain binary_plus_word (Integer (pos 0)))
    else if nat_eq s times_word then Some (Chain binary_times_word (Integer (pos 1)))
    else if nat_eq s minus_word then Some Minus
    else if nat_eq s add_one_word then Some (Added (pos 1))
    else if nat_eq s subtract_one_word then Some (Added (neg_ℤ (pos 1)))
    else if nat_eq s above_word then Some (Turned below_word)
    else if nat_eq s at_most_word then Some (Negated (Turned below_word))
    else if nat_eq s at_least_word then Some (Negated (Two below_word))
    else if nat_eq s logand_word then Some (Chain binary_logand_word (Integer (neg_ℤ (pos 1))))
    else if nat_eq s logior_word then Some (Chain binary_logior_word (Integer (pos 0)))
    else if nat_eq s logxor_word then Some (Chain binary_logxor_word (Integer (pos 0)))
    else path_row s

-- a macro
abbrev pub macro_row : ℕ → Option MacroRow
macro_row s =
    if nat_eq s and_word then Some And
    else if nat_eq s or_word then Some Or
    else if nat_eq s cond_word then Some Cond
    else if nat_eq s case_word then Some Case
    else if nat_eq s let_star_word then Some LetStar
    else if nat_eq s list_word then Some Listing
    else if nat_eq s list_star_word then Some ListStar
    else if nat_eq s append_word then Some (Chain binary_append_word (Symbol nil))
    else if nat_eq s member_word then Some (Two member_equal_word)
    else if nat_eq s member_eq_word then Some (Two member_equal_word)
    else if nat_eq s assoc_word then Some (Two assoc_equal_word)
    else if nat_eq s assoc_eq_word then Some (Two assoc_equal_word)
    else if nat_eq s union_eq_word then Some (Two union_equal_word)
    else if nat_eq s prog2_word then Some Then
    else if nat_eq s mbt_word then Some Mbt
    else if nat_eq s mbe_word then Some Mbe
    else if nat_eq s the_word then Some The
    else arithmetic_row s

-- ---- layers

-- a node, apart from its parts
pub data Kind : Type 0 where
  IfNode : Kind
  LetNode : List ℕ → Kind
  MvNode : Kind
  MvLetNode : List ℕ → Kind
  StobjLetNode : List ℕ → List ℕ → Kind  -- children, variables
  WithLocalNode : ℕ → List ℕ → Kind
  MustBeEqualNode : Kind
  CallNode : ℕ → Kind

-- what a guard asks: that a form holds, or the test of a type
pub data GuardItem : Type 0 where
  FormHolds : Object ℕ → GuardItem
  Meets : Core → GuardItem

pub data Part : Type 0 where
  Form : Object ℕ → Part
  Ready : Core → Part
  Rest : MacroRow → List (Object ℕ) → Part  -- what is left of a row
  Guard : List GuardItem → Part  -- that all of these hold

-- what stands at a place: a whole core form, or a node
pub data Found : Type 0 where
  Leaf : Core → Found
  Node : Kind → List Part → Found

-- what a row makes of its place: another form that stands there, or what is found there
pub data Made : Type 0 where
  Again : Object ℕ → Made
  Stays : Found → Made

abbrev pub node : Kind → List Part → Made
node k ps = Stays (Node k ps)

abbrev pub leaf : Core → Made
leaf f = Stays (Leaf f)

abbrev pub if_made : Part → Part → Part → Made
if_made a b c = node IfNode (a ∷ b ∷ c ∷ [])

-- the hidden variable, which takes the value of a form for another
abbrev pub hidden_let : Object ℕ → Part → Made
hidden_let x p = node (LetNode (hidden_variable_word ∷ [])) (Form x ∷ p ∷ [])

abbrev pub hidden_variable : Part
hidden_variable = Ready (Var hidden_variable_word)

abbrev pub call_made : ℕ → List Part → Made
call_made f ps = node (CallNode f) ps

abbrev pub false_part : Part
false_part = Ready false_core

abbrev pub constant : Object ℕ → Part
constant o = Ready (Const o)

-- ---- shapes of binding forms, given the symbols that are known

module _ (symbols : List QualifiedName) where
  abbrev pub binding_in : List (Object ℕ) → Option (ℕ × Object ℕ)
  binding_in (x ∷ (f ∷ [])) = option_map (λ s. (s, f)) (variable_name symbols x)
  binding_in os = None

  -- `(variable form)`
  abbrev pub binding : Object ℕ → Option (ℕ × Object ℕ)
  binding o = option_and_then binding_in (elements o)

  abbrev pub bindings : Object ℕ → Option (List (ℕ × Object ℕ))
  bindings o = each_of binding o

  abbrev pub variables : Object ℕ → Option (List ℕ)
  variables o = each_of (variable_name symbols) o

  -- declarations, and then the body
  abbrev pub body_of : List (Object ℕ) → Option (Object ℕ)
  body_of [] = None
  body_of (b ∷ []) = Some b
  body_of (d ∷ (e ∷ os)) = if has_head declare_word d then body_of (e ∷ os) else None

  abbrev pub bound_names : List (ℕ × Object ℕ) → List ℕ
  bound_names bs = map (λ b. b.0) bs

  abbrev pub bound_forms : List (ℕ × Object ℕ) → List Part
  bound_forms bs = map (λ b. Form b.1) bs

  abbrev pub let_of : List (ℕ × Object ℕ) → Object ℕ → Option Made
  let_of bs body = if are_different (bound_names bs) then Some (node (LetNode (bound_names bs)) (bound_forms bs ++ Form body ∷ [])) else None

  abbrev pub let_made : List (Object ℕ) → Option Made
  let_made [] = None
  let_made (bs ∷ os) = option_and_then (λ bs. option_and_then (let_of bs) (body_of os)) (bindings bs)

  -- the bindings as forms, and the body after them
  abbrev pub let_star_made : List (Object ℕ) → Option Made
  let_star_made [] = None
  let_star_made (bs ∷ os) = option_and_then (λ b. option_and_then (λ fs. option_map (λ all. begun (fs ++ b ∷ [])) (bindings bs)) (elements bs)) (body_of os) where
    begun : List (Object ℕ) → Made
    begun [] = Again (Symbol nil)
    begun (f ∷ []) = Again f
    begun (f ∷ (g ∷ fs)) = first_bound (binding f) (g ∷ fs) where
      first_bound : Option (ℕ × Object ℕ) → List (Object ℕ) → Made
      first_bound None fs = Again (Symbol nil)
      first_bound (Some b) fs = node (LetNode (b.0 ∷ [])) (Form b.1 ∷ Rest Bindings fs ∷ [])

  -- the names of an MV-LET: at least two, all different
  abbrev pub mv_names : Object ℕ → Option (List ℕ)
  mv_names o = option_and_then (λ xs. if nat_le 2 (length xs) && are_different xs then Some xs else None) (variables o)

  -- names, the bound form and the body of an MV-LET, from what stands behind its head
  abbrev pub mv_let_parts : List (Object ℕ) → Option (List ℕ × Object ℕ × Object ℕ)
  mv_let_parts (xs ∷ (f ∷ os)) = option_and_then (λ names. option_map (λ body. (names, f, body)) (body_of os)) (mv_names xs)
  mv_let_parts os = None

  abbrev pub mv_let_made : List (Object ℕ) → Option Made
  mv_let_made os = option_map (λ p. node (MvLetNode p.0) (Form p.1 ∷ Form p.2 ∷ [])) (mv_let_parts os)

  abbrev pub stobj_let_of : List (ℕ × Object ℕ) → List ℕ → Object ℕ → Object ℕ → Option Made
  stobj_let_of [] vars p c = None
  stobj_let_of (b ∷ bs) vars p c = Some (node (StobjLetNode (bound_names (b ∷ bs)) vars) (bound_forms (b ∷ bs) ++ (Form p ∷ Form c ∷ [])))

  abbrev pub stobj_let_made : List (Object ℕ) → Option Made
  stobj_let_made (bs ∷ (vs ∷ (p ∷ (c ∷ [])))) = option_and_then (λ bs. option_and_then (λ vars. stobj_let_of bs vars p c) (variables vs)) (bindings bs)
  stobj_let_made os = None

  -- what stands behind the head of an MV-LET that is written
  abbrev pub written_mv_let : Object ℕ → Option (List (Object ℕ))
  written_mv_let (Pair a d) = if is mv_let_word a then elements d else None
  written_mv_let o = None

  abbrev pub with_local_made : List (Object ℕ) → Option Made
  with_local_made (x ∷ (f ∷ [])) =
      option_and_then (λ stobj. option_map (λ p. node (WithLocalNode stobj p.0) (Form p.1 ∷ Form p.2 ∷ [])) (option_and_then mv_let_parts (written_mv_let f)))
      (variable_name symbols x)
  with_local_made os = None

  -- ---- COND and CASE

  -- `(test result)` or `(test)`; `(T result)` comes last
  abbrev pub is_cond_clause : Bool → Option (List (Object ℕ)) → Bool
  is_cond_clause last None = false
  is_cond_clause last (Some []) = false
  is_cond_clause last (Some (x ∷ [])) = true
  is_cond_clause last (Some (x ∷ (r ∷ []))) = last || not (is truth x)
  is_cond_clause last (Some (x ∷ (r ∷ (o ∷ os)))) = false

  abbrev pub is_none : List (Object ℕ) → Bool
  is_none [] = true
  is_none (o ∷ os) = false

  abbrev pub are_cond_clauses : List (Object ℕ) → Bool
  are_cond_clauses [] = true
  are_cond_clauses (c ∷ cs) = is_cond_clause (is_none cs) (elements c) && are_cond_clauses cs

  abbrev pub is_default : Object ℕ → Bool
  is_default key = is truth key || is otherwise_word key

  -- `(key result)`; the default comes last
  abbrev pub is_case_clause : Bool → Option (List (Object ℕ)) → Bool
  is_case_clause last None = false
  is_case_clause last (Some []) = false
  is_case_clause last (Some (key ∷ [])) = false
  is_case_clause last (Some (key ∷ (r ∷ []))) = last || not (is_default key)
  is_case_clause last (Some (key ∷ (r ∷ (o ∷ os)))) = false

  abbrev pub are_case_clauses : List (Object ℕ) → Bool
  are_case_clauses [] = true
  are_case_clauses (c ∷ cs) = is_case_clause (is_none cs) (elements c) && are_case_clauses cs

  abbrev pub cond_layer : Option (List (Object ℕ)) → List (Object ℕ) → Made
  cond_layer (Some (x ∷ [])) cs = hidden_let x (Rest CondTest cs)
  cond_layer (Some (x ∷ (r ∷ []))) cs = if is truth x then Again r else if_made (Form x) (Form r) (Rest Cond cs)
  cond_layer c cs = leaf false_core

  -- the test of a key of CASE
  abbrev pub key_test : Object ℕ → Core
  key_test key = call_core (if is_pair key then member_equal_word else eql_word) (Var hidden_variable_word ∷ Const key ∷ [])

  abbrev pub case_layer : Option (List (Object ℕ)) → List (Object ℕ) → Made
  case_layer (Some (key ∷ (r ∷ []))) cs = if is_default key then Again r else if_made (Ready (key_test key)) (Form r) (Rest Clauses cs)
  case_layer c cs = leaf false_core

  -- ---- MBE and THE

  -- `:LOGIC l :EXEC e`, in either order
  abbrev pub mbe_made : List (Object ℕ) → Option Made
  mbe_made (a ∷ (x ∷ (b ∷ (y ∷ [])))) =
      if is_key symbols (codes "LOGIC") a && is_key symbols (codes "EXEC") b then Some (node MustBeEqualNode (Form x ∷ Form y ∷ []))
      else if is_key symbols (codes "EXEC") a && is_key symbols (codes "LOGIC") b then Some (node MustBeEqualNode (Form y ∷ Form x ∷ []))
      else None
  mbe_made os = None

  abbrev pub checked_made : Object ℕ → Core → Made
  checked_made written test = call_made the_check_word (Ready test ∷ constant written ∷ hidden_variable ∷ [])

  -- ---- all rows

  abbrev pub letter_function : ℕ → ℕ
  letter_function letter = if nat_eq letter 65 then car_word else cdr_word

  abbrev pub path_made : List ℕ → Object ℕ → Option Made
  path_made [] x = None
  path_made (l ∷ []) x = Some (call_made (letter_function l) (Form x ∷ []))
  path_made (l ∷ (m ∷ ls)) x = Some (call_made (letter_function l) (Rest (Path (m ∷ ls)) (x ∷ []) ∷ []))

  -- a function of two over the first and over what is left
  abbrev pub chained : ℕ → MacroRow → List (Object ℕ) → Object ℕ → Made
  chained f row [] unit = leaf (Const unit)
  chained f row (x ∷ []) unit = Again x
  chained f row (x ∷ (y ∷ ys)) unit = call_made f (Form x ∷ Rest row (y ∷ ys) ∷ [])

  -- what a row makes of what stands behind its head; None where the shape is wrong
  unfoldable pub made_of : MacroRow → List (Object ℕ) → Option Made
  made_of Quote (o ∷ []) = Some (leaf (Const o))
  made_of If (a ∷ (b ∷ (c ∷ []))) = Some (if_made (Form a) (Form b) (Form c))
  made_of Let os = let_made os
  made_of Mv (a ∷ (b ∷ os)) = Some (node MvNode (map Form (a ∷ (b ∷ os))))
  made_of MvLet os = mv_let_made os
  made_of StobjLet os = stobj_let_made os
  made_of WithLocal os = with_local_made os
  made_of MustBeEqual (a ∷ (b ∷ [])) = Some (node MustBeEqualNode (Form a ∷ Form b ∷ []))
  made_of And [] = Some (leaf true_core)
  made_of And (x ∷ []) = Some (Again x)
  made_of And (x ∷ (y ∷ ys)) = Some (if_made (Form x) (Rest And (y ∷ ys)) false_part)
  made_of Or [] = Some (leaf false_core)
  made_of Or (x ∷ []) = Some (Again x)
  made_of Or (x ∷ (y ∷ ys)) = Some (hidden_let x (Rest OrTest (y ∷ ys)))
  made_of OrTest ys = Some (if_made hidden_variable hidden_variable (Rest Or ys))
  made_of Cond [] = Some (leaf false_core)
  made_of Cond (c ∷ cs) = if are_cond_clauses (c ∷ cs) then Some (cond_layer (elements c) cs) else None
  made_of CondTest cs = Some (if_made hidden_variable hidden_variable (Rest Cond cs))
  made_of Case (x ∷ cs) = if are_case_clauses cs then Some (hidden_let x (Rest Clauses cs)) else None
  made_of Clauses [] = Some (leaf false_core)
  made_of Clauses (c ∷ cs) = Some (case_layer (elements c) cs)
  made_of LetStar os = let_star_made os
  made_of Bindings [] = None
  made_of Bindings (body ∷ []) = Some (Again body)
  made_of Bindings (b ∷ (c ∷ os)) = option_map (λ p. node (LetNode (p.0 ∷ [])) (Form p.1 ∷ Rest Bindings (c ∷ os) ∷ [])) (binding b)
  made_of Listing [] = Some (leaf false_core)
  made_of Listing (x ∷ xs) = Some (call_made cons_word (Form x ∷ Rest Listing xs ∷ []))
  made_of ListStar (x ∷ xs) = Some (chained cons_word ListStar (x ∷ xs) (Symbol nil))
  made_of (Chain f unit) os = Some (chained f (Chain f unit) os unit)
  made_of Minus (x ∷ []) = Some (call_made unary_minus_word (Form x ∷ []))
  made_of Minus (x ∷ (y ∷ [])) = Some (call_made binary_plus_word (Form x ∷ Rest Minus (y ∷ []) ∷ []))
  made_of (Added n) (x ∷ []) = Some (call_made binary_plus_word (constant (Integer n) ∷ Form x ∷ []))
  made_of (Two f) (x ∷ (y ∷ [])) = Some (call_made f (Form x ∷ Form y ∷ []))
  made_of (Turned f) (x ∷ (y ∷ [])) = Some (call_made f (Form y ∷ Form x ∷ []))
  made_of (Negated row) (x ∷ (y ∷ [])) = Some (call_made not_word (Rest row (x ∷ (y ∷ [])) ∷ []))
  made_of (Path letters) (x ∷ []) = path_made letters x
  made_of Then (x ∷ (y ∷ [])) = Some (hidden_let x (Form y))
  made_of Mbt (x ∷ []) = Some (Again x)
  made_of Mbe os = mbe_made os
  made_of The (t ∷ (x ∷ [])) = option_map (λ test. hidden_let x (Rest Checked (t ∷ []))) (type_term t (Var hidden_variable_word))
  made_of Checked (t ∷ []) = option_map (checked_made t) (type_term t (Var hidden_variable_word))
  made_of row os = None
