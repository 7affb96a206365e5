-- What the tests of types say.
use Rattle.std.proofs.Common.{◌≡◌, ℕ, zero, suc, List, [], ◌∷◌, ◌++◌, Bool, true, false, Option, Some, None, refl, sym, ap, ◌∙◌, subst}
use Rattle.std.specs.Prelude.{not, ◌&&◌, ◌||◌, nat_lt, ℤ, int_lt, if◌then◌else◌}
use Rattle.model_objects.specs.Object.{Object, Integer, Symbol, Text, Pair}
use Rattle.model_symbols.specs.Symbols.{Package}
use Rattle.model_symbols.specs.Opening.{truth, nil}
use Rattle.model_prims.specs.Kinds.{by_number, is_nil, is_integer, is_pair, truth_of, same_object}
use Rattle.model_prims.specs.Lists.{is_true_list, member, is_member}
use Rattle.model_prims.specs.Guards.{guard, recognizer_guard, relation_guard, listing_guard}
use Rattle.model_prims.specs.Values.{wanted, recognized, related, listed}
use Rattle.model_prims.specs.Applied.{applied_to, bounded}
use Rattle.model_prims.specs.declared.prim.Prim.{Prim}
use Rattle.model_prims.specs.declared.prim.Prim.TheVariants.{Recognizer, Relation, Listing}
use Rattle.model_prims.specs.declared.prim.Recognizer.{Recognizer as OneRecognizer}
use Rattle.model_prims.specs.declared.prim.Recognizer.TheVariants as recognizer
use Rattle.model_prims.specs.declared.prim.Relation.TheVariants as relation
use Rattle.model_prims.specs.declared.prim.Listing.TheVariants as listing
use Rattle.model_lists.specs.Types.{ValueType, Anything, Nothing, Integers, Recognized, OneOf, Either, Both, Other, meets, not_word, is_least, is_greatest}
use Rattle.model_terms.specs.Cores.{Core, Const, If}
use Rattle.model_terms.specs.Worlds.{World}
use Rattle.model_eval.specs.Outcomes.{Shown, Plain, State, Outcome, Gives, Stops, Unknown, Steps, one_more_call, then_with, counting, stops_here}
use Rattle.model_eval.specs.Variables.{Variables, single}
use Rattle.model_eval.specs.Evaluated.{leaf, is_false, evaluated, called, in_order}
use Rattle.model_eval.specs.Checked.{checked_rules, checked_primitive}
use Rattle.model_expansion.specs.Words.{integerp_word, below_word, member_equal_word}
use Rattle.model_expansion.specs.TypeTerms.{test_of, predicate, range_test, integer_test, low_test, high_test, not_core, and_core, either_test, both_test, is_nothing, is_anything, true_core, false_core, call_core}
use Rattle.model_expansion_laws.specs.Tests.{Stands, HasTestFunctions, IsPredicate, IsWritten, Says, TestsSay}

-- ---- truth values

abbrev Holds : Bool → Type 0
Holds true = Unit {0}
Holds false = ⊥

or_false : (b : Bool) → b ≡ b || false
or_false true = refl
or_false false = refl

and_true : (b : Bool) → b ≡ b && true
and_true true = refl
and_true false = refl

truth_says : (b : Bool) → is_nil by_number (truth_of by_number b) ≡ not b
truth_says true = refl
truth_says false = refl

-- what is found of a member is a pair, or `NIL`
found_member : (x l : Object ℕ) → is_nil by_number (member by_number x l) ≡ not (is_member by_number x l)
found_member x (Integer n) = refl
found_member x (Symbol s) = refl
found_member x (Text bytes) = refl
found_member x (Pair a d) = go (same_object by_number x a) (found_member x d)
  where
    go : (b : Bool) → is_nil by_number (member by_number x d) ≡ not (is_member by_number x d)
        → is_nil by_number (if b then Pair a d else member by_number x d) ≡ not (is_pair (if b then Pair a d else member by_number x d))
    go true rest = refl
    go false rest = rest

says_counting : (b : Bool) (limit : ℕ) (state : State ℕ) (go : State ℕ → Outcome ℕ) → ((after : State ℕ) → Says b (go after)) → Says b (counting limit state go)
says_counting b limit state go h = by_test (nat_lt state.calls limit)
  where
    by_test : (c : Bool) → Says b (if c then go (one_more_call state) else stops_here Steps state)
    by_test true = h (one_more_call state)
    by_test false = tt

-- ---- primitives

module _ (packages : List Package) where
  predicate_says : (f : ℕ) (r : OneRecognizer) (o : Object ℕ) (state : State ℕ) → IsPredicate r → Says (recognized by_number r o) (checked_primitive packages f (Recognizer r) (Plain o ∷ []) state)
  unfolding applied_to bounded guard recognizer_guard wanted
  predicate_says f recognizer.Symbolp o state h = (truth_of by_number (recognized by_number recognizer.Symbolp o), refl, truth_says (recognized by_number recognizer.Symbolp o))
  predicate_says f recognizer.Stringp o state h = (truth_of by_number (recognized by_number recognizer.Stringp o), refl, truth_says (recognized by_number recognizer.Stringp o))
  predicate_says f recognizer.Consp o state h = (truth_of by_number (recognized by_number recognizer.Consp o), refl, truth_says (recognized by_number recognizer.Consp o))
  predicate_says f recognizer.Atom o state h = (truth_of by_number (recognized by_number recognizer.Atom o), refl, truth_says (recognized by_number recognizer.Atom o))
  predicate_says f recognizer.Null o state h = (truth_of by_number (recognized by_number recognizer.Null o), refl, truth_says (recognized by_number recognizer.Null o))
  predicate_says f recognizer.Booleanp o state h = (truth_of by_number (recognized by_number recognizer.Booleanp o), refl, truth_says (recognized by_number recognizer.Booleanp o))
  predicate_says f recognizer.Not o state h = absurd h
  predicate_says f recognizer.Integerp o state h = absurd h
  predicate_says f recognizer.Natp o state h = absurd h
  predicate_says f recognizer.Posp o state h = absurd h
  predicate_says f recognizer.TrueListp o state h = absurd h
  predicate_says f recognizer.Alistp o state h = absurd h
  predicate_says f recognizer.Endp o state h = absurd h
  predicate_says f recognizer.Zerop o state h = absurd h
  predicate_says f recognizer.Zp o state h = absurd h
  predicate_says f recognizer.Zip o state h = absurd h

  integerp_says : (f : ℕ) (o : Object ℕ) (state : State ℕ) → Says (is_integer o) (checked_primitive packages f (Recognizer recognizer.Integerp) (Plain o ∷ []) state)
  unfolding applied_to bounded guard recognizer_guard wanted recognized
  integerp_says f o state = (truth_of by_number (is_integer o), refl, truth_says (is_integer o))

  negation_says : (f : ℕ) (b : Bool) (v : Object ℕ) (state : State ℕ) → is_nil by_number v ≡ not b → Says (not b) (checked_primitive packages f (Recognizer recognizer.Not) (Plain v ∷ []) state)
  unfolding applied_to bounded guard recognizer_guard wanted recognized
  negation_says f b v state e = (truth_of by_number (is_nil by_number v), refl, truth_says (is_nil by_number v) ∙ ap not e)

  below_says : (f : ℕ) (m n : ℤ) (state : State ℕ) → Says (int_lt m n) (checked_primitive packages f (Relation relation.Below) (Plain (Integer m) ∷ Plain (Integer n) ∷ []) state)
  unfolding applied_to bounded guard relation_guard wanted related
  below_says f m n state = (truth_of by_number (int_lt m n), refl, truth_says (int_lt m n))

  member_says : (f : ℕ) (o l : Object ℕ) (state : State ℕ) → is_true_list by_number l ≡ true → Says (is_member by_number o l) (checked_primitive packages f (Listing listing.Member) (Plain o ∷ Plain l ∷ []) state)
  unfolding applied_to bounded guard listing_guard wanted listed
  member_says f o l state e = rw e (member by_number o l, refl, found_member o l)

-- ---- forms

module _ (w : World) (packages : List Package) (limit : ℕ) (variables : Variables ℕ) where
  abbrev run : ℕ → Core → State ℕ → Outcome ℕ
  run d f state = evaluated (checked_rules w packages limit) d f variables state

  -- a form says b at every depth and in every state
  abbrev AlwaysSays : Bool → Core → Type 0
  AlwaysSays b f = (d : ℕ) (state : State ℕ) → Says b (run d f state)

  -- a leaf has its value
  leaf_value : (d : ℕ) (x : Core) (o : Object ℕ) (state : State ℕ) → leaf (checked_rules w packages limit) x variables ≡ Some (Plain o) → run d x state ≡ Gives (Plain o ∷ []) state
  unfolding evaluated
  leaf_value zero x o state e = rw e refl
  leaf_value (suc d) x o state e = rw e refl

  true_says : AlwaysSays true true_core
  true_says d state = rw (leaf_value d true_core (Symbol truth) state refl) (Symbol truth, refl, refl)

  false_says : AlwaysSays false false_core
  false_says d state = rw (leaf_value d false_core (Symbol nil) state refl) (Symbol nil, refl, refl)

  primitive_called : (d f : ℕ) (p : Prim) (b : Bool) (values : List (Shown ℕ)) (state : State ℕ) → Stands w f p
      → ((after : State ℕ) → Says b (checked_primitive packages f p values after)) → Says b (called (checked_rules w packages limit) (evaluated (checked_rules w packages limit) d) f values state)
  unfolding called
  primitive_called d f p b values state s h = rw s.found (says_counting b limit state _ (λ after. subst (λ q. Says b (checked_primitive packages f q values after)) (sym s.prim) (h after)))

  one_leaf : (f : ℕ) (p : Prim) (b : Bool) (x : Core) (o : Object ℕ) → Stands w f p → leaf (checked_rules w packages limit) x variables ≡ Some (Plain o)
      → ((after : State ℕ) → Says b (checked_primitive packages f p (Plain o ∷ []) after)) → AlwaysSays b (call_core f (x ∷ []))
  unfolding evaluated in_order
  one_leaf f p b x o s e h zero state = tt
  one_leaf f p b x o s e h (suc d) state = rw (leaf_value d x o state e) (primitive_called d f p b (Plain o ∷ []) state s h)

  two_leaves : (f : ℕ) (p : Prim) (b : Bool) (x y : Core) (o q : Object ℕ) → Stands w f p
      → leaf (checked_rules w packages limit) x variables ≡ Some (Plain o) → leaf (checked_rules w packages limit) y variables ≡ Some (Plain q)
      → ((after : State ℕ) → Says b (checked_primitive packages f p (Plain o ∷ Plain q ∷ []) after)) → AlwaysSays b (call_core f (x ∷ y ∷ []))
  unfolding evaluated in_order
  two_leaves f p b x y o q s e g h zero state = tt
  two_leaves f p b x y o q s e g h (suc d) state = rw (leaf_value d x o state e, leaf_value d y q state g) (primitive_called d f p b (Plain o ∷ Plain q ∷ []) state s h)

  not_says : (b : Bool) (a : Core) → Stands w not_word (Recognizer recognizer.Not) → AlwaysSays b a → AlwaysSays (not b) (not_core a)
  unfolding evaluated in_order
  not_says b a s h zero state = tt
  not_says b a s h (suc d) state = after_test (run d a state) (h d state)
    where
      after_test : (e : Outcome ℕ) → Says b e
          → Says (not b) (then_with e (λ values after. called (checked_rules w packages limit) (evaluated (checked_rules w packages limit) d) not_word ([] ++ single by_number values ∷ []) after))
      after_test (Gives values after) q = rw q.1 (primitive_called d not_word (Recognizer recognizer.Not) (not b) (Plain q.0 ∷ []) after s (λ last. negation_says packages not_word b q.0 last q.2))
      after_test (Stops stop inside after) q = q
      after_test Unknown q = absurd q

  if_says : (b c : Bool) (f g h : Core) → AlwaysSays b f → (Holds b → AlwaysSays c g) → (Holds (not b) → AlwaysSays c h) → AlwaysSays c (If f g h)
  unfolding evaluated
  if_says b c f g h hf hg hh zero state = tt
  if_says b c f g h hf hg hh (suc d) state = after_test (run d f state) (hf d state)
    where
      branch : (q : Bool) → (Holds q → AlwaysSays c g) → (Holds (not q) → AlwaysSays c h) → (after : State ℕ) → Says c (run d (if not q then h else g) after)
      branch true first second after = first tt d after
      branch false first second after = second tt d after

      after_test : (e : Outcome ℕ) → Says b e → Says c (then_with e (λ values after. run d (if is_false (checked_rules w packages limit) values then h else g) after))
      after_test (Gives values after) q = rw (q.1, q.2) (branch b hg hh after)
      after_test (Stops stop inside after) q = q
      after_test Unknown q = absurd q

  and_says : (b c : Bool) (f g : Core) → AlwaysSays b f → (Holds b → AlwaysSays c g) → AlwaysSays (b && c) (and_core f g)
  and_says true c f g hf hg = if_says true c f g false_core hf hg (λ n. absurd n)
  and_says false c f g hf hg = if_says false false f g false_core hf (λ n. absurd n) (λ n. false_says)

  or_says : (b c : Bool) (f g : Core) → AlwaysSays b f → AlwaysSays c g → AlwaysSays (b || c) (If f true_core g)
  or_says true c f g hf hg = if_says true true f true_core g hf (λ n. true_says) (λ n. absurd n)
  or_says false c f g hf hg = if_says false c f true_core g hf (λ n. absurd n) (λ n. hg)

  -- ---- types

  module _ (s : HasTestFunctions w) (x : Core) (o : Object ℕ) (e : leaf (checked_rules w packages limit) x variables ≡ Some (Plain o)) where
    integer_says : AlwaysSays (is_integer o) (integer_test x)
    integer_says = one_leaf integerp_word (Recognizer recognizer.Integerp) (is_integer o) x o s.integerp e (integerp_says packages integerp_word o)

  module _ (s : HasTestFunctions w) (x : Core) (n : ℤ) (e : leaf (checked_rules w packages limit) x variables ≡ Some (Plain (Integer n))) where
    low_says : (low : ℤ) → AlwaysSays (not (int_lt n low)) (low_test low x)
    low_says low = not_says (int_lt n low) _ s.negation (two_leaves below_word (Relation relation.Below) (int_lt n low) x (Const (Integer low)) (Integer n) (Integer low) s.below e refl (below_says packages below_word n low))

    high_says : (high : ℤ) → AlwaysSays (not (int_lt high n)) (high_test high x)
    high_says high = not_says (int_lt high n) _ s.negation (two_leaves below_word (Relation relation.Below) (int_lt high n) (Const (Integer high)) x (Integer high) (Integer n) s.below refl e (below_says packages below_word high n))

    range_says : (low high : Option ℤ) → AlwaysSays (is_least low n && is_greatest high n) (range_test low high x)
    range_says None None = integer_says s x (Integer n) e
    range_says (Some low) None = subst (λ b. AlwaysSays b (range_test (Some low) None x)) (and_true (not (int_lt n low)))
        (and_says true (not (int_lt n low)) _ _ (integer_says s x (Integer n) e) (λ h. low_says low))
    range_says None (Some high) = and_says true (not (int_lt high n)) _ _ (integer_says s x (Integer n) e) (λ h. high_says high)
    range_says (Some low) (Some high) =
        and_says true (not (int_lt n low) && not (int_lt high n)) _ _ (integer_says s x (Integer n) e)
        (λ h. and_says (not (int_lt n low)) (not (int_lt high n)) _ _ (low_says low) (λ k. high_says high))

  -- a stobj that is no integer is in no range
  outside_says : HasTestFunctions w → (x : Core) (o : Object ℕ) (low high : Option ℤ) → leaf (checked_rules w packages limit) x variables ≡ Some (Plain o) → is_integer o ≡ false → AlwaysSays false (range_test low high x)
  outside_says s x o low high e n = by_ends low high
    where
      no_integer : AlwaysSays false (integer_test x)
      no_integer = subst (λ b. AlwaysSays b (integer_test x)) n (integer_says s x o e)

      by_ends : (low high : Option ℤ) → AlwaysSays false (range_test low high x)
      by_ends None None = no_integer
      by_ends (Some low) None = and_says false true _ _ no_integer (λ h. absurd h)
      by_ends None (Some high) = and_says false true _ _ no_integer (λ h. absurd h)
      by_ends (Some low) (Some high) = and_says false true _ _ no_integer (λ h. absurd h)

  integers_say : HasTestFunctions w → (x : Core) (o : Object ℕ) (low high : Option ℤ) → leaf (checked_rules w packages limit) x variables ≡ Some (Plain o) → AlwaysSays (meets by_number (Integers low high) o) (range_test low high x)
  integers_say s x (Integer n) low high e = range_says s x n e low high
  integers_say s x (Symbol t) low high e = outside_says s x (Symbol t) low high e refl
  integers_say s x (Text bytes) low high e = outside_says s x (Text bytes) low high e refl
  integers_say s x (Pair a d) low high e = outside_says s x (Pair a d) low high e refl

  predicate_stands : HasTestFunctions w → (r : OneRecognizer) → IsPredicate r → Stands w (predicate r) (Recognizer r)
  predicate_stands s recognizer.Symbolp h = s.symbolp
  predicate_stands s recognizer.Stringp h = s.stringp
  predicate_stands s recognizer.Consp h = s.consp
  predicate_stands s recognizer.Atom h = s.atom
  predicate_stands s recognizer.Null h = s.null
  predicate_stands s recognizer.Booleanp h = s.booleanp
  predicate_stands s recognizer.Not h = absurd h
  predicate_stands s recognizer.Integerp h = absurd h
  predicate_stands s recognizer.Natp h = absurd h
  predicate_stands s recognizer.Posp h = absurd h
  predicate_stands s recognizer.TrueListp h = absurd h
  predicate_stands s recognizer.Alistp h = absurd h
  predicate_stands s recognizer.Endp h = absurd h
  predicate_stands s recognizer.Zerop h = absurd h
  predicate_stands s recognizer.Zp h = absurd h
  predicate_stands s recognizer.Zip h = absurd h

  module _ (s : HasTestFunctions w) (x : Core) (o : Object ℕ) (e : leaf (checked_rules w packages limit) x variables ≡ Some (Plain o)) where
    either_says : (b : Bool) (u : ValueType ℕ) (f : Core) → AlwaysSays b f → AlwaysSays (meets by_number u o) (test_of x u) → AlwaysSays (b || meets by_number u o) (either_test (is_nothing u) f (test_of x u))
    either_says b Nothing f h k = subst (λ c. AlwaysSays c f) (or_false b) h
    either_says b u f h k = or_says b (meets by_number u o) f (test_of x u) h k

    both_says : (b : Bool) (u : ValueType ℕ) (f : Core) → AlwaysSays b f → AlwaysSays (meets by_number u o) (test_of x u) → AlwaysSays (b && meets by_number u o) (both_test (is_anything u) f (test_of x u))
    both_says b Anything f h k = subst (λ c. AlwaysSays c f) (and_true b) h
    both_says b u f h k = and_says b (meets by_number u o) f (test_of x u) h (λ n. k)

    type_says : (t : ValueType ℕ) → IsWritten t → AlwaysSays (meets by_number t o) (test_of x t)
    type_says Anything h = true_says
    type_says Nothing h = false_says
    type_says (Integers low high) h = integers_say s x o low high e
    type_says (Recognized r) h = one_leaf (predicate r) (Recognizer r) (recognized by_number r o) x o (predicate_stands s r h) e (λ after. predicate_says packages (predicate r) r o after h)
    type_says (OneOf l) h = two_leaves member_equal_word (Listing listing.Member) (is_member by_number o l) x (Const l) o l s.member e refl (λ after. member_says packages member_equal_word o l after h)
    type_says (Either a b) h = either_says (meets by_number a o) b (test_of x a) (type_says a h.0) (type_says b h.1)
    type_says (Both a b) h = both_says (meets by_number a o) b (test_of x a) (type_says a h.0) (type_says b h.1)
    type_says (Other a) h = not_says (meets by_number a o) (test_of x a) s.negation (type_says a h)

pub tests_say : TestsSay
tests_say = record { says = λ w packages limit depth t x o variables state s h e. type_says w packages limit variables s x o e t h depth state }
