-- The obligations of an abstract stobj (ACL2's manual, topic DEFABSSTOBJ): what each claims and its printed form, in the order
-- in which they are printed.
use Rattle.std.specs.Prelude.{ℕ, ◌+◌, List, [], ◌∷◌, ◌++◌, map, length, pos, Bool, true, false, not, ◌&&◌, Option, Some, None, nat_eq, nat_le, codes, if◌then◌else◌}
use Rattle.std.specs.Option.{option_or}
use Rattle.std.specs.List.{zip, find, list_any}
use Rattle.model_objects.specs.Object.{Object, Integer, Symbol, Pair, weight, max_weight}
use Rattle.model_symbols.specs.Symbols.{QualifiedName}
use Rattle.model_symbols.specs.Opening.{quote, truth}
use Rattle.model_lists.specs.Types.{and_word}
use Rattle.model_terms.specs.Cores.{Core, Cores, none, more, Var, Const, If, Let, Mv, MvLet, StobjLet, WithLocal, MustBeEqual, Call, cores}
use Rattle.model_terms.specs.Worlds.{World, Out, Ordinary, Stobj, Signature, Function, AbstractFunction, AbstractDescriptor, GeneratedFunction, Definition, Defined, Generated, definition}
use Rattle.model_terms.specs.Nested.{is_stobj}
use Rattle.model_expansion.specs.Words.{if_word, let_word, mv_word, mv_let_word, with_local_word, must_be_equal_word, implies_word, equal_word, nth_word}
use Rattle.model_expansion.specs.Forms.{list, symbol_name}
use Rattle.model_expansion.specs.TypeTerms.{true_core, false_core}
use Rattle.model_expansion.specs.Faults.{Refusal, TooLarge}
use Rattle.model_stobjs.specs.Guards.{renamed_core, generated_guard}
use Rattle.model_stobjs.specs.Abstracts.{signature, formals, with_stobj_named, export_formals, logic_guard}
use Rattle.model_eval.specs.Evaluated.{stobj_let_word}

-- ---- core forms as objects

abbrev pub quoted : Object ℕ → Object ℕ
quoted o = list (Symbol quote ∷ o ∷ [])

abbrev pub symbols_list : List ℕ → Object ℕ
symbols_list xs = list (map (λ x. Symbol x) xs)

-- a call, a constant in its quotes
unfoldable mutual
  pub core_object : Core → Object ℕ
  core_object (Var x) = Symbol x
  core_object (Const o) = quoted o
  core_object (If a b c) = list (Symbol if_word ∷ core_object a ∷ core_object b ∷ core_object c ∷ [])
  core_object (Let names bound body) = list (Symbol let_word ∷ list (binding_objects bound names) ∷ core_object body ∷ [])
  core_object (Mv parts) = list (Symbol mv_word ∷ core_objects parts)
  core_object (MvLet names bound body) = list (Symbol mv_let_word ∷ symbols_list names ∷ core_object bound ∷ core_object body ∷ [])
  core_object (StobjLet names bound vars producer consumer) =
      list (Symbol stobj_let_word ∷ list (binding_objects bound names) ∷ symbols_list vars ∷ core_object producer ∷ core_object consumer ∷ [])
  core_object (WithLocal stobj names producer body) =
      list (Symbol with_local_word ∷ Symbol stobj ∷ list (Symbol mv_let_word ∷ symbols_list names ∷ core_object producer ∷ core_object body ∷ []) ∷ [])
  core_object (MustBeEqual logic exec) = list (Symbol must_be_equal_word ∷ core_object logic ∷ core_object exec ∷ [])
  core_object (Call f actuals) = list (Symbol f ∷ core_objects actuals)

  pub core_objects : Cores → List (Object ℕ)
  core_objects none = []
  core_objects (more f fs) = core_object f ∷ core_objects fs

  pub binding_objects : Cores → List ℕ → List (Object ℕ)
  binding_objects none names = []
  binding_objects (more f fs) [] = []
  binding_objects (more f fs) (x ∷ xs) = list (Symbol x ∷ core_object f ∷ []) ∷ binding_objects fs xs

-- ---- forms

abbrev pub call : ℕ → List (Object ℕ) → Object ℕ
call f os = list (Symbol f ∷ os)

abbrev pub is_true_core : Core → Bool
is_true_core (Const (Symbol s)) = nat_eq s truth
is_true_core f = false

abbrev pub implies : Object ℕ → Object ℕ → Object ℕ
implies h c = call implies_word (h ∷ c ∷ [])

-- ---- core forms that all hold

-- one form, or all of several
abbrev pub all_object : List Core → Object ℕ
all_object [] = call and_word []
all_object (f ∷ []) = core_object f
all_object (f ∷ (g ∷ fs)) = call and_word (map core_object (f ∷ (g ∷ fs)))

-- the core form that the printed form expands to
abbrev pub all_core : List Core → Core
all_core [] = true_core
all_core (f ∷ []) = f
all_core (f ∷ (g ∷ fs)) = If f (all_core (g ∷ fs)) false_core

-- also that a guard holds, where it asks anything
abbrev pub and_guard : Core → Core → List Core
and_guard h g = if is_true_core g then h ∷ [] else h ∷ g ∷ []

abbrev pub call_of : ℕ → List Core → Core
call_of f fs = Call f (cores fs)

abbrev pub part_of : ℕ → Core → Core
part_of i f = call_of nth_word (Const (Integer (pos i)) ∷ f ∷ [])

-- ---- an obligation: whose it is, what it claims, its name, what is supposed, and what follows; all of the one, all of the other

pub data Claim : Type 0 where
  Correspondence : Claim
  GuardTheorem : Claim
  Preserved : Claim

abbrev pub suffix_of : Claim → List ℕ
suffix_of Correspondence = codes "{CORRESPONDENCE}"
suffix_of GuardTheorem = codes "{GUARD-THM}"
suffix_of Preserved = codes "{PRESERVED}"

pub record Obligation : Type 0 where
  pub owner : ℕ
  pub claim : Claim
  pub name : List ℕ
  pub supposed : List Core
  pub follows : List Core

abbrev pub supposing : List Core → Object ℕ → Object ℕ
supposing [] c = c
supposing (h ∷ hs) c = implies (all_object (h ∷ hs)) c

-- the form that is printed
abbrev pub obligation_form : Obligation → Object ℕ
obligation_form o = supposing o.supposed (all_object o.follows)

module _ (w : World) (symbols : List QualifiedName) (d : AbstractDescriptor) where
  abbrev pub obligation : ℕ → Claim → List Core → List Core → Obligation
  obligation owner claim supposed follows = record {
    owner = owner;
    claim = claim;
    name = symbol_name symbols owner ++ suffix_of claim;
    supposed = supposed;
    follows = follows;
  }

  abbrev pub corresponds : Core → Core → Core
  corresponds c a = call_of d.corr (c ∷ a ∷ [])

  abbrev pub is_well_formed : Core → Core
  is_well_formed a = call_of d.recognizer.logic (a ∷ [])

  abbrev pub st : Core
  st = Var d.name

  -- the logic formals with the foundation's name where the stobj stands
  abbrev pub exec_actuals : AbstractFunction → List ℕ
  exec_actuals f = with_stobj_named w d.foundation (signature w f.exec).ins (formals w f.logic)

  abbrev pub logic_call : AbstractFunction → Core
  logic_call f = call_of f.logic (map Var (export_formals w d f))

  abbrev pub exec_call : AbstractFunction → Core
  exec_call f = call_of f.exec (map Var (exec_actuals f))

  -- the lists correspond, and the logic guard holds
  abbrev pub hypothesis : AbstractFunction → List Core
  hypothesis f = and_guard (corresponds (Var d.foundation) st) (logic_guard w d f)

  abbrev pub output_equation : Out → Core → Core → Core
  output_equation Ordinary a c = call_of equal_word (a ∷ c ∷ [])
  output_equation (Stobj x) a c = corresponds c a

  abbrev pub output_equations : ℕ → List Out → Core → Core → List Core
  output_equations i [] a c = []
  output_equations i (o ∷ os) a c = output_equation o (part_of i a) (part_of i c) ∷ output_equations (i + 1) os a c

  -- one output, or all of several
  abbrev pub outputs_correspond : List Out → Core → Core → List Core
  outputs_correspond [] a c = []
  outputs_correspond (o ∷ []) a c = output_equation o a c ∷ []
  outputs_correspond (o ∷ (q ∷ os)) a c = output_equations 0 (o ∷ (q ∷ os)) a c

  -- the exec function's guard, over the logic formals and the foundation
  abbrev pub exec_guard_of : AbstractFunction → Option Definition → Core
  exec_guard_of f (Some (Defined e)) = renamed_core e.guard (zip e.formals (exec_actuals f))
  exec_guard_of f (Some (Generated g)) = generated_guard w g (map Var (exec_actuals f))
  exec_guard_of f e = true_core

  abbrev pub guard_obligation : AbstractFunction → Core → List Obligation
  guard_obligation f e = if is_true_core e then [] else obligation f.name GuardTheorem (hypothesis f) (e ∷ []) ∷ []

  -- the value is a list of the stobj, from the place where it stands among the outputs
  abbrev pub preserved_from : ℕ → Bool → List Out → Core → List Core
  preserved_from i alone [] a = []
  preserved_from i alone (Ordinary ∷ os) a = preserved_from (i + 1) alone os a
  preserved_from i alone (Stobj x ∷ os) a = is_well_formed (if alone then a else part_of i a) ∷ []

  abbrev pub preserved_obligation : AbstractFunction → List Core → List Obligation
  preserved_obligation f [] = []
  preserved_obligation f (c ∷ cs) = obligation f.name Preserved (and_guard (is_well_formed st) (logic_guard w d f)) (c ∷ []) ∷ []

  abbrev pub export_obligations : AbstractFunction → List Obligation
  export_obligations f =
      let outs = (signature w f.exec).outs in
      obligation f.name Correspondence (hypothesis f) (outputs_correspond outs (logic_call f) (exec_call f))
      ∷ (guard_obligation f (exec_guard_of f (definition w f.exec))
      ++ preserved_obligation f (preserved_from 0 (nat_eq (length outs) 1) outs (logic_call f)))

  abbrev pub all_export_obligations : List AbstractFunction → List Obligation
  all_export_obligations [] = []
  all_export_obligations (f ∷ fs) = export_obligations f ++ all_export_obligations fs

  abbrev pub creator_obligations : List Obligation
  creator_obligations =
      obligation d.creator.name Correspondence [] (corresponds (call_of d.creator.exec []) (call_of d.creator.logic []) ∷ [])
      ∷ obligation d.creator.name Preserved [] (is_well_formed (call_of d.creator.logic []) ∷ []) ∷ []

  -- all in order
  unfoldable pub obligations : List Obligation
  obligations = creator_obligations ++ all_export_obligations d.exports

-- the first that is too heavy
abbrev pub too_large : List Obligation → Option Refusal
too_large [] = None
too_large (o ∷ os) = if nat_le (weight (obligation_form o)) max_weight then too_large os else Some (TooLarge o.owner)
