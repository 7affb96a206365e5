-- Whole definitions: signatures found in rounds, and first faults with their numbers.
use Rattle.std.specs.Prelude.{◌≡◌, ℕ, List, [], ◌∷◌, ◌++◌, map, true, false, Option, Some, None}
use Rattle.std.specs.List.{zip}
use Rattle.model_terms.specs.Cores.{Core, If, Let, Mv, MvLet, StobjLet, cores}
use Rattle.model_terms.specs.Worlds.{World, Definition, Named, Signed, Out, Stobj, Signature, MacroFormals, OptionalFormal}
use Rattle.model_terms.specs.declared.rule.Rule.TheVariants.{S1, S2, S3, S4, S7, S8, S9, S10, S11, S13, S15, S16}
use Rattle.model_terms.specs.Outputs.{outputs}
use Rattle.model_terms.specs.Rounds.{Member, clique}
use Rattle.model_terms.specs.Faults.{Fault, clique_fault, macro_fault, constant_fault, expression_fault}
use Rattle.model_terms_rows.specs.Book.{book, st, st2, kid, kid2, par, get_a, update_a, update_b, both, ki, pop, pair, pick, u, v, x, y, i, var, number, null_object, null, call, o, takes, all_objects, of_value}
use Rattle.model_terms_rows.specs.Examples.{holds, fault}

-- ---- functions of a clique, which stand in no world

abbrev pub up : ℕ
up = 81

abbrev pub down : ℕ
down = 82

abbrev pub last : ℕ
last = 83

abbrev pub member : ℕ → List ℕ → List ℕ → Core → Member
member name formals stobjs body = record { name = name; formals = formals; stobjs = stobjs; guard = null; body = body }

abbrev pub guarded : Member → Core → Member
guarded m guard = record m { guard = guard }

-- while their signatures are sought functions stand by name and formals
abbrev pub named : List Member → World
named ms = map (λ (m : Member). Named m.name m.formals) ms

abbrev pub signed : List Member → List Signature → World
signed ms signatures = map (λ (p : Member × Signature). Signed p.0.name p.0.formals p.1 true) (zip ms signatures)

-- a function that does not run
abbrev pub unrunnable : ℕ → List ℕ → Definition
unrunnable name formals = Signed name formals (takes (map (λ x. o) formals) (o ∷ [])) false

-- functions that run, with some that do not, which stand with their signatures from the beginning
pub record CliqueExample : Type 0 where
  pub beside : World
  pub members : List Member
  pub signatures : List Signature
  pub all : List Member  -- all functions, in the order of text
  pub answer : Option Fault

abbrev pub signatures_of : CliqueExample → List Signature
signatures_of e = clique (book ++ (e.beside ++ named e.members)) e.members

abbrev pub fault_of : CliqueExample → Option Fault
fault_of e = clique_fault (book ++ (e.beside ++ signed e.members (signatures_of e))) 0 e.all

pub record AreAdmitted (examples : List CliqueExample) : Type 0 where
  pub signatures : map signatures_of examples ≡ map (λ (e : CliqueExample). e.signatures) examples
  pub answers : map fault_of examples ≡ map (λ (e : CliqueExample). e.answer) examples

abbrev pub functions : List Member → List Signature → Option Fault → CliqueExample
functions ms signatures answer = record { beside = []; members = ms; signatures = signatures; all = ms; answer = answer }

-- ---- signatures

-- `(defun up (x st) (declare (xargs :stobjs st)) (if x (let ((st (update-a 1 st))) (up x st)) st))`
abbrev pub counting : Member
counting = member up (x ∷ st ∷ []) (st ∷ []) (If (var x) (Let (st ∷ []) (cores (call update_a (number 1 ∷ var st ∷ []) ∷ [])) (call up (var x ∷ var st ∷ []))) (var st))

-- `(defun down (x st) (declare (xargs :stobjs st)) (if x (up x st) (down x st)))`
abbrev pub going_down : Member
going_down = member down (x ∷ st ∷ []) (st ∷ []) (If (var x) (call up (var x ∷ var st ∷ [])) (call down (var x ∷ var st ∷ [])))

abbrev pub on_st : List Out → Signature
on_st outs = takes (o ∷ Stobj st ∷ []) outs

abbrev pub rounds_examples : List CliqueExample
rounds_examples =
    -- its second branch makes its outputs known
    functions (counting ∷ []) (on_st (Stobj st ∷ []) ∷ []) holds
    -- `(defun up (x) (up x))` stays unknown, so it has one ordinary output
    ∷ functions (member up (x ∷ []) [] (call up (var x ∷ [])) ∷ []) (takes (o ∷ []) (o ∷ []) ∷ []) holds
    -- down is known in the round after up
    ∷ functions (counting ∷ going_down ∷ []) (on_st (Stobj st ∷ []) ∷ on_st (Stobj st ∷ []) ∷ []) holds
    ∷ functions (going_down ∷ counting ∷ []) (on_st (Stobj st ∷ []) ∷ on_st (Stobj st ∷ []) ∷ []) holds
    -- rounds are simultaneous: when last becomes known up is not, so `(if x (up x st) 5)` takes the outputs of 5, and then its branches differ
    ∷ functions (counting ∷ member last (x ∷ st ∷ []) (st ∷ []) (If (var x) (call up (var x ∷ var st ∷ [])) (number 5)) ∷ [])
    (on_st (Stobj st ∷ []) ∷ on_st (o ∷ []) ∷ []) (fault S7 (1 ∷ 1 ∷ []))
    -- renamed: `(defun down (st2) (up 1 st2))`
    ∷ functions (counting ∷ member down (st2 ∷ []) (st2 ∷ []) (call up (number 1 ∷ var st2 ∷ [])) ∷ [])
    (on_st (Stobj st ∷ []) ∷ takes (Stobj st2 ∷ []) (Stobj st2 ∷ []) ∷ []) holds
    -- each waits for the other
    ∷ functions (member up (x ∷ []) [] (call down (var x ∷ [])) ∷ member down (x ∷ []) [] (call up (var x ∷ [])) ∷ [])
    (takes (o ∷ []) (o ∷ []) ∷ takes (o ∷ []) (o ∷ []) ∷ []) holds
    -- two values: `(defun up (x st) (mv x st))`, `(defun down (x st) (mv-let (v st) (up x st) (mv v x st)))`
    ∷ functions
    (member up (x ∷ st ∷ []) (st ∷ []) (Mv (cores (var x ∷ var st ∷ [])))
    ∷ member down (x ∷ st ∷ []) (st ∷ []) (MvLet (v ∷ st ∷ []) (call up (var x ∷ var st ∷ [])) (Mv (cores (var v ∷ var x ∷ var st ∷ [])))) ∷ [])
    (on_st (o ∷ Stobj st ∷ []) ∷ on_st (o ∷ o ∷ Stobj st ∷ []) ∷ []) holds
    ∷ []

-- ---- S10, and the order of places

-- `(defun up (st) (declare (xargs :stobjs st)) (a st))`
abbrev pub reading : Member
reading = member up (st ∷ []) (st ∷ []) (call get_a (var st ∷ []))

abbrev pub reads : List Signature
reads = takes (Stobj st ∷ []) (o ∷ []) ∷ []

abbrev pub head_examples : List CliqueExample
head_examples =
    functions (reading ∷ []) reads holds
    -- a stobj that is not declared is ordinary, and S10 comes before what is then wrong in the body
    ∷ functions (member up (st ∷ []) [] (call get_a (var st ∷ [])) ∷ []) (takes (o ∷ []) (o ∷ []) ∷ []) (fault S10 (0 ∷ []))
    -- a declared name that is no formal, or no stobj
    ∷ functions (member up (st ∷ []) (st ∷ st2 ∷ []) (call get_a (var st ∷ [])) ∷ []) reads (fault S10 (0 ∷ []))
    ∷ functions (member up (x ∷ []) (x ∷ []) (var x) ∷ []) (takes (o ∷ []) (o ∷ []) ∷ []) (fault S10 (0 ∷ []))
    ∷ functions (member up (x ∷ []) (u ∷ []) (var x) ∷ []) (takes (o ∷ []) (o ∷ []) ∷ []) (fault S10 (0 ∷ []))
    -- S10 of a later function comes after the faults of an earlier one
    ∷ functions (member up (x ∷ []) [] (var y) ∷ member down (st ∷ []) [] null ∷ []) (takes (o ∷ []) (o ∷ []) ∷ takes (o ∷ []) (o ∷ []) ∷ []) (fault S11 (0 ∷ 1 ∷ []))
    ∷ functions (member up (x ∷ []) [] (var x) ∷ member down (st ∷ []) [] null ∷ []) (takes (o ∷ []) (o ∷ []) ∷ takes (o ∷ []) (o ∷ []) ∷ []) (fault S10 (1 ∷ []))
    -- the guard comes before the body, and expects one ordinary output
    ∷ functions (guarded reading (call pair (number 1 ∷ var st ∷ [])) ∷ []) reads (fault S3 (0 ∷ 0 ∷ 1 ∷ []))
    ∷ functions (guarded reading (var st) ∷ []) reads (fault S3 (0 ∷ 0 ∷ []))
    ∷ functions (guarded (member up (x ∷ []) [] (var y)) (var u) ∷ []) (takes (o ∷ []) (o ∷ []) ∷ []) (fault S11 (0 ∷ 0 ∷ []))
    ∷ functions (guarded reading (call get_a (var st ∷ [])) ∷ []) reads holds
    -- `(defun up (par) (declare (xargs :stobjs par)) (stobj-let ((kid (ki 1 par)) (kid2 (ki 1 par))) (kid) kid par))`
    ∷ functions
    (member up (par ∷ []) (par ∷ [])
    (StobjLet (kid ∷ kid2 ∷ []) (cores (call ki (number 1 ∷ var par ∷ []) ∷ call ki (number 1 ∷ var par ∷ []) ∷ [])) (kid ∷ []) (var kid) (var par)) ∷ [])
    (takes (Stobj par ∷ []) (Stobj par ∷ []) ∷ []) (fault S13 (0 ∷ 1 ∷ []))
    -- `(defun up (st st2) (declare (xargs :stobjs (st st2))) (let ((st (update-a 7 st))) (let ((st2 (update-b 8 st2))) (mv st st2))))`
    ∷ functions
    (member up (st ∷ st2 ∷ []) (st ∷ st2 ∷ [])
    (Let (st ∷ []) (cores (call update_a (number 7 ∷ var st ∷ []) ∷ []))
    (Let (st2 ∷ []) (cores (call update_b (number 8 ∷ var st2 ∷ []) ∷ [])) (Mv (cores (var st ∷ var st2 ∷ []))))) ∷ [])
    (takes (Stobj st ∷ Stobj st2 ∷ []) (Stobj st ∷ Stobj st2 ∷ []) ∷ []) holds
    ∷ []

-- ---- functions that do not run, beside those that do

abbrev pub unrunnable_examples : List CliqueExample
unrunnable_examples =
    -- S10 is not tested there, and the stobjs that it declares are ordinary
    record {
      beside = unrunnable up (st ∷ []) ∷ [];
      members = [];
      signatures = [];
      all = member up (st ∷ []) [] (call pop (call update_a (number 1 ∷ var st ∷ []) ∷ [])) ∷ [];
      answer = holds;
    }
    ∷ record { beside = unrunnable up (x ∷ []) ∷ []; members = []; signatures = []; all = member up (x ∷ []) (x ∷ []) (call pair (var x ∷ var y ∷ [])) ∷ []; answer = fault S11 (0 ∷ 1 ∷ 1 ∷ []) }
    ∷ record { beside = unrunnable up (x ∷ []) ∷ []; members = []; signatures = []; all = guarded (member up (x ∷ []) [] (var x)) (var y) ∷ []; answer = fault S11 (0 ∷ 0 ∷ []) }
    -- a function that runs may not call it, but the other way round
    ∷ record {
      beside = unrunnable up (x ∷ []) ∷ [];
      members = member down (x ∷ []) [] (call up (var x ∷ [])) ∷ [];
      signatures = takes (o ∷ []) (o ∷ []) ∷ [];
      all = member up (x ∷ []) [] (call down (var x ∷ [])) ∷ member down (x ∷ []) [] (call up (var x ∷ [])) ∷ [];
      answer = fault S16 (1 ∷ 1 ∷ []);
    }
    ∷ []

-- ---- macros and constants

pub record MacroExample : Type 0 where
  pub formals : MacroFormals
  pub body : Core
  pub answer : Option Fault

abbrev pub required : List ℕ → MacroFormals
required names = record { required = names; optional = []; rest = None; keys = None }

abbrev pub optional : ℕ → Option ℕ → OptionalFormal
optional name supplied = record { name = name; default = null_object; supplied = supplied }

pub record AreMacros (examples : List MacroExample) : Type 0 where
  pub answers : map (λ (e : MacroExample). macro_fault book e.formals e.body) examples ≡ map (λ (e : MacroExample). e.answer) examples

abbrev pub macro : MacroFormals → Core → Option Fault → MacroExample
macro formals body answer = record { formals = formals; body = body; answer = answer }

abbrev pub macro_examples : List MacroExample
macro_examples =
    macro (required (x ∷ y ∷ [])) (call pair (var x ∷ var y ∷ [])) holds
    -- the name of a stobj among the formals comes before every fault of the body
    ∷ macro (required (x ∷ st ∷ [])) (var u) (fault S15 (0 ∷ []))
    ∷ macro (record { required = []; optional = optional st None ∷ []; rest = None; keys = None }) null (fault S15 (0 ∷ []))
    ∷ macro (record { required = []; optional = optional x (Some st) ∷ []; rest = None; keys = None }) null (fault S15 (0 ∷ []))
    ∷ macro (record { required = []; optional = []; rest = Some st; keys = None }) null (fault S15 (0 ∷ []))
    ∷ macro (record { required = []; optional = []; rest = None; keys = Some (optional st None ∷ []) }) null (fault S15 (0 ∷ []))
    ∷ macro (record { required = []; optional = []; rest = None; keys = Some (optional x (Some st) ∷ []) }) null (fault S15 (0 ∷ []))
    -- every formal is in scope
    ∷ macro (record { required = u ∷ []; optional = optional v None ∷ []; rest = Some x; keys = Some (optional y (Some i) ∷ []) })
    (call pair (var u ∷ call pair (var v ∷ call pair (var x ∷ call pair (var y ∷ var i ∷ []) ∷ []) ∷ []) ∷ [])) holds
    ∷ macro (required (x ∷ [])) (call pair (var x ∷ var y ∷ [])) (fault S11 (0 ∷ 1 ∷ 1 ∷ []))
    ∷ macro (required (x ∷ [])) (call get_a (var st ∷ [])) (fault S1 (0 ∷ 1 ∷ 0 ∷ []))
    ∷ macro (required (x ∷ [])) (call pair (var x ∷ var st ∷ [])) (fault S15 (0 ∷ 1 ∷ 1 ∷ []))
    ∷ []

pub record AreConstants : Type 0 where
  pub plain : constant_fault book (number 5) ≡ holds
  pub called : constant_fault book (call pair (number 1 ∷ null ∷ [])) ≡ holds
  pub unbound : constant_fault book (var x) ≡ fault S11 []
  pub of_stobj_name : constant_fault book (call pair (number 1 ∷ var st ∷ [])) ≡ fault S15 (1 ∷ [])
  pub two_values : constant_fault book (call pick (number 1 ∷ [])) ≡ fault S8 []

-- ---- expressions

pub record AreExpressions : Type 0 where
  -- `(let ((x (a st)) (st (update-a 1 st))) (mv x st))`
  pub two_bound : expression_fault book all_objects (Let (x ∷ st ∷ []) (cores (call get_a (var st ∷ []) ∷ call update_a (number 1 ∷ var st ∷ []) ∷ [])) (Mv (cores (var x ∷ var st ∷ [])))) ≡ fault S4 []
  -- `(both st2 st)`, `(both st st)`, `(mv st st)`, `(update-a 1 (update-a 2 st))`
  pub exchanged : expression_fault book all_objects (call both (var st2 ∷ var st ∷ [])) ≡ holds
  pub twice : expression_fault book all_objects (call both (var st ∷ var st ∷ [])) ≡ fault S2 []
  pub given_twice : expression_fault book all_objects (Mv (cores (var st ∷ var st ∷ []))) ≡ fault S9 []
  pub nested : expression_fault book all_objects (call update_a (number 1 ∷ call update_a (number 2 ∷ var st ∷ []) ∷ [])) ≡ fault S1 (1 ∷ [])
  -- `(mv (a st) st)`
  pub value_and_object : expression_fault book all_objects (Mv (cores (call get_a (var st ∷ []) ∷ var st ∷ []))) ≡ holds

-- ---- outputs by text

abbrev pub text : List ℕ → Core → Option (List Out)
text names f = outputs (book ++ Named up (x ∷ []) ∷ []) [] (all_objects ++ map of_value names) f

pub record AreOutputs : Type 0 where
  pub unknown : text [] (call up (number 1 ∷ [])) ≡ None
  pub other_branch : text [] (If (number 1) (call up (number 1 ∷ [])) (var st)) ≡ Some (Stobj st ∷ [])
  pub first_branch : text [] (If (number 1) (var st2) (call up (number 1 ∷ []))) ≡ Some (Stobj st2 ∷ [])
  pub out_of_scope : text [] (var x) ≡ Some (o ∷ [])
  pub parts : text (x ∷ []) (Mv (cores (var st ∷ call update_a (number 1 ∷ var st ∷ []) ∷ var x ∷ []))) ≡ Some (Stobj st ∷ o ∷ o ∷ [])
  pub renamed : text [] (call update_a (number 1 ∷ var st2 ∷ [])) ≡ Some (Stobj st2 ∷ [])
  -- no instance: the function's own names
  pub own : text [] (call update_a (number 1 ∷ var par ∷ [])) ≡ Some (Stobj st ∷ [])
  pub own_again : text [] (call update_a (number 1 ∷ call update_a (number 1 ∷ var st2 ∷ []) ∷ [])) ≡ Some (Stobj st ∷ [])
  -- congruence alone decides, so a stobj out of scope renames too
  pub unseen : outputs book [] [] (call update_a (number 1 ∷ var st2 ∷ [])) ≡ Some (Stobj st2 ∷ [])
  -- of a `STOBJ-LET`, the consumer's, where the children's names are out of scope
  pub consumer : text [] (StobjLet (kid ∷ []) (cores (call ki (number 0 ∷ var par ∷ []) ∷ [])) (kid ∷ v ∷ []) (var kid) (Mv (cores (var kid ∷ var v ∷ var par ∷ [])))) ≡ Some (o ∷ o ∷ Stobj par ∷ [])
