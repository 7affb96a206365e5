-- The definition of functions: one, or a clique (ACL2's manual, topics DEFUN, MUTUAL-RECURSION).
use Rattle.std.specs.Prelude.{ℕ, List, [], ◌∷◌, ◌++◌, map, Bool, true, false, Option, Some, None, nat_eq, option_map, option_and_then, is_some, unwrap_or, if◌then◌else◌}
use Rattle.std.specs.Option.{option_or, option_map_or}
use Rattle.std.specs.List.{filter, zip}
use Rattle.std.specs.Map.{lookup}
use Rattle.model_objects.specs.Object.{Object, Integer, Symbol, Text, Pair}
use Rattle.model_symbols.specs.Symbols.{QualifiedName, Package}
use Rattle.model_symbols.specs.Opening.{nil}
use Rattle.model_terms.specs.Cores.{Core}
use Rattle.model_terms.specs.Worlds.{World, Out, Ordinary, Signature, Function, Definition, Defined, Named, Signed}
use Rattle.model_terms.specs.Rounds.{Member, clique}
use Rattle.model_terms.specs.Faults.{Fault, clique_fault}
use Rattle.model_expansion.specs.Words.{defun_word, defund_word, defun_nx_word, mutual_recursion_word}
use Rattle.model_expansion.specs.Forms.{elements, each, is, symbol, symbol_or_nil}
use Rattle.model_expansion.specs.Faults.{Refusal, BadShape, Expand, BadDeclare, Thread}
use Rattle.model_expansion.specs.Layers.{GuardItem}
use Rattle.model_expansion.specs.Expansion.{Setting, Progress, Expanded, Makes, then_make, expanded, expanded_guard}
use Rattle.model_stobjs.specs.Answers.{EventResult, Grants, unless, needing, expanding, first_given}
use Rattle.model_stobjs.specs.Heads.{name_in_use, bad_name}
use Rattle.model_events.specs.Declarations.{items_and_body, formals_of, formals_fault, Declared, declarations}

-- ---- as it is written

pub record WrittenFunction : Type 0 where
  pub name : Object ℕ
  pub formals : List (Object ℕ)
  pub items : List (Object ℕ)  -- of its declarations
  pub body : Object ℕ
  pub executable : Bool

abbrev pub written_of : Bool → Object ℕ → List (Object ℕ) → List (Object ℕ) × Object ℕ → WrittenFunction
written_of executable name formals p = record { name = name; formals = formals; items = p.0; body = p.1; executable = executable }

abbrev pub written_in : Bool → List (Object ℕ) → Option WrittenFunction
written_in executable (name ∷ (formals ∷ os)) =
    option_and_then (λ xs. option_map (written_of executable name xs) (items_and_body os)) (elements formals)
written_in executable os = None

-- what stands behind the head of a definition
abbrev pub written_function : Bool → Object ℕ → Option WrittenFunction
written_function executable d = option_and_then (written_in executable) (elements d)

-- a definition with its head, as it stands in a clique
abbrev pub headed_function : Object ℕ → Option WrittenFunction
headed_function (Integer n) = None
headed_function (Symbol s) = None
headed_function (Text bytes) = None
headed_function (Pair h d) =
    if is defun_word h then written_function true d
    else if is defund_word h then written_function true d
    else if is defun_nx_word h then written_function false d
    else None

abbrev pub at_least_one : {A : Type 0} → List A → Option (List A)
at_least_one [] = None
at_least_one (x ∷ xs) = Some (x ∷ xs)

-- what stands behind the head `MUTUAL-RECURSION`
abbrev pub written_clique : Object ℕ → Option (List WrittenFunction)
written_clique d = option_and_then at_least_one (option_and_then (each headed_function) (elements d))

abbrev pub one_function : Bool → Object ℕ → Option (List WrittenFunction)
one_function executable d = option_map (λ f. f ∷ []) (written_function executable d)

abbrev pub written_functions : ℕ → Object ℕ → Option (List WrittenFunction)
written_functions head d =
    if nat_eq head mutual_recursion_word then written_clique d
    else if nat_eq head defun_nx_word then one_function false d
    else one_function true d

-- ---- names, formals and declarations

pub record Draft : Type 0 where
  pub name : ℕ
  pub formals : List ℕ
  pub declared : Declared
  pub body : Object ℕ
  pub executable : Bool

module _ (symbols : List QualifiedName) where
  abbrev pub draft_of : WrittenFunction → Option Draft
  draft_of f =
      option_map (λ declared. record {
        name = symbol_or_nil f.name;
        formals = formals_of symbols f.formals;
        declared = declared;
        body = f.body;
        executable = f.executable;
      }) (declarations symbols (formals_of symbols f.formals) f.items)

  abbrev pub bad_declaration : WrittenFunction → Option Refusal
  bad_declaration f = if is_some (draft_of f) then None else Some (BadDeclare (symbol_or_nil f.name))

  -- what is wrong before expansion, each step for all functions before the next
  unfoldable pub written_fault : World → List WrittenFunction → Option Refusal
  written_fault w fs =
      option_or (bad_name symbols (map (λ (f : WrittenFunction). f.name) fs))
      (option_or (name_in_use w (map (λ (f : WrittenFunction). symbol_or_nil f.name) fs))
      (option_or (first_given (λ (f : WrittenFunction). formals_fault symbols f.formals) fs) (first_given bad_declaration fs)))

  abbrev pub drafts_of : List WrittenFunction → List Draft
  drafts_of [] = []
  drafts_of (f ∷ fs) = option_map_or (λ d. d ∷ drafts_of fs) (draft_of f) (drafts_of fs)

-- ---- expansion

-- a function with its guard and body, and whether it runs
pub record Candidate : Type 0 where
  pub member : Member
  pub executable : Bool

abbrev pub candidate : Draft → Core → Core → Candidate
candidate d guard body = record {
  member = record { name = d.name; formals = d.formals; stobjs = d.declared.stobjs; guard = guard; body = body };
  executable = d.executable;
}

abbrev pub candidate_expanded : Setting → Draft → Progress → Expanded Candidate
candidate_expanded x d p =
    then_make (expanded_guard x d.declared.guards p) (λ guard after. then_make (expanded x d.body after) (λ body last. Makes (candidate d guard body) last))

-- guard, then body, one function after another
abbrev pub all_expanded : Setting → List Draft → List Candidate → Progress → Expanded (List Candidate)
all_expanded x [] done p = Makes done p
all_expanded x (d ∷ ds) done p = then_make (candidate_expanded x d p) (λ c after. all_expanded x ds (done ++ c ∷ []) after)

-- the world in which functions are expanded: they stand there by their names
abbrev pub with_names : World → List Draft → World
with_names w ds = w ++ map (λ (d : Draft). Named d.name d.formals) ds

-- ---- signatures and rules

abbrev pub ordinary_signature : List ℕ → Signature
ordinary_signature formals = record { ins = map (λ x. Ordinary) formals; outs = Ordinary ∷ [] }

abbrev pub before_rounds : Candidate → Definition
before_rounds c =
    if c.executable then Named c.member.name c.member.formals
    else Signed c.member.name c.member.formals (ordinary_signature c.member.formals) false

abbrev pub running : List Candidate → List Member
running cs = map (λ (c : Candidate). c.member) (filter (λ (c : Candidate). c.executable) cs)

-- the signatures of the functions that run
abbrev pub signatures : World → List Candidate → List (ℕ × Signature)
signatures w cs = zip (map (λ (m : Member). m.name) (running cs)) (clique (w ++ map before_rounds cs) (running cs))

abbrev pub signature_for : List (ℕ × Signature) → Candidate → Signature
signature_for known c = unwrap_or (lookup (nat_eq c.member.name) known) (ordinary_signature c.member.formals)

abbrev pub signed : List (ℕ × Signature) → Candidate → Definition
signed known c = Signed c.member.name c.member.formals (signature_for known c) c.executable

abbrev pub defined : List (ℕ × Signature) → Candidate → Definition
defined known c = Defined (record {
  name = c.member.name;
  formals = c.member.formals;
  signature = signature_for known c;
  guard = c.member.guard;
  body = c.member.body;
  executable = c.executable;
})

abbrev pub members : List Candidate → List Member
members cs = map (λ (c : Candidate). c.member) cs

-- the new entries, once the rules hold
abbrev pub ruled : World → List Candidate → List (ℕ × Signature) → Progress → EventResult World
ruled w cs known p =
    unless (option_map Thread (clique_fault (w ++ map (signed known) cs) 0 (members cs))) (Grants (map (defined known) cs)) p

abbrev pub candidates_then : World → List Candidate → Progress → EventResult World
candidates_then w cs p = ruled w cs (signatures w cs) p

abbrev pub drafts_then : Setting → List Draft → Progress → EventResult World
drafts_then x ds p = expanding (all_expanded (record x { world = with_names x.world ds }) ds [] p) (candidates_then x.world)

abbrev pub functions_then : Setting → List WrittenFunction → Progress → EventResult World
functions_then x fs p = unless (written_fault p.symbols x.world fs) (drafts_then x (drafts_of p.symbols fs)) p

-- the definitions that an event with this head brings
unfoldable pub functions_read : Setting → ℕ → Object ℕ → Progress → EventResult World
functions_read x head d p = needing (written_functions head d) (Expand (BadShape head)) (functions_then x) p
